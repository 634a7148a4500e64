use Rattle.std.proofs.Common.{◌≡◌, ℕ, List, Option, Some, ap}
use Rattle.std.specs.Prelude.{Result, Ok, Err, IfOk}
use Rattle.std.specs.Option.{option_map}
use Rattle.json_text.specs.Tree.{members_of}
use Rattle.json_text.specs.View.{pairs_of}
use Rattle.router_requests.specs.View.{action_of}
use Rattle.router_requests.specs.declared.request.Action.{Action}
use Rattle.api_replies.specs.declared.member.Member.TheVariants as member
use Rattle.api_members.specs.Given.{text_of}
use Rattle.api_members.specs.Value.{bus_of_source}
use Rattle.router_requests.specs.Request as request
use Rattle.api_wire.specs.Call.{creation_in}
use Rattle.api_wire.proofs.call.archives.create_archive.Goals as goal

made : {E : Type 0} (r : Result Action E) (make : List ℕ → request.Action) (o : Option (List ℕ)) (bus : List ℕ) → o ≡ Some bus
    → IfOk r (λ a. make bus ≡ action_of a) → IfOk r (λ a. option_map make o ≡ Some (action_of a))
made (Ok a) make o bus is h = rw is (ap Some h)
made (Err e) make o bus is h = tt

pub returns : goal.returns
returns c =
    let ms = members_of (pairs_of c.args.members.now) in
    let some = rw c.in-Some.is at c.bus_of_source.ensures in
    made c.creation_on.result (creation_in ms) (bus_of_source (text_of member.EventSourceArn ms)) c.in-Some.bus.now some c.creation_on.ensures
