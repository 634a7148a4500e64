use Rattle.std.proofs.Common.{◌≡◌, List, ℕ, length, ap, ◌∙◌, subst, rules}
use Rattle.std.specs.Prelude.{All}
use Rattle.std.proofs.lemmas.Result.{IfOk-weaker}
use Rattle.archive_keep.specs.declared.event_ref.KeptEvent.{KeptEvent}
use Rattle.router_core.specs.Tables.{kept_event}
use Rattle.router_requests.specs.View.{accepted_of}
use Rattle.router_core.proofs.ready.kept.Goals as goal

pub returns : goal.returns
returns c =
    let e = accepted_of c.args.event.now in
    let made : List ℕ → KeptEvent = λ text. record { number = e.number; accepted = c.args.moment; time = e.time; text = text } in
    let is : c.in_ok-first.first ≡ kept_event c.args.moment e = c.in_ok-first.ensures ∙ ap made c.in_ok-text.ensures in
    let many : c.len.result ≡ length e.archives = search rules in
    IfOk-weaker c.copies.result _ _ (λ list h. record {
      each = subst (λ (v : KeptEvent). All (λ k. k ≡ v) list) is h.0;
      number = h.1 ∙ many;
    }) c.copies.ensures
