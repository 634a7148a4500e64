use Rattle.std.proofs.Common.{◌≡◌, List, [], ◌∷◌, ◌++◌, refl, sym, subst}
use Rattle.router_history.specs.History.{Turn}
use Rattle.router_history.specs.Book.{Rests}
use Rattle.router_sessions.specs.Desk.{turns_seen}
use Rattle.router_sessions.proofs.DeskLemmas.{same_again}
use Rattle.drill_requests.specs.Messages.{drill_messages}
use Rattle.drill_run.specs.Drill.{LeadTo, begun, more}
use Rattle.drill_run.proofs.DrillLemmas.{next_message}
use Rattle.drill_run.proofs.run.load.Goals as goal

pub messages-init : goal.messages-init
messages-init g c = record {
  same = (refl, refl, refl, refl);
  free = c.requires.free;
  rests = subst (λ (ts : List Turn). Rests 0 ts) (sym c.requires.opener.1) refl;
  loaded = ([], c.new-messages.ensures, subst (LeadTo []) (sym c.requires.opener.1) begun);
}

pub messages-preserved : goal.messages-preserved
messages-preserved g c =
    let (done, is, lead) = c.messages.invariant.loaded in
    let message = c.in-Some.message.items in
    record {
      same = same_again c.args.pass.now.seat c.messages.pass.seat c.reply_to.new.pass.seat c.messages.invariant.same c.in-Some-reply_to.ensures.pass.0;
      free = c.in-Some-reply_to.ensures.pass.1;
      rests = c.in-Some-reply_to.ensures.rests;
      loaded = (
        done ++ message ∷ [],
        next_message (λ bytes. bytes.items) c.in-Ok.next c.in-Some.message done c.messages.messages c.next.new.self (drill_messages c.args.seed c.args.events)
            c.in-Some.is c.in-Ok.ensures.first c.in-Ok.ensures.rest is,
        more done message c.in-Some-reply_to._reply.bytes (turns_seen c.messages.pass.seat) (turns_seen c.reply_to.new.pass.seat) lead c.in-Some-reply_to.ensures.reply,
      );
    }
