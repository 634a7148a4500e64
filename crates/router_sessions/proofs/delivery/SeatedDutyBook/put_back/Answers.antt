use Rattle.router_history.specs.Held.{held_claim}
use Rattle.router_sessions.proofs.SeatedLemmas.{back_did}
use Rattle.router_sessions.proofs.delivery.SeatedDutyBook.put_back.Goals as goal

pub returns-clause-sound : goal.returns-clause-sound
returns-clause-sound g c =
    let (seated, calls) = c.requires.sound in
    ((calls.puts_back _ _ c.args.held seated c.requires.holds c.requires.needed c.put_back.ensures).0, calls)

pub returns-clause-rests : goal.returns-clause-rests
returns-clause-rests g c =
    let (seated, calls) = c.requires.sound in
    (calls.puts_back _ _ c.args.held seated c.requires.holds c.requires.needed c.put_back.ensures).1

pub returns-clause-put_back : goal.returns-clause-put_back
returns-clause-put_back g c =
    let (seated, calls) = c.requires.sound in
    back_did g.N.Naming.seat (held_claim c.args.held) _ _
    (calls.puts_back _ _ c.args.held seated c.requires.holds c.requires.needed c.put_back.ensures).2
