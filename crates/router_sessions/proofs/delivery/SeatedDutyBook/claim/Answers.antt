use Rattle.router_sessions.proofs.SeatedLemmas.{claim_found, claim_refused}
use Rattle.router_sessions.proofs.delivery.SeatedDutyBook.claim.Goals as goal

pub returns-clause-sound : goal.returns-clause-sound
returns-clause-sound g c =
    let (seated, calls) = c.requires.sound in
    ((calls.claims _ _ c.args.moment c.claim.result seated c.requires.moment c.requires.rests c.claim.ensures).0, calls)

pub returns-clause-claimed : goal.returns-clause-claimed
returns-clause-claimed g c =
    let (seated, calls) = c.requires.sound in
    claim_found g.N.Naming.seat c.args.moment _ _ c.claim.result
    (calls.claims _ _ c.args.moment c.claim.result seated c.requires.moment c.requires.rests c.claim.ensures).1

pub returns-clause-refused : goal.returns-clause-refused
returns-clause-refused g c =
    let (seated, calls) = c.requires.sound in
    claim_refused g.N.Naming.seat c.args.moment _ _ c.claim.result
    (calls.claims _ _ c.args.moment c.claim.result seated c.requires.moment c.requires.rests c.claim.ensures).1
