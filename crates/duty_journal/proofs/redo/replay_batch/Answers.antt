use Rattle.std.proofs.Common.{List, map, ap, sym, subst}
use Rattle.router_requests.specs.View.{batch_of, entry_of}
use Rattle.router_core.specs.Admitted.{AreAdmitted, AreOfOneTurn, IsAdmitted}
use Rattle.router_core.specs.Ready.{ArePartsOf, AreMadeOn}
use Rattle.router_requests.specs.declared.batch.Batch.{Batch}
use Rattle.router_requests.specs.declared.batch.Entry.{Entry}
use Rattle.router_core.specs.declared.ready.Part.{Part}
use Rattle.duty_journal.specs.declared.redo.Plan.{Plan}
use Rattle.duty_journal.specs.Redo.{IsPlanOf}
use Rattle.duty_journal.proofs.redo.replay_batch.Goals as goal

pub returns-in-Parts-clause-ready : goal.returns-in-Parts-clause-ready
returns-in-Parts-clause-ready c =
    let t = c.args.tables.now in
    let b = c.args.batch in
    let ok = c.in-Ok.ensures.ok in
    let value = c.deref.ensures.value in
    let time = c.is_on_time.ensures.on_time.0 c.if-not-is_on_time.false in
    let admitted : IsAdmitted t (batch_of b) = record {
      moment = time.0;
      later = time.1;
      numbered = time.2;
      one_turn = subst (λ (es : List Entry). AreOfOneTurn (map entry_of es)) value ok.0;
      entries = subst (λ (es : List Entry). AreAdmitted b.moment (map entry_of es) t) value ok.1;
    } in
    let parts = subst (λ (p : Plan). IsPlanOf t b.moment (map entry_of c.deref.result.now) p) c.in-Parts.is ok.2 in
    let Own : List Entry → Type 0 = λ es. ArePartsOf b.moment t.set (map entry_of es) c.in-Parts.parts.items × AreMadeOn b.moment t (map entry_of es) c.in-Parts.parts.items in
    let own = subst Own value parts in
    let whole = ap batch_of c.new.ensures.batch in (
      (
        record {
          admitted = subst (IsAdmitted t) (sym whole) admitted;
          prepared = subst
              (λ (ps : List Part). ArePartsOf c.new.result.batch.moment t.set (batch_of c.new.result.batch).entries ps
              × AreMadeOn c.new.result.batch.moment t (batch_of c.new.result.batch).entries ps) (sym c.new.ensures.parts)
              (subst
              (λ (o : Batch). ArePartsOf o.moment t.set (batch_of o).entries c.in-Parts.parts.items
              × AreMadeOn o.moment t (batch_of o).entries c.in-Parts.parts.items) (sym c.new.ensures.batch) own);
        },
        whole,
      ),
      admitted,
    )
