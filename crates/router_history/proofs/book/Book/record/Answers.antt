use Rattle.std.proofs.Common.{sym, ap, ◌∙◌}
use Rattle.router_core.specs.Tables.{is_full}
use Rattle.router_history.specs.Held.{held_claim}
use Rattle.router_history.specs.Book.{turns_of}
use Rattle.router_history.proofs.BreakLemmas.{unkept_before}
use Rattle.router_history.proofs.RecordLemmas.{limited_record}
use Rattle.router_history.proofs.SoundLemmas.{broken_book}
use Rattle.router_history.proofs.book.Book.record.Goals as goal

pub put_back-requires-clause-reason : goal.put_back-requires-clause-reason
put_back-requires-clause-reason g c κs lives = ap (λ t. is_full t) c.requires.book.kept.tables ∙ sym c.full.ensures.full ∙ c.if-full.true

pub put_back-requires-then-is_broken-clause-reason : goal.put_back-requires-then-is_broken-clause-reason
put_back-requires-then-is_broken-clause-reason g c κs lives = (
  broken_book g.D.Disk.calls g.D.Disk.faults c.args.self.now c.requires.book (sym c.is_broken.ensures ∙ c.if-is_broken.true),
  ap (λ t. is_full t) c.requires.book.kept.tables ∙ sym c.full.ensures.full ∙ c.if-full.false,
)

pub returns-then-full-clause-refused : goal.returns-then-full-clause-refused
returns-then-full-clause-refused g c =
    limited_record c.args.seat (held_claim c.args.held) c.args.outcome (turns_of c.args.self.now.machine) (turns_of c.put_back.new.self.machine) c.put_back.ensures.put_back

pub returns-then-is_broken-clause-refused : goal.returns-then-is_broken-clause-refused
returns-then-is_broken-clause-refused g c =
    unkept_before c.args.seat (held_claim c.args.held) c.args.outcome (turns_of c.args.self.now.machine) (turns_of c.put_back-then-is_broken.new.self.machine)
    c.put_back-then-is_broken.ensures.put_back
