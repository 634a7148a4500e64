use Rattle.std.proofs.Common.{◌≡◌, ◌≢◌, Bool, [], MatchBool, sym, ◌∙◌, subst}
use Rattle.replay_run.specs.Replays.{running}
use Rattle.router_core.specs.Tables.{Tables}
use Rattle.router_history.proofs.RepeatLemmas.{none_running, repeat_limited, repeat_unkept}
use Rattle.router_history.proofs.SoundLemmas.{broken_book}
use Rattle.router_history.proofs.book.Book.step.Goals as goal

-- what `is_idle` found
abbrev Found : Tables → Bool → Type 0
Found t b = MatchBool b (running t.replays ≡ []) (running t.replays ≢ [])

pub append_step-requires-clause-some : goal.append_step-requires-clause-some
append_step-requires-clause-some g c κs lives = subst (Found c.args.self.now.machine.tables) c.if-is_idle.false c.is_idle.ensures

pub append_step-requires-clause-numbered : goal.append_step-requires-clause-numbered
append_step-requires-clause-numbered g c κs lives = sym c.full.ensures.full ∙ c.if-full.false

pub append_step-requires-clause-unbroken : goal.append_step-requires-clause-unbroken
append_step-requires-clause-unbroken g c κs lives = sym c.is_broken.ensures ∙ c.if-is_broken.false

pub returns-then-is_idle-clause-none : goal.returns-then-is_idle-clause-none
returns-then-is_idle-clause-none g c =
    none_running c.args.seat c.args.self.now.machine c.args.reading c.requires.book.kept (subst (Found c.args.self.now.machine.tables) c.if-is_idle.true c.is_idle.ensures)

pub returns-then-full-clause-refused : goal.returns-then-full-clause-refused
returns-then-full-clause-refused g c =
    repeat_limited c.args.seat c.args.self.now.machine c.args.reading c.requires.book.kept (sym c.full.ensures.full ∙ c.if-full.true)
    (subst (Found c.args.self.now.machine.tables) c.if-is_idle.false c.is_idle.ensures)

pub returns-then-is_broken-clause-refused : goal.returns-then-is_broken-clause-refused
returns-then-is_broken-clause-refused g c =
    repeat_unkept c.args.seat c.args.self.now.machine c.args.reading c.requires.book.kept
    (broken_book g.D.Disk.calls g.D.Disk.faults c.args.self.now c.requires.book (sym c.is_broken.ensures ∙ c.if-is_broken.true))
    (sym c.full.ensures.full ∙ c.if-full.false)
    (subst (Found c.args.self.now.machine.tables) c.if-is_idle.false c.is_idle.ensures)
