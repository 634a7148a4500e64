use Rattle.std.proofs.Common.{◌≡◌, ◌-◌, ◌≤◌, List}
use Rattle.courier_run.specs.Act.{Act, book_acts_in}
use Rattle.courier_run.specs.Link.{Goes, outside}
use Rattle.courier_run.specs.Steps.{Stepping}
use Rattle.courier_run.proofs.delivery.turn.Given as goal

-- the steps so far, and their numbers
abbrev pub invariant-loop-turned : goal.invariant-loop-turned
invariant-loop-turned g l =
    let gave = g.C.Clock.gave in
    let exchanges = g.L.Link.exchanges in
    let faults = g.L.Link.faults in
    (l.turned.attempts ≤ l.budget) × (g.B.DutyBook.lender l.book ≡ g.B.DutyBook.lender l.fn.book) × g.B.DutyBook.sound l.book × g.B.DutyBook.rests l.book
    × ((acts : List (Act g.B.DutyBook.Placed g.B.DutyBook.State)) × g.B.DutyBook.did l.fn.book l.book (book_acts_in acts)
    × Stepping g.B.DutyBook.claims g.B.DutyBook.records g.B.DutyBook.puts_back g.B.DutyBook.breaks g.B.DutyBook.idle g.B.DutyBook.full g.B.DutyBook.broken acts l.turned
    × Goes acts (outside (gave l.fn.clock) (exchanges l.fn.link) (faults l.fn.link)) (outside (gave l.clock) (exchanges l.link) (faults l.link)))

abbrev pub decreases-loop-turned : goal.decreases-loop-turned
decreases-loop-turned g l = l.budget - l.turned.attempts
