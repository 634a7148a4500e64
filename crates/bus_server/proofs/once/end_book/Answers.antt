use Rattle.std.proofs.Common.{ℕ, List, [], ◌∷◌, subst}
use Rattle.turn_book.specs.Rule.{IsUnmade}
use Rattle.router_history.specs.History.{Turn}
use Rattle.router_history.specs.Book.{recorded_in}
use Rattle.router_history.specs.Home.{IsHome}
use Rattle.router_sessions.proofs.DeskLemmas.{maker}
use Rattle.bus_server.proofs.SeatedLemmas.{ended_home, home_leaves}
use Rattle.bus_server.proofs.once.end_book.Goals as goal

pub returns : goal.returns
returns g c = λ start o opened.
    let closed = c.close in
    let home = closed.result.home in
    let unmade : IsUnmade maker 1 (recorded_in closed.result.machine.history) =
    subst (λ (k : ℕ). IsUnmade maker k (recorded_in closed.result.machine.history)) o.made closed.ensures.unmade in
    home_leaves g.D.Disk.calls g.D.Disk.faults (start ∷ []) home _
    (subst (λ (ts : List Turn). IsHome g.D.Disk.calls g.D.Disk.faults ts home) opened
    (ended_home g.D.Disk.calls g.D.Disk.faults closed.result c.args.pass.seat o.number closed.ensures.history unmade closed.ensures.sound o.book))
    c.into_disk.ensures
