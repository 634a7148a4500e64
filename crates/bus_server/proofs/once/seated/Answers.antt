use Rattle.std.proofs.Common.{◌∙◌, List, [], ◌∷◌, inl, inr, map, ap, refl, subst}
use Rattle.turn_book.specs.declared.view.View.{View}
use Rattle.duty_journal.specs.Home.{disk_in}
use Rattle.router_history.specs.declared.book.Book.{Book}
use Rattle.router_history.specs.declared.history.Turn.{Turn as CodeTurn}
use Rattle.router_history.specs.History.{Turn}
use Rattle.router_history.specs.Book.{turn_of}
use Rattle.router_history.specs.Home.{IsHome}
use Rattle.bus_server.proofs.RunLemmas.{faultless, none_begun}
use Rattle.bus_server.proofs.SeatedLemmas.{home_leaves, opener}
use Rattle.bus_server.proofs.once.seated.Goals as goal

pub linked-requires-clause-opener : goal.linked-requires-clause-opener
linked-requires-clause-opener g c κs lives =
    let made = c.in-Ok.ensures.ok in
    opener g.D.Disk.calls g.D.Disk.faults c.args.book c.in-Ok.pass.seat made.3 made.2 c.requires.book c.requires.unmade

pub returns-in-Ok-clause-sits : goal.returns-in-Ok-clause-sits
returns-in-Ok-clause-sits g c = λ start opened.
    c.linked.ensures.sits start (ap (λ (v : View CodeTurn). map turn_of v.seen) c.in-Ok.ensures.ok.3 ∙ opened)

pub returns-in-Err-clause-sits : goal.returns-in-Err-clause-sits
returns-in-Err-clause-sits g c = λ start opened. inr (record {
  why = inl refl;
  unbegun = none_begun _ _ _ _ _ _ _ refl refl;
  left = home_leaves g.D.Disk.calls g.D.Disk.faults (start ∷ []) c.args.book.home _
      (subst (λ (ts : List Turn). IsHome g.D.Disk.calls g.D.Disk.faults ts c.args.book.home) opened c.requires.book.home)
      (c.into_disk.ensures ∙ ap (λ (b : Book _). disk_in b.home) c.in-Err.ensures.err);
  counted = faultless _ _ _ _ _ (λ e. cc) (λ e. cc) refl refl;
})
