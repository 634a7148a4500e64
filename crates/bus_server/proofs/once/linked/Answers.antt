use Rattle.std.proofs.Common.{inl, inr, refl}
use Rattle.bus_server.proofs.RunLemmas.{faultless, none_begun}
use Rattle.bus_server.proofs.SeatedLemmas.{run_seated}
use Rattle.bus_server.proofs.once.linked.Goals as goal

pub returns-in-Ok-clause-sits : goal.returns-in-Ok-clause-sits
returns-in-Ok-clause-sits g c = λ start opened.
    let h = g.H.Host in
    let l = c.in-Ok.ensures in let b = c.back_link.ensures in
    let old = c.args.host.now in let mid = c.link.new.self in let new = c.back_link.new.self in
    inl (run_seated g.D.Disk.calls g.D.Disk.faults g.H.Link.Link.exchanges g.H.Link.Link.faults _ start c.args.now _ _ _ _ _ _ (h.links_given old) (h.links_given mid) (h.links_given new)
    (h.links_back old) (h.links_back mid) (h.links_back new) c.in-Ok.link c.clocked-ended.new.link c.clocked-ended.result.disk c.clocked-ended.result.status l.given b.given l.back b.back
    (c.clocked-ended.ensures.runs start opened))

pub returns-in-Err-Failed-clause-sits : goal.returns-in-Err-Failed-clause-sits
returns-in-Err-Failed-clause-sits g c = λ start opened. inr (record {
  why = inr refl;
  unbegun = none_begun _ _ _ _ _ _ _ c.in-Err-Failed.ensures.given c.link.ensures.back;
  left = c.end_book.ensures start c.requires.opener opened;
  counted = faultless _ _ _ _ _ (λ e. cc) (λ e. cc) refl refl;
})

pub returns-in-Err-NoMemory-clause-sits : goal.returns-in-Err-NoMemory-clause-sits
returns-in-Err-NoMemory-clause-sits g c = λ start opened. inr (record {
  why = inl refl;
  unbegun = none_begun _ _ _ _ _ _ _ c.in-Err-NoMemory.ensures.given c.link.ensures.back;
  left = c.end_book-in-Err-NoMemory.ensures start c.requires.opener opened;
  counted = faultless _ _ _ _ _ (λ e. cc) (λ e. cc) refl refl;
})
