use Rattle.std.proofs.Common.{◌≡◌, ℕ, List, [], ◌∷◌, Result, Err, sym, refl, ◌∙◌, inl, rules}
use Rattle.router_disk.specs.declared.link.LinkFault.{LinkFault}
use Rattle.router_disk.specs.declared.link.LinkFault.TheVariants.{Failed, NoMemory}
use Rattle.router_disk.specs.Link.{planned_from}
use Rattle.router_disk.proofs.memory.link.MemLinkLink.send.Goals as goal

-- the next result is the first one
first : (r : Result ℕ LinkFault) (later : List (Result ℕ LinkFault)) → r ≡ planned_from r later 0
first r [] = refl
first r (s ∷ later) = refl

pub returns-in_ok-remember-in-Ok-clause-plan : goal.returns-in_ok-remember-in-Ok-clause-plan
returns-in_ok-remember-in-Ok-clause-plan c =
    inl (sym c.in-Ok.is ∙ first c.args.self.now.planned c.args.self.now.later.items, λ k. c.move_on.ensures.plan k)

pub returns-in-Err-clause-plan : goal.returns-in-Err-clause-plan
returns-in-Err-clause-plan c =
    let is : c.args.self.now.planned ≡ Err Failed = search rules in
    inl (sym is ∙ first c.args.self.now.planned c.args.self.now.later.items, λ k. c.move_on-in-Err-Failed.ensures.plan k)

pub returns-in-Err-NoMemory-clause-plan : goal.returns-in-Err-NoMemory-clause-plan
returns-in-Err-NoMemory-clause-plan c =
    let is : c.args.self.now.planned ≡ Err NoMemory = search rules in
    inl (sym is ∙ first c.args.self.now.planned c.args.self.now.later.items, λ k. c.move_on-in-Err-NoMemory.ensures.plan k)
