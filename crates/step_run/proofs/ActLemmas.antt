-- Lists of acts, put together.
use Rattle.std.proofs.Common.{◌≡◌, ℕ, List, [], ◌++◌, refl, sym, ◌∙◌, ap, append_assoc}
use Rattle.std.proofs.lemmas.Grind.{flat_map-append}
use Rattle.step_run.specs.declared.fault.StepFault.{StepFault}
use Rattle.step_run.specs.Act.{Act, readings_of, readings_in, book_acts_of, book_acts_in}
use Rattle.step_run.specs.Step.{IsRefusal, full_at, broken_at, broken_by, out_of_memory}

module _ {Placed State Other : Type 0} where
  -- the turns and looks of acts, and of later ones
  pub book_acts-append : (xs ys : List (Act Placed State Other)) → book_acts_in (xs ++ ys) ≡ book_acts_in xs ++ book_acts_in ys
  book_acts-append xs ys = flat_map-append book_acts_of xs ys

  -- what a clock gave for acts, and for later ones
  pub gave-append : (a b c : List ℕ) (xs ys : List (Act Placed State Other)) → b ≡ a ++ readings_in xs → c ≡ b ++ readings_in ys
      → c ≡ a ++ readings_in (xs ++ ys)
  gave-append a b c xs ys one two = two ∙ ap (λ r. r ++ readings_in ys) one ∙ append_assoc a (readings_in xs) (readings_in ys)
      ∙ ap (λ r. a ++ r) (sym (flat_map-append readings_of xs ys))

  -- a refusal is made of acts on the book alone
  pub refused_by_book : (breaks : Placed → Type 0) (full broken : State → Type 0) (acts : List (Act Placed State Other)) (fault : StepFault)
      → IsRefusal breaks full broken acts fault → (book_acts_in acts ≡ acts) × (readings_in acts ≡ [])
  refused_by_book breaks full broken acts fault (full_at s is) = (refl, refl)
  refused_by_book breaks full broken acts fault (broken_at s is) = (refl, refl)
  refused_by_book breaks full broken acts fault (broken_by p is) = (refl, refl)
  refused_by_book breaks full broken acts fault (out_of_memory s) = (refl, refl)
