-- Heights: what a lift makes of them, and what is known of a fork once a side has changed.
use Rattle.std.proofs.Common.{◌≡◌, ℕ, ◌+◌, ◌^◌, ◌<◌, ◌≤◌, max, ◌∷◌, [], length, length-append, Box, refl, ap, sym, ◌∙◌, subst, arith}
use Rattle.key_tree.specs.Subtree.{entries, entry_of, height_of, height_over, IsFork, LiftsLower, LiftsUpper}
use Rattle.key_tree.specs.Balance.{DifferByAtMost, IsAvl, IsAvlFork, AreReady, IsLowerReady, IsUpperReady, BalancesTo, Grows, Shrinks}
use Rattle.key_tree.specs.declared.subtree.Subtree.{Subtree, Empty, Full'}
use Rattle.key_tree.specs.declared.subtree.Subtree.TheVariants.{Full}
use Rattle.std.specs.declared.alloc.Global.{Global}
use Rattle.key_tree.specs.declared.subtree.Fork.{Fork}

pub height-le-length : {V : Type 0} (t : Subtree V) → IsAvl t → height_of t ≤ length (entries t)
height-le-length Empty a = omega arith
height-le-length (Full' p key value height lower upper) a =
    let is = a.0 in
    omega (arith, is, height-le-length lower a.2, height-le-length upper a.3, length-append (entries lower) ((key, value) ∷ entries upper))

fork_avl : {V : Type 0} (t : Subtree V) (e : ℕ × V) (n : ℕ) (l u : Subtree V) → IsFork t e n l u → n ≡ max (height_of l) (height_of u) + 1
    → DifferByAtMost 1 (height_of l) (height_of u) → IsAvl l → IsAvl u → IsAvl t × (height_of t ≡ n)
fork_avl Empty e n l u b m d x y = absurd b
fork_avl (Full' p key value height lower upper) e n l u b m d x y =
    let h = b.1 in
    let lower_is = b.2 in
    let upper_is = b.3 in
    (rw (lower_is, upper_is) (h ∙ m, d, x, y), h)

-- a lower side of height n, two more than the upper one, is at the top
pub lifted_lower : {V : Type 0} (t : Subtree V) (old new : Fork V) (n : ℕ) → LiftsLower t old new → IsLowerReady n t → IsAvl old.upper
    → height_of old.upper + 2 ≡ n → n < 2 ^ 63 → IsAvlFork new × (n ≤ new.height) × (new.height ≤ n + 1)
lifted_lower Empty old new n lift r a e small = absurd r
lifted_lower (Full' p key value height l u) old new n lift r a e small =
    let far = r.2 in
    let near = r.3 in
    let near2 = r.4 in
    let over : height_over u old.upper ≡ max (height_of u) (height_of old.upper) + 1 = omega arith in
    let close : DifferByAtMost 1 (height_of u) (height_of old.upper) = (omega arith, omega arith) in
    let under = fork_avl new.upper (entry_of old) (height_over u old.upper) u old.upper lift.2 over close r.1 a in
    let lower = ap height_of lift.1 in
    let upper = under.1 in
    let is = lift.3 in
    ((omega arith, (omega arith, omega arith), subst IsAvl (sym lift.1) r.0, under.0), omega arith, omega arith)

pub lifted_upper : {V : Type 0} (t : Subtree V) (old new : Fork V) (n : ℕ) → LiftsUpper t old new → IsUpperReady n t → IsAvl old.lower
    → height_of old.lower + 2 ≡ n → n < 2 ^ 63 → IsAvlFork new × (n ≤ new.height) × (new.height ≤ n + 1)
lifted_upper Empty old new n lift r a e small = absurd r
lifted_upper (Full' p key value height l u) old new n lift r a e small =
    let far = r.2 in
    let near = r.3 in
    let near2 = r.4 in
    let over : height_over old.lower l ≡ max (height_of old.lower) (height_of l) + 1 = omega arith in
    let close : DifferByAtMost 1 (height_of old.lower) (height_of l) = (omega arith, omega arith) in
    let under = fork_avl new.lower (entry_of old) (height_over old.lower l) old.lower l lift.2 over close a r.1 in
    let upper = ap height_of lift.1 in
    let lower = under.1 in
    let is = lift.3 in
    ((omega arith, (omega arith, omega arith), under.0, subst IsAvl (sym lift.1) r.0), omega arith, omega arith)

-- a side is ready to be lifted, if its own near side was higher and was lifted
pub lower_lifts : {V : Type 0} (t : Subtree V) (old new : Fork V) → LiftsUpper t old new → old.upper ≡ t → IsAvlFork old
    → height_of old.lower < height_of old.upper → old.height < 2 ^ 63 → AreReady old.height new.lower new.upper
lower_lifts Empty old new lift e a lt small = let none = ap height_of e in absurd (omega arith)
lower_lifts (Full' p key value height l u) old new lift e a lt small =
    let side = subst IsAvl e a.3 in
    let old_is = a.0 in
    let old_close = a.1.1 in
    let side_is = side.0 in
    let side_close = side.1.0 in
    let side_close2 = side.1.1 in
    let top = ap height_of e in
    let over : height_over old.lower l ≡ max (height_of old.lower) (height_of l) + 1 = omega arith in
    let close : DifferByAtMost 1 (height_of old.lower) (height_of l) = (omega arith, omega arith) in
    let under = fork_avl new.lower (entry_of old) (height_over old.lower l) old.lower l lift.2 over close a.2 side.2 in
    let lower = under.1 in
    let upper = ap height_of lift.1 in
    (under.0, subst IsAvl (sym lift.1) side.3, omega arith, omega arith, omega arith)

pub upper_lifts : {V : Type 0} (t : Subtree V) (old new : Fork V) → LiftsLower t old new → old.lower ≡ t → IsAvlFork old
    → height_of old.upper < height_of old.lower → old.height < 2 ^ 63 → AreReady old.height new.upper new.lower
upper_lifts Empty old new lift e a lt small = let none = ap height_of e in absurd (omega arith)
upper_lifts (Full' p key value height l u) old new lift e a lt small =
    let side = subst IsAvl e a.2 in
    let old_is = a.0 in
    let old_close = a.1.0 in
    let side_is = side.0 in
    let side_close = side.1.0 in
    let side_close2 = side.1.1 in
    let top = ap height_of e in
    let over : height_over u old.upper ≡ max (height_of u) (height_of old.upper) + 1 = omega arith in
    let close : DifferByAtMost 1 (height_of u) (height_of old.upper) = (omega arith, omega arith) in
    let under = fork_avl new.upper (entry_of old) (height_over u old.upper) u old.upper lift.2 over close side.3 a.3 in
    let upper = under.1 in
    let lower = ap height_of lift.1 in
    (under.0, subst IsAvl (sym lift.1) side.2, omega arith, omega arith, omega arith)

-- a side of a fork grew or shrank by at most one level, and then the fork was balanced
pub grows_lower : {V : Type 0} (n l l' u : ℕ) (new : Fork V) → n ≡ max l u + 1 → DifferByAtMost 1 l u → l ≤ l' → l' ≤ l + 1
    → BalancesTo l' u new → (n ≤ new.height) × (new.height ≤ n + 1)
grows_lower n l l' u new e d a b t =
    let d1 = d.0 in
    let d2 = d.1 in
    let t1 = t.1 in
    let t2 = t.2 in
    let t3 = t.3 in
    (grind arith, grind arith)

pub grows_upper : {V : Type 0} (n l u u' : ℕ) (new : Fork V) → n ≡ max l u + 1 → DifferByAtMost 1 l u → u ≤ u' → u' ≤ u + 1
    → BalancesTo l u' new → (n ≤ new.height) × (new.height ≤ n + 1)
grows_upper n l u u' new e d a b t =
    let d1 = d.0 in
    let d2 = d.1 in
    let t1 = t.1 in
    let t2 = t.2 in
    let t3 = t.3 in
    (grind arith, grind arith)

pub shrinks_lower : {V : Type 0} (n l l' u : ℕ) (new : Fork V) → n ≡ max l u + 1 → DifferByAtMost 1 l u → l' ≤ l → l ≤ l' + 1
    → BalancesTo l' u new → (new.height ≤ n) × (n ≤ new.height + 1)
shrinks_lower n l l' u new e d a b t =
    let d1 = d.0 in
    let d2 = d.1 in
    let t1 = t.1 in
    let t2 = t.2 in
    let t3 = t.3 in
    (grind arith, grind arith)

pub shrinks_upper : {V : Type 0} (n l u u' : ℕ) (new : Fork V) → n ≡ max l u + 1 → DifferByAtMost 1 l u → u' ≤ u → u ≤ u' + 1
    → BalancesTo l u' new → (new.height ≤ n) × (n ≤ new.height + 1)
shrinks_upper n l u u' new e d a b t =
    let d1 = d.0 in
    let d2 = d.1 in
    let t1 = t.1 in
    let t2 = t.2 in
    let t3 = t.3 in
    (grind arith, grind arith)

-- what is known of a balanced tree that is not empty: `here` is its fork
pub record HasAvlSides {V : Type 0} (tree : Subtree V) (here : Fork V) : Type 0 where
  pub height : height_of tree ≡ max (height_of here.lower) (height_of here.upper) + 1
  pub close : DifferByAtMost 1 (height_of here.lower) (height_of here.upper)
  pub lower : IsAvl here.lower
  pub upper : IsAvl here.upper
  pub below : height_of here.lower ≤ length (entries here.lower)
  pub above : height_of here.upper ≤ length (entries here.upper)
  pub size : length (entries tree) ≡ length (entries here.lower) + (length (entries here.upper) + 1)

pub avl_sides : {V : Type 0} (tree : Subtree V) (top : Box (Fork V) Global) (here : Fork V) → tree ≡ Full top → here ≡ top.value → IsAvl tree
    → HasAvlSides tree here
avl_sides tree top here is e a =
    let avl = subst IsAvl is a in
    let t = top.value in
    subst (HasAvlSides tree) (sym e) (record {
      height = ap height_of is ∙ avl.0;
      close = avl.1;
      lower = avl.2;
      upper = avl.3;
      below = height-le-length t.lower avl.2;
      above = height-le-length t.upper avl.3;
      size = omega (arith, ap (λ x. length (entries x)) is, length-append (entries t.lower) (entry_of t ∷ entries t.upper));
    })

-- a side changed by at most one level, and the fork was balanced by the clause `balanced`
pub grown_lower : {V : Type 0} (tree new : Subtree V) (here after : Fork V) → HasAvlSides tree here → length (entries tree) < 2 ^ 63
    → Grows (height_of here.lower) new
    → (IsAvl new → IsAvl here.upper → DifferByAtMost 2 (height_of new) (height_of here.upper) → max (height_of new) (height_of here.upper) < 2 ^ 63
    → BalancesTo (height_of new) (height_of here.upper) after)
    → IsAvlFork after × (height_of tree ≤ after.height) × (after.height ≤ height_of tree + 1)
grown_lower tree new here after s small g f =
    let size = s.size in
    let below = s.below in
    let above = s.above in
    let close1 = s.close.0 in
    let close2 = s.close.1 in
    let from = g.1 in
    let to = g.2 in
    let all = f g.0 s.upper (omega arith, omega arith) (omega arith) in
    let heights = grows_lower (height_of tree) (height_of here.lower) (height_of new) (height_of here.upper) after s.height s.close from to all in
    (all.0, heights.0, heights.1)

pub grown_upper : {V : Type 0} (tree new : Subtree V) (here after : Fork V) → HasAvlSides tree here → length (entries tree) < 2 ^ 63
    → Grows (height_of here.upper) new
    → (IsAvl here.lower → IsAvl new → DifferByAtMost 2 (height_of here.lower) (height_of new) → max (height_of here.lower) (height_of new) < 2 ^ 63
    → BalancesTo (height_of here.lower) (height_of new) after)
    → IsAvlFork after × (height_of tree ≤ after.height) × (after.height ≤ height_of tree + 1)
grown_upper tree new here after s small g f =
    let size = s.size in
    let below = s.below in
    let above = s.above in
    let close1 = s.close.0 in
    let close2 = s.close.1 in
    let from = g.1 in
    let to = g.2 in
    let all = f s.lower g.0 (omega arith, omega arith) (omega arith) in
    let heights = grows_upper (height_of tree) (height_of here.lower) (height_of here.upper) (height_of new) after s.height s.close from to all in
    (all.0, heights.0, heights.1)

pub shrunk_lower : {V : Type 0} (tree new : Subtree V) (here after : Fork V) → HasAvlSides tree here → length (entries tree) < 2 ^ 63
    → Shrinks (height_of here.lower) new
    → (IsAvl new → IsAvl here.upper → DifferByAtMost 2 (height_of new) (height_of here.upper) → max (height_of new) (height_of here.upper) < 2 ^ 63
    → BalancesTo (height_of new) (height_of here.upper) after)
    → IsAvlFork after × (after.height ≤ height_of tree) × (height_of tree ≤ after.height + 1)
shrunk_lower tree new here after s small g f =
    let size = s.size in
    let below = s.below in
    let above = s.above in
    let close1 = s.close.0 in
    let close2 = s.close.1 in
    let to = g.1 in
    let from = g.2 in
    let all = f g.0 s.upper (omega arith, omega arith) (omega arith) in
    let heights = shrinks_lower (height_of tree) (height_of here.lower) (height_of new) (height_of here.upper) after s.height s.close to from all in
    (all.0, heights.0, heights.1)

pub shrunk_upper : {V : Type 0} (tree new : Subtree V) (here after : Fork V) → HasAvlSides tree here → length (entries tree) < 2 ^ 63
    → Shrinks (height_of here.upper) new
    → (IsAvl here.lower → IsAvl new → DifferByAtMost 2 (height_of here.lower) (height_of new) → max (height_of here.lower) (height_of new) < 2 ^ 63
    → BalancesTo (height_of here.lower) (height_of new) after)
    → IsAvlFork after × (after.height ≤ height_of tree) × (height_of tree ≤ after.height + 1)
shrunk_upper tree new here after s small g f =
    let size = s.size in
    let below = s.below in
    let above = s.above in
    let close1 = s.close.0 in
    let close2 = s.close.1 in
    let to = g.1 in
    let from = g.2 in
    let all = f s.lower g.0 (omega arith, omega arith) (omega arith) in
    let heights = shrinks_upper (height_of tree) (height_of here.lower) (height_of here.upper) (height_of new) after s.height s.close to from all in
    (all.0, heights.0, heights.1)

-- if no entry is before the one of the fork, the other side is left
pub only_upper : {V : Type 0} (tree new : Subtree V) (here : Fork V) → HasAvlSides tree here → entries here.lower ≡ [] → new ≡ here.upper
    → Shrinks (height_of tree) new
only_upper tree new here s none e =
    let height = s.height in
    let below = s.below in
    let close = s.close.1 in
    let same = ap height_of e in
    let empty = ap length none in
    (subst IsAvl (sym e) s.upper, omega arith, omega arith)

-- the first entry of the upper side was put on top of both sides
pub joined_sides : {V : Type 0} (lower side upper new : Subtree V) (after : Fork V) → side ≡ lower → length (entries lower) + length (entries upper) < 2 ^ 63
    → IsAvl lower → IsAvl upper → DifferByAtMost 1 (height_of lower) (height_of upper) → Shrinks (height_of upper) new
    → (IsAvl side → IsAvl new → DifferByAtMost 2 (height_of side) (height_of new) → max (height_of side) (height_of new) < 2 ^ 63
    → BalancesTo (height_of side) (height_of new) after)
    → IsAvlFork after × (max (height_of lower) (height_of upper) ≤ after.height) × (after.height ≤ max (height_of lower) (height_of upper) + 1)
joined_sides lower side upper new after e small x y d g f =
    let balanced = subst (λ t. IsAvl t → IsAvl new → DifferByAtMost 2 (height_of t) (height_of new) → max (height_of t) (height_of new) < 2 ^ 63
    → BalancesTo (height_of t) (height_of new) after) e f in
    let below = height-le-length lower x in
    let above = height-le-length upper y in
    let close1 = d.0 in
    let close2 = d.1 in
    let to = g.1 in
    let from = g.2 in
    let all = balanced x g.0 (omega arith, omega arith) (omega arith) in
    let heights = shrinks_upper (max (height_of lower) (height_of upper) + 1) (height_of lower) (height_of upper) (height_of new) after refl d to from all in
    let most = heights.0 in
    let least = heights.1 in
    (all.0, omega arith, omega arith)
