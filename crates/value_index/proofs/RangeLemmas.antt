-- The comparisons of `numeric` are one range: `meets`.
use Rattle.std.proofs.Common.{◌≡◌, ◌↔◌, ℕ, Bool, true, false, cond, List, [], ◌∷◌, arith}
use Rattle.std.specs.Prelude.{ℤ, pos, ◌≤ℤ◌, neg_ℤ, All}
use Rattle.std.specs.List.{AllByRecursion, fold}
use Rattle.std.proofs.lemmas.Int.{ints, clamps}
use Rattle.std.proofs.lemmas.List.Elements.{recursion_from_All, All-from_recursion}
use Rattle.numeric_keys.specs.Number.{IsMillionths}
use Rattle.pattern_meaning.specs.declared.comparison.Operator.{Operator}
use Rattle.pattern_meaning.specs.declared.comparison.Operator.TheVariants.{Equal, Less, AtMost, Greater, AtLeast}
use Rattle.pattern_meaning.specs.declared.comparison.Comparison.{Comparison}
use Rattle.pattern_meaning.specs.Holds.{Compares}
use Rattle.value_index.specs.Range.{narrowed_by, narrowed, least, greatest, range_of}

abbrev pub Within : ℤ → ℤ × ℤ → Type 0
Within m range = (range.0 ≤ℤ m) × (m ≤ℤ range.1)

abbrev Compare : ℤ → Comparison → Type 0
Compare m c = Compares c.operator m c.bound

narrow : (o : Operator) (bound m : ℤ) (range : ℤ × ℤ) → least ≤ℤ m → m ≤ℤ greatest → Compares o m bound → Within m range → Within m (narrowed_by o bound range)
narrow Equal bound m range low high h w = (omega (arith, ints, clamps, h, w.0), omega (arith, ints, clamps, h, w.1))
narrow Less bound m range low high h w = (w.0, omega (arith, ints, clamps, h, low, w.1))
narrow AtMost bound m range low high h w = (w.0, omega (arith, ints, clamps, h, w.1))
narrow Greater bound m range low high h w = (omega (arith, ints, clamps, h, high, w.0), w.1)
narrow AtLeast bound m range low high h w = (omega (arith, ints, clamps, h, w.0), w.1)

widen : (o : Operator) (bound m : ℤ) (range : ℤ × ℤ) → least ≤ℤ m → m ≤ℤ greatest → Within m (narrowed_by o bound range) → Compares o m bound × Within m range
widen Equal bound m range low high w = (omega (arith, ints, clamps, w.0, w.1), (omega (arith, ints, clamps, w.0), omega (arith, ints, clamps, w.1)))
widen Less bound m range low high w = (omega (arith, ints, clamps, low, w.1), (w.0, omega (arith, ints, clamps, w.1)))
widen AtMost bound m range low high w = (omega (arith, ints, clamps, w.1), (w.0, omega (arith, ints, clamps, w.1)))
widen Greater bound m range low high w = (omega (arith, ints, clamps, high, w.0), (omega (arith, ints, clamps, w.0), w.1))
widen AtLeast bound m range low high w = (omega (arith, ints, clamps, w.0), (omega (arith, ints, clamps, w.0), w.1))

within : (m : ℤ) (range : ℤ × ℤ) (cs : List Comparison) → least ≤ℤ m → m ≤ℤ greatest → Within m range → AllByRecursion (Compare m) cs
    → Within m (fold narrowed range cs)
within m range [] low high w h = w
within m range (c ∷ cs) low high w h = within m (narrowed range c) cs low high (narrow c.operator c.bound m range low high h.0 w) h.1

compared : (m : ℤ) (range : ℤ × ℤ) (cs : List Comparison) → least ≤ℤ m → m ≤ℤ greatest → Within m (fold narrowed range cs)
    → Within m range × AllByRecursion (Compare m) cs
compared m range [] low high w = (w, tt)
compared m range (c ∷ cs) low high w =
    let rest = compared m (narrowed range c) cs low high w in
    let first = widen c.operator c.bound m range low high rest.0 in
    (first.1, (first.0, rest.1))

millionths_within : (t : List ℕ) (m : ℤ) → IsMillionths t m → Within m (least, greatest)
millionths_within t m h = go h.parts.negative h.signed
  where
    go : (b : Bool) → m ≡ cond b (neg_ℤ (pos h.size)) (pos h.size) → Within m (least, greatest)
    go true e = (omega (arith, ints, h.within, e), omega (arith, ints, h.within, e))
    go false e = (omega (arith, ints, h.within, e), omega (arith, ints, h.within, e))

pub meets : (t : List ℕ) (m : ℤ) (cs : List Comparison) → IsMillionths t m → Within m (range_of cs) ↔ All (Compare m) cs
meets t m cs is =
    let all = millionths_within t m is in (
      λ w. All-from_recursion (Compare m) cs (compared m (least, greatest) cs all.0 all.1 w).1,
      λ h. within m (least, greatest) cs all.0 all.1 all (recursion_from_All (Compare m) cs h),
    )
