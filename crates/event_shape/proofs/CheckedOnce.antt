-- A value gives one moment, an entry one record of members and such a record one event:
-- `given_once`, `checked_once`, `made_once`.
use Rattle.std.proofs.Common.{◌≡◌, ℕ, ◌<◌, ◌^◌, inl, inr, List, [], ◌∷◌, ◌++◌, Option, Some, None, sym, refl, ap, ◌∙◌, arith, decimal, unwrap_or}
use Rattle.std.proofs.lemmas.Fmt.{decimal_injective}
use Rattle.std.proofs.lemmas.List.{append-nil}
use Rattle.json_text.specs.Number.{IsFraction}
use Rattle.json_text.specs.Tree.{Tree, null, truth, number, text, list, object}
use Rattle.event_time.proofs.ClockLemmas.{time_once, iso_once}
use Rattle.event_shape.specs.Time.{IsTimeNumber, IsTime}
use Rattle.event_shape.specs.Entry.{Entry}
use Rattle.event_shape.specs.Event.{Event, Checked, IsTimeOf, IsCheckedOf, IsMade}
use Rattle.event_shape.proofs.NumberLemmas.{whole_with_places, minus_number}
use Rattle.event_shape.proofs.OnceLemmas.{same_event}

whole_once : (spelling f g : List ℕ) (n m : ℕ) → n < 2 ^ 64 → m < 2 ^ 64 → IsFraction f → IsFraction g
    → spelling ≡ decimal n ++ f → spelling ≡ decimal m ++ g → decimal n ≡ decimal m
whole_once spelling [] [] n m a b is so e h = sym (append-nil (decimal n)) ∙ sym e ∙ h ∙ append-nil (decimal m)
whole_once spelling f (y ∷ ys) n m a b is so e h =
    sym (whole_with_places spelling (decimal m) ys n (h ∙ ap (λ (d : ℕ). decimal m ++ d ∷ ys) so.0) a (f, is, e)).0
whole_once spelling (x ∷ xs) [] n m a b is so e h =
    (whole_with_places spelling (decimal n) xs m (e ∙ ap (λ (d : ℕ). decimal n ++ d ∷ xs) is.0) b ([], so, h)).0

number_once : (spelling : List ℕ) (n m : ℕ) → n < 2 ^ 64 → m < 2 ^ 64 → IsTimeNumber spelling n → IsTimeNumber spelling m → n ≡ m
number_once spelling n m a b (f, is, inl e) (g, so, inl h) = decimal_injective n m a b (whole_once spelling f g n m a b is so e h)
number_once spelling n m a b (f, is, inr (zeroth, minus)) q = zeroth ∙ sym ((minus_number spelling (decimal 0 ++ f) m minus b).0 q).1
number_once spelling n m a b p (g, so, inr (zeroth, minus)) = ((minus_number spelling (decimal 0 ++ g) n minus a).0 p).1 ∙ sym zeroth

pub given_once : (tree : Tree) (n m : ℕ) → IsTime tree n → IsTime tree m → n ≡ m
given_once null n m p q = absurd p
given_once (truth b) n m p q = absurd p
given_once (number spelling) n m p q = number_once spelling n m (omega (arith, p.0)) (omega (arith, q.0)) p.1 q.1
given_once (text t) n m p q = time_once t n m p.1 q.1
given_once (list inside) n m p q = absurd p
given_once (object inside) n m p q = absurd p

time_of_once : (given : Option Tree) (a b : Option ℕ) → IsTimeOf given a → IsTimeOf given b → a ≡ b
time_of_once None a b p q = p ∙ sym q
time_of_once (Some tree) a b (n, e, p) (m, f, q) = e ∙ ap Some (given_once tree n m p q) ∙ sym f

some_once : {A : Type 0} {o : Option A} {x y : A} → o ≡ Some x → o ≡ Some y → x ≡ y
some_once {x = x} {y = y} e f = let same : Some x ≡ Some y = sym e ∙ f in cc

abbrev checked_from : List ℕ → List ℕ → List (List ℕ) → Option ℕ → Tree → List ℕ → Checked
checked_from s dt r t d b = record { source = s; detail_type = dt; resources = r; time = t; detail = d; bus = b }

same_checked : (c d : Checked) → c.source ≡ d.source → c.detail_type ≡ d.detail_type → c.resources ≡ d.resources
    → c.time ≡ d.time → c.detail ≡ d.detail → c.bus ≡ d.bus → c ≡ d
same_checked c d h0 h1 h2 h3 h4 h5 =
    let whole : checked_from c.source c.detail_type c.resources c.time c.detail c.bus ≡ checked_from d.source d.detail_type d.resources d.time d.detail d.bus =
    rw (h0, h1, h2, h3, h4, h5) refl in
    whole

pub checked_once : (entry : Entry) (c d : Checked) → IsCheckedOf entry c → IsCheckedOf entry d → c ≡ d
checked_once entry c d p q =
    let (bytes, given, detail) = p.detail in
    same_checked c d (some_once p.source q.source) (some_once p.detail_type q.detail_type) (sym p.resources ∙ q.resources)
    (time_of_once entry.time c.time d.time p.time q.time) (q.only bytes c.detail given detail) (some_once p.bus q.bus)

pub made_once : (c : Checked) (n reading : ℕ) (caller : List ℕ) (e f : Event) → IsMade c n reading caller e → IsMade c n reading caller f → e ≡ f
made_once c n reading caller e f p q =
    same_event e f (p.number ∙ sym q.number) (p.detail_type ∙ sym q.detail_type) (p.source ∙ sym q.source) (p.account ∙ sym q.account)
    (iso_once (unwrap_or c.time reading) e.time f.time p.time q.time) (p.resources ∙ sym q.resources) (p.detail ∙ sym q.detail)
