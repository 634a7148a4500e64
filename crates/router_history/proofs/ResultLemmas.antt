-- What holds of a result holds in a weaker form.
use Rattle.std.proofs.Common.{Option, Some, None, Result, Ok, Err}
use Rattle.std.specs.Prelude.{IfOk, IfErr, IfSome, IfNone}

pub map_ok : {A E : Type 0} (r : Result A E) (P Q : A → Type 0) → ((a : A) → P a → Q a) → IfOk r P → IfOk r Q
map_ok (Ok a) P Q f p = f a p
map_ok (Err e) P Q f p = tt

pub map_err : {A E : Type 0} (r : Result A E) (P Q : E → Type 0) → ((e : E) → P e → Q e) → IfErr r P → IfErr r Q
map_err (Ok a) P Q f p = tt
map_err (Err e) P Q f p = f e p

pub map_some : {A E : Type 0} (r : Result (Option A) E) (P Q : A → Type 0) → ((a : A) → P a → Q a) → IfOk r (λ found. IfSome found P)
    → IfOk r (λ found. IfSome found Q)
map_some (Ok (Some a)) P Q f p = f a p
map_some (Ok None) P Q f p = tt
map_some (Err e) P Q f p = tt

pub map_none : {A E : Type 0} (r : Result (Option A) E) (P Q : Type 0) → (P → Q) → IfOk r (λ found. IfNone found P) → IfOk r (λ found. IfNone found Q)
map_none (Ok (Some a)) P Q f p = tt
map_none (Ok None) P Q f p = f p
map_none (Err e) P Q f p = tt
