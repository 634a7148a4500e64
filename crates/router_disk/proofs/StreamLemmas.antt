-- What several reads or writes do to known bytes. Callers cite `Consumes-append` and `Appends-append`.
use Rattle.std.proofs.Common.{ℕ, List, [], ◌++◌, sym, ◌∙◌, ap, Option, Some, None, append_assoc, append-nil}
use Rattle.std.specs.Io.KnownBytes.{Keeps, Appends, Consumes}

-- bytes that were read, and then more
pub Consumes-append : (old mid new : Option (List ℕ)) (xs ys : List ℕ) → Consumes old mid xs → Consumes mid new ys → Consumes old new (xs ++ ys)
Consumes-append None mid new xs ys first second = tt
Consumes-append (Some os) None new xs ys first second = absurd first
Consumes-append (Some os) (Some ms) None xs ys first second = absurd second
Consumes-append (Some os) (Some ms) (Some ns) xs ys first second =
    first ∙ ap (λ m. xs ++ m) second ∙ sym (append_assoc xs ys ns)

-- no byte was written
pub Appends-none : (known : Option (List ℕ)) → Appends known known []
Appends-none None = tt
Appends-none (Some xs) = sym (append-nil xs)

pub Appends-Keeps : (old mid new : Option (List ℕ)) (bytes : List ℕ) → Appends old mid bytes → Keeps mid new → Appends old new bytes
Appends-Keeps None mid new bytes first second = tt
Appends-Keeps (Some xs) None new bytes first second = absurd first
Appends-Keeps (Some xs) (Some ys) None bytes first second = absurd second
Appends-Keeps (Some xs) (Some ys) (Some zs) bytes first second = second ∙ first

-- bytes that were written, and then more
pub Appends-append : (old mid new : Option (List ℕ)) (xs ys : List ℕ) → Appends old mid xs → Appends mid new ys → Appends old new (xs ++ ys)
Appends-append None mid new xs ys first second = tt
Appends-append (Some os) None new xs ys first second = absurd first
Appends-append (Some os) (Some ms) None xs ys first second = absurd second
Appends-append (Some os) (Some ms) (Some ns) xs ys first second =
    second ∙ ap (λ m. m ++ ys) first ∙ append_assoc os xs ys
