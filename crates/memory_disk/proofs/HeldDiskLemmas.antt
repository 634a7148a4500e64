-- A disk in memory: one more call, on the disk and on a crash of it.
use Rattle.std.proofs.Common.{◌≡◌, ℕ, ◌+◌, ◌^◌, ◌<◌, ◌≤◌, List, [], ◌∷◌, ◌++◌, length, take, drop, Option, Some, None, Result, Ok, Err, IfSome, IfOk, OnOk}
use Rattle.std.proofs.Common.{refl, sym, ap, subst, ◌∙◌, arith, append_assoc, map}
use Rattle.std.specs.Prelude.{⊤}
use Rattle.std.proofs.lemmas.List.{append-nil, map-append, take_all}
use Rattle.router_disk.specs.declared.disk_call.DiskCall.{DiskCall}
use Rattle.router_disk.specs.declared.disk_call.DiskCall.TheVariants.{Size, Read, Write, Cut, Sync}
use Rattle.router_disk.specs.declared.fault.Failed.{Failed}
use Rattle.memory_disk.specs.declared.image.Left.{Left}
use Rattle.memory_disk.specs.declared.tape.Kept.{Kept}
use Rattle.router_disk.specs.Disk.{overwritten, file_after, file_from, file_of, IsAnswer, AreAnswersFrom, Torn, images_after, IsImage, Shortened}
use Rattle.memory_disk.specs.HeldDisk.{Mirrors, IsLeft, IsNextImage, file_in}
use Rattle.memory_disk.specs.Tape.{call_of}
use Rattle.router_disk.proofs.DiskLemmas.{file_from-append, images_from-joined, overwritten_torn, torn_longer}

-- ---- the tape

pub kept_push : (kept : List Kept) (lost : List DiskCall) (one : Kept) (call : DiskCall) → lost ≡ [] → call_of one ≡ call →
    map call_of (kept ++ one ∷ []) ++ lost ≡ (map call_of kept ++ lost) ++ call ∷ []
kept_push kept lost one call none is =
    ap (λ m. map call_of (kept ++ one ∷ []) ++ m) none ∙ append-nil (map call_of (kept ++ one ∷ [])) ∙ map-append call_of kept (one ∷ [])
    ∙ ap (λ m. map call_of kept ++ m ∷ []) is
    ∙ ap (λ m. m ++ call ∷ []) (sym (append-nil (map call_of kept)) ∙ ap (λ m. map call_of kept ++ m) (sym none))

pub lost_push : (kept new : List Kept) (lost after : List DiskCall) (call : DiskCall) → new ≡ kept → after ≡ lost ++ call ∷ [] →
    map call_of new ++ after ≡ (map call_of kept ++ lost) ++ call ∷ []
lost_push kept new lost after call same is =
    ap (λ m. map call_of m ++ after) same ∙ ap (λ m. map call_of kept ++ m) is ∙ sym (append_assoc (map call_of kept) lost (call ∷ []))

-- ---- the disk

answers_push : (known : Option (List ℕ)) (calls : List DiskCall) (call : DiskCall) → AreAnswersFrom known calls → IsAnswer (file_from known calls) call →
    AreAnswersFrom known (calls ++ call ∷ [])
answers_push known [] call answers one = (one, tt)
answers_push known (c ∷ calls) call answers one = (answers.0, answers_push (file_after known c) calls call answers.1 one)

-- what a read gives after a call, if it is known
abbrev pub Moves : List ℕ → List ℕ → DiskCall → Type 0
Moves old new call = IfSome (file_after (Some old) call) (λ file. file ≡ new)

known_push : (known : Option (List ℕ)) (old new : List ℕ) (call : DiskCall) → IfSome known (λ file. file ≡ old) → IsAnswer (Some old) call → Moves old new call →
    IsAnswer known call × IfSome (file_after known call) (λ file. file ≡ new)
known_push None old new call is one moves = (tt, tt)
known_push (Some file) old new call is one moves =
    subst (λ f. IsAnswer (Some f) call × IfSome (file_after (Some f) call) (λ after. after ≡ new)) (sym is) (one, moves)

pub mirrors_push : (first old new : List ℕ) (calls : List DiskCall) (call : DiskCall) → Mirrors first old calls → IsAnswer (Some old) call → Moves old new call →
    Mirrors first new (calls ++ call ∷ [])
mirrors_push first old new calls call m one moves =
    let next = known_push (file_of first calls) old new call m.known one moves in
    let is = file_from-append (Some first) calls (call ∷ []) in
    record {
      answers = answers_push (Some first) calls call m.answers next.0;
      known = subst (λ known. IfSome known (λ file. file ≡ new)) (sym is) next.1;
    }

-- ---- a crash

images_next : (known : Option (List ℕ)) (call : DiskCall) (images : List ℕ → Type 0) (old new : List ℕ) → images old → IsNextImage known call old new →
    images_after known call images new
images_next known (Size answer) images old new left is = subst images (sym is) left
images_next known (Read at bytes answer) images old new left is = subst images (sym is) left
images_next known (Write at bytes answer) images old new left torn = (old, left, torn)
images_next known (Cut len answer) images old new left short = (old, left, short)
images_next None (Sync answer) images old new left is = subst images (sym is) left
images_next (Some file) (Sync (Ok done)) images old new left is = is
images_next (Some file) (Sync (Err fault)) images old new left is = subst images (sym is) left

pub left_push : (first : List ℕ) (calls : List DiskCall) (call : DiskCall) (left next : Left) → IsLeft first calls left →
    file_in next ≡ file_after (file_in left) call → IsNextImage (file_in left) call left.image.items next.image.items → IsLeft first (calls ++ call ∷ []) next
left_push first calls call left next l file image = record {
  file = file ∙ ap (λ known. file_after known call) l.file ∙ sym (file_from-append (Some first) calls (call ∷ []));
  image = images_from-joined (Some first) (λ _. ⊤) calls (call ∷ []) next.image.items
      (images_next (file_of first calls) call (IsImage first calls) left.image.items next.image.items l.image
      (subst (λ known. IsNextImage known call left.image.items next.image.items) l.file image));
}

pub left_none : (first : List ℕ) (left : Left) → file_in left ≡ Some first → IsLeft first [] left
left_none first left file = record { file = file; image = tt }

-- a piece of a write
pub torn_piece : (image : List ℕ) (at n : ℕ) (piece new : List ℕ) → at ≤ length image → length piece ≤ n → new ≡ overwritten image at piece → Torn at n image new
torn_piece image at n piece new within few is =
    subst (λ m. Torn at n image m) (sym is) (torn_longer at (length piece) n image (overwritten image at piece) few (overwritten_torn image at piece within))

pub shortened_none : (len : ℕ) (image new : List ℕ) → new ≡ image → Shortened len image new
shortened_none len image new is = (len + length image, omega arith, is ∙ sym (take_all (len + length image) image (omega arith)))

-- ---- each call of the disk

module _ (first old : List ℕ) (calls after : List DiskCall) (m : Mirrors first old calls) where
  push_is : (new : List ℕ) (call : DiskCall) → after ≡ calls ++ call ∷ [] → IsAnswer (Some old) call → Moves old new call → Mirrors first new after
  push_is new call is one moves = subst (λ cs. Mirrors first new cs) (sym is) (mirrors_push first old new calls call m one moves)

  pub after_size : (answer : Result ℕ Failed) (held : List ℕ) → after ≡ calls ++ Size answer ∷ [] → held ≡ old →
      IfOk answer (λ len. (len ≡ length held) × (len < 2 ^ 63)) → Mirrors first old after
  after_size (Ok len) held is same said = push_is old (Size (Ok len)) is (said.0 ∙ ap (λ bytes. length bytes) same, said.1) refl
  after_size (Err fault) held is same said = push_is old (Size (Err fault)) is tt refl

  pub after_read : (at : ℕ) (into held : List ℕ) (answer : Result (Unit {0}) Failed) → after ≡ calls ++ Read at into answer ∷ [] → held ≡ old →
      OnOk answer (into ≡ take (length into) (drop at held)) → Mirrors first old after
  after_read at into held (Ok done) is same said =
      push_is old (Read at into (Ok done)) is (said ∙ ap (λ bytes. take (length into) (drop at bytes)) same) refl
  after_read at into held (Err fault) is same said = push_is old (Read at into (Err fault)) is tt refl

  pub after_write : (at : ℕ) (bytes new : List ℕ) (answer : Result (Unit {0}) Failed) → after ≡ calls ++ Write at bytes answer ∷ [] →
      OnOk answer ((new ≡ overwritten old at bytes) × (at + length bytes < 2 ^ 63)) → Mirrors first new after
  after_write at bytes new (Ok done) is said = push_is new (Write at bytes (Ok done)) is said.1 (sym said.0)
  after_write at bytes new (Err fault) is said = push_is new (Write at bytes (Err fault)) is tt tt

  pub after_cut : (len : ℕ) (new : List ℕ) (answer : Result (Unit {0}) Failed) → after ≡ calls ++ Cut len answer ∷ [] →
      OnOk answer ((new ≡ take len old) × (len ≤ length old)) → Mirrors first new after
  after_cut len new (Ok done) is said = push_is new (Cut len (Ok done)) is said.1 (sym said.0)
  after_cut len new (Err fault) is said = push_is new (Cut len (Err fault)) is tt tt

  pub after_sync : (answer : Result (Unit {0}) Failed) → after ≡ calls ++ Sync answer ∷ [] → Mirrors first old after
  after_sync (Ok done) is = push_is old (Sync (Ok done)) is tt refl
  after_sync (Err fault) is = push_is old (Sync (Err fault)) is tt tt
