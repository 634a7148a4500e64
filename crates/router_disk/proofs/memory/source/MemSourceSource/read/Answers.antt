use Rattle.std.proofs.Common.{◌≡◌, min, length, drop, take, ℕ, ◌+◌, ◌-◌, ◌<◌, List, [], ◌++◌, subst, sym, ◌∙◌, ap, arith}
use Rattle.std.proofs.Math.Seq.{take-append_seam}
use Rattle.std.specs.List.{concat, Contains}
use Rattle.std.proofs.lemmas.Grind.{common_steps}
use Rattle.std.proofs.lemmas.List.{take-append-drop, drop-drop, drop_all}
use Rattle.router_disk.proofs.SourceLemmas.{concat_more, ends, piece_is}
use Rattle.router_disk.proofs.memory.source.MemSourceSource.read.Goals as goal

-- what was copied, and then what is left, is what was left before
taken_then_left : (bytes rest copied : List ℕ) (place n : ℕ) → copied ≡ take n (drop place bytes) → length copied ≡ n →
    drop place bytes ≡ take n (copied ++ rest) ++ drop (place + n) bytes
taken_then_left bytes rest copied place n same len =
    let all = take-append-drop n (drop place bytes) in
    let front = take-append_seam copied rest in
    let back = drop-drop n place bytes in cc

-- if there was room and nothing was read, nothing is left
none_left : (bytes : List ℕ) (place n most room : ℕ) → n ≡ min (min most room) (length bytes - place) → 0 < most → 0 < room → n ≡ 0 →
    drop (place + n) bytes ≡ []
none_left bytes place n most room is positive space none = drop_all (place + n) bytes (omega arith)

pub returns-clause-bytes : goal.returns-clause-bytes
returns-clause-bytes c =
    let bytes = c.self.inside.bytes.items in
    let place = c.self.inside.place in
    let n = c.min-count.result in (
      sym (ap (λ s. s.left) c.self.view_is)
          ∙ taken_then_left bytes (drop n c.args.buf.now) c.copy_from_slice.new.self place n (grind (arith, common_steps)) (grind (arith, common_steps)),
      λ none room. none_left bytes place n c.self.inside.most (length c.args.buf.now) (grind (arith, common_steps)) (grind arith)
          (grind (arith, common_steps)) none,
    )

pub invariant_of-self : goal.invariant_of-self
invariant_of-self c =
    let bytes = c.self.inside.bytes.items in
    let place = c.self.inside.place in
    let n = c.min-count.result in
    let kept = c.self.invariant in
    let copied = c.copy_from_slice.new.self in
    let next = piece_is bytes (drop n c.args.buf.now) copied place n (grind (arith, common_steps)) (grind (arith, common_steps)) in
    let room = length c.args.buf.now in
    let within : n ≡ min (min c.self.inside.most room) (length bytes - place) = grind (arith, common_steps) in (
      grind (arith, common_steps),
      kept.1,
      ap concat c.hear.ensures ∙ concat_more bytes _ c.self.inside.gave place n kept.2 next,
      λ empty. ends bytes _ c.self.inside.gave place n c.self.inside.most room kept.3 next within kept.1 c.requires.room
          (subst (λ gave. Contains gave []) c.hear.ensures empty),
    )
