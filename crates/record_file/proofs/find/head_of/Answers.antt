use Rattle.std.proofs.Common.{◌≡◌, ◌+◌, length, get_or, drop, ap, ◌∙◌, arith, length-drop}
use Rattle.std.proofs.lemmas.List.{get_or-drop, take_all}
use Rattle.record_file.proofs.HeadLemmas.{head_length}
use Rattle.record_file.proofs.find.head_of.Goals as goal

pub returns : goal.returns
returns c =
    let bytes = c.args.bytes.now in
    let nine : length bytes ≡ 9 = omega (arith, c.requires.few, c.if-bytes-lt9.false) in
    let rest : length (drop 1 bytes) ≡ 8 = omega (arith, nine, length-drop 1 bytes) in
    let is : c.copy_from_slice.new.self ≡ drop 1 bytes = c.copy_from_slice.ensures.after ∙ take_all 8 (drop 1 bytes) (omega (arith, rest)) in (
      head_length bytes c.copy_from_slice.new.self c.from_be_bytes-len.result nine c.if-bytes-ne1.false is
          (λ i. let same = ap (λ m. get_or m i 0) is ∙ get_or-drop 1 bytes i 0 in let fits = c.type_inv.bytes (1 + i) in omega (arith, same, fits))
          c.from_be_bytes-len.ensures,
      c.from_be_bytes-len.type_inv,
    )
