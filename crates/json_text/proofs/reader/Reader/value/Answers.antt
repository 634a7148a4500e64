use Rattle.std.proofs.Common.{refl, arith, subst, sym, inl, inr, true, false, Err, ◌∷◌, []}
use Rattle.json_text.specs.{Reading.read_from, Reading.value, Reading.unexpected, Node.null_node, Node.truth_node, Kept.FailsSo}
use Rattle.json_text.proofs.reader.Reader.value.Goals.{in_default-via-then-byte-lt48, in_default-via-else-byte-lt48+else-byte-lt58}
use Rattle.json_text.proofs.{ViewLemmas.tree_of_null, ViewLemmas.tree_of_truth, StepLemmas.begins_word, StepLemmas.value_other, TokenRuns.by_byte}
use Rattle.json_text.proofs.reader.Reader.value.Goals as goal

pub word-requires : goal.word-requires
word-requires c = let begins = begins_word c.args.byte 110 117 (108 ∷ 108 ∷ []) null_node c.args.place.rest.now
    (λ L at outer. refl) c.requires.first c.in-110.is in (null_node, tree_of_null, refl, begins)

pub word-requires-in-116 : goal.word-requires-in-116
word-requires-in-116 c = let begins = begins_word c.args.byte 116 114 (117 ∷ 101 ∷ []) (truth_node true) c.args.place.rest.now
    (λ L at outer. refl) c.requires.first c.in-116.is in (truth_node true, tree_of_truth true, refl, begins)

pub word-requires-in-102 : goal.word-requires-in-102
word-requires-in-102 c = let begins = begins_word c.args.byte 102 97 (108 ∷ 115 ∷ 101 ∷ []) (truth_node false) c.args.place.rest.now
    (λ L at outer. refl) c.requires.first c.in-102.is in (truth_node false, tree_of_truth false, refl, begins)

pub returns-in_default-clause-goes : goal.returns-in_default-clause-goes
returns-in_default-clause-goes c outer kept r =
    subst (FailsSo (read_from c.args.self.now.levels c.args.place.at (value outer) c.args.place.rest.now)) (sym c.not_json.ensures)
    (by_byte c.args.self.now.levels c.args.place.at (value outer) c.args.byte c.args.place.rest.now (Err unexpected) c.requires.first
    (value_other c.args.self.now.levels c.args.place.at outer c.args.byte c.requires.no_space (omega arith) (omega arith) (omega arith) (omega arith)
    (elim c.in_default.branch [ in_default-via-then-byte-lt48 w ↦ inl (omega arith) | in_default-via-else-byte-lt48+else-byte-lt58 w ↦ inr (omega arith) ])
    (omega arith) (omega arith) (omega arith)))
