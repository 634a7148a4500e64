-- Keys, one cell at a time.
use Rattle.std.proofs.Common.{◌≡◌, ℕ, List, [], ◌∷◌, ◌++◌, ap, sym, ◌∙◌}
use Rattle.rule_automaton.specs.Keys.{keys_step, keys_of}
use Rattle.rule_automaton.specs.declared.keys.Keys.{fold-roll-Keys}
use Rattle.rule_automaton.specs.declared.keys.Keys.TheOpen.{Keys-F}
use Rattle.rule_automaton.specs.declared.keys.Keys.TheVariants as keys

pub keys_root : keys_of keys.Root ≡ []
keys_root = ap keys_of (sym keys.rolls-Root) ∙ fold-roll-Keys (List (List ℕ)) keys_step Keys-F.Root

pub keys_key : (key : _) (up : _) → keys_of (keys.Key key up) ≡ keys_of up.now ++ key.now ∷ []
keys_key key up = ap keys_of (sym (keys.rolls-Key key up)) ∙ fold-roll-Keys (List (List ℕ)) keys_step (Keys-F.Key key up)
