-- What `Template::read` says, of the rewritten text and the value that json_text reads.
use Rattle.std.proofs.Common.{◌≡◌, ℕ, List, sym, ap, ◌∙◌, subst}
use Rattle.json_text.specs.Tree.{Tree}
use Rattle.json_text.specs.Node.{Node, value_of}
use Rattle.json_text.specs.Grammar.{IsText}
use Rattle.input_transform.specs.Names.{Scene, Paths}
use Rattle.input_transform.specs.Template.{Content, IsTemplate}
use Rattle.input_transform.specs.Filled.{filled}
use Rattle.input_transform.specs.Stored.{IsScene, IsFilledValue}
use Rattle.input_transform.specs.Letters.{Token, AreTokens, given, letters, filled_back}
use Rattle.input_transform.proofs.GrammarLemmas.{text_there, text_back}
use Rattle.input_transform.proofs.FilledLemmas.{filled_same, filled_sound}

-- what was read is a template's
abbrev pub IsRead : Paths → List ℕ → Tree → Type 0
IsRead paths text tree = (c : Content) × IsTemplate paths text c × ((scene : Scene) → filled_back paths scene tree ≡ filled scene c)

pub read_back : (paths : Paths) (text rewritten : List ℕ) (ts : List Token) (n : Node) (tree : Tree) → AreTokens paths ts → text ≡ given ts → rewritten ≡ letters ts
    → IsText 100 rewritten n → tree ≡ value_of n → IsRead paths text tree
read_back paths text rewritten ts n tree are e r is v =
    let b = text_back paths ts n are (subst (λ x. IsText 100 x n) r is) in
    (b.0, subst (λ x. IsTemplate paths x b.0) (sym e) b.1, λ scene. ap (filled_back paths scene) v ∙ filled_same paths scene b.0 n b.2)

pub read_sound : (paths : Paths) (text : List ℕ) (tree : Tree) → IsRead paths text tree → (scene : Scene) → IsScene scene
    → IsFilledValue scene (filled_back paths scene tree)
read_sound paths text tree h scene s = subst (IsFilledValue scene) (sym (h.2 scene)) (filled_sound paths scene s text h.0 h.1)

-- A template is rewritten to a JSON text of the value that is filled as it is.
abbrev pub IsWritten : Paths → Content → List ℕ → Type 0
IsWritten paths c rewritten = (n : Node) × IsText 100 rewritten n × ((tree : Tree) → tree ≡ value_of n → (scene : Scene) → filled_back paths scene tree ≡ filled scene c)

pub template_there : (paths : Paths) (text : List ℕ) (c : Content) → IsTemplate paths text c
    → (ts : List Token) × AreTokens paths ts × (text ≡ given ts) × IsWritten paths c (letters ts)
template_there paths text c h =
    let t = text_there paths text c h in
    (t.0, t.1, t.2, (t.3, t.4, λ tree e scene. ap (filled_back paths scene) e ∙ filled_same paths scene c t.3 t.5))
