-- The command above a subcommand: a line of the subcommand has no fault (`line_faultless`), and what `clap` finds is the subcommand's
-- (`line_rows`).
use Rattle.std.proofs.Common.{◌≡◌, ◌∙◌, ◌&&◌, not, Bool, true, false, refl, sym, ap, ap₂, List, [], ◌∷◌, ◌++◌, Option, Some, is_some, append_assoc, append-nil}
use Rattle.std.specs.List.{fold, list_all, list_any}
use Rattle.std.specs.Prelude.{find, option_map}
use Rattle.std.specs.Option.{option_map_or}
use Rattle.clap.specs.Faults.{built_fault, check_fault, defaults_fault, entered_fault, level_fault, settle_fault, turn_fault, walk_fault}
use Rattle.clap.specs.Kinds.{or_else}
use Rattle.clap.specs.Simple.{App, Shape, entered, label_of, names_of, rows_at}
use Rattle.clap.specs.Takes.{is_given}
use Rattle.clap.specs.Walk.{Names, Row, Rule, Text, Walk, answers_to, finished, is_empty, nothing_held, rows_after, settled, stop_after, walk, walk_from, walked}
use Rattle.command_line.proofs.LeafLemmas.{no_defaults_fault}

abbrev pub met : Walk → Text → List Text → Walk
met w n ws = record w { stopped = Some (n, ws) }

-- a built command whose own options are neither needed nor have defaults
pub record IsTop (a : App) : Type 0 where
  pub defaults : list_all (λ r. is_empty r.defaults) a.top.rules ≡ true
  pub optional : (rows : List Row) → list_any (λ r. r.required && not (is_given r.id rows)) a.top.rules ≡ false

-- the word enters the subcommand
pub record Enters (a : App) (word : Text) (leaf : Shape) : Type 0 where
  pub starts : walked a.top.rules (names_of a) (walk_from nothing_held) word ≡ met (walk_from nothing_held) word []
  pub turn : turn_fault a.top (names_of a) (walk_from nothing_held) word ≡ []
  pub found : find (λ s. answers_to word (label_of s)) a.subs ≡ Some leaf
  pub name : leaf.name ≡ word

stays_met : (c : List Rule) (ns : Names) (w : Walk) (n : Text) (ws rest : List Text) → fold (walked c ns) (met w n ws) rest ≡ met w n (ws ++ rest)
unfolding walked
stays_met c ns w n ws [] = ap (met w n) (sym (append-nil ws))
stays_met c ns w n ws (x ∷ rest) = stays_met c ns w n (ws ++ x ∷ []) rest ∙ ap (met w n) (append_assoc ws (x ∷ []) rest)

walk_is : (a : App) (word : Text) (leaf : Shape) (ws : List Text) → Enters a word leaf
    → walk a.top.rules (names_of a) nothing_held (word ∷ ws) ≡ met (walk_from nothing_held) word ws
walk_is a word leaf ws e =
    ap (λ (w : Walk). fold (walked a.top.rules (names_of a)) w ws) e.starts
    ∙ stays_met a.top.rules (names_of a) (walk_from nothing_held) word [] ws

met_faultless : (s : Shape) (ns : Names) (w : Walk) (n : Text) (ws rest : List Text) → walk_fault s ns (met w n ws) rest ≡ []
unfolding walk_fault walked
met_faultless s ns w n ws [] = refl
met_faultless s ns w n ws (x ∷ rest) = met_faultless s ns w n (ws ++ x ∷ []) rest

words_faultless : (a : App) (word : Text) (leaf : Shape) (ws : List Text) → Enters a word leaf
    → walk_fault a.top (names_of a) (walk_from nothing_held) (word ∷ ws) ≡ []
unfolding walk_fault
words_faultless a word leaf ws e = ap₂ or_else e.turn
    (ap (λ (w : Walk). walk_fault a.top (names_of a) w ws) e.starts ∙ met_faultless a.top (names_of a) (walk_from nothing_held) word [] ws)

entered_is : (a : App) (word : Text) (leaf : Shape) (ws : List Text) → Enters a word leaf
    → entered a (Some (word, ws)) ≡ Some (word, rows_after leaf.rules [] ws)
entered_is a word leaf ws e =
    ap (option_map (λ (s : Shape). rows_at s ws)) e.found ∙ ap (λ (n : Text). Some (n, rows_after leaf.rules [] ws)) e.name

below_faultless : (a : App) (word : Text) (leaf : Shape) (ws : List Text) → Enters a word leaf → level_fault leaf [] nothing_held ws false [] ≡ []
    → entered_fault a (Some (word, ws)) ≡ []
below_faultless a word leaf ws e below =
    ap (λ (o : Option Shape). option_map_or (λ s. level_fault s [] nothing_held ws false []) o []) e.found ∙ below

and_false : (b : Bool) → (b && false) ≡ false
and_false true = refl
and_false false = refl

check_top : (a : App) (rows : List Row) → IsTop a → check_fault a.top rows true ≡ []
check_top a rows top =
    let none : (not (a.top.subcommand_negates_reqs && true) && list_any (λ r. r.required && not (is_given r.id rows)) a.top.rules) ≡ false =
    ap (λ (b : Bool). not (a.top.subcommand_negates_reqs && true) && b) (top.optional rows) ∙ and_false (not (a.top.subcommand_negates_reqs && true)) in
    rw none refl

pub line_faultless : (a : App) (word : Text) (leaf : Shape) (ws : List Text) → IsTop a → Enters a word leaf
    → level_fault leaf [] nothing_held ws false [] ≡ [] → built_fault a nothing_held (word ∷ ws) ≡ []
line_faultless a word leaf ws top e below =
    let words = words_faultless a word leaf ws e in
    let sub = below_faultless a word leaf ws e below in
    let is_in : is_some (entered a (Some (word, ws))) ≡ true = ap is_some (entered_is a word leaf ws e) in
    let defaults = no_defaults_fault a.top.rules [] top.defaults in
    let check = ap (check_fault a.top (finished a.top.rules nothing_held)) is_in ∙ check_top a (finished a.top.rules nothing_held) top in
    ap (λ (w : Walk). or_else (walk_fault a.top (names_of a) (walk_from nothing_held) (word ∷ ws))
    (or_else (entered_fault a w.stopped) (or_else (settle_fault a.top.rules a.top.args_override_self w.held)
    (or_else (defaults_fault (settled a.top.rules w.held).rows a.top.rules)
    (check_fault a.top (finished a.top.rules w.held) (is_some (entered a w.stopped))))))) (walk_is a word leaf ws e)
    ∙ (λ i. or_else (words i) (or_else (sub i) (or_else (defaults i) (check i))))

pub line_rows : (a : App) (word : Text) (leaf : Shape) (ws : List Text) → Enters a word leaf
    → entered a (stop_after a.top.rules (names_of a) (word ∷ ws)) ≡ Some (word, rows_after leaf.rules [] ws)
line_rows a word leaf ws e = ap (λ (w : Walk). entered a w.stopped) (walk_is a word leaf ws e) ∙ entered_is a word leaf ws e
