-- Each line of a command is that command: `line_is`.
use Rattle.std.proofs.Common.{◌≡◌, ◌∙◌, Bool, true, false, not, refl, sym, ap, subst, List, [], ◌∷◌, map, Option, Some, None, is_some, codes, IsSomeAnd, MatchOption, ◌&&◌}
use Rattle.std.specs.List.{list_any}
use Rattle.std.specs.Prelude.{Contains}
use Rattle.clap.specs.Faults.{built_fault, fault_of, level_fault}
use Rattle.clap.specs.Simple.{Shape, built, entered, names_of, subcommand_of}
use Rattle.clap.specs.Takes.{is_given}
use Rattle.clap.specs.Walk.{Row, Rule, Text, first_of, nothing_held, rows_after, stop_after}
use Rattle.command_line.specs.Command.{CommandView, HasValues, IsCommand, IsEntered, IsOptional, name_of, subcommand_for, serve, once, check, drill}
use Rattle.command_line.specs.Line.{AreOptions, IsLine, value_of, words_of}
use Rattle.command_line.specs.Number.{IsNumber}
use Rattle.command_line.specs.Table as table
use Rattle.command_line.proofs.LeafLemmas.{HasRequired, IsPlainLeaf, leaf_faultless, leaf_rows}
use Rattle.command_line.proofs.OptionLemmas.{Has, Goods, first_of_options, given_options, good}
use Rattle.command_line.proofs.StepLemmas.{rows_for}
use Rattle.command_line.proofs.TableLemmas as of
use Rattle.command_line.proofs.TopLemmas.{Enters, line_faultless, line_rows}

-- what is said of such words
abbrev IsFound : List Text → Text → List (Text × Text) → Type 0
IsFound words word os =
    (fault_of table.ebusd words ≡ [])
    × (rows : List Row) × (subcommand_of table.ebusd words ≡ Some (word, rows)) × ((name : Text) → first_of name rows ≡ value_of name os)

same_needs : (c : List Rule) (f g : Text → Bool) → ((name : Text) → f name ≡ g name) → HasRequired c g → HasRequired c f
same_needs c f g same h = ap (λ (k : Rule → Bool). list_any k c) (λ i a. a.required && not (same a.id i)) ∙ h

found : (word : Text) (leaf : Shape) (names : List Text) (pick : (name : Text) → Contains names name → Has leaf name) → Enters (built table.ebusd) word leaf
    → IsPlainLeaf leaf → (program : Text) (os : List (Text × Text)) → AreOptions names os → HasRequired leaf.rules (λ name. is_some (value_of name os))
    → IsFound (program ∷ (word ∷ words_of os)) word os
found word leaf names pick enters plain program os h needs = go (good leaf names pick os h)
  where
    go : Goods leaf [] None os → IsFound (program ∷ (word ∷ words_of os)) word os
    go g =
        let gs = g.0 in
        let needed : HasRequired leaf.rules (λ name. is_given name (rows_for gs)) = same_needs leaf.rules (λ name. is_given name (rows_for gs)) (λ name. is_some (value_of name os))
        (λ name. given_options gs name ∙ ap (λ (x : List (Text × Text)). is_some (value_of name x)) (sym g.2)) needs in
        let below : level_fault leaf [] nothing_held (words_of os) false [] ≡ [] = ap (λ (ws : List Text). level_fault leaf [] nothing_held ws false []) g.1
        ∙ leaf_faultless leaf gs plain g.3 needed in (
          ap (built_fault (built table.ebusd) nothing_held) (of.first_word program (word ∷ words_of os))
              ∙ line_faultless (built table.ebusd) word leaf (words_of os) of.top enters below,
          rows_for gs,
          ap (λ (ws : List Text). entered (built table.ebusd) (stop_after (built table.ebusd).top.rules (names_of (built table.ebusd)) ws)) (of.first_word program (word ∷ words_of os))
              ∙ line_rows (built table.ebusd) word leaf (words_of os) enters
              ∙ ap (λ (rows : List Row). Some (word, rows)) (ap (rows_after leaf.rules []) g.1 ∙ leaf_rows leaf gs plain g.3),
          λ name. first_of_options gs name ∙ ap (value_of name) (sym g.2),
        )

-- other ways to find the same values
alike : (f g : Text → Option Text) → ((name : Text) → f name ≡ g name) → (c : CommandView) → HasValues f c → HasValues g c
alike f g same (serve journal port workers connections) h = (
  sym (same (codes "journal")) ∙ h.0,
  subst (λ (o : Option Text). MatchOption o (port ≡ 9100) (λ word. IsNumber 1 65535 word port)) (same (codes "port")) h.1,
  subst (λ (o : Option Text). MatchOption o (workers ≡ 64) (λ word. IsNumber 1 1024 word workers)) (same (codes "workers")) h.2,
  subst (λ (o : Option Text). IsOptional 1 1000000 o connections) (same (codes "connections")) h.3,
)
alike f g same (once journal now) h =
    (sym (same (codes "journal")) ∙ h.0, subst (λ (o : Option Text). IsOptional 0 250000000000 o now) (same (codes "now")) h.1)
alike f g same (check journal) h = sym (same (codes "journal")) ∙ h
alike f g same (drill seed events) h = (
  subst (λ (o : Option Text). IsSomeAnd o (λ word. IsNumber 0 2147483647 word seed)) (same (codes "seed")) h.0,
  subst (λ (o : Option Text). IsSomeAnd o (λ word. IsNumber 1 100000 word events)) (same (codes "events")) h.1,
)

there : (P : Text → Type 0) (o : Option Text) → IsSomeAnd o P → is_some o ≡ true
there P None h = absurd h
there P (Some x) h = refl

-- what is found is the command
is_command : (words : List Text) (word : Text) (os : List (Text × Text)) (c : CommandView) → word ≡ name_of c → HasValues (λ name. value_of name os) c
    → IsFound words word os → IsCommand words c
is_command words word os c name h f =
    let values = alike (λ n. value_of n os) (λ n. first_of n f.1) (λ n. sym (f.3 n)) c h in
    (f.0, subst (λ (e : Option (Text × List Row)). IsEntered e c) (sym f.2) (name, values))

pub line_is : (words : List Text) (c : CommandView) → IsLine words c → IsCommand words c
line_is words c h = subst (λ (ws : List Text). IsCommand ws c) (sym h.spelled) (go c h.program h.options h.named h.values)
  where
    go : (c : CommandView) (program : Text) (os : List (Text × Text)) → AreOptions (map (λ rule. rule.id) (subcommand_for c).top.rules) os
        → HasValues (λ name. value_of name os) c → IsCommand (program ∷ (name_of c ∷ words_of os)) c
    go (serve journal port workers connections) program os named values =
        is_command (program ∷ (codes "serve" ∷ words_of os)) (codes "serve") os (serve journal port workers connections) refl values
        (found (codes "serve") (of.leaf_of table.serve) (map (λ rule. rule.id) table.serve.top.rules) of.pick_serve of.enters_serve of.plain_serve program os named
        (of.needs_serve (λ name. is_some (value_of name os))))
    go (once journal now) program os named values =
        is_command (program ∷ (codes "once" ∷ words_of os)) (codes "once") os (once journal now) refl values
        (found (codes "once") (of.leaf_of table.once) (map (λ rule. rule.id) table.once.top.rules) of.pick_once of.enters_once of.plain_once program os named
        (of.needs_once (λ name. is_some (value_of name os))))
    go (check journal) program os named values =
        is_command (program ∷ (codes "check" ∷ words_of os)) (codes "check") os (check journal) refl values
        (found (codes "check") (of.leaf_of table.check) (map (λ rule. rule.id) table.check.top.rules) of.pick_check of.enters_check of.plain_check program os named
        (of.needs_check (λ name. is_some (value_of name os)) (ap is_some values)))
    go (drill seed events) program os named values =
        is_command (program ∷ (codes "drill" ∷ words_of os)) (codes "drill") os (drill seed events) refl values
        (found (codes "drill") (of.leaf_of table.drill) (map (λ rule. rule.id) table.drill.top.rules) of.pick_drill of.enters_drill of.plain_drill program os named
        (of.needs_drill (λ name. is_some (value_of name os)) (there (λ word. IsNumber 0 2147483647 word seed) (value_of (codes "seed") os) values.0) (there (λ word. IsNumber 1 100000 word events) (value_of (codes "events") os) values.1)))
