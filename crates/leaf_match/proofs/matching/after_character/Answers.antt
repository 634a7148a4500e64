use Rattle.std.proofs.Common.{rules, ◌≡◌, length, drop, sym, ap, ◌∙◌, arith}
use Rattle.std.specs.Char.{IsScalar}
use Rattle.std.proofs.lemmas.Str.{IsCharBoundary-end}
use Rattle.std.specs.Str.{IsCharBoundary}
use Rattle.std.proofs.lemmas.List.{length-drop}
use Rattle.leaf_match.proofs.PlaceLemmas.{slice_range-to_end, no_character_inside, no_character_in_none, IsBehind-character}
use Rattle.leaf_match.proofs.matching.after_character.Goals as goal

pub returns-in_err-rest : goal.returns-in_err-rest
returns-in_err-rest c =
    let text = c.args.text.now in
    let inside = λ (cut : IsCharBoundary text c.args.at). c.in_err-rest.ensures.cases c.requires cut (IsCharBoundary-end text) in
    rw c.from_residual.ensures (λ rest. no_character_inside text c.args.at rest c.requires inside)

pub returns-in_err-c : goal.returns-in_err-c
returns-in_err-c c =
    let text = c.args.text.now in
    let e = ap length c.chars.ensures.rest in
    let left = length-drop c.args.at text in
    rw c.from_residual-in_err-c.ensures
    (λ rest. no_character_in_none (drop c.args.at text) rest
    (omega (arith, c.in_err-c.ensures.steps, c.in_ok-rest.ensures.cases)))

pub returns : goal.returns
returns c =
    let text = c.args.text.now in
    let cut : c.in_ok-rest.rest.now ≡ drop c.args.at text = c.in_ok-rest.ensures.cases.0 ∙ slice_range-to_end text c.args.at in
    let scalar : IsScalar c.in_ok-c.c = search rules in
    let e = sym cut ∙ sym c.chars.ensures.rest ∙ c.in_ok-c.ensures.steps.0 in
    rw c.len_utf8.ensures.value (IsBehind-character text c.args.at c.in_ok-c.c _ c.requires scalar e)
