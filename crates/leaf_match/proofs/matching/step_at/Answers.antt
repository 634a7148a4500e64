use Rattle.std.proofs.Common.{rules, ◌≡◌, ◌≢◌, sym, ap, ◌∙◌, Some, arith, refl}
use Rattle.std.proofs.lemmas.Bool.{false≢true}
use Rattle.leaf_match.specs.declared.piece.Piece.TheVariants.{Run}
use Rattle.leaf_match.proofs.PlaceLemmas.{IsPieceAt-from_get, Fits-past_pieces, not_Fits-past_pieces, not_Fits-from_stuck}
use Rattle.leaf_match.proofs.matching.step_at.Goals.{in-Run, in_default-matches}
use Rattle.leaf_match.proofs.matching.step_at.Goals as goal

pub returns-then-place-text : goal.returns-then-place-text
returns-then-place-text g c =
    Fits-past_pieces (g.P.Pattern.pieces c.args.pattern.now) c.args.place.piece c.args.text.now c.args.place.byte (search rules) (omega arith)

pub returns-else-place-text : goal.returns-else-place-text
returns-else-place-text g c =
    not_Fits-past_pieces (g.P.Pattern.pieces c.args.pattern.now) c.args.place.piece c.args.text.now c.args.place.byte
    (search rules) c.requires c.if-place-text.false

pub returns-then-matches : goal.returns-then-matches
returns-then-matches g c =
    let is_run : c.in-Some.piece ≡ Run = elim c.match-matches.branch [
      | in-Run w ↦ w.in-Run.is
      | in_default-matches w ↦ absurd (false≢true (sym w.matches-is ∙ c.if-matches.true))
    ] in
    IsPieceAt-from_get (g.P.Pattern.pieces c.args.pattern.now) c.args.place.piece Run (c.in-Some.ensures.small refl)
    (sym c.in-Some.ensures.piece ∙ ap Some is_run)

pub returns-in-Some-after : goal.returns-in-Some-after
returns-in-Some-after g c =
    let no_run : c.in-Some.piece ≢ Run = elim c.match-matches.branch [
      | in-Run w ↦ absurd (false≢true (sym c.if-matches.false ∙ w.matches-is))
      | in_default-matches w ↦ w.in_default-matches.not-Run
    ] in (
      c.in-Some.piece,
      no_run,
      IsPieceAt-from_get (g.P.Pattern.pieces c.args.pattern.now) c.args.place.piece
          c.in-Some.piece (c.in-Some.ensures.small refl) (sym c.in-Some.ensures.piece),
      c.in-Some-after.ensures.0,
      c.in-Some-after.ensures.1,
    )

pub returns-in-None : goal.returns-in-None
returns-in-None g c =
    let here = IsPieceAt-from_get (g.P.Pattern.pieces c.args.pattern.now) c.args.place.piece c.in-Some.piece
    (c.in-Some.ensures.small refl) (sym c.in-Some.ensures.piece) in
    rw here.2 (not_Fits-from_stuck c.in-Some.piece _ _ c.in-None.ensures)
