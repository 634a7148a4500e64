-- A legal history has the mark exactly if its book is broken: `marked`, `breaks_so`.
use Rattle.std.proofs.Common.{◌≡◌, ◌⊎◌, inl, inr, true, false, List, [], ◌∷◌, Option, Some, None, refl, sym, ap, ◌∙◌}
use Rattle.std.proofs.lemmas.Bool.{true≢false}
use Rattle.router_requests.specs.Batch.{Batch}
use Rattle.router_core.specs.Tables.{first_tables}
use Rattle.router_history.specs.History.{Ask, opens, asked, claims, records, puts_back, repeats, breaks, Turn, State, begun, begun_with, after_change, after_ask, after_turn, state_after, state_of}
use Rattle.router_history.specs.History.{HasMark, IsTurnFor, AreTurnsFrom, IsLegal}
use Rattle.router_history.proofs.SteadyLemmas.{found_whole}

broken_written : (b : Option Batch) (s : State) → (after_change b s).broken ≡ s.broken
broken_written None s = refl
broken_written (Some b) s = refl

-- a turn leaves a book as broken as it was, or breaks it
broken_ask : (turn : Turn) (ask : Ask) (s : State) → IsTurnFor s turn ask
    → ((after_ask turn ask s).broken ≡ s.broken) ⊎ ((bs : List Batch) × (ask ≡ breaks bs) × ((after_ask turn ask s).broken ≡ true))
broken_ask turn (opens start found disk) s is = absurd is
broken_ask turn (asked request) s is = inl (broken_written turn.batch s)
broken_ask turn (claims c) s is = inl refl
broken_ask turn (records a) s is = inl (broken_written turn.batch s)
broken_ask turn (puts_back c why) s is = inl refl
broken_ask turn (repeats reading) s is = inl (broken_written turn.batch s)
broken_ask turn (breaks bs) s is = inr (bs, refl, refl)

mark_found : (turns : List Turn) (s : State) → AreTurnsFrom s turns → s.broken ≡ false → (state_after turns s).broken ≡ true → HasMark turns
mark_found [] s legal whole broken = absurd (true≢false (sym broken ∙ whole))
mark_found (turn ∷ turns) s legal whole broken = elim (broken_ask turn turn.ask s legal.0.made_for) [
  | inl same ↦ inr (mark_found turns (after_turn turn s) legal.1 (same ∙ whole) broken)
  | inr mark ↦ inl (mark.0, mark.1)
]

still_broken : (turns : List Turn) (s : State) → AreTurnsFrom s turns → s.broken ≡ true → (state_after turns s).broken ≡ true
still_broken [] s legal broken = broken
still_broken (turn ∷ turns) s legal broken = elim (broken_ask turn turn.ask s legal.0.made_for) [
  | inl same ↦ still_broken turns (after_turn turn s) legal.1 (same ∙ broken)
  | inr mark ↦ still_broken turns (after_turn turn s) legal.1 mark.2
]

mark_breaks : (turns : List Turn) (s : State) → AreTurnsFrom s turns → HasMark turns → (state_after turns s).broken ≡ true
mark_breaks [] s legal mark = absurd mark
mark_breaks (turn ∷ turns) s legal (inl (bs, is)) =
    still_broken turns (after_turn turn s) legal.1 (ap (λ (a : Ask). (after_ask turn a s).broken) is)
mark_breaks (turn ∷ turns) s legal (inr mark) = mark_breaks turns (after_turn turn s) legal.1 mark

pub marked : (turns : List Turn) → IsLegal turns → (state_of turns).broken ≡ true → HasMark turns
marked [] legal broken = absurd legal
marked (turn ∷ turns) legal broken =
    let o = legal.0 in
    let whole : (after_turn turn (begun first_tables)).broken ≡ false =
    ap (λ (a : Ask). (after_ask turn a (begun first_tables)).broken) o.ask ∙ found_whole o.found (begun_with o.disk o.start) in
    inr (mark_found turns (after_turn turn (begun first_tables)) legal.1 whole broken)

pub breaks_so : (turns : List Turn) → IsLegal turns → HasMark turns → (state_of turns).broken ≡ true
breaks_so [] legal mark = absurd legal
breaks_so (turn ∷ turns) legal (inl (bs, is)) = let both : opens legal.0.start legal.0.found legal.0.disk ≡ breaks bs = sym legal.0.ask ∙ is in absurd (cc (both))
breaks_so (turn ∷ turns) legal (inr mark) = mark_breaks turns (after_turn turn (begun first_tables)) legal.1 mark
