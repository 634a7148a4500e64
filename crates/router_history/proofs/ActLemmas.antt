-- Acts of a pass among the turns of all. The lemmas that others cite: `happens_others`, `happens_append`, `happens_full`, `named_full`, `makes_none`, `makes_append`,
-- `makes_others`, `makes_one`, `makes_look`, `makes_full`.
use Rattle.std.proofs.Common.{◌≡◌, ℕ, ◌≤◌, List, [], ◌∷◌, ◌++◌, Option, Some, refl, sym, ap, ◌∙◌, subst, arith, append-nil, append_assoc}
use Rattle.std.specs.Prelude.{All}
use Rattle.std.proofs.lemmas.List.Elements.{All-nil, All-cons, All-append, All-head, All-tail}
use Rattle.courier_run.specs.Act.{reads, ticks, looks, makes, tries, writes, book_acts_in}
use Rattle.router_history.specs.declared.book.Seat.{Seat}
use Rattle.router_history.specs.History.{Turn, State, Placed, last_version, after_turn, state_after, state_of, turns_by, AreTurnsFrom}
use Rattle.router_history.specs.Acts.{Act, Happens, IsNamed, Makes}
use Rattle.router_history.proofs.TurnLemmas.{state_append, turns_back, none_append, versions_grow}

-- turns of others come first, and the version does not fall by them
pub happens_others : (n : ℕ) (s : State) (xs ys : List Turn) (acts : List Act) → last_version s ≤ last_version (state_after xs s) → turns_by n xs ≡ []
    → Happens n (state_after xs s) ys acts → Happens n s (xs ++ ys) acts
happens_others n s xs ys [] grow none h = none_append n xs ys none h
happens_others n s xs ys (makes p ∷ acts) grow none (others, rest, is, other, pass, before, known, h) = (
  xs ++ others,
  rest,
  ap (λ (ts : List Turn). xs ++ ts) is ∙ sym (append_assoc xs others (p.turn ∷ rest)),
  none_append n xs others none other,
  pass,
  before ∙ sym (state_append s xs others),
  omega (arith, grow, known),
  h,
)
happens_others n s xs ys (looks state ∷ acts) grow none (others, rest, is, other, shows, h) = (
  xs ++ others,
  rest,
  ap (λ (ts : List Turn). xs ++ ts) is ∙ sym (append_assoc xs others rest),
  none_append n xs others none other,
  shows ∙ sym (state_append s xs others),
  h,
)
happens_others n s xs ys (reads piece ∷ acts) grow none h = happens_others n s xs ys acts grow none h
happens_others n s xs ys (ticks reading ∷ acts) grow none h = happens_others n s xs ys acts grow none h
happens_others n s xs ys (tries claim outcome ∷ acts) grow none h = happens_others n s xs ys acts grow none h
happens_others n s xs ys (writes bytes ∷ acts) grow none h = happens_others n s xs ys acts grow none h

-- the state after turns of others and one turn
pub state_here : (s : State) (others rest : List Turn) (p : Placed) → p.before ≡ state_after others s
    → state_after (others ++ p.turn ∷ rest) s ≡ state_after rest (after_turn p.turn p.before)
state_here s others rest p before =
    state_append s others (p.turn ∷ rest) ∙ ap (λ (t : State). state_after rest (after_turn p.turn t)) (sym before)

-- acts, and then later ones
pub happens_append : (n : ℕ) (s : State) (xs ys : List Turn) (first second : List Act) → AreTurnsFrom s xs → Happens n s xs first
    → Happens n (state_after xs s) ys second → Happens n s (xs ++ ys) (first ++ second)
happens_append n s xs ys [] second legal h later = happens_others n s xs ys second (versions_grow xs s legal) h later
happens_append n s xs ys (makes p ∷ first) second legal (others, rest, is, other, pass, before, known, h) later =
    let there : AreTurnsFrom (after_turn p.turn p.before) rest =
    subst (λ (t : State). AreTurnsFrom (after_turn p.turn t) rest) (sym before) (turns_back s others (p.turn ∷ rest) (subst (AreTurnsFrom s) is legal)).1.1 in
    let state : state_after xs s ≡ state_after rest (after_turn p.turn p.before) =
    ap (λ (ts : List Turn). state_after ts s) is ∙ state_here s others rest p before in (
      others,
      rest ++ ys,
      ap (λ (ts : List Turn). ts ++ ys) is ∙ append_assoc others (p.turn ∷ rest) ys,
      other,
      pass,
      before,
      known,
      happens_append n (after_turn p.turn p.before) rest ys first second there h (subst (λ (t : State). Happens n t ys second) state later),
    )
happens_append n s xs ys (looks state ∷ first) second legal (others, rest, is, other, shows, h) later =
    let there : AreTurnsFrom state rest =
    subst (λ (t : State). AreTurnsFrom t rest) (sym shows) (turns_back s others rest (subst (AreTurnsFrom s) is legal)).1 in
    let now : state_after xs s ≡ state_after rest state =
    ap (λ (ts : List Turn). state_after ts s) is ∙ state_append s others rest ∙ ap (λ (t : State). state_after rest t) (sym shows) in (
      others,
      rest ++ ys,
      ap (λ (ts : List Turn). ts ++ ys) is ∙ append_assoc others rest ys,
      other,
      shows,
      happens_append n state rest ys first second there h (subst (λ (t : State). Happens n t ys second) now later),
    )
happens_append n s xs ys (reads piece ∷ first) second legal h later = happens_append n s xs ys first second legal h later
happens_append n s xs ys (ticks reading ∷ first) second legal h later = happens_append n s xs ys first second legal h later
happens_append n s xs ys (tries claim outcome ∷ first) second legal h later = happens_append n s xs ys first second legal h later
happens_append n s xs ys (writes bytes ∷ first) second legal h later = happens_append n s xs ys first second legal h later

-- the history sees only turns and looks
pub happens_full : (n : ℕ) (s : State) (added : List Turn) (acts : List Act) → Happens n s added (book_acts_in acts) → Happens n s added acts
happens_full n s added [] h = h
happens_full n s added (makes p ∷ acts) (others, rest, is, other, pass, before, known, h) =
    (others, rest, is, other, pass, before, known, happens_full n (after_turn p.turn p.before) rest acts h)
happens_full n s added (looks state ∷ acts) (others, rest, is, other, shows, h) = (others, rest, is, other, shows, happens_full n state rest acts h)
happens_full n s added (reads piece ∷ acts) h = happens_full n s added acts h
happens_full n s added (ticks reading ∷ acts) h = happens_full n s added acts h
happens_full n s added (tries claim outcome ∷ acts) h = happens_full n s added acts h
happens_full n s added (writes bytes ∷ acts) h = happens_full n s added acts h

pub named_full : (connection : Option ℕ) (acts : List Act) → All (IsNamed connection) (book_acts_in acts) → All (IsNamed connection) acts
named_full connection [] all = all
named_full connection (makes p ∷ acts) all =
    All-cons (IsNamed connection) (makes p) acts (All-head (IsNamed connection) (makes p) (book_acts_in acts) all)
    (named_full connection acts (All-tail (IsNamed connection) (makes p) (book_acts_in acts) all))
named_full connection (looks state ∷ acts) all =
    All-cons (IsNamed connection) (looks state) acts tt (named_full connection acts (All-tail (IsNamed connection) (looks state) (book_acts_in acts) all))
named_full connection (reads piece ∷ acts) all = All-cons (IsNamed connection) (reads piece) acts tt (named_full connection acts all)
named_full connection (ticks reading ∷ acts) all = All-cons (IsNamed connection) (ticks reading) acts tt (named_full connection acts all)
named_full connection (tries claim outcome ∷ acts) all = All-cons (IsNamed connection) (tries claim outcome) acts tt (named_full connection acts all)
named_full connection (writes bytes ∷ acts) all = All-cons (IsNamed connection) (writes bytes) acts tt (named_full connection acts all)

pub makes_none : (seat : Seat) (turns : List Turn) → Makes seat [] turns turns
makes_none seat turns = record { added = []; turns = sym (append-nil turns); happens = refl; named = All-nil (IsNamed seat.connection) }

-- the state of a longer history
pub state_longer : (old added new : List Turn) → new ≡ old ++ added → state_of new ≡ state_after added (state_of old)
state_longer old added new is = ap state_of is ∙ state_append _ old added

-- acts, and then later ones; the turns that were added first are legal
pub makes_joined : (seat : Seat) (first second : List Act) (old mid new : List Turn) (one : Makes seat first old mid) → AreTurnsFrom (state_of old) one.added
    → Makes seat second mid new → Makes seat (first ++ second) old new
makes_joined seat first second old mid new one legal two = record {
  added = one.added ++ two.added;
  turns = two.turns ∙ ap (λ (ts : List Turn). ts ++ two.added) one.turns ∙ append_assoc old one.added two.added;
  happens = happens_append seat.pass (state_of old) one.added two.added first second legal one.happens
      (subst (λ (s : State). Happens seat.pass s two.added second) (state_longer old one.added mid one.turns) two.happens);
  named = All-append (IsNamed seat.connection) first second one.named two.named;
}

-- one turn of the seat
pub makes_one : (seat : Seat) (old new : List Turn) (turn : Turn) → new ≡ old ++ turn ∷ [] → turn.pass ≡ Some seat.pass
    → turn.connection ≡ seat.connection → last_version (state_of old) ≤ turn.k → Makes seat (makes (record { before = state_of old; turn = turn }) ∷ []) old new
makes_one seat old new turn is pass connection known =
    let act : Act = makes (record { before = state_of old; turn = turn }) in
    record {
      added = turn ∷ [];
      turns = is;
      happens = ([], [], refl, refl, pass, refl, known, refl);
      named = All-cons (IsNamed seat.connection) act [] connection (All-nil (IsNamed seat.connection));
    }

-- what others made, and a look at the end
pub makes_look : (seat : Seat) (old new : List Turn) → Makes seat [] old new → Makes seat (looks (state_of new) ∷ []) old new
makes_look seat old new m = record {
  added = m.added;
  turns = m.turns;
  happens = (m.added, [], sym (append-nil m.added), m.happens, state_longer old m.added new m.turns, refl);
  named = All-cons (IsNamed seat.connection) (looks (state_of new)) [] tt (All-nil (IsNamed seat.connection));
}

-- all acts, from those on the book
pub makes_full : (seat : Seat) (acts : List Act) (old new : List Turn) → Makes seat (book_acts_in acts) old new → Makes seat acts old new
makes_full seat acts old new m = record {
  added = m.added;
  turns = m.turns;
  happens = happens_full seat.pass (state_of old) m.added acts m.happens;
  named = named_full seat.connection acts m.named;
}
