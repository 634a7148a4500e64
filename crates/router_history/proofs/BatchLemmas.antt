-- The batches of turns, and those whose append failed: `batches_append`, `none_unacknowledged`; what one turn more adds: `after_one`, `legal_one`, `batches_one`,
-- `unacknowledged_one`, `disk_one`, `found_one`, `appended_one`; the batches are those that were found and those that were appended: `batches_split`.
use Rattle.std.proofs.Common.{◌≡◌, true, false, List, [], ◌∷◌, ◌++◌, Option, Some, None, refl, sym, ap, ◌∙◌, append_assoc, append-nil}
use Rattle.std.proofs.lemmas.Bool.{true≢false}
use Rattle.router_requests.specs.Batch.{Batch}
use Rattle.router_core.specs.Tables.{first_tables}
use Rattle.router_history.specs.History.{Turn, State, Ask, opens, asked, claims, records, puts_back, repeats, breaks, found_by, with_written, begun, state_of, state_after, batches_of, unacknowledged_by, unacknowledged_of}
use Rattle.router_history.specs.History.{after_ask, after_turn, IsTurnFor, AreTurnsFrom, IsLegal}
use Rattle.router_history.specs.Book.{IsBook}
use Rattle.router_history.specs.Home.{found_of, appended_of}
use Rattle.router_history.proofs.TurnLemmas.{state_append}
use Rattle.router_history.proofs.SteadyLemmas.{disk_ask, broken_written}
use Rattle.router_history.proofs.BookLemmas.{added_legal}

-- ---- the batches of turns

pub batches_append : (ts us : List Turn) → batches_of (ts ++ us) ≡ batches_of ts ++ batches_of us
batches_append [] us = refl
batches_append (t ∷ ts) us =
    ap (λ bs. found_by t.ask ++ with_written t.batch bs) (batches_append ts us)
    ∙ ap (λ bs. found_by t.ask ++ bs) (written_append t.batch (batches_of ts) (batches_of us))
    ∙ sym (append_assoc (found_by t.ask) (with_written t.batch (batches_of ts)) (batches_of us))
  where
    written_append : (b : Option Batch) (xs ys : List Batch) → with_written b (xs ++ ys) ≡ with_written b xs ++ ys
    written_append None xs ys = refl
    written_append (Some b) xs ys = refl

-- what one turn more adds: it opens no book
pub one_batch : (s : State) (turn : Turn) (ask : Ask) (batch : Option Batch) → turn.ask ≡ ask → turn.batch ≡ batch → IsTurnFor s turn turn.ask
    → batches_of (turn ∷ []) ≡ with_written batch []
one_batch s turn ask batch is wrote legal = ap (λ bs. bs ++ with_written turn.batch []) (found_none s turn turn.ask legal) ∙ ap (λ b. with_written b []) wrote
  where
    found_none : (s : State) (turn : Turn) (ask : Ask) → IsTurnFor s turn ask → found_by ask ≡ []
    found_none s turn (opens start found disk) legal = absurd legal
    found_none s turn _ legal = refl

-- ---- the batches whose append failed: none, if the book is not broken

-- a broken book stays broken
stays_ask : (turn : Turn) (ask : Ask) (s : State) → IsTurnFor s turn ask → s.broken ≡ true → (after_ask turn ask s).broken ≡ true
stays_ask turn (opens start found disk) s is broken = absurd is
stays_ask turn (asked request) s is broken = broken_written turn.batch s ∙ broken
stays_ask turn (claims c) s is broken = broken
stays_ask turn (records a) s is broken = broken_written turn.batch s ∙ broken
stays_ask turn (puts_back c why) s is broken = broken
stays_ask turn (repeats reading) s is broken = broken_written turn.batch s ∙ broken
stays_ask turn (breaks unsure) s is broken = refl

stays_broken : (turns : List Turn) (s : State) → AreTurnsFrom s turns → s.broken ≡ true → (state_after turns s).broken ≡ true
stays_broken [] s legal broken = broken
stays_broken (turn ∷ turns) s legal broken = stays_broken turns (after_turn turn s) legal.1 (stays_ask turn turn.ask s legal.0.made_for broken)

none_by : (turn : Turn) (ask : Ask) (s : State) → ((after_ask turn ask s).broken ≡ true → ⊥) → unacknowledged_by ask ≡ []
none_by turn (opens start found disk) s never = refl
none_by turn (asked request) s never = refl
none_by turn (claims c) s never = refl
none_by turn (records a) s never = refl
none_by turn (puts_back c why) s never = refl
none_by turn (repeats reading) s never = refl
none_by turn (breaks unsure) s never = absurd (never refl)

none_after : (turns : List Turn) (s : State) → AreTurnsFrom s turns → (state_after turns s).broken ≡ false → unacknowledged_of turns ≡ []
none_after [] s legal whole = refl
none_after (turn ∷ turns) s legal whole =
    ap (λ bs. bs ++ unacknowledged_of turns)
    (none_by turn turn.ask s (λ broken. absurd (true≢false (sym (stays_broken turns (after_turn turn s) legal.1 broken) ∙ whole))))
    ∙ none_after turns (after_turn turn s) legal.1 whole

pub none_unacknowledged : (turns : List Turn) → IsLegal turns → (state_of turns).broken ≡ false → unacknowledged_of turns ≡ []
none_unacknowledged [] legal whole = refl
none_unacknowledged (turn ∷ turns) legal whole =
    ap (λ (a : Ask). unacknowledged_by a ++ unacknowledged_of turns) legal.0.ask ∙ none_after turns (after_turn turn (begun first_tables)) legal.1 whole

unacknowledged_append : (ts us : List Turn) → unacknowledged_of (ts ++ us) ≡ unacknowledged_of ts ++ unacknowledged_of us
unacknowledged_append [] us = refl
unacknowledged_append (t ∷ ts) us =
    ap (λ bs. unacknowledged_by t.ask ++ bs) (unacknowledged_append ts us)
    ∙ sym (append_assoc (unacknowledged_by t.ask) (unacknowledged_of ts) (unacknowledged_of us))

-- what one turn more adds
pub unacknowledged_one : (old new : List Turn) (turn : Turn) (ask : Ask) → turn.ask ≡ ask → new ≡ old ++ turn ∷ []
    → unacknowledged_of new ≡ unacknowledged_of old ++ unacknowledged_by ask
unacknowledged_one old new turn ask is turns =
    ap unacknowledged_of turns ∙ unacknowledged_append old (turn ∷ [])
    ∙ ap (λ bs. unacknowledged_of old ++ bs) (append-nil (unacknowledged_by turn.ask) ∙ ap unacknowledged_by is)

-- ---- one turn more

-- the state after it
pub after_one : (old new : List Turn) (turn : Turn) (ask : Ask) → turn.ask ≡ ask → new ≡ old ++ turn ∷ [] → state_of new ≡ after_ask turn ask (state_of old)
after_one old new turn ask is turns = ap state_of turns ∙ state_append _ old (turn ∷ []) ∙ ap (λ a. after_ask turn a (state_of old)) is

pub legal_one : (old new : List Turn) (turn : Turn) → IsBook old → IsBook new → new ≡ old ++ turn ∷ [] → IsTurnFor (state_of old) turn turn.ask
legal_one old new turn h h_new turns = (added_legal old new (turn ∷ []) h h_new turns).0.made_for

pub batches_one : (old new : List Turn) (turn : Turn) (ask : Ask) (batch : Option Batch) → IsBook old → IsBook new → turn.ask ≡ ask → turn.batch ≡ batch
    → new ≡ old ++ turn ∷ [] → batches_of new ≡ batches_of old ++ with_written batch []
batches_one old new turn ask batch h h_new is wrote turns =
    ap batches_of turns ∙ batches_append old (turn ∷ []) ∙ ap (λ bs. batches_of old ++ bs) (one_batch (state_of old) turn ask batch is wrote (legal_one old new turn h h_new turns))

pub disk_one : (old new : List Turn) (turn : Turn) → IsBook old → IsBook new → new ≡ old ++ turn ∷ [] → (state_of new).disk ≡ (state_of old).disk
disk_one old new turn h h_new turns =
    ap (λ (s : State). s.disk) (after_one old new turn turn.ask refl turns) ∙ disk_ask turn turn.ask (state_of old) (legal_one old new turn h h_new turns)

pub found_one : (old new : List Turn) (turn : Turn) → IsBook old → new ≡ old ++ turn ∷ [] → found_of new ≡ found_of old
found_one old new turn h turns = ap found_of turns ∙ ap (λ (ts : List Turn). found_of (ts ++ turn ∷ [])) h.opened ∙ sym (ap found_of h.opened)

pub appended_one : (old new : List Turn) (turn : Turn) (ask : Ask) (batch : Option Batch) → IsBook old → IsBook new → turn.ask ≡ ask → turn.batch ≡ batch
    → new ≡ old ++ turn ∷ [] → appended_of new ≡ appended_of old ++ with_written batch []
appended_one old new turn ask batch h h_new is wrote turns =
    ap appended_of turns ∙ ap (λ (ts : List Turn). appended_of (ts ++ turn ∷ [])) h.opened ∙ batches_append h.later (turn ∷ [])
    ∙ ap (λ bs. batches_of h.later ++ bs) (one_batch (state_of old) turn ask batch is wrote (legal_one old new turn h h_new turns))
    ∙ ap (λ bs. bs ++ with_written batch []) (sym (ap appended_of h.opened))

pub batches_split : (turns : List Turn) → IsBook turns → batches_of turns ≡ found_of turns ++ appended_of turns
batches_split turns h = ap batches_of h.opened ∙ sym (ap (λ (ts : List Turn). found_of ts ++ appended_of ts) h.opened)
