-- From the hall's clauses to what a pass knows of the history. Other files cite `seen_of`, `learned`, `IsTaken`, `taken`, `answered_later`, `claimed_later`, `recorded_later`, `unrecorded_later`, `unanswered_later`,
-- `back_later`, `repeated_later`, `no_repeat_later`, `unrepeated_later`, `rests_there`, `holds_there`, `rests_more`, `looked`, `extends`, `extends_none`, `sees_more`, `sees_same`,
-- `same_again`, `same_seat`, `sees_again`, `sees_none`, `pass_of`, `reply_ok`, `reply_err`, `step_ok`, `step_err`, `step_each`.
use Rattle.std.proofs.Common.{◌≡◌, inl, inr, ℕ, true, false, cond, List, [], ◌∷◌, ◌++◌, map, Option, Some, None, Result, Ok, Err, is_some, refl, sym, ap, ◌∙◌, subst, append-nil, append_assoc}
use Rattle.std.specs.Prelude.{Bool, IfOk, IfErr, IfSome, IfNone, MatchBool, MatchResult}
use Rattle.std.proofs.lemmas.Bool.{eq-eqb}
use Rattle.std.proofs.lemmas.List.{map-append, append_cancel_left}
use Rattle.std.proofs.lemmas.List.Elements.{filter-append, All-weaker, All-nil}
use Rattle.turn_book.specs.Rule.{is_number, names_only, Learns}
use Rattle.turn_book.specs.Rule as book
use Rattle.turn_book.specs.Passes.{view, Extends, IsSamePass}
use Rattle.delivery_duties.specs.declared.outcome.Outcome.{Outcome}
use Rattle.delivery_duties.specs.declared.outcome.Fate.{Fate}
use Rattle.router_requests.specs.Request.{Request}
use Rattle.courier_run.specs.declared.book.BookFault.{BookFault}
use Rattle.courier_run.specs.Claim.{Claim}
use Rattle.courier_run.specs.Act.{looks, makes}
use Rattle.courier_run.specs.Steps.{Why}
use Rattle.step_run.specs.declared.fault.StepFault.{StepFault}
use Rattle.router_history.specs.declared.book.Machine.{Machine}
use Rattle.router_history.specs.declared.book.Seat.{Seat}
use Rattle.router_history.specs.declared.book.TurnReply.{TurnReply}
use Rattle.router_history.specs.declared.history.Turn.{Turn}
use Rattle.router_history.specs.History.{State, claims_of, state_of, turns_by}
use Rattle.router_history.specs.History as history
use Rattle.router_history.specs.Book.{recorded_in, turns_of, turn_of, IsBook, IsSoundMachine, HasGrown, Rests, Holds}
use Rattle.router_history.specs.Acts.{Act, act_of, Makes, IsNamed, IsNoneRunning}
use Rattle.router_history.specs.Answered.{IsAnswered, IsUnanswered, IsClaimed, IsRecorded, IsUnrecordedBy, IsPutBack, IsRepeated, HasNoRepeat, IsUnrepeated}
use Rattle.router_history.specs.Session.{IsFailed}
use Rattle.router_sessions.specs.Desk.{Known, seen_by, turns_seen, number_of, seat_of, SeesMore}
use Rattle.router_history.proofs.TurnLemmas.{none_of_mine, claims_stay}
use Rattle.router_history.proofs.BookLemmas.{added_legal}
use Rattle.router_history.proofs.ActLemmas.{makes_joined, makes_look, state_longer}

-- the pass that made a turn
abbrev pub maker : Turn → Option ℕ
maker t = t.pass

-- what a pass knows once it has seen all turns of the book
pub seen_of : {V : Type 0} (b : Machine) (known : Known V) → seen_by known ≡ recorded_in b.history → turns_seen known ≡ turns_of b
seen_of b known e = ap (map turn_of) e

pub own_turns : (n : ℕ) (turns : List Turn) → turns_by n (map turn_of turns) ≡ map turn_of (book.turns_by maker n turns)
own_turns n [] = refl
own_turns n (t ∷ ts) =
    elim (is_number t.pass n) as (λ b. cond b (turn_of t ∷ turns_by n (map turn_of ts)) (turns_by n (map turn_of ts))
    ≡ map turn_of (cond b (t ∷ book.turns_by maker n ts) (book.turns_by maker n ts))) [
      | true ↦ ap (λ (us : List history.Turn). turn_of t ∷ us) (own_turns n ts)
      | false ↦ own_turns n ts
    ]

-- turns that were added and left those of a pass as they were
pub none_added : (n : ℕ) (seen rest later : List Turn) → seen ++ rest ≡ later → book.turns_by maker n later ≡ book.turns_by maker n seen
    → turns_by n (map turn_of rest) ≡ []
none_added n seen rest later is same =
    let own : List Turn → List Turn = book.turns_by maker n in
    own_turns n rest ∙ ap (map turn_of) (append_cancel_left (own seen) (own rest) []
    (sym (filter-append (λ (t : Turn). is_number t.pass n) seen rest) ∙ ap own is ∙ same ∙ sym (append-nil (own seen))))

-- the pass learned what the book has beyond what it had seen
pub learned : {V : Type 0} (seat : Seat) (old : Known V) (b : Machine) → seat.pass ≡ number_of old → Learns maker (view old) (recorded_in b.history)
    → Makes seat [] (turns_seen old) (turns_of b)
learned seat old b number ((rest, is), same) = record {
  added = map turn_of rest;
  turns = sym (ap (map turn_of) is) ∙ map-append turn_of (seen_by old) rest;
  happens = ap (λ (k : ℕ). turns_by k (map turn_of rest)) number ∙ none_added (number_of old) (seen_by old) rest (recorded_in b.history) is same;
  named = All-nil (IsNamed seat.connection);
}

-- a turn of the seat's pass, from the book that it took to the one that it gave
pub record IsTaken {V : Type 0} (seat : Seat) (old new : Known V) (b b_new : Machine) : Type 0 where
  pub book : IsBook (turns_seen old)
  pub learned : Makes seat [] (turns_seen old) (turns_of b)
  pub kept : IsSoundMachine b
  pub seen : turns_seen new ≡ turns_of b_new

pub taken : {V : Type 0} (seat : Seat) (old new : Known V) (b b_new : Machine) → seat.pass ≡ number_of old → IsBook (turns_seen old)
    → Learns maker (view old) (recorded_in b.history) → IsSoundMachine b → seen_by new ≡ recorded_in b_new.history → IsTaken seat old new b b_new
taken seat old new b b_new number is learns kept seen =
    record { book = is; learned = learned seat old b number learns; kept = kept; seen = seen_of b_new new seen }

makes_later : {V : Type 0} (seat : Seat) (acts : List Act) (old new : Known V) (b b_new : Machine) → IsTaken seat old new b b_new → Makes seat acts (turns_of b) (turns_of b_new)
    → Makes seat acts (turns_seen old) (turns_seen new)
makes_later seat acts old new b b_new t m =
    subst (λ (ts : List history.Turn). Makes seat acts (turns_seen old) ts) (sym t.seen)
    (makes_joined seat [] acts (turns_seen old) (turns_of b) (turns_of b_new) t.learned
    (added_legal (turns_seen old) (turns_of b) t.learned.added t.book t.kept.book t.learned.turns) m)

pub answered_later : {V : Type 0} {seat : Seat} {old new : Known V} {b b_new : Machine} (request : Request) (close : Bool) (reply : TurnReply) → IsTaken seat old new b b_new
    → IsAnswered seat (turns_of b) (turns_of b_new) request close reply → IsAnswered seat (turns_seen old) (turns_seen new) request close reply
answered_later {V} {seat} {old} {new} {b} {b_new} request close reply t a = record {
  placed = a.placed;
  makes = makes_later seat (makes a.placed ∷ []) old new b b_new t a.makes;
  replied = a.replied;
  replies = a.replies;
  text = a.text;
  unwritten = a.unwritten;
  written = a.written;
}

pub unanswered_later : {V : Type 0} {seat : Seat} {old new : Known V} {b b_new : Machine} (request : Request) → IsTaken seat old new b b_new
    → IsUnanswered seat (turns_of b) (turns_of b_new) request → IsUnanswered seat (turns_seen old) (turns_seen new) request
unanswered_later {V} {seat} {old} {new} {b} {b_new} request t (inl (p, m, fails)) = inl (p, makes_later seat (makes p ∷ []) old new b b_new t m, fails)
unanswered_later {V} {seat} {old} {new} {b} {b_new} request t (inr (m, failed)) =
    inr (subst (λ (ts : List history.Turn). Makes seat (looks (state_of ts) ∷ []) (turns_seen old) (turns_seen new) × IsFailed (state_of ts) request) (sym t.seen)
    (makes_later seat (looks (state_of (turns_of b_new)) ∷ []) old new b b_new t m, failed))

pub claimed_later : {V : Type 0} {seat : Seat} {old new : Known V} {b b_new : Machine} (moment : ℕ) (c : Claim) → IsTaken seat old new b b_new
    → IsClaimed seat moment (turns_of b) (turns_of b_new) c → IsClaimed seat moment (turns_seen old) (turns_seen new) c
claimed_later {V} {seat} {old} {new} {b} {b_new} moment c t a = record {
  placed = a.placed;
  makes = makes_later seat (makes a.placed ∷ []) old new b b_new t a.makes;
  claims = a.claims;
  holds = subst (λ (ts : List history.Turn). Holds seat.pass ts c) (sym t.seen) a.holds;
}

pub recorded_later : {V : Type 0} {seat : Seat} {old new : Known V} {b b_new : Machine} (c : Claim) (had : Outcome) (fate : Fate) → IsTaken seat old new b b_new
    → IsRecorded seat c had fate (turns_of b) (turns_of b_new) → IsRecorded seat c had fate (turns_seen old) (turns_seen new)
recorded_later {V} {seat} {old} {new} {b} {b_new} c had fate t a =
    record { placed = a.placed; makes = makes_later seat (makes a.placed ∷ []) old new b b_new t a.makes; records = a.records }

pub unrecorded_later : {V : Type 0} {seat : Seat} {old new : Known V} {b b_new : Machine} (c : Claim) (had : Outcome) (fault : BookFault) → IsTaken seat old new b b_new
    → IsUnrecordedBy seat c had fault (turns_of b) (turns_of b_new) → IsUnrecordedBy seat c had fault (turns_seen old) (turns_seen new)
unrecorded_later {V} {seat} {old} {new} {b} {b_new} c had fault t a =
    record { acts = a.acts; makes = makes_later seat a.acts old new b b_new t a.makes; ends = a.ends }

pub back_later : {V : Type 0} {seat : Seat} {old new : Known V} {b b_new : Machine} (c : Claim) (why : Why) → IsTaken seat old new b b_new
    → IsPutBack seat c why (turns_of b) (turns_of b_new) → IsPutBack seat c why (turns_seen old) (turns_seen new)
back_later {V} {seat} {old} {new} {b} {b_new} c why t a =
    record { placed = a.placed; makes = makes_later seat (makes a.placed ∷ []) old new b b_new t a.makes; puts_back = a.puts_back }

pub repeated_later : {V : Type 0} {seat : Seat} {old new : Known V} {b b_new : Machine} (moment : ℕ) → IsTaken seat old new b b_new
    → IsRepeated seat moment (turns_of b) (turns_of b_new) → IsRepeated seat moment (turns_seen old) (turns_seen new)
repeated_later {V} {seat} {old} {new} {b} {b_new} moment t a =
    record { placed = a.placed; makes = makes_later seat (makes a.placed ∷ []) old new b b_new t a.makes; repeats = a.repeats }

pub no_repeat_later : {V : Type 0} {seat : Seat} {old new : Known V} {b b_new : Machine} (moment : ℕ) → IsTaken seat old new b b_new
    → HasNoRepeat seat moment (turns_of b) (turns_of b_new) → HasNoRepeat seat moment (turns_seen old) (turns_seen new)
no_repeat_later {V} {seat} {old} {new} {b} {b_new} moment t (m, none) =
    subst (λ (ts : List history.Turn). Makes seat (looks (state_of ts) ∷ []) (turns_seen old) (turns_seen new) × IsNoneRunning (state_of ts) moment) (sym t.seen)
    (makes_later seat (looks (state_of (turns_of b_new)) ∷ []) old new b b_new t m, none)

pub unrepeated_later : {V : Type 0} {seat : Seat} {old new : Known V} {b b_new : Machine} (moment : ℕ) (fault : StepFault) → IsTaken seat old new b b_new
    → IsUnrepeated seat moment fault (turns_of b) (turns_of b_new) → IsUnrepeated seat moment fault (turns_seen old) (turns_seen new)
unrepeated_later {V} {seat} {old} {new} {b} {b_new} moment fault t a =
    record { acts = a.acts; makes = makes_later seat (map act_of a.acts) old new b b_new t a.makes; refused = a.refused }

-- turns of others make no claim of this pass
pub rests_more : (seat : Seat) (old new : List history.Turn) → Makes seat [] old new → Rests seat.pass old → Rests seat.pass new
rests_more seat old new m rests =
    ap (λ (s : State). claims_of seat.pass s.open_claims) (state_longer old m.added new m.turns)
    ∙ none_of_mine seat.pass m.added (state_of old) m.happens rests

-- they end none either
holds_more : (seat : Seat) (old new : List history.Turn) (c : Claim) → IsBook old → IsBook new → Makes seat [] old new → Holds seat.pass old c
    → Holds seat.pass new c
holds_more seat old new c h h_new m holds =
    ap (λ (s : State). claims_of seat.pass s.open_claims) (state_longer old m.added new m.turns)
    ∙ claims_stay seat.pass m.added (state_of old) (added_legal old new m.added h h_new m.turns) m.happens ∙ holds

-- in the book that was taken the pass has no claim, or its claim
pub rests_there : {V : Type 0} (seat : Seat) (old : Known V) (b : Machine) → seat.pass ≡ number_of old → Learns maker (view old) (recorded_in b.history)
    → Rests (number_of old) (turns_seen old) → Rests seat.pass (turns_of b)
rests_there seat old b number learns rests =
    rests_more seat (turns_seen old) (turns_of b) (learned seat old b number learns)
    (subst (λ (n : ℕ). Rests n (turns_seen old)) (sym number) rests)

pub holds_there : {V : Type 0} (seat : Seat) (old : Known V) (b : Machine) (c : Claim) → seat.pass ≡ number_of old → IsBook (turns_seen old) → IsSoundMachine b
    → Learns maker (view old) (recorded_in b.history) → Holds (number_of old) (turns_seen old) c → Holds seat.pass (turns_of b) c
holds_there seat old b c number h kept learns holds =
    holds_more seat (turns_seen old) (turns_of b) c h kept.book (learned seat old b number learns)
    (subst (λ (n : ℕ). Holds n (turns_seen old) c) (sym number) holds)

-- the turn left the history as it was
pub learned_alone : {V : Type 0} (seat : Seat) (old new : Known V) (b b_new : Machine) → seat.pass ≡ number_of old → Learns maker (view old) (recorded_in b.history)
    → seen_by new ≡ recorded_in b_new.history → turns_of b_new ≡ turns_of b → Makes seat [] (turns_seen old) (turns_seen new)
learned_alone seat old new b b_new number learns seen same =
    subst (λ (ts : List history.Turn). Makes seat [] (turns_seen old) ts) (sym (seen_of b_new new seen ∙ same)) (learned seat old b number learns)

-- the same as a look
pub looked : {V : Type 0} (seat : Seat) (old new : Known V) (b b_new : Machine) → seat.pass ≡ number_of old → Learns maker (view old) (recorded_in b.history)
    → seen_by new ≡ recorded_in b_new.history → turns_of b_new ≡ turns_of b
    → Makes seat (looks (state_of (turns_seen new)) ∷ []) (turns_seen old) (turns_seen new)
looked seat old new b b_new number learns seen same =
    makes_look seat (turns_seen old) (turns_seen new) (learned_alone seat old new b b_new number learns seen same)

-- the turns that the seat added are those of its pass
pub extends : {V : Type 0} (seat : Seat) (mid : Known V) (b b_new : Machine) → HasGrown seat b b_new → seen_by mid ≡ recorded_in b.history → seat.pass ≡ number_of mid
    → Extends maker (number_of mid) (seen_by mid) (recorded_in b_new.history)
extends seat mid b b_new (more, is, own) seen number = (
  more,
  is ∙ ap (λ (ts : List Turn). ts ++ more) (sym seen),
  All-weaker (λ (t : Turn). t.pass ≡ Some seat.pass) (λ (t : Turn). names_only (number_of mid) t.pass ≡ true)
      (λ t e. ap (names_only (number_of mid)) {x = t.pass} {y = Some seat.pass} e ∙ eq-eqb seat.pass (number_of mid) number) more own,
)

-- a pass that made no turn gives the book as it took it
pub extends_none : {V : Type 0} (mid : Known V) (b : Machine) → seen_by mid ≡ recorded_in b.history → Extends maker (number_of mid) (seen_by mid) (recorded_in b.history)
extends_none mid b seen = ([], sym seen ∙ sym (append-nil (seen_by mid)), All-nil (λ (t : Turn). names_only (number_of mid) t.pass ≡ true))

-- what the pass had seen, then what others made, then its own turns
pub sees_more : {V : Type 0} (seat : Seat) (old new : Known V) (b b_new : Machine) → Learns maker (view old) (recorded_in b.history) → HasGrown seat b b_new
    → seen_by new ≡ recorded_in b_new.history → SeesMore old new
sees_more seat old new b b_new ((rest, is), same) (more, grown, own) seen = (
  rest ++ more,
  seen ∙ grown ∙ ap (λ (ts : List Turn). ts ++ more) (sym is) ∙ append_assoc (seen_by old) rest more,
)

-- the same of a turn that left the history as it was
pub sees_same : {V : Type 0} (old new : Known V) (b : Machine) → Learns maker (view old) (recorded_in b.history) → seen_by new ≡ recorded_in b.history → SeesMore old new
sees_same old new b ((rest, is), same) seen = (rest, seen ∙ sym is)

-- one pass at two times
pub same_again : {V : Type 0} (first mid last : Known V) → IsSamePass first mid → IsSamePass mid last → IsSamePass first last
same_again first mid last (t, n, p, m) (t2, n2, p2, m2) = (t2 ∙ t, n2 ∙ n, p2 ∙ p, m2 ∙ m)

pub same_seat : {V : Type 0} (connection : Option ℕ) (first last : Known V) → IsSamePass first last → seat_of connection last ≡ seat_of connection first
same_seat connection first last (t, n, p, m) = ap (λ (k : ℕ). record { pass = k; connection = connection }) n

-- the pass saw more, and then more
pub sees_again : {V : Type 0} (first mid last : Known V) → SeesMore first mid → SeesMore mid last → SeesMore first last
sees_again first mid last (xs, one) (ys, two) =
    (xs ++ ys, two ∙ ap (λ (ts : List Turn). ts ++ ys) one ∙ append_assoc (seen_by first) xs ys)

pub sees_none : {V : Type 0} (known : Known V) → SeesMore known known
sees_none known = ([], sym (append-nil (seen_by known)))

-- the seat of the pass, before its turn and while it has it
pub own_number : {V : Type 0} (connection : Option ℕ) (old : Known V) (seat : Seat) → seat ≡ seat_of connection old → seat.pass ≡ number_of old
own_number connection old seat is = ap (λ (s : Seat). s.pass) is

pub pass_of : {V : Type 0} (connection : Option ℕ) (old mid : Known V) (seat : Seat) → seat ≡ seat_of connection old → IsSamePass old mid → seat.pass ≡ number_of mid
pass_of connection old mid seat is (t, n, p, m) = ap (λ (s : Seat). s.pass) is ∙ sym n

-- a reply that was made is that of the turn
pub reply_ok : {A B E : Type 0} (f : A → B) (made : Result A E) (result : Result B E) (P : B → Type 0)
    → MatchResult made (λ m. result ≡ Ok (f m)) (λ e. result ≡ Err e) → IfOk made (λ m. P (f m)) → IfOk result P
reply_ok f (Ok m) result P is p = subst (λ r. IfOk r P) (sym is) p
reply_ok f (Err e) result P is p = subst (λ r. IfOk r P) (sym is) tt

pub reply_err : {A B E : Type 0} (f : A → B) (made : Result A E) (result : Result B E) (e : E)
    → MatchResult made (λ m. result ≡ Ok (f m)) (λ d. result ≡ Err d) → result ≡ Err e → made ≡ Err e
reply_err f (Ok m) result e is failed = absurd (cc (is, failed))
reply_err f (Err d) result e is failed = ap Err (cc (is, failed))

-- whether a step was made, once what it released is freed
pub step_ok : {A E : Type 0} (stepped : Result (Option A) E) (result : Result Bool E) (P Q : Type 0)
    → MatchResult stepped (λ found. result ≡ Ok (is_some found)) (λ e. result ≡ Err e) → IfOk stepped (λ found. IfSome found (λ _. P))
    → IfOk stepped (λ found. IfNone found Q) → IfOk result (λ made. MatchBool made P Q)
step_ok (Ok (Some a)) result P Q is p q = subst (λ r. IfOk r (λ made. MatchBool made P Q)) (sym is) p
step_ok (Ok None) result P Q is p q = subst (λ r. IfOk r (λ made. MatchBool made P Q)) (sym is) q
step_ok (Err e) result P Q is p q = subst (λ r. IfOk r (λ made. MatchBool made P Q)) (sym is) tt

pub step_err : {A E : Type 0} (stepped : Result (Option A) E) (result : Result Bool E) (R : E → Type 0)
    → MatchResult stepped (λ found. result ≡ Ok (is_some found)) (λ e. result ≡ Err e) → IfErr stepped R → IfErr result R
step_err (Ok found) result R is r = subst (λ x. IfErr x R) (sym is) tt
step_err (Err e) result R is r = subst (λ x. IfErr x R) (sym is) r

-- what holds in each case holds
pub step_each : {A E : Type 0} (stepped : Result (Option A) E) (P Q : Type 0) (R : E → Type 0) (X : Type 0) → IfOk stepped (λ found. IfSome found (λ _. P))
    → IfOk stepped (λ found. IfNone found Q) → IfErr stepped R → (P → X) → (Q → X) → ((e : E) → R e → X) → X
step_each (Ok (Some a)) P Q R X p q r one none refused = one p
step_each (Ok None) P Q R X p q r one none refused = none q
step_each (Err e) P Q R X p q r one none refused = refused e r
