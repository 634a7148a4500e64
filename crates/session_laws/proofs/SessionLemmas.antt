-- How two sessions that begin alike end. `one_session` cites `end_alike`.
use Rattle.std.proofs.Common.{◌≡◌, ℕ, ◌+◌, ◌<◌, ◌⊎◌, inl, inr, true, false, cond, List, [], ◌∷◌, ◌++◌, sym, refl, ap, ◌∙◌}
use Rattle.std.proofs.Common.{subst, arith, append_assoc, append-nil}
use Rattle.std.specs.Prelude.{◌||◌, ◌==◌}
use Rattle.std.proofs.lemmas.Bool.{cases_lt, eq-eqb, ne_eqb}
use Rattle.api_replies.specs.Reply.{Reply}
use Rattle.api_replies.specs.Written.{reply_text}
use Rattle.api_messages.specs.declared.message.Message.{Message}
use Rattle.api_messages.specs.declared.message.Refusal.{Refusal}
use Rattle.api_messages.specs.Between.{AreEmptyLines}
use Rattle.api_messages.specs.Messages.{HoldsMessage, IsAwaited, IsRefused}
use Rattle.api_messages.proofs.MessageLemmas.{not_awaited, not_refused, undecided as undecided_bytes, one_refusal}
use Rattle.courier_run.specs.Act.{reads, writes}
use Rattle.router_history.specs.declared.book.Seat.{Seat}
use Rattle.message_streams.specs.declared.farewell.SessionEnd.{SessionEnd}
use Rattle.message_streams.specs.declared.farewell.SessionEnd.TheVariants.{Closed, Cut, Refused, Long}
use Rattle.router_history.specs.History.{State, state_of}
use Rattle.router_history.specs.Acts.{Act, World}
use Rattle.message_streams.specs.Farewell.{refusal_reply}
use Rattle.router_history.specs.Session.{Answers, request_limit, closes, Serving, begun, reads_on, answers, IsLast, refused}
use Rattle.router_history.specs.Session.{Ended, closed_by_end, cut, closed_by_message, long, farewell}
use Rattle.router_history.specs.Session.{IsSession}
use Rattle.router_history.proofs.ActLemmas.{state_longer}
use Rattle.session_laws.specs.OneSession.{IsSameState, IsUndisturbed, read_in, IsUndecided, IsFarewellAct, at_end, at_refusal}
use Rattle.session_laws.specs.OneSession.{EndedAlike, alike, undecided, BeginAlike, EndAlike}
use Rattle.session_laws.proofs.SameLemmas.{after_acts, after_append, runs_of, Same, same_append, Side, Given, given_other, read_append}
use Rattle.session_laws.proofs.StepLemmas.{same_count}
use Rattle.session_laws.proofs.AnswerLemmas.{Once, Two, two_front, Together, same_serving, one_front, writes_same, Answered, both_answer}

-- the input ended after these bytes, between two messages or inside one
abbrev EndsInput : List ℕ → SessionEnd → Type 0
EndsInput bytes end = (AreEmptyLines bytes × (end ≡ Closed)) ⊎ ((¬ AreEmptyLines bytes) × (end ≡ Cut))

-- no message follows in these bytes, and this is the last act
data IsRest (bytes : List ℕ) : SessionEnd → Act → Type 0 where
  input_ended : (end : SessionEnd) → IsAwaited bytes → EndsInput bytes end → IsRest bytes end (reads [])
  not_read : (why : Refusal) → IsRefused bytes why → IsRest bytes Refused (writes (reply_text (refusal_reply why) true))

-- the end after a last answer
abbrev end_after : ℕ → SessionEnd
end_after n = cond (n + 1 == request_limit) Long Closed

-- the last acts, after n answers: no message followed; or one more was answered, and it asked to close or is the last that a session serves
data Last (n : ℕ) (held : List ℕ) (end : SessionEnd) : List Act → Type 0 where
  rested : (last : Act) → IsRest held end last → Last n held end (last ∷ [])
  answered : (m : Message) (rest : List ℕ) (done : List Act) (reply : Reply) → HoldsMessage held m rest → Answers m done reply → closes (n + 1) m ≡ true
      → end ≡ end_after n → Last n held end (Answered done m reply (closes (n + 1) m))

-- a session that nothing disturbed: the number of its answers, the bytes that it holds then, its acts until then, and its last acts
abbrev Final : SessionEnd → List Act → Type 0
Final end acts = (n : ℕ) × (held : List ℕ) × (xs tail : List Act) × Serving n held xs × Last n held end tail × (acts ≡ xs ++ tail)

answered_final : (n : ℕ) (m : Message) (acts : List Act) (text : List ℕ) (end : SessionEnd) → IsLast n m acts text → closes (n + 1) m ≡ true → end ≡ end_after n
    → Final end (acts ++ writes text ∷ [])
answered_final n m acts text end x close is =
    let tail = Answered x.done m x.reply (closes (n + 1) m) in
    let same : acts ++ writes text ∷ [] ≡ x.before ++ tail = ap (λ z. z ++ writes text ∷ []) x.acts_are ∙ append_assoc x.before x.done (writes text ∷ [])
    ∙ ap (λ z. x.before ++ (x.done ++ writes z ∷ [])) x.text_is in
    (n, x.held, x.before, tail, x.serving, answered m x.rest x.done x.reply x.whole x.answers close is, same)

final_of : (end : SessionEnd) (acts : List Act) → IsUndisturbed end → Ended end acts → Final end acts
final_of _ _ plain (closed_by_end n held acts serving lines awaited) = (n, held, acts, _, serving, rested (reads []) (input_ended Closed awaited (inl (lines, refl))), refl)
final_of _ _ plain (cut n held acts serving lines awaited) = (n, held, acts, _, serving, rested (reads []) (input_ended Cut awaited (inr (lines, refl))), refl)
final_of _ _ plain (closed_by_message n m acts text last close below) =
    answered_final n m acts text Closed last (ap (λ b. b || (n + 1 == request_limit)) close)
    (sym (ap (λ b. cond b Long Closed) (ne_eqb (n + 1) request_limit below)))
final_of _ _ plain (long n m acts text last full) =
    let is = eq-eqb (n + 1) request_limit full in
    let close : closes (n + 1) m ≡ true = elim m.close as (λ b. (b || (n + 1 == request_limit)) ≡ true) [ true ↦ refl | false ↦ is ] in
    answered_final n m acts text Long last close (sym (ap (λ b. cond b Long Closed) is))
final_of _ _ plain (farewell n held acts _ _ serving (refused why is)) = (n, held, acts, _, serving, rested _ (not_read why is), refl)
final_of _ _ plain _ = absurd plain

-- what is given of two sessions with the same bytes
record Fed (s t : State) (xs ys : List Act) : Type 0 where
  pub given : Given s t xs ys
  pub read : read_in ys ≡ read_in xs

two_of : (s t : State) (xs ys : List Act) → Fed s t xs ys → Two s t xs ys
two_of s t xs ys x = record { given = x.given; unread = []; other_unread = []; same = ap (λ z. z ++ []) (sym x.read) }

rest_act : (bytes : List ℕ) (end : SessionEnd) (last : Act) → IsRest bytes end last → IsFarewellAct last × (read_in (last ∷ []) ≡ [])
rest_act bytes _ _ (input_ended end awaited how) = (at_end, refl)
rest_act bytes _ _ (not_read why bad) = (at_refusal why, refl)

-- the bytes that one holds at its end are those that the other holds at this place, and all that it read later
rest_held : (held other_held : List ℕ) (end : SessionEnd) (last : Act) (xs ys ws : List Act) → IsRest held end last
    → ((u v : List ℕ) → read_in xs ++ u ≡ read_in ys ++ v → held ++ u ≡ other_held ++ v) → read_in (ys ++ ws) ≡ read_in (xs ++ last ∷ [])
    → held ≡ other_held ++ read_in ws
rest_held held other_held end last xs ys ws is left read =
    sym (append-nil held) ∙ left [] (read_in ws) (ap (λ z. read_in xs ++ z) (sym (rest_act held end last is).1) ∙ sym (read_append xs (last ∷ []))
    ∙ sym read ∙ read_append ys ws)

rest_none : (held other_held v after : List ℕ) (m : Message) (end : SessionEnd) (last : Act) → IsRest held end last → held ≡ other_held ++ v
    → ¬ HoldsMessage other_held m after
rest_none held other_held v after m _ _ (input_ended end awaited how) same (front, is, split) =
    not_awaited front (after ++ v) m is (subst IsAwaited (same ∙ ap (λ z. z ++ v) split ∙ append_assoc front after v) awaited)
rest_none held other_held v after m _ _ (not_read why bad) same (front, is, split) =
    not_refused front (after ++ v) m why is (subst (λ z. IsRefused z why) (same ∙ ap (λ z. z ++ v) split ∙ append_assoc front after v) bad)

-- a message of the other at the place of the last acts asked to close, or was the last that a session serves
last_closes : (s t : State) (held other_held after : List ℕ) (n : ℕ) (end : SessionEnd) (xs tail ys ws : List Act) (other : Message) → Last n held end tail
    → Together s t xs ys held other_held → HoldsMessage other_held other after → read_in (ys ++ ws) ≡ read_in (xs ++ tail) → closes (n + 1) other ≡ true
last_closes s t held other_held after n end xs _ ys ws other (rested last is) z holds read =
    absurd (rest_none held other_held (read_in ws) after other end last is (rest_held held other_held end last xs ys ws is z.left read) holds)
last_closes s t held other_held after n end xs _ ys ws other (answered m rest done reply whole did close is) z holds read =
    let tail = Answered done m reply (closes (n + 1) m) in
    let one = one_front held other_held (read_in tail) (read_in ws) rest after m other
    (z.left (read_in tail) (read_in ws) (sym (read_append xs tail) ∙ sym read ∙ read_append ys ws)) whole holds in
    subst (λ w. closes (n + 1) w ≡ true) (sym one.0) close

-- one ended, so the other went on after no further message
not_less : Once → (s t : State) (n : ℕ) (held : List ℕ) (end : SessionEnd) (xs tail : List Act) → Serving n held xs → Last n held end tail → (k : ℕ)
    (other_held : List ℕ) (ys ws : List Act) → Serving k other_held ys → Fed s t (xs ++ tail) (ys ++ ws) → ¬ (n < k)
not_less law s t n held end xs tail one last _ _ _ ws (begun look) x less = omega (arith, less)
not_less law s t n held end xs tail one last _ _ _ ws (reads_on k held2 piece ys before awaited some) x less =
    not_less law s t n held end xs tail one last k held2 ys (reads piece ∷ ws) before (subst (Fed s t (xs ++ tail)) (append_assoc ys (reads piece ∷ []) ws) x) less
not_less law s t n held end xs tail one last _ _ _ ws (answers k held2 rest ys done m reply before holds is stays) x less =
    let here = Answered done m reply false in
    let y = subst (Fed s t (xs ++ tail)) (append_assoc ys here ws) x in
    elim (cases_lt n k) [
      | inl below ↦ not_less law s t n held end xs tail one last k held2 ys (here ++ ws) before y below
      | inr above ↦
          let same : k ≡ n = omega (arith, above, less) in
          let z = same_serving law s t n held xs one held2 ys (subst (λ w. Serving w held2 ys) same before) (two_front s t xs ys tail (here ++ ws) (two_of s t _ _ y)) in
          let close = last_closes s t held held2 rest n end xs tail ys (here ++ ws) m last z holds y.read in
          let go = subst (λ w. closes (w + 1) m ≡ false) same stays in
          cc
    ]

same_input : (bytes : List ℕ) (end other : SessionEnd) → EndsInput bytes end → EndsInput bytes other → other ≡ end
same_input bytes end other (inl a) (inl b) = b.1 ∙ sym a.1
same_input bytes end other (inl a) (inr b) = absurd (b.0 a.0)
same_input bytes end other (inr a) (inl b) = absurd (a.0 b.0)
same_input bytes end other (inr a) (inr b) = b.1 ∙ sym a.1

-- they ended alike, or the bytes are undecided
both_rest : (s t : State) (bytes : List ℕ) (end other_end : SessionEnd) (last other_last : Act) → IsSameState s t → IsRest bytes end last
    → IsRest bytes other_end other_last → ((other_end ≡ end) × Same s t (last ∷ []) (other_last ∷ [])) ⊎ IsUndecided bytes
both_rest s t bytes _ _ _ _ same (input_ended end awaited how) (input_ended other awaited2 how2) =
    inl (same_input bytes end other how how2, record { state = same; does = record { turns = refl; readings = refl; tries = refl; bytes = refl } })
both_rest s t bytes _ _ _ _ same (input_ended end awaited how) (not_read why is) = inr (inl (undecided_bytes bytes why awaited is).1)
both_rest s t bytes _ _ _ _ same (not_read why is) (input_ended end awaited how) = inr (inl (undecided_bytes bytes why awaited is).1)
both_rest s t bytes _ _ _ _ same (not_read why is) (not_read why2 is2) =
    elim (one_refusal bytes why2 why is2 is) [
      | inl equal ↦ inl (refl, writes_same s t _ _ same (ap (λ w. reply_text (refusal_reply w) true) equal))
      | inr left ↦ inr (inr left)
    ]

farewell_after : (last : Act) (acts : List Act) (s : State) → IsFarewellAct last → after_acts (acts ++ last ∷ []) s ≡ after_acts acts s
farewell_after _ acts s at_end = after_append acts _ s
farewell_after _ acts s (at_refusal why) = after_append acts _ s

-- how both ended, and the same tables
abbrev Result : State → State → List Act → List Act → SessionEnd → SessionEnd → Type 0
Result s t xs ys end other_end = EndedAlike xs ys end other_end × IsSameState (after_acts xs s) (after_acts ys t)

-- the last acts of both, after the same number of answers
same_last : Once → (s t : State) (n : ℕ) (held other_held : List ℕ) (end other_end : SessionEnd) (xs vs ys ws : List Act) → Serving n held xs
    → Serving n other_held ys → Last n held end vs → Last n other_held other_end ws → Together s t xs ys held other_held → Fed s t (xs ++ vs) (ys ++ ws)
    → Result s t (xs ++ vs) (ys ++ ws) end other_end
same_last law s t n held other_held end other_end xs _ ys _ one two (rested last is) (rested last2 is2) z x =
    let act = rest_act held end last is in
    let act2 = rest_act other_held other_end last2 is2 in
    let same : other_held ≡ held = sym (rest_held held other_held end last xs ys (last2 ∷ []) is z.left x.read ∙ ap (λ w. other_held ++ w) act2.1
    ∙ append-nil other_held) in
    elim (both_rest (after_acts xs s) (after_acts ys t) held end other_end last last2 z.same.state is (subst (λ w. IsRest w other_end last2) same is2)) [
      | inl (equal, lasts) ↦ let all = same_append s t xs ys (last ∷ []) (last2 ∷ []) z.same lasts in (alike all.does equal, all.state)
      | inr left ↦ (
        undecided n held xs ys last last2 refl refl one (subst (λ w. Serving n w ys) same two) z.same.does act.0 act2.0 left,
        subst (λ w. IsSameState w (after_acts (ys ++ last2 ∷ []) t)) (sym (farewell_after last xs s act.0))
            (subst (IsSameState (after_acts xs s)) (sym (farewell_after last2 ys t act2.0)) z.same.state),
      )
    ]
same_last law s t n held other_held end other_end xs _ ys _ one two (rested last is) (answered m rest done reply whole did close after) z x =
    absurd (rest_none held other_held _ rest m end last is (rest_held held other_held end last xs ys _ is z.left x.read) whole)
same_last law s t n held other_held end other_end xs _ ys _ one two (answered m rest done reply whole did close after) (rested last is) z x =
    absurd (rest_none other_held held _ rest m other_end last is
    (rest_held other_held held other_end last ys xs _ is (λ u v same. sym (z.left v u (sym same))) (sym x.read)) whole)
same_last law s t n held other_held end other_end xs _ ys _ one two (answered m rest done reply whole did close after)
    (answered other rest2 done2 reply2 whole2 did2 close2 after2) z x =
    let all = (both_answer law s t held other_held rest rest2 xs ys done done2 m other reply reply2 (λ w. closes (n + 1) w) z whole whole2 did did2
    (two_of s t _ _ x)).same in
    (alike all.does (after2 ∙ sym after), all.state)

-- two sessions that nothing disturbed, with the same bytes
same_final : Once → (s t : State) (xs ys : List Act) (end other_end : SessionEnd) → Final end xs → Final other_end ys → Fed s t xs ys
    → Result s t xs ys end other_end
same_final law s t xs ys end other_end (n, held, vs, tail, one, last, is) (k, held2, ws, tail2, two, last2, is2) x =
    let y : Fed s t (vs ++ tail) (ws ++ tail2) = subst (λ z. Fed s t z (ws ++ tail2)) is (subst (Fed s t xs) is2 x) in
    let back : Fed t s (ws ++ tail2) (vs ++ tail) = record { given = given_other s t _ _ y.given; read = sym y.read } in
    let count : k ≡ n = same_count n k (not_less law s t n held end vs tail one last k held2 ws tail2 two y)
    (not_less law t s k held2 other_end ws tail2 two last2 n held vs tail one back) in
    let serving = subst (λ w. Serving w held2 ws) count two in
    let z = same_serving law s t n held vs one held2 ws serving (two_front s t vs ws tail tail2 (two_of s t _ _ y)) in
    subst (λ w. Result s t w ys end other_end) (sym is) (subst (λ w. Result s t (vs ++ tail) w end other_end) (sym is2)
    (same_last law s t n held held2 end other_end vs tail ws tail2 one serving last (subst (λ w. Last w held2 other_end tail2) count last2) z y))

-- the law
pub end_alike : Once → (seat other_seat : Seat) (old new other other_new : World) (end other_end : SessionEnd)
    (one : IsSession seat old new end) (two : IsSession other_seat other other_new other_end)
    → BeginAlike seat other_seat old new other other_new end other_end one two → EndAlike seat other_seat old new other other_new end other_end one two
end_alike law seat other_seat old new other other_new end other_end one two begin =
    let s = state_of old.turns in
    let t = state_of other.turns in
    let m = one.2.makes in
    let n = two.2.makes in
    let runs = runs_of seat.pass s m.added one.0 begin.alone begin.plain.legal m.happens in
    let other_runs = runs_of other_seat.pass t n.added two.0 begin.other_alone begin.other_plain.legal n.happens in
    let first : Side begin.clock begin.link s one.0 =
    record { runs = runs.0; readings = begin.readings; answers = begin.answers; ample = begin.plain.ample } in
    let second : Side begin.clock begin.link t two.0 =
    record { runs = other_runs.0; readings = begin.other_readings; answers = begin.other_answers; ample = begin.other_plain.ample } in
    let given : Given s t one.0 two.0 = record { state = begin.state; clock = begin.clock; link = begin.link; one = first; two = second } in
    let ended = same_final law s t one.0 two.0 end other_end (final_of end one.0 begin.plain.undisturbed one.1)
    (final_of other_end two.0 begin.other_plain.undisturbed two.1) (record { given = given; read = begin.read }) in
    record {
      acts = ended.0;
      state = subst (λ z. IsSameState z (state_of other_new.turns)) (sym (state_longer old.turns m.added new.turns m.turns ∙ runs.1))
          (subst (IsSameState (after_acts one.0 s)) (sym (state_longer other.turns n.added other_new.turns n.turns ∙ other_runs.1)) ended.1);
    }
