-- A session whose reads gave no byte, and a run of it. Answers cite `silent_run`.
use Rattle.std.proofs.Common.{◌≡◌, ℕ, ◌+◌, ◌<◌, ◌≤◌, ◌⊎◌, inl, inr, true, false, List, [], ◌∷◌, ◌++◌, length, Option, Some, None, refl, sym, ap, ◌∙◌, subst}
use Rattle.std.proofs.Common.{append-nil, append_assoc, length-append, arith}
use Rattle.std.specs.List.{concat}
use Rattle.std.proofs.lemmas.List.{append_cancel_left}
use Rattle.std.proofs.lemmas.List.Folds.{concat-append}
use Rattle.std.proofs.lemmas.List.Concat.{flat_map-append}
use Rattle.httparse.specs.Grammar.{RequestHead, print_request, print_blank, EndsInTarget}
use Rattle.router_disk.specs.Link.{Exchange}
use Rattle.program_lines.specs.declared.status.Status.{Status}
use Rattle.program_lines.specs.declared.status.Status.TheVariants as statuses
use Rattle.api_replies.specs.Reply.{Reply}
use Rattle.api_messages.specs.declared.message.Message.{Message}
use Rattle.api_messages.specs.declared.message.Refusal.{Refusal}
use Rattle.api_messages.specs.Messages.{HoldsMessage, IsAwaited, IsRefused}
use Rattle.api_messages.specs.Between.{AreEmptyLines, HasHead}
use Rattle.api_messages.proofs.MessageLemmas.{no_message_is_empty, nothing_is_awaited, undecided}
use Rattle.courier_run.specs.Act.{reads, looks, writes, pieces_of, pieces_in, bytes_of, bytes_in}
use Rattle.message_streams.specs.declared.farewell.SessionEnd.{SessionEnd}
use Rattle.message_streams.specs.declared.farewell.SessionEnd.TheVariants as ends
use Rattle.router_history.specs.Book.{opening}
use Rattle.router_history.specs.Acts.{Act, World, world}
use Rattle.message_streams.specs.Incoming.{IsWhole}
use Rattle.router_history.specs.Session.{Serving, begun, reads_on, answers, IsLast, IsFarewell, refused, starved}
use Rattle.router_history.specs.Session.{Ended, closed_by_end, cut, closed_by_message, long, farewell, starved_early, read_fault, unwritten, farewell_unwritten}
use Rattle.bus_server.specs.Run.{status_of, EndsWhole, RunsOnce, Around, RunsBy, RunsLinked, IsRun}

-- the bytes that reads gave
abbrev read_in : List Act → List ℕ
read_in acts = concat (pieces_in acts)

read_append : (xs ys : List Act) → read_in (xs ++ ys) ≡ read_in xs ++ read_in ys
read_append xs ys = ap concat (flat_map-append pieces_of xs ys) ∙ concat-append (pieces_in xs) (pieces_in ys)

empty_front : (xs ys : List ℕ) → xs ++ ys ≡ [] → xs ≡ []
empty_front [] ys is = refl
empty_front (x ∷ xs) ys is = cc

none_before : (xs ys : List Act) → read_in (xs ++ ys) ≡ [] → read_in xs ≡ []
none_before xs ys none = empty_front (read_in xs) (read_in ys) (sym (read_append xs ys) ∙ none)

no_message : (held rest : List ℕ) (m : Message) → held ≡ [] → HoldsMessage held m rest → ⊥
no_message held rest m is holds = omega (arith, ap length is, no_message_is_empty held rest m holds)

no_target : EndsInTarget [] → ⊥
no_target (blank, method, target, token, uri, is) =
    omega (arith, ap length is, length-append (print_blank blank ++ method) (32 ∷ target), length-append (print_blank blank) (method ++ 32 ∷ target), length-append method (32 ∷ target))

no_refusal : (held : List ℕ) (why : Refusal) → held ≡ [] → IsRefused held why → ⊥
no_refusal held why is because = no_target (undecided [] why nothing_is_awaited (subst (λ (b : List ℕ). IsRefused b why) is because)).1

head_some : (h : RequestHead) → 1 ≤ length (print_request h)
unfolding print_request
head_some h = simp length-append (omega arith)

no_head : (held : List ℕ) → held ≡ [] → HasHead held → ⊥
no_head held is (h, rest, spelled) = omega (arith, ap length is, ap length spelled.1, length-append (print_request h) rest, head_some h)

no_farewell : (held text : List ℕ) (end : SessionEnd) → held ≡ [] → IsFarewell held text end → ⊥
no_farewell held _ _ is (refused why because) = no_refusal held why is because
no_farewell held _ _ is (starved which head) = no_head held is head

-- nothing is buffered and nothing was written as long as the reads gave no byte
nothing_yet : (n : ℕ) (held : List ℕ) (acts : List Act) → Serving n held acts → read_in acts ≡ [] → (held ≡ []) × (bytes_in acts ≡ [])
nothing_yet _ _ _ (begun s) none = (refl, refl)
nothing_yet _ _ _ (reads_on n held piece acts serving awaited some) none =
    let all : read_in acts ++ (piece ++ []) ≡ [] = sym (read_append acts (reads piece ∷ [])) ∙ none in
    let last : piece ≡ [] = sym (append-nil piece) ∙ append_cancel_left (read_in acts) (piece ++ []) [] (all ∙ sym (append-nil (read_in acts) ∙ empty_front (read_in acts) (piece ++ []) all)) in
    absurd (some.0 last)
nothing_yet _ _ _ (answers n held rest acts done m reply serving holds answered goes) none =
    absurd (no_message held rest m (nothing_yet n held acts serving (none_before acts (done ++ writes _ ∷ []) none)).0 holds)

no_last : (n : ℕ) (m : Message) (acts : List Act) (text : List ℕ) (more : List Act) → IsLast n m acts text → read_in (acts ++ more) ≡ [] → ⊥
no_last n m acts text more x none =
    let before : read_in x.before ≡ [] = none_before x.before x.done (ap read_in (sym x.acts_are) ∙ none_before acts more none) in
    no_message x.held x.rest m (nothing_yet n x.held x.before x.serving before).0 x.whole

-- the ends of a session that answers nothing
abbrev IsSilentEnd : SessionEnd → Type 0
IsSilentEnd end = (end ≡ ends.Closed) ⊎ ((end ≡ ends.NoMemory) ⊎ (end ≡ ends.ReadFault))

bytes_before : (xs : List Act) (a : Act) → bytes_in xs ≡ [] → bytes_of a ≡ [] → bytes_in (xs ++ a ∷ []) ≡ []
bytes_before xs a none last = flat_map-append bytes_of xs (a ∷ []) ∙ ap (λ (b : List ℕ). b ++ (bytes_of a ++ [])) none ∙ append-nil (bytes_of a) ∙ last

silent_end : (end : SessionEnd) (acts : List Act) → Ended end acts → read_in acts ≡ [] → (bytes_in acts ≡ []) × IsSilentEnd end
silent_end _ _ (closed_by_end n held acts serving lines awaited) none =
    (bytes_before acts (reads []) (nothing_yet n held acts serving (none_before acts (reads [] ∷ []) none)).1 refl, inl refl)
silent_end _ _ (cut n held acts serving lines awaited) none =
    let is = (nothing_yet n held acts serving (none_before acts (reads [] ∷ []) none)).0 in
    absurd (lines (subst AreEmptyLines (sym is) tt))
silent_end _ _ (closed_by_message n m acts text x close short) none = absurd (no_last n m acts text (writes text ∷ []) x none)
silent_end _ _ (long n m acts text x is) none = absurd (no_last n m acts text (writes text ∷ []) x none)
silent_end _ _ (farewell n held acts text end serving x) none =
    absurd (no_farewell held text end (nothing_yet n held acts serving (none_before acts (writes text ∷ []) none)).0 x)
silent_end _ _ (starved_early n held acts serving awaited head) none = ((nothing_yet n held acts serving none).1, inr (inl refl))
silent_end _ _ (read_fault n held acts serving awaited) none = ((nothing_yet n held acts serving none).1, inr (inr refl))
silent_end _ _ (unwritten n m acts part rest x) none = absurd (no_last n m acts (part ++ rest) (writes part ∷ []) x none)
silent_end _ _ (farewell_unwritten n held acts part rest end serving x) none =
    absurd (no_farewell held (part ++ rest) end (nothing_yet n held acts serving (none_before acts (writes part ∷ []) none)).0 x)

-- nothing was read and nothing was written, and the run ended so
abbrev IsSilent : List ℕ → List ℕ → Status → Type 0
IsSilent old new status = (new ≡ old)
    × ((status ≡ statuses.Done) ⊎ ((status ≡ statuses.NoMemory) ⊎ ((status ≡ statuses.ReadFault) ⊎ (status ≡ statuses.DoorFault))))

status_silent : (end : SessionEnd) (status : Status) → IsSilentEnd end → status ≡ status_of end
    → (status ≡ statuses.Done) ⊎ ((status ≡ statuses.NoMemory) ⊎ ((status ≡ statuses.ReadFault) ⊎ (status ≡ statuses.DoorFault)))
status_silent end status (inl is) same = inl (same ∙ ap status_of is)
status_silent end status (inr (inl is)) same = inr (inl (same ∙ ap status_of is))
status_silent end status (inr (inr is)) same = inr (inr (inl (same ∙ ap status_of is)))

silent_once : (old new : World) (status : Status) → RunsOnce opening (EndsWhole status) old new → concat new.gave ≡ concat old.gave → IsSilent old.written new.written status
silent_once old new status r same =
    let acts = r.session.0 in
    let none : read_in acts ≡ [] = append_cancel_left (concat old.gave) (read_in acts) []
    (sym (concat-append old.gave (pieces_in acts)) ∙ ap concat (sym r.session.2.gave) ∙ same ∙ sym (append-nil (concat old.gave))) in
    let silent = silent_end r.end acts r.session.1 none in
    (r.session.2.written ∙ ap (λ (b : List ℕ). old.written ++ b) silent.0 ∙ append-nil old.written, status_silent r.end status silent.1 r.ends.1)

silent_by : (now : Option ℕ) (old new : World) (status : Status) → RunsBy opening (EndsWhole status) now old new → concat new.gave ≡ concat old.gave → IsSilent old.written new.written status
silent_by None old new status r same = silent_once old new status r same
silent_by (Some moment) old new status (readings, all, r, unread) same =
    silent_once (record old { readings = [] }) (record new { readings = readings }) status r same

pub silent_run : {L : Type 0} (answered : L → List Exchange) (faults : L → ℕ) (now : Option ℕ) (old new : Around L) (status : Status)
    → IsRun answered faults now old new status → concat new.gave ≡ concat old.gave → IsSilent old.written new.written status
silent_run answered faults now old new status (inl r) same = silent_by now _ _ status r.runs same
silent_run answered faults now old new status (inr (inl is, unbegun)) same = (unbegun.unwritten, inr (inl is))
silent_run answered faults now old new status (inr (inr is, unbegun)) same = (unbegun.unwritten, inr (inr (inr is)))
