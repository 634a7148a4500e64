-- Steps of replays through a pass: what was done of them (`repeats_from`, `repeats_go`), what is written for a StepReplays (`was_repeated`,
-- `repetition_answers`), and that their pass has no claim after (`repeated_rests`, `unrepeated_rests`).
use Rattle.std.proofs.Common.{◌≡◌, ℕ, inl, Bool, List, [], ◌∷◌, ◌++◌, map, Result, refl, sym, ap, ◌∙◌, subst, append-nil}
use Rattle.router_disk.specs.Sink.{AddsBytes}
use Rattle.router_disk.specs.Link.{Exchange}
use Rattle.router_disk.specs.declared.fault.Failed.{Failed}
use Rattle.router_requests.specs.Request.{step_replays, Request}
use Rattle.api_replies.specs.Reply.{Reply}
use Rattle.api_replies.specs.Written.{reply_text}
use Rattle.courier_run.specs.Act.{Try, ticks, readings_in, tries_in, pieces_in, bytes_in}
use Rattle.courier_run.specs.Link.{outside, Goes, AreTried}
use Rattle.step_run.specs.Act as step
use Rattle.step_run.specs.Step.{Ran, IsRefusal, full_at, broken_at, broken_by, out_of_memory}
use Rattle.step_run.specs.declared.fault.StepFault.{StepFault}
use Rattle.step_run.specs.declared.fault.StepsFault.{StepsFault}
use Rattle.router_history.specs.declared.book.Seat.{Seat}
use Rattle.router_history.specs.History.{Turn, State, Ask, repeats, state_of, after_ask, claims_of}
use Rattle.router_history.specs.Book.{IsBook, Rests}
use Rattle.router_history.specs.Acts.{Act, StepAct, act_of, Repeats, BreaksRepeat, IsNoneRunning, IsRepeatFull, IsRepeatBroken, Repeating, Makes, world}
use Rattle.router_history.specs.Answered.{IsRepeated, HasNoRepeat, IsUnrepeated}
use Rattle.router_history.specs.Session.{Answers, repeated}
use Rattle.message_streams.specs.Reply.{replays_reply}
use Rattle.router_sessions.specs.Reply.{IsAnswerTo, IsRepetition, HasReplied}
use Rattle.router_sessions.specs.Repeating.{RepeatsFrom}
use Rattle.router_history.proofs.TurnLemmas.{open_written}
use Rattle.router_history.proofs.ActLemmas.{makes_full}
use Rattle.router_history.proofs.RepeatLemmas.{tries_none, pieces_none, bytes_none, readings_same, book_acts_same}
use Rattle.router_sessions.proofs.DoesLemmas.{does_acts, writes_then}
use Rattle.router_sessions.proofs.ReplyLemmas.{one_rests, look_rests, broken_claims}

-- ---- what was done

-- the steps of a run, from their acts on the book
pub repeats_from : (seat : Seat) (budget : ℕ) (old new : List Turn) (gave gave_new : List ℕ) (result : Result ℕ StepsFault) (acts : List StepAct)
    → Makes seat (map act_of (step.book_acts_in acts)) old new
    → Ran Repeats BreaksRepeat IsNoneRunning IsRepeatFull IsRepeatBroken budget acts result → gave_new ≡ gave ++ step.readings_in acts
    → RepeatsFrom seat budget old new gave gave_new result
repeats_from seat budget old new gave gave_new result acts made ran readings = record {
  acts = map act_of acts;
  steps = record { steps = acts; are = refl; ran = ran };
  makes = makes_full seat (map act_of acts) old new (subst (λ (xs : List Act). Makes seat xs old new) (sym (book_acts_same acts)) made);
  readings = readings ∙ ap (λ (ns : List ℕ). gave ++ ns) (sym (readings_same acts));
}

-- meanwhile the link did nothing
pub repeats_go : (budget : ℕ) (acts : List Act) (made : Result ℕ StepsFault) (readings readings_new : List ℕ) (answered : List Exchange) (faults : ℕ)
    → Repeating budget acts made → readings_new ≡ readings ++ readings_in acts → Goes acts (outside readings answered faults) (outside readings_new answered faults)
repeats_go budget acts made readings readings_new answered faults steps gave =
    let none : tries_in acts ≡ [] = ap tries_in steps.are ∙ tries_none steps.steps in
    record {
      readings = gave;
      answers = [];
      answered = sym (append-nil answered);
      tried = subst (λ (ts : List Try). AreTried faults ts [] faults) (sym none) (refl, refl);
    }

-- ---- what is written

-- a StepReplays
pub repetition_answers : (request : Request) (budget : ℕ) → request.action ≡ step_replays budget → (acts : List Act) (reply : Reply)
    → IsRepetition budget acts reply → IsAnswerTo request acts reply
repetition_answers request budget due acts reply (made, steps, is) = λ m reading post is_asked.
    subst (λ (r : Reply). Answers m (ticks reading ∷ acts) r) (sym is) (repeated reading request budget acts made post is_asked due steps)

-- the steps of a StepReplays were made
pub was_repeated : (seat : Seat) (budget : ℕ) (close : Bool) (turns turns_new : List Turn) (gave : List (List ℕ)) (written written_new readings readings_new : List ℕ)
    (answered : List Exchange) (faults : ℕ) (made : Result ℕ StepsFault) (result : Result (Unit {0}) Failed) → IsBook turns → IsBook turns_new
    → RepeatsFrom seat budget turns turns_new readings readings_new made → AddsBytes written written_new result (reply_text (replays_reply made) close)
    → HasReplied (IsRepetition budget) seat close (world turns gave written readings answered faults) (world turns_new gave written_new readings_new answered faults) result
was_repeated seat budget close turns turns_new gave written written_new readings readings_new answered faults made result h h_new d wrote =
    let read : pieces_in d.acts ≡ [] = ap pieces_in d.steps.are ∙ pieces_none d.steps.steps in
    let none : bytes_in d.acts ≡ [] = ap bytes_in d.steps.are ∙ bytes_none d.steps.steps in
    record {
      done = d.acts;
      reply = replays_reply made;
      carried_out = inl (made, d.steps, refl);
      does = writes_then seat d.acts (reply_text (replays_reply made) close) (world turns gave written readings answered faults) turns_new gave written written_new
          readings_new answered faults result h h_new
          (does_acts seat d.acts turns turns_new gave written readings readings_new answered answered faults faults read none d.makes
          (repeats_go budget d.acts made readings readings_new answered faults d.steps d.readings)) wrote;
    }

-- ---- its pass has no claim after

repeat_claims : (n : ℕ) (turn : Turn) (ask : Ask) (s : State) (moment : ℕ) → ask ≡ repeats moment → claims_of n s.open_claims ≡ []
    → claims_of n (after_ask turn ask s).open_claims ≡ []
repeat_claims n turn ask s moment is none =
    ap (λ (a : Ask). claims_of n (after_ask turn a s).open_claims) is ∙ ap (claims_of n) (open_written turn.batch s) ∙ none

pub repeated_rests : (seat : Seat) (moment : ℕ) (old new : List Turn) → IsRepeated seat moment old new → Rests seat.pass old → Rests seat.pass new
repeated_rests seat moment old new a rests =
    one_rests seat old new a.placed a.makes (repeat_claims seat.pass a.placed.turn a.placed.turn.ask a.placed.before moment a.repeats) rests

pub no_repeat_rests : (seat : Seat) (moment : ℕ) (old new : List Turn) → HasNoRepeat seat moment old new → Rests seat.pass old → Rests seat.pass new
no_repeat_rests seat moment old new (looked, none) rests = look_rests seat old new (state_of new) looked rests

pub unrepeated_rests : (seat : Seat) (moment : ℕ) (fault : StepFault) (old new : List Turn) → IsUnrepeated seat moment fault old new → Rests seat.pass old
    → Rests seat.pass new
unrepeated_rests seat moment fault old new u rests = by u.acts fault u.makes u.refused
  where
    by : (acts : List StepAct) (fault : StepFault) → Makes seat (map act_of acts) old new
        → IsRefusal (λ p. BreaksRepeat p moment) (λ s. IsRepeatFull s moment) (λ s. IsRepeatBroken s moment) acts fault → Rests seat.pass new
    by _ _ made (full_at s full) = look_rests seat old new s made rests
    by _ _ made (broken_at s broken) = look_rests seat old new s made rests
    by _ _ made (broken_by p breaking) =
        one_rests seat old new p made (broken_claims seat.pass p.turn p.turn.ask p.before breaking.0 breaking.1) rests
    by _ _ made (out_of_memory s) = look_rests seat old new s made rests
