-- What two sessions do for the messages that they answer. Other files cite `Once`, `Two`, `two_front`, `Together`, `writes_same`, `one_front`,
-- `Answered`, `both_answer` and `same_serving`.
use Rattle.std.proofs.Common.{◌≡◌, inl, inr, ℕ, false, List, [], ◌∷◌, ◌++◌, ◌-◌, take, length, sym, refl, ap, ◌∙◌, subst, arith, ◌+◌, Bool, append_assoc, append-nil, Result}
use Rattle.std.proofs.lemmas.List.{append_cancel_left}
use Rattle.std.proofs.lemmas.List.Elements.{Contains-append_right, Contains-push}
use Rattle.rule_table.specs.Control.{Control}
use Rattle.rule_table.specs.RuleSet.{RuleSet, applied_all}
use Rattle.router_requests.specs.Request.{Request, deliver_due, step_replays, IsOneTurn}
use Rattle.router_core.specs.Tables.{Tables}
use Rattle.router_calls.specs.Answer.{Answer, IsAnswer}
use Rattle.api_replies.specs.Reply.{Reply, refused as refusal_of}
use Rattle.api_messages.specs.declared.message.Message.{Message}
use Rattle.api_wire.specs.Call.{IsAsked}
use Rattle.api_wire.proofs.CallLemmas.{one_request, one_refusal, never_both}
use Rattle.courier_run.specs.declared.turned.Turned.{Turned}
use Rattle.courier_run.specs.declared.stepped.Stop.{Stop as Why}
use Rattle.courier_run.specs.Claim.{moment_of}
use Rattle.courier_run.specs.Act.{ticks, makes, reads, looks, writes}
use Rattle.courier_run.specs.Steps.{none, one_more, attempted, idle_at, unrecorded, limited_by, broken_before, broken_by, spent, stopped}
use Rattle.api_messages.specs.Messages.{HoldsMessage}
use Rattle.api_messages.proofs.MessageLemmas.{one_message}
use Rattle.router_history.specs.History.{State, Placed, last_version, set_of_version, IsAnsweredBy}
use Rattle.router_history.specs.Acts.{Act, Steps, Repeating}
use Rattle.step_run.specs.declared.fault.StepsFault.{StepsFault}
use Rattle.message_streams.specs.Reply.{steps_reply, replays_reply}
use Rattle.router_history.specs.Session.{Answers, unposted, refused, out_of_memory, served, unrendered, failed, failed_before, stepped, repeated, Replies, sent_text, Serving, begun, reads_on, answers}
use Rattle.session_laws.specs.OneSession.{read_in, IsSameState, IsFailureReply, IsAmple}
use Rattle.session_laws.proofs.SameLemmas.{RunsAct, turn_same, Same, same_append, Given, given_rest, read_append, after_acts, given_front}
use Rattle.session_laws.proofs.StepLemmas.{Stop, Taken, IsFailure, same_steps}
use Rattle.session_laws.proofs.ReplayLemmas.{OneStep, same_repeats, repeats_read}

-- the law of `router_calls`: a request has at most one answer
abbrev pub OneAnswer : Type 0
OneAnswer = (t : Tables) (r : Request) (k : ℕ) (set : RuleSet) (a b : Answer) → IsAnswer t r k set a → IsAnswer t r k set b → a ≡ b

-- both laws of `router_calls`: at most one answer, and at most one next step of the replays
abbrev pub Once : Type 0
Once = OneAnswer × OneStep

ticks_same : (s t : State) (r r2 : ℕ) (xs ys : List Act) → Given s t (ticks r ∷ xs) (ticks r2 ∷ ys) → Same s t (ticks r ∷ []) (ticks r2 ∷ [])
ticks_same s t r r2 xs ys g = record { state = g.state; does = record { turns = refl; readings = ap (λ n. n ∷ []) (g.two.readings.0 ∙ sym g.one.readings.0); tries = refl; bytes = refl } }

-- a turn that answers, by the latest configuration version
answer_from : (s : State) (p : Placed) (r : Request) (reply : Reply) → RunsAct s (makes p) → Replies p r reply → (p.turn.k ≡ last_version s)
    × IsAnswer s.tables r (last_version s) (set_of_version (last_version s) s) (record { batch = p.turn.batch; reply = reply })
answer_from s p r reply runs replies =
    let is = subst (λ z. IsAnsweredBy z p.turn r reply) runs.0 replies.1 in
    let k : p.turn.k ≡ last_version s = omega (arith, is.known, runs.2) in
    (k, subst (λ n. IsAnswer s.tables r n (set_of_version n s) (record { batch = p.turn.batch; reply = reply })) k is.answer)

-- two turns that answer the same request
both_served : OneAnswer → (s t : State) (r r2 : ℕ) (request : Request) (p q : Placed) (a b : Reply) → Replies p request a → Replies q request b
    → Given s t (ticks r ∷ makes p ∷ []) (ticks r2 ∷ makes q ∷ []) → Same s t (ticks r ∷ makes p ∷ []) (ticks r2 ∷ makes q ∷ []) × (b ≡ a)
both_served law s t r r2 request p q a b one two g =
    let x = answer_from s p request a g.one.runs.1.0 one in
    let z = answer_from t q request b g.two.runs.1.0 two in
    let here : Answer = record { batch = q.turn.batch; reply = b } in
    let y = subst (λ u. IsAnswer u request (last_version s) (set_of_version (last_version s) s) here) g.state.tables
    (subst (λ (u : RuleSet). IsAnswer t.tables request (u.count + length s.controls) (applied_all (take (u.count + length s.controls - u.count) s.controls) u) here) g.state.start
    (subst (λ (u : List Control). IsAnswer t.tables request (t.start.count + length u) (applied_all (take (t.start.count + length u - t.start.count) u) t.start) here)
    g.state.controls z.1)) in
    let equal = law s.tables request (last_version s) (set_of_version (last_version s) s) _ _ y x.1 in
    let turn = turn_same p.turn q.turn s t (two.0 ∙ sym one.0) (ap (λ (u : Answer). u.batch) equal) x.0 z.0 g.state in
    let readings = (ticks_same s t r r2 (makes p ∷ []) (makes q ∷ []) g).does.readings in
    (record { state = turn.0; does = record { turns = ap (λ u. u ∷ []) turn.1; readings = readings; tries = refl; bytes = refl } }, ap (λ (u : Answer). u.reply) equal)

failure_reply : (x : Turned) (why : Why) → IsFailure why → IsFailureReply (steps_reply x why)
failure_reply x why (inl is) = inl (ap (steps_reply x) is)
failure_reply x why (inr is) = inr (ap (steps_reply x) is)

both_stepped : (s t : State) (r r2 budget : ℕ) (xs ys : List Act) (x y : Turned) (why other : Why) → Steps budget xs x why → Steps budget ys y other
    → ¬ IsFailureReply (steps_reply x why) → ¬ IsFailureReply (steps_reply y other) → Given s t (ticks r ∷ xs) (ticks r2 ∷ ys)
    → Same s t (ticks r ∷ xs) (ticks r2 ∷ ys) × (steps_reply y other ≡ steps_reply x why)
both_stepped s t r r2 budget xs ys x y why other one two known known2 g =
    let first = ticks_same s t r r2 xs ys g in
    let is = same_steps s t budget xs ys x y why other one two (λ is. known (failure_reply x why is)) (λ is. known2 (failure_reply y other is))
    (given_rest s t (ticks r ∷ []) (ticks r2 ∷ []) xs ys first g) in
    (same_append s t (ticks r ∷ []) (ticks r2 ∷ []) xs ys first is.0, ap (λ z. steps_reply z other) is.1 ∙ ap (steps_reply x) is.2)

both_repeated : OneStep → (s t : State) (r r2 budget : ℕ) (xs ys : List Act) (a b : Result ℕ StepsFault) → Repeating budget xs a → Repeating budget ys b
    → ¬ IsFailureReply (replays_reply a) → ¬ IsFailureReply (replays_reply b) → Given s t (ticks r ∷ xs) (ticks r2 ∷ ys)
    → Same s t (ticks r ∷ xs) (ticks r2 ∷ ys) × (replays_reply b ≡ replays_reply a)
both_repeated law s t r r2 budget xs ys a b one two known known2 g =
    let first = ticks_same s t r r2 xs ys g in
    let is = same_repeats law (after_acts (ticks r ∷ []) s) (after_acts (ticks r2 ∷ []) t) budget xs ys a b one two known known2
    (given_rest s t (ticks r ∷ []) (ticks r2 ∷ []) xs ys first g) in
    (same_append s t (ticks r ∷ []) (ticks r2 ∷ []) xs ys first is.0, ap replays_reply is.1)

-- the same request, with the same clock
same_request : (s t : State) (m : Message) (r r2 : ℕ) (q q2 : Request) (xs ys : List Act) → Given s t (ticks r ∷ xs) (ticks r2 ∷ ys) → IsAsked m (moment_of r) q
    → IsAsked m (moment_of r2) q2 → q2 ≡ q
same_request s t m r r2 q q2 xs ys g is is2 =
    one_request m (moment_of r) q2 q (subst (λ n. IsAsked m (moment_of n) q2) (g.two.readings.0 ∙ sym g.one.readings.0) is2) is

-- two sessions answer a message alike, unless memory ran out or the journal failed
pub same_answers : Once → (s t : State) (m : Message) (xs ys : List Act) (a b : Reply) → Answers m xs a → Answers m ys b → ¬ IsFailureReply a
    → ¬ IsFailureReply b → Given s t xs ys → Same s t xs ys × (b ≡ a)
same_answers law s t m _ _ _ _ (out_of_memory r post) _ known known2 g = absurd (known (inl refl))
same_answers law s t m _ _ _ _ (unrendered r q p a post is replies unwritten) _ known known2 g = absurd (known (inl refl))
same_answers law s t m _ _ _ _ _ (out_of_memory r post) known known2 g = absurd (known2 (inl refl))
same_answers law s t m _ _ _ _ _ (unrendered r q p a post is replies unwritten) known known2 g = absurd (known2 (inl refl))
same_answers law s t m _ _ _ _ (failed r q p post is fails) _ known known2 g = absurd (known (inr refl))
same_answers law s t m _ _ _ _ (failed_before r q x post is fails) _ known known2 g = absurd (known (inr refl))
same_answers law s t m _ _ _ _ _ (failed r q p post is fails) known known2 g = absurd (known2 (inr refl))
same_answers law s t m _ _ _ _ _ (failed_before r q x post is fails) known known2 g = absurd (known2 (inr refl))
same_answers law s t m _ _ _ _ (unposted r get) (unposted r2 get2) known known2 g = (ticks_same s t r r2 [] [] g, refl)
same_answers law s t m _ _ _ _ (unposted r get) (refused r2 c post is) known known2 g = cc
same_answers law s t m _ _ _ _ (unposted r get) (served r2 q p b post is replies) known known2 g = cc
same_answers law s t m _ _ _ _ (unposted r get) (stepped r2 q n ys y why post is due steps) known known2 g = cc
same_answers law s t m _ _ _ _ (refused r c post is) (unposted r2 get) known known2 g = cc
same_answers law s t m _ _ _ _ (served r q p b post is replies) (unposted r2 get) known known2 g = cc
same_answers law s t m _ _ _ _ (stepped r q n xs x why post is due steps) (unposted r2 get) known known2 g = cc
same_answers law s t m _ _ _ _ (refused r c post is) (refused r2 d post2 is2) known known2 g =
    (ticks_same s t r r2 [] [] g, ap (λ z. refusal_of z) (one_refusal m d c is2 is))
same_answers law s t m _ _ _ _ (refused r c post is) (served r2 q p b post2 is2 replies) known known2 g = absurd (never_both m (moment_of r2) q c is2 is)
same_answers law s t m _ _ _ _ (refused r c post is) (stepped r2 q n ys y why post2 is2 due steps) known known2 g = absurd (never_both m (moment_of r2) q c is2 is)
same_answers law s t m _ _ _ _ (served r q p a post is replies) (refused r2 c post2 is2) known known2 g = absurd (never_both m (moment_of r) q c is is2)
same_answers law s t m _ _ _ _ (stepped r q n xs x why post is due steps) (refused r2 c post2 is2) known known2 g = absurd (never_both m (moment_of r) q c is is2)
same_answers law s t m _ _ _ _ (served r q p a post is replies) (served r2 q2 p2 b post2 is2 replies2) known known2 g =
    both_served law.0 s t r r2 q p p2 a b replies (subst (λ z. Replies p2 z b) (same_request s t m r r2 q q2 _ _ g is is2) replies2) g
same_answers law s t m _ _ _ _ (served r q p a post is replies) (stepped r2 q2 n ys y why post2 is2 due steps) known known2 g =
    absurd (subst IsOneTurn (subst (λ (z : Request). z.action ≡ deliver_due n) (same_request s t m r r2 q q2 _ _ g is is2) due) replies.1.askable.one_turn)
same_answers law s t m _ _ _ _ (stepped r q n xs x why post is due steps) (served r2 q2 p b post2 is2 replies) known known2 g =
    let request = sym (same_request s t m r r2 q q2 _ _ g is is2) in
    absurd (subst IsOneTurn (subst (λ (z : Request). z.action ≡ deliver_due n) request due) replies.1.askable.one_turn)
same_answers law s t m _ _ _ _ (stepped r q n xs x why post is due steps) (stepped r2 q2 n2 ys y other post2 is2 due2 steps2) known known2 g =
    let dues : deliver_due n2 ≡ deliver_due n = sym due2 ∙ ap (λ (z : Request). z.action) (same_request s t m r r2 q q2 _ _ g is is2) ∙ due in
    let budget : n2 ≡ n = cc in
    both_stepped s t r r2 n xs ys x y why other steps (subst (λ z. Steps z ys y other) budget steps2) known known2 g
same_answers law s t m _ _ _ _ (unposted r get) (repeated r2 q n ys b post is due repeating) known known2 g = cc
same_answers law s t m _ _ _ _ (repeated r q n xs a post is due repeating) (unposted r2 get) known known2 g = cc
same_answers law s t m _ _ _ _ (refused r c post is) (repeated r2 q n ys b post2 is2 due repeating) known known2 g =
    absurd (never_both m (moment_of r2) q c is2 is)
same_answers law s t m _ _ _ _ (repeated r q n xs a post is due repeating) (refused r2 c post2 is2) known known2 g =
    absurd (never_both m (moment_of r) q c is is2)
same_answers law s t m _ _ _ _ (served r q p a post is replies) (repeated r2 q2 n ys b post2 is2 due repeating) known known2 g =
    absurd (subst IsOneTurn (subst (λ (z : Request). z.action ≡ step_replays n) (same_request s t m r r2 q q2 _ _ g is is2) due) replies.1.askable.one_turn)
same_answers law s t m _ _ _ _ (repeated r q n xs a post is due repeating) (served r2 q2 p b post2 is2 replies) known known2 g =
    let request = sym (same_request s t m r r2 q q2 _ _ g is is2) in
    absurd (subst IsOneTurn (subst (λ (z : Request). z.action ≡ step_replays n) request due) replies.1.askable.one_turn)
same_answers law s t m _ _ _ _ (stepped r q n xs x why post is due steps) (repeated r2 q2 n2 ys b post2 is2 due2 repeating) known known2 g =
    let dues : step_replays n2 ≡ deliver_due n = sym due2 ∙ ap (λ (z : Request). z.action) (same_request s t m r r2 q q2 _ _ g is is2) ∙ due in cc
same_answers law s t m _ _ _ _ (repeated r q n xs a post is due repeating) (stepped r2 q2 n2 ys y why post2 is2 due2 steps) known known2 g =
    let dues : deliver_due n2 ≡ step_replays n = sym due2 ∙ ap (λ (z : Request). z.action) (same_request s t m r r2 q q2 _ _ g is is2) ∙ due in cc
same_answers law s t m _ _ _ _ (repeated r q n xs a post is due repeating) (repeated r2 q2 n2 ys b post2 is2 due2 repeating2) known known2 g =
    let dues : step_replays n2 ≡ step_replays n = sym due2 ∙ ap (λ (z : Request). z.action) (same_request s t m r r2 q q2 _ _ g is is2) ∙ due in
    let budget : n2 ≡ n = cc in
    both_repeated law.1 s t r r2 n xs ys a b repeating (subst (λ z. Repeating z ys b) budget repeating2) known known2 g

taken_read : (xs : List Act) (x : Turned) → Taken xs x → read_in xs ≡ []
taken_read _ _ none = refl
taken_read _ _ (one_more xs _ x f before (attempted r p q c o f2 claims fits recorded)) = read_append xs _ ∙ ap (λ z. z ++ []) (taken_read xs x before)

stop_read : (xs : List Act) (why : Why) → Stop xs why → read_in xs ≡ []
stop_read _ _ (idle_at r look idle) = refl
stop_read _ _ (unrecorded r p c o _ _ claims fits (limited_by q back)) = refl
stop_read _ _ (unrecorded r p c o _ _ claims fits (broken_before q back)) = refl
stop_read _ _ (unrecorded r p c o _ _ claims fits (broken_by m q breaking back)) = refl
stop_read _ _ _ = refl

-- nothing is read while a message is answered
pub answers_read : (m : Message) (xs : List Act) (reply : Reply) → Answers m xs reply → read_in xs ≡ []
answers_read m _ _ (stepped r request budget _ _ _ post is due (spent xs x taken used)) = taken_read xs x taken
answers_read m _ _ (stepped r request budget _ _ _ post is due (stopped xs last x why taken less stop)) =
    read_append xs last ∙ ap (λ z. z ++ read_in last) (taken_read xs x taken) ∙ stop_read last why stop
answers_read m _ _ (repeated r request budget acts made post is due repeating) = repeats_read budget acts made repeating
answers_read m _ _ _ = refl

read_split : (xs vs : List Act) (u : List ℕ) → read_in (xs ++ vs) ++ u ≡ read_in xs ++ (read_in vs ++ u)
read_split xs vs u = ap (λ z. z ++ u) (read_append xs vs) ∙ append_assoc (read_in xs) (read_in vs) u

-- what is given of two sessions that read the same bytes; one of them may have read more
pub record Two (s t : State) (xs ys : List Act) : Type 0 where
  pub given : Given s t xs ys
  pub unread : List ℕ
  pub other_unread : List ℕ
  pub same : read_in xs ++ unread ≡ read_in ys ++ other_unread

pub two_front : (s t : State) (xs ys vs ws : List Act) → Two s t (xs ++ vs) (ys ++ ws) → Two s t xs ys
two_front s t xs ys vs ws x =
    let same = sym (read_split xs vs x.unread) ∙ x.same ∙ read_split ys ws x.other_unread in
    record { given = given_front s t xs ys vs ws x.given; unread = read_in vs ++ x.unread; other_unread = read_in ws ++ x.other_unread; same = same }

-- two sessions that answered the same messages: the bytes that each holds go on from the same place
pub record Together (s t : State) (xs ys : List Act) (held other_held : List ℕ) : Type 0 where
  pub same : Same s t xs ys
  pub left : (u v : List ℕ) → read_in xs ++ u ≡ read_in ys ++ v → held ++ u ≡ other_held ++ v

read_more : (acts : List Act) (piece u : List ℕ) → read_in (acts ++ reads piece ∷ []) ++ u ≡ read_in acts ++ (piece ++ u)
read_more acts piece u = read_split acts (reads piece ∷ []) u ∙ ap (λ z. read_in acts ++ (z ++ u)) (append-nil piece)

read_here : (s t : State) (xs ys : List Act) (piece held other_held : List ℕ) → Together s t xs ys held other_held
    → Together s t (xs ++ reads piece ∷ []) ys (held ++ piece) other_held
read_here s t xs ys piece held other_held x = record {
  same = subst (Same s t (xs ++ reads piece ∷ [])) (append-nil ys)
      (same_append s t xs ys (reads piece ∷ []) [] x.same (record { state = x.same.state; does = record { turns = refl; readings = refl; tries = refl; bytes = refl } }));
  left = λ u v is. append_assoc held piece u ∙ x.left (piece ++ u) v (sym (read_more xs piece u) ∙ is);
}

read_there : (s t : State) (xs ys : List Act) (piece held other_held : List ℕ) → Together s t xs ys held other_held
    → Together s t xs (ys ++ reads piece ∷ []) held (other_held ++ piece)
read_there s t xs ys piece held other_held x = record {
  same = subst (λ z. Same s t z (ys ++ reads piece ∷ [])) (append-nil xs)
      (same_append s t xs ys [] (reads piece ∷ []) x.same (record { state = x.same.state; does = record { turns = refl; readings = refl; tries = refl; bytes = refl } }));
  left = λ u v is. x.left u (piece ++ v) (is ∙ read_more ys piece v) ∙ sym (append_assoc other_held piece v);
}

pub writes_same : (s t : State) (x y : List ℕ) → IsSameState s t → y ≡ x → Same s t (writes x ∷ []) (writes y ∷ [])
writes_same s t x y state same = record { state = state; does = record { turns = refl; readings = refl; tries = refl; bytes = ap (λ z. z ++ []) same } }

-- the message at the front of the same bytes is one
pub one_front : (held other_held u v rest other_rest : List ℕ) (m other : Message) → held ++ u ≡ other_held ++ v → HoldsMessage held m rest
    → HoldsMessage other_held other other_rest → (other ≡ m) × (rest ++ u ≡ other_rest ++ v)
one_front held other_held u v rest other_rest m other same (front, is, split) (front2, is2, split2) =
    let whole : front ++ (rest ++ u) ≡ front2 ++ (other_rest ++ v) =
    sym (append_assoc front rest u) ∙ ap (λ z. z ++ u) (sym split) ∙ same ∙ ap (λ z. z ++ v) split2 ∙ append_assoc front2 other_rest v in
    let one = one_message front front2 (rest ++ u) (other_rest ++ v) m other is is2 whole in
    (sym one.1, append_cancel_left front2 (rest ++ u) (other_rest ++ v) (ap (λ z. z ++ (rest ++ u)) (sym one.0) ∙ whole))

-- the acts for a message, with what is written of its reply
abbrev pub Answered : List Act → Message → Reply → Bool → List Act
Answered done m reply close = done ++ writes (sent_text m.method reply close) ∷ []

answered_read : (xs done : List Act) (m : Message) (reply : Reply) (close : Bool) (u : List ℕ) → Answers m done reply
    → read_in (xs ++ Answered done m reply close) ++ u ≡ read_in xs ++ u
answered_read xs done m reply close u is =
    read_split xs (Answered done m reply close) u
    ∙ ap (λ z. read_in xs ++ (z ++ u)) (read_append done (writes (sent_text m.method reply close) ∷ []) ∙ ap (λ z. z ++ []) (answers_read m done reply is))

remembered : (xs done : List Act) (m : Message) (reply : Reply) (close : Bool) → IsAmple (xs ++ Answered done m reply close) → ¬ IsFailureReply reply
remembered xs done m reply close ample says =
    ample (sent_text m.method reply close) (Contains-append_right xs (Answered done m reply close) _ (Contains-push done _))
    (m.method, close, reply, says, refl)

-- two sessions answer the next message
pub both_answer : Once → (s t : State) (held other_held rest other_rest : List ℕ) (xs ys done other_done : List Act) (m other : Message)
    (reply other_reply : Reply) (close : Message → Bool) → Together s t xs ys held other_held → HoldsMessage held m rest
    → HoldsMessage other_held other other_rest → Answers m done reply → Answers other other_done other_reply
    → Two s t (xs ++ Answered done m reply (close m)) (ys ++ Answered other_done other other_reply (close other))
    → Together s t (xs ++ Answered done m reply (close m)) (ys ++ Answered other_done other other_reply (close other)) rest other_rest
both_answer law s t held other_held rest other_rest xs ys done other_done m other reply other_reply close x holds holds2 is is2 y =
    let last = writes (sent_text m.method reply (close m)) ∷ [] in
    let last2 = writes (sent_text other.method other_reply (close other)) ∷ [] in
    let at = two_front s t xs ys (done ++ last) (other_done ++ last2) y in
    let message = (one_front held other_held at.unread at.other_unread rest other_rest m other (x.left at.unread at.other_unread at.same) holds holds2).0 in
    let here = after_acts xs s in
    let there = after_acts ys t in
    let did = same_answers law here there m done other_done reply other_reply is (subst (λ z. Answers z other_done other_reply) message is2)
    (remembered xs done m reply (close m) y.given.one.ample) (remembered ys other_done other other_reply (close other) y.given.two.ample)
    (given_front here there done other_done last last2 (given_rest s t xs ys (done ++ last) (other_done ++ last2) x.same y.given)) in
    let text = ap (λ (w : Message). sent_text w.method other_reply (close w)) message ∙ ap (λ w. sent_text m.method w (close m)) did.1 in
    record {
      same = same_append s t xs ys (done ++ last) (other_done ++ last2) x.same
          (same_append here there done other_done last last2 did.0 (writes_same _ _ _ _ did.0.state text));
      left = λ u v same. (one_front held other_held u v rest other_rest m other (x.left u v (sym (answered_read xs done m reply (close m) u is) ∙ same
          ∙ answered_read ys other_done other other_reply (close other) v is2)) holds holds2).1;
    }

-- two sessions of which neither answered a message yet
both_begin : (s t x : State) (other_held : List ℕ) (n : ℕ) (ys : List Act) → Serving n other_held ys → n ≡ 0 → Two s t (looks x ∷ []) ys
    → Together s t (looks x ∷ []) ys [] other_held
both_begin s t x _ _ _ (begun y) is g = record { same = record { state = g.given.state; does = record { turns = refl; readings = refl; tries = refl; bytes = refl } }; left = λ u v same. same }
both_begin s t x _ _ _ (reads_on n held piece ys before awaited some) is g =
    read_there s t (looks x ∷ []) ys piece [] held (both_begin s t x held n ys before is (two_front s t (looks x ∷ []) ys [] (reads piece ∷ []) g))
both_begin s t x _ _ _ (answers n held rest ys done m reply before holds did stays) is g = absurd (omega (arith, is))

-- a session that answered the same number of messages
abbrev SameAs : State → State → (n : ℕ) (held : List ℕ) (xs : List Act) → Type 0
SameAs s t n held xs = (other_held : List ℕ) (ys : List Act) → Serving n other_held ys → Two s t xs ys → Together s t xs ys held other_held

both_answered : Once → (s t : State) (held rest : List ℕ) (n k : ℕ) (xs done : List Act) (m : Message) (reply : Reply) → SameAs s t n held xs
    → HoldsMessage held m rest → Answers m done reply → (other_held : List ℕ) (ys : List Act) → Serving k other_held ys → k ≡ n + 1
    → Two s t (xs ++ Answered done m reply false) ys → Together s t (xs ++ Answered done m reply false) ys rest other_held
both_answered law s t held rest n _ xs done m reply ih holds is _ _ (begun y) count g = absurd (omega (arith, count))
both_answered law s t held rest n _ xs done m reply ih holds is _ _ (reads_on k held2 piece ys before awaited some) count g =
    let acts = xs ++ Answered done m reply false in
    read_there s t acts ys piece rest held2 (both_answered law s t held rest n k xs done m reply ih holds is held2 ys before count
    (two_front s t acts ys [] (reads piece ∷ []) (subst (λ z. Two s t z (ys ++ reads piece ∷ [])) (sym (append-nil acts)) g)))
both_answered law s t held rest n _ xs done m reply ih holds is _ _ (answers k held2 rest2 ys done2 other reply2 before holds2 is2 stays) count g =
    both_answer law s t held held2 rest rest2 xs ys done done2 m other reply reply2 (λ w. false)
    (ih held2 ys (subst (λ z. Serving z held2 ys) (omega (arith, count)) before)
    (two_front s t xs ys (Answered done m reply false) (Answered done2 other reply2 false) g)) holds holds2 is is2 g

-- two sessions that answered the same number of messages of the same bytes did alike
pub same_serving : Once → (s t : State) (n : ℕ) (held : List ℕ) (xs : List Act) → Serving n held xs → SameAs s t n held xs
same_serving law s t _ _ _ (begun x) other_held ys two g = both_begin s t x other_held 0 ys two refl g
same_serving law s t _ _ _ (reads_on n held piece xs before awaited some) other_held ys two g =
    read_here s t xs ys piece held other_held (same_serving law s t n held xs before other_held ys two
    (two_front s t xs ys (reads piece ∷ []) [] (subst (Two s t (xs ++ reads piece ∷ [])) (sym (append-nil ys)) g)))
same_serving law s t _ _ _ (answers n held rest xs done m reply before holds is stays) other_held ys two g =
    both_answered law s t held rest n (n + 1) xs done m reply (same_serving law s t n held xs before) holds is other_held ys two refl g
