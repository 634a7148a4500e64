-- The pieces of a reply, joined. Other files cite `head_joined` and `reply_joined`.
use Rattle.std.proofs.Common.{◌≡◌, ℕ, ◌+◌, Bool, inl, inr, List, [], ◌∷◌, ◌++◌, length, sym, refl, ap, ◌∙◌, append_assoc, length-append, arith}
use Rattle.std.specs.Prelude.{codes, decimal}
use Rattle.json_text.specs.Compact.{compact_text}
use Rattle.api_replies.specs.Reply.{Counts, counted, stepped}
use Rattle.api_replies.specs.Written.{allow_field, message_with, message_text, reply_text, IsServedStatus}
use Rattle.api_replies.specs.Pieces.{status_line, fields_text, head_end, head_text}

-- the fields as the code writes them
abbrev pub fields_written : List ℕ
fields_written = codes "Content-Type: application/x-amz-json-1.1" ++ 13 ∷ 10 ∷ codes "Content-Length: "

pub head_joined : (before s d e : List ℕ) (status len : ℕ) (close : Bool) → s ≡ status_line status → d ≡ decimal len → e ≡ head_end close
    → (((before ++ s) ++ fields_written) ++ d) ++ e ≡ before ++ head_text status len close
unfolding head_text fields_text
head_joined before s d e status len close p q r = rw (p, q, r) (simp append_assoc)

-- a status that is written from a value has no field `Allow`
no_allow : (status : ℕ) → IsServedStatus status → [] ≡ allow_field status
no_allow status (inl is) = rw is refl
no_allow status (inr (inl is)) = rw is refl
no_allow status (inr (inr is)) = rw is refl

head_and_body : (before body : List ℕ) (status : ℕ) (close : Bool)
    → (before ++ head_text status (length body) close) ++ body ≡ before ++ message_with status (length body) [] close body
unfolding head_text fields_text status_line head_end
head_and_body before body status close = simp append_assoc

pub reply_joined : (before body : List ℕ) (status : ℕ) (close : Bool) → IsServedStatus status
    → (before ++ head_text status (length body) close) ++ body ≡ before ++ message_text status body close
reply_joined before body status close served =
    head_and_body before body status close
    ∙ ap (λ (more : List ℕ). before ++ message_with status (length body) more close body) (no_allow status served)

-- the counts between the other bytes of their body
abbrev pub attempts_key : List ℕ
attempts_key = 123 ∷ 34 ∷ (codes "Attempts" ++ 34 ∷ 58 ∷ [])

abbrev pub delivered_key : List ℕ
delivered_key = 44 ∷ 34 ∷ (codes "Delivered" ++ 34 ∷ 58 ∷ [])

abbrev pub dead_lettered_key : List ℕ
dead_lettered_key = 44 ∷ 34 ∷ (codes "DeadLettered" ++ 34 ∷ 58 ∷ [])

abbrev pub dropped_key : List ℕ
dropped_key = 44 ∷ 34 ∷ (codes "Dropped" ++ 34 ∷ 58 ∷ [])

counts_body : (n : Counts) → compact_text (counted n).body
    ≡ attempts_key ++ (decimal n.attempts ++ (delivered_key ++ (decimal n.delivered
    ++ (dead_lettered_key ++ (decimal n.dead_lettered ++ (dropped_key ++ (decimal n.dropped ++ 125 ∷ [])))))))
counts_body n = simp append_assoc

-- the number of bytes of the body
abbrev pub counts_length : Counts → ℕ
counts_length n =
    53 + length (decimal n.attempts) + length (decimal n.delivered) + length (decimal n.dead_lettered) + length (decimal n.dropped)

counts_len : (n : Counts) → length (compact_text (counted n).body) ≡ counts_length n
counts_len n = ap length (counts_body n) ∙ simp length-append (omega arith)

joined : (h a b c d e f g i j : List ℕ)
    → ((((((((h ++ a) ++ b) ++ c) ++ d) ++ e) ++ f) ++ g) ++ i) ++ j ≡ h ++ (a ++ (b ++ (c ++ (d ++ (e ++ (f ++ (g ++ (i ++ j))))))))
joined h a b c d e f g i j = simp append_assoc

pub counts_joined : (n : Counts) (len : ℕ) (close : Bool) → len ≡ counts_length n
    → ((((((((head_text 200 len close ++ attempts_key) ++ decimal n.attempts) ++ delivered_key) ++ decimal n.delivered)
    ++ dead_lettered_key) ++ decimal n.dead_lettered) ++ dropped_key) ++ decimal n.dropped) ++ 125 ∷ []
    ≡ reply_text (counted n) close
counts_joined n len close is =
    let body = compact_text (counted n).body in
    joined (head_text 200 len close) attempts_key (decimal n.attempts) delivered_key (decimal n.delivered) dead_lettered_key
    (decimal n.dead_lettered) dropped_key (decimal n.dropped) (125 ∷ [])
    ∙ ap (λ l. head_text 200 len close ++ l) (sym (counts_body n))
    ∙ ap (λ m. head_text 200 m close ++ body) (is ∙ sym (counts_len n))
    ∙ reply_joined [] body 200 close (inl refl)

-- the number of steps between the other bytes of its body
abbrev pub steps_key : List ℕ
steps_key = 123 ∷ 34 ∷ (codes "Steps" ++ 34 ∷ 58 ∷ [])

steps_body : (n : ℕ) → compact_text (stepped n).body ≡ steps_key ++ (decimal n ++ 125 ∷ [])
steps_body n = simp append_assoc

steps_len : (n : ℕ) → length (compact_text (stepped n).body) ≡ 10 + length (decimal n)
steps_len n = ap length (steps_body n) ∙ simp length-append (omega arith)

joined_steps : (h a b c : List ℕ) → ((h ++ a) ++ b) ++ c ≡ h ++ (a ++ (b ++ c))
joined_steps h a b c = simp append_assoc

pub steps_joined : (n len : ℕ) (close : Bool) → len ≡ 10 + length (decimal n)
    → ((head_text 200 len close ++ steps_key) ++ decimal n) ++ 125 ∷ [] ≡ reply_text (stepped n) close
steps_joined n len close is =
    let body = compact_text (stepped n).body in
    joined_steps (head_text 200 len close) steps_key (decimal n) (125 ∷ [])
    ∙ ap (λ l. head_text 200 len close ++ l) (sym (steps_body n))
    ∙ ap (λ m. head_text 200 m close ++ body) (is ∙ sym (steps_len n))
    ∙ reply_joined [] body 200 close (inl refl)
