-- What is written of a message and of its body: `message_is`; `rule_body`, `targets_body` and `event_body`, of any text in the place of
-- a number's digits that has no escape, as digits have none (`digits_plain`).
use Rattle.std.proofs.Common.{◌≡◌, ◌≢◌, ◌∙◌, ◌<◌, ◌≤◌, ◌+◌, ◌^◌, ℕ, zero, suc, refl, sym, ap, subst, List, [], ◌∷◌, ◌++◌, length, map, flat_map, codes, decimal, append_assoc, append-nil, arith}
use Rattle.std.specs.Fmt.{digits}
use Rattle.std.specs.Int.Digits.{AllBelowBase, digits_of}
use Rattle.std.proofs.lemmas.Bool.Decides.{nat_tests}
use Rattle.std.proofs.lemmas.Fmt.{decimal-digits_of}
use Rattle.std.proofs.lemmas.Grind.{flat_map-append}
use Rattle.std.proofs.lemmas.Int.Digits.{all_below_base_digits_of}
use Rattle.json_text.specs.Compact.{compact_text, escape}
use Rattle.json_text.specs.Tree.{text, number}
use Rattle.drill_requests.specs.Messages.{message, object_of, one_of, body_of}

-- the pieces of a message in the order in which they are added
joined : (h o t d e b : List ℕ) → ((((h ++ o) ++ t) ++ d) ++ e) ++ b ≡ h ++ (o ++ (t ++ (d ++ (e ++ b))))
joined h o t d e b = simp append_assoc

pub message_is : (o b one two three four five six : List ℕ)
    → one ≡ codes "POST / HTTP/1.1\r\nHost: 127.0.0.1\r\nX-Amz-Target: " → two ≡ one ++ o → three ≡ two ++ codes "\r\nContent-Length: "
    → four ≡ three ++ decimal (length b) → five ≡ four ++ codes "\r\n\r\n" → six ≡ five ++ b → six ≡ message o b
unfolding message
message_is o b one two three four five six p q r s t u =
    u ∙ ap (λ x. x ++ b) (t ∙ ap (λ x. x ++ codes "\r\n\r\n") (s ∙ ap (λ x. x ++ decimal (length b))
    (r ∙ ap (λ x. x ++ codes "\r\nContent-Length: ") (q ∙ ap (λ x. x ++ o) p))))
    ∙ joined (codes "POST / HTTP/1.1\r\nHost: 127.0.0.1\r\nX-Amz-Target: ") o (codes "\r\nContent-Length: ") (decimal (length b)) (codes "\r\n\r\n") b

-- ---- digits have no escape

abbrev pub IsPlain : List ℕ → Type 0
IsPlain bytes = flat_map escape bytes ≡ bytes

plain_byte : (b : ℕ) → 32 ≤ b → b ≢ 34 → b ≢ 92 → escape b ≡ b ∷ []
plain_byte b low quote slash = grind (arith, nat_tests)

plain_all : (ds : List ℕ) → AllBelowBase 10 ds → IsPlain (map (λ d. 48 + d) ds)
plain_all [] h = refl
plain_all (d ∷ ds) h =
    let small : d < 10 = h.0 in
    ap (λ t. t ++ flat_map escape (map (λ k. 48 + k) ds)) (plain_byte (48 + d) (omega arith) (omega arith) (omega arith))
    ∙ ap (λ t. (48 + d) ∷ t) (plain_all ds h.1)

pub digits_plain : (n : ℕ) → n < 2 ^ 64 → IsPlain (decimal n)
unfolding digits
digits_plain zero h = refl
digits_plain (suc n) h =
    subst IsPlain (sym (decimal-digits_of (suc n) (omega arith) h)) (plain_all (digits_of 10 (suc n)) (all_below_base_digits_of 10 (suc n) (omega arith)))

-- what has no escape, between two texts
plain_between : (f d g : List ℕ) → IsPlain d → flat_map escape (f ++ (d ++ g)) ≡ flat_map escape f ++ (d ++ flat_map escape g)
plain_between f d g h =
    flat_map-append escape f (d ++ g) ∙ ap (λ t. flat_map escape f ++ t) (flat_map-append escape d g ∙ ap (λ t. t ++ flat_map escape g) h)

-- ---- the body that puts a rule

rule_ends : (d : List ℕ) → (((((((d ++ 34 ∷ []) ++ []) ++ 93 ∷ []) ++ []) ++ 125 ∷ []) ++ []) ++ 125 ∷ []) ≡ d ++ codes "\"]}}"
rule_ends [] = refl
rule_ends (x ∷ d) = ap (λ t. x ∷ t) (rule_ends d)

pattern_text : (d : List ℕ) → IsPlain d
    → compact_text (object_of ((codes "detail", object_of ((codes "k", one_of (text (codes "k" ++ d))) ∷ [])) ∷ [])) ≡ codes "{\"detail\":{\"k\":[\"k" ++ (d ++ codes "\"]}}")
pattern_text d h = ap (λ t. codes "{\"detail\":{\"k\":[\"k" ++ t) (ap (λ p. (((((((p ++ 34 ∷ []) ++ []) ++ 93 ∷ []) ++ []) ++ 125 ∷ []) ++ []) ++ 125 ∷ [])) h ∙ rule_ends d)

two_joined : (d m p : List ℕ) → ((d ++ 34 ∷ []) ++ (m ++ ((p ++ 34 ∷ []) ++ []))) ++ 125 ∷ [] ≡ d ++ (34 ∷ (m ++ (p ++ (34 ∷ 125 ∷ []))))
two_joined d m p = simp (append_assoc, append-nil)

pub rule_body : (d : List ℕ) → IsPlain d
    → body_of ((codes "Name", text (codes "k" ++ d))
    ∷ (codes "EventPattern", text (compact_text (object_of ((codes "detail", object_of ((codes "k", one_of (text (codes "k" ++ d))) ∷ [])) ∷ []))))
    ∷ [])
    ≡ codes "{\"Name\":\"k" ++ (d ++ (codes "\",\"EventPattern\":\"{\\\"detail\\\":{\\\"k\\\":[\\\"k" ++ (d ++ codes "\\\"]}}\"}")))
rule_body d h =
    let inner = ap (flat_map escape) (pattern_text d h) ∙ plain_between (codes "{\"detail\":{\"k\":[\"k") d (codes "\"]}}") h in
    ap (λ t. codes "{\"Name\":\"k" ++ t)
    (ap (λ p. ((p ++ 34 ∷ []) ++ (codes ",\"EventPattern\":\"" ++ ((flat_map escape (compact_text (object_of ((codes "detail", object_of ((codes "k", one_of (text (codes "k" ++ d))) ∷ [])) ∷ []))) ++ 34 ∷ []) ++ []))) ++ 125 ∷ []) h
    ∙ ap (λ p. ((d ++ 34 ∷ []) ++ (codes ",\"EventPattern\":\"" ++ ((p ++ 34 ∷ []) ++ []))) ++ 125 ∷ []) inner
    ∙ two_joined d (codes ",\"EventPattern\":\"") (codes "{\\\"detail\\\":{\\\"k\\\":[\\\"k" ++ (d ++ codes "\\\"]}}"))
    ∙ ap (λ t. d ++ (codes "\",\"EventPattern\":\"{\\\"detail\\\":{\\\"k\\\":[\\\"k" ++ t)) (append_assoc d (codes "\\\"]}}") (34 ∷ 125 ∷ [])))

-- ---- the body that gives a rule its target

targets_joined : (d m : List ℕ) → ((d ++ 34 ∷ []) ++ (m ++ [])) ++ 125 ∷ [] ≡ d ++ (34 ∷ (m ++ 125 ∷ []))
targets_joined d m = simp (append_assoc, append-nil)

pub targets_body : (d : List ℕ) → IsPlain d
    → body_of ((codes "Rule", text (codes "k" ++ d))
    ∷ (codes "Targets", one_of (object_of ((codes "Id", text (codes "t")) ∷ (codes "Arn", text (codes "arn:aws:sqs:us-east-1:111122223333:d")) ∷ [])))
    ∷ [])
    ≡ codes "{\"Rule\":\"k" ++ (d ++ codes "\",\"Targets\":[{\"Id\":\"t\",\"Arn\":\"arn:aws:sqs:us-east-1:111122223333:d\"}]}")
targets_body d h =
    ap (λ t. codes "{\"Rule\":\"k" ++ t)
    (ap (λ p. ((p ++ 34 ∷ []) ++ (codes ",\"Targets\":[{\"Id\":\"t\",\"Arn\":\"arn:aws:sqs:us-east-1:111122223333:d\"}]" ++ [])) ++ 125 ∷ []) h
    ∙ targets_joined d (codes ",\"Targets\":[{\"Id\":\"t\",\"Arn\":\"arn:aws:sqs:us-east-1:111122223333:d\"}]"))

-- ---- the body that puts an event

detail_ends : (a b : List ℕ) → ((a ++ 34 ∷ []) ++ (44 ∷ 34 ∷ 98 ∷ 34 ∷ 58 ∷ (b ++ []))) ++ 125 ∷ [] ≡ a ++ (codes "\",\"b\":" ++ (b ++ 125 ∷ []))
detail_ends [] b = ap (λ t. codes "\",\"b\":" ++ (t ++ 125 ∷ [])) (append-nil b)
detail_ends (x ∷ a) b = ap (λ t. x ∷ t) (detail_ends a b)

detail_text : (a b : List ℕ) → IsPlain a
    → compact_text (object_of ((codes "k", text (codes "k" ++ a)) ∷ (codes "b", number b) ∷ [])) ≡ codes "{\"k\":\"k" ++ (a ++ (codes "\",\"b\":" ++ (b ++ 125 ∷ [])))
detail_text a b h = ap (λ t. codes "{\"k\":\"k" ++ t) (ap (λ p. ((p ++ 34 ∷ []) ++ (44 ∷ 34 ∷ 98 ∷ 34 ∷ 58 ∷ (b ++ []))) ++ 125 ∷ []) h ∙ detail_ends a b)

event_ends : (p : List ℕ) → (((((p ++ 34 ∷ []) ++ []) ++ 125 ∷ []) ++ []) ++ 93 ∷ []) ++ [] ++ 125 ∷ [] ≡ p ++ codes "\"}]}"
event_ends [] = refl
event_ends (x ∷ p) = ap (λ t. x ∷ t) (event_ends p)

pub event_body : (a b : List ℕ) → IsPlain a → IsPlain b
    → body_of ((
      codes "Entries",
      one_of (object_of ((codes "Source", text (codes "drill")) ∷ (codes "DetailType", text (codes "drill"))
          ∷ (codes "Detail", text (compact_text (object_of ((codes "k", text (codes "k" ++ a)) ∷ (codes "b", number b) ∷ [])))) ∷ [])),
    ) ∷ [])
    ≡ codes "{\"Entries\":[{\"Source\":\"drill\",\"DetailType\":\"drill\",\"Detail\":\"{\\\"k\\\":\\\"k" ++ (a ++ (codes "\\\",\\\"b\\\":" ++ (b ++ codes "}\"}]}")))
event_body a b h k =
    let inner = ap (flat_map escape) (detail_text a b h) ∙ plain_between (codes "{\"k\":\"k") a (codes "\",\"b\":" ++ (b ++ 125 ∷ [])) h
    ∙ ap (λ t. codes "{\\\"k\\\":\\\"k" ++ (a ++ t)) (plain_between (codes "\",\"b\":") b (125 ∷ []) k) in
    ap (λ t. codes "{\"Entries\":[{\"Source\":\"drill\",\"DetailType\":\"drill\",\"Detail\":\"" ++ t)
    (ap (λ p. (((((p ++ 34 ∷ []) ++ []) ++ 125 ∷ []) ++ []) ++ 93 ∷ []) ++ [] ++ 125 ∷ []) inner
    ∙ event_ends (codes "{\\\"k\\\":\\\"k" ++ (a ++ (codes "\\\",\\\"b\\\":" ++ (b ++ 125 ∷ []))))
    ∙ ap (λ t. codes "{\\\"k\\\":\\\"k" ++ t) (around a b))
  where
    around : (x y : List ℕ) → (x ++ (codes "\\\",\\\"b\\\":" ++ (y ++ 125 ∷ []))) ++ codes "\"}]}" ≡ x ++ (codes "\\\",\\\"b\\\":" ++ (y ++ codes "}\"}]}"))
    around x y = append_assoc x (codes "\\\",\\\"b\\\":" ++ (y ++ 125 ∷ [])) (codes "\"}]}") ∙ ap (λ t. x ++ (codes "\\\",\\\"b\\\":" ++ t)) (append_assoc y (125 ∷ []) (codes "\"}]}"))

-- ---- bodies in the order in which their pieces are added

pub two_numbers : (t d u e v none one two three : List ℕ) → none ≡ [] → one ≡ none ++ (t ++ d) → two ≡ one ++ (u ++ e) → three ≡ two ++ v
    → three ≡ t ++ (d ++ (u ++ (e ++ v)))
two_numbers t d u e v none one two three p q r s =
    s ∙ ap (λ x. x ++ v) (r ∙ ap (λ x. x ++ (u ++ e)) (q ∙ ap (λ x. x ++ (t ++ d)) p)) ∙ regroup t d u e v
  where
    regroup : (t d u e v : List ℕ) → ((t ++ d) ++ (u ++ e)) ++ v ≡ t ++ (d ++ (u ++ (e ++ v)))
    regroup t d u e v = simp append_assoc

pub one_number : (t d u none one two : List ℕ) → none ≡ [] → one ≡ none ++ (t ++ d) → two ≡ one ++ u → two ≡ t ++ (d ++ u)
one_number t d u none one two p q r = r ∙ ap (λ x. x ++ u) (q ∙ ap (λ x. x ++ (t ++ d)) p) ∙ append_assoc t d u
