-- What is at the front of the bytes, from what the parser returns for their first 16,384. Other files cite `reads_whole`,
-- `start_is`, `few_fields`, `never_by` (for heads), `take_after`, `body_length_at`, `served_at`, `message_found` and `holds_at` (for
-- messages).
use Rattle.std.proofs.Common.{◌≡◌, ◌≢◌, ℕ, ◌+◌, ◌-◌, ◌≤◌, ◌||◌, inl, inr, List, ◌++◌, length, take, drop, min, Ok, sym, refl, ap, ◌∙◌, subst, arith}
use Rattle.std.specs.Prelude.{◌==◌}
use Rattle.std.proofs.lemmas.List.{take_all, length-take-le, length-take, length-drop, length-map, drop-append-le, take-append-drop}
use Rattle.std.proofs.lemmas.Bool.{cases_lt}
use Rattle.std.proofs.Math.Seq.{take-append-add}
use Rattle.httparse.specs.Grammar.{Field, RequestHead, print_request, ReadsRequest, NeverHasRequest}
use Rattle.httparse.specs.Spans.{AreFieldsAt, header_bytes, name_and_value, RequestExceeds}
use Rattle.httparse.specs.declared.Error.{Error}
use Rattle.httparse.specs.declared.Error.TheVariants.{HeaderName, HeaderValue, NewLine, Status, Token, TooManyHeaders, Version}
use Rattle.httparse.specs.declared.spans.HeaderSpan.{HeaderSpan}
use Rattle.httparse.proofs.GrammarLemmas.{ReadsRequest-append}
use Rattle.api_messages.specs.declared.front.Head.{Head}
use Rattle.api_messages.specs.declared.front.InPlace.{InPlace}
use Rattle.api_messages.specs.declared.method.Method.{Method}
use Rattle.api_messages.specs.Fields.{Known, method_of, text_at, body_length_by, body_length}
use Rattle.api_messages.specs.Lines.{Begins65th}
use Rattle.api_messages.specs.Messages.{IsServed, HoldsMessage, first_bytes}
use Rattle.api_messages.specs.Reading.{occurrence_in, known, IsHeadAt, IsMessageAt, message_at}
use Rattle.api_messages.proofs.LineLemmas.{exceeds_begins}

-- the bytes after the first `a`, in the two spellings
pub take_after : (xs : List ℕ) (a : ℕ) → take (length xs - a) (drop a xs) ≡ drop a xs
take_after xs a = take_all (length xs - a) (drop a xs) (omega (arith, length-drop a xs))

reads_longer : (a x : List ℕ) (h : RequestHead) (len : ℕ) → ReadsRequest a h (drop len a) → len ≤ length a → ReadsRequest (a ++ x) h (drop len (a ++ x))
reads_longer a x h len reads within =
    subst (ReadsRequest (a ++ x) h) (sym (drop-append-le len a x within)) (ReadsRequest-append a h (drop len a) x reads)

-- a head at the front of the first bytes is at the front of all
pub reads_whole : (bytes : List ℕ) (n : ℕ) (h : RequestHead) (len : ℕ) → ReadsRequest (take n bytes) h (drop len (take n bytes)) → len ≤ length (take n bytes)
    → ReadsRequest bytes h (drop len bytes)
reads_whole bytes n h len reads within =
    subst (λ s. ReadsRequest s h (drop len s)) (take-append-drop n bytes) (reads_longer (take n bytes) (drop n bytes) h len reads within)

-- the bytes that the parser is asked about
pub start_is : (bytes : List ℕ) (n : ℕ) → n ≡ min (length bytes) 16384 → take n bytes ≡ first_bytes bytes
start_is bytes n is =
    elim (cases_lt 16384 (length bytes)) [
      | inl past ↦ (let all : n ≡ 16384 = omega (arith, is, past) in ap (λ (m : ℕ). take m bytes) all)
      | inr short ↦ take_all n bytes (omega (arith, is, short)) ∙ sym (take_all 16384 bytes (omega (arith, short)))
    ]

pub few_fields : (buf : List ℕ) (headers : List HeaderSpan) (count : ℕ) (fields : List Field) → AreFieldsAt buf headers count fields
    → length fields ≤ count
few_fields buf headers count fields same =
    omega (arith, ap length same, length-map (take count headers) (header_bytes buf), length-map fields name_and_value, length-take count headers)

-- an error of the parser, if no 65th field begins
pub never_by : (bytes : List ℕ) (e : Error) → (e ≢ TooManyHeaders → NeverHasRequest bytes)
    → (◌≡◌ {A = Error} e TooManyHeaders → RequestExceeds 64 bytes) → ¬ (Begins65th bytes) → NeverHasRequest bytes
never_by bytes HeaderName invalid exceeds none = invalid (λ e. cc)
never_by bytes HeaderValue invalid exceeds none = invalid (λ e. cc)
never_by bytes NewLine invalid exceeds none = invalid (λ e. cc)
never_by bytes Status invalid exceeds none = invalid (λ e. cc)
never_by bytes Token invalid exceeds none = invalid (λ e. cc)
never_by bytes TooManyHeaders invalid exceeds none = absurd (none (exceeds_begins bytes (exceeds refl)))
never_by bytes Version invalid exceeds none = invalid (λ e. cc)

-- the body length by the parts of a head is that of the head
pub body_length_at : (bytes : List ℕ) (head : Head) (h : RequestHead) → IsHeadAt bytes head h
    → body_length_by head.method head.minor (known head.fields) ≡ body_length h
body_length_at bytes head h at =
    ap (λ (m : Method). body_length_by m head.minor (known head.fields)) at.method
    ∙ ap (λ (n : ℕ). body_length_by (method_of h.method) n (known head.fields)) at.minor
    ∙ ap (λ (k : Known). body_length_by (method_of h.method) h.minor k) at.fields

pub served_at : (bytes : List ℕ) (head : Head) (h : RequestHead) (n : ℕ) → IsHeadAt bytes head h
    → body_length_by head.method head.minor (known head.fields) ≡ Ok n → IsServed h n
served_at bytes head h n at announces = record {
  small = at.small;
  announces = sym (body_length_at bytes head h at) ∙ announces;
}

take_message : (bytes : List ℕ) (h : RequestHead) (len n : ℕ) → ReadsRequest bytes h (drop len bytes) → len ≡ length (print_request h)
    → ReadsRequest (take (len + n) bytes) h (take n (drop len bytes))
take_message bytes h len n reads is = (
  reads.0,
  ap (λ m. take (m + n) bytes) is
      ∙ ap (take (length (print_request h) + n)) reads.1
      ∙ take-append-add (print_request h) (drop len bytes) n,
)

pub message_found : (bytes : List ℕ) (head : Head) (h : RequestHead) (n : ℕ) (p : InPlace) → IsHeadAt bytes head h
    → body_length_by head.method head.minor (known head.fields) ≡ Ok n → n ≤ length (drop head.len bytes)
    → p.len ≡ head.len + n → p.method ≡ head.method → p.target ≡ head.fields.target → p.caller ≡ head.fields.caller
    → p.body.now ≡ take n (drop head.len bytes) → p.close ≡ ((head.minor == 0) || head.fields.close)
    → IsMessageAt bytes p
message_found bytes head h n p at announces there len method target caller body close =
    let size : length p.body.now ≡ n = ap length body ∙ length-take-le n (drop head.len bytes) there in
    let served = served_at bytes head h n at announces in
    let reads : ReadsRequest (take p.len bytes) h p.body.now =
    subst (λ m. ReadsRequest (take m bytes) h p.body.now) (sym len)
    (subst (ReadsRequest (take (head.len + n) bytes) h) (sym body) (take_message bytes h head.len n at.reads at.len)) in
    record {
      within = omega (arith, at.within, length-drop head.len bytes);
      message = record {
        head = h;
        reads = reads;
        served = subst (IsServed h) (sym size) served;
        method = method ∙ at.method;
        target = ap (λ f. text_at (occurrence_in f)) target ∙ ap (λ (k : Known). text_at k.target) at.fields;
        caller = ap (λ f. text_at (occurrence_in f)) caller ∙ ap (λ (k : Known). text_at k.caller) at.fields;
        close = close ∙ ap (λ (m : ℕ). (m == 0) || head.fields.close) at.minor ∙ ap (λ (k : Known). (h.minor == 0) || k.close) at.fields;
      };
    }

-- a message found is a front of the bytes
pub holds_at : (bytes : List ℕ) (p : InPlace) → IsMessageAt bytes p → HoldsMessage bytes (message_at p) (drop p.len bytes)
holds_at bytes p at = (take p.len bytes, at.message, sym (take-append-drop p.len bytes))
