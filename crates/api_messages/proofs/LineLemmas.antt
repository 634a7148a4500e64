-- The 65th field of a head: how it is found, and what follows from it. Other files cite `front_cut`, `begins_here`, `begins_back`,
-- `full_by`, `full_back` (the search), `many_overflows`, `begins_more`, `begins_earlier` and `exceeds_begins`.
use Rattle.std.proofs.Common.{◌≡◌, ◌≢◌, ℕ, zero, suc, ◌+◌, ◌-◌, ◌<◌, ◌≤◌, Bool, true, false, cond, ◌⊎◌, inl, inr, List, [], ◌∷◌, ◌++◌, length, take}
use Rattle.std.proofs.Common.{drop, Some, None, Ok, sym}
use Rattle.std.proofs.Common.{refl, ap, ◌∙◌, subst, append_assoc, append-nil, length-append, arith}
use Rattle.std.specs.Prelude.{All, IsTrue, ◌==◌}
use Rattle.std.specs.List.{flat_map}
use Rattle.std.proofs.lemmas.List.{append_cancel_right, take_at, drop_all, length-map, length-take}
use Rattle.std.proofs.lemmas.List.Elements.{All-nil, All-cons, All-head, All-tail}
use Rattle.std.proofs.lemmas.Bool.{cond-false, ne_eqb, eqb-true, false≢true}
use Rattle.httparse.specs.Grammar.{LineEnd, crlf, lf, print_end, print_blank, print_version, Field, print_field, IsField, AllPass, is_token_byte, is_uri_byte}
use Rattle.httparse.specs.Grammar.{is_value_byte, RequestHead, print_request, IsRequestHead, ReadsRequest, NeverHasRequest}
use Rattle.httparse.specs.Spans.{RequestExceeds, AreFieldsAt, header_bytes, name_and_value, IsRequestOf, IsRequestWithin, FindsRequest}
use Rattle.httparse.specs.declared.Status.TheVariants.{Complete}
use Rattle.httparse.specs.declared.spans.HeaderSpan.{HeaderSpan}
use Rattle.httparse.specs.declared.spans.RequestSpans.{RequestSpans}
use Rattle.httparse.specs.Pieces.{Section, RequestStart, is_newline}
use Rattle.httparse.proofs.PieceLemmas.{RequestStart_deterministic, Section_skip, Stops_token, token_is_no_newline, newline_not_stopped, print_field-append}
use Rattle.httparse.proofs.GrammarLemmas.{print_request-append, request_tree, request_pieces, cons-append}
use Rattle.api_messages.specs.Lines.{IsFull, Begins65th, BeginsName, skip_newlines, after_lines}

-- the empty lines and the request line, and the bytes after them
abbrev start_line : RequestHead → List ℕ → List ℕ
start_line h rest = print_blank h.blank ++ (h.method ++ 32 ∷ (h.target ++ 32 ∷ (print_version h.minor ++ (print_end h.line_end ++ rest))))

abbrev lines_of : List Field → List ℕ
lines_of fields = flat_map print_field fields

start_append : (h : RequestHead) (a b : List ℕ) → start_line h (a ++ b) ≡ start_line h a ++ b
start_append h a b = regroup (print_blank h.blank) h.method h.target (print_version h.minor) (print_end h.line_end) a b
  where
    regroup : (p m t v e x y : List ℕ)
        → p ++ (m ++ 32 ∷ (t ++ 32 ∷ (v ++ (e ++ (x ++ y))))) ≡ (p ++ (m ++ 32 ∷ (t ++ 32 ∷ (v ++ (e ++ x))))) ++ y
    regroup p m t v e x y = simp (append_assoc, cons-append)

-- a head whose last line end is a line feed
full_text : (h : RequestHead) → h.last ≡ lf → print_request h ++ [] ≡ start_line h (lines_of h.fields) ++ 10 ∷ []
full_text h last =
    print_request-append h []
    ∙ ap (λ (e : LineEnd). start_line h ((lines_of h.fields ++ print_end e) ++ [])) last
    ∙ ap (λ (l : List ℕ). start_line h l) (append-nil (lines_of h.fields ++ 10 ∷ []))
    ∙ start_append h (lines_of h.fields) (10 ∷ [])

front_is : (front : List ℕ) (f : IsFull front) → front ≡ start_line f.head (lines_of f.head.fields)
front_is front f = append_cancel_right front _ (10 ∷ []) (f.reads.1 ∙ full_text f.head f.last)

-- the bytes that show a 65th field
shown_is : (s : List ℕ) (b : Begins65th s) → s ≡ start_line b.full.head (lines_of b.full.head.fields ++ b.first ∷ b.rest)
shown_is s b =
    b.bytes_are
    ∙ ap (λ (f : List ℕ). f ++ b.first ∷ b.rest) (front_is b.front b.full)
    ∙ sym (start_append b.full.head (lines_of b.full.head.fields) (b.first ∷ b.rest))

-- ---- a head at the front of such bytes has more than 64 fields

start_reads : (h : RequestHead) (rest : List ℕ) → IsRequestHead h → RequestStart (request_tree h).0 (start_line h rest) rest
start_reads h rest is = (
  _,
  (refl, Stops_token h.method _ is.method.0 is.method.1),
  (_, (is.method.0, is.method.1, refl), (_, ((is.target.0, is.target.1, refl), is.target_text), (_, (is.minor, refl), refl))),
)

more_fields : (fs gs hs : List Field) (last : LineEnd) (first : ℕ) (rest q : List ℕ) → gs ≡ fs ++ hs → length fs ≡ 64
    → Section (hs, last) (first ∷ rest) q → is_token_byte first ≡ true → 64 < length gs
more_fields fs gs [] last first rest q is full section name =
    absurd (newline_not_stopped last q (first ∷ rest) (sym section.1) (token_is_no_newline first name))
more_fields fs gs (h ∷ hs) last first rest q is full section name = omega (arith, ap length is, length-append fs (h ∷ hs), full)

pub many_overflows : (s more : List ℕ) (k : RequestHead) (q : List ℕ) → Begins65th s → ReadsRequest (s ++ more) k q → 64 < length k.fields
many_overflows s more k q b reads =
    let h = b.full.head in
    let after = b.first ∷ (b.rest ++ more) in
    let text : s ++ more ≡ start_line h (lines_of h.fields ++ after) =
    ap (λ (t : List ℕ). t ++ more) (shown_is s b)
    ∙ sym (start_append h (lines_of h.fields ++ b.first ∷ b.rest) more)
    ∙ ap (λ (l : List ℕ). start_line h l) (append_assoc (lines_of h.fields) (b.first ∷ b.rest) more) in
    let pieces = request_pieces (s ++ more) k q reads in
    let same = RequestStart_deterministic.unique (request_tree h).0 (request_tree k).0 (start_line h (lines_of h.fields ++ after))
    (lines_of h.fields ++ after) pieces.0 (start_reads h (lines_of h.fields ++ after) b.full.reads.0)
    (subst (λ (t : List ℕ). RequestStart (request_tree k).0 t pieces.0) text pieces.1) in
    let skipped = Section_skip h.fields k.fields k.last pieces.0 after q (b.full.reads.0.fields, sym same.1) pieces.2 in
    more_fields h.fields k.fields skipped.0 k.last b.first (b.rest ++ more) q skipped.1 b.full.full skipped.2 b.begins

pub begins_more : (s more : List ℕ) → Begins65th s → Begins65th (s ++ more)
begins_more s more b = record {
  front = b.front;
  first = b.first;
  rest = b.rest ++ more;
  bytes_are = ap (λ (t : List ℕ). t ++ more) b.bytes_are ∙ append_assoc b.front (b.first ∷ b.rest) more;
  full = b.full;
  begins = b.begins;
}

-- where a list ends within another cut of the same bytes
split : (xs ys zs ws : List ℕ) (w : ℕ) → xs ++ ys ≡ zs ++ w ∷ ws → ((d : List ℕ) × (zs ≡ xs ++ d)) ⊎ ((d : List ℕ) × (xs ≡ zs ++ w ∷ d))
split [] ys zs ws w e = inl (zs, refl)
split (x ∷ xs) ys [] ws w e = inr (xs, cc)
split (x ∷ xs) ys (z ∷ zs) ws w e =
    elim (split xs ys zs ws w (cc)) [
      | inl found ↦ inl (found.0, cc (e, found.1))
      | inr found ↦ inr (found.0, cc (e, found.1))
    ]

-- if nothing continues bytes that show no 65th field, more bytes show none
pub begins_earlier : (s more : List ℕ) → NeverHasRequest s → ¬ (Begins65th s) → ¬ (Begins65th (s ++ more))
begins_earlier s more never none b =
    elim (split s more b.front b.rest b.first b.bytes_are) [
      | inl past ↦ never (past.0 ++ 10 ∷ []) b.full.head []
          (subst (λ (t : List ℕ). ReadsRequest t b.full.head []) (ap (λ (f : List ℕ). f ++ 10 ∷ []) past.1 ∙ append_assoc s past.0 (10 ∷ [])) b.full.reads)
      | inr inside ↦ none (record { front = b.front; first = b.first; rest = inside.0; bytes_are = inside.1; full = b.full; begins = b.begins })
    ]

-- ---- 65 whole field lines show a 65th field

-- a list of fields cut at a place
record Cut (n : ℕ) (xs : List Field) : Type 0 where
  before : List Field
  here : Field
  after : List Field
  whole : xs ≡ before ++ here ∷ after
  count : length before ≡ n
  all : All IsField before
  is_field : IsField here

cut_at : (n : ℕ) (xs : List Field) → n < length xs → All IsField xs → Cut n xs
cut_at zero [] less all = absurd (omega arith)
cut_at (suc n) [] less all = absurd (omega arith)
cut_at zero (x ∷ xs) less all =
    record { before = []; here = x; after = xs; whole = refl; count = refl; all = All-nil IsField; is_field = All-head IsField x xs all }
cut_at (suc n) (x ∷ xs) less all =
    let c = cut_at n xs (omega (arith, less)) (All-tail IsField x xs all) in
    record {
      before = x ∷ c.before;
      here = c.here;
      after = c.after;
      whole = ap (λ (l : List Field). x ∷ l) c.whole;
      count = ap suc c.count;
      all = All-cons IsField x c.before (All-head IsField x xs all) c.all;
      is_field = c.is_field;
    }

lines_append : (fs gs : List Field) → lines_of (fs ++ gs) ≡ lines_of fs ++ lines_of gs
lines_append [] gs = refl
lines_append (f ∷ fs) gs = ap (λ (l : List ℕ). print_field f ++ l) (lines_append fs gs) ∙ sym (append_assoc (print_field f) (lines_of fs) (lines_of gs))

-- the first byte of a field line
record FirstByte (text : List ℕ) : Type 0 where
  byte : ℕ
  more : List ℕ
  text_is : text ≡ byte ∷ more
  name : is_token_byte byte ≡ true
  some : 0 < length more

first_byte : (f : Field) → IsField f → FirstByte (print_field f)
first_byte f is = subst FirstByte (sym print_is) (go f.name is.name.0 is.name.1)
  where
    print_is : print_field f ≡ f.name ++ 58 ∷ (f.raw ++ print_end f.end)
    print_is = simp append_assoc

    go : (name : List ℕ) → 0 < length name → AllPass is_token_byte name → FirstByte (name ++ 58 ∷ (f.raw ++ print_end f.end))
    go [] some all = absurd (omega (arith, some))
    go (b ∷ name) some all = record {
      byte = b;
      more = name ++ 58 ∷ (f.raw ++ print_end f.end);
      text_is = refl;
      name = All-head (λ v. is_token_byte v ≡ true) b name all;
      some = omega (arith, length-append name (58 ∷ (f.raw ++ print_end f.end)));
    }

-- the last byte removed
without_last : (xs ys more : List ℕ) (a b : ℕ) → xs ++ a ∷ [] ≡ ys ++ b ∷ more → 0 < length more → (less : List ℕ) × (xs ≡ ys ++ b ∷ less)
without_last [] [] more a b e some = absurd (omega (arith, ap length e, some))
without_last [] (y ∷ ys) more a b e some = absurd (omega (arith, ap length e, length-append ys (b ∷ more)))
without_last (x ∷ xs) [] more a b e some = (xs, cc)
without_last (x ∷ xs) (y ∷ ys) more a b e some =
    let rest = without_last xs ys more a b (cc) some in
    (rest.0, cc (e, rest.1))

pub exceeds_begins : (s : List ℕ) → RequestExceeds 64 s → Begins65th s
exceeds_begins s (whole, left, s_is, h, reads, many) =
    let c = cut_at 64 h.fields many reads.0.fields in
    let f = first_byte c.here c.is_field in
    let later = f.more ++ (lines_of c.after ++ print_end h.last) in
    let lines : lines_of h.fields ++ print_end h.last ≡ lines_of c.before ++ f.byte ∷ later =
    ap (λ (l : List Field). lines_of l ++ print_end h.last) c.whole
    ∙ ap (λ (l : List ℕ). l ++ print_end h.last) (lines_append c.before (c.here ∷ c.after))
    ∙ append_assoc (lines_of c.before) (print_field c.here ++ lines_of c.after) (print_end h.last)
    ∙ ap (λ (l : List ℕ). lines_of c.before ++ l)
    (append_assoc (print_field c.here) (lines_of c.after) (print_end h.last)
    ∙ ap (λ (l : List ℕ). l ++ (lines_of c.after ++ print_end h.last)) f.text_is) in
    let front = start_line h (lines_of c.before) in
    let text : whole ++ 10 ∷ [] ≡ front ++ f.byte ∷ later =
    reads.1 ∙ print_request-append h [] ∙ ap (λ (l : List ℕ). start_line h l) (append-nil _ ∙ lines)
    ∙ start_append h (lines_of c.before) (f.byte ∷ later) in
    let less = without_last whole front later 10 f.byte text (omega (arith, f.some, length-append f.more (lines_of c.after ++ print_end h.last))) in
    let small : RequestHead = record h { fields = c.before; last = lf } in
    record {
      front = front;
      first = f.byte;
      rest = less.0 ++ left;
      bytes_are = s_is ∙ ap (λ (l : List ℕ). l ++ left) less.1 ∙ append_assoc front (f.byte ∷ less.0) left;
      full = record {
        head = small;
        reads = (
          record { method = reads.0.method; target = reads.0.target; target_text = reads.0.target_text; minor = reads.0.minor; fields = c.all },
          sym (full_text small refl),
        );
        last = refl;
        full = c.count;
      };
      begins = f.name;
    }

-- ---- the search

no_feed : (test : ℕ → Bool) (n : ℕ) (xs ys : List ℕ) → test 10 ≡ false → AllPass test xs → after_lines (suc n) (xs ++ ys) ≡ after_lines (suc n) ys
no_feed test n [] ys fails all = refl
no_feed test n (x ∷ xs) ys fails all =
    let passes : test x ≡ true = All-head (λ v. test v ≡ true) x xs all in
    let other : x ≢ 10 = λ e. false≢true (sym fails ∙ sym (ap test e) ∙ passes) in
    cond-false _ _ _ (ne_eqb x 10 other) ∙ no_feed test n xs ys fails (All-tail (λ v. test v ≡ true) x xs all)

token_no_feed : is_token_byte 10 ≡ false
unfolding is_token_byte
token_no_feed = refl

after_end : (n : ℕ) (e : LineEnd) (ys : List ℕ) → after_lines (suc n) (print_end e ++ ys) ≡ after_lines n ys
after_end n crlf ys = refl
after_end n lf ys = refl

after_version : (n minor : ℕ) (ys : List ℕ) → after_lines (suc n) (print_version minor ++ ys) ≡ after_lines (suc n) ys
after_version n minor ys = cond-false _ _ _ (ne_eqb (48 + minor) 10 (λ e. omega (arith, e)))

after_field : (n : ℕ) (f : Field) (ys : List ℕ) → IsField f → after_lines (suc n) (print_field f ++ ys) ≡ after_lines n ys
after_field n f ys is =
    ap (after_lines (suc n)) (print_field-append f ys)
    ∙ no_feed is_token_byte n f.name (58 ∷ (f.raw ++ (print_end f.end ++ ys))) token_no_feed is.name.1
    ∙ no_feed is_value_byte n f.raw (print_end f.end ++ ys) refl is.raw
    ∙ after_end n f.end ys

after_fields : (fs : List Field) (ys : List ℕ) → All IsField fs → after_lines (length fs) (lines_of fs ++ ys) ≡ Some ys
after_fields [] ys all = refl
after_fields (f ∷ fs) ys all =
    ap (after_lines (suc (length fs))) (append_assoc (print_field f) (lines_of fs) ys)
    ∙ after_field (length fs) f (lines_of fs ++ ys) (All-head IsField f fs all)
    ∙ after_fields fs ys (All-tail IsField f fs all)

skip_blank : (es : List LineEnd) (ys : List ℕ) → skip_newlines (print_blank es ++ ys) ≡ skip_newlines ys
skip_blank [] ys = refl
skip_blank (crlf ∷ es) ys = skip_blank es ys
skip_blank (lf ∷ es) ys = skip_blank es ys

skip_token : (name ys : List ℕ) → 0 < length name → AllPass is_token_byte name → skip_newlines (name ++ ys) ≡ name ++ ys
skip_token [] ys some all = absurd (omega (arith, some))
skip_token (b ∷ name) ys some all = cond-false _ _ _ (token_is_no_newline b (All-head (λ v. is_token_byte v ≡ true) b name all))

after_start : (n : ℕ) (h : RequestHead) (ys : List ℕ) → IsRequestHead h → after_lines (suc n) (skip_newlines (start_line h ys)) ≡ after_lines n ys
after_start n h ys is =
    let version = print_version h.minor ++ (print_end h.line_end ++ ys) in
    let target = h.target ++ 32 ∷ version in
    ap (after_lines (suc n)) (skip_blank h.blank (h.method ++ 32 ∷ target) ∙ skip_token h.method (32 ∷ target) is.method.0 is.method.1)
    ∙ no_feed is_token_byte n h.method (32 ∷ target) token_no_feed is.method.1
    ∙ no_feed is_uri_byte n h.target (32 ∷ version) refl is.target.1
    ∙ after_version n h.minor (print_end h.line_end ++ ys)
    ∙ after_end n h.line_end ys

-- the 65th field is where 65 lines end
pub begins_found : (s : List ℕ) (b : Begins65th s) → after_lines 65 (skip_newlines s) ≡ Some (b.first ∷ b.rest)
begins_found s b =
    let h = b.full.head in
    let after = b.first ∷ b.rest in
    ap (λ (t : List ℕ). after_lines 65 (skip_newlines t)) (shown_is s b)
    ∙ after_start 64 h (lines_of h.fields ++ after) b.full.reads.0
    ∙ ap (λ (n : ℕ). after_lines n (lines_of h.fields ++ after)) (sym b.full.full)
    ∙ after_fields h.fields after b.full.reads.0.fields

skipped : (bytes : List ℕ) → (ends : List ℕ) × (bytes ≡ ends ++ skip_newlines bytes)
skipped [] = ([], refl)
skipped (b ∷ bytes) = by_test (is_newline b) (skipped bytes)
  where
    by_test : (t : Bool) → ((ends : List ℕ) × (bytes ≡ ends ++ skip_newlines bytes))
        → (ends : List ℕ) × (b ∷ bytes ≡ ends ++ cond t (skip_newlines bytes) (b ∷ bytes))
    by_test true rest = (b ∷ rest.0, ap (λ (l : List ℕ). b ∷ l) rest.1)
    by_test false rest = ([], refl)

-- what is before the rest ends in a line feed
abbrev EndsLine : List ℕ → List ℕ → Type 0
EndsLine bytes rest = (line : List ℕ) × (bytes ≡ (line ++ 10 ∷ []) ++ rest)

one_more : (b : ℕ) (bytes rest : List ℕ) → EndsLine bytes rest → EndsLine (b ∷ bytes) rest
one_more b bytes rest (line, is) = (b ∷ line, ap (λ (l : List ℕ). b ∷ l) is)

line_cut : (n : ℕ) (bytes rest : List ℕ) → after_lines (suc n) bytes ≡ Some rest → EndsLine bytes rest
line_cut n [] rest e = cc
line_cut zero (b ∷ bytes) rest e = by_test (b == 10) refl (λ f. line_cut zero bytes rest f) e
  where
    by_test : (t : Bool) → (b == 10) ≡ t → (after_lines 1 bytes ≡ Some rest → EndsLine bytes rest)
        → cond t (Some bytes) (after_lines 1 bytes) ≡ Some rest → EndsLine (b ∷ bytes) rest
    by_test true is later f = let ten = eqb-true b 10 is in ([], cc)
    by_test false is later f = one_more b bytes rest (later f)
line_cut (suc n) (b ∷ bytes) rest e = by_test (b == 10) (λ f. line_cut n bytes rest f) (λ f. line_cut (suc n) bytes rest f) e
  where
    by_test : (t : Bool) → (after_lines (suc n) bytes ≡ Some rest → EndsLine bytes rest)
        → (after_lines (suc (suc n)) bytes ≡ Some rest → EndsLine bytes rest)
        → cond t (after_lines (suc n) bytes) (after_lines (suc (suc n)) bytes) ≡ Some rest → EndsLine (b ∷ bytes) rest
    by_test true here later f = one_more b bytes rest (here f)
    by_test false here later f = one_more b bytes rest (later f)

-- the bytes before those found
pub record FrontCut (s after : List ℕ) : Type 0 where
  pub line : List ℕ
  pub front : take (length s - length after) s ≡ line ++ 10 ∷ []
  pub whole : s ≡ take (length s - length after) s ++ after

pub front_cut : (s after : List ℕ) → after_lines 65 (skip_newlines s) ≡ Some after → FrontCut s after
front_cut s after e =
    let ends = skipped s in
    let cut = line_cut 64 (skip_newlines s) after e in
    let front = ends.0 ++ (cut.0 ++ 10 ∷ []) in
    let whole : s ≡ front ++ after =
    ends.1 ∙ ap (λ (l : List ℕ). ends.0 ++ l) cut.1 ∙ sym (append_assoc ends.0 (cut.0 ++ 10 ∷ []) after) in
    let size : length s - length after ≡ length front = omega (arith, ap length whole, length-append front after) in
    let taken : take (length s - length after) s ≡ front =
    ap (λ (t : List ℕ). take (length s - length after) t) whole ∙ take_at front after (length s - length after) (sym size) in
    record {
      line = ends.0 ++ cut.0;
      front = taken ∙ sym (append_assoc ends.0 cut.0 (10 ∷ []));
      whole = whole ∙ ap (λ (l : List ℕ). l ++ after) (sym taken);
    }

last_same : (xs ys : List ℕ) (a b : ℕ) → xs ++ a ∷ [] ≡ ys ++ b ∷ [] → a ≡ b
last_same [] [] a b e = cc
last_same [] (y ∷ ys) a b e = absurd (omega (arith, ap length e, length-append ys (b ∷ [])))
last_same (x ∷ xs) [] a b e = absurd (omega (arith, ap length e, length-append xs (a ∷ [])))
last_same (x ∷ xs) (y ∷ ys) a b e = last_same xs ys a b (cc)

-- a head that ends in an empty line after a line feed ends in a line feed alone
last_is : (h : RequestHead) (line : List ℕ) → print_request h ++ [] ≡ (line ++ 10 ∷ []) ++ 10 ∷ [] → h.last ≡ lf
last_is h line e = by_end h.last refl
  where
    by_end : (end : LineEnd) → h.last ≡ end → end ≡ lf
    by_end lf is = refl
    by_end crlf is =
        let text : (line ++ 10 ∷ []) ++ 10 ∷ [] ≡ (start_line h (lines_of h.fields) ++ 13 ∷ []) ++ 10 ∷ [] =
        sym e ∙ print_request-append h []
        ∙ ap (λ (l : LineEnd). start_line h ((lines_of h.fields ++ print_end l) ++ [])) is
        ∙ ap (λ (l : List ℕ). start_line h l) (append-nil (lines_of h.fields ++ 13 ∷ 10 ∷ []))
        ∙ start_append h (lines_of h.fields) (13 ∷ 10 ∷ [])
        ∙ sym (append_assoc (start_line h (lines_of h.fields)) (13 ∷ []) (10 ∷ [])) in
        let same = last_same line (start_line h (lines_of h.fields)) 10 13
        (append_cancel_right (line ++ 10 ∷ []) (start_line h (lines_of h.fields) ++ 13 ∷ []) (10 ∷ []) text) in
        absurd (omega (arith, same))

field_count : (buf : List ℕ) (headers : List HeaderSpan) (count : ℕ) (fields : List Field) → AreFieldsAt buf headers count fields
    → count ≤ length headers → length fields ≡ count
field_count buf headers count fields same within =
    omega (arith, ap length same, length-map (take count headers) (header_bytes buf), length-map fields name_and_value, length-take count headers, within)

-- the parser found a head with 64 fields that takes all bytes
pub full_by : (front text : List ℕ) (headers : List HeaderSpan) (spans : RequestSpans) → ((line : List ℕ) × (front ≡ line ++ 10 ∷ []))
    → text ≡ front ++ 10 ∷ [] → IsRequestOf text headers spans → IsRequestWithin text headers spans → spans.len ≡ length text → spans.headers ≡ 64
    → IsFull front
full_by front text headers spans (line, ends) is (h, at) within len count =
    let whole : ReadsRequest text h [] = subst (ReadsRequest text h) (drop_all spans.len text (omega (arith, len))) at.reads in
    let reads : ReadsRequest (front ++ 10 ∷ []) h [] = subst (λ (t : List ℕ). ReadsRequest t h []) is whole in
    record {
      head = h;
      reads = reads;
      last = last_is h line (sym reads.1 ∙ ap (λ (f : List ℕ). f ++ 10 ∷ []) ends);
      full = field_count text headers spans.headers h.fields at.fields within.section.count_fits ∙ count;
    }

-- what the parser finds if the front is full
pub full_back : (front text : List ℕ) (headers : List HeaderSpan) (spans : RequestSpans) → IsFull front → text ≡ front ++ 10 ∷ []
    → FindsRequest text 64 headers (Ok (Complete spans)) → IsRequestWithin text headers spans → (spans.len ≡ length text) × (spans.headers ≡ 64)
full_back front text headers spans f is finds within =
    let reads : ReadsRequest text f.head [] = subst (λ (t : List ℕ). ReadsRequest t f.head []) (sym is) f.reads in
    let at = finds f.head [] reads (omega (arith, f.full)) in (
      omega (arith, at.len, ap length reads.1, length-append (print_request f.head) []),
      sym (field_count text headers spans.headers f.head.fields at.fields within.section.count_fits) ∙ f.full,
    )

-- a full front and the first byte of a name after it
pub begins_here : (s front after : List ℕ) → s ≡ front ++ after → IsFull front → BeginsName after → Begins65th s
begins_here s front [] whole full name = absurd name
begins_here s front (b ∷ after) whole full name = record { front = front; first = b; rest = after; bytes_are = whole; full = full; begins = name }

-- the front of bytes that show a 65th field is the one found
pub begins_back : (s after : List ℕ) → after_lines 65 (skip_newlines s) ≡ Some after → Begins65th s
    → IsFull (take (length s - length after) s) × BeginsName after
begins_back s after e b =
    let same : b.first ∷ b.rest ≡ after = cc (e, begins_found s b) in
    let size : length s - length after ≡ length b.front = omega (arith, ap length same, ap length b.bytes_are, length-append b.front (b.first ∷ b.rest)) in
    let taken : take (length s - length after) s ≡ b.front =
    ap (λ (t : List ℕ). take (length s - length after) t) b.bytes_are ∙ take_at b.front (b.first ∷ b.rest) (length s - length after) (sym size) in
    (subst IsFull (sym taken) b.full, subst BeginsName same b.begins)
