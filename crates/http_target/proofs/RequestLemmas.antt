-- The bytes of a request, joined, and what the grammar reads from them. Answers cite `joined` and `one_request`.
use Rattle.std.proofs.Common.{◌≡◌, ℕ, ◌<◌, ◌^◌, true, false, ◌||◌, List, [], ◌∷◌, ◌++◌, length, map, reverse, Option, Some, None, refl, sym, ap, ◌∙◌, subst, arith, append_assoc, length-append, ⊎_elim}
use Rattle.std.specs.Prelude.{All, codes, decimal, IsTrue, IfSome, bytes_eq}
use Rattle.std.specs.Int.{IsInRange}
use Rattle.std.specs.List.{list_all}
use Rattle.std.specs.Str.{IsAscii}
use Rattle.std.proofs.Math.Dec.{lit<}
use Rattle.std.proofs.lemmas.Bool.{and_parts, or_cases}
use Rattle.std.proofs.lemmas.Bool.Decides.{nat_tests}
use Rattle.std.proofs.lemmas.List.Elements.{All-nil, All-cons, All-head, All-append, All-weaker}
use Rattle.std.proofs.lemmas.Slice.Eq.{bytes_eq-Decides}
use Rattle.std.proofs.lemmas.Str.{IsUtf8-from_ascii, IsAscii-append}
use Rattle.std.proofs.lemmas.Str.Ascii.{IsAscii-nil, IsAscii-cons}
use Rattle.percent_encoding.specs.declared.ascii_set.AsciiSet.{AsciiSet}
use Rattle.percent_encoding.specs.Percent.{IsKept}
use Rattle.percent_encoding.proofs.PercentLemmas.{IsAscii_from_kept}
use Rattle.httparse.specs.Grammar.{AllPass, is_token_byte, is_uri_byte, is_value_byte, is_ows, skip_ows, trim_ows, Field, IsField, IsRequestHead, print_request, ReadsRequest}
use Rattle.httparse.specs.Spans.{name_and_value}
use Rattle.httparse.proofs.GrammarLemmas.{request_unique}
use Rattle.httparse.proofs.TrimLemmas.{AllPass-reverse, trim_ows_space}
use Rattle.url.specs.declared.sets.TheConstants.{PATH, SPECIAL_QUERY}
use Rattle.url.specs.Scheme.{default_port, scheme_type, is_special}
use Rattle.url.specs.Parts.{Parts, kind_of, query_set, IsPortOf, IsValid}
use Rattle.url.proofs.HostRoundTrip.{All-decimal}
use Rattle.url.proofs.InputLemmas.{All_from_list_all}
use Rattle.url.proofs.SetLemmas.{outside_pass}
use Rattle.url.proofs.TextLemmas.{All_kept}
use Rattle.url.proofs.ValidLemmas.{segment_list_kept, hierarchical, special_has_authority, base_from_authority}
use Rattle.http_target.specs.Endpoint.{host_of, is_local}
use Rattle.http_target.specs.Request.{query_text, port_text, request_fields, field_line, request_head, request_bytes, IsRequestTo}

-- a head of four fields and a body, as the grammar prints them, without its inner brackets
printed : (m s t v r k n1 a n2 b n3 c n4 d text : List ℕ)
    → ((((m ++ (s ++ t)) ++ (s ++ v)) ++ r) ++ ((((n1 ++ (k ++ a)) ++ r) ++ (((n2 ++ (k ++ b)) ++ r) ++ (((n3 ++ (k ++ c)) ++ r)
    ++ (((n4 ++ (k ++ d)) ++ r) ++ [])))) ++ r)) ++ text
    ≡ m ++ (s ++ (t ++ (s ++ (v ++ (r ++ (n1 ++ (k ++ (a ++ (r ++ (n2 ++ (k ++ (b ++ (r ++ (n3 ++ (k ++ (c ++ (r ++ (n4 ++ (k ++ (d ++ (r ++ (r
    ++ text))))))))))))))))))))))
printed m s t v r k n1 a n2 b n3 c n4 d text = simp append_assoc

-- the pieces as the code writes them, without their brackets
written : (p1 t p2 h p3 z p4 text : List ℕ)
    → ((((((p1 ++ t) ++ p2) ++ h) ++ p3) ++ z) ++ p4) ++ text ≡ p1 ++ (t ++ (p2 ++ (h ++ (p3 ++ (z ++ (p4 ++ text))))))
written p1 t p2 h p3 z p4 text = simp append_assoc

pub joined : (url : Parts) (text : List ℕ)
    → ((((((codes "POST " ++ (url.path ++ query_text url.query)) ++ codes " HTTP/1.1\r\nHost: ") ++ (host_of url ++ port_text url.port))
    ++ codes "\r\nContent-Type: application/json\r\nContent-Length: ") ++ decimal (length text)) ++ codes "\r\nConnection: close\r\n\r\n") ++ text
    ≡ request_bytes url text
unfolding print_request
joined url text =
    let target = url.path ++ query_text url.query in
    let host = host_of url ++ port_text url.port in
    let size = decimal (length text) in
    written (codes "POST ") target (codes " HTTP/1.1\r\nHost: ") host (codes "\r\nContent-Type: application/json\r\nContent-Length: ") size
    (codes "\r\nConnection: close\r\n\r\n") text
    ∙ sym (printed (codes "POST") (32 ∷ []) target (codes "HTTP/1.1") (codes "\r\n") (58 ∷ []) (codes "Host") (32 ∷ host) (codes "Content-Type")
    (codes " application/json") (codes "Content-Length") (32 ∷ size) (codes "Connection") (codes " close") text)

-- ---- fields

abbrev Visible : List ℕ → Type 0
Visible bytes = AllPass is_uri_byte bytes

no_space : (b : ℕ) → is_uri_byte b ≡ true → is_ows b ≡ false
no_space b visible = grind (arith, nat_tests)

skip_visible : (v : List ℕ) → Visible v → skip_ows v ≡ v
skip_visible [] visible = refl
skip_visible (b ∷ v) visible = rw (no_space b (All-head (λ x. IsTrue (is_uri_byte x)) b v visible)) refl

trimmed : (v : List ℕ) → Visible v → trim_ows (32 ∷ v) ≡ v
trimmed v visible = trim_ows_space v (skip_visible v visible) (skip_visible (reverse v) (AllPass-reverse is_uri_byte v visible))

value_byte : (b : ℕ) → is_uri_byte b ≡ true → is_value_byte b ≡ true
value_byte b visible = grind (arith, nat_tests)

line_is : (name v : List ℕ) → 0 < length name → list_all is_token_byte name ≡ true → Visible v → IsField (field_line (name, v))
line_is name v some token visible = record {
  name = (some, All_from_list_all is_token_byte name token);
  raw = All-cons (λ x. IsTrue (is_value_byte x)) 32 v refl
      (All-weaker (λ x. IsTrue (is_uri_byte x)) (λ x. IsTrue (is_value_byte x)) value_byte v visible);
}

decimal_visible : (n : ℕ) → n < 2 ^ 64 → Visible (decimal n)
decimal_visible n fits =
    All-weaker (IsInRange 48 57) (λ x. IsTrue (is_uri_byte x)) (λ b digit. grind (arith, nat_tests)) (decimal n) (All-decimal n fits)

port_visible : (port : Option ℕ) → IfSome port (λ n. n < 2 ^ 16) → Visible (port_text port)
port_visible None fits = All-nil (λ x. IsTrue (is_uri_byte x))
port_visible (Some n) fits = All-cons (λ x. IsTrue (is_uri_byte x)) 58 (decimal n) refl (decimal_visible n (omega (arith, fits)))

-- ---- the URL

host_visible : (host : List ℕ) → (bytes_eq host (codes "127.0.0.1") || bytes_eq host (codes "localhost")) ≡ true → Visible host
host_visible host is =
    ⊎_elim
    (λ address. subst Visible (sym ((bytes_eq-Decides host (codes "127.0.0.1")).0 address)) (All_from_list_all is_uri_byte (codes "127.0.0.1") refl))
    (λ name. subst Visible (sym ((bytes_eq-Decides host (codes "localhost")).0 name)) (All_from_list_all is_uri_byte (codes "localhost") refl))
    (or_cases _ _ is)

-- what is known of a local URL
record Local (url : Parts) : Type 0 where
  scheme : url.scheme ≡ codes "http"
  host : Visible (host_of url)

local : (url : Parts) → is_local url ≡ true → Local url
local url is =
    let front = (and_parts _ _ (and_parts _ _ (and_parts _ _ is).0).0).0 in
    record { scheme = (bytes_eq-Decides _ _).0 (and_parts _ _ front).0; host = host_visible (host_of url) (and_parts _ _ front).1 }

http_is_special : is_special (scheme_type (codes "http")) ≡ true
unfolding scheme_type default_port
http_is_special = refl

special : (url : Parts) → Local url → is_special (kind_of url) ≡ true
special url here = subst (λ s. is_special (scheme_type s) ≡ true) (sym here.scheme) http_is_special

query_kept : (set : AsciiSet) (query : Option (List ℕ)) → outside_pass set is_uri_byte ≡ true → IfSome query (All (IsKept set))
    → Visible (query_text query) × IsAscii (query_text query)
query_kept set None pass kept = (All-nil (λ x. IsTrue (is_uri_byte x)), IsAscii-nil)
query_kept set (Some query) pass kept = (
  All-cons (λ x. IsTrue (is_uri_byte x)) 63 query refl (All_kept is_uri_byte set pass query kept),
  IsAscii-cons 63 query (lit< tt) (IsAscii_from_kept set query kept),
)

-- what is known of the path and the query
record Target (url : Parts) : Type 0 where
  some : 0 < length url.path
  visible : Visible (url.path ++ query_text url.query)
  ascii : IsAscii (url.path ++ query_text url.query)

target : (url : Parts) → Local url → IsValid url → Target url
target url here valid =
    let kind = special url here in
    let path = hierarchical url valid.path (base_from_authority url (special_has_authority url valid.head kind)) in
    let kept = segment_list_kept (kind_of url) url.path path.0 in
    let set_is : query_set (kind_of url) ≡ SPECIAL_QUERY = rw kind refl in
    let query = query_kept SPECIAL_QUERY url.query refl (subst (λ s. IfSome url.query (All (IsKept s))) set_is valid.query) in
    record {
      some = path.1 kind;
      visible = All-append (λ x. IsTrue (is_uri_byte x)) url.path (query_text url.query) (All_kept is_uri_byte PATH refl url.path kept) query.0;
      ascii = IsAscii-append url.path (query_text url.query) (IsAscii_from_kept PATH url.path kept) query.1;
    }

-- ---- the whole

host_value : (url : Parts) → Local url → IsValid url → Visible (host_of url ++ port_text url.port)
host_value url here valid =
    All-append (λ x. IsTrue (is_uri_byte x)) (host_of url) (port_text url.port) here.host (port_visible url.port (port_small url.port valid.head.port))
  where
    port_small : (port : Option ℕ) → IsPortOf url.scheme port → IfSome port (λ n. n < 2 ^ 16)
    port_small None is = tt
    port_small (Some n) is = is.0

four : (a b c d : Field) → IsField a → IsField b → IsField c → IsField d → All IsField (a ∷ b ∷ c ∷ d ∷ [])
four a b c d is_a is_b is_c is_d =
    All-cons IsField a (b ∷ c ∷ d ∷ []) is_a
    (All-cons IsField b (c ∷ d ∷ []) is_b (All-cons IsField c (d ∷ []) is_c (All-cons IsField d [] is_d (All-nil IsField))))

lines_are : (url : Parts) (size : ℕ) → Local url → IsValid url → size < 2 ^ 64 → All IsField (map field_line (request_fields url size))
unfolding is_token_byte
lines_are url size here valid fits =
    let host = host_of url ++ port_text url.port in
    let json = codes "application/json" in
    four (field_line (codes "Host", host)) (field_line (codes "Content-Type", json)) (field_line (codes "Content-Length", decimal size))
    (field_line (codes "Connection", codes "close"))
    (line_is (codes "Host") host (lit< tt) refl (host_value url here valid))
    (line_is (codes "Content-Type") json (lit< tt) refl (All_from_list_all is_uri_byte json refl))
    (line_is (codes "Content-Length") (decimal size) (lit< tt) refl (decimal_visible size fits))
    (line_is (codes "Connection") (codes "close") (lit< tt) refl (All_from_list_all is_uri_byte (codes "close") refl))

head_is : (url : Parts) (size : ℕ) → Local url → IsValid url → size < 2 ^ 64 → IsRequestHead (request_head url size)
unfolding is_token_byte
head_is url size here valid fits =
    let to = target url here valid in
    record {
      method = (lit< tt, All_from_list_all is_token_byte (codes "POST") refl);
      target = (omega (arith, length-append url.path (query_text url.query), to.some), to.visible);
      target_text = IsUtf8-from_ascii _ to.ascii;
      minor = omega arith;
      fields = lines_are url size here valid fits;
    }

four_same : {X : Type 0} {a b c d e f g h : X} → a ≡ e → b ≡ f → c ≡ g → d ≡ h → a ∷ b ∷ c ∷ d ∷ [] ≡ e ∷ f ∷ g ∷ h ∷ []
four_same p q r s = rw (p, q, r, s) refl

values_are : (url : Parts) (size : ℕ) → Local url → IsValid url → size < 2 ^ 64
    → map name_and_value (map field_line (request_fields url size)) ≡ request_fields url size
values_are url size here valid fits =
    let host = host_of url ++ port_text url.port in
    let json = codes "application/json" in
    let one = λ (name v : List ℕ) (visible : Visible v). ap {B = List ℕ × List ℕ} (λ t. (name, t)) (trimmed v visible) in
    four_same (one (codes "Host") host (host_value url here valid)) (one (codes "Content-Type") json (All_from_list_all is_uri_byte json refl))
    (one (codes "Content-Length") (decimal size) (decimal_visible size fits))
    (one (codes "Connection") (codes "close") (All_from_list_all is_uri_byte (codes "close") refl))

pub one_request : (url : Parts) (text bytes : List ℕ) → is_local url ≡ true → IsValid url → length text < 2 ^ 64 → bytes ≡ request_bytes url text
    → IsRequestTo url text bytes
one_request url text bytes is valid fits same =
    let here = local url is in
    let own : ReadsRequest bytes (request_head url (length text)) text = (head_is url (length text) here valid fits, same) in
    record {
      reads = own;
      only = λ h rest reads. request_unique bytes h (request_head url (length text)) rest text reads own;
      values = values_are url (length text) here valid fits;
    }
