-- The request that carries a text to an endpoint, by the HTTP grammar (RFC 9112, sections 2 to 5).
use Rattle.std.specs.Prelude.{◌≡◌, ℕ, List, [], ◌∷◌, ◌++◌, length, map, codes, decimal, Option, Some, None}
use Rattle.httparse.specs.Ascii.{space}
use Rattle.httparse.specs.Grammar.{crlf, Field, RequestHead, print_request, ReadsRequest}
use Rattle.httparse.specs.Spans.{name_and_value}
use Rattle.url.specs.Parts.{Parts}
use Rattle.http_target.specs.Endpoint.{host_of}

-- `?` and the query, if the URL has one
abbrev pub query_text : Option (List ℕ) → List ℕ
query_text None = []
query_text (Some query) = codes "?" ++ query

-- `:` and the port, unless it is the port of HTTP
abbrev pub port_text : Option ℕ → List ℕ
port_text None = []
port_text (Some port) = codes ":" ++ decimal port

-- the names and values of the fields, for a text of this many bytes
abbrev pub request_fields : Parts → ℕ → List (List ℕ × List ℕ)
request_fields url size =
    (codes "Host", host_of url ++ port_text url.port)
    ∷ (codes "Content-Type", codes "application/json")
    ∷ (codes "Content-Length", decimal size)
    ∷ (codes "Connection", codes "close")
    ∷ []

-- a field line with one space before the value
abbrev pub field_line : List ℕ × List ℕ → Field
field_line f = record { name = f.0; raw = space ∷ f.1; end = crlf }

-- the head of the request
abbrev pub request_head : Parts → ℕ → RequestHead
request_head url size = record {
  blank = [];
  method = codes "POST";
  target = url.path ++ query_text url.query;
  minor = 1;
  line_end = crlf;
  fields = map field_line (request_fields url size);
  last = crlf;
}

-- The bytes of a request: the head `request_head` as the grammar prints it, and then the text. The head has POST, the path and the query,
-- version 1.1, and the fields Host, Content-Type, Content-Length and Connection.
-- Shown by: outside_tests test_http_target.rt: a_request_has_the_path_the_host_the_length_and_the_text.
abbrev pub request_bytes : Parts → List ℕ → List ℕ
request_bytes url text = print_request (request_head url (length text)) ++ text

-- The bytes are one request of the grammar with that head, and the text is its body. No other head is read from them, so no URL adds a
-- field. The values of the fields are those of `request_fields`.
-- Shown by: outside_tests test_http_target.rt: a_request_has_the_path_the_host_the_length_and_the_text.
pub record IsRequestTo (url : Parts) (text bytes : List ℕ) : Type 0 where
  pub reads : ReadsRequest bytes (request_head url (length text)) text
  -- no other head is read from them, so the URL adds no field
  pub only : (h : RequestHead) (rest : List ℕ) → ReadsRequest bytes h rest → (h ≡ request_head url (length text)) × (rest ≡ text)
  -- the values of the fields, without the white space around them
  pub values : map name_and_value (request_head url (length text)).fields ≡ request_fields url (length text)
