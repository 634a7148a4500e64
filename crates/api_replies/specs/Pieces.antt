-- The pieces of the bytes of a reply. Only private clauses cite them.
use Rattle.std.specs.Prelude.{ℕ, Bool, List, [], ◌++◌, codes, decimal, unwrap_or}
use Rattle.http.specs.StatusCode.{reason_phrase}
use Rattle.api_replies.specs.Written.{crlf, close_field}

-- the status line
unfoldable pub status_line : ℕ → List ℕ
status_line status = codes "HTTP/1.1 " ++ (decimal status ++ (codes " " ++ (unwrap_or (reason_phrase status) [] ++ crlf)))

-- the fields, up to the number of bytes of the body
unfoldable pub fields_text : List ℕ
fields_text = codes "Content-Type: application/x-amz-json-1.1" ++ (crlf ++ codes "Content-Length: ")

-- the part after that number, up to the body
unfoldable pub head_end : Bool → List ℕ
head_end close = crlf ++ (close_field close ++ crlf)

-- the head of a reply with a body of `len` bytes
unfoldable pub head_text : ℕ → ℕ → Bool → List ℕ
head_text status len close = status_line status ++ (fields_text ++ (decimal len ++ head_end close))
