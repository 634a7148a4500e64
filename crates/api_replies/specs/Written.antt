-- The bytes of a reply (RFC 9112, section 4).
use Rattle.std.specs.Prelude.{◌≡◌, ◌⊎◌, ℕ, Bool, true, false, List, [], ◌∷◌, ◌++◌, length, codes, decimal, unwrap_or, if◌then◌else◌, ◌==◌}
use Rattle.http.specs.StatusCode.{reason_phrase}
use Rattle.json_text.specs.Compact.{compact_text}
use Rattle.api_replies.specs.Reply.{Reply}

-- a line end
abbrev pub crlf : List ℕ
crlf = 13 ∷ 10 ∷ []

-- the field of a reply after which the connection ends
abbrev pub close_field : Bool → List ℕ
close_field true = codes "Connection: close" ++ crlf
close_field false = []

-- The field `Allow: POST`, in a reply 405 alone (RFC 9110, section 10.2.1).
-- Shown by: get-is-refused.
abbrev pub allow_field : ℕ → List ℕ
allow_field status = if status == 405 then codes "Allow: POST" ++ crlf else []

-- Status line, Content-Type, the Content-Length of a body of that length, these further fields, `Connection: close` if the connection ends,
-- an empty line, and what is sent after it (RFC 9112, section 4).
-- Shown by: get-is-refused; bad-head.
abbrev pub message_with : ℕ → ℕ → List ℕ → Bool → List ℕ → List ℕ
message_with status len more close sent =
    codes "HTTP/1.1 " ++ (decimal status ++ (codes " " ++ (unwrap_or (reason_phrase status) [] ++ (crlf
    ++ (codes "Content-Type: application/x-amz-json-1.1" ++ (crlf
    ++ (codes "Content-Length: " ++ (decimal len ++ (crlf
    ++ (more ++ (close_field close ++ (crlf ++ sent))))))))))))

-- The `message_with` of a status and a body, with `allow_field`.
-- Shown by: table_tests test_api_replies.rt: a_reply_is_written_behind_what_is_there.
abbrev pub message_text : ℕ → List ℕ → Bool → List ℕ
message_text status body close = message_with status (length body) (allow_field status) close body

-- The `message_text` of a reply: with its status, and the compact text of its body. `close` is true if the connection ends after it.
-- Shown by: table_tests test_api_replies.rt: a_reply_is_written_behind_what_is_there.
abbrev pub reply_text : Reply → Bool → List ℕ
reply_text reply close = message_text reply.status (compact_text reply.body) close

-- The `reply_text` without the body, as the reply to a HEAD. Its Content-Length is that of the body (RFC 9110, section 9.3.2).
-- Shown by: head-request.
abbrev pub reply_head : Reply → Bool → List ℕ
reply_head reply close = message_with reply.status (length (compact_text reply.body)) (allow_field reply.status) close []

-- 200, 400 or 503: the statuses of the replies that are written from a value. The other replies are constants.
-- Shown by: table_tests test_api_replies.rt: a_reply_is_written_behind_what_is_there.
abbrev pub IsServedStatus : ℕ → Type 0
IsServedStatus status = (status ≡ 200) ⊎ ((status ≡ 400) ⊎ (status ≡ 503))
