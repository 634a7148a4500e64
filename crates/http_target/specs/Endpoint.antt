-- Which texts are endpoints, by the URL Standard's reading of a text (`parse_url` of the crate `url`). The choice among them is this
-- project's own rule.
use Rattle.std.specs.Prelude.{ℕ, Bool, not, ◌&&◌, ◌||◌, nat_le, List, [], length, codes, bytes_eq, Option, Some, None, is_some, unwrap_or, option_map, Result, Ok, Err, if◌then◌else◌}
use Rattle.url.specs.declared.error.ParseError.{ParseError}
use Rattle.url.specs.Input.{is_empty}
use Rattle.url.specs.Host.{host_text}
use Rattle.url.specs.Parts.{Parts, nonempty_host}
use Rattle.url.specs.Parser.{parse_url}

-- The text of the URL's host, empty if it has none.
-- Shown by: outside_tests test_http_target.rt: an_endpoint_has_a_host_and_a_port.
abbrev pub host_of : Parts → List ℕ
host_of url = unwrap_or (option_map host_text (nonempty_host url)) []

-- The port to connect to: the URL's port, and 80 if it names none.
-- Shown by: outside_tests test_http_target.rt: an_endpoint_has_a_host_and_a_port.
abbrev pub port_of : Parts → ℕ
port_of url = unwrap_or url.port 80

-- HTTP to this machine, with no user, no password and no fragment
abbrev pub is_local : Parts → Bool
is_local url =
    bytes_eq url.scheme (codes "http")
    && (bytes_eq (host_of url) (codes "127.0.0.1") || bytes_eq (host_of url) (codes "localhost"))
    && is_empty url.username
    && is_empty url.password
    && not (is_some url.fragment)

-- the URL, if it is local
abbrev pub local_of : Result Parts ParseError → Option Parts
local_of (Ok url) = if is_local url then Some url else None
local_of (Err fault) = None

-- The URL of an endpoint's text: at most 1,600 bytes, scheme `http`, host 127.0.0.1 or localhost once read, no user, no password, no
-- fragment. `http://127.1/` is one; `https://localhost/`, `http://[::1]/` and `http://localhost/#` are none.
-- Shown by: outside_tests test_http_target.rt: a_url_of_this_machine_is_an_endpoint, any_other_text_is_none.
abbrev pub endpoint_of : List ℕ → Option Parts
endpoint_of text = if nat_le (length text) 1600 then local_of (parse_url None text) else None

-- The text has a URL by `endpoint_of`.
-- Shown by: outside_tests test_http_target.rt: the_text_of_an_endpoint_has_at_most_1600_bytes.
abbrev pub is_endpoint : List ℕ → Bool
is_endpoint text = is_some (endpoint_of text)
