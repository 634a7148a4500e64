-- The 65th field of a head. The functions after the record say how it is found; only private clauses cite them.
use Rattle.std.specs.Prelude.{◌≡◌, ℕ, zero, suc, List, [], ◌∷◌, ◌++◌, length, Option, Some, None, if◌then◌else◌, ◌==◌, IsTrue}
use Rattle.httparse.specs.Ascii.{line_feed}
use Rattle.httparse.specs.Grammar.{RequestHead, lf, print_end, ReadsRequest, is_token_byte}
use Rattle.httparse.specs.Pieces.{is_newline}

-- With an empty line, which is a single LF, the bytes are a head with 64 fields.
-- Shown by: tables api_messages.rows: a_65th_field_is_refused_at_its_first_byte.
pub record IsFull (front : List ℕ) : Type 0 where
  pub head : RequestHead
  pub reads : ReadsRequest (front ++ print_end lf) head []
  pub last : head.last ≡ lf
  pub full : length head.fields ≡ 64

-- The bytes show a 65th field: at their front are 64 field lines, which an empty line would end as a head, and after them a byte that
-- begins a field's name. What follows does not matter.
-- Shown by: the_65th_line_is_awaited.edit.
pub record Begins65th (bytes : List ℕ) : Type 0 where
  pub front : List ℕ
  pub first : ℕ
  pub rest : List ℕ
  pub bytes_are : bytes ≡ front ++ first ∷ rest
  pub full : IsFull front
  pub begins : IsTrue (is_token_byte first)

-- the first byte begins a field's name
abbrev pub BeginsName : List ℕ → Type 0
BeginsName [] = ⊥
BeginsName (b ∷ bytes) = IsTrue (is_token_byte b)

-- the bytes from the first that ends no line
abbrev pub skip_newlines : List ℕ → List ℕ
skip_newlines [] = []
skip_newlines (b ∷ bytes) = if is_newline b then skip_newlines bytes else b ∷ bytes

-- the bytes after the first n line feeds
abbrev pub after_lines : ℕ → List ℕ → Option (List ℕ)
after_lines zero bytes = Some bytes
after_lines (suc n) [] = None
after_lines (suc n) (b ∷ bytes) = if b == line_feed then after_lines n bytes else after_lines (suc n) bytes
