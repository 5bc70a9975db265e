-- A text as it is found, and the documents that it holds: it is one value, or has a value in each line; and where none stands, why.
use Rattle.std.specs.Prelude.{ℕ, ◌+◌, ◌==◌, ◌||◌, Bool, false, List, [], ◌∷◌, ◌++◌, Option, Some, None, Result, Ok, Err, bytes_eq, drop, if◌then◌else◌, is_some, map, take}
use Rattle.std.specs.List.{enumerate_from, list_all, slice_split}
use Rattle.std.specs.Str.{is_utf8}
use Rattle.serde_json.specs.Data.{Data}
use Rattle.serde_json.specs.Find.{as_array}
use Rattle.serde_json.specs.Read.{read}
use Rattle.event_json.specs.Documents.{whole}
use Rattle.event_json.specs.declared.doc_faults.DocFaultKind.TheVariants as kinds
use Rattle.event_json.specs.declared.doc_faults.DocField.TheVariants as fields
use Rattle.document_convert.specs.Documents.{documents_in}
use Rattle.document_convert.specs.declared.converting.Refused.{Refused}

-- ---- the values of a text

-- what stands behind a byte order mark, or all of a text that has none
abbrev pub unmarked : List ℕ → List ℕ
unmarked text = if bytes_eq (take 3 text) (239 ∷ 187 ∷ 191 ∷ []) then drop 3 text else text

-- the value of a text, where it is JSON in UTF-8
unfoldable pub value_of : List ℕ → Option Data
value_of text = if is_utf8 text then read text else None

-- spaces, tabs and returns alone
abbrev pub is_space : ℕ → Bool
is_space code = (code == 32) || ((code == 9) || (code == 13))

abbrev pub is_blank : List ℕ → Bool
is_blank line = list_all is_space line

-- the lines of a text: what its line feeds part
abbrev pub lines_of : List ℕ → List (List ℕ)
lines_of text = slice_split (λ b. b == 10) text

-- ---- their documents

-- what stands at a place of a text: a document, or why there is none
abbrev pub Piece : Type 0
Piece = Result Data Refused

-- a value that is none, by its number in its array, from 1, or 0; and its line, or 0 where the text is one value
abbrev pub no_document : ℕ → ℕ → Refused
no_document line number = record { line = line; fault = record { event = number; field = fields.Document; kind = kinds.NotDocument } }

abbrev pub no_value : ℕ → Refused
no_value line = record { line = line; fault = whole fields.Document kinds.Syntax }

abbrev pub piece_of : ℕ → ℕ × Option Data → Piece
piece_of line (number, None) = Err (no_document line number)
piece_of line (number, Some d) = Ok d

abbrev pub first_number : Data → ℕ
first_number d = if is_some (as_array d) then 1 else 0

-- the documents of a value, or of none, in this line
abbrev pub pieces_at : ℕ → Option Data → List Piece
pieces_at line None = Err (no_value line) ∷ []
pieces_at line (Some d) = map (piece_of line) (enumerate_from (first_number d) (documents_in d))

-- those of a line; a blank one has none
abbrev pub line_pieces : ℕ → List ℕ → List Piece
line_pieces number line = if is_blank line then [] else pieces_at number (value_of line)

-- of the lines from this number on
abbrev pub pieces_from : ℕ → List (List ℕ) → List Piece
pieces_from number [] = []
pieces_from number (line ∷ lines) = line_pieces number line ++ pieces_from (number + 1) lines

-- the first line that isn't blank is a value
abbrev pub begins : List (List ℕ) → Bool
begins [] = false
begins (line ∷ lines) = if is_blank line then begins lines else is_some (value_of line)

-- a value in each line, where the first is one
abbrev pub by_lines : List (List ℕ) → List Piece
by_lines lines = if begins lines then pieces_from 1 lines else Err (no_value 0) ∷ []

-- a text is this value, or has one in each line
abbrev pub whole_or_lines : List ℕ → Option Data → List Piece
whole_or_lines text None = by_lines (lines_of text)
whole_or_lines text (Some d) = pieces_at 0 (Some d)

-- a byte order mark may stand before it
abbrev pub pieces_of : List ℕ → List Piece
pieces_of text = whole_or_lines (unmarked text) (value_of (unmarked text))
