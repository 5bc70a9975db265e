-- What is written of a text: the documents that it holds, a line each, and what is told of the rest.
use Rattle.std.specs.Prelude.{◌≡◌, ◌≤◌, if◌then◌else◌, ℕ, Bool, true, false, List, [], ◌∷◌, ◌++◌, Ok, Err, Some, map, string_bytes}
use Rattle.std.specs.List.{flat_map}
use Rattle.json.specs.Lex.{tokens}
use Rattle.json.specs.Print.{print}
use Rattle.serde_json.specs.Data.{Data, depth}
use Rattle.serde_json.specs.Read.{max_depth, read}
use Rattle.event_json.specs.Sites.{Site}
use Rattle.document_convert.specs.Accounts.{count_if, event_count, none_yet, quantities, with_document, with_lines}
use Rattle.document_convert.specs.DeclaredErrors.{document_with_errors_kept, is_declared}
use Rattle.document_convert.specs.LightParts.{is_light_document}
use Rattle.document_convert.specs.Linked.{document_with_links}
use Rattle.document_convert.specs.Links.{link_of}
use Rattle.document_convert.specs.Lotted.{document_with_lots}
use Rattle.document_convert.specs.Parted.{has_parts, in_parts}
use Rattle.document_convert.specs.Placed.{document_with_places, has_destination, has_places}
use Rattle.document_convert.specs.Places.{is_of_several}
use Rattle.document_convert.specs.Respelled.{spells_otherwise_by}
use Rattle.document_convert.specs.Texts.{Piece, pieces_of}
use Rattle.document_convert.specs.UnitLots.{is_untied}
use Rattle.document_convert.specs.declared.accounts.Account.{Account}
use Rattle.document_convert.specs.declared.accounts.Counts.{Counts}
use Rattle.document_convert.specs.declared.converting.Conversion.{Conversion}
use Rattle.document_convert.specs.declared.converting.Converted.{Converted}
use Rattle.document_convert.specs.declared.converting.Refused.{Refused}

-- ---- the lines

-- a line of this value: JSON without a space, that is read back as the value, and a line feed
pub record IsLineOf (d : Data) (line : List ℕ) : Type 0 where
  pub text : List ℕ
  pub reads_back : depth d ≤ max_depth → read text ≡ Some d
  pub compact : text ≡ print (tokens text)
  pub line_is : line ≡ text ++ 10 ∷ []

-- a line for each of these values, in order, and nothing else
abbrev pub AreLinesOf : List Data → List ℕ → Type 0
AreLinesOf [] lines = lines ≡ []
AreLinesOf (d ∷ ds) lines = (line : List ℕ) × (rest : List ℕ) × IsLineOf d line × AreLinesOf ds rest × (lines ≡ line ++ rest)

-- ---- what is written of what stands in a text

abbrev pub document_at : Piece → List Data
document_at (Ok d) = d ∷ []
document_at (Err refused) = []

abbrev pub refused_at : Piece → List Refused
refused_at (Ok d) = []
refused_at (Err refused) = refused ∷ []

-- a document as this turns it, where that is asked for, or as it is
abbrev pub if_asked : Bool → (Data → Data) → Data → Data
if_asked true turn d = turn d
if_asked false turn d = d

-- Its declared errors are kept first, then its units become links, and then its destinations addresses: none of these changes what
-- another one looks at. Lots are moved last, so that each event that was counted before came with the document.
abbrev pub kept_as_asked : Conversion → Data → Data
kept_as_asked ways d = if_asked ways.errors document_with_errors_kept d

abbrev pub linked_as_asked : Conversion → Data → Data
linked_as_asked ways d = if_asked ways.links document_with_links (kept_as_asked ways d)

abbrev pub placed_as_asked : Conversion → List Site → Data → Data
placed_as_asked ways sites d = if_asked ways.places (document_with_places sites) (linked_as_asked ways d)

-- a document as it is before long lists are parted
abbrev pub as_asked : Conversion → List Site → Data → Data
as_asked ways sites d = if_asked ways.lots document_with_lots (placed_as_asked ways sites d)

-- in parts where they repeat little
abbrev pub in_light_parts : Data → List Data
in_light_parts d = if is_light_document d then in_parts d else d ∷ []

-- the documents of a text, as they are written
abbrev pub documents_of : Conversion → List Site → List Piece → List Data
documents_of ways sites pieces = flat_map in_light_parts (map (as_asked ways sites) (flat_map document_at pieces))

abbrev pub refusals_of : List Piece → List Refused
refusals_of pieces = flat_map refused_at pieces

-- what is counted of a document: the units of its events as the errors are kept, their destinations with their units as links, and the lots
-- that weren't tied with their destinations as addresses
abbrev pub counts_of : Conversion → List Site → Data → Counts
counts_of ways sites d = record {
  had = quantities d;
  came = event_count d;
  errors = count_if ways.errors is_declared d;
  links = count_if ways.links (spells_otherwise_by link_of) (kept_as_asked ways d);
  places = count_if ways.places (has_places sites) (linked_as_asked ways d);
  places_of_several = count_if ways.places (has_destination (is_of_several sites)) (linked_as_asked ways d);
  untied = count_if ways.lots is_untied (placed_as_asked ways sites d);
  parted = count_if (is_light_document (as_asked ways sites d)) has_parts (as_asked ways sites d);
}

-- with a document more
abbrev pub account_with : Conversion → List Site → Account → Data → Account
account_with ways sites a d = with_lines (with_document a (counts_of ways sites d) (as_asked ways sites d)) (in_light_parts (as_asked ways sites d))

abbrev pub account_from : Conversion → List Site → Account → List Data → Account
account_from ways sites a [] = a
account_from ways sites a (d ∷ ds) = account_from ways sites (account_with ways sites a d) ds

-- each document is written in order, and each refusal told
pub record AreConverted (ways : Conversion) (sites : List Site) (pieces : List Piece) (converted : Converted) : Type 0 where
  pub written : AreLinesOf (documents_of ways sites pieces) (string_bytes converted.lines)
  pub told : converted.refused.items ≡ refusals_of pieces
  pub counted : converted.account ≡ account_from ways sites none_yet (flat_map document_at pieces)

-- those of a text
abbrev pub IsConverted : Conversion → List Site → List ℕ → Converted → Type 0
IsConverted ways sites text converted = AreConverted ways sites (pieces_of text) converted
