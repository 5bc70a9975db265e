-- How what is found is printed: a line for each finding, with the document's source behind it, and one of totals, as text and
-- as JSON, whose members are in the order of their names.
use Rattle.std.specs.Prelude.{ℕ, ◌+◌, ◌-◌, ◌^◌, ◌==◌, Bool, true, false, not, List, ◌++◌, codes, count_by, if◌then◌else◌, min}
use Rattle.std.specs.Fmt.{decimal}
use Rattle.std.specs.List.{flat_map}
use Rattle.serde_json.specs.Data.{Data, Members, member, no_members, number, object, string, unsigned}
use Rattle.serde_json.specs.Written.{compact_text}
use Rattle.event_json.specs.Names.{field_name, kind_name}
use Rattle.event_json.specs.declared.doc_faults.DocField.{DocField}
use Rattle.event_json.specs.declared.doc_faults.DocField.TheVariants as fields
use Rattle.document_lint.specs.OtherPlaces.{place_name}
use Rattle.document_lint.specs.declared.findings.Finding.{Finding}
use Rattle.document_lint.specs.declared.findings.Lint.{Lint}
use Rattle.document_lint.specs.declared.findings.SkippedType.{SkippedType}
use Rattle.document_lint.specs.declared.findings.SkippedType.TheVariants.{Transaction, Association}
use Rattle.document_lint.specs.declared.findings.What.{What}
use Rattle.document_lint.specs.declared.findings.What.TheVariants.{Fault, Skipped, ShipsNowhere, Outside, OtherSpelling, NotShipped, NothingPacked, NoEventId, NearMiss, OtherPlace}
use Rattle.document_lint.specs.declared.totals.LintTotals.{LintTotals}

-- the type of an event that is skipped
abbrev pub type_name : SkippedType → List ℕ
type_name Transaction = codes "TransactionEvent"
type_name Association = codes "AssociationEvent"

-- ---- as text

-- `fault` or `warn`, what it is, and the event
abbrev pub named : List ℕ → List ℕ → ℕ → List ℕ
named level name event = level ++ codes " " ++ name ++ codes " event " ++ decimal event

-- and the member that is meant, by its name or its field
abbrev pub named_in : List ℕ → List ℕ → ℕ → List ℕ → List ℕ
named_in level name event field = named level name event ++ codes " field " ++ field

abbrev pub named_at : List ℕ → List ℕ → ℕ → DocField → List ℕ
named_at level name event field = named_in level name event (field_name field)

-- the words of a fault are those of the refusal of a document
abbrev pub what_words : ℕ → What → List ℕ
what_words event (Fault field kind) = named_at (codes "fault") (kind_name kind) event field
what_words event (Skipped its_type) = named (codes "warn") (codes "Skipped") event ++ codes " " ++ type_name its_type
what_words event ShipsNowhere = named_at (codes "warn") (codes "ShipsNowhere") event fields.DestinationList
what_words event (Outside place) = named_at (codes "warn") (codes "Outside") event fields.DestinationList ++ codes " " ++ place
what_words event (OtherSpelling site address) =
    named_at (codes "warn") (codes "OtherSpelling") event fields.DestinationList ++ codes " " ++ address ++ codes " " ++ site
what_words event NotShipped = named_at (codes "warn") (codes "NotShipped") event fields.DestinationList
what_words event NothingPacked = named_at (codes "warn") (codes "NothingPacked") event fields.ChildEpcs
what_words event NoEventId = named (codes "warn") (codes "NoEventID") event
what_words event (NearMiss field text) = named_at (codes "warn") (codes "NearMiss") event field ++ codes " " ++ text
what_words event (OtherPlace place address) = named_in (codes "warn") (codes "OtherPlace") event (place_name place) ++ codes " " ++ address

-- a finding in a document of this source
abbrev pub finding_text : List ℕ → Finding → List ℕ
finding_text source found = what_words found.event found.what ++ codes " " ++ source ++ codes "\n"

abbrev pub lint_text : List ℕ → Lint → List ℕ
lint_text source lint = flat_map (finding_text source) lint.findings

-- ---- as JSON

-- a member of a name, with those behind it
abbrev pub text_at : List ℕ → List ℕ → Members → Members
text_at name text rest = member name (string text) rest

abbrev pub count_at : List ℕ → ℕ → Members → Members
count_at name count rest = member name (number (unsigned count)) rest

abbrev pub file_at : List ℕ → Members → Members
file_at source rest = text_at (codes "file") source rest

abbrev pub warning : List ℕ → Members
warning name = text_at (codes "warning") name no_members

-- a warning of this name, of the member that is meant
abbrev pub field_members : List ℕ → ℕ → List ℕ → List ℕ → Members
field_members source event field name = count_at (codes "event") event (text_at (codes "field") field (file_at source (warning name)))

abbrev pub fault_members : List ℕ → ℕ → List ℕ → List ℕ → Members
fault_members source event field kind =
    count_at (codes "event") event (text_at (codes "fault") kind (text_at (codes "field") field (file_at source no_members)))

abbrev pub skipped_members : List ℕ → ℕ → List ℕ → Members
skipped_members source event its_type = count_at (codes "event") event (file_at source (text_at (codes "type") its_type (warning (codes "Skipped"))))

abbrev pub outside_members : List ℕ → ℕ → List ℕ → Members
outside_members source event place =
    text_at (codes "address") place
    (count_at (codes "event") event (text_at (codes "field") (codes "destinationList") (file_at source (warning (codes "Outside")))))

abbrev pub spelling_members : List ℕ → ℕ → List ℕ → List ℕ → Members
spelling_members source event address site =
    text_at (codes "address") address
    (count_at (codes "event") event
    (text_at (codes "field") (codes "destinationList") (file_at source (text_at (codes "site") site (warning (codes "OtherSpelling"))))))

abbrev pub unnamed_members : List ℕ → ℕ → Members
unnamed_members source event = count_at (codes "event") event (file_at source (warning (codes "NoEventID")))

abbrev pub near_members : List ℕ → ℕ → List ℕ → List ℕ → Members
near_members source event field text =
    count_at (codes "event") event
    (text_at (codes "field") field (file_at source (text_at (codes "text") text (warning (codes "NearMiss")))))

abbrev pub other_members : List ℕ → ℕ → List ℕ → List ℕ → Members
other_members source event field address =
    text_at (codes "address") address (count_at (codes "event") event (text_at (codes "field") field (file_at source (warning (codes "OtherPlace")))))

abbrev pub what_members : List ℕ → ℕ → What → Members
what_members source event (Fault field kind) = fault_members source event (field_name field) (kind_name kind)
what_members source event (Skipped its_type) = skipped_members source event (type_name its_type)
what_members source event ShipsNowhere = field_members source event (codes "destinationList") (codes "ShipsNowhere")
what_members source event (Outside place) = outside_members source event place
what_members source event (OtherSpelling site address) = spelling_members source event address site
what_members source event NotShipped = field_members source event (codes "destinationList") (codes "NotShipped")
what_members source event NothingPacked = field_members source event (codes "childEPCs") (codes "NothingPacked")
what_members source event NoEventId = unnamed_members source event
what_members source event (NearMiss field text) = near_members source event (field_name field) text
what_members source event (OtherPlace place address) = other_members source event (place_name place) address

abbrev pub finding_json : List ℕ → Finding → Data
finding_json source found = object (what_members source found.event found.what)

abbrev pub json_line : Data → List ℕ
json_line d = compact_text d ++ codes "\n"

abbrev pub finding_line : List ℕ → Finding → List ℕ
finding_line source found = json_line (finding_json source found)

abbrev pub lint_json : List ℕ → Lint → List ℕ
lint_json source lint = flat_map (finding_line source) lint.findings

-- ---- totals

abbrev pub is_fault : Finding → Bool
is_fault found = of_what found.what where
  of_what : What → Bool
  of_what (Fault field kind) = true
  of_what other = false

-- a count rises by so many, and stays at the greatest number
abbrev pub up : ℕ → ℕ → ℕ
up count more = min (count + more) (2 ^ 64 - 1)

abbrev pub none_yet : LintTotals
none_yet = record { events = 0; faults = 0; warnings = 0 }

-- with what is found in a document more
abbrev pub with_lint : LintTotals → Lint → LintTotals
with_lint t lint = record {
  events = up t.events lint.events;
  faults = up t.faults (count_by is_fault lint.findings);
  warnings = up t.warnings (count_by (λ found. not (is_fault found)) lint.findings);
}

abbrev pub totals_text : LintTotals → List ℕ
totals_text t = codes "total events " ++ decimal t.events ++ codes " faults " ++ decimal t.faults ++ codes " warnings " ++ decimal t.warnings ++ codes "\n"

abbrev pub totals_json : LintTotals → Data
totals_json t =
    object (member (codes "total")
    (object (count_at (codes "events") t.events (count_at (codes "faults") t.faults (count_at (codes "warnings") t.warnings no_members)))) no_members)

-- the status of a program that ends with these totals
abbrev pub totals_status : LintTotals → ℕ
totals_status t = if t.faults == 0 then 0 else 1
