-- What a linter finds in a document: of each event its faults, or what is strange about it.
use Rattle.std.specs.Prelude.{◌≡◌, ℕ, Bool, IsUtf8, if◌then◌else◌, List, [], ◌∷◌, ◌++◌, Option, Some, None, Result, Ok, Err, codes, bytes_eq, map, option_and_then, is_some, ⊤}
use Rattle.std.specs.List.{enumerate_from, flat_map}
use Rattle.serde_json.specs.Data.{Data, Items, array, item, member, no_items, no_members, object, string}
use Rattle.serde_json.specs.Read.{read}
use Rattle.event_json.specs.Checks.{type_named, type_text}
use Rattle.event_json.specs.Documents.{event_list, few_events, numbered_event, whole}
use Rattle.event_json.specs.Events.{Content}
use Rattle.event_json.specs.Members.{count_of}
use Rattle.event_json.specs.Sites.{Site}
use Rattle.event_json.specs.Untraced.{in_order, is_text, outside_of}
use Rattle.event_json.specs.declared.bodies.Body.{Body}
use Rattle.event_json.specs.declared.bodies.Body.TheVariants.{Note, Ship, Make, Pack}
use Rattle.event_json.specs.declared.doc_faults.DocFault.{DocFault}
use Rattle.event_json.specs.declared.doc_faults.DocFaultKind.TheVariants as kinds
use Rattle.event_json.specs.declared.doc_faults.DocField.{DocField}
use Rattle.event_json.specs.declared.doc_faults.DocField.TheVariants as fields
use Rattle.document_lint.specs.EventFaults.{event_faults}
use Rattle.document_lint.specs.Locations.{unlisted}
use Rattle.document_lint.specs.LostGoods.{is_unshipped, packs_nothing, ships_nowhere}
use Rattle.document_lint.specs.NearMisses.{near_text}
use Rattle.document_lint.specs.OtherPlaces.{other_places}
use Rattle.document_lint.specs.declared.findings.Finding.{Finding}
use Rattle.document_lint.specs.declared.findings.Lint.{Lint}
use Rattle.document_lint.specs.declared.findings.SkippedType.{SkippedType}
use Rattle.document_lint.specs.declared.findings.SkippedType.TheVariants.{Transaction, Association}
use Rattle.document_lint.specs.declared.findings.What.{What}
use Rattle.document_lint.specs.declared.findings.What.TheVariants.{Fault, Skipped, ShipsNowhere, NotShipped, NothingPacked, NoEventId, NearMiss}

-- ---- what is strange about an event that is read

-- the type of an event that is skipped
abbrev pub skipped_type : Data → SkippedType
skipped_type d = if is_text (λ text. bytes_eq text (codes "TransactionEvent")) (type_text d) then Transaction else Association

-- this, where it is so
abbrev pub told : Bool → What → List What
told is what = if is then what ∷ [] else []

-- what loses its goods to a trace: they leave, and nobody says where to; they go to a place that isn't listed; only an ObjectEvent
-- would ship them; nothing is packed
abbrev pub losses : List Site → Data → Body → List What
losses sites d body =
    told (ships_nowhere d body) ShipsNowhere
    ++ (flat_map (unlisted sites) (outside_of body) ++ (told (is_unshipped d body) NotShipped ++ told (packs_nothing body) NothingPacked))

-- it has no eventID
abbrev pub names : Option (List ℕ) → List What
names None = NoEventId ∷ []
names (Some id) = []

-- the text of an item, where it is a near miss
abbrev pub missed : DocField → Option (List ℕ) → List What
missed field None = []
missed field (Some text) = NearMiss field text ∷ []

abbrev pub near : DocField → List ℕ → List What
near field key = missed field (near_text key)

abbrev pub nears_of : DocField → List (List ℕ) → List What
nears_of field items = flat_map (near field) items

abbrev pub parent_nears : Option (List ℕ) → List What
parent_nears None = []
parent_nears (Some parent) = near fields.ParentId parent

abbrev pub nears : Body → List What
nears (Note items) = nears_of fields.EpcList items
nears (Ship items sites outside) = nears_of fields.EpcList items
nears (Make id ins outs) = nears_of fields.InputEpcList ins ++ nears_of fields.OutputEpcList outs
nears (Pack action parent children) = parent_nears parent ++ nears_of fields.ChildEpcs children

-- all of that, and that it happened at another site than the one that captures it, where this is known
abbrev pub strange : List Site → Option ℕ → Data → Content → List What
strange sites here d e = losses sites d e.body ++ (names e.id ++ (nears e.body ++ other_places sites here d))

-- ---- an event

-- it is one by its type
abbrev pub is_event : Data → Bool
is_event d = is_some (option_and_then type_named (type_text d))

-- its faults, that it is skipped, or what is strange about it
abbrev pub found_of : List Site → Option ℕ → Data → Result (Option Content) DocFault → List What
found_of sites here d (Err fault) = event_faults d
found_of sites here d (Ok None) = Skipped (skipped_type d) ∷ []
found_of sites here d (Ok (Some e)) = strange sites here d e

-- at this number
abbrev pub at_number : ℕ → List What → List Finding
at_number n found = map (λ what. record { event = n; what = what }) found

abbrev pub event_findings : List Site → Option ℕ → ℕ × Data → List Finding
event_findings sites here (n, d) = at_number n (found_of sites here d (numbered_event sites n d))

-- ---- a document

-- a document of one event
abbrev pub alone : Data → Data
alone d = object
    (member (codes "epcisBody") (object (member (codes "eventList") (array (item d no_items)) no_members))
    (member (codes "type") (string (codes "EPCISDocument")) no_members))

abbrev pub fault_finding : DocFault → Finding
fault_finding fault = record { event = fault.event; what = Fault fault.field fault.kind }

-- the list is too long
abbrev pub length_findings : Result ⊤ DocFault → List Finding
length_findings (Ok _) = []
length_findings (Err fault) = fault_finding fault ∷ []

-- the events of a list
abbrev pub list_findings : List Site → Option ℕ → Items → List Finding
list_findings sites here items = length_findings (few_events items) ++ flat_map (event_findings sites here) (enumerate_from 1 (in_order items))

-- a document without a list of events has one fault
abbrev pub without_list : DocFault → Lint
without_list fault = record { events = 0; findings = fault_finding fault ∷ [] }

-- what is found in a list of events, or that there is none
abbrev pub found_in : List Site → Option ℕ → Result Items DocFault → Lint
found_in sites here (Err fault) = without_list fault
found_in sites here (Ok items) = record { events = count_of items; findings = list_findings sites here items }

unfoldable pub value_lint : List Site → Option ℕ → Data → Lint
value_lint sites here d = found_in sites here (event_list d)

-- what is found in a value, or that there is none
abbrev pub found_at : List Site → Option ℕ → Option Data → Lint
found_at sites here None = without_list (whole fields.Document kinds.Syntax)
found_at sites here (Some d) = value_lint sites here d

-- a document of these bytes, which are UTF-8
unfoldable pub text_lint : List Site → Option ℕ → List ℕ → Lint
text_lint sites here text = found_at sites here (read text)

-- a document of these bytes, which the site of this number is to capture, if that is known
abbrev pub IsLint : List Site → Option ℕ → List ℕ → Lint → Type 0
IsLint sites here bytes lint =
    (IsUtf8 bytes → lint ≡ text_lint sites here bytes)
    × ((IsUtf8 bytes → ⊥) → lint ≡ without_list (whole fields.Document kinds.Syntax))
