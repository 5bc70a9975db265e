-- A document: the JSON form of GS1 EPCIS 2.0, as an EPCISDocument or as one bare event.
use Rattle.std.specs.Prelude.{ℕ, nat_lt, if◌then◌else◌, List, codes, bytes_eq, filter, filter_map, length, Option, Some, None, Result, Ok, Err, option_and_then, is_some, is_none, ⊤}
use Rattle.serde_json.specs.Data.{Data, Items, no_items, item}
use Rattle.serde_json.specs.Find.{as_array}
use Rattle.serde_json.specs.Read.{read}
use Rattle.event_json.specs.declared.documents.Doc.{Doc}
use Rattle.event_json.specs.declared.doc_faults.DocField.{DocField}
use Rattle.event_json.specs.declared.doc_faults.DocField.TheVariants as fields
use Rattle.event_json.specs.declared.doc_faults.DocFaultKind.{DocFaultKind}
use Rattle.event_json.specs.declared.doc_faults.DocFaultKind.TheVariants as kinds
use Rattle.event_json.specs.declared.doc_faults.DocFault.{DocFault}
use Rattle.event_json.specs.Faults.{◌>>=◌, at_event}
use Rattle.event_json.specs.Members.{member_of, member_named, count_of, each}
use Rattle.event_json.specs.Events.{Content}
use Rattle.event_json.specs.Sites.{Site}
use Rattle.event_json.specs.Checks.{type_named, type_text}
use Rattle.event_json.specs.EventReading.{event_of}

-- a fault of the document itself
abbrev pub whole : DocField → DocFaultKind → DocFault
whole field kind = record { event = 0; field = field; kind = kind }

-- the event list of an EPCISDocument
unfoldable pub listed : Data → Option Items
listed d = option_and_then as_array (option_and_then (member_of fields.EventList) (member_named (codes "epcisBody") d))

-- the events of a document, one where it is a bare event (a value that is no object has no type)
unfoldable pub event_list : Data → Result Items DocFault
event_list d = by_type (type_text d) where
  in_body : Option Items → Result Items DocFault
  in_body None = Err (whole fields.EventList kinds.NotDocument)
  in_body (Some items) = Ok items

  by_type : Option (List ℕ) → Result Items DocFault
  by_type None = Err (whole fields.Document kinds.NotDocument)
  by_type (Some text) =
      if bytes_eq text (codes "EPCISDocument") then in_body (listed d) else
      if is_some (type_named text) then Ok (item d no_items) else Err (whole fields.Document kinds.NotDocument)

-- at most 1,000 events, skipped ones too
unfoldable pub few_events : Items → Result ⊤ DocFault
few_events items = if nat_lt 1000 (count_of items) then Err (whole fields.EventList kinds.TooManyEvents) else Ok tt

-- the event of this number
abbrev pub numbered_event : List Site → ℕ → Data → Result (Option Content) DocFault
numbered_event sites n d = at_event n (event_of sites d)

-- the events that aren't skipped, in order, and how many were
abbrev pub doc_of : List (Option Content) → Doc
doc_of found = record { events = filter_map (λ e. e) found; skipped = length (filter is_none found) }

-- the events of a list, or its first fault
unfoldable pub events_of : List Site → Items → Result Doc DocFault
events_of sites items = do
  found ← each (numbered_event sites) 1 items
  Ok (doc_of found)

-- the events of a document's value, or its first fault
unfoldable pub document_of : List Site → Data → Result Doc DocFault
document_of sites d = do
  items ← event_list d
  _ ← few_events items
  events_of sites items

-- the events of a document's bytes, which are UTF-8, or the first fault
unfoldable pub text_document : List Site → List ℕ → Result Doc DocFault
text_document sites text = by_value (read text) where
  by_value : Option Data → Result Doc DocFault
  by_value None = Err (whole fields.Document kinds.Syntax)
  by_value (Some d) = document_of sites d
