-- What a document says that isn't traced, in counts.
use Rattle.std.specs.Prelude.{ℕ, Bool, false, ◌==◌, ◌&&◌, ◌||◌, List, [], ◌∷◌, length, codes, bytes_eq, count_by, sum_by, Option, Some, None, Result, Ok, Err, option_and_then, is_none}
use Rattle.serde_json.specs.Data.{Data, Items, no_items, item}
use Rattle.serde_json.specs.Find.{as_str}
use Rattle.serde_json.specs.Read.{read}
use Rattle.event_json.specs.declared.bodies.Body.{Body}
use Rattle.event_json.specs.declared.bodies.Body.TheVariants.{Note, Ship, Make, Pack}
use Rattle.event_json.specs.declared.documents.Doc.{Doc}
use Rattle.event_json.specs.declared.doc_faults.DocFault.{DocFault}
use Rattle.event_json.specs.declared.doc_faults.DocFaultKind.TheVariants as kinds
use Rattle.event_json.specs.declared.doc_faults.DocField.TheVariants as fields
use Rattle.event_json.specs.declared.untraced.Untraced.{Untraced}
use Rattle.event_json.specs.Checks.{type_text}
use Rattle.event_json.specs.Documents.{document_of, event_list, whole}
use Rattle.event_json.specs.Faults.{◌>>=◌}
use Rattle.event_json.specs.Sites.{Site}
use Rattle.event_json.specs.Members.{member_of, member_named, list_of, count_of}

-- a text that is there and passes
abbrev pub is_text : (List ℕ → Bool) → Option (List ℕ) → Bool
is_text p None = false
is_text p (Some text) = p text

-- the business step `shipping` of the Core Business Vocabulary 2.0, by its short name, as a URN and as a Digital Link
unfoldable pub is_shipping : List ℕ → Bool
is_shipping step =
    bytes_eq step (codes "shipping")
    || bytes_eq step (codes "urn:epcglobal:cbv:bizstep:shipping")
    || bytes_eq step (codes "https://ref.gs1.org/cbv/BizStep-shipping")

-- an array that is found and has no members
abbrev pub is_empty_list : {E : Type 0} → Result Items E → Bool
is_empty_list (Ok items) = count_of items == 0
is_empty_list (Err flaw) = false

-- an ObjectEvent that says that its items were shipped, and doesn't say where
unfoldable pub is_aimless : Data → Bool
is_aimless d =
    is_text (λ text. bytes_eq text (codes "ObjectEvent")) (type_text d)
    && is_text is_shipping (option_and_then as_str (member_named (codes "bizStep") d))
    && is_empty_list (list_of fields.DestinationList (member_of fields.DestinationList d))

-- the members of an array, in order
abbrev pub in_order : Items → List Data
in_order no_items = []
in_order (item d ds) = d ∷ in_order ds

-- the events of the list of a document, skipped ones too; none where it has no such list
unfoldable pub listed_events : Data → List Data
listed_events d = of_list (event_list d) where
  of_list : {E : Type 0} → Result Items E → List Data
  of_list (Ok items) = in_order items
  of_list (Err fault) = []

-- the destinations of a shipment that are no traced site
abbrev pub outside_of : Body → List (List ℕ)
outside_of (Note items) = []
outside_of (Ship items sites outside) = outside
outside_of (Make id ins outs) = []
outside_of (Pack action parent children) = []

-- what a document of this value says that isn't traced
abbrev pub untraced_of : Data → Doc → Untraced
untraced_of d doc = record {
  skipped = doc.skipped;
  aimless = count_by is_aimless (listed_events d);
  outside = sum_by (λ e. length (outside_of e.body)) doc.events;
  unnamed = count_by (λ e. is_none e.id) doc.events;
}

-- what the document of a value says that isn't traced, or its first fault
unfoldable pub value_untraced : List Site → Data → Result Untraced DocFault
value_untraced sites d = do
  doc ← document_of sites d
  Ok (untraced_of d doc)

-- what the document of a text says that isn't traced, or its first fault
unfoldable pub text_untraced : List Site → List ℕ → Result Untraced DocFault
text_untraced sites text = by_value (read text) where
  by_value : Option Data → Result Untraced DocFault
  by_value None = Err (whole fields.Document kinds.Syntax)
  by_value (Some d) = value_untraced sites d
