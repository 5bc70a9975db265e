-- What is kept of the events of a value, in the words of the one who has it captured.
use Rattle.std.specs.Prelude.{◌≡◌, ◌↔◌, ℕ, List, [], ◌∷◌, codes, map, Option, Some, None, Ok, IsSome, if◌then◌else◌}
use Rattle.serde_json.specs.Data.{Data, array, object, string, Items, no_items, item, Members}
use Rattle.serde_json.specs.Find.{get}
use Rattle.serde_json.specs.View.{items_of}
use Rattle.event_json.specs.Checks.{type_named, type_text}
use Rattle.event_json.specs.Documents.{document_of, event_list}
use Rattle.event_json.specs.Members.{member_named}
use Rattle.event_json.specs.Sites.{Site}
use Rattle.event_json.specs.Untraced.{in_order}
use Rattle.event_json.specs.declared.documents.Doc.{Doc}
use Rattle.document_convert.specs.Types.{is_event, type_told, typed}
use Rattle.document_convert.specs.Documents.{document_events, document_in}

-- a member is absent where it isn't there, or is null
abbrev pub IsAbsent : List ℕ → Data → Type 0
IsAbsent name d = member_named name d ≡ None

-- the events that a value holds, in order, as they stand in it; None where it is no document
unfoldable pub held_in : Data → Option (List Data)
held_in d = of_list (document_events d) where
  of_list : Option Items → Option (List Data)
  of_list None = if is_event d then Some (d ∷ []) else None
  of_list (Some items) = Some (in_order items)

-- ---- what is an event, and what holds some

-- The type of a value is its `type`, else its `@type`, as a text or an array of one, else its `isA`; one that is null is absent.
pub record TypesAreThese : Type 0 where
  pub type : (d : Data) (text : List ℕ) → get (codes "type") d ≡ Some (string text) → type_told d ≡ Some text
  pub at_type : (d : Data) (text : List ℕ) → IsAbsent (codes "type") d → get (codes "@type") d ≡ Some (string text) → type_told d ≡ Some text
  pub at_types : (d : Data) (text : List ℕ) → IsAbsent (codes "type") d → get (codes "@type") d ≡ Some (array (item (string text) no_items)) → type_told d ≡ Some text
  pub is_a : (d : Data) (text : List ℕ) → IsAbsent (codes "type") d → IsAbsent (codes "@type") d → get (codes "isA") d ≡ Some (string text) → type_told d ≡ Some text
  pub none : (d : Data) → IsAbsent (codes "type") d → IsAbsent (codes "@type") d → IsAbsent (codes "isA") d → type_told d ≡ None

-- An EPCISDocument holds the `eventList` of its body, or else the `event`, an array or one; an EPCISQueryDocument the `eventList` of its
-- `resultsBody`; an event of one of the five types itself; and a value without a type nothing.
pub record HoldersAreThese : Type 0 where
  pub list : (d body : Data) (events : Items) → type_told d ≡ Some (codes "EPCISDocument") → get (codes "epcisBody") d ≡ Some body
      → get (codes "eventList") body ≡ Some (array events) → held_in d ≡ Some (in_order events)
  pub several : (d body : Data) (events : Items) → type_told d ≡ Some (codes "EPCISDocument") → get (codes "epcisBody") d ≡ Some body
      → IsAbsent (codes "eventList") body → get (codes "event") body ≡ Some (array events) → held_in d ≡ Some (in_order events)
  pub one : (d body : Data) (members : Members) → type_told d ≡ Some (codes "EPCISDocument") → get (codes "epcisBody") d ≡ Some body
      → IsAbsent (codes "eventList") body → get (codes "event") body ≡ Some (object members) → held_in d ≡ Some (object members ∷ [])
  pub found : (d body results found : Data) (events : Items) → type_told d ≡ Some (codes "EPCISQueryDocument") → get (codes "epcisBody") d ≡ Some body
      → get (codes "queryResults") body ≡ Some results → get (codes "resultsBody") results ≡ Some found → get (codes "eventList") found ≡ Some (array events)
      → held_in d ≡ Some (in_order events)
  pub alone : (d : Data) (text : List ℕ) → type_told d ≡ Some text → IsSome (type_named text) → held_in d ≡ Some (d ∷ [])
  pub nothing : (d : Data) → type_told d ≡ None → held_in d ≡ None

-- ---- what is kept of it

-- No event is lost, and none is added: a capture finds in the document each event of the value, with its type, in order.
abbrev pub EventsAreKept : Type 0
EventsAreKept = (d found : Data) → document_in d ≡ Some found → (events : List Data) × (held_in d ≡ Some events) × (event_list found ≡ Ok (items_of (map typed events)))

-- A value that holds no events is no document, and any other is one.
abbrev pub HoldersAreDocuments : Type 0
HoldersAreDocuments = (d : Data) → IsSome (document_in d) ↔ IsSome (held_in d)

-- An event has each member that it had, but `type`; and that stays, too, where it is there.
abbrev pub MembersAreKept : Type 0
MembersAreKept = (e : Data) (name : List ℕ) → (name ≡ codes "type" → ⊥) → get name (typed e) ≡ get name e

abbrev pub TypesAreKept : Type 0
TypesAreKept = (e : Data) → IsSome (member_named (codes "type") e) → typed e ≡ e

-- The type of an event is what it says of it.
abbrev pub TypesAreTold : Type 0
TypesAreTold = (e : Data) → type_text (typed e) ≡ type_told e

-- What stands in a document beside its type and its body stays.
abbrev pub SurroundingsAreKept : Type 0
SurroundingsAreKept =
    (d found : Data) (name : List ℕ) → document_in d ≡ Some found → (name ≡ codes "type" → ⊥) → (name ≡ codes "epcisBody" → ⊥)
    → get name found ≡ get name d

-- What a capture reads stays as it is.
abbrev pub ReadIsUnchanged : Type 0
ReadIsUnchanged = (sites : List Site) (d : Data) (doc : Doc) → document_of sites d ≡ Ok doc → document_in d ≡ Some d

-- What comes of it is the document of itself: a second time changes nothing.
abbrev pub SecondChangesNothing : Type 0
SecondChangesNothing = (d found : Data) → document_in d ≡ Some found → document_in found ≡ Some found
