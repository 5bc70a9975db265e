-- What becomes of long lists, in the words of the one who has them captured.
use Rattle.std.specs.Prelude.{◌≡◌, ◌⊎◌, ◌<◌, ◌≤◌, ◌+◌, ◌*◌, ◌^◌, ℕ, codes, Contains, List, [], ◌∷◌, ◌++◌, drop, length, take, Some, None, Ok, IsSome}
use Rattle.std.specs.Fmt.{decimal}
use Rattle.std.specs.List.{flat_map}
use Rattle.serde_json.specs.Data.{Data, Items, string}
use Rattle.serde_json.specs.Find.{get}
use Rattle.event_json.specs.Checks.{type_text}
use Rattle.event_json.specs.Documents.{document_of, event_list}
use Rattle.event_json.specs.Members.{member_named}
use Rattle.event_json.specs.Sites.{Site}
use Rattle.event_json.specs.Untraced.{in_order, listed_events}
use Rattle.event_json.specs.declared.documents.Doc.{Doc}
use Rattle.document_convert.specs.Parted.{event_parts, in_parts, members_at, thousands}
use Rattle.document_convert.specs.Quantities.{list_of}

-- ---- what an event says

abbrev pub IsOfType : List ℕ → Data → Type 0
IsOfType name d = type_text d ≡ Some name

-- a list of an event has more than 1,000 members
abbrev pub IsLong : List ℕ → Data → Type 0
IsLong name d = 1000 < length (members_at name d)

-- a transformation whose inputs and outputs are lists, or absent, one of them with more than 1,000 members
pub record IsLongMake (d : Data) : Type 0 where
  pub type : IsOfType (codes "TransformationEvent") d
  pub ins : IsSome (list_of (member_named (codes "inputEPCList") d))
  pub outs : IsSome (list_of (member_named (codes "outputEPCList") d))
  pub long : IsLong (codes "inputEPCList") d ⊎ IsLong (codes "outputEPCList") d

-- it may be told in several events of this identifier: its own, or that of the event with `#made` behind it
abbrev pub IsMadeAs : List ℕ → Data → Type 0
IsMadeAs id d =
    (member_named (codes "transformationID") d ≡ Some (string id))
    ⊎ ((own : List ℕ) × (member_named (codes "transformationID") d ≡ None) × (member_named (codes "eventID") d ≡ Some (string own))
    × (length (own ++ codes "#made") ≤ 512) × (id ≡ own ++ codes "#made"))

-- so many thousands of inputs with so many of outputs are at most 1,000 events
abbrev pub HasFewPairs : Data → Type 0
HasFewPairs d = thousands (length (members_at (codes "inputEPCList") d)) * thousands (length (members_at (codes "outputEPCList") d)) ≤ 1000

-- ---- the lists of an event's parts

-- the parts have a list by thousands: one after another it is the event's, the nth has the nth thousand, and none more than that
pub record IsInThousands (name : List ℕ) (d : Data) : Type 0 where
  pub all : flat_map (members_at name) (event_parts d) ≡ members_at name d
  pub nth : (e : Data) (before behind : List Data) → event_parts d ≡ before ++ e ∷ behind → members_at name e ≡ take 1000 (drop (length before * 1000) (members_at name d))
  pub few : (e : Data) → Contains (event_parts d) e → length (members_at name e) ≤ 1000

-- and no part of a long list is empty
abbrev pub NoneIsEmpty : List ℕ → Data → Type 0
NoneIsEmpty name d = (e : Data) → IsLong name d → Contains (event_parts d) e → 0 < length (members_at name e)

-- NOTHING GETS LOST, AND NOTHING IS ADDED: the lists of an event's parts, one after another, are those of the event.
pub record ListsAreParted : Type 0 where
  pub objects : (d : Data) → IsOfType (codes "ObjectEvent") d → IsInThousands (codes "epcList") d × NoneIsEmpty (codes "epcList") d
  pub aggregations : (d : Data) → IsOfType (codes "AggregationEvent") d → IsInThousands (codes "childEPCs") d × NoneIsEmpty (codes "childEPCs") d
  pub inputs : (d : Data) (id : List ℕ) → IsLongMake d → IsMadeAs id d → IsInThousands (codes "inputEPCList") d
  pub outputs : (d : Data) (id : List ℕ) → IsLongMake d → IsMadeAs id d → IsInThousands (codes "outputEPCList") d

-- Every other member of a part is the event's, but the identifiers.
pub record OthersAreKept : Type 0 where
  pub objects : (d e : Data) (name : List ℕ) → IsOfType (codes "ObjectEvent") d → Contains (event_parts d) e
      → (name ≡ codes "epcList" → ⊥) → (name ≡ codes "eventID" → ⊥) → get name e ≡ get name d
  pub aggregations : (d e : Data) (name : List ℕ) → IsOfType (codes "AggregationEvent") d → Contains (event_parts d) e
      → (name ≡ codes "childEPCs" → ⊥) → (name ≡ codes "eventID" → ⊥) → get name e ≡ get name d
  pub transformations : (d e : Data) (name : List ℕ) → IsOfType (codes "TransformationEvent") d → Contains (event_parts d) e
      → (name ≡ codes "inputEPCList" → ⊥) → (name ≡ codes "outputEPCList" → ⊥) → (name ≡ codes "transformationID" → ⊥) → (name ≡ codes "eventID" → ⊥)
      → get name e ≡ get name d
  pub types : (d : Data) → (IsOfType (codes "ObjectEvent") d → ⊥) → (IsOfType (codes "AggregationEvent") d → ⊥) → (IsOfType (codes "TransformationEvent") d → ⊥)
      → event_parts d ≡ d ∷ []

-- ---- transformations

-- an item of a list of an event
abbrev pub Has : List ℕ → Data → Data → Type 0
Has name item d = Contains (members_at name d) item

-- EACH INPUT STILL LEADS TO EACH OUTPUT: the parts of a transformation are one by their identifier, or else each input stands with each output
-- in a part, and each part has at most 1,000 of both; where these were more than 1,000 parts it stays as it is.
pub record MakesStayWhole : Type 0 where
  pub one : (d e : Data) (id : List ℕ) → IsLongMake d → IsMadeAs id d → Contains (event_parts d) e → member_named (codes "transformationID") e ≡ Some (string id)
  pub together : (d input output : Data) → IsLongMake d → ((id : List ℕ) → IsMadeAs id d → ⊥) → Has (codes "inputEPCList") input d → Has (codes "outputEPCList") output d
      → (e : Data) × Contains (event_parts d) e × Has (codes "inputEPCList") input e × Has (codes "outputEPCList") output e
  pub inputs : (d e input : Data) → IsLongMake d → Contains (event_parts d) e → Has (codes "inputEPCList") input e → Has (codes "inputEPCList") input d
  pub outputs : (d e output : Data) → IsLongMake d → Contains (event_parts d) e → Has (codes "outputEPCList") output e → Has (codes "outputEPCList") output d
  pub few : (d e : Data) → IsLongMake d → HasFewPairs d → Contains (event_parts d) e
      → (length (members_at (codes "inputEPCList") e) ≤ 1000) × (length (members_at (codes "outputEPCList") e) ≤ 1000)
  pub too_many : (d : Data) → IsLongMake d → ((id : List ℕ) → IsMadeAs id d → ⊥) → (HasFewPairs d → ⊥) → event_parts d ≡ d ∷ []

-- ---- identifiers

-- the identifier of an event's nth part
abbrev pub nth_id : List ℕ → ℕ → List ℕ
nth_id id n = id ++ (codes "#" ++ decimal n)

-- this is a part of a list of several
pub record IsNth (n : ℕ) (d e : Data) : Type 0 where
  pub before : List Data
  pub behind : List Data
  pub several : 1 < length (event_parts d)
  pub stands : event_parts d ≡ before ++ e ∷ behind
  pub number : n ≡ 1 + length before

-- The identifiers of parts are made of the event's alone, so that the same event gives the same parts, and no two are one; a part has none
-- where the event has none, or where it would be too long.
pub record PartsAreNumbered : Type 0 where
  pub numbered : (d e : Data) (id : List ℕ) (n : ℕ) → member_named (codes "eventID") d ≡ Some (string id) → IsNth n d e → length (nth_id id n) ≤ 512
      → member_named (codes "eventID") e ≡ Some (string (nth_id id n))
  pub too_long : (d e : Data) (id : List ℕ) (n : ℕ) → member_named (codes "eventID") d ≡ Some (string id) → IsNth n d e → 512 < length (nth_id id n)
      → member_named (codes "eventID") e ≡ None
  pub without : (d e : Data) → member_named (codes "eventID") d ≡ None → Contains (event_parts d) e → member_named (codes "eventID") e ≡ None
  pub apart : (id : List ℕ) (m n : ℕ) → m < 2 ^ 64 → n < 2 ^ 64 → nth_id id m ≡ nth_id id n → m ≡ n

-- ---- documents

-- The events of the documents, one after another, are the parts of the document's events, in order; the nth document has the nth thousand of
-- them, none is empty but where there are no events, and each has what stands beside the body.
pub record DocumentsAreParted : Type 0 where
  pub events : (d : Data) (events : Items) → event_list d ≡ Ok events → flat_map listed_events (in_parts d) ≡ flat_map event_parts (in_order events)
  pub nth : (d e : Data) (events : Items) (before behind : List Data) → event_list d ≡ Ok events → in_parts d ≡ before ++ e ∷ behind
      → listed_events e ≡ take 1000 (drop (length before * 1000) (flat_map event_parts (in_order events)))
  pub few : (d e : Data) → Contains (in_parts d) e → length (listed_events e) ≤ 1000
  pub some : (d e : Data) → 0 < length (flat_map listed_events (in_parts d)) → Contains (in_parts d) e → 0 < length (listed_events e)
  pub type : (d e : Data) → IsOfType (codes "EPCISDocument") d → Contains (in_parts d) e → IsOfType (codes "EPCISDocument") e
  pub others : (d e : Data) (name : List ℕ) → IsOfType (codes "EPCISDocument") d → Contains (in_parts d) e → (name ≡ codes "type" → ⊥) → (name ≡ codes "epcisBody" → ⊥)
      → get name e ≡ get name d

-- ---- what stays

-- an event whose lists have at most 1,000 members
pub record IsWithin (d : Data) : Type 0 where
  pub items : length (members_at (codes "epcList") d) ≤ 1000
  pub children : length (members_at (codes "childEPCs") d) ≤ 1000
  pub ins : length (members_at (codes "inputEPCList") d) ≤ 1000
  pub outs : length (members_at (codes "outputEPCList") d) ≤ 1000

-- Within the limits all stays as it was, and so does what a capture reads.
pub record WithinStays : Type 0 where
  pub event : (d : Data) → IsWithin d → event_parts d ≡ d ∷ []
  pub document : (d : Data) (events : Items) → event_list d ≡ Ok events → length (in_order events) ≤ 1000 → ((e : Data) → Contains (in_order events) e → IsWithin e)
      → in_parts d ≡ d ∷ []
  pub read : (sites : List Site) (d : Data) (doc : Doc) → document_of sites d ≡ Ok doc → in_parts d ≡ d ∷ []
