-- Laws of what isn't traced, which any right definition of it meets.
use Rattle.std.specs.Prelude.{◌≡◌, ◌≤◌, ◌+◌, ℕ, IsTrue, Bool, true, false, List, length, count_by, Option, Some, Result, Ok, Err}
use Rattle.serde_json.specs.Data.{Data}
use Rattle.event_json.specs.declared.bodies.Body.TheVariants.{Note}
use Rattle.event_json.specs.declared.event_types.EventType.{EventType}
use Rattle.event_json.specs.declared.event_types.EventType.TheVariants.{Object, Aggregation, Transaction, Transformation, Association}
use Rattle.event_json.specs.declared.documents.Doc.{Doc}
use Rattle.event_json.specs.Checks.{event_type}
use Rattle.event_json.specs.Documents.{document_of}
use Rattle.event_json.specs.EventReading.{event_of}
use Rattle.event_json.specs.Events.{Content}
use Rattle.event_json.specs.Sites.{Site}
use Rattle.event_json.specs.Untraced.{is_aimless, listed_events, untraced_of}

-- the types that are skipped
abbrev pub skips : EventType → Bool
skips Object = false
skips Aggregation = false
skips Transformation = false
skips Transaction = true
skips Association = true

-- a type that is found and is skipped
abbrev pub finds_skipped : {E : Type 0} → Result EventType E → Bool
finds_skipped (Ok its_type) = skips its_type
finds_skipped (Err flaw) = false

-- an event of such a type
abbrev pub is_skipped : Data → Bool
is_skipped d = finds_skipped (event_type d)

-- a document that is read lists at most 1,000 events; those of a skipped type are counted as skipped, and the others kept
abbrev pub SkippedAreCounted : Type 0
SkippedAreCounted = (sites : List Site) (d : Data) (doc : Doc) → document_of sites d ≡ Ok doc
    → (length (listed_events d) ≤ 1000)
    × ((untraced_of d doc).skipped ≡ count_by is_skipped (listed_events d))
    × (length doc.events + (untraced_of d doc).skipped ≡ length (listed_events d))

-- an event that ships without a destination is kept, where it is read, as an observation
abbrev pub AimlessAreSeen : Type 0
AimlessAreSeen = (sites : List Site) (d : Data) (found : Option Content) → IsTrue (is_aimless d) → event_of sites d ≡ Ok found
    → (e : Content) × (items : List (List ℕ)) × (found ≡ Some e) × (e.body ≡ Note items)
