-- What becomes of a document of which some events change.
use Rattle.std.specs.Prelude.{◌≡◌, ℕ, List, codes, map, Some, Ok}
use Rattle.serde_json.specs.Data.{Data, Items}
use Rattle.serde_json.specs.Find.{get}
use Rattle.serde_json.specs.View.{items_of}
use Rattle.event_json.specs.Checks.{type_text}
use Rattle.event_json.specs.Documents.{event_list}
use Rattle.event_json.specs.Untraced.{in_order}

-- each event of a document is there as it changes, in order, and no other; the document has its type, and nothing beside its body changes
pub record ChangesEach (change turned : Data → Data) : Type 0 where
  pub events : (d : Data) (events : Items) → event_list d ≡ Ok events → event_list (turned d) ≡ Ok (items_of (map change (in_order events)))
  pub type : (d : Data) → type_text (turned d) ≡ type_text d
  pub others : (d : Data) (name : List ℕ) → type_text d ≡ Some (codes "EPCISDocument") → (name ≡ codes "type" → ⊥) → (name ≡ codes "epcisBody" → ⊥)
      → get name (turned d) ≡ get name d
  pub alone : (d : Data) → (type_text d ≡ Some (codes "EPCISDocument") → ⊥) → turned d ≡ change d
