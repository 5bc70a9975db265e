-- Where a pair that one more event adds can begin.
use Rattle.std.specs.Prelude.{◌≡◌, ◌==◌, ℕ, Bool, true, false, not, length, List, [], Option, Some, None, Contains, IsTrue}
use Rattle.std.specs.BTreeSet.{BTreeSet}
use Rattle.event_json.specs.Events.{Content}
use Rattle.event_json.specs.declared.bodies.Body.{Body}
use Rattle.event_json.specs.declared.bodies.Body.TheVariants.{Note, Ship, Make, Pack}
use Rattle.frame_core.specs.Numbers.{Recall}
use Rattle.trace_core.specs.Pairs.{GivesOut, HaveOneId, make_id}
use Rattle.trace_core.specs.Parts.{TakesInAsPart}
use Rattle.trace_core.specs.Searches.{IsFound}
use Rattle.trace_core.specs.Spreads.{ins_in}
use Rattle.site_core.specs.Blocks.{holds_outputs}
use Rattle.site_core.specs.Quarantines.{Quarantine, held, item_cmp}

-- what was found is found, and so are these
pub record FindsAlso (old new : BTreeSet (List ℕ)) (items : List (List ℕ)) : Type 0 where
  pub stay : (i : List ℕ) → IsFound item_cmp old i → IsFound item_cmp new i
  pub all : (i : List ℕ) → Contains items i → IsFound item_cmp new i

-- what was found is found, and what the event takes in that stands at a place, if one does
abbrev pub FindsInputsAt : Option Content → BTreeSet (List ℕ) → BTreeSet (List ℕ) → Type 0
FindsInputsAt None old new = FindsAlso old new []
FindsInputsAt (Some e) old new = FindsAlso old new (ins_in e.body)

-- what was found is found, and what those of these events take in that are parts of the transformation with this id
pub record FindsParts (id : Option (List ℕ)) (events : List Content) (old new : BTreeSet (List ℕ)) : Type 0 where
  pub stay : (i : List ℕ) → IsFound item_cmp old i → IsFound item_cmp new i
  pub all : (e : Content) → Contains events e → HaveOneId (make_id e.body) id → (i : List ℕ) → Contains (ins_in e.body) i → IsFound item_cmp new i

-- what was found is found, and so is the item, if a part of the transformation takes it in
pub record FindsIfInput (events : List Content) (id item : List ℕ) (old new : BTreeSet (List ℕ)) : Type 0 where
  pub stay : (i : List ℕ) → IsFound item_cmp old i → IsFound item_cmp new i
  pub here : TakesInAsPart events id item → IsFound item_cmp new item

-- what was found is found, and so is each quarantined item that a part of the transformation takes in
pub record FindsHeldInputs (events : List Content) (q : Quarantine) (id : List ℕ) (old new : BTreeSet (List ℕ)) : Type 0 where
  pub stay : (i : List ℕ) → IsFound item_cmp old i → IsFound item_cmp new i
  pub all : (i : List ℕ) (r : Recall) → IsTrue (held q r i) → TakesInAsPart events id i → IsFound item_cmp new i

-- what was found is found, and so are the quarantined inputs of the body's transformation
pub record FindsJoined (events : List Content) (q : Quarantine) (b : Body) (old new : BTreeSet (List ℕ)) : Type 0 where
  pub stay : (i : List ℕ) → IsFound item_cmp old i → IsFound item_cmp new i
  pub all : (id i : List ℕ) (r : Recall) → make_id b ≡ Some id → IsTrue (held q r i) → TakesInAsPart events id i → IsFound item_cmp new i

-- whether the event is a transformation with outputs
abbrev pub has_outputs : Body → Bool
has_outputs (Note items) = false
has_outputs (Ship items sites outside) = false
has_outputs (Make id ins outs) = not (length outs == 0)
has_outputs (Pack action parent children) = false

-- what was found is found, and so are the quarantined inputs of the body's transformation, but for those under recalls that hold all outputs of the body
pub record FindsUncovered (events : List Content) (q : Quarantine) (b : Body) (old new : BTreeSet (List ℕ)) : Type 0 where
  pub stay : (i : List ℕ) → IsFound item_cmp old i → IsFound item_cmp new i
  pub all : (id i : List ℕ) (r : Recall) → make_id b ≡ Some id → IsTrue (held q r i) → TakesInAsPart events id i → (holds_outputs q b r ≡ true → ⊥) → IsFound item_cmp new i

-- the same, if the body gives something out
pub record FindsGiving (events : List Content) (q : Quarantine) (b : Body) (old new : BTreeSet (List ℕ)) : Type 0 where
  pub stay : (i : List ℕ) → IsFound item_cmp old i → IsFound item_cmp new i
  pub all : (id i j : List ℕ) (r : Recall) → make_id b ≡ Some id → GivesOut j b → IsTrue (held q r i) → TakesInAsPart events id i → (holds_outputs q b r ≡ true → ⊥) → IsFound item_cmp new i
