-- What the index of a list of events has, and how it changes with an event.
use Rattle.std.specs.Prelude.{◌≡◌, ℕ, Bool, List, ◌++◌, length, take}
use Rattle.event_json.specs.Events.{Content}
use Rattle.trace_core.specs.declared.indexes.Index.{Index}
use Rattle.trace_core.specs.declared.event_ids.EventIds.{EventIds}
use Rattle.trace_core.specs.declared.event_items.Members.{Members}
use Rattle.trace_core.specs.EventIds.{hash_places, has_hash}
use Rattle.trace_core.specs.Numbers.{Named, numbered, with_names, names_of, item_places, HasMembers}
use Rattle.trace_core.specs.PairTests.{lists}
use Rattle.trace_core.specs.PutIn.{children_in, HasPacked}
use Rattle.trace_core.specs.Sendings.{HasSent}
use Rattle.trace_core.specs.Places.{TextIndex, text_places, takes_item, has_part, IsIndex, Notes, NotesSome, Forgets, KeepsNone}

-- the places of eventIDs, by their hashes, and of the ids of transformations are those of the events
pub record HasIds (by_id : EventIds) (by_part : TextIndex) (events : List Content) : Type 0 where
  pub ids : IsIndex (hash_places by_id.places) (has_hash by_id.keys) events
  pub parts : IsIndex (text_places by_part) has_part events

-- the items are those of the events, with their numbers and the places of what takes them in
pub record HasItems (named : List Named) (its_members : List Members) (events : List Content) : Type 0 where
  pub places : IsIndex (item_places named) takes_item events
  pub names : names_of named ≡ numbered events
  pub members : HasMembers events its_members

-- the index says just what the events say
pub record HasPlaces (index : Index) (events : List Content) : Type 0 where
  pub items : HasItems index.items index.members.items events
  pub ids : HasIds index.ids index.parts events
  pub sent : HasSent events index.sent index.counts.items
  pub packed : HasPacked (children_in index.packed) events

-- what takes items in stays
abbrev pub SamePlaces : List Named → List Named → Type 0
SamePlaces old new = (i : List ℕ) → item_places new i ≡ item_places old i

-- these items have numbers
pub record KnowsItems (old new : List Named) (items : List (List ℕ)) : Type 0 where
  pub same : SamePlaces old new
  pub names : names_of new ≡ with_names (names_of old) items

-- some items more have numbers
pub record KnowsSomeItems (old new : List Named) : Type 0 where
  pub same : SamePlaces old new
  pub more : List (List ℕ)
  pub names : names_of new ≡ names_of old ++ more

-- these items have numbers, and the last place is noted for these inputs
pub record NotesItems (old new : List Named) (place : ℕ) (items ins : List (List ℕ)) : Type 0 where
  pub noted : Notes (item_places old) (item_places new) place (lists ins)
  pub names : names_of new ≡ with_names (names_of old) items

-- it is noted for some of them, and some items more have numbers
pub record NotesSomeItems (old new : List Named) (place : ℕ) (ins : List (List ℕ)) : Type 0 where
  pub noted : NotesSome (item_places old) (item_places new) place (lists ins)
  pub more : List (List ℕ)
  pub names : names_of new ≡ names_of old ++ more

-- it is taken away from these items, which keep their numbers
pub record ForgetsPlace (old new : List Named) (place : ℕ) (keys : List ℕ → Bool) : Type 0 where
  pub forgotten : Forgets (item_places old) (item_places new) place keys
  pub names : names_of new ≡ names_of old

-- so it is, and the first so many items are left
pub record ForgetsItems (old new : List Named) (place : ℕ) (keys : List ℕ → Bool) (before : ℕ) : Type 0 where
  pub left : List Named
  pub forgotten : ForgetsPlace old left place keys
  pub taken : new ≡ take before left

-- nothing is noted, and no item is new
pub record KeepsItems (old new : List Named) (place : ℕ) : Type 0 where
  pub left : List Named
  pub none : KeepsNone (item_places old) (item_places left) place
  pub more : List (List ℕ)
  pub names : names_of left ≡ names_of old ++ more
  pub taken : new ≡ take (length old) left
