-- What is known of a quarantine beside it: that it is closed inside its site, and which transformations its items go into.
use Rattle.std.specs.Prelude.{◌≡◌, ◌⊎◌, ℕ, true, List, [], ◌∷◌, Contains, IsTrue, Some}
use Rattle.std.specs.BTreeSet.{BTreeSet}
use Rattle.std.specs.FinMap.{get}
use Rattle.frame_core.specs.Identifiers.{recall_cmp}
use Rattle.frame_core.specs.Numbers.{Recall}
use Rattle.frame_core.specs.Tables.{as_map}
use Rattle.trace_core.specs.Beyond.{GivesInside}
use Rattle.trace_core.specs.Groups.{GoesInto, IsSeen}
use Rattle.trace_core.specs.Sites.{SiteEvents}
use Rattle.trace_core.specs.Spreads.{Inside, IsSpread}
use Rattle.trace_core.specs.declared.groups.Group.{Group}
use Rattle.site_core.specs.declared.shortcuts.Shortcuts.{Shortcuts}
use Rattle.site_core.specs.ItemSets as set
use Rattle.site_core.specs.ItemSets.{Items}
use Rattle.site_core.specs.Quarantines.{Quarantine, held}

-- what is made of a quarantined item at the site is quarantined under the same recall
abbrev pub IsClosedInside : SiteEvents → Quarantine → Type 0
IsClosedInside s q = (r : Recall) (i j : List ℕ) → IsTrue (held q r i) → Inside s i j → IsTrue (held q r j)

-- what is made at the site of an item of the set is in the set
abbrev pub IsClosedSet : SiteEvents → Items → Type 0
IsClosedSet s items = (i j : List ℕ) → IsTrue (set.contains items i) → Inside s i j → IsTrue (set.contains items j)

-- an item that is quarantined under the recall goes into each of the transformations that were seen; so where the quarantine is closed inside
-- the site, all that these give out is quarantined under the recall, whatever is captured of them later
abbrev pub TakeHeld : SiteEvents → Quarantine → Recall → BTreeSet Group → Type 0
TakeHeld s q r seen = (first : ℕ) → IsSeen seen 0 first → (i : List ℕ) × IsTrue (held q r i) × GoesInto s.events i first

-- both, where they are reported
pub record AreShortcuts (s : SiteEvents) (q : Quarantine) (known : Shortcuts) : Type 0 where
  pub closed : known.is_closed ≡ true → IsClosedInside s q
  pub seen : (r : Recall) (groups : BTreeSet Group) → get (as_map recall_cmp known.seen) r ≡ Some groups → TakeHeld s q r groups

-- the item, and items of its spread: with each of them that isn't quarantined under the recall all that it is related to, but for what
-- transformations give that were seen before; and one of them goes into each transformation that is seen now and wasn't before
pub record IsSpreadPast (s : SiteEvents) (q : Quarantine) (r : Recall) (i : List ℕ) (seen seen' : BTreeSet Group) (found : List (List ℕ)) : Type 0 where
  pub start : Contains found i
  pub sound : (j : List ℕ) → Contains found j → IsSpread s (i ∷ []) j
  pub followed : (j k : List ℕ) → Contains found j → (IsTrue (held q r j) → ⊥) → Inside s j k → Contains found k ⊎ GivesInside s seen k
  pub taken : (first : ℕ) → IsSeen seen' 0 first → IsSeen seen 0 first ⊎ ((j : List ℕ) × Contains found j × GoesInto s.events j first)
