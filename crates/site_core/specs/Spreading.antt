-- What a recall comes to hold at a site, and which items a site knows.
use mathlib.Core.Logic.{◌⊎◌}
use Rattle.std.specs.Prelude.{◌↔◌, ℕ, List, [], ◌∷◌, IsTrue, Any, Contains}
use Rattle.frame_core.specs.Numbers.{Recall}
use Rattle.trace_core.specs.Sites.{SiteEvents}
use Rattle.trace_core.specs.Spreads.{AreAscendingItems, IsSpread, items_of}
use Rattle.site_core.specs.Quarantines.{Quarantine, held}

-- the items of the spread of the item that aren't quarantined under the recall, ascending
pub record AreNewlyHeld (s : SiteEvents) (q : Quarantine) (r : Recall) (i : List ℕ) (out : List (List ℕ)) : Type 0 where
  pub ascending : AreAscendingItems out
  pub exact : (j : List ℕ) → Contains out j ↔ (IsSpread s (i ∷ []) j × (IsTrue (held q r j) → ⊥))

-- an event of the site names the item, or it is quarantined there under some recall
abbrev pub IsKnownItem : SiteEvents → Quarantine → List ℕ → Type 0
IsKnownItem s q i = Any (λ e. Contains (items_of e.body) i) s.events ⊎ ((r : Recall) × IsTrue (held q r i))
