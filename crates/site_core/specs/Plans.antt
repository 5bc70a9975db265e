-- What the start of a recall adds to a site.
use Rattle.std.specs.Prelude.{◌↔◌, ℕ, List, [], ◌∷◌, Contains}
use Rattle.frame_core.specs.Numbers.{Recall}
use Rattle.trace_core.specs.Sites.{SiteEvents}
use Rattle.trace_core.specs.Spreads.{AreAscendingItems, IsSpread}
use Rattle.site_core.specs.Quarantines.{Quarantine}
use Rattle.site_core.specs.Shipments.{AreShipments}
use Rattle.site_core.specs.Spreading.{AreNewlyHeld}

-- the items of the root's spread that the recall doesn't hold yet, and the shipments of the whole spread
pub record IsStartPlanned (s : SiteEvents) (q : Quarantine) (r : Recall) (root : List ℕ) (new : List (List ℕ)) (out : List (ℕ × List ℕ)) : Type 0 where
  pub spread : List (List ℕ)
  pub ascending : AreAscendingItems spread
  pub exact : (j : List ℕ) → Contains spread j ↔ IsSpread s (root ∷ []) j
  pub newly : AreNewlyHeld s q r root new
  pub shipped : AreShipments s spread out
