-- A turn that sends the frame of a name, from the place that it has among those that the site may send.
use Rattle.std.specs.Prelude.{◌≡◌, ⊤, ℕ, List, Option, Some, None, option_and_then, slice_get}
use Rattle.site_core.specs.Emitting as site
use Rattle.site_core.specs.Naming.{frame_named}
use Rattle.site_core.specs.Records.{Record}
use Rattle.site_core.specs.declared.naming.FrameName.{FrameName}

-- the place of the frame of this name. One without a frame, where there is no such frame
abbrev pub IsPlaceOf : Option Record → FrameName → ℕ → Type 0
IsPlaceOf None name place = ⊤
IsPlaceOf (Some shows) name place = site.frame_at shows.engagement place ≡ frame_named shows.engagement name

-- the place of the frame of this name at a site
abbrev pub IsPlaceAt : {K : Type 0} → (K → Option Record) → List K → ℕ → FrameName → ℕ → Type 0
IsPlaceAt shown keepers at name place = IsPlaceOf (option_and_then shown (slice_get keepers at)) name place
