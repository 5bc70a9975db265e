-- Which worlds a list of keepers may be.
use Rattle.std.specs.Prelude.{◌≡◌, ℕ, ◌<◌, Option, Some, None, List, slice_get, slice_set}
use Rattle.std.specs.List.{AllZip}
use Rattle.frame_core.specs.declared.frames.Frame.{Frame}
use Rattle.site_core.specs.Records.{Record}
use Rattle.world_core.specs.Worlds.{Standing, Up, Down, WorldState, WorldFits}

-- the keeper of each site, in order, and the frames sent
pub record Sites (K : Type 0) : Type 0 where
  pub keepers : List K
  pub sent : List Frame

-- these keepers, and these frames
abbrev pub sites_of : {K : Type 0} → List K → List Frame → Sites K
sites_of keepers sent = record { keepers = keepers; sent = sent }

-- a keeper shows the record of a site that is up. One that shows none may be opened in that of a site that is down
abbrev pub StandsAs : Option Record → (Record → Type 0) → Standing → Type 0
StandsAs shown may (Up r) = shown ≡ Some r
StandsAs shown may (Down r) = (shown ≡ None) × may r

-- the sites may be this world. Where all keepers are open, it is the only one
abbrev pub MayBe : {K : Type 0} → (K → Option Record) → (K → Record → Type 0) → Sites K → WorldState → Type 0
MayBe shown may sites world = AllZip (λ k standing. StandsAs (shown k) (may k) standing) sites.keepers world.sites × (world.sent ≡ sites.sent)

-- each that it may be now comes, by the change, from one that it might be before
abbrev pub ComesFrom : {W : Type 0} → (W → Type 0) → (W → Type 0) → (W → W → Type 0) → Type 0
ComesFrom {W} was now change = (new : W) → now new → (old : W) × was old × change old new

-- the sites became so: each world that they may be now comes, by the change, from one that they might be before
abbrev pub Become : {K : Type 0} → (K → Option Record) → (K → Record → Type 0) → Sites K → Sites K → (WorldState → WorldState → Type 0) → Type 0
Become shown may old new change = ComesFrom (MayBe shown may old) (MayBe shown may new) change

-- so did one keeper, by how its site stands
abbrev pub KeeperBecomes : {K : Type 0} → (K → Option Record) → (K → Record → Type 0) → K → K → (Standing → Standing → Type 0) → Type 0
KeeperBecomes shown may old new change = ComesFrom (StandsAs (shown old) (may old)) (StandsAs (shown new) (may new)) change

-- whatever world the sites may be, it is consistent
abbrev pub SitesFit : {K : Type 0} → (K → Option Record) → (K → Record → Type 0) → Sites K → Type 0
SitesFit shown may sites = (world : WorldState) → MayBe shown may sites world → WorldFits world

-- one keeper changed, so
abbrev pub ChangesAt : {K : Type 0} → List K → ℕ → List K → (K → K → Type 0) → Type 0
ChangesAt {K} old site new change = (was : K) × (now : K) × (slice_get old site ≡ Some was) × (new ≡ slice_set old site now) × change was now

-- every keeper is open, and these are the records that they show
abbrev pub AllShow : {K : Type 0} → (K → Option Record) → List K → List Record → Type 0
AllShow shown keepers records = AllZip (λ k r. shown k ≡ Some r) keepers records

-- the least place whose keeper is closed
abbrev pub IsFirstClosed : {K : Type 0} → (K → Option Record) → List K → ℕ → Type 0
IsFirstClosed {K} shown keepers place =
    ((k : K) × (slice_get keepers place ≡ Some k) × (shown k ≡ None)) × ((s : ℕ) (k : K) → s < place → slice_get keepers s ≡ Some k → (r : Record) × (shown k ≡ Some r))
