-- What the places of faults say.
use Rattle.std.specs.Prelude.{◌≡◌, ⊤, ℕ, ◌<◌, ◌⊎◌, List, [], length, slice_get, Option, Some}
use Rattle.event_json.specs.Sites.{Site}
use Rattle.site_core.specs.Records.{Record, fresh}
use Rattle.site_recovery.specs.Fit.{Fits}
use Rattle.site_recovery.specs.Laws.{AreInPlace}
use Rattle.site_recovery.specs.Looks.{world_of}
use Rattle.site_recovery.specs.Misfits.{IsMisfit}
use Rattle.site_recovery.specs.declared.checking.Misfit.{Misfit}
use Rattle.world_core.specs.Keepers.{AllShow, IsFirstClosed}
use Rattle.world_core.specs.declared.faults.ViewFault.{ViewFault}
use Rattle.world_core.specs.declared.faults.ViewFault.TheVariants.{NoMemory, Closed}
use Rattle.world_core.specs.declared.faults.WorldFault.{WorldFault}
use Rattle.world_core.specs.declared.faults.WorldFault.TheVariants as worlds

-- where the fault is a closed site, it is one with this
abbrev pub IfClosed : ViewFault → (ℕ → Type 0) → Type 0
IfClosed NoMemory P = ⊤
IfClosed (Closed site) P = P site

-- the record is of these sites, and in its place
abbrev pub IsPlacedAmong : List Site → ℕ → Record → Type 0
IsPlacedAmong sites place r = (r.sites ≡ sites) × (r.engagement.me ≡ place)

-- the records are of all these sites, in the order of their numbers
pub record AreAllOf (sites : List Site) (records : List Record) : Type 0 where
  pub number : length records ≡ length sites
  pub each : (place : ℕ) (r : Record) → slice_get records place ≡ Some r → IsPlacedAmong sites place r

-- they are of all sites that the first one lists
abbrev pub AreOneWorld : List Record → Type 0
AreOneWorld records = (first : Record) × (slice_get records 0 ≡ Some first) × AreAllOf first.sites records

-- in this place stands a record of the sites that the first one lists
abbrev pub StandsRight : List Record → ℕ → Type 0
StandsRight records place = (first : Record) × (r : Record) × (slice_get records 0 ≡ Some first) × (slice_get records place ≡ Some r) × IsPlacedAmong first.sites place r

-- the least place that holds another record, or none though the sites go on; 0 where there are no records
pub record IsFirstOther (records : List Record) (place : ℕ) : Type 0 where
  pub before : (p : ℕ) → p < place → StandsRight records p
  pub here : StandsRight records place → ⊥
  pub meant : (first : Record) → slice_get records 0 ≡ Some first → (place < length records) ⊎ (place < length first.sites)

-- nothing happened yet at the sites
abbrev pub AreFresh : List Record → Type 0
AreFresh records = (place : ℕ) (r : Record) → slice_get records place ≡ Some r → r ≡ fresh r.sites r.engagement.me

-- they are of all sites, in their places, and are consistent while no frame was sent
pub record MakeAWorld (records : List Record) : Type 0 where
  pub one : AreOneWorld records
  pub places : AreInPlace records
  pub fit : Fits (world_of records) []

-- they are of all sites, and of the conditions that fail this is the least, and this is the least site at which it fails
abbrev pub DontFit : List Record → Misfit → Type 0
DontFit records misfit = AreOneWorld records × IsMisfit (length records) (world_of records) misfit.condition misfit.site

-- why records that are all shown make no world, where memory doesn't run out
abbrev pub Hinders : WorldFault → List Record → Type 0
Hinders worlds.NoMemory records = ⊤
Hinders (worlds.OtherSites place) records = IsFirstOther records place
Hinders (worlds.Misfit misfit) records = DontFit records misfit
Hinders (worlds.Closed place) records = ⊥

-- why keepers make no world: one is closed, which is reported first, or all show their records
abbrev pub HindersKeepers : {K : Type 0} → (K → Option Record) → List K → WorldFault → Type 0
HindersKeepers shown keepers worlds.NoMemory = ⊤
HindersKeepers shown keepers (worlds.Closed place) = IsFirstClosed shown keepers place
HindersKeepers shown keepers fault = (records : List Record) × AllShow shown keepers records × Hinders fault records
