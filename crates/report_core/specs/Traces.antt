-- What an item at a site reaches, whether or not it was recalled.
use Rattle.std.specs.Prelude.{◌≡◌, ◌↔◌, ◌⊎◌, ℕ, List, Some, Contains}
use Rattle.std.specs.List.{AllZip}
use Rattle.trace_core.specs.Chains.{Related}
use Rattle.trace_core.specs.Pairs.{IsStrictlyAscending}
use Rattle.trace_core.specs.Relations.{Reaches}
use Rattle.trace_core.specs.Sites.{SiteEvents}
use Rattle.trace_core.specs.Trails.{TellsTrail, TellsTrailBy}
use Rattle.trace_core.specs.declared.pairs.Pair.{Pair}
use Rattle.site_core.specs.Records.{Record}
use Rattle.site_core.specs.Spreading.{IsKnownItem}
use Rattle.site_recovery.specs.Laws.{captured_of}
use Rattle.site_recovery.specs.Looks.{World, world_of}
use Rattle.report_core.specs.Outside.{AreOutsideOf}
use Rattle.report_core.specs.declared.faults.TraceFault.{TraceFault}
use Rattle.report_core.specs.declared.faults.TraceFault.TheVariants.{NoMemory, UnknownItem}
use Rattle.report_core.specs.declared.traces.BackTrace.{BackTrace}
use Rattle.report_core.specs.declared.traces.Trace.{Trace}

-- one of the events that the site captured names the item, or it is quarantined there under some recall
abbrev pub IsKnownAt : World → ℕ → List ℕ → Type 0
IsKnownAt W site item = IsKnownItem (W site).captured (W site).quarantine item

-- a chain of related pairs, by the events of all sites, leads from the root to the pair
abbrev pub IsReachedFrom : List Record → Pair → Pair → Type 0
IsReachedFrom records root p = Reaches (Related (captured_of records)) root p

-- the trace gives the item at the site; what it reaches, itself among it, by site and item and each once; to each of these
-- pairs, in their order, a shortest trail; and what of them was shipped out
pub record IsTrace (records : List Record) (site : ℕ) (item : List ℕ) (trace : Trace) : Type 0 where
  pub root : trace.root ≡ record { site = site; item = item }
  pub ascending : IsStrictlyAscending trace.pairs
  pub exact : (p : Pair) → Contains trace.pairs p ↔ IsReachedFrom records trace.root p
  pub trails : AllZip (λ p trail. TellsTrail (captured_of records) trace.root p (Some trail)) trace.pairs trace.trails
  pub outside : AreOutsideOf (world_of records) (IsReachedFrom records trace.root) trace.outside

-- the one pair is the root, and the other one an item at its site that lies in it
abbrev pub HasInside : Pair → List (List ℕ) → Pair → Pair → Type 0
HasInside root inside p q = (p ≡ root) × (q.site ≡ root.site) × Contains inside q.item

-- the one pair is related to the other one, by the events of the sites, or has it inside
abbrev pub LeadsOn : List SiteEvents → Pair → List (List ℕ) → Pair → Pair → Type 0
LeadsOn sites root inside p q = Related sites p q ⊎ HasInside root inside p q

-- a chain of pairs, each of which is related to the next or has it inside, leads from the root to the pair
abbrev pub IsReachedWith : List Record → Pair → List (List ℕ) → Pair → Type 0
IsReachedWith records root inside p = Reaches (LeadsOn (captured_of records) root inside) root p

-- the trace gives the item at the site; what it reaches by itself or through the items that lie in it, by site and item and
-- each once; to each of these pairs, in their order, a shortest chain; and what of them was shipped out
pub record IsContentsTrace (records : List Record) (site : ℕ) (item : List ℕ) (inside : List (List ℕ)) (trace : Trace) : Type 0 where
  pub root : trace.root ≡ record { site = site; item = item }
  pub ascending : IsStrictlyAscending trace.pairs
  pub exact : (p : Pair) → Contains trace.pairs p ↔ IsReachedWith records trace.root inside p
  pub trails : AllZip (λ p trail. TellsTrailBy (LeadsOn (captured_of records) trace.root inside) trace.root p (Some trail)) trace.pairs trace.trails
  pub outside : AreOutsideOf (world_of records) (IsReachedWith records trace.root inside) trace.outside

-- a chain of related pairs, by the events of all sites, leads from the pair to the root
abbrev pub LeadsTo : List Record → Pair → Pair → Type 0
LeadsTo records root p = Reaches (Related (captured_of records)) p root

-- no pair is related to it, by the events of all sites
abbrev pub HasNoSource : List Record → Pair → Type 0
HasNoSource records p = (q : Pair) → Related (captured_of records) q p → ⊥

-- the trace back gives the item at the site; what reaches it, itself among it, by site and item and each once; from each of
-- these pairs, in their order, a shortest trail to it; and those of them that no pair is related to, by site and item and
-- each once
pub record IsBackTrace (records : List Record) (site : ℕ) (item : List ℕ) (trace : BackTrace) : Type 0 where
  pub root : trace.root ≡ record { site = site; item = item }
  pub ascending : IsStrictlyAscending trace.pairs
  pub exact : (p : Pair) → Contains trace.pairs p ↔ LeadsTo records trace.root p
  pub trails : AllZip (λ p trail. TellsTrail (captured_of records) p trace.root (Some trail)) trace.pairs trace.trails
  pub first_ones : IsStrictlyAscending trace.origins
  pub origins : (p : Pair) → Contains trace.origins p ↔ (Contains trace.pairs p × HasNoSource records p)

-- an item is unknown where the site doesn't know it; memory runs out for known ones alone
abbrev pub TellsTraceFault : World → ℕ → List ℕ → TraceFault → Type 0
TellsTraceFault W site item NoMemory = IsKnownAt W site item
TellsTraceFault W site item UnknownItem = IsKnownAt W site item → ⊥
