-- What the records of all sites say of a recall.
pub use Rattle.site_recovery.specs.Recalls.{quarantined}
use Rattle.std.specs.Prelude.{◌≡◌, ◌↔◌, ℕ, Bool, IsTrue, List, Contains, Option, Some, option_map, slice_get}
use Rattle.std.specs.FinMap.{get}
use Rattle.frame_core.specs.Numbers.{Recall}
use Rattle.site_core.specs.Records.{Record}
use Rattle.site_recovery.specs.Laws.{captured_of}
use Rattle.scholten_core.specs.declared.own_recalls.Own.{Own}
use Rattle.trace_core.specs.Chains.{Related}
use Rattle.trace_core.specs.Relations.{Reaches}
use Rattle.trace_core.specs.declared.pairs.Pair.{Pair}

-- whether the recall has ended, as the record of the site that began it says; None where it has no such recall
abbrev pub ended_in : Recall → Record → Option Bool
ended_in recall r = option_map (λ own. own.ended) (get r.engagement.own recall.number)

-- the site that began the recall, from this root, has recorded its end
pub record HasEnded (recall : Recall) (root : List ℕ) (records : List Record) : Type 0 where
  pub initiator : Record
  pub there : slice_get records recall.site ≡ Some initiator
  pub own : Own
  pub begun : get initiator.engagement.own recall.number ≡ Some own
  pub from : own.root ≡ root
  pub ended : IsTrue own.ended

-- these are the pairs that chains of related pairs reach from the root, through the events that all sites captured
abbrev pub AreReached : List Record → Pair → List Pair → Type 0
AreReached records root pairs = (p : Pair) → Contains pairs p ↔ Reaches (Related (captured_of records)) root p

-- once the recall has ended, these are the pairs in reach of its root
abbrev pub AreExactOnceEnded : Recall → List Record → List Pair → Type 0
AreExactOnceEnded recall records pairs = (root : List ℕ) → HasEnded recall root records → AreReached records (record { site = recall.site; item = root }) pairs

-- the recall has ended as before, and the same is quarantined under it
pub record StaysEnded (recall : Recall) (root : List ℕ) (old new : List Record) : Type 0 where
  pub still : HasEnded recall root new
  pub same : quarantined recall new ≡ quarantined recall old
