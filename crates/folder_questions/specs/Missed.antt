-- What it comes to when it is asked what a recall misses.
use Rattle.std.specs.Prelude.{◌≡◌, ◌↔◌, ◌⊎◌, Bool, List, [], ◌∷◌, ◌++◌, Option, None, Some, IsSome, Contains}
use Rattle.std.specs.List.Sorted.{IsStrictlySortedBy}
use mathlib.Core.Logic.{inr}
use Rattle.frame_core.specs.Numbers.{Recall}
use Rattle.gap_core.specs.Misses.{IsMissedFrom}
use Rattle.gap_core.specs.Untold.{shipped_pair, untold_cmp}
use Rattle.gap_core.specs.declared.untold.Reached.{Reached}
use Rattle.gap_core.specs.declared.untold.UntoldShipment.{UntoldShipment}
use Rattle.recall_outcomes.specs.declared.outcomes.CommandRefusal.TheVariants.{UnknownRecall}
use Rattle.recall_outcomes.specs.declared.outcomes.MissedPair.{MissedPair}
use Rattle.recall_outcomes.specs.declared.outcomes.MissedReach.{MissedReach}
use Rattle.recall_outcomes.specs.declared.outcomes.Outcome.{Outcome}
use Rattle.recall_outcomes.specs.declared.outcomes.Outcome.TheVariants.{Missed, Refused}
use Rattle.scholten_core.specs.declared.own_recalls.Own.{Own}
use Rattle.site_core.specs.Quarantines.{IsLeastHolder}
use Rattle.site_core.specs.Records.{Record}
use Rattle.site_folders.specs.Refusals.{IsRefusal}
use Rattle.site_recovery.specs.Laws.{captured_of}
use Rattle.site_recovery.specs.Looks.{Held, World, own, world_of}
use Rattle.trace_core.specs.Chains.{Related}
use Rattle.trace_core.specs.Gaps.{IsSent, WideRelated, by_known, by_own}
use Rattle.trace_core.specs.Pairs.{IsStrictlyAscending, pair_cmp}
use Rattle.trace_core.specs.Relations.{Reaches}
use Rattle.trace_core.specs.Searches.{IsFound}
use Rattle.trace_core.specs.Sites.{SiteEvents}
use Rattle.trace_core.specs.declared.pairs.Pair.{Pair}

-- the least recall under which the pair is quarantined, if any
abbrev pub IsHolder : World → Pair → Option Recall → Type 0
IsHolder W p found = IsLeastHolder (W p.site).quarantine p.item found

-- the pairs in their order, each with such a recall
abbrev pub AreHolders : World → List Pair → List MissedPair → Type 0
AreHolders W [] found = found ≡ []
AreHolders W (p ∷ pairs) found =
    (h : Option Recall) × (rest : List MissedPair) × (found ≡ record { pair = p; held = h } ∷ rest) × IsHolder W p h × AreHolders W pairs rest

-- one more
abbrev pub AddsHolder : World → Pair → List MissedPair → List MissedPair → Type 0
AddsHolder W p old new = (h : Option Recall) × (new ≡ old ++ record { pair = p; held = h } ∷ []) × IsHolder W p h

-- the report of a recall tells the pair: of the root's, once it has ended, or of one that holds it
abbrev pub IsTold : List Record → Pair → Pair → Type 0
IsTold records root p = Reaches (Related (captured_of records)) root p ⊎ ((r : Recall) × Held (world_of records) p.site r p.item)

-- An item that the root reaches by all that is known of packings was so sent to a place outside from its site, and no such report tells that: the pair
-- isn't told, or the site's own packings don't send the item there.
pub record IsUntoldFrom (records : List Record) (root : Pair) (x : UntoldShipment) : Type 0 where
  pub site : SiteEvents
  pub there : Contains (captured_of records) site
  pub number : site.me ≡ x.site
  pub reached : Reaches (WideRelated (captured_of records)) root (shipped_pair x)
  pub sent : IsSent (by_known (captured_of records)) site x.item (inr x.destination)
  pub untold : IsTold records root (shipped_pair x) → IsSent by_own site x.item (inr x.destination) → ⊥

-- What a recall of the root misses: all such pairs, in order, each with a recall that holds it; and all such shipments, in order.
pub record AreMissedBy (records : List Record) (root : Pair) (missed : MissedReach) : Type 0 where
  pub pairs : List Pair
  pub ascending : IsStrictlyAscending pairs
  pub exact : (p : Pair) → Contains pairs p ↔ IsMissedFrom (captured_of records) root p
  pub held : AreHolders (world_of records) pairs missed.pairs.items
  pub sorted : IsStrictlySortedBy untold_cmp missed.outside.items
  pub outside : (x : UntoldShipment) → Contains missed.outside.items x ↔ IsUntoldFrom records root x

-- a pair is told, if a recall holds it
abbrev pub TellsOne : MissedPair → Reached → Reached → Type 0
TellsOne m old new = (new.wide ≡ old.wide) × ((p : Pair) → IsFound pair_cmp new.told p ↔ (IsFound pair_cmp old.told p ⊎ (IsSome m.held × (m.pair ≡ p))))

-- those of a list
abbrev pub TellsAll : List MissedPair → Reached → Reached → Type 0
TellsAll missed old new =
    (new.wide ≡ old.wide)
    × ((p : Pair) → IsFound pair_cmp new.told p ↔ (IsFound pair_cmp old.told p ⊎ ((m : MissedPair) × Contains missed m × IsSome m.held × (m.pair ≡ p))))

-- so of a recall that its site began, with the status that was asked for; or no site began it
abbrev pub AnswersMissed : List Record → Recall → Bool → Outcome → Type 0
AnswersMissed records r coded (Missed told missed told_coded) =
    (told ≡ r) × (told_coded ≡ coded)
    × (begun : Own) × (own (world_of records) r.site r.number ≡ Some begun) × AreMissedBy records (record { site = r.site; item = begun.root }) missed
AnswersMissed records r coded (Refused whys) = (own (world_of records) r.site r.number ≡ None) × IsRefusal UnknownRecall (Refused whys)
AnswersMissed records r coded other = ⊥
