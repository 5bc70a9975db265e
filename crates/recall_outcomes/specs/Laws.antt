-- What statuses tell.
use Rattle.std.specs.Prelude.{◌≡◌, ◌⊎◌, ◌↔◌, ⊤, Bool, true, false, Contains, Some, None}
use Rattle.gap_core.specs.declared.lines.GapLine.{GapLine}
use Rattle.gap_core.specs.declared.unseen.UnseenItem.{UnseenItem}
use Rattle.gap_core.specs.declared.untold.UntoldShipment.{UntoldShipment}
use Rattle.query_core.specs.declared.recalls.RecallStatus.{RecallStatus}
use Rattle.report_core.specs.declared.audits.Verdict.TheVariants.{Differs}
use Rattle.trace_core.specs.declared.pairs.Pair.{Pair}
use Rattle.recall_outcomes.specs.Batches.{totals_status, with_one}
use Rattle.recall_outcomes.specs.Statuses.{outcome_status}
use Rattle.recall_outcomes.specs.declared.batches.InputOutcome.{InputOutcome}
use Rattle.recall_outcomes.specs.declared.batches.InputOutcome.TheVariants as inputs
use Rattle.recall_outcomes.specs.declared.batches.Totals.{Totals}
use Rattle.recall_outcomes.specs.declared.outcomes.AuditedRecall.{AuditedRecall}
use Rattle.recall_outcomes.specs.declared.outcomes.CommandRefusal.{CommandRefusal}
use Rattle.recall_outcomes.specs.declared.outcomes.FoundGaps.{FoundGaps}
use Rattle.recall_outcomes.specs.declared.outcomes.MissedPair.{MissedPair}
use Rattle.recall_outcomes.specs.declared.outcomes.MissedReach.{MissedReach}
use Rattle.recall_outcomes.specs.declared.outcomes.PackedGap.{PackedGap}
use Rattle.recall_outcomes.specs.declared.outcomes.StartedRecall.{StartedRecall}
use Rattle.recall_outcomes.specs.declared.outcomes.Outcome.{Outcome}
use Rattle.recall_outcomes.specs.declared.outcomes.Outcome.TheVariants as outcomes

-- ---- what there is to tell

-- it was refused
abbrev pub IsRefused : Outcome → Type 0
IsRefused (outcomes.Refused whys) = ⊤
IsRefused other = ⊥

-- an ended recall's quarantine has an item too much, or lacks one
abbrev pub IsWrong : AuditedRecall → Type 0
IsWrong audited = (p : Pair) × (missing : Bool) × (audited.verdict ≡ Some (Differs p missing))

-- an audit found a discrepancy: in a recall, or between the records
abbrev pub IsAmiss : Outcome → Type 0
IsAmiss (outcomes.Audited recalls ended coded) = (audited : AuditedRecall) × Contains recalls.items audited × IsWrong audited
IsAmiss (outcomes.Inconsistent misfit) = ⊤
IsAmiss other = ⊥

-- the site that began the recall hasn't recorded its end
abbrev pub IsOpen : RecallStatus → Type 0
IsOpen status = status.ended ≡ false

-- a gap of one of the four kinds was found
abbrev pub HasGap : FoundGaps → Type 0
HasGap gaps =
    ((g : PackedGap) × Contains gaps.packed.items g)
    ⊎ (((l : GapLine) × Contains gaps.used.items l) ⊎ (((u : UnseenItem) × Contains gaps.unseen.items u) ⊎ ((p : Pair) × Contains gaps.lots.items p)))

-- a recall misses a pair that no recall holds, or something that left the traced sites
abbrev pub HasMissed : MissedReach → Type 0
HasMissed missed =
    ((m : MissedPair) × Contains missed.pairs.items m × (m.held ≡ None)) ⊎ ((x : UntoldShipment) × Contains missed.outside.items x)

-- it was asked for a status that tells of open recalls, of gaps, or of what a recall misses and none holds, and there is one; or that sites don't run where open
-- recalls miss items
abbrev pub TellsOpen : Outcome → Type 0
TellsOpen (outcomes.Standing recalls coded) = (coded ≡ true) × (status : RecallStatus) × Contains recalls.items status × IsOpen status
TellsOpen (outcomes.Waiting detail coded) = (coded ≡ true) × IsOpen detail.status
TellsOpen (outcomes.Gaps gaps coded) = (coded ≡ true) × HasGap gaps
TellsOpen (outcomes.Missed r missed coded) = (coded ≡ true) × HasMissed missed
TellsOpen (outcomes.Ran recalls coded) = (coded ≡ true) × (recall : StartedRecall) × Contains recalls.items recall × (recall.ended ≡ false)
TellsOpen (outcomes.Audited recalls ended coded) =
    ((audited : AuditedRecall) → Contains recalls.items audited → IsWrong audited → ⊥)
    × (coded ≡ true) × (audited : AuditedRecall) × Contains recalls.items audited × (audited.verdict ≡ None)
TellsOpen outcomes.Withheld = ⊤
TellsOpen other = ⊥

-- ---- the laws

-- Each status tells just that: 1 what was refused, 4 a discrepancy, 5 an open recall, a gap, something that a recall misses and none holds, or a run withheld,
-- where that was asked for. There are no others but 0, which is left for all that went well.
pub record StatusesTell (o : Outcome) : Type 0 where
  pub refused : (outcome_status o ≡ 1) ↔ IsRefused o
  pub amiss : (outcome_status o ≡ 4) ↔ IsAmiss o
  pub still_open : (outcome_status o ≡ 5) ↔ TellsOpen o
  pub no_others : (outcome_status o ≡ 0) ⊎ ((outcome_status o ≡ 1) ⊎ ((outcome_status o ≡ 4) ⊎ (outcome_status o ≡ 5)))

abbrev pub StatusesTellOutcomes : Type 0
StatusesTellOutcomes = (o : Outcome) → StatusesTell o

-- A refused input makes the status 1, and any other leaves it as it is.
abbrev pub RefusedInputsAreCounted : Type 0
RefusedInputsAreCounted =
    (totals : Totals) → ((why : CommandRefusal) → totals_status (with_one totals (inputs.Refused why)) ≡ 1)
    × ((came : InputOutcome) → ((why : CommandRefusal) → came ≡ inputs.Refused why → ⊥) → totals_status (with_one totals came) ≡ totals_status totals)
