-- The status of a program that ends with what a command came to.
use Rattle.std.specs.Prelude.{ℕ, Bool, List, true, false, not, ◌&&◌, ◌||◌, ◌==◌, length, Option, Some, None, is_none, if◌then◌else◌}
use Rattle.std.specs.List.{list_any}
use Rattle.query_core.specs.declared.recalls.RecallStatus.{RecallStatus}
use Rattle.report_core.specs.declared.audits.Verdict.{Verdict}
use Rattle.report_core.specs.declared.audits.Verdict.TheVariants.{Equal, Differs}
use Rattle.recall_outcomes.specs.declared.outcomes.AuditedRecall.{AuditedRecall}
use Rattle.recall_outcomes.specs.declared.outcomes.FoundGaps.{FoundGaps}
use Rattle.recall_outcomes.specs.declared.outcomes.MissedPair.{MissedPair}
use Rattle.recall_outcomes.specs.declared.outcomes.MissedReach.{MissedReach}
use Rattle.recall_outcomes.specs.declared.outcomes.StartedRecall.{StartedRecall}
use Rattle.recall_outcomes.specs.declared.outcomes.Outcome.{Outcome}
use Rattle.recall_outcomes.specs.declared.outcomes.Outcome.TheVariants as outcomes

abbrev pub differs : Option Verdict → Bool
differs None = false
differs (Some (Equal count)) = false
differs (Some (Differs p missing)) = true

-- a recall's quarantine differs from what its root reaches
abbrev pub is_amiss : AuditedRecall → Bool
is_amiss audited = differs audited.verdict

-- a recall was open when it was audited
abbrev pub is_unjudged : AuditedRecall → Bool
is_unjudged audited = is_none audited.verdict

-- the site that began the recall hasn't recorded its end
abbrev pub is_unended : StartedRecall → Bool
is_unended recall = not recall.ended

abbrev pub is_open : RecallStatus → Bool
is_open status = not status.ended

-- there are gaps
abbrev pub has_gaps : FoundGaps → Bool
has_gaps gaps = not (((length gaps.packed.items == 0 && length gaps.used.items == 0) && length gaps.unseen.items == 0) && length gaps.lots.items == 0)

-- a pair is quarantined under no recall
abbrev pub is_unheld : MissedPair → Bool
is_unheld missed = is_none missed.held

-- something that a recall misses is held by no recall, or left the traced sites
abbrev pub has_missed : MissedReach → Bool
has_missed missed = list_any is_unheld missed.pairs.items || not (length missed.outside.items == 0)

-- 4 a discrepancy; and where it is asked for, 5 while a recall is open
abbrev pub audit_status : List AuditedRecall → Bool → ℕ
audit_status recalls coded = if list_any is_amiss recalls then 4 else (if coded && list_any is_unjudged recalls then 5 else 0)

-- 0 done, 1 refused, 4 a discrepancy; and where it is asked for, 5 while a recall is open, where there are gaps, where a recall misses something that none
-- holds, or where a run was withheld
abbrev pub outcome_status : Outcome → ℕ
outcome_status outcomes.Created = 0
outcome_status (outcomes.Stepped effects) = 0
outcome_status (outcomes.Ran recalls coded) = if coded && list_any is_unended recalls.items then 5 else 0
outcome_status outcomes.Withheld = 5
outcome_status (outcomes.Reported r report ways events) = 0
outcome_status (outcomes.Traced trace ways events) = 0
outcome_status (outcomes.TracedBack trace ways events) = 0
outcome_status (outcomes.Standing recalls coded) = if coded && list_any is_open recalls.items then 5 else 0
outcome_status (outcomes.Waiting detail coded) = if coded && is_open detail.status then 5 else 0
outcome_status (outcomes.Known site items) = 0
outcome_status (outcomes.WouldStart quarantined messages) = 0
outcome_status (outcomes.Audited recalls ended coded) = audit_status recalls.items coded
outcome_status (outcomes.Inconsistent misfit) = 4
outcome_status (outcomes.Covered sites) = 0
outcome_status (outcomes.Gaps gaps coded) = if coded && has_gaps gaps then 5 else 0
outcome_status (outcomes.Missed r missed coded) = if coded && has_missed missed then 5 else 0
outcome_status (outcomes.Refused whys) = 1
