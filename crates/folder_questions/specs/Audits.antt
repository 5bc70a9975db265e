-- What an audit of all sites comes to.
use Rattle.std.specs.Prelude.{◌≡◌, ◌≢◌, ◌⊎◌, Bool, true, false, List, [], length, flat_map, Option, Some, None}
use Rattle.std.specs.List.{AllZip}
use Rattle.frame_core.specs.Numbers.{Recall}
use Rattle.query_core.specs.Stuck.{stuck_from}
use Rattle.query_core.specs.declared.stuck.StuckRecall.{StuckRecall}
use Rattle.recall_outcomes.specs.declared.notes.Notes.{Notes}
use Rattle.recall_outcomes.specs.declared.notes.Notes.TheVariants.{Nothing, Audit}
use Rattle.recall_outcomes.specs.declared.outcomes.AuditedRecall.{AuditedRecall}
use Rattle.recall_outcomes.specs.declared.outcomes.Outcome.{Outcome}
use Rattle.recall_outcomes.specs.declared.outcomes.Outcome.TheVariants.{Audited, Inconsistent}
use Rattle.recall_outcomes.specs.declared.outcomes.StartedRecall.{StartedRecall}
use Rattle.report_core.specs.Verdicts.{IsVerdict}
use Rattle.report_core.specs.declared.audits.Verdict.{Verdict}
use Rattle.site_core.specs.Records.{Record}
use Rattle.site_recovery.specs.Fit.{Fits}
use Rattle.site_recovery.specs.Looks.{world_of}
use Rattle.site_recovery.specs.Misfits.{IsMisfit}
use Rattle.site_folders.specs.Begun.{begun, roots}
use Rattle.site_folders.specs.Missing.{AreMissedFrom}

-- a recall that hasn't ended has no verdict; of one that has ended, what is quarantined is compared with what its root reaches
abbrev pub HasVerdict : List Record → Recall → Bool → Option Verdict → Type 0
HasVerdict records r false verdict = verdict ≡ None
HasVerdict records r true (Some verdict) = IsVerdict records r verdict
HasVerdict records r true None = ⊥

-- the recall was audited
abbrev pub AuditsRecall : List Record → StartedRecall → AuditedRecall → Type 0
AuditsRecall records begun audited = (audited.recall ≡ begun.recall) × HasVerdict records begun.recall begun.ended audited.verdict

-- these sites are noted as stuck in recalls, and what the roots of all recalls reach and miss; where there is neither, nothing
abbrev pub NotesAudit : List Record → List StuckRecall → Notes → Type 0
NotesAudit records stuck Nothing = (stuck ≡ []) × AreMissedFrom records (roots true records) []
NotesAudit records stuck (Audit found) =
    (found.stuck.items ≡ stuck) × AreMissedFrom records (roots true records) found.missed.items × ((found.stuck.items ≢ []) ⊎ (found.missed.items ≢ []))
NotesAudit records stuck other = ⊥

-- each recall that a site began was audited, one for one and in order, with the status that was asked for
abbrev pub AuditsAll : List Record → Bool → List AuditedRecall → Bool → Type 0
AuditsAll records coded audited told = (told ≡ coded) × AllZip (AuditsRecall records) (begun records) audited

-- The records are consistent, and each recall that a site began was audited, one for one and in order, with a note of what is
-- stuck and of what is missed, and with the status that was asked for; or the records aren't consistent, and that is the outcome.
-- Of copies that were taken one after another it isn't asked whether they are consistent, nor what is stuck.
abbrev pub AnswersAudit : List Record → Bool → Bool → Outcome → Notes → Type 0
AnswersAudit records false coded (Audited recalls false told) notes =
    Fits (world_of records) [] × AuditsAll records coded recalls.items told × NotesAudit records (flat_map stuck_from records) notes
AnswersAudit records false coded (Inconsistent misfit) notes = IsMisfit (length records) (world_of records) misfit.condition misfit.site × (notes ≡ Nothing)
AnswersAudit records true coded (Audited recalls true told) notes = AuditsAll records coded recalls.items told × NotesAudit records [] notes
AnswersAudit records ended coded other notes = ⊥
