-- What the answers of the parts of a step are reported as.
use Rattle.event_json.specs.declared.doc_faults.ReadFault.{ReadFault}
use Rattle.event_json.specs.declared.doc_faults.ReadFault.TheVariants as reads
use Rattle.frame_core.specs.declared.outboxes.NumberFault.{NumberFault}
use Rattle.frame_core.specs.declared.outboxes.NumberFault.TheVariants as numbers
use Rattle.scholten_core.specs.declared.outcomes.Signalled.{Signalled}
use Rattle.scholten_core.specs.declared.outcomes.Signalled.TheVariants as signals
use Rattle.site_core.specs.declared.capturing.CaptureFault.{CaptureFault}
use Rattle.site_core.specs.declared.capturing.CaptureFault.TheVariants as faults
use Rattle.site_core.specs.declared.outcomes.Effects.{Effects}
use Rattle.site_core.specs.declared.outcomes.Effects.TheVariants as effects
use Rattle.site_core.specs.declared.outcomes.Refusal.{Refusal}
use Rattle.site_core.specs.declared.outcomes.Refusal.TheVariants as refusals

-- what a signal did
abbrev pub told_signal : Signalled → Effects
told_signal signals.Stale = effects.Stale
told_signal signals.Cleared = effects.Cleared
told_signal (signals.ParentDue parent) = effects.ParentDue parent
told_signal (signals.Ended recall) = effects.Ended recall

-- why a document's events weren't captured
abbrev pub told_capture : CaptureFault → Refusal
told_capture faults.NoMemory = refusals.NoMemory
told_capture (faults.IdTaken event) = refusals.IdTaken event
told_capture (faults.Blocked r i event) = refusals.Blocked r i event

-- why no document was read
abbrev pub told_reading : ReadFault → Refusal
told_reading reads.NoMemory = refusals.NoMemory
told_reading (reads.Doc fault) = refusals.Doc fault

-- why nothing was numbered
abbrev pub told_numbers : NumberFault → Refusal
told_numbers numbers.NoMemory = refusals.NoMemory
told_numbers numbers.NumbersSpent = refusals.NumbersSpent
