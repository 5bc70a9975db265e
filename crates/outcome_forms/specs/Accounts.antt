-- The account of an outcome that is a report or a trace.
use Rattle.std.specs.Prelude.{List, [], Option, Some, None}
use Rattle.std.specs.Global.{Global}
use Rattle.std.specs.declared.vec.Vec.{Vec}
use Rattle.recall_outcomes.specs.declared.outcomes.Outcome.{Outcome}
use Rattle.recall_outcomes.specs.declared.outcomes.Outcome.TheVariants.{Reported, Traced, TracedBack}
use Rattle.recall_outcomes.specs.declared.outcomes.Ways.{Ways}
use Rattle.report_core.specs.declared.trail_events.StepEvents.{StepEvents}
use Rattle.report_forms.specs.Accounts.{Account, back_account, report_account, trace_account}

-- the events of the steps of each trail back; none where they weren't asked for
abbrev pub told_events : Option (Vec (List StepEvents) Global) → List (List StepEvents)
told_events None = []
told_events (Some events) = events.items

-- with how it tells the trails
abbrev pub account_of : Outcome → Option (Account × Ways)
account_of (Reported r report ways events) = Some (report_account r report events, ways)
account_of (Traced trace ways events) = Some (trace_account trace events, ways)
account_of (TracedBack trace ways events) = Some (back_account trace (told_events events), ways)
account_of other = None
