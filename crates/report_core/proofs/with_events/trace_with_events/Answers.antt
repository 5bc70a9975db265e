use Rattle.std.proofs.Common.{All, sym, subst}
use Rattle.site_recovery.specs.Checking.{records_at}
use Rattle.site_recovery.specs.Laws.{captured_of}
use Rattle.report_core.specs.Leaving.{IsShippedOut}
use Rattle.report_core.specs.Traces.{IsReachedFrom}
use Rattle.report_core.proofs.Leavings.{all_shipped_out}
use Rattle.report_core.proofs.StepsRelated.{chains_forward}
use Rattle.report_core.proofs.with_events.trace_with_events.Goals as goal

pub events_along-requires-clause-related : goal.events_along-requires-clause-related
events_along-requires-clause-related c = chains_forward (records_at c.args.sites.now) c.requires.all c.in-Ok.trace.root c.in-Ok.trace.pairs c.in-Ok.trace.trails c.in-Ok.ensures.ok.trails

pub events_along-requires-clause-out : goal.events_along-requires-clause-out
events_along-requires-clause-out c =
    let records = records_at c.args.sites.now in
    subst (All (IsShippedOut (captured_of records))) (sym c.as_slice-outside.ensures)
    (all_shipped_out records (IsReachedFrom records c.in-Ok.trace.root) c.in-Ok.trace.outside c.in-Ok.ensures.ok.outside)
