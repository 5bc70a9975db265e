use Rattle.site_recovery.specs.Checking.{records_at}
use Rattle.report_core.proofs.StepsRelated.{chains_back}
use Rattle.report_core.proofs.with_events.trace_back_with_events.Goals as goal

pub events_along-requires-clause-related : goal.events_along-requires-clause-related
events_along-requires-clause-related c = chains_back (records_at c.args.sites.now) c.requires.all c.in-Ok.trace.root c.in-Ok.trace.pairs c.in-Ok.trace.trails c.in-Ok.ensures.ok.trails
