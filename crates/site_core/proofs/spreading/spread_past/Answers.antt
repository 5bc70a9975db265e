use Rattle.std.proofs.lemmas.Result.{IfOk-weaker}
use Rattle.trace_core.specs.Beyond.{IsSpreadBeyond}
use Rattle.site_core.specs.Shortcuts.{IsSpreadPast}
use Rattle.site_core.proofs.Closed.{stops, stops_nowhere, past_stops}
use Rattle.site_core.proofs.spreading.spread_past.Goals as goal

pub returns-in-Some-clause-past : goal.returns-in-Some-clause-past
returns-in-Some-clause-past c = IfOk-weaker c.spread_beyond.result
    (λ found. IsSpreadBeyond c.args.captured.now c.args.item.now c.items.result.now c.args.seen.now c.spread_beyond.new.seen found.items)
    (λ found. IsSpreadPast c.args.captured.now c.args.quarantine.now c.args.recall c.args.item.now c.args.seen.now c.spread_beyond.new.seen found.items)
    (λ found beyond. past_stops c.args.quarantine.now c.args.recall c.items.result.now c.args.captured.now c.args.item.now c.args.seen.now c.spread_beyond.new.seen found.items
    (stops c.args.quarantine.now c.args.recall c.items.result.now c.in-Some.items.now c.in-Some.ensures c.items.ensures.items) beyond)
    c.spread_beyond.ensures.beyond

pub returns-in-None-clause-past : goal.returns-in-None-clause-past
returns-in-None-clause-past c = IfOk-weaker c.spread_beyond-in-None.result
    (λ found. IsSpreadBeyond c.args.captured.now c.args.item.now c.new.result c.args.seen.now c.spread_beyond-in-None.new.seen found.items)
    (λ found. IsSpreadPast c.args.captured.now c.args.quarantine.now c.args.recall c.args.item.now c.args.seen.now c.spread_beyond-in-None.new.seen found.items)
    (λ found beyond. past_stops c.args.quarantine.now c.args.recall c.new.result c.args.captured.now c.args.item.now c.args.seen.now c.spread_beyond-in-None.new.seen found.items
    (stops_nowhere c.args.quarantine.now c.args.recall c.new.result c.in-None.ensures c.new.ensures.empty) beyond)
    c.spread_beyond-in-None.ensures.beyond
