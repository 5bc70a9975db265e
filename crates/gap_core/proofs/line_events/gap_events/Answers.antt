use Rattle.std.proofs.Common.{◌+◌, List, take, sym, subst}
use Rattle.std.specs.BTreeMap.{get}
use Rattle.std.specs.List.{AllZip, Contains}
use Rattle.std.proofs.lemmas.List.{take_all}
use Rattle.trace_core.specs.Chains.{sites_at}
use Rattle.trace_core.specs.Pairs.{pair_cmp}
use Rattle.trace_core.proofs.Zips.{zip_more}
use Rattle.gap_core.specs.LineEvents.{AreEventsOf, pair_of}
use Rattle.gap_core.specs.declared.line_events.GapEvents.{GapEvents}
use Rattle.gap_core.specs.declared.event_places.Kind.TheVariants.{FirstPacking, LastShipment}
use Rattle.gap_core.specs.declared.lines.GapLine.{GapLine}
use Rattle.gap_core.proofs.LineEventSteps.{events_of_line}
use Rattle.gap_core.proofs.line_events.gap_events.Goals as goal

pub loop-line-preserved : goal.loop-line-preserved
loop-line-preserved c =
    let sites = sites_at c.args.sites.now in
    let line = c.line-item.result in
    let there : Contains c.args.lines.now line = (c.loop-line.line-index, c.loop-line-test.true, sym c.line-item.is) in
    let events : GapEvents = record { packed = get pair_cmp c.in_ok-packed.packed (pair_of FirstPacking line); shipped = get pair_cmp c.in_ok-shipped.shipped (pair_of LastShipment line) } in
    subst (λ (xs : List GapEvents). AllZip (AreEventsOf sites) (take (c.loop-line.line-index + 1) c.args.lines.now) xs) (sym c.in_ok-push_events.ensures)
    (zip_more (AreEventsOf sites) c.args.lines.now c.loop-line.events.items c.loop-line.line-index line events c.loop-line-test.true c.line-item.is c.loop-line.invariant
    (events_of_line sites c.in_ok-packed.packed c.in_ok-shipped.shipped line (c.in_ok-packed.ensures line there) (c.in_ok-shipped.ensures line there)))

pub returns : goal.returns
returns c = subst (λ (ls : List GapLine). AllZip (AreEventsOf (sites_at c.args.sites.now)) ls c.loop-line.events.items) (take_all c.loop-line.line-index c.args.lines.now c.loop-line-test.false) c.loop-line.invariant
