use Rattle.std.proofs.Common.{ap}
use Rattle.std.proofs.lemmas.Result.{on_ok_weaker}
use Rattle.trace_core.specs.Sites.{SiteEvents}
use Rattle.report_core.specs.Gathering.{ItemTells, OneTells, SiteTells}
use Rattle.report_core.specs.Sources.{PutsIn, ShipsItself}
use Rattle.report_core.proofs.Adding.{added_alike, none_added}
use Rattle.report_core.proofs.Outgoing.{items_told, nothing_told}
use Rattle.report_core.proofs.PlacesKept.{of_one_site, site_own}
use Rattle.report_core.proofs.gathering.add_of_events.Goals as goal

pub returns-then-is_empty : goal.returns-then-is_empty
returns-then-is_empty c =
    none_added c.args.found.now (SiteTells c.args.wanted.now c.args.state.now) (nothing_told c.args.wanted.now c.args.state.now (c.is_empty.ensures.empty.0 c.if-is_empty.true))

pub add_of_items-requires-clause-packings : goal.add_of_items-requires-clause-packings
add_of_items-requires-clause-packings c =
    site_own PutsIn c.captured-captured.result.now 0 c.in_ok-packings.packings (of_one_site PutsIn c.captured-captured.result.now c.in_ok-packings.packings c.in_ok-packings.ensures)

pub add_of_items-requires-clause-shipments : goal.add_of_items-requires-clause-shipments
add_of_items-requires-clause-shipments c = of_one_site ShipsItself c.captured-captured.result.now c.in_ok-shipments.shipments c.in_ok-shipments.ensures

pub returns : goal.returns
returns c =
    let s = c.captured-captured.result.now in
    on_ok_weaker c.add_of_items.result
    (added_alike c.args.found.now c.add_of_items.new.found (OneTells c.items.result.now.keys (ItemTells s.events c.me.result)) (SiteTells c.args.wanted.now c.args.state.now)
    (items_told c.args.wanted.now c.items.result.now.keys c.args.state.now s.events c.me.result c.items.ensures.items (ap (λ (t : SiteEvents). t.events) c.captured-captured.ensures) c.me.ensures.me))
    c.add_of_items.ensures
