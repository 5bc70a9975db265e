use Rattle.site_rows.specs.BadEvents.{IsEvent}
use Rattle.site_rows.proofs.AddressRowsInTurn.{each_up_to, each_of_all}
use Rattle.site_rows.proofs.AtTheEnd.{stands_at}
use Rattle.site_rows.proofs.reading_events.check_events.Goals as goal

pub loop-place-preserved : goal.loop-place-preserved
loop-place-preserved c =
    let at = stands_at c.args.rows.now c.loop-place.place c.index-rows-place.result c.loop-place-test.true c.index-rows-place.is in
    each_up_to (IsEvent c.args.kinds) c.args.rows.now c.loop-place.place c.index-rows-place.result at (c.is_event.ensures.0 c.if-not-is_event.false) c.loop-place.invariant

pub returns-clause-good : goal.returns-clause-good
returns-clause-good c = each_of_all (IsEvent c.args.kinds) c.args.rows.now c.loop-place.place c.loop-place-test.false c.loop-place.invariant
