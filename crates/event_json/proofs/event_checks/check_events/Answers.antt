use Rattle.std.proofs.Common.{◌+◌, option_map}
use Rattle.serde_json.specs.View.{items_view}
use Rattle.event_json.specs.Checked.{content_of}
use Rattle.event_json.specs.Documents.{numbered_event}
use Rattle.event_json.proofs.Carried.{carry_events, carry_fails, carry_more, carry_done}
use Rattle.event_json.proofs.event_checks.check_events.Goals as goal

pub loop-place-init : goal.loop-place-init
loop-place-init c = λ sites. carry_events sites (items_view c.args.list.now)

pub returns-in-Err : goal.returns-in-Err
returns-in-Err c = λ sites.
    carry_fails (numbered_event sites) (c.loop-place.place + 1) c.args.list.now c.loop-place.place
    c.index-list-place.result _ _ c.loop-place-test.true
    (rw (← c.index-list-place.is) (c.in-Err.ensures.value sites)) (c.loop-place.invariant sites)

pub loop-place-preserved : goal.loop-place-preserved
loop-place-preserved c = λ sites.
    carry_more (numbered_event sites) (c.loop-place.place + 1) c.args.list.now c.loop-place.place
    c.index-list-place.result (option_map (content_of sites) c.in-Ok.field-0) _ c.loop-place-test.true
    (rw (← c.index-list-place.is) (c.in-Ok.ensures.value sites)) (c.loop-place.invariant sites)

pub returns : goal.returns
returns c = λ sites.
    carry_done (numbered_event sites) (c.loop-place.place + 1) c.args.list.now c.loop-place.place _
    c.loop-place-test.false (c.loop-place.invariant sites)
