use Rattle.std.proofs.Common.{◌∙◌, ◌<◌, [], ap, arith, if◌then◌else◌, length, subst, take}
use Rattle.std.proofs.lemmas.List.{take_all}
use Rattle.std.proofs.lemmas.List.Elements.{All-more, All-nil, All-weaker}
use Rattle.report_core.specs.FirstPlaces.{AreWanted, AreWantedAlong}
use Rattle.report_core.specs.TrailEvents.{pairs_shown}
use Rattle.report_core.specs.declared.trail_events.ShownSteps.TheVariants.{Each}
use Rattle.report_core.proofs.StepsAlong.{trail_there}
use Rattle.report_core.proofs.StepsWanted.{still_wanted}
use Rattle.report_core.proofs.wanted_steps.wanted_along.Goals as goal

pub loop-place-init : goal.loop-place-init
loop-place-init g c = All-nil _

pub loop-place-preserved : goal.loop-place-preserved
loop-place-preserved g c =
    let all = g.T.ShownTrails.trails c.args.trails.now in
    let place = c.loop-place.place in
    let shown = if c.args.brief then g.T.ShownTrails.step c.args.trails.now else Each in
    let below : place < length all = omega (arith, c.loop-place-test.true, c.count-place-end.ensures) in
    let old = c.loop-place.wanted in
    let new = c.add_steps.new.wanted in
    let pairs = c.as_slice.ensures.value ∙ c.in_ok-pairs.ensures ∙ ap (pairs_shown shown) (trail_there all place below) in
    All-more (λ trail. AreWanted new (pairs_shown shown trail)) all place [] below
    (All-weaker (λ trail. AreWanted old (pairs_shown shown trail)) (λ trail. AreWanted new (pairs_shown shown trail)) (λ trail. still_wanted old new c.in_ok-add_steps.ensures.before (pairs_shown shown trail)) (take place all) c.loop-place.invariant)
    (subst (AreWanted new) pairs c.in_ok-add_steps.ensures.new)

pub returns : goal.returns
returns g c =
    let all = g.T.ShownTrails.trails c.args.trails.now in
    let shown = if c.args.brief then g.T.ShownTrails.step c.args.trails.now else Each in
    subst (AreWantedAlong c.loop-place.wanted shown) (take_all c.loop-place.place all (omega (arith, c.loop-place-test.false, c.count-place-end.ensures))) c.loop-place.invariant
