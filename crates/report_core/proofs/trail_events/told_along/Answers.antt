use Rattle.std.proofs.Common.{◌+◌, ◌∙◌, ◌<◌, List, [], ap, arith, get_or, if◌then◌else◌, length, subst, sym, take}
use Rattle.std.specs.List.{AllZip}
use Rattle.std.proofs.lemmas.List.{get_or_default, take_all}
use Rattle.trace_core.specs.Relations.{IsChain}
use Rattle.trace_core.specs.declared.pairs.Pair.{Pair}
use Rattle.trace_core.proofs.Zips.{zip_more}
use Rattle.report_core.specs.FirstPlaces.{AreWanted}
use Rattle.report_core.specs.TrailEvents.{AreToldAlong, IsRelatedStep, TellsStep, pairs_shown, steps_of}
use Rattle.report_core.specs.declared.trail_events.ShownSteps.TheVariants.{Each}
use Rattle.report_core.specs.declared.trail_events.StepEvents.{StepEvents}
use Rattle.report_core.proofs.StepsAlong.{chain_shown, trail_there}
use Rattle.report_core.proofs.trail_events.told_along.Goals as goal

pub told_of-requires-clause-related : goal.told_of-requires-clause-related
told_of-requires-clause-related g c =
    let related = IsRelatedStep c.args.relating.now.sites in
    let all = g.T.ShownTrails.trails c.args.trails.now in
    let place = c.loop-place.place in
    let shown = if c.args.brief then g.T.ShownTrails.step c.args.trails.now else Each in
    let below : place < length all = omega (arith, c.loop-place-test.true, c.count-place-end.ensures) in
    let pairs = c.as_slice.ensures.value ∙ c.in_ok-pairs.ensures ∙ ap (pairs_shown shown) (trail_there all place below) in
    subst (IsChain related) (sym pairs) (chain_shown related shown (get_or all place []) (c.requires.related place [] below))

pub told_of-requires-clause-wanted : goal.told_of-requires-clause-wanted
told_of-requires-clause-wanted g c =
    let all = g.T.ShownTrails.trails c.args.trails.now in
    let place = c.loop-place.place in
    let shown = if c.args.brief then g.T.ShownTrails.step c.args.trails.now else Each in
    let below : place < length all = omega (arith, c.loop-place-test.true, c.count-place-end.ensures) in
    let pairs = c.as_slice.ensures.value ∙ c.in_ok-pairs.ensures ∙ ap (pairs_shown shown) (trail_there all place below) in
    subst (AreWanted c.args.relating.now.wanted) (sym pairs) (c.requires.wanted place [] below)

pub loop-place-preserved : goal.loop-place-preserved
loop-place-preserved g c =
    let tells = λ (steps : List (Pair × Pair)) (events : List StepEvents). AllZip (λ step. TellsStep c.args.relating.now.sites step.0 step.1) steps events in
    let all = g.T.ShownTrails.trails c.args.trails.now in
    let place = c.loop-place.place in
    let shown = if c.args.brief then g.T.ShownTrails.step c.args.trails.now else Each in
    let told = λ (trail : List Pair) (events : List StepEvents). tells (steps_of (pairs_shown shown trail)) events in
    let below : place < length all = omega (arith, c.loop-place-test.true, c.count-place-end.ensures) in
    let trail = get_or all place [] in
    let pairs = c.as_slice.ensures.value ∙ c.in_ok-pairs.ensures ∙ ap (pairs_shown shown) (trail_there all place below) in
    subst (AllZip told (take (place + 1) all)) (sym {A = List (List StepEvents)} c.in_ok-push.ensures.items)
    (zip_more told all c.loop-place.told.items place trail c.in_ok-told_of.field-0 below (get_or_default all place [] trail below) c.loop-place.invariant
    (subst (λ (ps : List Pair). tells (steps_of ps) c.in_ok-told_of.field-0) pairs c.in_ok-told_of.ensures))

pub returns : goal.returns
returns g c =
    let all = g.T.ShownTrails.trails c.args.trails.now in
    let shown = if c.args.brief then g.T.ShownTrails.step c.args.trails.now else Each in
    subst (λ (trails : List (List Pair)). AreToldAlong c.args.relating.now.sites shown trails c.loop-place.told.items)
    (take_all c.loop-place.place all (omega (arith, c.loop-place-test.false, c.count-place-end.ensures))) c.loop-place.invariant
