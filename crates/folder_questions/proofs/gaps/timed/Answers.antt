use Rattle.std.proofs.Common.{List, ap, arith, subst, sym, length}
use Rattle.std.specs.List.{AllZip}
use Rattle.trace_core.specs.Chains.{sites_at}
use Rattle.gap_core.specs.LineEvents.{AreEventsOf}
use Rattle.gap_core.specs.declared.line_events.GapEvents.{GapEvents}
use Rattle.folder_questions.proofs.GapLemmas.{one_more_timed, zip_length}
use Rattle.folder_questions.proofs.gaps.timed.Goals as goal

pub bounds-told-place : goal.bounds-told-place
bounds-told-place c =
    let all = zip_length (AreEventsOf (sites_at c.args.sites.now)) c.args.lines.now c.in_ok-events.events.items c.in_ok-events.ensures in
    let here = ap length c.as_slice-told.ensures.value in
    omega (arith, c.loop-place-test.true, all, here)

pub loop-place-preserved : goal.loop-place-preserved
loop-place-preserved c =
    let sites = sites_at c.args.sites.now in
    let zip = subst (λ (es : List GapEvents). AllZip (AreEventsOf sites) c.args.lines.now es) (sym c.as_slice-told.ensures.value) c.in_ok-events.ensures in
    one_more_timed sites c.args.lines.now c.as_slice-told.result.now c.loop-place.place c.index-lines-place.result _ c.loop-place.packed.items c.push_timed.new.packed.items
    zip c.loop-place-test.true c.index-lines-place.is c.loop-place.invariant c.in_ok-push_timed.ensures
