use Rattle.std.proofs.Common.{inr, arith, ⊎_elim}
use Rattle.std.specs.Ordering.{nat_cmp}
use Rattle.std.proofs.lemmas.List.{get_or_default}
use Rattle.trace_core.specs.Searches.{IsFound}
use Rattle.report_core.specs.FirstPlaces.{IsGroupAt}
use Rattle.report_core.proofs.Additions.{one_more, all_added}
use Rattle.report_core.proofs.FirstParts.{nothing_found}
use Rattle.report_core.proofs.first_places.firsts_of.Goals as goal

pub loop-place-preserved : goal.loop-place-preserved
loop-place-preserved c =
    one_more (IsGroupAt c.args.site.now.events c.args.number) c.args.places.now c.loop-place.place-index (IsFound nat_cmp c.new-firsts.result) (IsFound nat_cmp c.loop-place.firsts) (IsFound nat_cmp c.note_first.new.firsts)
    _ c.loop-place-test.true (get_or_default c.args.places.now c.loop-place.place-index _ _ (omega (arith, c.loop-place-test.true))) c.loop-place.invariant c.in_ok-note_first.ensures

pub returns : goal.returns
returns c n =
    let adds = all_added (IsGroupAt c.args.site.now.events c.args.number) c.args.places.now c.loop-place.place-index (IsFound nat_cmp c.new-firsts.result) (IsFound nat_cmp c.loop-place.firsts) c.loop-place-test.false c.loop-place.invariant n in
    (λ h. ⊎_elim (λ was. absurd (nothing_found c.new-firsts.result c.new-firsts.ensures.empty n was)) (λ part. part) (adds.0 h), λ part. adds.1 (inr part))
