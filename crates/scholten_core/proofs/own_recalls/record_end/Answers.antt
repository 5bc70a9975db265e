use Rattle.std.proofs.Common.{◌≡◌, Some, None, ap, ◌∙◌}
use Rattle.std.specs.Ordering.{nat_cmp}
use Rattle.std.specs.Cmp.{nat_cmp_total}
use Rattle.std.specs.FinMap.{insert}
use Rattle.frame_core.specs.Tables.{as_map}
use Rattle.frame_core.proofs.Maps.{map_written, map_found}
use Rattle.scholten_core.specs.OwnRecalls.{with_end}
use Rattle.scholten_core.proofs.own_recalls.record_end.Goals as goal

pub returns-in-Some : goal.returns-in-Some
returns-in-Some c own has =
    let lent = c.in-Some.own.now in
    let same : Some lent ≡ Some own = c.in-Some.ensures.value ∙ map_found nat_cmp_total c.args.recalls.now c.args.number c.in-Some.ensures.ordered ∙ has in
    let one : lent ≡ own = cc in
    map_written nat_cmp_total c.args.recalls.now (c.get_mut.follows.lender (with_end lent)) c.args.number (with_end lent) own c.in-Some.ensures.ordered has (c.get_mut.follows.holds (with_end lent)).0
    ∙ ap (λ o. insert (as_map nat_cmp c.args.recalls.now) c.args.number (with_end o)) one

pub returns-in_default : goal.returns-in_default
returns-in_default c own has =
    let twice : None ≡ Some own = c.in_default.ensures.value ∙ map_found nat_cmp_total c.args.recalls.now c.args.number c.in_default.ensures.ordered ∙ has in cc
