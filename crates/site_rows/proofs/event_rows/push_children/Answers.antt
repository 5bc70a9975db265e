use Rattle.std.proofs.Common.{All, subst}
use Rattle.std.proofs.lemmas.List.{take_all}
use Rattle.site_rows.specs.RecordRows.{packed_row}
use Rattle.site_rows.specs.Texts.{IsItemText}
use Rattle.site_rows.proofs.AtTheEnd.{stands_at}
use Rattle.site_rows.proofs.FromPlaces.{one_more_taken}
use Rattle.site_rows.proofs.InTurn.{row_there}
use Rattle.site_rows.proofs.event_rows.push_children.Goals as goal

pub loop-place-preserved : goal.loop-place-preserved
loop-place-preserved c =
    let all = c.args.children.now in
    let place = c.loop-place.place in
    let here = c.index-children-place in
    let at = stands_at all place here.result c.loop-place-test.true here.is in
    record {
      rows = rw (c.in_ok-push.ensures.items, c.in_ok-packed_row.ensures, c.in_ok-key.ensures.value) (row_there (packed_row c.args.event) place all place here.result c.loop-place.rows.items _ at c.loop-place.invariant.rows);
      items = one_more_taken IsItemText all place here.result c.loop-place-test.true here.is c.in_ok-key.ensures.item c.loop-place.invariant.items;
    }

pub returns-clause-items : goal.returns-clause-items
returns-clause-items c = subst (All IsItemText) (take_all c.loop-place.place c.args.children.now c.loop-place-test.false) c.loop-place.invariant.items
