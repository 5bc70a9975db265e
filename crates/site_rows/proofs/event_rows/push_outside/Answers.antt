use Rattle.std.proofs.Common.{All, subst}
use Rattle.std.proofs.lemmas.List.{take_all}
use Rattle.site_rows.specs.RecordRows.{part_row}
use Rattle.site_rows.specs.Texts.{IsPlainText}
use Rattle.site_rows.proofs.AtTheEnd.{stands_at}
use Rattle.site_rows.proofs.FromPlaces.{one_more_taken}
use Rattle.site_rows.proofs.InTurn.{row_there}
use Rattle.site_rows.proofs.event_rows.push_outside.Goals as goal

pub loop-place-preserved : goal.loop-place-preserved
loop-place-preserved c =
    let all = c.args.outside.now in
    let place = c.loop-place.place in
    let here = c.index-outside-place in
    let at = stands_at all place here.result c.loop-place-test.true here.is in
    record {
      rows = rw (c.in_ok-push.ensures.items, c.in_ok-part_row.ensures, c.in_ok-text.ensures.value) (row_there (part_row c.args.event 2) place all place here.result c.loop-place.rows.items _ at c.loop-place.invariant.rows);
      plain = one_more_taken IsPlainText all place here.result c.loop-place-test.true here.is c.in_ok-text.ensures.plain c.loop-place.invariant.plain;
    }

pub returns-clause-plain : goal.returns-clause-plain
returns-clause-plain c = subst (All IsPlainText) (take_all c.loop-place.place c.args.outside.now c.loop-place-test.false) c.loop-place.invariant.plain
