use Rattle.std.proofs.Common.{◌+◌, ◌<◌, sym, subst, map, drop, arith}
use Rattle.std.specs.List.{enumerate_from}
use Rattle.site_core.proofs.Places.{nothing_there}
use Rattle.site_rows.specs.EventTexts.{HasPlainIds}
use Rattle.site_rows.specs.RecordRows.{event_row}
use Rattle.site_rows.proofs.FromPlaces.{passes_more, each_passes}
use Rattle.site_rows.proofs.InTurn.{row_there}
use Rattle.site_rows.proofs.event_rows.event_rows.Goals as goal
use Rattle.site_rows.proofs.event_rows.event_rows.Goals.{in-Some+in_ok-event_row+in_ok-push, in_default}

pub loop-place-preserved : goal.loop-place-preserved
loop-place-preserved c =
    let from = c.args.from in
    let place = c.loop-place.place in
    let events = c.args.captured.now.events in
    elim c.match-event.branch [
      | in-Some+in_ok-event_row+in_ok-push w ↦
          let there = sym w.in-Some.ensures in
          let made = row_there event_row (place + 1) events place w.in-Some.event.now c.loop-place.rows.items (map event_row (enumerate_from (from + 1) (drop from events))) there c.loop-place.invariant.rows in
          record {
            rows = rw w.rows-is (rw w.in_ok-push.ensures.items (rw w.in_ok-event_row.ensures.row made));
            ids = passes_more HasPlainIds from events place w.in-Some.event.now there w.in_ok-event_row.ensures.ids c.loop-place.invariant.ids;
          }
      | in_default w ↦ absurd (nothing_there events place (sym w.in_default.ensures) (subst (λ n. place < n) c.len-place-end.ensures c.loop-place-test.true))
    ]

pub returns-clause-ids : goal.returns-clause-ids
returns-clause-ids c = each_passes HasPlainIds c.args.from c.args.captured.now.events c.loop-place.place (omega (arith, c.len-place-end.ensures, c.loop-place-test.false)) c.loop-place.invariant.ids
