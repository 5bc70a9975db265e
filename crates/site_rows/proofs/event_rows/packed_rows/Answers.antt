use Rattle.std.proofs.Common.{◌+◌, ◌<◌, sym, subst, drop, arith}
use Rattle.std.specs.List.{enumerate_from, flat_map}
use Rattle.event_json.specs.Events.{Content}
use Rattle.site_core.proofs.Places.{nothing_there}
use Rattle.site_rows.specs.EventTexts.{HasChildren}
use Rattle.site_rows.specs.RecordRows.{children_of}
use Rattle.site_rows.proofs.FromPlaces.{passes_more, each_passes}
use Rattle.site_rows.proofs.InTurn.{rows_there}
use Rattle.site_rows.proofs.event_rows.packed_rows.Goals as goal
use Rattle.site_rows.proofs.event_rows.packed_rows.Goals.{in-Some+in_ok-push_packed, in_default}

pub loop-place-preserved : goal.loop-place-preserved
loop-place-preserved c =
    let from = c.args.from in
    let place = c.loop-place.place in
    let events = c.args.captured.now.events in
    elim c.match-event.branch [
      | in-Some+in_ok-push_packed w ↦
          let there = sym w.in-Some.ensures in
          let made = rows_there children_of (place + 1) events place w.in-Some.event.now c.loop-place.rows.items (flat_map children_of (enumerate_from (from + 1) (drop from events))) there c.loop-place.invariant.rows in
          record {
            rows = rw w.rows-is (rw w.in_ok-push_packed.ensures.rows (rw w.body.ensures.value made));
            children = passes_more (λ (e : Content). HasChildren e.body) from events place w.in-Some.event.now there (subst HasChildren w.body.ensures.value w.in_ok-push_packed.ensures.children) c.loop-place.invariant.children;
          }
      | in_default w ↦ absurd (nothing_there events place (sym w.in_default.ensures) (subst (λ n. place < n) c.len-place-end.ensures c.loop-place-test.true))
    ]

pub returns-clause-children : goal.returns-clause-children
returns-clause-children c = each_passes (λ (e : Content). HasChildren e.body) c.args.from c.args.captured.now.events c.loop-place.place (omega (arith, c.len-place-end.ensures, c.loop-place-test.false)) c.loop-place.invariant.children
