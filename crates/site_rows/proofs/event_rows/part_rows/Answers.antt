use Rattle.std.proofs.Common.{◌+◌, ◌<◌, sym, subst, drop, arith}
use Rattle.std.specs.List.{enumerate_from, flat_map}
use Rattle.event_json.specs.Events.{Content}
use Rattle.site_core.proofs.Places.{nothing_there}
use Rattle.site_rows.specs.EventTexts.{HasParts}
use Rattle.site_rows.specs.RecordRows.{parts_of}
use Rattle.site_rows.proofs.FromPlaces.{passes_more, each_passes}
use Rattle.site_rows.proofs.InTurn.{rows_there}
use Rattle.site_rows.proofs.event_rows.part_rows.Goals as goal
use Rattle.site_rows.proofs.event_rows.part_rows.Goals.{in-Some+in_ok-push_body, in_default}

pub loop-place-preserved : goal.loop-place-preserved
loop-place-preserved c =
    let from = c.args.from in
    let place = c.loop-place.place in
    let events = c.args.captured.now.events in
    let sites = c.args.sites.now in
    elim c.match-event.branch [
      | in-Some+in_ok-push_body w ↦
          let there = sym w.in-Some.ensures in
          let made = rows_there (parts_of sites) (place + 1) events place w.in-Some.event.now c.loop-place.rows.items (flat_map (parts_of sites) (enumerate_from (from + 1) (drop from events))) there c.loop-place.invariant.rows in
          record {
            rows = rw w.rows-is (rw w.in_ok-push_body.ensures.rows (rw w.body.ensures.value made));
            parts = passes_more (λ (e : Content). HasParts e.body) from events place w.in-Some.event.now there (subst HasParts w.body.ensures.value w.in_ok-push_body.ensures.parts) c.loop-place.invariant.parts;
          }
      | in_default w ↦ absurd (nothing_there events place (sym w.in_default.ensures) (subst (λ n. place < n) c.len-place-end.ensures c.loop-place-test.true))
    ]

pub returns-clause-parts : goal.returns-clause-parts
returns-clause-parts c = each_passes (λ (e : Content). HasParts e.body) c.args.from c.args.captured.now.events c.loop-place.place (omega (arith, c.len-place-end.ensures, c.loop-place-test.false)) c.loop-place.invariant.parts
