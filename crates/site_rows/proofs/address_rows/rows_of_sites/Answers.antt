use Rattle.std.proofs.Common.{◌<◌, sym, subst, map}
use Rattle.std.specs.List.{enumerate_from, slice_get}
use Rattle.event_json.specs.Sites.{Site}
use Rattle.site_core.proofs.Places.{nothing_there}
use Rattle.site_rows.specs.RecordRows.{site_row}
use Rattle.site_rows.proofs.InTurn.{row_there, behind, nothing_behind}
use Rattle.site_rows.proofs.address_rows.rows_of_sites.Goals as goal
use Rattle.site_rows.proofs.address_rows.rows_of_sites.Goals.{in-Some+in_ok-site_row+in_ok-push, in_default}

pub loop-number-preserved : goal.loop-number-preserved
loop-number-preserved c =
    let number = c.loop-number.number in
    let sites = c.args.sites.now in
    elim c.match-name_at.branch [
      | in-Some+in_ok-site_row+in_ok-push w ↦
          let site = behind (λ (s : Site). s.name) (slice_get sites number) w.in-Some.name.now (sym w.in-Some.ensures) in
          let made = row_there site_row number sites number site.0 c.loop-number.rows.items (map site_row (enumerate_from 0 sites)) site.1 c.loop-number.invariant in
          rw w.rows-is (rw w.in_ok-push.ensures.items (rw (w.in_ok-site_row.ensures, ← site.2) made))
      | in_default w ↦ absurd (nothing_there sites number (nothing_behind (λ (s : Site). s.name) _ (sym w.in_default.ensures)) (subst (λ n. number < n) c.len-number-end.ensures.count c.loop-number-test.true))
    ]
