use Rattle.std.proofs.Common.{◌≡◌, None, ◌<◌, ◌+◌, [], ◌∷◌, length, sym, ap, subst, ◌∙◌}
use Rattle.std.specs.List.{slice_get}
use Rattle.std.proofs.lemmas.List.{length-append}
use Rattle.event_json.specs.Sites.{Site, sites_fault}
use Rattle.site_core.proofs.Places.{nothing_there}
use Rattle.site_rows.proofs.AddressesInTurn.{one_more_site}
use Rattle.site_rows.proofs.FreeAddresses.{free_site}
use Rattle.site_rows.proofs.InTurn.{behind, nothing_behind}
use Rattle.site_rows.proofs.NamesOfSites.{named_more}
use Rattle.site_rows.proofs.reading_addressed.with_addresses.Goals as goal
use Rattle.site_rows.proofs.reading_addressed.with_addresses.Goals.{in-Some+in_ok-add_site, in_default}

pub loop-number-preserved : goal.loop-number-preserved
loop-number-preserved c =
    let number = c.loop-number.number in
    let names = c.args.names.now in
    elim c.match-name_at.branch [
      | in-Some+in_ok-add_site w ↦
          let site = behind (λ (s : Site). s.name) (slice_get names number) w.in-Some.name.now (sym w.in-Some.ensures) in
          let made = w.in_ok-add_site.ensures in
          let name = w.in-Some.name.now in
          let new : Site = record { name = name; addresses = made.0 } in
          let counted = c.loop-number.invariant.counted in
          rw w.sites-is (record {
            names = named_more c.loop-number.sites w.add_site.new.sites names number name made.0 site.0 site.1 site.2 made.2 c.loop-number.invariant.names;
            counted = ap length made.2 ∙ length-append c.loop-number.sites (new ∷ []) ∙ ap (λ n. n + 1) counted;
            have = one_more_site c.args.rows.now number c.loop-number.sites w.add_site.new.sites name made.0 counted made.2 made.1 c.loop-number.invariant.have;
          })
      | in_default w ↦ absurd (nothing_there names number (nothing_behind (λ (s : Site). s.name) _ (sym w.in_default.ensures)) (subst (λ n. number < n) c.len-number-end.ensures.count c.loop-number-test.true))
    ]

pub add_site-requires-clause-free : goal.add_site-requires-clause-free
add_site-requires-clause-free c = λ texts told.
    let number = c.loop-number.number in
    let names = c.args.names.now in
    let sites = c.loop-number.sites in
    let so_far = c.loop-number.invariant in
    let site = behind (λ (s : Site). s.name) (slice_get names number) c.in-Some.name.now (sym c.in-Some.ensures) in
    let free = free_site names sites c.args.rows.now number site.0 texts c.len-number-end.ensures.in_order c.requires.table site.1 so_far.counted so_far.names so_far.have told in
    subst (λ name. sites_fault sites name texts ≡ None) site.2 free
