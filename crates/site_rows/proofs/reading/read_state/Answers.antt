use Rattle.std.proofs.Common.{length, subst, sym, ◌∙◌}
use Rattle.site_rows.specs.BadRows.{IsFirstBad, IsStoreTable}
use Rattle.site_rows.specs.declared.tables.Table.TheVariants.{Store}
use Rattle.site_rows.proofs.GoodTables.{before_quarantine, before_store, good_quarantine, good_store, seven_good}
use Rattle.site_rows.proofs.PartTables.{all_ship_among}
use Rattle.site_rows.proofs.ReadBack.{sound_parts}
use Rattle.site_rows.proofs.ReadFaults.{as_many_sites, quarantine_fault, table_fault}
use Rattle.site_rows.proofs.reading.read_state.Goals as goal

pub returns-in-Err-clause-bad : goal.returns-in-Err-clause-bad
returns-in-Err-clause-bad c =
    let rows = c.args.rows.now in
    table_fault rows Store (IsStoreTable rows.version c.as_slice.result.now) c.as_slice-2.result.now rows.store c.in-Err.fault c.in_table.result c.as_slice-2.ensures
    (λ place bad. subst (λ sites. IsFirstBad (IsStoreTable rows.version sites) rows.store place) c.as_slice.ensures bad) (before_store rows) c.in-Err.ensures.bad c.in_table.ensures

pub sites_of-requires : goal.sites_of-requires
sites_of-requires c = record { good = (good_store c.args.rows.now c.as_slice.result.now c.as_slice-2.result.now c.in-Ok.numbers c.as_slice.ensures c.as_slice-2.ensures c.in-Ok.ensures.read, tt) }

pub events_of-requires-clause-good : goal.events_of-requires-clause-good
events_of-requires-clause-good c =
    let store = good_store c.args.rows.now c.as_slice.result.now c.as_slice-2.result.now c.in-Ok.numbers c.as_slice.ensures c.as_slice-2.ensures c.in-Ok.ensures.read in
    let sites = c.in_ok-sites.ensures.good in
    (store, (sites.0, (sites.1, tt)))

pub returns-in-Err-quarantine_of-clause-bad : goal.returns-in-Err-quarantine_of-clause-bad
returns-in-Err-quarantine_of-clause-bad c =
    let rows = c.args.rows.now in
    let size = c.len.ensures.count ∙ as_many_sites c.in_ok-sites.sites rows.site c.in_ok-sites.ensures.site in
    let store = good_store rows c.as_slice.result.now c.as_slice-2.result.now c.in-Ok.numbers c.as_slice.ensures c.as_slice-2.ensures c.in-Ok.ensures.read in
    let good = before_quarantine rows (seven_good rows store c.in_ok-sites.ensures.good c.in_ok-captured.ensures.good) in
    quarantine_fault rows c.len.result c.as_slice-3.result.now c.in-Err-quarantine_of.fault c.in_table-in-Err-quarantine_of.result size c.as_slice-3.ensures good c.in-Err-quarantine_of.ensures.bad c.in_table-in-Err-quarantine_of.ensures

pub diffusion_of-requires-clause-good : goal.diffusion_of-requires-clause-good
diffusion_of-requires-clause-good c =
    let rows = c.args.rows.now in
    let store = good_store rows c.as_slice.result.now c.as_slice-2.result.now c.in-Ok.numbers c.as_slice.ensures c.as_slice-2.ensures c.in-Ok.ensures.read in
    let sites = c.in_ok-sites.ensures.good in
    let events = c.in_ok-captured.ensures.good in
    let held = c.in-Ok-quarantine_of.ensures in
    let size = c.len.ensures.count ∙ as_many_sites c.in_ok-sites.sites rows.site c.in_ok-sites.ensures.site in
    let quarantine = good_quarantine rows c.len.result c.in-Ok-quarantine_of.quarantine size (sym c.as_slice-3.ensures ∙ held.rows) held.among held.items in
    (store, (sites.0, (sites.1, (events.0, (events.1.0, (events.1.1.0, (events.1.1.1.0, (quarantine, tt))))))))

pub diffusion_of-requires-clause-count : goal.diffusion_of-requires-clause-count
diffusion_of-requires-clause-count c = c.len-2.ensures.count ∙ as_many_sites c.in_ok-sites.sites c.args.rows.now.site c.in_ok-sites.ensures.site

pub restore-requires : goal.restore-requires
restore-requires c = record {
  sound = sound_parts c.in_ok-sites.sites c.in_ok-captured.captured c.in-Ok-quarantine_of.quarantine c.in_ok-diffusion.diffusion c.as_slice.result.now c.as_slice-2.result.now c.in-Ok.numbers c.len.result c.len-2.result
      c.len.ensures.count c.len-2.ensures.count (c.as_slice.ensures ∙ c.in_ok-sites.ensures.site) c.in-Ok.ensures.read c.in_ok-captured.ensures.me c.in_ok-diffusion.ensures.numbers (all_ship_among (length c.in_ok-sites.sites) c.in_ok-captured.captured.events c.in_ok-captured.ensures.among)
      c.in-Ok-quarantine_of.ensures.among c.in-Ok-quarantine_of.ensures.no_empty_set c.in_ok-diffusion.ensures.among;
}

pub returns-clause-items : goal.returns-clause-items
returns-clause-items c =
    rw c.restore.ensures (record { sites = c.in_ok-sites.ensures.texts; events = c.in_ok-captured.ensures.among; quarantine = c.in-Ok-quarantine_of.ensures.items; engagement = c.in_ok-diffusion.ensures.items })
