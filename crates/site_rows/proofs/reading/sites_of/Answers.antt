use Rattle.std.proofs.Common.{◌≡◌, map, sym, ◌∙◌}
use Rattle.std.specs.List.{enumerate_from}
use Rattle.site_rows.specs.BadRows.{IsSiteTable}
use Rattle.site_rows.specs.RecordRows.{site_row}
use Rattle.site_rows.specs.declared.tables.Table.TheVariants.{Site}
use Rattle.site_rows.proofs.GoodTables.{before_address, before_site, good_address, good_sites}
use Rattle.site_rows.proofs.NamesOfSites.{rows_of_names}
use Rattle.site_rows.proofs.ReadFaults.{address_fault, as_many_sites, table_fault}
use Rattle.site_rows.proofs.reading.sites_of.Goals as goal

pub returns-in-Err-clause-bad : goal.returns-in-Err-clause-bad
returns-in-Err-clause-bad c =
    let rows = c.args.rows.now in
    table_fault rows Site IsSiteTable c.as_slice.result.now rows.site c.in-Err.fault c.in_table.result c.as_slice.ensures (λ place bad. bad) (before_site rows c.requires.good) c.in-Err.ensures.bad c.in_table.ensures

pub returns-in-Ok-addressed-clause-site : goal.returns-in-Ok-addressed-clause-site
returns-in-Ok-addressed-clause-site c = sym c.as_slice.ensures ∙ c.in-Ok.ensures.read ∙ rows_of_names 0 c.in-Ok.names c.in-Ok-addressed.sites (sym c.in-Ok-addressed.ensures.names)

pub returns-in-Ok-addressed-clause-good : goal.returns-in-Ok-addressed-clause-good
returns-in-Ok-addressed-clause-good c =
    let rows = c.args.rows.now in
    let sites = c.in-Ok-addressed.sites in
    let is : rows.site ≡ map site_row (enumerate_from 0 sites) = sym c.as_slice.ensures ∙ c.in-Ok.ensures.read ∙ rows_of_names 0 c.in-Ok.names sites (sym c.in-Ok-addressed.ensures.names) in
    let are = c.in-Ok-addressed.ensures.in_order in
    (good_sites rows sites is are, good_address rows sites is (sym c.as_slice-2.ensures ∙ c.in-Ok-addressed.ensures.addresses) are c.in-Ok-addressed.ensures.texts)

pub returns-clause-bad : goal.returns-clause-bad
returns-clause-bad c =
    let rows = c.args.rows.now in
    let named : rows.site ≡ map site_row (enumerate_from 0 c.in-Ok.names) = sym c.as_slice.ensures ∙ c.in-Ok.ensures.read in
    let size = as_many_sites c.in-Ok.names rows.site named in
    let good = before_address rows c.requires.good (good_sites rows c.in-Ok.names named c.len-count.ensures.in_order) in
    address_fault rows _ c.as_slice-2.result.now c.in-Err-addressed.fault c.in_table-in-Err-addressed.result size c.as_slice-2.ensures good c.in-Err-addressed.ensures.bad c.in_table-in-Err-addressed.ensures
