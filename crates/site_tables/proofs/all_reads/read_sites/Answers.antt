use Rattle.std.proofs.Common.{[], ◌∷◌, rules, refl}
use Rattle.sqlite.specs.Held.{state}
use Rattle.site_rows.specs.declared.tables.Table.TheVariants.{Store, Site, Address}
use Rattle.site_tables.proofs.BadReads.{clean_before, read_before, read_next, fails_next}
use Rattle.site_tables.proofs.InSchemas.{has_sites}
use Rattle.site_tables.proofs.all_reads.read_sites.Goals as goal

pub read_table-requires : goal.read_table-requires
read_table-requires c c' = record { has = (has_sites c'.args.version).0 }

pub read_table-requires-2 : goal.read_table-requires-2
read_table-requires-2 c c' = record { has = (has_sites c'.args.version).1.0 }

pub read_table-requires-3 : goal.read_table-requires-3
read_table-requires-3 c c' = record { has = (has_sites c'.args.version).1.1.0 }

pub returns-in_err-store-clause-cause : goal.returns-in_err-store-clause-cause
returns-in_err-store-clause-cause g c clean =
    let none = read_before [] (state g.S.Store c.args.conn.now) tt in
    fails_next (search rules) none Store _ (has_sites c.args.version).0 refl (c.in_err-store.ensures.cause clean)

pub returns-in_err-site-clause-cause : goal.returns-in_err-site-clause-cause
returns-in_err-site-clause-cause g c clean =
    let none = read_before [] (state g.S.Store c.args.conn.now) tt in
    let early = clean_before c.read_table-2.ensures.crash clean in
    let first = read_next none (Store ∷ []) (c.in_ok-store.ensures.same early) c.read_table.ensures.crash ((_, c.in_ok-store.ensures.rows early), tt) in
    fails_next (search rules) first Site _ (has_sites c.args.version).1.0 refl (c.in_err-site.ensures.cause clean)

pub returns-in_err-address-clause-cause : goal.returns-in_err-address-clause-cause
returns-in_err-address-clause-cause g c clean =
    let none = read_before [] (state g.S.Store c.args.conn.now) tt in
    let later = clean_before c.read_table-3.ensures.crash clean in
    let early = clean_before c.read_table-2.ensures.crash later in
    let first = read_next none (Store ∷ []) (c.in_ok-store.ensures.same early) c.read_table.ensures.crash ((_, c.in_ok-store.ensures.rows early), tt) in
    let second = read_next first (Site ∷ []) (c.in_ok-site.ensures.same later) c.read_table-2.ensures.crash ((_, c.in_ok-site.ensures.rows later), tt) in
    fails_next (search rules) second Address _ (has_sites c.args.version).1.1.0 refl (c.in_err-address.ensures.cause clean)
