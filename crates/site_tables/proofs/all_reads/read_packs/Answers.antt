use Rattle.std.proofs.Common.{[], ◌∷◌, rules, ap, sym, subst}
use Rattle.sqlite.specs.Held.{state}
use Rattle.site_rows.specs.declared.tables.Table.TheVariants.{Store, Site, Address, Event, Part, Pack, Packed}
use Rattle.sqlite.proofs.StateLemmas.{unchanged}
use Rattle.site_tables.specs.Tables.{Has, told_under}
use Rattle.site_tables.proofs.BadReads.{clean_before, read_before, read_next, fails_next}
use Rattle.site_tables.proofs.all_reads.read_packs.Goals as goal

pub returns-in-First-clause-same : goal.returns-in-First-clause-same
returns-in-First-clause-same g c clean is_open = unchanged (state g.S.Store c.args.conn.now) is_open

pub returns-in_err-pack-in-Second-clause-cause : goal.returns-in_err-pack-in-Second-clause-cause
returns-in_err-pack-in-Second-clause-cause g c clean before =
    let events = read_before (Store ∷ Site ∷ Address ∷ Event ∷ Part ∷ []) (state g.S.Store c.args.conn.now) before in
    fails_next (search rules) events Pack _ (subst (λ v. Has v Pack) (sym c.in-Second.is) tt) (ap told_under c.in-Second.is) (c.in_err-pack-in-Second.ensures.cause clean)

pub returns-in_err-packed-in-Second-clause-cause : goal.returns-in_err-packed-in-Second-clause-cause
returns-in_err-packed-in-Second-clause-cause g c clean before =
    let events = read_before (Store ∷ Site ∷ Address ∷ Event ∷ Part ∷ []) (state g.S.Store c.args.conn.now) before in
    let early = clean_before c.read_table-in-Second.ensures.crash clean in
    let first = read_next events (Pack ∷ []) (c.in_ok-pack-in-Second.ensures.same early) c.read_table.ensures.crash ((_, c.in_ok-pack-in-Second.ensures.rows early), tt) in
    fails_next (search rules) first Packed _ (subst (λ v. Has v Packed) (sym c.in-Second.is) tt) (ap told_under c.in-Second.is) (c.in_err-packed-in-Second.ensures.cause clean)
