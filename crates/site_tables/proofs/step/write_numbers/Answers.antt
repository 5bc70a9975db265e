use Rattle.std.proofs.Common.{Option, sym, subst, arith, rules, Ok}
use Rattle.sqlite.specs.Held.{state}
use Rattle.site_rows.specs.declared.changes.Numbers.{Numbers}
use Rattle.site_rows.specs.declared.tables.Table.TheVariants.{Store}
use Rattle.site_tables.specs.Changed.{put, renumbers}
use Rattle.site_tables.specs.Stored.{WritesAll}
use Rattle.site_tables.specs.TableRows.{Writes}
use Rattle.site_tables.specs.Tables.{store}
use Rattle.site_tables.proofs.Parts.{same_numbers}
use Rattle.site_tables.proofs.Steps.{succeeds}
use Rattle.site_tables.proofs.Whole.{all_same, in_all}
use Rattle.site_tables.proofs.step.write_numbers.Goals as goal

pub returns-in_default-clause-counted : goal.returns-in_default-clause-counted
returns-in_default-clause-counted g c = rw c.in_default.is (omega arith)

pub returns-clause-wrote : goal.returns-clause-wrote
returns-clause-wrote g c =
    let s0 = state g.S.Store c.args.tx.now.conn.now in
    let s1 = state g.S.Store c.update_store.new.tx.conn.now in
    let wrote = succeeds store _ s0 s1 c.update_store.result _ (tt {0}) c.in_ok-update_store.was c.update_store.ensures.wrote in
    in_all Store (put c.args.changes.now) (subst (λ (o : Option Numbers). Writes store (renumbers o) s0 s1 (Ok (tt {0}))) (sym c.in-Some.is) wrote)

pub returns-in_default-clause-wrote : goal.returns-in_default-clause-wrote
returns-in_default-clause-wrote g c =
    let now = state g.S.Store c.args.tx.now.conn.now in
    let nothing : WritesAll (λ _ rows. rows) now now (Ok (tt {0})) = search rules in
    all_same (same_numbers c.args.changes.now c.in_default.is) nothing
