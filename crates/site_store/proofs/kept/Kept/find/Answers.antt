use Rattle.sqlite.specs.Held.{state}
use Rattle.std.proofs.Common.{◌≡◌, sym, ◌∙◌}
use Rattle.site_rows.specs.declared.tables.Version.TheVariants.{Second}
use Rattle.keeper_core.specs.declared.faults.KeepFault.TheVariants.{Device}
use Rattle.site_store.proofs.Caused.{reading_failed}
use Rattle.site_store.proofs.Findings.{rows_found, listed_before, refused_store}
use Rattle.site_store.proofs.kept.Kept.find.Goals as goal

pub returns-in-Ok-clause-finds : goal.returns-in-Ok-clause-finds
returns-in-Ok-clause-finds g c clean is r may it =
    let old = state g.S.Store c.args.conn.now in
    let new = state g.S.Store c.read_rows.new.conn in
    let before = listed_before Second r old new (c.in-Ok.ensures.same clean) it in
    absurd (c.recognise.ensures.other is r may (rows_found Second r c.in-Ok.rows old before c.in-Ok.ensures.known (c.in-Ok.ensures.rows clean)))

pub returns-in-Err-OtherTables-clause-finds : goal.returns-in-Err-OtherTables-clause-finds
returns-in-Err-OtherTables-clause-finds g c clean is r may it =
    let cause = rw c.in-Err-OtherTables.field-0-is at (c.in-Err-OtherTables.ensures.cause clean) in
    let gone = c.read_rows.ensures.other cause in
    let still = rw gone.1 at it.schema in
    absurd (cause Second still)

pub returns-in-Err-BadRow-clause-finds : goal.returns-in-Err-BadRow-clause-finds
returns-in-Err-BadRow-clause-finds g c clean is r may it =
    let told = rw c.in-Err-BadRow.field-0-is at (c.in-Err-BadRow.ensures.cause clean) in
    absurd (refused_store r _ _ (state g.S.Store c.args.conn.now) (state g.S.Store c.read_rows.new.conn) told it)

pub returns-in-Err-Database-clause-cause : goal.returns-in-Err-Database-clause-cause
returns-in-Err-Database-clause-cause g c clean is =
    let why = rw c.in-Err-Database.field-0-is at (c.in-Err-Database.ensures.cause clean) in
    let device : c.hindered.result ≡ Device = cc in
    reading_failed (state g.S.Store c.args.conn.now) (state g.S.Store c.read_rows.new.conn) c.in-Err-Database.error (sym c.hindered.ensures.is ∙ device) why
