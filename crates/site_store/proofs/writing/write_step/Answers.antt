use Rattle.std.proofs.Common.{sym, subst}
use Rattle.sqlite.specs.Held.{state}
use Rattle.site_rows.specs.RecordRows.{rows_of}
use Rattle.site_tables.specs.Causes.{HasReason}
use Rattle.site_tables.specs.Stored.{contents_of}
use Rattle.site_store.specs.StepWritten.{KeepsWhereFailed, FailsToWrite}
use Rattle.site_tables.proofs.Leading.{stored_after}
use Rattle.site_store.proofs.StepWrites.{crash_leaves, is_counted, keeps_cause, fails_cause}
use Rattle.site_store.proofs.writing.write_step.Goals as goal

pub returns-in-Ok-clause-done : goal.returns-in-Ok-clause-done
returns-in-Ok-clause-done g c = λ old new told are clean it.
    stored_after c.args.changes.now (rows_of old) (rows_of new) (state g.S.Store c.try_changes.new.conn) are.0 (c.in-Ok.ensures.done clean (contents_of (rows_of old)) it)

pub returns-in-Ok-clause-counted : goal.returns-in-Ok-clause-counted
returns-in-Ok-clause-counted g c = λ old new told are. is_counted c.args.changes.now old new told c.try_changes.new.written are.0 are.1 c.in-Ok.ensures.counted

pub returns-in-Err-Kept-clause-failed : goal.returns-in-Err-Kept-clause-failed
returns-in-Err-Kept-clause-failed g c = λ old new told are clean it.
    let t = state g.S.Store c.try_changes.new.conn in
    let kept = c.in-Err-Kept.ensures.kept clean (contents_of (rows_of old)) it c.in-Err-Kept.error c.in-Err-Kept.field-0-is in
    subst (KeepsWhereFailed old new t) (sym c.cause_of.ensures) (keeps_cause c.in-Err-Kept.error old new t kept)

pub returns-in-Err-Shut-clause-failed : goal.returns-in-Err-Shut-clause-failed
returns-in-Err-Shut-clause-failed g c = λ old new told are clean it.
    crash_leaves c.args.changes.now old new (state g.S.Store c.args.conn.now) (state g.S.Store c.try_changes.new.conn) are.0 c.try_changes.ensures.crash clean it

pub returns-in-Err-Kept-clause-cause : goal.returns-in-Err-Kept-clause-cause
returns-in-Err-Kept-clause-cause g c = λ old clean it.
    let before = state g.S.Store c.args.conn.now in
    let after = state g.S.Store c.try_changes.new.conn in
    let why : HasReason before after c.in-Err-Kept.error = rw c.in-Err-Kept.field-0-is at (c.in-Err-Kept.ensures.cause clean (contents_of (rows_of old)) it) in
    subst (FailsToWrite before after) (sym c.cause_of.ensures) (fails_cause c.in-Err-Kept.error before after why)

pub returns-in-Err-Shut-clause-cause : goal.returns-in-Err-Shut-clause-cause
returns-in-Err-Shut-clause-cause g c = λ old clean it. rw c.in-Err-Shut.field-0-is at (c.in-Err-Shut.ensures.cause clean (contents_of (rows_of old)) it)
