use Rattle.std.proofs.Common.{arith, refl}
use Rattle.sqlite.specs.State.{HasCleanDisk}
use Rattle.sqlite.specs.Held.{state}
use Rattle.site_tables.specs.Causes.{HasReason}
use Rattle.site_tables.specs.Stored.{IsStopped, after}
use Rattle.site_tables.specs.Changed.{changed}
use Rattle.site_tables.proofs.Causes.{reason_within}
use Rattle.site_tables.proofs.Committed.{still_stored}
use Rattle.site_tables.proofs.trying.try_changes.Goals as goal

pub returns-then-is_still_open-clause-kept : goal.returns-then-is_still_open-clause-kept
returns-then-is_still_open-clause-kept g c clean before it e is =
    let mid = c.store_changes.new.conn in
    let early : HasCleanDisk (state g.S.Store mid) = omega (arith, c.is_still_open.ensures.crash.clean) in
    let stopped : IsStopped before (after (changed c.args.changes.now) before) (state g.S.Store mid) = rw c.in-Err.is at (c.store_changes.ensures.stopped early before it) in
    still_stored before (after (changed c.args.changes.now) before) (state g.S.Store mid) (state g.S.Store c.is_still_open.new.conn) stopped (c.is_still_open.ensures.same clean c.if-is_still_open.true) c.settled.ensures

pub returns-then-is_still_open-clause-cause : goal.returns-then-is_still_open-clause-cause
returns-then-is_still_open-clause-cause g c clean before it =
    let old = state g.S.Store c.args.conn.now in
    let mid = state g.S.Store c.store_changes.new.conn in
    let early : HasCleanDisk mid = omega (arith, c.is_still_open.ensures.crash.clean) in
    let why : HasReason old mid c.in-Err.error = rw c.in-Err.is at (c.store_changes.ensures.cause early before it) in
    reason_within old old mid (state g.S.Store c.is_still_open.new.conn) c.in-Err.error refl (omega arith) c.is_still_open.ensures.crash.counts why

pub returns-else-is_still_open-clause-cause : goal.returns-else-is_still_open-clause-cause
returns-else-is_still_open-clause-cause g c clean before it =
    let old = state g.S.Store c.args.conn.now in
    let mid = state g.S.Store c.store_changes.new.conn in
    let early : HasCleanDisk mid = omega (arith, c.is_still_open.ensures.crash.clean) in
    let why : HasReason old mid c.in-Err.error = rw c.in-Err.is at (c.store_changes.ensures.cause early before it) in
    reason_within old old mid (state g.S.Store c.is_still_open.new.conn) c.in-Err.error refl (omega arith) c.is_still_open.ensures.crash.counts why
