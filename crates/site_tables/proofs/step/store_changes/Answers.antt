use Rattle.std.proofs.Common.{◌≡◌, IfErr, OnOk, OnErr, sym, subst, refl, rules}
use Rattle.sqlite.specs.State.{HasCleanDisk, Survives}
use Rattle.sqlite.specs.Held.{state}
use Rattle.site_tables.specs.Causes.{HasReason}
use Rattle.site_tables.specs.Stored.{Contents, Holds, IsStored, IsStopped, after}
use Rattle.site_tables.specs.Changed.{changed}
use Rattle.site_tables.proofs.Steps.{on_ok, on_failed}
use Rattle.site_tables.proofs.Committed.{where_committed, where_refused, where_ended, where_dropped, where_failed, stored_schema}
use Rattle.site_tables.proofs.step.store_changes.Goals as goal

pub returns-clause-done : goal.returns-clause-done
returns-clause-done g c clean before it =
    let end = c.commit.new.self.0 in
    let same : end ≡ c.conn-2-1.given.0 = search rules in
    let late = subst (λ h. HasCleanDisk (state g.S.Store h)) (sym same) clean in
    subst (λ h. OnOk c.commit.result (IsStored (after (changed c.args.changes.now) before) (state g.S.Store h))) same
    (where_committed g.S.Store g.met.S.Store.settled (changed c.args.changes.now) c.args.conn.now c.transaction-tx.result.conn.now c.write_changes.new.tx.conn.now end c.requires.outside c.transaction-tx.ensures.begun
    c.write_changes.result c.in_ok-write_changes.field-0 c.in_ok-write_changes.was c.write_changes.ensures.wrote c.commit.ensures.survives c.commit.result before late it
    (on_ok c.commit.result (λ h. h.1) (c.commit.ensures.ok late)))

pub returns-clause-stopped : goal.returns-clause-stopped
returns-clause-stopped g c clean before it =
    let end = c.commit.new.self.0 in
    let same : end ≡ c.conn-2-1.given.0 = search rules in
    let late = subst (λ h. HasCleanDisk (state g.S.Store h)) (sym same) clean in
    subst (λ h. OnErr c.commit.result (IsStopped before (after (changed c.args.changes.now) before) (state g.S.Store h))) same
    (where_refused g.S.Store g.met.S.Store.settled (changed c.args.changes.now) c.args.conn.now c.transaction-tx.result.conn.now c.write_changes.new.tx.conn.now end c.requires.outside c.transaction-tx.ensures.begun
    c.write_changes.result c.in_ok-write_changes.field-0 c.in_ok-write_changes.was c.write_changes.ensures.wrote c.commit.ensures.survives c.commit.result before late it (c.commit.ensures.err late))

pub returns-clause-crash : goal.returns-clause-crash
returns-clause-crash g c =
    let end = c.commit.new.self.0 in
    let same : end ≡ c.conn-2-1.given.0 = search rules in
    let old = state g.S.Store c.args.conn.now in
    subst (λ h. Survives old (state g.S.Store h) (λ db. (before : Contents) → IsStored before old → Holds (after (changed c.args.changes.now) before) db)) same
    (where_ended g.S.Store g.met.S.Store.settled (changed c.args.changes.now) c.args.conn.now c.transaction-tx.result.conn.now c.write_changes.new.tx.conn.now end c.requires.outside c.transaction-tx.ensures.begun
    c.write_changes.result c.in_ok-write_changes.field-0 c.in_ok-write_changes.was c.write_changes.ensures.wrote c.commit.ensures.survives)

pub returns-in_err-write_changes-clause-stopped : goal.returns-in_err-write_changes-clause-stopped
returns-in_err-write_changes-clause-stopped g c clean before it =
    let end = c.drop-tx.new.self.0 in
    let same : end ≡ c.conn-1.given.0 = search rules in
    let late = subst (λ h. HasCleanDisk (state g.S.Store h)) (sym same) clean in
    on_failed c.from_residual.result c.from_residual.ensures.0 (subst (λ h. IsStopped before (after (changed c.args.changes.now) before) (state g.S.Store h)) same
    (where_dropped g.S.Store g.met.S.Store.settled (changed c.args.changes.now) c.args.conn.now c.transaction-tx.result.conn.now c.write_changes.new.tx.conn.now end c.requires.outside c.transaction-tx.ensures.begun
    c.write_changes.result (rw c.in_err-write_changes.was refl) c.write_changes.ensures.wrote c.drop-tx.ensures.undone c.drop-tx.ensures.survives late before it))

pub returns-in_err-write_changes-clause-cause : goal.returns-in_err-write_changes-clause-cause
returns-in_err-write_changes-clause-cause g c clean before it =
    let end = c.drop-tx.new.self.0 in
    let same : end ≡ c.conn-1.given.0 = search rules in
    let late = subst (λ h. HasCleanDisk (state g.S.Store h)) (sym same) clean in
    subst (λ h. IfErr c.from_residual.result (HasReason (state g.S.Store c.args.conn.now) (state g.S.Store h))) same
    (where_failed g.S.Store g.met.S.Store.settled (changed c.args.changes.now) c.args.conn.now c.transaction-tx.result.conn.now c.write_changes.new.tx.conn.now end c.requires.outside c.transaction-tx.ensures.begun
    c.write_changes.result _ c.from_residual.result c.in_err-write_changes.was (search rules) c.write_changes.ensures.wrote c.drop-tx.ensures.survives late (stored_schema before _ it))
