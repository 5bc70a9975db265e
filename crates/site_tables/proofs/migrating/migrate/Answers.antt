use Rattle.std.proofs.Common.{◌≡◌, OnOk, [], ◌∷◌, ap, sym, subst, ◌∙◌, rules, arith}
use Rattle.sqlite.specs.Effect.{Database}
use Rattle.sqlite.specs.State.{HasCleanDisk, Survives}
use Rattle.sqlite.specs.Held.{Held, state}
use Rattle.sqlite.proofs.Callers.{survives_begin}
use Rattle.sqlite.proofs.StateLemmas.{survives_then}
use Rattle.site_rows.specs.declared.tables.Table.TheVariants.{Store}
use Rattle.site_rows.specs.declared.tables.Version.TheVariants.{First}
use Rattle.site_tables.specs.Made.{DoesMake}
use Rattle.site_tables.specs.Migrated.{migrated}
use Rattle.site_tables.specs.Stored.{Contents, DoesAll, Holds, HoldsUnder, IsStored, IsStoredUnder, after, only}
use Rattle.site_tables.specs.Tables.{first_schema, site_schema}
use Rattle.site_tables.proofs.Committed.{stored_at_commit, stored_rows, stored_schema}
use Rattle.site_tables.proofs.Migrations.{migrated_hold, renumbered}
use Rattle.site_tables.proofs.Steps.{on_ok}
use Rattle.site_tables.proofs.Whole.{in_all}
use Rattle.site_tables.proofs.migrating.migrate.Goals as goal

pub returns-clause-done : goal.returns-clause-done
returns-clause-done g c clean before it =
    let begun = c.transaction-tx.result.conn.now in
    let made = c.create_packs.new.tx.conn.now in
    let mid = c.set_version.new.tx.conn.now in
    let end = c.commit.new.self.0 in
    let same : end ≡ c.conn-2-1.given.0 = search rules in
    let late = subst (λ h. HasCleanDisk (state g.S.Store h)) (sym same) clean in
    let wrote = in_all Store renumbered (rw c.number.ensures at c.set_version.ensures.wrote) in
    let mid_clean : HasCleanDisk (state g.S.Store mid) = omega (arith, c.commit.ensures.survives.clean) in
    let made_clean : HasCleanDisk (state g.S.Store made) = omega (arith, wrote.crash.clean) in
    let starts : (state g.S.Store begun).now ≡ (state g.S.Store c.args.conn.now).now = ap (λ (h : Held _). (state g.S.Store h).now) c.transaction-tx.ensures.begun in
    let was = ap (λ (d : Database). d.schema) starts ∙ stored_schema before _ it in
    let held = subst (λ (d : Database). HoldsUnder First before d.trees) (sym starts) (stored_rows before _ it) in
    let one : DoesMake first_schema site_schema (state g.S.Store begun) (state g.S.Store made) = rw c.in_ok-create_packs.was at (c.create_packs.ensures.made.done made_clean) in
    let two : DoesAll (only (Store ∷ []) renumbered) (state g.S.Store made) (state g.S.Store mid) = rw c.in_ok-set_version.was at (wrote.done mid_clean) in
    let now = migrated_hold before (state g.S.Store begun) (state g.S.Store made) (state g.S.Store mid) one two was held in
    subst (λ h. OnOk c.commit.result (IsStored (after migrated before) (state g.S.Store h))) same
    (on_ok c.commit.result (λ h. stored_at_commit (after migrated before) (state g.S.Store mid) (state g.S.Store end) now.0 now.1 h.1 (g.met.S.Store.settled end.store)) (c.commit.ensures.ok late))

pub returns-clause-crash : goal.returns-clause-crash
returns-clause-crash g c =
    let old = state g.S.Store c.args.conn.now in
    let begun = state g.S.Store c.transaction-tx.result.conn.now in
    let made = state g.S.Store c.create_packs.new.tx.conn.now in
    let mid = state g.S.Store c.set_version.new.tx.conn.now in
    let end = c.commit.new.self.0 in
    let same : end ≡ c.conn-2-1.given.0 = search rules in
    let wrote = in_all Store renumbered (rw c.number.ensures at c.set_version.ensures.wrote) in
    let inside : Survives begun mid (λ _. ⊥) = survives_then begun made mid _ _ (λ _. ⊥) (λ _ db none. none) (λ _ db none. none) c.create_packs.ensures.made.crash wrote.crash in
    let before : Survives old mid (λ _. ⊥) = survives_begin g.S.Store c.args.conn.now mid (λ _. ⊥) (rw c.transaction-tx.ensures.begun at inside) in
    let starts : begun.now ≡ old.now = ap (λ (h : Held _). (state g.S.Store h).now) c.transaction-tx.ensures.begun in
    let was = λ (rows : Contents) (it : IsStoredUnder First rows old). ap (λ (d : Database). d.schema) starts ∙ stored_schema rows old it in
    let held = λ (rows : Contents) (it : IsStoredUnder First rows old). subst (λ (d : Database). HoldsUnder First rows d.trees) (sym starts) (stored_rows rows old it) in
    let made_so = λ (clean : HasCleanDisk mid). let early : HasCleanDisk made = omega (arith, wrote.crash.clean) in let one : DoesMake first_schema site_schema begun made = rw c.in_ok-create_packs.was at (c.create_packs.ensures.made.done early) in one in
    let written_so = λ (clean : HasCleanDisk mid). let two : DoesAll (only (Store ∷ []) renumbered) made mid = rw c.in_ok-set_version.was at (wrote.done clean) in two in
    subst (λ h. Survives old (state g.S.Store h) (λ db. (before : Contents) → IsStoredUnder First before old → Holds (after migrated before) db)) same
    (survives_then old mid (state g.S.Store end) _ _ _ (λ _ db none. absurd none)
    (λ clean db new rows it. let mid_clean : HasCleanDisk mid = omega (arith, c.commit.ensures.survives.clean) in rw new (migrated_hold rows begun made mid (made_so mid_clean) (written_so mid_clean) (was rows it) (held rows it)).1) before c.commit.ensures.survives)
