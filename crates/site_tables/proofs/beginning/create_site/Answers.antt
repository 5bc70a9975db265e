use Rattle.std.proofs.Common.{◌≡◌, OnOk, ap, sym, subst, ◌∙◌, rules, arith}
use Rattle.sqlite.specs.State.{HasCleanDisk, Survives}
use Rattle.sqlite.specs.Held.{Held, state}
use Rattle.sqlite.proofs.Callers.{survives_begin}
use Rattle.sqlite.proofs.StateLemmas.{survives_then}
use Rattle.site_tables.specs.Filled.{with_rows}
use Rattle.site_tables.specs.Made.{DoesMake}
use Rattle.site_tables.specs.Stored.{after, no_rows, Holds, IsStored, DoesAll}
use Rattle.site_tables.specs.Tables.{no_schema, site_schema}
use Rattle.site_tables.proofs.Committed.{stored_at_commit}
use Rattle.site_tables.proofs.MadeTables.{filled_hold}
use Rattle.site_tables.proofs.Steps.{on_ok}
use Rattle.site_tables.proofs.beginning.create_site.Goals as goal

pub returns-clause-stored : goal.returns-clause-stored
returns-clause-stored g c clean none =
    let rows = with_rows c.args.rows.now in
    let begun = c.transaction-tx.result.conn.now in
    let made = c.create_tables.new.tx.conn.now in
    let mid = c.fill.new.tx.conn.now in
    let end = c.commit.new.self.0 in
    let same : end ≡ c.conn-2-1.given.0 = search rules in
    let late = subst (λ h. HasCleanDisk (state g.S.Store h)) (sym same) clean in
    let mid_clean : HasCleanDisk (state g.S.Store mid) = omega (arith, c.commit.ensures.survives.clean) in
    let made_clean : HasCleanDisk (state g.S.Store made) = omega (arith, c.fill.ensures.wrote.crash.clean) in
    let starts : (state g.S.Store begun).now.schema ≡ no_schema = ap (λ (h : Held _). h.schema) c.transaction-tx.ensures.begun ∙ none in
    let one : DoesMake no_schema site_schema (state g.S.Store begun) (state g.S.Store made) = rw c.in_ok-create_tables.was at (c.create_tables.ensures.made.done made_clean) in
    let two : DoesAll rows (state g.S.Store made) (state g.S.Store mid) = rw c.in_ok-fill.was at (c.fill.ensures.wrote.done mid_clean) in
    let now = filled_hold rows (state g.S.Store begun) (state g.S.Store made) (state g.S.Store mid) one two starts in
    subst (λ h. OnOk c.commit.result (IsStored (after rows no_rows) (state g.S.Store h))) same
    (on_ok c.commit.result (λ h. stored_at_commit (after rows no_rows) (state g.S.Store mid) (state g.S.Store end) now.0 now.1 h.1 (g.met.S.Store.settled end.store)) (c.commit.ensures.ok late))

pub returns-clause-crash : goal.returns-clause-crash
returns-clause-crash g c =
    let rows = with_rows c.args.rows.now in
    let old = state g.S.Store c.args.conn.now in
    let begun = state g.S.Store c.transaction-tx.result.conn.now in
    let made = state g.S.Store c.create_tables.new.tx.conn.now in
    let mid = state g.S.Store c.fill.new.tx.conn.now in
    let end = c.commit.new.self.0 in
    let same : end ≡ c.conn-2-1.given.0 = search rules in
    let inside : Survives begun mid (λ _. ⊥) = survives_then begun made mid _ _ (λ _. ⊥) (λ _ db none. none) (λ _ db none. none) c.create_tables.ensures.made.crash c.fill.ensures.wrote.crash in
    let before : Survives old mid (λ _. ⊥) = survives_begin g.S.Store c.args.conn.now mid (λ _. ⊥) (rw c.transaction-tx.ensures.begun at inside) in
    let starts = λ (none : old.now.schema ≡ no_schema). ap (λ (h : Held _). h.schema) c.transaction-tx.ensures.begun ∙ none in
    let made_so = λ (clean : HasCleanDisk mid). let early : HasCleanDisk made = omega (arith, c.fill.ensures.wrote.crash.clean) in let one : DoesMake no_schema site_schema begun made = rw c.in_ok-create_tables.was at (c.create_tables.ensures.made.done early) in one in
    let filled_so = λ (clean : HasCleanDisk mid). let two : DoesAll rows made mid = rw c.in_ok-fill.was at (c.fill.ensures.wrote.done clean) in two in
    subst (λ h. Survives old (state g.S.Store h) (λ db. old.now.schema ≡ no_schema → Holds (after rows no_rows) db)) same
    (survives_then old mid (state g.S.Store end) _ _ _ (λ _ db none. absurd none)
    (λ clean db new none. let mid_clean : HasCleanDisk mid = omega (arith, c.commit.ensures.survives.clean) in rw new (filled_hold rows begun made mid (made_so mid_clean) (filled_so mid_clean) (starts none)).1) before c.commit.ensures.survives)
