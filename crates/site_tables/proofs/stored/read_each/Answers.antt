use Rattle.std.proofs.Common.{◌≡◌, ◌+◌, inl, inr, Err, [], ◌∷◌, ◌++◌, map, refl, sym, ap, subst, ◌∙◌, rules, arith}
use Rattle.sqlite.specs.State.{HasCleanDisk, Survives, CommitsShowing}
use Rattle.std.proofs.lemmas.List.{map_push}
use Rattle.sqlite.specs.Given.{HasGiven}
use Rattle.sqlite.specs.Held.{state}
use Rattle.sqlite.proofs.Callers.{begun_plain, unchanged_then, given_begin}
use Rattle.site_tables.proofs.Answered.{commits_nothing}
use Rattle.site_tables.proofs.Listed.{bad_row}
use Rattle.site_tables.specs.declared.faults.ReadFault.TheVariants.{Database}
use Rattle.site_tables.proofs.stored.read_each.Goals as goal

pub returns-in_err-rows-clause-crash : goal.returns-in_err-rows-clause-crash
returns-in_err-rows-clause-crash g c =
    let old = state g.S.Store c.args.conn.now in
    let new = state g.S.Store c.query.follows.lender-at-none in
    let held = c.query.follows.holds-at-none in
    let kept : Survives old new (CommitsShowing c.args.sql.now [] old) = search rules in
    commits_nothing c.args.sql.now [] old new c.requires kept

pub rows-init : goal.rows-init
rows-init g c =
    let made = c.in_ok-rows.ensures in
    let plain = c.requires in
    (refl, commits_nothing _ _ _ _ plain made.survives, λ clean. rw c.new-read.ensures.items (begun_plain g.S.Store _ _ c.args.conn.now _ plain (made.begun clean)))

pub returns-in_default-clause-rows : goal.returns-in_default-clause-rows
returns-in_default-clause-rows g c clean =
    let moved = c.next.follows.holds-at-none in
    let now = c.next.follows.lender-at-none.conn.now in
    let late : HasCleanDisk (state g.S.Store now) = search rules in
    let was = c.rows.invariant.2 (omega (arith, moved.survives.clean)) in
    let shown = (rw (c.in_ok-row.was, c.in_default.is) at (moved.ok late)) c.args.sql.now [] (map g.T.TableRow.shown c.rows.read.items) was.0 in
    let there : now ≡ c.conn-in_default-1.given.0 = search rules in
    rw (← there) (c.rows.rows.conn.now, was.1, shown)

pub rows-preserved : goal.rows-preserved
rows-preserved g c = (
  search rules,
  search rules,
  λ clean.
      let moved = c.next.follows.holds-at-none in
      let now = c.next.follows.lender-at-none.conn.now in
      let was = c.rows.invariant.2 (omega (arith, moved.survives.clean)) in
      let given = map g.T.TableRow.shown c.rows.read.items in
      let next = (rw (c.in_ok-row.was, c.in-Some.is) at (moved.ok clean)) c.args.sql.now [] given was.0 in
      let same = rw c.in_ok-row.was at (moved.same clean) in
      let read = c.in_ok-row_of.field-0 in
      let more : given ++ c.in-Some.row.now ∷ [] ≡ map g.T.TableRow.shown c.add.new.list.items =
      ap (λ r. given ++ r ∷ []) c.in_ok-row_of.ensures.ok ∙ sym (map_push g.T.TableRow.shown c.rows.read.items read) ∙ ap (map g.T.TableRow.shown) (sym c.in_ok-add.ensures) in
      (subst (HasGiven g.S.Store c.args.sql.now [] now) more next, unchanged_then _ _ _ was.1 same),
)

pub returns-in_err-rows-clause-cause : goal.returns-in_err-rows-clause-cause
returns-in_err-rows-clause-cause g c clean =
    let held = c.query.follows.holds-at-none in
    let same : c.from_residual.result ≡ Err (Database c.in_err-rows.field-0.0) = search rules in
    let refused = (rw c.in_err-rows.was at held).err clean in
    rw same (inl refused)

pub returns-in_err-row-clause-cause : goal.returns-in_err-row-clause-cause
returns-in_err-row-clause-cause g c clean =
    let moved = c.next.follows.holds-at-none in
    let now = c.next.follows.lender-at-none.conn.now in
    let late : HasCleanDisk (state g.S.Store now) = search rules in
    let was = c.rows.invariant.2 (omega (arith, moved.survives.clean)) in
    let same : c.from_residual-in_err-row.result ≡ Err (Database c.in_err-row.field-0.0) = search rules in
    let fails = (rw c.in_err-row.was at (moved.err late)) c.args.sql.now [] (map g.T.TableRow.shown c.rows.read.items) was.0 in
    let there : now ≡ c.conn-in_err-row-1.given.0 = search rules in
    rw (same, ← there) (inr (c.rows.rows.conn.now, was.1, c.rows.invariant.1, fails))

pub returns-in_err-row_of-clause-cause : goal.returns-in_err-row_of-clause-cause
returns-in_err-row_of-clause-cause g c clean =
    let moved = c.next.follows.holds-at-none in
    let now = c.next.follows.lender-at-none.conn.now in
    let late : HasCleanDisk (state g.S.Store now) = search rules in
    let was = c.rows.invariant.2 (omega (arith, moved.survives.clean)) in
    let given = map g.T.TableRow.shown c.rows.read.items in
    let next = (rw (c.in_ok-row.was, c.in-Some.is) at (moved.ok late)) c.args.sql.now [] given was.0 in
    let same : c.from_residual-in_err-row_of.result ≡ Err c.in_err-row_of.field-0.0 = search rules in
    let still = unchanged_then _ _ _ was.1 (rw c.in_ok-row.was at (moved.same late)) in
    let there : now ≡ c.conn-in_err-row_of-1.given.0 = search rules in
    rw (same, ← there) (bad_row g.S.Store c.args.table c.args.sql.now g.T.TableRow.shown c.args.conn.now now (c.len.result + 1) c.in_err-row_of.field-0.0 c.in-Some.row.now c.rows.read.items still (given_begin g.S.Store c.args.sql.now [] now _ next) (search rules) c.in_err-row_of.ensures.err)
