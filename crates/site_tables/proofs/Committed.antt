-- One transaction: what it leaves where it is committed, and where it is not.
use Rattle.std.proofs.Common.{◌≡◌, ◌⊎◌, inl, inr, true, false, Ok, Err, Result, OnOk, OnErr, IsTrue, refl, sym, ap, subst, ◌∙◌, arith}
use Rattle.sqlite.specs.Tree.{Trees}
use Rattle.sqlite.specs.Effect.{Database}
use Rattle.sqlite.specs.declared.error.Error.{Error}
use Rattle.sqlite.specs.State.{State, HasCleanDisk, KeepsCommit, Survives, Shows, IsRolledBack, IsUnchanged, IsLive, Opens}
use Rattle.sqlite_trees.specs.Objects.{catalog_tree}
use Rattle.sqlite_catalog.specs.Listing.{Lists}
use Rattle.sqlite_catalog.proofs.ReadLemmas.{lists_once}
use Rattle.std.specs.Result.{IsErr, IfErr}
use Rattle.sqlite_trees.specs.declared.store.Store.{Ghosts}
use Rattle.sqlite.specs.Held.{Held, state}
use Rattle.sqlite.proofs.Callers.{survives_begin}
use Rattle.site_tables.specs.Causes.{HasReason}
use Rattle.site_tables.proofs.Causes.{reason_within}
use Rattle.site_tables.proofs.Steps.{on_ok}
use Rattle.sqlite.specs.Steps.{FailsToCommit}
use Rattle.sqlite.proofs.StateLemmas.{survives_then}
use Rattle.site_rows.specs.declared.tables.Version.{Version}
use Rattle.site_tables.specs.Tables.{schema_under, site_schema}
use Rattle.site_tables.specs.TableRows.{GoesOn}
use Rattle.site_tables.specs.Stored.{Change, Contents, Holds, HoldsUnder, IsStored, IsStoredUnder, IsStopped, DoesAll, WritesAll, after}

-- while the store is open a crash leaves the last commit
abbrev pub Settles : State → Type 0
Settles s = (db : Trees) → IsTrue s.is_open → s.may_leave db → db ≡ s.committed.trees

-- `transaction` changes the mode alone
pub record Begins (old now : State) : Type 0 where
  pub was : old.in_transaction ≡ false
  pub is : now.in_transaction ≡ true
  pub is_open : now.is_open ≡ old.is_open
  pub sees : now.now ≡ old.now
  pub committed : now.committed ≡ old.committed
  pub faults : now.faults ≡ old.faults

pub stored_schema : {v : Version} (rows : Contents) (s : State) → IsStoredUnder v rows s → s.now.schema ≡ schema_under v
stored_schema rows s it = ap (λ (d : Database). d.schema) it.settled ∙ it.schema

pub stored_rows : {v : Version} (rows : Contents) (s : State) → IsStoredUnder v rows s → HoldsUnder v rows s.now.trees
stored_rows {v = v} rows s it = subst (λ (d : Database). HoldsUnder v rows d.trees) (sym it.settled) it.holds

-- a commit of rows that the transaction holds
pub stored_at_commit : (rows : Contents) (mid end : State) → mid.now.schema ≡ site_schema → Holds rows mid.now.trees → Shows mid end mid.now mid.now false → Settles end → IsStored rows end
stored_at_commit rows mid end schema held shows settles =
    let holds : Holds rows end.committed.trees = rw shows.committed_is held in
    record {
      is_open = shows.is_open;
      autocommit = shows.mode;
      settled = shows.now_is ∙ sym shows.committed_is;
      schema = rw shows.committed_is schema;
      holds = holds;
      crash = λ db may. subst (Holds rows) (sym (settles db shows.is_open may)) holds;
    }

module _ (before : Contents) (change : Change) (old begun : State) (starts : Begins old begun) where
  done : (mid : State) → IsStored before old → DoesAll change begun mid → (mid.now.schema ≡ site_schema) × Holds (after change before) mid.now.trees
  done mid it all =
      let has = ap (λ (d : Database). d.schema) starts.sees ∙ stored_schema before old it in
      (all.schema has, all.holds has before (subst (λ (d : Database). Holds before d.trees) (sym starts.sees) (stored_rows before old it)))

  pub committed : (mid end : State) → IsStored before old → DoesAll change begun mid → Shows mid end mid.now mid.now false → Settles end → IsStored (after change before) end
  committed mid end it all shows settles = let now = done mid it all in stored_at_commit (after change before) mid end now.0 now.1 shows settles

  -- rolled back, so that an open connection keeps the old rows
  pub kept : (mid end : State) → IsStored before old → KeepsCommit begun mid → IsRolledBack mid end → Settles end → IsTrue end.is_open → IsStored before end
  kept mid end it keeps back settles up =
      let same : end.committed ≡ old.committed = (back.undone up).1 ∙ keeps.committed (back.was_open up) ∙ starts.committed in
      let holds : Holds before end.committed.trees = rw same it.holds in
      record {
        is_open = up;
        autocommit = back.autocommit;
        settled = (back.undone up).0 ∙ sym (back.undone up).1;
        schema = rw same it.schema;
        holds = holds;
        crash = λ db may. subst (Holds before) (sym (settles db up may)) holds;
      }

  pub stopped : (mid end : State) → IsStored before old → KeepsCommit begun mid → IsRolledBack mid end → Settles end → ((db : Trees) → end.may_leave db → old.may_leave db ⊎ Holds (after change before) db) → IsStopped before (after change before) end
  stopped mid end it keeps back settles crash = record {
    crash = λ db may. elim (crash db may) [ inl was ↦ inl (it.crash db was) | inr new ↦ inr new ];
    kept = kept mid end it keeps back settles;
  }

  goes_keeps : (mid : State) → GoesOn begun mid → KeepsCommit begun mid
  goes_keeps mid it = record { was_open = λ up. sym it.is_open ∙ up; committed = λ _. it.committed }

  pub not_committed : (mid end : State) (e : Error) → IsStored before old → DoesAll change begun mid → FailsToCommit mid end e → Settles end
      → ((db : Trees) → end.may_leave db → old.may_leave db ⊎ (db ≡ mid.now.trees)) → IsStopped before (after change before) end
  not_committed mid end e it all (inl fails) settles crash =
      stopped mid end it (goes_keeps mid all.goes_on) fails.3 settles (λ db may. elim (crash db may) [ inl was ↦ inl was | inr new ↦ inr (rw new (done mid it all).1) ])
  not_committed mid end e it all (inr late) settles crash = absurd (let inside : mid.in_transaction ≡ true = all.goes_on.mode ∙ starts.is in let out = late.1 in cc)

module _ {S : Type 0} (g : Ghosts S) (settled : (s : S) (db : Trees) → IsTrue (g.view s).is_open → g.recovers s db → db ≡ (g.view s).committed) (change : Change) (old begun mid end : Held S)
    (was : old.in_transaction ≡ false) (is : begun ≡ record old { in_transaction = true }) where
  pub starts : Begins (state g old) (state g begun)
  starts = rw is (record { was = was; is = refl; is_open = refl; sees = refl; committed = refl; faults = refl })

  module _ {X : Type 0} (r : Result X Error) (x : X) (ok : r ≡ Ok x) (wrote : WritesAll change (state g begun) (state g mid) r)
      (survives : Survives (state g mid) (state g end) (λ db. db ≡ (state g mid).now.trees)) where
    did : HasCleanDisk (state g end) → DoesAll change (state g begun) (state g mid)
    did clean = elim r as (λ q. q ≡ Ok x → OnOk q (DoesAll change (state g begun) (state g mid)) → DoesAll change (state g begun) (state g mid))
        [ Ok y ↦ λ _ d. d | Err e ↦ λ ok _. absurd cc ] ok (wrote.done (omega (arith, survives.clean)))

    module _ {Y : Type 0} (out : Result Y Error) (before : Contents) (clean : HasCleanDisk (state g end)) (it : IsStored before (state g old)) where
      pub where_committed : OnOk out (Shows (state g mid) (state g end) (state g mid).now (state g mid).now false) → OnOk out (IsStored (after change before) (state g end))
      where_committed h = on_ok out (λ shows. committed before change (state g old) (state g begun) starts (state g mid) (state g end) it (did clean) shows (settled end.store)) h

      pub where_refused : IfErr out (FailsToCommit (state g mid) (state g end)) → OnErr out (IsStopped before (after change before) (state g end))
      where_refused h = refused out h
        where
          crash : (db : Trees) → (state g end).may_leave db → (state g old).may_leave db ⊎ (db ≡ (state g mid).now.trees)
          crash db may = elim (survives.crash clean db may) [ inl mid_may ↦ elim (wrote.crash.crash (omega (arith, survives.clean)) db mid_may) [ inl was_may ↦ inl (subst (λ (h : Held S). (state g h).may_leave db) is was_may) | inr none ↦ absurd none ] | inr new ↦ inr new ]

          refused : (out : Result Y Error) → IfErr out (FailsToCommit (state g mid) (state g end)) → OnErr out (IsStopped before (after change before) (state g end))
          refused (Ok y) h = tt {0}
          refused (Err e) h = not_committed before change (state g old) (state g begun) starts (state g mid) (state g end) e it (did clean) h (settled end.store) crash

    -- what a crash may leave besides
    pub where_ended : Survives (state g old) (state g end) (λ db. (before : Contents) → IsStored before (state g old) → Holds (after change before) db)
    where_ended = survives_then (state g old) (state g mid) (state g end) _ _ _ (λ _ db none. absurd none)
        (λ clean db new before it. rw new (done before change (state g old) (state g begun) starts (state g mid) it (did clean)).1)
        (survives_begin g old (state g mid) _ (rw is at wrote.crash)) survives

  -- the transaction was dropped after a write that failed
  pub where_dropped : {X : Type 0} (r : Result X Error) → IsErr r → WritesAll change (state g begun) (state g mid) r → (HasCleanDisk (state g end) → IsRolledBack (state g mid) (state g end))
      → Survives (state g mid) (state g end) (λ _. ⊥) → HasCleanDisk (state g end) → (before : Contents) → IsStored before (state g old) → IsStopped before (after change before) (state g end)
  where_dropped (Ok x) bad wrote back survives clean before it = absurd cc
  where_dropped (Err e) bad wrote back survives clean before it =
      stopped before change (state g old) (state g begun) starts (state g mid) (state g end) it (wrote.undone (omega (arith, survives.clean))) (back clean) (settled end.store) crash
    where
      crash : (db : Trees) → (state g end).may_leave db → (state g old).may_leave db ⊎ Holds (after change before) db
      crash db may = elim (survives.crash clean db may) [ inl mid_may ↦ elim (wrote.crash.crash (omega (arith, survives.clean)) db mid_may) [ inl was_may ↦ inl (subst (λ (h : Held S). (state g h).may_leave db) is was_may) | inr none ↦ absurd none ] | inr none ↦ absurd none ]

  -- why a write of the transaction failed
  pub where_failed : {X Y : Type 0} (r : Result X Error) (e : Error) (out : Result Y Error) → r ≡ Err e → out ≡ Err e → WritesAll change (state g begun) (state g mid) r → Survives (state g mid) (state g end) (λ _. ⊥)
      → HasCleanDisk (state g end) → (state g old).now.schema ≡ site_schema → IfErr out (HasReason (state g old) (state g end))
  where_failed (Ok x) e out bad told wrote survives clean has = absurd cc
  where_failed (Err d) e (Ok y) bad told wrote survives clean has = absurd cc
  where_failed (Err d) e (Err f) bad told wrote survives clean has =
      let same : d ≡ f = cc in
      let why = wrote.cause (omega (arith, survives.clean)) starts.is (ap (λ (d : Database). d.schema) starts.sees ∙ has) in
      rw same at (reason_within (state g old) (state g begun) (state g mid) (state g end) d starts.is_open (omega (arith, starts.faults)) survives.counts why)

-- an open that finds the trees of the last commit finds the same rows
pub reopened : (rows : Contents) (old again : State) → IsStored rows old → IsLive old → Opens again → IsLive again → again.committed.trees ≡ old.committed.trees → Settles again → IsStored rows again
reopened rows old again it was opens is same settles =
    let holds : Holds rows again.committed.trees = rw same it.holds in
    let sound = (was it.is_open).1.lists in
    let found = (is opens.is_open).1.lists in
    record {
      is_open = opens.is_open;
      autocommit = opens.autocommit;
      settled = opens.clean;
      schema = lists_once _ again.committed.schema old.committed.schema found (subst (λ (t : Trees). Lists (t catalog_tree) old.committed.schema) (sym same) sound) ∙ it.schema;
      holds = holds;
      crash = λ db may. subst (Holds rows) (sym (settles db opens.is_open may)) holds;
    }

-- a step that failed, where the connection is found open still
pub still_stored : (before next : Contents) (old new : State) → IsStopped before next old → IsUnchanged old new → Settles new → IsStored before new
still_stored before next old new stopped same settles =
    let it = stopped.kept same.0.was_open in
    let holds : Holds before new.committed.trees = rw same.0.committed_is it.holds in
    record {
      is_open = same.0.is_open;
      autocommit = same.0.mode ∙ it.autocommit;
      settled = same.0.now_is ∙ it.settled ∙ sym same.0.committed_is;
      schema = rw same.0.committed_is it.schema;
      holds = holds;
      crash = λ db may. subst (Holds before) (sym (settles db same.0.is_open may)) holds;
    }
