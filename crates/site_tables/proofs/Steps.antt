-- What a call inside a transaction does, by its text.
use Rattle.std.proofs.Common.{◌≡◌, inl, inr, ℕ, ◌+◌, ◌-◌, ◌≤◌, List, ◌++◌, length, map, take, slice_range, false, Ok, Err, Result, OnOk, OnErr, IfErr, IsTrue, refl, sym, ap, subst, ◌∙◌, append_assoc, take-add, arith}
use Rattle.std.proofs.lemmas.Bool.{cases_Bool}
use Rattle.std.specs.Result.{IsErr}
use Rattle.std.proofs.lemmas.List.{map-append}
use Rattle.sqlite.specs.Order.{Row}
use Rattle.sqlite.specs.Table.{Table}
use Rattle.sqlite.specs.declared.error.Error.{Error}
use Rattle.std.specs.List.{flat_map}
use Rattle.sqlite.specs.Command.{Command}
use Rattle.sqlite.specs.Command.TheVariants.{Insert}
use Rattle.sqlite.specs.Effect.{Database}
use Rattle.sqlite.proofs.StateLemmas.{survives_then}
use Rattle.sqlite.specs.State.{State, Executes, ExecutesInside, IsUnchanged, IsRolledBack, KeepsCommit, HasCleanDisk, Survives}
use Rattle.sqlite_trees.specs.declared.store.Store.{Ghosts}
use Rattle.site_tables.specs.Causes.{HasReason}
use Rattle.site_tables.proofs.Causes.{Says, says_why, if_err, reason_within}
use Rattle.sqlite.specs.Held.{Held, state}
use Rattle.sqlite.specs.Listing.{understood}
use Rattle.sqlite.proofs.Callers.{statement_of, runs_as}
use Rattle.site_tables.proofs.Removed.{deletes_one_key}
use Rattle.site_tables.proofs.Answered.{passes_all}
use Rattle.site_tables.specs.Tables.{site_schema}
use Rattle.site_tables.specs.TableRows.{visible, HasRows, Changes, GoesOn, Does, Writes, HasWritten, adds, has_key, without_key}
use Rattle.site_tables.specs.Commands.{key_filter, deletes_key}
use Rattle.site_tables.specs.Inserting.{Inserts}
use Rattle.site_tables.proofs.Inserted.{IsSimple}

module _ (table : Table) (change : List Row → List Row) (sql : List ℕ) (params : Row) (old new : State) where
  does : (r : Result ℕ Error) (late : Error) → (old.in_transaction ≡ false → r ≡ Err late) → (IsTrue old.in_transaction → ExecutesInside 0 sql params old new r)
      → ((count : ℕ) → old.now.schema ≡ site_schema → Executes sql params old new (Ok count) → Changes table change old.now new.now) → OnOk r (Does table change old new)
  does (Err e) late ended runs changes = tt
  does (Ok count) late ended runs changes = elim (cases_Bool old.in_transaction) [
    | inl inside ↦ let ran = runs inside in record {
      goes_on = record { is_open = ran.1.is_open ∙ sym ran.1.was_open; committed = ran.1.committed_is; mode = ran.1.mode ∙ sym inside };
      changes = λ has. changes count has ran.0;
    }
    | inr outside ↦ absurd (let e = ended outside in cc)
  ]

unchanged_keeps : (old new : State) → IsUnchanged old new → KeepsCommit old new
unchanged_keeps old new same = record { was_open = λ _. same.0.was_open; committed = λ _. same.0.committed_is }

rolled_keeps : (old new : State) → IsRolledBack old new → KeepsCommit old new
rolled_keeps old new back = record { was_open = back.was_open; committed = λ up. (back.undone up).1 }

-- a call that fails commits nothing
pub keeps : (sql : List ℕ) (params : Row) (old new : State) (r : Result ℕ Error) → (old.in_transaction ≡ false → KeepsCommit old new) → (IsTrue old.in_transaction → ExecutesInside 0 sql params old new r)
    → OnErr r (KeepsCommit old new)
keeps sql params old new (Ok count) ended runs = tt
keeps sql params old new (Err e) ended runs = elim (cases_Bool old.in_transaction) [
  | inl inside ↦ elim (runs inside) [
    | inl ran ↦ elim ran.1 [ inl same ↦ unchanged_keeps old new same | inr back ↦ rolled_keeps old new back ]
    | inr ended ↦ unchanged_keeps old new ended.2
  ]
  | inr outside ↦ ended outside
]

pub same_keeps : (old new : State) → new ≡ old → KeepsCommit old new
same_keeps old new same = rw same (record { was_open = λ up. up; committed = λ _. refl })

-- what `execute` of a transaction says of a text
pub record Ran (sql : List ℕ) (params : Row) (old new : State) (r : Result ℕ Error) : Type 0 where
  pub late : Error
  pub ended : old.in_transaction ≡ false → r ≡ Err late
  pub same : old.in_transaction ≡ false → KeepsCommit old new
  pub runs : HasCleanDisk new → IsTrue old.in_transaction → ExecutesInside 0 sql params old new r
  pub survives : Survives old new (λ _. ⊥)

-- the clauses of `execute` at a transaction, in this order
pub ran : {S : Type 0} (g : Ghosts S) {sql : List ℕ} {params : Row} {old new : Held S} {r : Result ℕ Error} {late : Error} → (old.in_transaction ≡ false → (r ≡ Err late) × (new ≡ old))
    → (HasCleanDisk (state g new) → IsTrue old.in_transaction → ExecutesInside 0 sql params (state g old) (state g new) r) → Survives (state g old) (state g new) (λ _. ⊥)
    → Ran sql params (state g old) (state g new) r
ran g {old = old} {new = new} {late = late} ended runs survives =
    record { late = late; ended = λ out. (ended out).0; same = λ out. same_keeps (state g old) (state g new) (ap (state g) (ended out).1); runs = runs; survives = survives }

-- a text by what it makes of the rows of its table where it is Ok, and why it fails
pub writes_by : (table : Table) (change : List Row → List Row) (sql : List ℕ) (params : Row) (command : Command) → Says site_schema sql command (length params) → (old new : State) (r : Result ℕ Error) → Ran sql params old new r
    → ((count : ℕ) → old.now.schema ≡ site_schema → Executes sql params old new (Ok count) → Changes table change old.now new.now) → Writes table change old new r
writes_by table change sql params command is old new r ran changes = record {
  done = λ clean. does table change sql params old new r ran.late ran.ended (ran.runs clean) changes;
  undone = λ clean. keeps sql params old new r ran.same (ran.runs clean);
  cause = λ clean inside has. says_why site_schema sql params command is old new has r (ran.runs clean inside);
  crash = ran.survives;
}

pub deletes_of_key : (at : ℕ) (table : Table) → IsSimple site_schema at table → (sql : List ℕ) (params : Row) → Says site_schema sql (deletes_key at table) (length params)
    → ((r : Row) → passes_all (key_filter 0 table.primary) params r ≡ has_key table params (visible table r)) → {old new : State} {r : Result ℕ Error}
    → Ran sql params old new r → Writes table (without_key table params) old new r
deletes_of_key at table simple sql params is reads {old} {new} {r} ran =
    writes_by table (without_key table params) sql params (deletes_key at table) is old new r ran (λ count has h. deletes_one_key sql site_schema at table params old new count simple (is.command, is.plain) reads has h)

-- a text that inserts its parameters as rows
pub inserts : {X : Type 0} (table : Table) (row_of : X → Row) (xs : List X) (sql : List ℕ) → Inserts table row_of (length xs) sql → {old new : State} {r : Result ℕ Error}
    → Ran sql (flat_map row_of xs) old new r → Writes table (adds (map row_of xs)) old new r
inserts table row_of xs sql is {old} {new} {r} ran =
    writes_by table (adds (map row_of xs)) sql (flat_map row_of xs) (Insert is.at is.from) (record { command = is.command; plain = is.plain; alone = is.alone xs refl; writes = refl }) old new r ran
    (λ count has h. let w = runs_as sql (flat_map row_of xs) old new site_schema has (Insert is.at is.from) is.command is.plain count h in is.adds xs refl old.step_limit old.now new.now w.tally (statement_of sql (understood site_schema sql)) has w.changed)

pub on_ok : {Y : Type 0} {P Q : Type 0} (r : Result Y Error) → (P → Q) → OnOk r P → OnOk r Q
on_ok (Ok y) f h = f h
on_ok (Err e) f h = tt

pub on_failed : {Y : Type 0} {P : Type 0} (r : Result Y Error) → IsErr r → P → OnErr r P
on_failed (Ok y) bad h = tt {0}
on_failed (Err e) bad h = h

pub on_err : {Y : Type 0} {P Q : Type 0} (r : Result Y Error) → (P → Q) → OnErr r P → OnErr r Q
on_err (Ok y) f h = tt
on_err (Err e) f h = f h

-- ---- one write after another

pub goes_then : (a b c : State) → GoesOn a b → GoesOn b c → GoesOn a c
goes_then a b c p q = record { is_open = q.is_open ∙ p.is_open; committed = q.committed ∙ p.committed; mode = q.mode ∙ p.mode }

pub keeps_then : (a b c : State) → GoesOn a b → KeepsCommit b c → KeepsCommit a c
keeps_then a b c p q = record { was_open = λ up. sym p.is_open ∙ q.was_open up; committed = λ up. q.committed up ∙ p.committed }

-- what failed after calls that went on, failed for a reason since the first
pub reason_then : {X : Type 0} (a b c : State) (r : Result X Error) → GoesOn a b → a.faults ≤ b.faults → IfErr r (HasReason b c) → IfErr r (HasReason a c)
reason_then a b c r goes before h = if_err r (λ e. reason_within a b c c e goes.is_open before (omega arith)) h

module _ (table : Table) where
  changes_then : (first next both : List Row → List Row) → ((rows : List Row) → next (first rows) ≡ both rows) → (a b c : Database) → Changes table first a b → Changes table next b c → Changes table both a c
  changes_then first next both is a b c p q = record {
    schema = q.schema ∙ p.schema;
    rows = λ rows has. subst (λ r. HasRows table r (c.trees table.tree)) (is rows) (q.rows (first rows) (p.rows rows has));
    others = λ t other plain. q.others t other (rw p.schema plain) ∙ p.others t other plain;
  }

  does_then : (first next both : List Row → List Row) → ((rows : List Row) → next (first rows) ≡ both rows) → (a b c : State) → Does table first a b → Does table next b c → Does table both a c
  does_then first next both is a b c p q = record {
    goes_on = goes_then a b c p.goes_on q.goes_on;
    changes = λ has. let one = p.changes has in changes_then first next both is a.now b.now c.now one (q.changes (one.schema ∙ has));
  }

  pub writes_then : {X Y : Type 0} (first next both : List Row → List Row) → ((rows : List Row) → next (first rows) ≡ both rows) → (a b c : State) (x : X) (r : Result Y Error)
      → Writes table first a b (Ok x) → Writes table next b c r → Writes table both a c r
  writes_then first next both is a b c x r p q =
      let early = λ (clean : HasCleanDisk c). p.done (omega (arith, q.crash.clean)) in
      record {
        done = λ clean. on_ok r (λ second. does_then first next both is a b c (early clean) second) (q.done clean);
        undone = λ clean. on_err r (λ kept. keeps_then a b c (early clean).goes_on kept) (q.undone clean);
        cause = λ clean inside has. let one = early clean in reason_then a b c r one.goes_on p.crash.counts (q.cause clean (rw one.goes_on.mode inside) ((one.changes has).schema ∙ has));
        crash = survives_then a b c _ _ (λ _. ⊥) (λ _ db none. none) (λ _ db none. none) p.crash q.crash;
      }

  -- more rows
  adds_some : {Y : Type 0} (rows more : List Row) (a b c : State) (r : Result Y Error) → HasWritten table (adds rows) a b → Writes table (adds more) b c r → Writes table (adds (rows ++ more)) a c r
  adds_some rows more a b c r p q = writes_then (adds rows) (adds more) (adds (rows ++ more)) (λ before. append_assoc before rows more) a b c (tt {0}) r p q

  -- what a failed call would have changed is not asked
  pub fails : {X Y : Type 0} (change other : List Row → List Row) (a b : State) (r : Result X Error) (e : Error) (out : Result Y Error) → r ≡ Err e → out ≡ Err e → Writes table change a b r → Writes table other a b out
  fails change other a b (Ok x) e out bad end p = absurd cc
  fails change other a b (Err e') e (Ok y) bad end p = absurd cc
  fails change other a b (Err e') e (Err f') bad end p = let same : e' ≡ f' = cc in record { done = λ _. tt {0}; undone = p.undone; cause = λ clean inside has. rw same at (p.cause clean inside has); crash = p.crash }

  pub succeeds : {X Y : Type 0} (change : List Row → List Row) (a b : State) (r : Result X Error) (x : X) (y : Y) → r ≡ Ok x → Writes table change a b r → Writes table change a b (Ok y)
  succeeds change a b (Ok x') x y ok p = record { done = p.done; undone = λ _. tt {0}; cause = λ _ _ _. tt {0}; crash = p.crash }
  succeeds change a b (Err e) x y ok p = absurd cc

  -- a loop that adds the rows of a part of the elements at each turn
  module _ {X : Type 0} (row_of : X → Row) (xs : List X) (i j : ℕ) where
    split : i ≤ j → map row_of (take j xs) ≡ map row_of (take i xs) ++ map row_of (slice_range xs i j)
    split low =
        let whole : j ≡ i + (j - i) = omega arith in
        ap (λ n. map row_of (take n xs)) whole ∙ ap (map row_of) (take-add i (j - i) xs) ∙ map-append row_of (take i xs) (slice_range xs i j)

    pub part_added : {a b c : State} {r : Result (Unit {0}) Error} {n : Unit {0}} → i ≤ j → r ≡ Ok n → HasWritten table (adds (map row_of (take i xs))) a b → Writes table (adds (map row_of (slice_range xs i j))) b c r
        → HasWritten table (adds (map row_of (take j xs))) a c
    part_added {a} {b} {c} {r} {n} low ok p q =
        subst (λ rows. HasWritten table (adds rows) a c) (sym (split low))
        (succeeds (adds (map row_of (take i xs) ++ map row_of (slice_range xs i j))) a c r n (tt {0}) ok (adds_some (map row_of (take i xs)) (map row_of (slice_range xs i j)) a b c r p q))

    pub part_failed : {a b c : State} {r : Result (Unit {0}) Error} {e : Error} {out : Result (Unit {0}) Error} {other : List Row → List Row} → r ≡ Err e → out ≡ Err e → HasWritten table (adds (map row_of (take i xs))) a b
        → Writes table (adds (map row_of (slice_range xs i j))) b c r → Writes table other a c out
    part_failed {a} {b} {c} {r} {e} {out} {other} bad end p q =
        fails (adds (map row_of (take i xs) ++ map row_of (slice_range xs i j))) other a c r e out bad end (adds_some (map row_of (take i xs)) (map row_of (slice_range xs i j)) a b c r p q)
