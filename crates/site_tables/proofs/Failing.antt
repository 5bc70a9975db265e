-- Why the rows of a table of a site aren't read.
use Rattle.std.proofs.Common.{◌≡◌, inl, inr, ℕ, ◌++◌, ◌∷◌, ◌≤◌, List, [], length, map, Result, Ok, IsTrue, sym, ap, subst, subst₂, ◌∙◌, append_assoc, arith, rules, tests, true≢false, nat_le}
use Rattle.std.specs.Prelude.{IsSome}
use Rattle.sqlite.specs.Order.{Row}
use Rattle.sqlite.specs.Table.{Table}
use Rattle.sqlite.specs.Effect.{Database, RefusesToRead}
use Rattle.sqlite.specs.Listing.{understood, reads_listing, IsSourceOf}
use Rattle.sqlite_trees.specs.declared.store.Store.{Ghosts}
use Rattle.sqlite_trees.specs.declared.error.StoreError.{StoreError}
use Rattle.sqlite_trees.specs.declared.error.StoreError.TheVariants.{OutOfMemory, Io, Corrupt, Full, Broken, Unstorable}
use Rattle.sqlite.specs.declared.error.Error.{Error}
use Rattle.sqlite.specs.Held.{Held, state}
use Rattle.sqlite.specs.Given.{IsPlain}
use Rattle.sqlite.specs.State.{State, IsUnchanged, Survives, HasCause, FailsToQuery, IsNotRun, IsNoStatement}
use Rattle.sqlite.proofs.Callers.{command_of}
use Rattle.site_rows.specs.declared.tables.Table.{«Table» as SiteTable}
use Rattle.site_tables.specs.declared.faults.ReadFault.{ReadFault}
use Rattle.site_tables.specs.declared.faults.ReadFault.TheVariants.{NoMemory, OtherTables, BadRow, Database as OfDatabase}
use Rattle.site_tables.specs.Reads.{IsListed, Selects, HasBadRow, ShowsBadRow, FailsToRead, FailsToList, IsReadFault}
use Rattle.site_rows.specs.declared.tables.Version.{Version}
use Rattle.site_tables.specs.Tables.{schema_under}
use Rattle.site_tables.proofs.Answered.{begins_table}

-- ---- errors of the database

at_most : (a b : ℕ) → IsTrue (nat_le a b) → a ≤ b
at_most a b h = search (rules, tests)

same_ok : {A B : Type 0} (a b : A) → ◌≡◌ {A = Result A B} (Ok a) (Ok b) → a ≡ b
same_ok a b e = cc

is_statement : {v : Version} (table : Table) (sql : List ℕ) → Selects v table sql → (s : State) (e : Error) → s.now.schema ≡ schema_under v → IsNoStatement s sql [] e → ⊥
is_statement {v = v} table sql is s e has (inl (fault, known, told)) = subst IsPlain (sym (ap (λ x. understood x sql) has) ∙ known) is.plain
is_statement {v = v} table sql is s e has (inr (c, known, why)) =
    let read = sym (ap (λ x. understood x sql) has) ∙ known in
    let bare : IsPlain (Ok c) = subst IsPlain read is.plain in
    let same : is.alone.0 ≡ c = same_ok _ c (sym is.alone.1 ∙ read) in
    let whole = rw same at is.alone.2 in
    let nameless = rw same at is.alone.3 in
    elim why [
      | inl more ↦ more.0 (at_most (length sql) c.tail whole)
      | inr (inl given) ↦ given.0 (ap length (sym nameless))
      | inr (inr timed) ↦ timed.0 bare.1
    ]

pub fails_read : {v : Version} (table : Table) (sql : List ℕ) → Selects v table sql → (old new : State) (e : Error) → old.now.schema ≡ schema_under v → FailsToQuery sql [] old new e → FailsToRead old new e
unfolding FailsToQuery IsNotRun
fails_read {v = v} table sql is old new e has (inl (inl h)) = absurd (is_statement table sql is old e has h.0)
fails_read {v = v} table sql is old new e has (inl (inr h)) = inl (h.0, h.1, h.2)
fails_read {v = v} table sql is old new e has (inr h) =
    let known = sym h.1.is ∙ ap (λ s. understood s sql) has in
    let bare = subst IsPlain (sym known) is.plain in
    let it = rw (bare.0, bare.1) at h.2 in
    let db : it.0 ≡ old.now = subst (λ b. IsSourceOf b old.now it.0) (ap (λ s. reads_listing s sql) has ∙ is.listing) it.1 in
    let whole : old.now ≡ record { schema = schema_under v; trees = old.now.trees } = ap (λ s. record { schema = s; trees = old.now.trees }) has in
    inr (is.accepted old.step_limit old.now.trees e (subst₂ (λ k d. RefusesToRead old.step_limit k d [] e) (ap command_of known ∙ is.command) (db ∙ whole) it.2))

-- ---- after reads that changed nothing

cause_later : (old mid new : State) (cause : StoreError) → IsUnchanged old mid → old.faults ≤ mid.faults → HasCause mid new ⊥ cause → HasCause old new ⊥ cause
cause_later old mid new OutOfMemory same counts h = tt
cause_later old mid new Io same counts h = omega arith
cause_later old mid new Corrupt same counts h = omega arith
cause_later old mid new Full same counts h = omega arith
cause_later old mid new Broken same counts h = absurd (true≢false (sym same.0.is_open ∙ h))
cause_later old mid new Unstorable same counts h = h

pub fails_later : (old mid new : State) (e : Error) → IsUnchanged old mid → Survives old mid (λ _. ⊥) → FailsToRead mid new e → FailsToRead old new e
fails_later old mid new e same survives (inl h) = inl (h.0, h.1, cause_later old mid new h.0 same survives.counts h.2)
fails_later old mid new e same survives (inr h) = inr (h.0, subst IsSome survives.limit h.1)

-- ---- bad rows

pub bad_read : {v : Version} {X : Type 0} (table : Table) (sql : List ℕ) (row_of : X → Row) → Selects v table sql → (place : ℕ) (old new : State) → old.now.schema ≡ schema_under v → ShowsBadRow sql row_of place old new → HasBadRow table row_of place (old.now.trees table.tree)
bad_read table sql row_of is place old new has h =
    let now : new.now ≡ old.now = h.0.0.now_is in
    let begun = begins_table table sql is new (map row_of h.1 ++ h.2 ∷ []) (ap (λ (d : Database). d.schema) now ∙ has) h.3 in
    let listed = rw append_assoc at (subst (λ (d : Database). IsListed table (d.trees table.tree) ((map row_of h.1 ++ h.2 ∷ []) ++ begun.0)) now begun.1) in
    (h.1, h.2, begun.0, listed, h.4, h.5)

-- ---- a reading of one table

module _ {v : Version} {S X : Type 0} (g : Ghosts S) (named : SiteTable) (table : Table) (row_of : X → Row) (sql : List ℕ) (is : Selects v table sql) (old new : Held S) (has : old.schema ≡ schema_under v) where
  pub read_fault : (fault : ReadFault) → FailsToList g named sql row_of old new fault → IsReadFault v named table row_of (state g old) (state g new) fault
  read_fault NoMemory h = has
  read_fault OtherTables h = absurd h
  read_fault (BadRow t place) h = (has, h.0, bad_read table sql row_of is place (state g old) (state g new) has h.1, h.1.0)
  read_fault (OfDatabase e) (inl h) = (has, fails_read table sql is (state g old) (state g new) e has h)
  read_fault (OfDatabase e) (inr h) =
      let mid = state g h.0 in
      let still : mid.now.schema ≡ schema_under v = ap (λ (d : Database). d.schema) h.1.0.now_is ∙ has in
      (has, fails_later (state g old) mid (state g new) e h.1 h.2 (fails_read table sql is mid (state g new) e still h.3))
