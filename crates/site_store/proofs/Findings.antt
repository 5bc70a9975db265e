-- Where the tables list the rows of a record, its opening finds it, or the machine fails.
use Rattle.std.specs.Prelude.{IsSome, slice_get, map, option_map, string_bytes}
use Rattle.std.specs.List.{enumerate_from}
use Rattle.std.proofs.Common.{◌≡◌, inl, inr, ℕ, zero, suc, ◌<◌, pos, List, [], ◌∷◌, Option, Some, None, length, refl, sym, ap, subst, ◌∙◌, arith}
use Rattle.sqlite_trees.specs.declared.error.StoreError.{StoreError}
use Rattle.sqlite_trees.specs.declared.error.StoreError.TheVariants as stores
use Rattle.sqlite.specs.declared.error.Error.{Error}
use Rattle.sqlite.specs.Effect.{Database}
use Rattle.sqlite.specs.State.{State, IsUnchanged, HasCause, store_error}
use Rattle.event_json.specs.Sites.{Site}
use Rattle.site_core.specs.Records.{Record}
use Rattle.site_rows.specs.Laws.{IsKept, HoldsItems}
use Rattle.site_rows.specs.RecordRows.{HasTables, rows_of, rows_under, store_row, site_row, version_number}
use Rattle.site_rows.specs.declared.tables.Version.{Version}
use Rattle.site_rows.specs.declared.tables.Version.TheVariants.{First, Second}
use Rattle.site_rows.proofs.SameRecalls.{same_number}
use Rattle.site_rows.specs.declared.rows.Rows.{Rows}
use Rattle.site_rows.specs.declared.rows.SiteRow.{SiteRow}
use Rattle.site_rows.specs.declared.rows.StoreRow.{StoreRow}
use Rattle.site_rows.specs.declared.tables.Table.{«Table» as SiteTable}
use Rattle.site_rows.specs.declared.tables.Table.TheVariants.{Pack}
use Rattle.site_rows.proofs.GoodRows.{rows_are_good}
use Rattle.site_tables.specs.AllReads.{AreListed}
use Rattle.site_tables.specs.Reads.{FailsToRead}
use Rattle.site_tables.specs.Stored.{contents_of}
use Rattle.sqlite.specs.Schema.{Schema}
use Rattle.sqlite.specs.Tree.{Trees}
use Rattle.site_tables.specs.Tables.{Has, schema_under}
use Rattle.site_tables.specs.Unreadable.{IsUnreadable}
use Rattle.site_tables.specs.Values.{pack_values}
use Rattle.site_tables.specs.declared.faults.ReadFault.{ReadFault}
use Rattle.site_tables.specs.declared.faults.ReadFault.TheVariants as reads
use Rattle.site_tables.proofs.OnlyRows.{only_rows, no_bad_row}
use Rattle.keeper_core.specs.declared.faults.KeepFault.TheVariants as faults
use Rattle.site_store.specs.Openings.{ListsRows, ListsUnder, opening_fault}
use Rattle.site_store.specs.Opened.{own_name, name_at, IsRefused, IsOfMachine, unread}
use Rattle.site_store.specs.declared.opening.OpenFault.{OpenFault}
use Rattle.site_store.specs.declared.opening.OpenFault.TheVariants.{NoMemory, NotAStore, Version as OpenVersion, OtherSite, BadRow, Device, Store}
use Rattle.site_store.proofs.Named.{named_own, find_numbered}
use Rattle.site_store.proofs.ReadableRows.{rows_rise}

-- ---- the machine

error_of : (old new : State) (cause : StoreError) → HasCause old new ⊥ cause → IsOfMachine old (unread (reads.Database (store_error cause)))
error_of old new stores.OutOfMemory h = tt
error_of old new stores.Io h = tt
error_of old new stores.Corrupt h = tt
error_of old new stores.Full h = tt
error_of old new stores.Broken h = tt
error_of old new stores.Unstorable h = absurd h

error_is : (old new : State) (e : Error) → FailsToRead old new e → IsOfMachine old (unread (reads.Database e))
error_is old new e (inl h) = subst (λ x. IsOfMachine old (unread (reads.Database x))) (sym h.1) (error_of old new h.0 h.2)
error_is old new e (inr h) = subst (λ x. IsOfMachine old (unread (reads.Database x))) (sym h.0) h.1

-- two versions have two schemas
pub one_schema : (v w : Version) → schema_under v ≡ schema_under w → v ≡ w
one_schema First First is = refl
one_schema First Second is = absurd (let e : 10 ≡ 12 = ap (λ (s : Schema). length s.tables) is in cc)
one_schema Second First is = absurd (let e : 12 ≡ 10 = ap (λ (s : Schema). length s.tables) is in cc)
one_schema Second Second is = refl

pub of_machine : (v : Version) (r : Record) (why : ReadFault) (old new : State) → ListsUnder v r old → IsUnreadable old new why → IsOfMachine old (unread why)
of_machine v r reads.NoMemory old new it h = tt
of_machine v r reads.OtherTables old new it h = absurd (h v it.schema)
of_machine v r (reads.BadRow table place) old new it h =
    let there : Has v table = subst (λ w. Has w table) (one_schema h.0 v (sym h.1.0 ∙ it.schema)) h.1.1.0 in
    absurd (no_bad_row v table place (rows_under v r) old.now.trees there (rows_rise v r) it.listed h.1.2)
of_machine v r (reads.Database e) old new it h = error_is old new e h.1.1

pub rows_found : (v : Version) (r : Record) (rows : Rows) (s : State) → ListsUnder v r s → s.now.schema ≡ schema_under rows.version → AreListed rows.version (contents_of rows) s.now.trees → rows ≡ rows_under v r
rows_found v r rows s it schema listed =
    let same : rows.version ≡ v = one_schema rows.version v (sym schema ∙ it.schema) in
    only_rows v (rows_under v r) rows s.now.trees (sym same) (rows_rise v r) it.listed (subst (λ w. AreListed w (contents_of rows) s.now.trees) same listed)

-- they are of that version, and of no other record
pub rows_are : (v : Version) (r : Record) (rows : Rows) (s : State) → ListsUnder v r s → s.now.schema ≡ schema_under rows.version → AreListed rows.version (contents_of rows) s.now.trees
    → (rows.version ≡ v) × (rows ≡ rows_under rows.version r)
rows_are v r rows s it schema listed =
    let found = rows_found v r rows s it schema listed in
    let version : rows.version ≡ v = ap (λ (x : Rows). x.version) found in
    (version, found ∙ ap (λ w. rows_under w r) (sym version))

-- ---- rows of such a site are not refused

one_row : (a b : StoreRow) (more : List StoreRow) → a ∷ more ≡ b ∷ [] → a ≡ b
one_row a b more e = cc

no_name : (sites : List Site) (at number : ℕ) → at < length sites → option_map (λ (s : SiteRow). s.name) (option_map (λ (s : Site). site_row (number, s)) (slice_get sites at)) ≡ None → ⊥
no_name [] at number low e = absurd (omega (arith, low))
no_name (s ∷ sites) zero number low e = let x : Some s.name ≡ None = e in absurd cc
no_name (s ∷ sites) (suc at) number low e = no_name sites at number (omega (arith, low)) e

-- a site of the list has a name in its rows
unnamed : (sites : List Site) (me : ℕ) → me < length sites → name_at (map site_row (enumerate_from 0 sites)) (pos me) ≡ None → ⊥
unnamed sites me low none = no_name sites me me low (sym (ap (option_map (λ (s : SiteRow). s.name)) (find_numbered sites 0 me me (omega arith))) ∙ none)

first_is : (v : Version) (r : Record) (row : StoreRow) (rest : List StoreRow) → (rows_under v r).store ≡ row ∷ rest → row ≡ store_row v r
first_is v r row rest e = one_row row (store_row v r) rest (sym e)

-- two versions have two numbers
pub one_version : (v w : Version) → version_number v ≡ version_number w → v ≡ w
one_version First First is = refl
one_version First Second is = absurd (let one : 1 ≡ 2 = same_number 1 2 is in cc)
one_version Second First is = absurd (let one : 2 ≡ 1 = same_number 2 1 is in cc)
one_version Second Second is = refl

-- what was listed stands in tables of its version
unmapped : {X Y : Type 0} (f : X → Y) (xs : List X) → map f xs ≡ [] → xs ≡ []
unmapped f [] e = refl
unmapped f (x ∷ xs) e = cc

pub has_tables : (rows : Rows) (trees : Trees) → AreListed rows.version (contents_of rows) trees → HasTables rows
has_tables rows trees listed first = unmapped pack_values rows.pack (listed.rest Pack (λ has. subst (λ w. Has w Pack) first has))

pub not_refused : (v : Version) (r : Record) (name : List ℕ) (fault : OpenFault) → IsKept r → HoldsItems r → HasTables (rows_under v r) → own_name r ≡ name → IsRefused name (rows_under v r) fault → fault ≡ NoMemory
not_refused v r name NoMemory kept items tables named h = refl
not_refused v r name NotAStore kept items tables named (inl h) = absurd (let e : store_row v r ∷ [] ≡ [] = h in cc)
not_refused v r name NotAStore kept items tables named (inr h) =
    let same : h.0 ≡ store_row v r = first_is v r h.0 h.1 h.3 in
    absurd (h.5 (one_version h.2 v (sym h.4 ∙ ap (λ (x : StoreRow). x.version) same)))
not_refused v r name (OpenVersion found) kept items tables named h =
    let same : h.0 ≡ store_row v r = first_is v r h.0 h.1 h.2 in
    absurd (h.4 v (sym h.3 ∙ ap (λ (x : StoreRow). x.version) same))
not_refused v r name (OtherSite found) kept items tables named h = absurd (h.1 (sym (named_own v r (rows_under v r) (string_bytes found) refl h.0) ∙ named))
not_refused v r name (BadRow bad) kept items tables named (inl h) =
    let me = r.engagement.me in
    let same : h.0.row ≡ store_row v r = first_is v r h.0.row h.0.rest h.0.first in
    let none : name_at (map site_row (enumerate_from 0 r.sites)) (pos me) ≡ None = subst (λ (x : StoreRow). name_at (map site_row (enumerate_from 0 r.sites)) x.me ≡ None) same h.0.name_is in
    absurd (unnamed r.sites me kept.sound.me none)
not_refused v r name (BadRow bad) kept items tables named (inr h) = absurd (rows_are_good v r kept items tables bad.table bad.row h.1.1)
not_refused v r name Device kept items tables named h = absurd h
not_refused v r name Store kept items tables named h = absurd h

-- ---- a keeper that isn't open

fault_of : (old new : State) (cause : StoreError) → HasCause old new ⊥ cause → opening_fault (store_error cause) ≡ faults.Store → IsSome old.step_limit
fault_of old new stores.OutOfMemory h e = absurd cc
fault_of old new stores.Io h e = absurd cc
fault_of old new stores.Corrupt h e = absurd cc
fault_of old new stores.Full h e = absurd cc
fault_of old new stores.Broken h e = absurd cc
fault_of old new stores.Unstorable h e = absurd h

pub fault_is : (old new : State) (e : Error) → FailsToRead old new e → opening_fault e ≡ faults.Store → IsSome old.step_limit
fault_is old new e (inl h) is = fault_of old new h.0 h.2 (sym (ap opening_fault h.1) ∙ is)
fault_is old new e (inr h) is = h.1

-- rows that are listed after a reading which changed nothing were listed before
pub listed_before : (v : Version) (r : Record) (old new : State) → IsUnchanged old new → ListsUnder v r new → ListsUnder v r old
listed_before v r old new same it =
    let was : new.now ≡ old.now = same.0.now_is in
    record {
      schema = sym (ap (λ (d : Database). d.schema) was) ∙ it.schema;
      listed = subst (λ (d : Database). AreListed v (contents_of (rows_under v r)) d.trees) was it.listed;
    }

limit_still : (old new : State) → new.step_limit ≡ old.step_limit → IsSome old.step_limit → IsSome new.step_limit
limit_still old new same some = subst IsSome (sym same) some

-- tables that list the rows of a record can't be read only where the limit on steps was met, or for another fault
pub refused_store : (r : Record) (table : SiteTable) (place : ℕ) (old new : State) → IsUnreadable old new (reads.BadRow table place) → ListsRows r new → ⊥
refused_store r table place old new h it = let was = listed_before Second r old new h.1.3 it in no_bad_row Second table place (rows_of r) old.now.trees tt (rows_rise Second r) was.listed h.1.2

pub steps_met : (e : Error) (old new : State) → IsUnreadable old new (reads.Database e) → new.step_limit ≡ old.step_limit → opening_fault e ≡ faults.Store → IsSome new.step_limit
steps_met e old new h same is = limit_still old new same (fault_is old new e h.1.1 is)

pub no_limit : (limit : Option ℕ) → limit ≡ None → IsSome limit → ⊥
no_limit None none some = absurd cc
no_limit (Some n) none some = absurd cc
