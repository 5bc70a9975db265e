-- What an upsert of one row leaves of a table whose key is the rowid.
use Rattle.std.proofs.Common.{◌≡◌, inl, inr, ℕ, ℤ, ◌+◌, ◌/◌, Option, Some, None, Ok, Err, List, [], ◌∷◌, ◌++◌, map, drop, length, Bool, true, false, not, filter, refl, sym, ap, subst, ◌∙◌, append-nil}
use Rattle.std.specs.List.Sorted.{IsPermutation}
use Rattle.std.proofs.lemmas.List.Sorted.{IsPermutation-map}
use Rattle.sqlite.specs.declared.types.Value.{Value}
use Rattle.sqlite.specs.declared.types.Value.TheVariants.{Int}
use Rattle.sqlite.specs.Collation.TheVariants.{Binary}
use Rattle.sqlite.specs.Order.{Row}
use Rattle.sqlite.specs.Table.{Table}
use Rattle.sqlite.specs.Schema.{Schema}
use Rattle.sqlite.specs.Tree.{Trees}
use Rattle.sqlite.specs.Term.{Term, eval_all}
use Rattle.sqlite.specs.Source.TheVariants.{Values}
use Rattle.sqlite.specs.Edit.{edit_of}
use Rattle.sqlite.specs.Rowids.TheVariants.{Chosen, Given}
use Rattle.sqlite.specs.Effect.{Database, value_rows, edit_error}
use Rattle.sqlite.specs.Rows.{Written, Task, InsertsOr, Upserts, Meets, Clears, Puts, Tries, TriesEach, Updates, stamped, shown, nothing, count_of}
use Rattle.sqlite.specs.State.{State, mode_of, Executes}
use Rattle.sqlite.specs.Listing.{understood}
use Rattle.sqlite.proofs.Callers.{IsPlain, command_of, runs_as, one_step, one_permutation}
use Rattle.sqlite_schema.specs.Rules.{equal}
use Rattle.sqlite_schema.specs.declared.command.Conflict.TheVariants.{Abort}
use Rattle.sqlite_schema.specs.declared.command.Upsert.{Upsert}
use Rattle.sqlite_schema.specs.declared.schema.Keys.TheVariants.{Enforced}
use Rattle.sqlite_trees.specs.Tree.{rowid}
use Rattle.sqlite_trees.specs.View.{is_int}
use Rattle.sqlite_trees.proofs.ListLemmas.{map-map, filter_all}
use Rattle.sqlite_rules.specs.Lists.{Has}
use Rattle.sqlite_rules.specs.Keys.{conflicts, AreConflicts}
use Rattle.sqlite_rules.specs.Cast.{cast_row}
use Rattle.sqlite_rules.specs.Edit.{id_in, with_rowid, taken_by, Applies}
use Rattle.sqlite_rules.specs.Calls.{ids_of}
use Rattle.sqlite_rules.specs.Action.{works}
use Rattle.sqlite_rules.proofs.ListLemmas.{all_from, test_has}
use Rattle.site_tables.specs.TableRows.{visible, HasRows, Keeps, Changes, has_key, without_key, key_of, puts}
use Rattle.site_tables.specs.Commands.{row_terms, upsert_terms, same_rowid, upsert_query, upserts_row}
use Rattle.site_tables.proofs.Applied.{keeps_others}
use Rattle.site_tables.proofs.Removed.{so_false, left_is, has_left}
use Rattle.site_tables.proofs.Answered.{passes_all}
use Rattle.site_tables.proofs.Inserted.{IsSimple, source_of, went, same_value, on_table, counts_none, chosen}
use Rattle.site_tables.proofs.Updated.{has_edited, updates_found, number_is, only_one}

abbrev clause_of : Table → Upsert
clause_of table = record { target = Some (0 ∷ []); update = Some (upsert_query table) }

-- what the parameters are to the update, besides a row of the table
abbrev pub given_of : Table → Row → Row → Value → Row
given_of table params new id = params ++ id ∷ shown table new

-- what the table makes of the parameters, as a row of this number
pub record IsNumbered (schema : Schema) (table : Table) (params new : Row) (k : ℤ) : Type 0 where
  pub quiet : (gone news : List Row) → works schema Enforced 0 table.tree gone news ≡ []
  pub stored : (tree : List Row) → with_rowid Chosen tree (cast_row table (source_of table params)) ≡ new
  pub shows : visible table (cast_row table new) ≡ params
  pub key : key_of table params ≡ Int k ∷ []
  pub clash : (r : Row) → conflicts (Some (0 ∷ [])) schema.indexes table new r ≡ equal Binary (rowid r) (Int k)
  pub reads : (r : Row) → equal Binary (rowid r) (Int k) ≡ has_key table (Int k ∷ []) (visible table r)
  pub finds : (r : Row) → passes_all (same_rowid table) (given_of table params new (Int k)) r ≡ equal Binary (rowid r) (Int k)
  pub makes : (r : Row) → rowid r ≡ Int k → visible table (cast_row table (drop 1 (eval_all (upsert_terms table) (given_of table params new (Int k) ∷ r ∷ [])))) ≡ params
  pub names : (r : Row) → rowid (eval_all (upsert_terms table) (given_of table params new (Int k) ∷ r ∷ [])) ≡ rowid r

module _ (limit : Option ℕ) (schema : Schema) (table : Table) (params new : Row) (k : ℤ) (is : IsNumbered schema table params new k) (db : Trees) where
  abbrev task : Task
  task = record { limit = limit; keys = Enforced; schema = schema; table = table; params = params }

  abbrev Left : Trees → Type 0
  Left next = Keeps schema table.tree db next × ((rows : List Row) → HasRows table rows (db table.tree) → HasRows table (without_key table (Int k ∷ []) rows ++ params ∷ []) (next table.tree))

  abbrev tied : Row → Bool
  tied r = equal Binary (rowid r) (Int k)

  -- the row is besides the others
  put_new : (w : Written) → ((r : Row) → Has (db table.tree) r → tied r ≡ false) → Puts task new db (Ok w) → Left w.trees
  put_new w free h =
      let edit = went h in
      let one = edit_of db table [] Given 0 (new ∷ []) in
      let same : w.trees ≡ edit.0 = ap (λ (it : Written). it.trees) (same_value edit.2) in
      let done = subst (Applies schema Enforced db one) (sym same) (one_step schema Enforced db edit.0 one (is.quiet (taken_by db one) one.news) edit.1) in (
        keeps_others schema db w.trees one done,
        λ rows has.
            let stay : filter (λ r. not (tied r)) (db table.tree) ≡ db table.tree = filter_all (λ r. not (tied r)) (db table.tree) (all_from (λ r. not (tied r) ≡ true) (db table.tree) (λ r there. ap not (free r there))) in
            let left = subst (HasRows table (without_key table (Int k ∷ []) rows)) stay (has_left table (Int k ∷ []) tied is.reads rows (db table.tree) has) in
            subst (λ row. HasRows table (without_key table (Int k ∷ []) rows ++ row ∷ []) (w.trees table.tree)) is.shows
            (has_edited schema table db w.trees [] 0 (new ∷ []) (without_key table (Int k ∷ []) rows) left done),
      )

  -- the row comes in place of the one of its number
  put_over : (w : Written) (r : Row) → Has (db table.tree) r → tied r ≡ true → rowid r ≡ Int k → Updates task (upsert_query table) (given_of table params new (Int k)) db (Ok w) → Left w.trees
  put_over w r there pass id h =
      let given = given_of table params new (Int k) in
      let shows = upsert_terms table in
      let p = passes_all (same_rowid table) given in
      let f = λ (x : Row). eval_all shows (given ∷ x ∷ []) in
      let tree = db table.tree in
      let found = updates_found limit schema table params given (same_rowid table) shows db w is.quiet h in (
        keeps_others schema db w.trees (edit_of db table (ids_of found.0) Given 1 found.0) found.2,
        λ rows has.
            let alone : filter p tree ≡ r ∷ [] = only_one p (Int k) tree r has.rising
            (λ x at passes. number_is (rowid x) k (test_has (λ x. is_int (rowid x)) tree x has.keyed at) (sym (is.finds x) ∙ passes)) there (is.finds r ∙ pass) in
            let one : found.0 ≡ f r ∷ [] = one_permutation (f r) found.0 (subst (λ xs. IsPermutation (map f xs) found.0) alone found.1) in
            let ids : IsPermutation (ids_of (filter p tree)) (ids_of found.0) =
            subst (λ xs. IsPermutation xs (ids_of found.0)) (map-map (λ x. id_in (rowid x)) f (filter p tree) ∙ ids_same given (filter p tree)) (IsPermutation-map (λ x. id_in (rowid x)) (map f (filter p tree)) found.0 found.1) in
            let left = subst (HasRows table (without_key table (Int k ∷ []) rows)) (sym (left_is p tree has.keyed has.rising (ids_of found.0) ids))
            (has_left table (Int k ∷ []) p (λ x. is.finds x ∙ is.reads x) rows tree has) in
            let all = has_edited schema table db w.trees (ids_of found.0) 1 found.0 (without_key table (Int k ∷ []) rows) left found.2 in
            subst (λ row. HasRows table (without_key table (Int k ∷ []) rows ++ row ∷ []) (w.trees table.tree)) (is.makes r id)
            (subst (λ xs. HasRows table (without_key table (Int k ∷ []) rows ++ map (λ s. visible table (cast_row table (drop 1 s))) xs) (w.trees table.tree)) one all),
      )
    where
      ids_same : (given : Row) (xs : List Row) → map (λ x. id_in (rowid (eval_all (upsert_terms table) (given_of table params new (Int k) ∷ x ∷ [])))) xs ≡ ids_of xs
      ids_same given [] = refl
      ids_same given (x ∷ xs) = rw (is.names x, ids_same given xs) refl

  over_keeps : (given : Row) (w : Written) → Updates task (upsert_query table) given db (Ok w) → Keeps schema table.tree db w.trees
  over_keeps given w h =
      let found = updates_found limit schema table params given (same_rowid table) (upsert_terms table) db w is.quiet h in
      keeps_others schema db w.trees (edit_of db table (ids_of found.0) Given 1 found.0) found.2

  -- a conflict or none
  meets : (w : Written) (found : List Row) → AreConflicts (Some (0 ∷ [])) schema.indexes table (db table.tree) new found
      → Meets task (Upserts task Abort new db []) new db (clause_of table) found (Ok w) → Left w.trees
  meets w [] sure h = put_new w (λ r there. so_false (tied r) (λ pass. sure.complete r there (is.clash r ∙ pass))) (cleared h.0 h.2)
    where
      cleared : (found : List Row) → Clears task Abort new db found (Ok w) → Puts task new db (Ok w)
      cleared [] h = h
      cleared (x ∷ more) h = h
  meets w (x ∷ more) sure h =
      let it = sure.sound x (inl refl) in
      let pass = sym (is.clash it.0) ∙ it.2 in (
        over_keeps (given_of table params new (rowid x)) w h,
        λ rows has.
            let id = number_is (rowid it.0) k (test_has (λ r. is_int (rowid r)) (db table.tree) it.0 has.keyed it.1) pass in
            (put_over w it.0 it.1 pass id (subst (λ v. Updates task (upsert_query table) (given_of table params new v) db (Ok w)) (ap rowid it.3 ∙ id) h)).1 rows has,
      )

  tries : (w : Written) → Tries task Abort (clause_of table ∷ []) new db (Ok w) → Left w.trees
  tries w (inl refused) = absurd (let e = refused.1 in cc)
  tries w (inr (None, judged, h)) = meets w h.0 h.1 h.2
  tries w (inr (Some why, judged, h)) = absurd (let e : Ok w ≡ Err (Some (edit_error why)) = h in cc)

  inserts_or : (terms : List Term) (width : ℕ) (source : Row) (w : Written) → table.is_counted ≡ false → stamped table params ≡ params → value_rows params width (length terms / width) terms ≡ source ∷ []
      → ((tree : List Row) → with_rowid Chosen tree (cast_row table source) ≡ new) → InsertsOr task Abort (clause_of table ∷ []) (Values terms width) db (Ok w) → Left w.trees
  inserts_or terms width source w uncounted unstamped one stored h =
      let given = went h in
      let counter = went given.2 in
      let tried = went counter.2 in
      let counted = went tried.2 in
      let rows : given.0 ≡ source ∷ [] = given.1.1 ∙ ap (λ p. value_rows p width (length terms / width) terms) unstamped ∙ one in
      let same : w.trees ≡ tried.0.0.trees = ap (λ (it : Written). it.trees) (same_value counted.2) ∙ counts_none task tried.0.0.trees counted.0 counter.0 _ uncounted counted.1 in
      let each = went (subst (λ xs. TriesEach task Abort (clause_of table ∷ []) xs (count_of counter.0) (nothing db) (Ok tried.0)) rows tried.1) in
      let last : tried.0.0.trees ≡ each.0.trees = ap (λ (p : Written × ℤ). p.0.trees) (same_value each.2) in
      let new_is = ap (λ how. with_rowid how (db table.tree) (cast_row table source)) (chosen table _ uncounted) ∙ stored (db table.tree) in
      subst Left (sym (same ∙ last)) (tries each.0 (subst (λ n. Tries task Abort (clause_of table ∷ []) n db (Ok each.0)) new_is each.1))

-- a text that inserts its parameters as one row, or puts them in place of the row of their number
pub upserts_one : (sql : List ℕ) (schema : Schema) (at : ℕ) (table : Table) (params row : Row) (k : ℤ) (old new : State) (count : ℕ) → IsSimple schema at table
    → (command_of (understood schema sql) ≡ upserts_row at table) × IsPlain (understood schema sql)
    → value_rows params (length table.columns + 1) (length (row_terms table) / (length table.columns + 1)) (row_terms table) ≡ source_of table params ∷ [] → IsNumbered schema table params row k
    → old.now.schema ≡ schema → Executes sql params old new (Ok count) → Changes table (puts table params) old.now new.now
upserts_one sql schema at table params row k old new count simple is one numbered has h =
    let w = runs_as sql params old new schema has (upserts_row at table) is.0 is.1 count h in
    let ran = on_table old.step_limit (mode_of old) params old.now new.now schema at table (upserts_row at table) w.tally has simple.listed w.changed in
    let left = inserts_or old.step_limit schema table params row k numbered old.now.trees (row_terms table) (length table.columns + 1) (source_of table params) ran.0 simple.uncounted (rw (simple.unstamped, append-nil params) refl) one numbered.stored ran.1 in
    let trees = sym (ap (λ (d : Database). d.trees) ran.2) in
    record {
      schema = ap (λ (d : Database). d.schema) ran.2 ∙ sym has;
      rows = λ rows there. rw numbered.key (subst (λ (t : Trees). HasRows table (without_key table (Int k ∷ []) rows ++ params ∷ []) (t table.tree)) trees (left.1 rows there));
      others = rw has (subst (λ t. Keeps schema table.tree old.now.trees t) trees left.0);
    }
