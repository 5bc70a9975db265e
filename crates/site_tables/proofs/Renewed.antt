-- What an UPDATE of every row leaves of a table.
use Rattle.std.proofs.Common.{◌≡◌, ℕ, Ok, List, [], ◌∷◌, map, drop, true, filter, refl, sym, ap, subst, ◌∙◌}
use Rattle.std.specs.List.Sorted.{IsPermutation}
use Rattle.std.proofs.lemmas.List.Sorted.{IsPermutation-refl, IsPermutation-sym, IsPermutation-trans, IsPermutation-map}
use Rattle.sqlite.specs.Order.{Row}
use Rattle.sqlite.specs.Table.{Table}
use Rattle.sqlite.specs.Schema.{Schema}
use Rattle.sqlite.specs.Tree.{Trees}
use Rattle.sqlite.specs.Term.{Term, eval_all}
use Rattle.sqlite.specs.Edit.{edit_of}
use Rattle.sqlite.specs.Rowids.TheVariants.{Given}
use Rattle.sqlite.specs.Effect.{Database}
use Rattle.sqlite.specs.State.{State, mode_of, Executes}
use Rattle.sqlite.specs.Listing.{understood}
use Rattle.sqlite.proofs.Callers.{IsPlain, command_of, runs_as}
use Rattle.sqlite_schema.specs.declared.schema.Keys.TheVariants.{Enforced}
use Rattle.sqlite_trees.specs.Tree.{rowid}
use Rattle.sqlite_trees.proofs.ListLemmas.{map-map, filter_all, all_of}
use Rattle.sqlite_rules.specs.Cast.{cast_row}
use Rattle.sqlite_rules.specs.Edit.{id_in, without_all, Applies}
use Rattle.sqlite_rules.specs.Calls.{ids_of}
use Rattle.sqlite_rules.specs.Action.{works}
use Rattle.site_tables.specs.TableRows.{visible, HasRows, Changes}
use Rattle.site_tables.specs.Commands.{update_terms, updates_each}
use Rattle.site_tables.proofs.RowLemmas.{all_gone}
use Rattle.site_tables.proofs.Applied.{keeps_others}
use Rattle.site_tables.proofs.Answered.{passes_all}
use Rattle.site_tables.proofs.Inserted.{IsSimple, on_table}
use Rattle.site_tables.proofs.Updated.{has_edited, updates_found}

-- the same rows in another order
pub has_reordered : (table : Table) (xs ys tree : List Row) → IsPermutation xs ys → HasRows table xs tree → HasRows table ys tree
has_reordered table xs ys tree same has = record { keyed = has.keyed; rising = has.rising; same = IsPermutation-trans (map (visible table) tree) xs ys has.same same }

map_same : {A B : Type 0} (f h : A → B) (xs : List A) → ((x : A) → f x ≡ h x) → map f xs ≡ map h xs
map_same f h [] same = refl
map_same f h (x ∷ xs) same = rw (same x, map_same f h xs same) refl

module _ (schema : Schema) (table : Table) (values : List Term) (params : Row) (f : Row → Row)
    (makes : (r : Row) → visible table (cast_row table (drop 1 (eval_all (update_terms values) (params ∷ r ∷ [])))) ≡ f (visible table r)) (db next : Trees) where
  abbrev made : Row → Row
  made r = eval_all (update_terms values) (params ∷ r ∷ [])

  abbrev seen : Row → Row
  seen s = visible table (cast_row table (drop 1 s))

  renewed : (found rows : List Row) → IsPermutation (map made (db table.tree)) found → Applies schema Enforced db (edit_of db table (ids_of found) Given 1 found) next → HasRows table rows (db table.tree)
      → HasRows table (map f rows) (next table.tree)
  renewed found rows same done has =
      let tree = db table.tree in
      let ids : IsPermutation (ids_of tree) (ids_of found) = subst (λ xs. IsPermutation xs (ids_of found)) (map-map (λ r. id_in (rowid r)) made tree) (IsPermutation-map (λ r. id_in (rowid r)) (map made tree) found same) in
      let none : HasRows table [] (without_all tree (ids_of found)) = rw (all_gone tree (ids_of found) has.keyed ids) (record { keyed = refl; rising = tt; same = IsPermutation-refl [] }) in
      let shown : map seen (map made tree) ≡ map f (map (visible table) tree) = map-map seen made tree ∙ map_same (λ r. seen (made r)) (λ r. f (visible table r)) tree makes ∙ sym (map-map f (visible table) tree) in
      let back : IsPermutation (map seen found) (map f (map (visible table) tree)) = subst (IsPermutation (map seen found)) shown (IsPermutation-sym (map seen (map made tree)) (map seen found) (IsPermutation-map seen (map made tree) found same)) in
      has_reordered table (map seen found) (map f rows) (next table.tree)
      (IsPermutation-trans (map seen found) (map f (map (visible table) tree)) (map f rows) back (IsPermutation-map f (map (visible table) tree) rows has.same))
      (has_edited schema table db next (ids_of found) 1 found [] none done)

-- a text that sets columns of every row
pub updates_every : (sql : List ℕ) (schema : Schema) (at : ℕ) (table : Table) (values : List Term) (params : Row) (f : Row → Row) (old new : State) (count : ℕ) → IsSimple schema at table
    → (command_of (understood schema sql) ≡ updates_each at table values) × IsPlain (understood schema sql) → ((gone news : List Row) → works schema Enforced 0 table.tree gone news ≡ [])
    → ((r : Row) → visible table (cast_row table (drop 1 (eval_all (update_terms values) (params ∷ r ∷ [])))) ≡ f (visible table r))
    → old.now.schema ≡ schema → Executes sql params old new (Ok count) → Changes table (map f) old.now new.now
updates_every sql schema at table values params f old new count simple is quiet makes has h =
    let w = runs_as sql params old new schema has (updates_each at table values) is.0 is.1 count h in
    let ran = on_table old.step_limit (mode_of old) params old.now new.now schema at table (updates_each at table values) w.tally has simple.listed w.changed in
    let found = updates_found old.step_limit schema table params params [] (update_terms values) old.now.trees ran.0 quiet ran.1 in
    let edit = edit_of old.now.trees table (ids_of found.0) Given 1 found.0 in
    let done = subst (Applies schema Enforced old.now.trees edit) (sym (ap (λ (d : Database). d.trees) ran.2)) found.2 in
    let tree = old.now.trees table.tree in
    let whole : filter (passes_all [] params) tree ≡ tree = filter_all (passes_all [] params) tree (all_of (λ r. passes_all [] params r ≡ true) (λ _. refl) tree) in
    let all = subst (λ rows. IsPermutation (map (λ r. eval_all (update_terms values) (params ∷ r ∷ [])) rows) found.0) whole found.1 in
    record {
      schema = ap (λ (d : Database). d.schema) ran.2 ∙ sym has;
      rows = λ rows there. renewed schema table values params f makes old.now.trees new.now.trees found.0 rows all done there;
      others = rw has (keeps_others schema old.now.trees new.now.trees edit done);
    }
