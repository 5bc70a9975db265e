-- What is left of a table where the rows of one key are deleted.
use Rattle.std.proofs.Common.{◌≡◌, inl, inr, ℕ, ℤ, Option, Ok, List, [], ◌∷◌, map, Bool, true, false, not, ◌||◌, if◌then◌else◌, filter, refl, sym, ap, subst, ◌∙◌, true≢false}
use Rattle.std.specs.List.{list_any}
use Rattle.std.specs.List.Sorted.{IsPermutation}
use Rattle.std.specs.Ordering.{is_eq, on}
use Rattle.std.specs.declared.cmp.Ordering.{Ordering}
use Rattle.std.specs.declared.cmp.Ordering.TheVariants.{Less, Equal, Greater}
use Rattle.std.proofs.lemmas.Cmp.{on_total}
use Rattle.std.proofs.lemmas.List.Sorted.{list_any-IsPermutation}
use Rattle.sqlite.specs.declared.types.Value.TheVariants.{Null, Int}
use Rattle.sqlite.specs.Order.{Row}
use Rattle.sqlite.specs.Table.{Table}
use Rattle.sqlite_value.specs.Order.{value_cmp}
use Rattle.sqlite_value.proofs.OrderLemmas.{value_cmp_total}
use Rattle.sqlite_trees.specs.Tree.{rowid, has_rowid, without_rowid, IsTable}
use Rattle.sqlite_trees.specs.View.{is_int}
use Rattle.sqlite_trees.proofs.ListLemmas.{filter_same, filter-map, IsPermutation-filter, ascending-filter}
use Rattle.sqlite_rules.specs.Lists.{Has}
use Rattle.sqlite_rules.specs.Edit.{id_in, without_all, have_rowids}
use Rattle.sqlite_rules.specs.Calls.{ids_of}
use Rattle.sqlite_rules.proofs.ListLemmas.{all_from, some_has, some_from, has_filtered, test_has, test_from}
use Rattle.sqlite_rules.proofs.TableLemmas.{int_is}
use Rattle.std.proofs.lemmas.List.Sorted.{IsPermutation-map}
use Rattle.sqlite_trees.proofs.ListLemmas.{map-map}
use Rattle.sqlite.specs.Schema.{Schema}
use Rattle.sqlite.specs.Tree.{Trees}
use Rattle.sqlite.specs.Term.{col}
use Rattle.sqlite.specs.Edit.{edit_of}
use Rattle.sqlite.specs.Rowids.TheVariants.{Given}
use Rattle.sqlite_schema.specs.declared.schema.Keys.TheVariants.{Enforced}
use Rattle.sqlite_rules.specs.Edit.{Applies}
use Rattle.sqlite_rules.specs.Action.{works}
use Rattle.sqlite.specs.Effect.{Database}
use Rattle.sqlite.specs.Rows.{Written, Deletes}
use Rattle.sqlite.specs.State.{State, mode_of, Executes}
use Rattle.sqlite.specs.Listing.{understood}
use Rattle.sqlite.proofs.Callers.{IsPlain, command_of, runs_as, one_step}
use Rattle.site_tables.specs.Commands.{rowids, key_filter, deletes_key}
use Rattle.site_tables.proofs.Answered.{passes_all, whole_where, shows_all}
use Rattle.site_tables.proofs.Applied.{keeps_others}
use Rattle.site_tables.proofs.Inserted.{IsSimple, went, same_value, on_table}
use Rattle.site_tables.specs.TableRows.{visible, HasRows, Changes, has_key, without_key}
use Rattle.site_tables.proofs.RowLemmas.{own}
use Rattle.site_tables.proofs.Order.{one_of}

abbrev named : List ℤ → Row → Bool
named ids row = list_any (λ id. has_rowid id row) ids

not_both : (id : ℤ) (ids : List ℤ) (rows : List Row) → filter (λ r. not (named ids r)) (without_rowid id rows) ≡ filter (λ r. not (named (id ∷ ids) r)) rows
not_both id ids [] = refl
not_both id ids (r ∷ rows) =
    elim (has_rowid id r) as (λ b. filter (λ r. not (named ids r)) (if not b then r ∷ without_rowid id rows else without_rowid id rows)
    ≡ (if not (b || named ids r) then r ∷ filter (λ r. not (named (id ∷ ids) r)) rows else filter (λ r. not (named (id ∷ ids) r)) rows))
    [ true ↦ not_both id ids rows | false ↦ ap (λ left. if not (named ids r) then r ∷ left else left) (not_both id ids rows) ]

all_stay : (rows : List Row) → filter (λ r. not (named [] r)) rows ≡ rows
all_stay [] = refl
all_stay (r ∷ rows) = ap (λ left. r ∷ left) (all_stay rows)

left_by_ids : (ids : List ℤ) (rows : List Row) → without_all rows ids ≡ filter (λ r. not (named ids r)) rows
left_by_ids [] rows = sym (all_stay rows)
left_by_ids (id ∷ ids) rows = left_by_ids ids (without_rowid id rows) ∙ not_both id ids rows

any_map : {A B : Type 0} (p : B → Bool) (f : A → B) (xs : List A) → list_any p (map f xs) ≡ list_any (λ x. p (f x)) xs
any_map p f [] = refl
any_map p f (x ∷ xs) = ap (λ b. p (f x) || b) (any_map p f xs)

equals : (o : Ordering) → is_eq o ≡ true → o ≡ Equal
equals Less h = absurd cc
equals Equal h = refl
equals Greater h = absurd cc

filtered_has : (p : Row → Bool) (rows : List Row) (x : Row) → Has rows x → p x ≡ true → Has (filter p rows) x
filtered_has p (r ∷ rows) x (inl here) pass = let first : p r ≡ true = ap p (sym here) ∙ pass in rw first (inl here)
filtered_has p (r ∷ rows) x (inr there) pass = elim (p r) as (λ b. Has (if b then r ∷ filter p rows else filter p rows) x) [ true ↦ inr (filtered_has p rows x there pass) | false ↦ filtered_has p rows x there pass ]
filtered_has p [] x there pass = absurd there

pub so_false : (b : Bool) → (b ≡ true → ⊥) → b ≡ false
so_false true miss = absurd (miss refl)
so_false false miss = refl

module _ (p : Row → Bool) (tree : List Row) (keyed : have_rowids tree ≡ true) (rising : IsTable tree) where
  int_at : (r : Row) → Has tree r → is_int (rowid r) ≡ true
  int_at r there = test_has (λ r. is_int (rowid r)) tree r keyed there

  -- two rows of one rowid are one
  one_row : (r x : Row) → Has tree r → Has tree x → has_rowid (id_in (rowid x)) r ≡ true → r ≡ x
  one_row r x hr hx same =
      let tie = equals (value_cmp (rowid r) (Int (id_in (rowid x)))) same in
      one_of (on rowid value_cmp) (on_total rowid value_cmp_total) tree rising r x hr hx (subst (λ v. value_cmp (rowid r) v ≡ Equal) (sym (int_is (rowid x) (int_at x hx))) tie)

  -- a row is named by the rowids that were found exactly where it passes
  by_rowid : (r : Row) → Has tree r → named (ids_of (filter p tree)) r ≡ p r
  by_rowid r there = elim (p r) as (λ b. p r ≡ b → named (ids_of (filter p tree)) r ≡ b) [
    | true ↦ λ pass. any_map (λ id. has_rowid id r) (λ x. id_in (rowid x)) (filter p tree) ∙ some_from (λ x. has_rowid (id_in (rowid x)) r) (filter p tree) r (filtered_has p tree r there pass) (own r (int_at r there))
    | false ↦ λ miss. so_false (named (ids_of (filter p tree)) r) (λ pass.
        let some = some_has (λ x. has_rowid (id_in (rowid x)) r) (filter p tree) (sym (any_map (λ id. has_rowid id r) (λ x. id_in (rowid x)) (filter p tree)) ∙ pass) in
        let its = has_filtered p tree some.0 some.1 in
        let same = one_row r some.0 there its.0 some.2 in
        true≢false (sym (ap p same ∙ its.1) ∙ miss))
  ] refl

  pub left_is : (ids : List ℤ) → IsPermutation (ids_of (filter p tree)) ids → without_all tree ids ≡ filter (λ r. not (p r)) tree
  left_is ids same = left_by_ids ids tree ∙ filter_same (λ r. not (named ids r)) (λ r. not (p r)) tree
      (all_from (λ r. not (named ids r) ≡ not (p r)) tree (λ r there. ap not (sym (list_any-IsPermutation (λ id. has_rowid id r) (ids_of (filter p tree)) ids same) ∙ by_rowid r there)))

pub has_left : (table : Table) (given : Row) (p : Row → Bool) → ((r : Row) → p r ≡ has_key table given (visible table r)) → (rows tree : List Row) → HasRows table rows tree
    → HasRows table (without_key table given rows) (filter (λ r. not (p r)) tree)
has_left table given p reads rows tree has =
    let other = λ (v : Row). not (has_key table given v) in
    let seen : map (visible table) (filter (λ r. not (p r)) tree) ≡ filter other (map (visible table) tree) =
    ap (map (visible table)) (filter_same (λ r. not (p r)) (λ r. other (visible table r)) tree (all_from (λ r. not (p r) ≡ other (visible table r)) tree (λ r _. ap not (reads r)))) ∙ sym (filter-map other (visible table) tree) in
    record {
      keyed = test_from (λ r. is_int (rowid r)) (filter (λ r. not (p r)) tree) (λ x there. test_has (λ r. is_int (rowid r)) tree x has.keyed (has_filtered (λ r. not (p r)) tree x there).0);
      rising = ascending-filter (λ a b. value_cmp (rowid a) (rowid b) ≡ Less) (λ r. not (p r)) tree has.rising;
      same = rw seen (IsPermutation-filter other (map (visible table) tree) rows has.same);
    }

keyed_found : (limit : Option ℕ) (schema : Schema) (table : Table) (params : Row) (db : Trees) (w : Written) → ((gone : List Row) → works schema Enforced 0 table.tree gone [] ≡ [])
    → Deletes (record { limit = limit; keys = Enforced; schema = schema; table = table; params = params }) (record { lets = []; body = record (rowids table) { filter = key_filter 0 table.primary } }) db (Ok w)
    → (found : List Row) × IsPermutation (map (λ r. rowid r ∷ []) (filter (passes_all (key_filter 0 table.primary) params) (db table.tree))) found
    × Applies schema Enforced db (edit_of db table (ids_of found) Given 0 []) w.trees
keyed_found limit schema table params db w removes h =
    let found = went h in
    let edit = went found.2 in
    let whole = whole_where table.tree (key_filter 0 table.primary) (col 1 0 ∷ []) [] db params found.0 (found.1.answer Null) in
    let same : w.trees ≡ edit.0 = ap (λ (it : Written). it.trees) (same_value edit.2) in
    let gone = edit_of db table (ids_of found.0) Given 0 [] in
    let left = filter (passes_all (key_filter 0 table.primary) params) (db table.tree) in
    (found.0, shows_all (rowids table) left params found.0 whole, subst (Applies schema Enforced db gone) (sym same) (one_step schema Enforced db edit.0 gone (removes _) edit.1))

pub deletes_one_key : (sql : List ℕ) (schema : Schema) (at : ℕ) (table : Table) (params : Row) (old new : State) (count : ℕ) → IsSimple schema at table
    → (command_of (understood schema sql) ≡ deletes_key at table) × IsPlain (understood schema sql)
    → ((r : Row) → passes_all (key_filter 0 table.primary) params r ≡ has_key table params (visible table r))
    → old.now.schema ≡ schema → Executes sql params old new (Ok count) → Changes table (without_key table params) old.now new.now
deletes_one_key sql schema at table params old new count simple is reads has h =
    let w = runs_as sql params old new schema has (deletes_key at table) is.0 is.1 count h in
    let ran = on_table old.step_limit (mode_of old) params old.now new.now schema at table (deletes_key at table) w.tally has simple.listed w.changed in
    let found = keyed_found old.step_limit schema table params old.now.trees ran.0 simple.removes ran.1 in
    let done = subst (Applies schema Enforced old.now.trees (edit_of old.now.trees table (ids_of found.0) Given 0 [])) (sym (ap (λ (d : Database). d.trees) ran.2)) found.2 in
    let tree = old.now.trees table.tree in
    let p = passes_all (key_filter 0 table.primary) params in
    let ids : IsPermutation (ids_of (filter p tree)) (ids_of found.0) =
    subst (λ xs. IsPermutation xs (ids_of found.0)) (map-map (λ r. id_in (rowid r)) (λ r. rowid r ∷ []) (filter p tree)) (IsPermutation-map (λ r. id_in (rowid r)) (map (λ r. rowid r ∷ []) (filter p tree)) found.0 found.1) in
    record {
      schema = ap (λ (d : Database). d.schema) ran.2 ∙ sym has;
      rows = λ rows there. subst (HasRows table (without_key table params rows)) (sym (done.rows ∙ left_is p tree there.keyed there.rising (ids_of found.0) ids)) (has_left table params p reads rows tree there);
      others = rw has (keeps_others schema old.now.trees new.now.trees _ done);
    }
