-- What a query over a whole table returns.
use Rattle.std.proofs.Common.{◌++◌, Bool, ◌≡◌, ℕ, ◌+◌, ◌<◌, length, get_or, arith, ◌^◌, ◌-◌, List, [], ◌∷◌, map, true, false, None, slice_get, unwrap_or, nat_le, if◌then◌else◌, refl, sym, ap, ap₂, subst, subst₂, suc, ◌∙◌}
use Rattle.std.specs.List.{flat_map, filter, list_all}
use Rattle.sqlite_sql.specs.Term.{holds}
use Rattle.std.specs.List.Sorted.{IsPermutation, IsSorted}
use Rattle.std.proofs.lemmas.List.Sorted.{IsPermutation-map, All-permutation}
use Rattle.std.proofs.lemmas.List.{get_or-map}
use Rattle.std.proofs.lemmas.List.Elements.{All-from_recursion}
use Rattle.std.specs.List.{AllByRecursion}
use Rattle.sqlite_value.specs.Keys.{ascending}
use Rattle.sqlite.specs.Collation.TheVariants.{Binary}
use Rattle.std.proofs.lemmas.List.Concat.{flat_map_single}
use Rattle.sqlite_trees.proofs.ListLemmas.{map-map}
use Rattle.sqlite.specs.declared.types.Value.TheVariants.{Null}
use Rattle.sqlite.specs.Order.{Row}
use Rattle.sqlite.specs.Term.{Term, col, eval_all}
use Rattle.sqlite_sql.specs.Term.{eval}
use Rattle.sqlite.specs.Query.{Query, IsAnswer, output, Output}
use Rattle.sqlite_sql.specs.Query.{output_cmp, key_cmp}
use Rattle.std.specs.Ordering.{is_lt}
use Rattle.sqlite_sql.specs.Program.{overlay}
use Rattle.sqlite_value.specs.declared.keys.Key.{Key}
use Rattle.sqlite.specs.Table.{Table}
use Rattle.sqlite.specs.Tree.{Trees}
use Rattle.sqlite.specs.State.{State, Shown, Begins, IsUnchanged, Survives, CommitsShowing}
use Rattle.sqlite.specs.Effect.{Database}
use Rattle.sqlite.proofs.StateLemmas.{survives_weaker}
use Rattle.sqlite.specs.Listing.{understood}
use Rattle.sqlite.proofs.Callers.{IsPlain, reads_as, begins_as, never_commits}
use Rattle.sqlite_schema.specs.Names.{place_of}
use Rattle.site_rows.specs.declared.tables.Version.{Version}
use Rattle.site_tables.specs.Tables.{schema_under}
use Rattle.site_tables.specs.TableRows.{visible, key_of}
use Rattle.site_tables.specs.Reads.{key_order, IsListed, Selects}
use Rattle.site_tables.specs.Commands.{over_all, places, by_key, selects_all}

-- the answer's rows are those of the tree in the query's order, each as the query shows it
pub record IsWhole (q : Query) (tree : List Row) (params : Row) (rows : List Row) : Type 0 where
  pub ordered : List Output
  pub same : IsPermutation (map (λ r. output q (params ∷ r ∷ [])) tree) ordered
  pub sorted : IsSorted (output_cmp q) ordered
  pub shown : rows ≡ map (λ o. o.1) ordered

no_overlay : (db : Trees) (t : ℕ) → overlay db [] t ≡ db t
no_overlay db t = elim (nat_le (2 ^ 31) t) as (λ b. unwrap_or (if b then slice_get {X = List Row} [] (t - 2 ^ 31) else None) (db t) ≡ db t) [ true ↦ refl | false ↦ refl ]

pub whole_answer : (tree : ℕ) (shown : List Term) (order : List (Term × Key)) (db : Trees) (params : Row) (rows : List Row) → IsAnswer (over_all tree shown order) (overlay db []) params rows
    → IsWhole (over_all tree shown order) (db tree) params rows
whole_answer tree shown order db params rows a =
    let q = over_all tree shown order in
    let staged : a.staged ≡ map (λ r. params ∷ r ∷ []) (db tree) = a.grouped ∙ flat_map_single (λ r. params ∷ r ∷ []) (overlay db [] tree) ∙ ap (map (λ r. params ∷ r ∷ [])) (no_overlay db tree) in
    let kept : a.kept ≡ map (λ r. output q (params ∷ r ∷ [])) (db tree) = a.distinct ∙ ap (map (output q)) staged ∙ map-map (output q) (λ r. params ∷ r ∷ []) (db tree) in
    record { ordered = a.ordered; same = subst (λ k. IsPermutation k a.ordered) kept a.same; sorted = a.sorted; shown = a.shown }

-- the rows of a query over a table, each as the query shows it
pub shows_all : (q : Query) (tree : List Row) (params : Row) (rows : List Row) → IsWhole q tree params rows → IsPermutation (map (λ r. eval_all q.project (params ∷ r ∷ [])) tree) rows
shows_all q tree params rows a =
    rw a.shown (subst (λ shown. IsPermutation shown (map (λ o. o.1) a.ordered)) (map-map (λ (o : Output). o.1) (λ r. output q (params ∷ r ∷ [])) tree)
    (IsPermutation-map (λ (o : Output). o.1) (map (λ r. output q (params ∷ r ∷ [])) tree) a.ordered a.same))

map_alike : {A B : Type 0} (f h : A → B) (xs : List A) → ((x : A) → f x ≡ h x) → map f xs ≡ map h xs
map_alike f h [] same = refl
map_alike f h (x ∷ xs) same = ap₂ ◌∷◌ (same x) (map_alike f h xs same)

as_visible : (table : Table) (params row : Row) → eval_all (by_key table).project (params ∷ row ∷ []) ≡ visible table row
as_visible table params row = map-map (λ t. eval t (params ∷ row ∷ [])) (λ at. col 1 (place_of table at)) (places table)

pub reads_whole : {v : Version} (table : Table) (sql : List ℕ) → Selects v table sql
    → (old new : State) (rows : List Row) → old.now.schema ≡ schema_under v → Shown sql [] old new rows → IsWhole (by_key table) (old.now.trees table.tree) [] rows
reads_whole {v = v} table sql is old new rows has h =
    let read = reads_as sql [] old new (schema_under v) has (selects_all table) is.command is.plain is.listing rows h in
    whole_answer table.tree _ _ old.now.trees [] rows (read.answer Null)

abbrev IsKeyed : Table → Type 0
IsKeyed table = (row : Row) → (output (by_key table) ([] ∷ row ∷ [])).0 ≡ key_of table (visible table row)

abbrev IsPaired : Table → Output → Type 0
IsPaired table o = o.0 ≡ key_of table o.1

paired : (table : Table) → IsKeyed table → (tree : List Row) → AllByRecursion (IsPaired table) (map (λ r. output (by_key table) ([] ∷ r ∷ [])) tree)
paired table keyed [] = tt
paired table keyed (r ∷ tree) = (keyed r ∙ ap (key_of table) (sym (as_visible table [] r)), paired table keyed tree)

as_many : (ordered : List Output) → length (map (λ (o : Output). o.1) ordered) ≡ length ordered
as_many [] = refl
as_many (o ∷ ordered) = ap suc (as_many ordered)

shown_at : (ordered : List Output) (k : ℕ) (d : Row) → k < length ordered → get_or (map (λ (o : Output). o.1) ordered) k d ≡ (get_or ordered k ([], d)).1
shown_at ordered k d low = get_or-map (λ (o : Output). o.1) ordered k ([], d) d low

rows_sorted : (table : Table) → IsKeyed table → (tree rows : List Row) → IsWhole (by_key table) tree [] rows → IsSorted (key_order table) rows
rows_sorted table keyed tree rows a =
    let f = λ (r : Row). output (by_key table) ([] ∷ r ∷ []) in
    let all = All-permutation (IsPaired table) (map f tree) a.ordered a.same (All-from_recursion (IsPaired table) (map f tree) (paired table keyed tree)) in
    let ks = map (λ (_ : ℕ). ascending Binary) table.primary in
    let keys = map-map (λ (x : Term × Key). x.1) (λ p. (col 1 p, ascending Binary)) table.primary in
    subst (IsSorted (key_order table)) (sym a.shown) (λ k d low high.
    let here : k + 1 < length a.ordered = subst (λ (n : ℕ). k + 1 < n) (as_many a.ordered) high in
    let near : k < length a.ordered = omega (arith, here) in
    let e : Output = ([], d) in
    subst₂ (λ u v. is_lt (key_cmp 0 ks u v) ≡ false) (all (k + 1) e here ∙ ap (key_of table) (sym (shown_at a.ordered (k + 1) d here))) (all k e near ∙ ap (key_of table) (sym (shown_at a.ordered k d near)))
    (subst (λ by. is_lt (key_cmp 0 by (get_or a.ordered (k + 1) e).0 (get_or a.ordered k e).0) ≡ false) keys (a.sorted k e low here)))

-- the rows of a whole answer are those of the table by their keys
pub whole_listed : (table : Table) → IsKeyed table → (tree rows : List Row) → IsWhole (by_key table) tree [] rows → IsListed table tree rows
whole_listed table keyed tree rows whole = record {
  same = subst (λ shown. IsPermutation shown rows) (map_alike (λ r. eval_all (by_key table).project ([] ∷ r ∷ [])) (visible table) tree (λ r. as_visible table [] r)) (shows_all (by_key table) tree [] rows whole);
  sorted = rows_sorted table keyed tree rows whole;
}

pub reads_table : {v : Version} (table : Table) → (sql : List ℕ) → Selects v table sql
    → (old new : State) (rows : List Row) → old.now.schema ≡ schema_under v → Shown sql [] old new rows → IsListed table (old.now.trees table.tree) rows
reads_table {v = v} table sql is old new rows has h = whole_listed table is.keyed (old.now.trees table.tree) rows (reads_whole table sql is old new rows has h)

-- rows with which an answer begins are the first of the table by their keys
pub begins_table : {v : Version} (table : Table) → (sql : List ℕ) → Selects v table sql
    → (s : State) (rows : List Row) → s.now.schema ≡ schema_under v → Begins sql [] s rows → (others : List Row) × IsListed table (s.now.trees table.tree) (rows ++ others)
begins_table {v = v} table sql is s rows has h =
    let first = begins_as sql [] s s (schema_under v) has (selects_all table) is.command is.plain is.listing rows h in
    let whole = whole_answer table.tree _ _ s.now.trees [] (rows ++ first.1.0) (first.1.1 Null) in
    (first.1.0, whole_listed table is.keyed (s.now.trees table.tree) (rows ++ first.1.0) whole)

-- ---- a query that is read one row at a time

pub plain_at : (v : Version) (sql : List ℕ) → IsPlain (understood (schema_under v) sql) → (s : State) → s.now.schema ≡ schema_under v → IsPlain (understood s.now.schema sql)
plain_at v sql plain s has = rw has plain

pub commits_nothing : (sql : List ℕ) (params : Row) (old new : State) → IsPlain (understood old.now.schema sql) → Survives old new (CommitsShowing sql params old) → Survives old new (λ _. ⊥)
commits_nothing sql params old new plain = survives_weaker old new _ _ (λ _ db. never_commits sql params old db plain)

-- the query answered over a state that is the first one still
pub reads_still : {v : Version} (table : Table) → (sql : List ℕ) → Selects v table sql
    → (first old new : State) (rows : List Row) → first.now.schema ≡ schema_under v → IsUnchanged first old → Shown sql [] old new rows → IsListed table (first.now.trees table.tree) rows
reads_still {v = v} table sql is first old new rows has same h =
    subst (λ (d : Database). IsListed table (d.trees table.tree) rows) same.0.now_is (reads_table table sql is old new rows (ap (λ (d : Database). d.schema) same.0.now_is ∙ has) h)

-- ---- a query with conditions

abbrev pub passes_all : List Term → Row → Row → Bool
passes_all conditions params row = list_all (holds (params ∷ row ∷ [])) conditions

staged_if : {A B : Type 0} (p : A → Bool) (f : A → B) (xs : List A) → flat_map (λ x. if p x then f x ∷ [] else []) xs ≡ map f (filter p xs)
staged_if p f [] = refl
staged_if p f (x ∷ xs) = elim (p x) as (λ b. (if b then f x ∷ [] else []) ++ flat_map (λ x. if p x then f x ∷ [] else []) xs ≡ map f (if b then x ∷ filter p xs else filter p xs))
    [ true ↦ ap (λ ys. f x ∷ ys) (staged_if p f xs) | false ↦ staged_if p f xs ]

-- the answer's rows are those of the tree that pass
pub whole_where : (tree : ℕ) (conditions shown : List Term) (order : List (Term × Key)) (db : Trees) (params : Row) (rows : List Row)
    → IsAnswer (record (over_all tree shown order) { filter = conditions }) (overlay db []) params rows
    → IsWhole (over_all tree shown order) (filter (passes_all conditions params) (db tree)) params rows
whole_where tree conditions shown order db params rows a =
    let q = over_all tree shown order in
    let left = filter (passes_all conditions params) (db tree) in
    let staged : a.staged ≡ map (λ r. params ∷ r ∷ []) left =
    a.grouped ∙ staged_if (passes_all conditions params) (λ r. params ∷ r ∷ []) (overlay db [] tree) ∙ ap (λ rows. map (λ r. params ∷ r ∷ []) (filter (passes_all conditions params) rows)) (no_overlay db tree) in
    let kept : a.kept ≡ map (λ r. output q (params ∷ r ∷ [])) left = a.distinct ∙ ap (map (output q)) staged ∙ map-map (output q) (λ r. params ∷ r ∷ []) left in
    record { ordered = a.ordered; same = subst (λ k. IsPermutation k a.ordered) kept a.same; sorted = a.sorted; shown = a.shown }
