-- What an UPDATE leaves of the rows of a table.
use Rattle.std.proofs.Common.{◌≡◌, inl, inr, ℕ, ℤ, Option, Ok, List, [], ◌∷◌, ◌++◌, map, drop, Bool, true, false, not, filter, refl, sym, ap, subst, ◌∙◌, true≢false, append-nil, append_assoc}
use Rattle.std.specs.List.Sorted.{IsPermutation}
use Rattle.std.specs.Ordering.{is_eq}
use Rattle.std.specs.declared.cmp.Ordering.TheVariants.{Less, Equal, Greater}
use Rattle.std.proofs.lemmas.Bool.{and_parts, not-true}
use Rattle.std.proofs.lemmas.Cmp.{tied_itself}
use Rattle.std.proofs.lemmas.Map.Lookups.{exact_signed}
use Rattle.sqlite.specs.declared.types.Value.{Value}
use Rattle.sqlite.specs.declared.types.Value.TheVariants.{Null, Int}
use Rattle.sqlite.specs.Collation.TheVariants.{Binary}
use Rattle.sqlite.specs.Order.{Row}
use Rattle.sqlite.specs.Table.{Table}
use Rattle.sqlite.specs.Schema.{Schema}
use Rattle.sqlite.specs.Tree.{Trees}
use Rattle.sqlite.specs.Term.{Term, eval_all}
use Rattle.sqlite.specs.Edit.{edit_of}
use Rattle.sqlite.specs.Rowids.TheVariants.{Given}
use Rattle.sqlite.specs.Rows.{Written, Updates}
use Rattle.sqlite.proofs.Callers.{one_step}
use Rattle.sqlite_value.specs.Order.{value_cmp}
use Rattle.sqlite_value.proofs.OrderLemmas.{value_cmp_total, value_cmp-Int}
use Rattle.sqlite_sql.specs.Ops.{binary, is_true, from_truth}
use Rattle.std.specs.Prelude.{Some}
use Rattle.sqlite_schema.specs.Rules.{equal}
use Rattle.sqlite_schema.specs.declared.schema.Keys.TheVariants.{Enforced}
use Rattle.sqlite_trees.specs.Tree.{rowid, IsTable, put_row}
use Rattle.sqlite_trees.specs.View.{is_int}
use Rattle.sqlite_trees.proofs.ListLemmas.{map-map, filter_none}
use Rattle.sqlite_rules.specs.Lists.{Has}
use Rattle.sqlite_rules.specs.Cast.{cast_row}
use Rattle.sqlite_rules.specs.Edit.{id_in, without_all, put_all, are_fresh, is_taken, have_rowids, numbered, Applies}
use Rattle.sqlite_rules.specs.Calls.{ids_of}
use Rattle.sqlite_rules.specs.Action.{works}
use Rattle.sqlite_rules.proofs.ListLemmas.{all_from, all_has}
use Rattle.sqlite_rules.proofs.TableLemmas.{int_is}
use Rattle.site_tables.specs.TableRows.{visible, HasRows}
use Rattle.site_tables.specs.Commands.{over_all}
use Rattle.site_tables.proofs.RowLemmas.{has_one_more}
use Rattle.site_tables.proofs.Removed.{so_false}
use Rattle.site_tables.proofs.Answered.{passes_all, whole_where, shows_all}
use Rattle.site_tables.proofs.Inserted.{went, same_value}

-- rows that were not there are more rows
pub has_all_more : (table : Table) (rows tree news : List Row) → HasRows table rows tree → have_rowids news ≡ true → are_fresh tree news ≡ true → HasRows table (rows ++ map (visible table) news) (put_all tree news)
has_all_more table rows tree [] has keyed fresh = rw (append-nil rows) has
has_all_more table rows tree (n ∷ news) has keyed fresh =
    let k = and_parts (is_int (rowid n)) (have_rowids news) keyed in
    let f = and_parts (not (is_taken tree n)) (are_fresh (put_row n tree) news) fresh in
    subst (λ r. HasRows table r (put_all (put_row n tree) news)) (append_assoc rows (visible table n ∷ []) (map (visible table) news))
    (has_all_more table (rows ++ visible table n ∷ []) (put_row n tree) news (has_one_more table rows tree n (visible table n) k.0 (not-true (is_taken tree n) f.0) refl has) k.1 f.1)

numbered_given : (rows news : List Row) → numbered Given rows news ≡ news
numbered_given rows [] = refl
numbered_given rows (n ∷ news) = ap (λ more. n ∷ more) (numbered_given (put_row n rows) news)

-- the rows of these rowids go, and the new ones come in
pub has_edited : (schema : Schema) (table : Table) (db next : Trees) (ids : _) (from : ℕ) (sources left : List Row) → HasRows table left (without_all (db table.tree) ids)
    → Applies schema Enforced db (edit_of db table ids Given from sources) next → HasRows table (left ++ map (λ s. visible table (cast_row table (drop from s))) sources) (next table.tree)
has_edited schema table db next ids from sources left has done =
    let rest = without_all (db table.tree) ids in
    let news = map (λ s. cast_row table (drop from s)) sources in
    let same = numbered_given rest news in
    let more = has_all_more table left rest news has (subst (λ n. have_rowids n ≡ true) same done.keyed) (subst (λ n. are_fresh rest n ≡ true) same done.fresh) in
    let seen = subst (λ shown. HasRows table (left ++ shown) (put_all rest news)) (map-map (visible table) (λ s. cast_row table (drop from s)) sources) more in
    subst (HasRows table (left ++ map (λ s. visible table (cast_row table (drop from s))) sources)) (sym (done.rows ∙ ap (put_all rest) same)) seen

-- an update takes out the rowids that its query finds, and puts in what it makes of their rows
pub updates_found : (limit : Option ℕ) (schema : Schema) (table : Table) (params given : Row) (conditions shown : List Term) (db : Trees) (w : Written) → ((gone news : List Row) → works schema Enforced 0 table.tree gone news ≡ [])
    → Updates (record { limit = limit; keys = Enforced; schema = schema; table = table; params = params }) (record { lets = []; body = record (over_all table.tree shown []) { filter = conditions } }) given db (Ok w)
    → (found : List Row) × IsPermutation (map (λ r. eval_all shown (given ∷ r ∷ [])) (filter (passes_all conditions given) (db table.tree))) found
    × Applies schema Enforced db (edit_of db table (ids_of found) Given 1 found) w.trees
updates_found limit schema table params given conditions shown db w quiet h =
    let found = went h in
    let edit = went found.2 in
    let whole = whole_where table.tree conditions shown [] db given found.0 (found.1.answer Null) in
    let same : w.trees ≡ edit.0 = ap (λ (it : Written). it.trees) (same_value edit.2) in
    let change = edit_of db table (ids_of found.0) Given 1 found.0 in
    let left = filter (passes_all conditions given) (db table.tree) in
    (found.0, shows_all (over_all table.tree shown []) left given found.0 whole, subst (Applies schema Enforced db change) (sym same) (one_step schema Enforced db edit.0 change (quiet _ _) edit.1))

-- ---- rows named by a number

pub tied : (a b : ℤ) → equal Binary (Int a) (Int b) ≡ true → a ≡ b
unfolding binary
tied a b h =
    let even : value_cmp (Int a) (Int b) ≡ Equal = elim (value_cmp (Int a) (Int b)) as (λ o. is_true (from_truth (Some (is_eq o))) ≡ true → o ≡ Equal)
    [ Less ↦ λ e. absurd (true≢false (sym e)) | Equal ↦ λ _. refl | Greater ↦ λ e. absurd (true≢false (sym e)) ] h in
    exact_signed a b (sym (value_cmp-Int a b) ∙ even)

pub itself : (a : ℤ) → equal Binary (Int a) (Int a) ≡ true
unfolding binary
itself a = rw (tied_itself value_cmp_total (Int a)) refl

-- a rowid that equals the number is that number
pub number_is : (v : Value) (k : ℤ) → is_int v ≡ true → equal Binary v (Int k) ≡ true → v ≡ Int k
number_is v k int h =
    let is = int_is v int in
    is ∙ ap Int (tied (id_in v) k (subst (λ x. equal Binary x (Int k) ≡ true) is h))

module _ (p : Row → Bool) (k : Value) where
  never : (a b : Row) → rowid a ≡ k → rowid b ≡ k → value_cmp (rowid a) (rowid b) ≡ Less → ⊥
  never a b ia ib less = let same : value_cmp (rowid a) (rowid b) ≡ Equal = rw (ia, ib) (tied_itself value_cmp_total k) in let bad : Less ≡ Equal = sym less ∙ same in cc

  -- one row has a rowid
  pub only_one : (tree : List Row) (r : Row) → IsTable tree → ((x : Row) → Has tree x → p x ≡ true → rowid x ≡ k) → Has tree r → p r ≡ true → filter p tree ≡ r ∷ []
  only_one [] r rising names there pass = absurd there
  only_one (y ∷ tree) r rising names (inl here) pass =
      let first : p y ≡ true = ap p (sym here) ∙ pass in
      let none = filter_none p tree (all_from (λ x. p x ≡ false) tree (λ x there. so_false (p x) (λ passes. never y x (names y (inl refl) first) (names x (inr there) passes) (all_has (λ x. value_cmp (rowid y) (rowid x) ≡ Less) tree x rising.0 there)))) in
      rw (first, none) (ap (λ z. z ∷ []) (sym here))
  only_one (y ∷ tree) r rising names (inr there) pass =
      let other = so_false (p y) (λ passes. never y r (names y (inl refl) passes) (names r (inr there) pass) (all_has (λ x. value_cmp (rowid y) (rowid x) ≡ Less) tree r rising.0 there)) in
      rw other (only_one tree r rising.1 (λ x later. names x (inr later)) there pass)
