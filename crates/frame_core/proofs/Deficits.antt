-- What numbering messages and clearing a row do to the deficits of recalls, and where a recall has rows.
use Rattle.std.proofs.Common.{ltb, ◌≡◌, ◌≢◌, ℕ, ◌+◌, ◌≤◌, Bool, true, false, cond, not, ◌||◌, List, [], ◌∷◌, map, length, Option, Some, None, refl, sym, ap, ◌∙◌, arith}
use Rattle.std.specs.Cmp.{IsTotalOrder, nat_cmp_total}
use Rattle.std.specs.Ordering.{is_eq, nat_cmp}
use Rattle.std.specs.declared.cmp.Ordering.{Ordering}
use Rattle.std.specs.declared.cmp.Ordering.TheVariants.{Less, Equal, Greater}
use Rattle.std.specs.List.{count_by, list_any}
use Rattle.std.specs.FinMap.{FinMap, nat_cmp-IsAntisymmetric, find, put, get, insert, remove, entries, entries_sorted, get-entries, entries-insert, entries-from_sorted, from_sorted, same_entries_map}
use Rattle.std.specs.FinMap.Entries.{by_order}
use Rattle.std.proofs.lemmas.List.Sums.{sum_by-cons}
use Rattle.std.proofs.lemmas.Bool.{false_from_ne_true}
use Rattle.std.proofs.lemmas.Bool.Decides.{nat_tests}
use Rattle.frame_core.specs.Numbers.{Recall}
use Rattle.frame_core.specs.declared.rows.Row.{Row}
use Rattle.frame_core.specs.Identifiers.{same_recall}
use Rattle.frame_core.specs.Outboxes.{row_for, numbered, rows_of, has_rows}
use Rattle.frame_core.specs.Laws.{IsRowOf, HasNoRows, AreUnused}
use Rattle.frame_core.proofs.Found.{is_found, found_in}
use Rattle.frame_core.proofs.Lookups.{get_apart}
use Rattle.frame_core.proofs.Maps.{without_sorted, ascending_without}
use Rattle.frame_core.proofs.Sameness.{one_recall, equal_recalls, same_recall_itself}
use Rattle.frame_core.proofs.Sums.{list_any-map}
use Rattle.frame_core.proofs.Ascending.{IsAscending, without, first, second, without_above}
use Rattle.frame_core.proofs.Numbering.{numbered_told}

-- what fails a test adds nothing, and what passes it adds one
not_counted : (n : ℕ) {b : Bool} → b ≡ false → cond b 1 0 + n ≡ n
not_counted n is = ap (λ b. cond b 1 0 + n) is ∙ omega arith

counted : (n : ℕ) {b : Bool} → b ≡ true → cond b 1 0 + n ≡ 1 + n
counted n is = ap (λ b. cond b 1 0 + n) is

-- how often a test passes at what is found
abbrev passed : {X : Type 0} → (X → Bool) → Option X → ℕ
passed p None = 0
passed p (Some x) = cond (p x) 1 0

-- how many values of entries pass a test
abbrev pub passing : {K X : Type 0} → (X → Bool) → List (K × X) → ℕ
passing p es = count_by p (map (λ e. e.1) es)

cond_at_most : (b : Bool) → cond b 1 0 ≤ 1
cond_at_most true = omega arith
cond_at_most false = omega arith

module _ {K X : Type 0} (p : X → Bool) where
  pub passing_more : (e : K × X) (es : List (K × X)) → passing p (e ∷ es) ≡ cond (p e.1) 1 0 + passing p es
  passing_more e es = sum_by-cons (λ x. cond (p x) 1 0) e.1 (map (λ e. e.1) es)

  -- a new key adds its value
  passing_put : (R : K → K → Ordering) (k : K) (v : X) (es : List (K × X)) → find R k es ≡ None → passing p (put R k v es) ≡ cond (p v) 1 0 + passing p es
  passing_put R k v [] none = passing_more (k, v) []
  passing_put R k v (e ∷ es) none =
      elim (R k e.0) as (λ r. cond (is_eq r) (Some e.1) (find R k es) ≡ None → passing p (by_order r ((k, v) ∷ e ∷ es) ((e.0, v) ∷ es) (e ∷ put R k v es)) ≡ cond (p v) 1 0 + passing p (e ∷ es)) [
        | Less ↦ λ h. passing_more (k, v) (e ∷ es)
        | Equal ↦ λ h. cc
        | Greater ↦ λ h. omega (arith, passing_more e (put R k v es), passing_put R k v es h, passing_more e es)
      ] none

  -- a key that goes takes its value along
  passing_without : {R : K → K → Ordering} (o : IsTotalOrder R) (k : K) (es : List (K × X)) → IsAscending R es → passing p (without R k es) + passed p (find R k es) ≡ passing p es
  passing_without o k [] up = refl
  passing_without {R} o k (e ∷ es) up =
      elim (R k e.0) as (λ r. R k e.0 ≡ r → passing p (cond (not (is_eq r)) (e ∷ without R k es) (without R k es)) + passed p (cond (is_eq r) (Some e.1) (find R k es)) ≡ passing p (e ∷ es)) [
        | Less ↦ λ t. omega (arith, passing_more e (without R k es), passing_without o k es (second _ _ up), passing_more e es)
        | Equal ↦ λ t.
            let rest : es ≡ without R k es = sym (without_above o e.0 k es t (first _ _ up)) in
            omega (arith, ap (passing p) rest, passing_more e es)
        | Greater ↦ λ t. omega (arith, passing_more e (without R k es), passing_without o k es (second _ _ up), passing_more e es)
      ] refl

  -- no more pass than there are
  pub passing_at_most : (es : List (K × X)) → passing p es ≤ length es
  passing_at_most [] = omega arith
  passing_at_most (e ∷ es) = omega (arith, passing_more e es, passing_at_most es, cond_at_most (p e.1))

  -- where no value passes, none is counted
  none_counted : (es : List (K × X)) → list_any p (map (λ e. e.1) es) ≡ false → passing p es ≡ 0
  none_counted [] none = refl
  none_counted (e ∷ es) none =
      elim (p e.1) as (λ b. p e.1 ≡ b → (b || list_any p (map (λ e. e.1) es)) ≡ false → passing p (e ∷ es) ≡ 0) [
        | true ↦ λ t h. cc
        | false ↦ λ t h. passing_more e es ∙ not_counted (passing p es) t ∙ none_counted es h
      ] refl none

  -- and where one does, one is
  some_counted : (es : List (K × X)) → list_any p (map (λ e. e.1) es) ≡ true → 1 ≤ passing p es
  some_counted [] some = cc
  some_counted (e ∷ es) some =
      elim (p e.1) as (λ b. p e.1 ≡ b → (b || list_any p (map (λ e. e.1) es)) ≡ true → 1 ≤ passing p (e ∷ es)) [
        | true ↦ λ t h. omega (arith, passing_more e es, counted (passing p es) t)
        | false ↦ λ t h. omega (arith, passing_more e es, some_counted es h)
      ] refl some

-- the entries of a map without a key
entries_removed : (m : FinMap nat_cmp Row) (n : ℕ) → entries (remove m n) ≡ without nat_cmp n (entries m)
entries_removed m n =
    let whole : from_sorted {R = nat_cmp} (entries m) ≡ m = same_entries_map _ _ (entries-from_sorted nat_cmp (entries m) (entries_sorted m)) in
    ap (λ k. entries (remove k n)) (sym whole)
    ∙ ap entries (sym (without_sorted nat_cmp_total nat_cmp-IsAntisymmetric (entries m) n (entries_sorted m)))
    ∙ entries-from_sorted nat_cmp (without nat_cmp n (entries m)) (ascending_without nat_cmp_total nat_cmp-IsAntisymmetric (entries m) n (entries_sorted m))

-- a recall has rows exactly where a row of it is found
pub rows_are_found : (rows : FinMap nat_cmp Row) (r : Recall) → has_rows rows r ≡ true → IsRowOf rows r
rows_are_found rows r some =
    let one = is_found nat_cmp_total (λ e. same_recall e.1.recall r) rows (sym (list_any-map (λ e. e.1) (λ row. same_recall row.recall r) (entries rows)) ∙ some) in
    record { number = one.key; row = one.value; stands = one.found; of_recall = one_recall one.value.recall r one.passes }

pub found_rows : (rows : FinMap nat_cmp Row) (r : Recall) → IsRowOf rows r → has_rows rows r ≡ true
found_rows rows r one =
    list_any-map (λ e. e.1) (λ row. same_recall row.recall r) (entries rows)
    ∙ found_in nat_cmp_total (λ e. same_recall e.1.recall r) nat_cmp-IsAntisymmetric rows
    (record { key = one.number; value = one.row; found = one.stands; passes = equal_recalls one.row.recall r one.of_recall })

-- and it has none where no number has one
pub no_row : (rows : FinMap nat_cmp Row) (r : Recall) → has_rows rows r ≡ false → HasNoRows rows r
no_row rows r none n x stands of_recall = let some : has_rows rows r ≡ true = found_rows rows r (record { number = n; row = x; stands = stands; of_recall = of_recall }) in cc

-- a recall without rows has no deficit, and the other way round
pub no_deficit : (rows : FinMap nat_cmp Row) (r : Recall) → has_rows rows r ≡ false → rows_of rows r ≡ 0
no_deficit rows r none = none_counted (λ row. same_recall row.recall r) (entries rows) none

pub no_rows_left : (rows : FinMap nat_cmp Row) (r : Recall) → rows_of rows r ≡ 0 → has_rows rows r ≡ false
no_rows_left rows r zero_of =
    elim (has_rows rows r) as (λ b. has_rows rows r ≡ b → b ≡ false) [
      | true ↦ λ t. absurd (omega (arith, some_counted (λ row. same_recall row.recall r) (entries rows) t, zero_of))
      | false ↦ λ t. refl
    ] refl

-- another recall is not the same
pub other_recall : (a b : Recall) → a ≢ b → same_recall a b ≡ false
other_recall a b ne = false_from_ne_true (same_recall a b) (λ t. ne (one_recall a b t))

-- a message under an unused number
pub inserted : (rows : FinMap nat_cmp Row) (n : ℕ) (x : Row) (r : Recall) → get rows n ≡ None → rows_of (insert rows n x) r ≡ cond (same_recall x.recall r) 1 0 + rows_of rows r
inserted rows n x r none =
    ap (passing (λ row. same_recall row.recall r)) (entries-insert nat_cmp_total rows n x)
    ∙ passing_put (λ row. same_recall row.recall r) nat_cmp n x (entries rows) (sym (get-entries rows n) ∙ none)

-- the numbers after it are unused still
unused_after : (rows : FinMap nat_cmp Row) (n : ℕ) (x : Row) → AreUnused rows n → AreUnused (insert rows n x) (n + 1)
unused_after rows n x unused q le = get_apart nat_cmp_total nat_cmp-IsAntisymmetric rows n x q (λ same. omega arith) ∙ unused q (omega arith)

pub deficit_rises : (rows : FinMap nat_cmp Row) (n : ℕ) (r : Recall) (out : List (ℕ × List ℕ)) → AreUnused rows n → rows_of (numbered rows n r out) r ≡ rows_of rows r + length out
deficit_rises rows n r [] unused = omega arith
deficit_rises rows n r (pair ∷ out) unused =
    let next = insert rows n (row_for r pair) in
    let later : rows_of (numbered next (n + 1) r out) r ≡ rows_of next r + length out = deficit_rises next (n + 1) r out (unused_after rows n (row_for r pair) unused) in
    let first_one : rows_of next r ≡ 1 + rows_of rows r = inserted rows n (row_for r pair) r (unused n (omega arith)) ∙ counted (rows_of rows r) (same_recall_itself r) in
    omega (arith, later, first_one)

pub other_deficit_stays : (rows : FinMap nat_cmp Row) (n : ℕ) (r other : Recall) (out : List (ℕ × List ℕ)) → AreUnused rows n → other ≢ r → rows_of (numbered rows n r out) other ≡ rows_of rows other
other_deficit_stays rows n r other [] unused ne = refl
other_deficit_stays rows n r other (pair ∷ out) unused ne =
    other_deficit_stays (insert rows n (row_for r pair)) (n + 1) r other out (unused_after rows n (row_for r pair) unused) ne
    ∙ inserted rows n (row_for r pair) other (unused n (omega arith))
    ∙ not_counted (rows_of rows other) (other_recall r other (λ same. ne (sym same)))

-- what a row that goes takes from each deficit
pub cleared : (rows : FinMap nat_cmp Row) (n : ℕ) (x : Row) (r : Recall) → get rows n ≡ Some x → rows_of (remove rows n) r + cond (same_recall x.recall r) 1 0 ≡ rows_of rows r
cleared rows n x r is =
    let test : Row → Bool = λ row. same_recall row.recall r in
    let fewer : rows_of (remove rows n) r ≡ passing test (without nat_cmp n (entries rows)) = ap (passing test) (entries_removed rows n) in
    let all : passing test (without nat_cmp n (entries rows)) + passed test (find nat_cmp n (entries rows)) ≡ rows_of rows r = passing_without test nat_cmp_total n (entries rows) (entries_sorted rows) in
    let here : passed test (find nat_cmp n (entries rows)) ≡ cond (same_recall x.recall r) 1 0 = ap (passed test) (sym (get-entries rows n) ∙ is) in
    omega (arith, fewer, all, here)

pub deficit_falls : (rows : FinMap nat_cmp Row) (n : ℕ) (x : Row) → get rows n ≡ Some x → rows_of (remove rows n) x.recall + 1 ≡ rows_of rows x.recall
deficit_falls rows n x is =
    let own : ◌≡◌ {A = ℕ} (cond (same_recall x.recall x.recall) 1 0) 1 = ap (λ b. cond b 1 0) (same_recall_itself x.recall) in
    omega (arith, cleared rows n x x.recall is, own)

pub other_deficit_left : (rows : FinMap nat_cmp Row) (n : ℕ) (x : Row) (other : Recall) → get rows n ≡ Some x → other ≢ x.recall → rows_of (remove rows n) other ≡ rows_of rows other
other_deficit_left rows n x other is ne =
    let none : ◌≡◌ {A = ℕ} (cond (same_recall x.recall other) 1 0) 0 = ap (λ b. cond b 1 0) (other_recall x.recall other (λ same. ne (sym same))) in
    omega (arith, cleared rows n x other is, none)

-- a recall has rows exactly where its deficit is above 0
pub rows_from_deficit : (rows : FinMap nat_cmp Row) (r : Recall) → ltb 0 (rows_of rows r) ≡ has_rows rows r
rows_from_deficit rows r =
    elim (has_rows rows r) as (λ b. has_rows rows r ≡ b → ltb 0 (rows_of rows r) ≡ b) [
      | true ↦ λ t. let some : 1 ≤ rows_of rows r = some_counted (λ row. same_recall row.recall r) (entries rows) t in grind (arith, nat_tests, some)
      | false ↦ λ t. ap (ltb 0) (no_deficit rows r t)
    ] refl

-- a message stands once it is numbered, so that its recall has rows
pub numbered_has_rows : (rows : FinMap nat_cmp Row) (n : ℕ) (r : Recall) (out : List (ℕ × List ℕ)) → 1 ≤ length out → has_rows (numbered rows n r out) r ≡ true
numbered_has_rows rows n r [] some = absurd (omega (arith, some))
numbered_has_rows rows n r (pair ∷ out) some = found_rows (numbered rows n r (pair ∷ out)) r (record {
  number = n;
  row = row_for r pair;
  stands = numbered_told rows n r (pair ∷ out) 0 n pair refl (omega arith);
  of_recall = refl;
})

-- a recall has another row exactly where its deficit is above 1
pub more_rows : (rows : FinMap nat_cmp Row) (n : ℕ) (x : Row) (r : Recall) → get rows n ≡ Some x → x.recall ≡ r → ltb 1 (rows_of rows r) ≡ has_rows (remove rows n) r
more_rows rows n x r is of_recall =
    let one_less : rows_of (remove rows n) r + 1 ≡ rows_of rows r = ap (λ q. rows_of (remove rows n) q + 1) (sym of_recall) ∙ deficit_falls rows n x is ∙ ap (rows_of rows) of_recall in
    ap (ltb 1) (sym one_less) ∙ past_one (rows_of (remove rows n) r) ∙ rows_from_deficit (remove rows n) r
  where
    past_one : (k : ℕ) → ltb 1 (k + 1) ≡ ltb 0 k
    past_one k = grind (arith, nat_tests)
