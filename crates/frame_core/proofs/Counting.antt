-- The counts of recalls beside the rows: what raising, lowering, putting and taking leave.
use Rattle.std.proofs.Common.{◌≡◌, ◌≢◌, inl, inr, ℕ, ◌+◌, ◌-◌, ◌<◌, ◌≤◌, Bool, true, false, cond, List, ◌∷◌, length, Some, None, refl, sym, ap, subst, ◌∙◌, arith}
use Rattle.std.specs.Prelude.{IsSome, unwrap_or}
use Rattle.std.specs.Ordering.{nat_cmp}
use Rattle.std.specs.Cmp.{nat_cmp_total}
use Rattle.std.specs.FinMap.{FinMap, nat_cmp-IsAntisymmetric, get, insert, remove, entries, empty, len-entries, len-empty, get-empty, same_map}
use Rattle.frame_core.specs.Numbers.{Recall}
use Rattle.frame_core.specs.declared.rows.Row.{Row}
use Rattle.frame_core.specs.Identifiers.{recall_cmp, same_recall}
use Rattle.frame_core.specs.Counts.{count_in, AreCounted, KeepsCounts, IsRaised, IsLowered}
use Rattle.frame_core.specs.Orders.{recall_total, recall_exact}
use Rattle.frame_core.specs.Outboxes.{rows_of}
use Rattle.frame_core.proofs.Deficits.{inserted, cleared, passing, passing_more, passing_at_most, other_recall}
use Rattle.frame_core.proofs.Lookups.{one_key, get_here, get_apart, get_gone, get_left}
use Rattle.frame_core.proofs.Sameness.{same_recall_itself}

is_one : {b : Bool} → b ≡ true → ◌≡◌ {A = ℕ} (cond b 1 0) 1
is_one t = ap (λ b. cond b 1 0) t

is_none : {b : Bool} → b ≡ false → ◌≡◌ {A = ℕ} (cond b 1 0) 0
is_none t = ap (λ b. cond b 1 0) t

count_here : (m : FinMap recall_cmp ℕ) (r : Recall) (n : ℕ) → count_in (insert m r n) r ≡ n
count_here m r n = ap (λ o. unwrap_or o 0) (get_here recall_total recall_exact m r n)

count_apart : (m : FinMap recall_cmp ℕ) (r : Recall) (n : ℕ) (q : Recall) → q ≢ r → count_in (insert m r n) q ≡ count_in m q
count_apart m r n q ne = ap (λ o. unwrap_or o 0) (get_apart recall_total recall_exact m r n q ne)

pub raised : (m : FinMap recall_cmp ℕ) (r : Recall) → IsRaised m r (insert m r (count_in m r + 1))
raised m r q = elim (one_key recall_total recall_exact q r) [
  | inl same ↦ subst (λ (z : Recall). count_in (insert m r (count_in m r + 1)) z ≡ count_in m z + cond (same_recall r z) 1 0) (sym same)
      (omega (arith, count_here m r (count_in m r + 1), is_one (same_recall_itself r)))
  | inr ne ↦ omega (arith, count_apart m r (count_in m r + 1) q ne, is_none (other_recall r q (λ e. ne (sym e))))
]

pub lowered : (m : FinMap recall_cmp ℕ) (r : Recall) → 0 < count_in m r → IsLowered m r (insert m r (count_in m r - 1))
lowered m r some q = elim (one_key recall_total recall_exact q r) [
  | inl same ↦ subst (λ (z : Recall). count_in (insert m r (count_in m r - 1)) z + cond (same_recall r z) 1 0 ≡ count_in m z) (sym same)
      (omega (arith, some, count_here m r (count_in m r - 1), is_one (same_recall_itself r)))
  | inr ne ↦ omega (arith, count_apart m r (count_in m r - 1) q ne, is_none (other_recall r q (λ e. ne (sym e))))
]

pub counts_stay : (m : FinMap recall_cmp ℕ) (r : Recall) (n : ℕ) → KeepsCounts m (insert m r n)
counts_stay m r n q has = elim (one_key recall_total recall_exact q r) [
  | inl same ↦ subst (λ (z : Recall). IsSome (get (insert m r n) z)) (sym same) (subst IsSome (sym (get_here recall_total recall_exact m r n)) refl)
  | inr ne ↦ subst IsSome (sym (get_apart recall_total recall_exact m r n q ne)) has
]

-- a count that isn't 0 is there
pub has_count : (m : FinMap recall_cmp ℕ) (r : Recall) → 0 < count_in m r → get m r ≡ None → ⊥
has_count m r some none = let zero_of : count_in m r ≡ 0 = ap (λ o. unwrap_or o 0) none in omega (arith, some, zero_of)

-- a recall has no more rows than there are
pub few_rows : (rows : FinMap nat_cmp Row) (r : Recall) → rows_of rows r ≤ length (entries rows)
few_rows rows r = passing_at_most (λ row. same_recall row.recall r) (entries rows)

-- a row that stands is counted
pub row_counts : (rows : FinMap nat_cmp Row) (n : ℕ) (x : Row) → get rows n ≡ Some x → 0 < rows_of rows x.recall
row_counts rows n x is = omega (arith, cleared rows n x x.recall is, is_one (same_recall_itself x.recall))

-- a row that is put where another stood
pub put_over : (rows : FinMap nat_cmp Row) (n : ℕ) (old x : Row) (q : Recall) → get rows n ≡ Some old
    → rows_of (insert rows n x) q + cond (same_recall old.recall q) 1 0 ≡ rows_of rows q + cond (same_recall x.recall q) 1 0
put_over rows n old x q is =
    let left = remove rows n in
    let same : insert left n x ≡ insert rows n x = same_map nat_cmp_total nat_cmp-IsAntisymmetric _ _ (λ k. elim (one_key nat_cmp_total nat_cmp-IsAntisymmetric k n) [
      | inl e ↦ subst (λ z. get (insert left n x) z ≡ get (insert rows n x) z) (sym e) (get_here nat_cmp_total nat_cmp-IsAntisymmetric left n x ∙ sym (get_here nat_cmp_total nat_cmp-IsAntisymmetric rows n x))
      | inr ne ↦ get_apart nat_cmp_total nat_cmp-IsAntisymmetric left n x k ne ∙ get_left nat_cmp_total nat_cmp-IsAntisymmetric rows n k ne ∙ sym (get_apart nat_cmp_total nat_cmp-IsAntisymmetric rows n x k ne)
    ]) in
    let put : rows_of (insert left n x) q ≡ cond (same_recall x.recall q) 1 0 + rows_of left q = inserted left n x q (get_gone nat_cmp_total nat_cmp-IsAntisymmetric rows n) in
    let whole : rows_of (insert rows n x) q ≡ cond (same_recall x.recall q) 1 0 + rows_of left q = ap (λ m. rows_of m q) (sym same) ∙ put in
    omega (arith, whole, cleared rows n old q is)

-- What the calls leave.

pub counted_new : (rows : FinMap nat_cmp Row) (counts counts' : FinMap recall_cmp ℕ) (n : ℕ) (x : Row)
    → AreCounted rows counts → get rows n ≡ None → IsRaised counts x.recall counts' → AreCounted (insert rows n x) counts'
counted_new rows counts counts' n x are none up r = omega (arith, are r, up r, inserted rows n x r none)

pub counted_over : (rows : FinMap nat_cmp Row) (counts counts' counts'' : FinMap recall_cmp ℕ) (n : ℕ) (x old : Row)
    → AreCounted rows counts → get rows n ≡ Some old → IsRaised counts x.recall counts' → IsLowered counts' old.recall counts'' → AreCounted (insert rows n x) counts''
counted_over rows counts counts' counts'' n x old are is up down r = omega (arith, are r, up r, down r, put_over rows n old x r is)

pub counted_without : (rows : FinMap nat_cmp Row) (counts counts' : FinMap recall_cmp ℕ) (n : ℕ) (x : Row)
    → AreCounted rows counts → get rows n ≡ Some x → IsLowered counts x.recall counts' → AreCounted (remove rows n) counts'
counted_without rows counts counts' n x are is down r = omega (arith, are r, down r, cleared rows n x r is)

pub none_counted : (rows : FinMap nat_cmp Row) (counts : FinMap recall_cmp ℕ) → rows ≡ empty → counts ≡ empty → AreCounted rows counts
none_counted rows counts no_rows no_counts r =
    ap (λ m. count_in m r) no_counts ∙ ap (λ o. unwrap_or o 0) (get-empty recall_cmp r)
    ∙ sym (let few = few_rows rows r in
    let length_of : length (entries rows) ≡ 0 = ap (λ m. length (entries m)) no_rows ∙ sym (len-entries (empty {X = Row} {R = nat_cmp})) ∙ len-empty nat_cmp Row in
    omega (arith, few, length_of))

-- before the first row nothing is counted
pub counting_begins : (rows : FinMap nat_cmp Row) (counts : FinMap recall_cmp ℕ) (es : List (ℕ × Row)) → counts ≡ empty → es ≡ entries rows
    → (r : Recall) → count_in counts r + passing (λ row. same_recall row.recall r) es ≡ rows_of rows r
counting_begins rows counts es no_counts is r =
    let none : count_in counts r ≡ 0 = ap (λ m. count_in m r) no_counts ∙ ap (λ o. unwrap_or o 0) (get-empty recall_cmp r) in
    let all : passing (λ row. same_recall row.recall r) es ≡ rows_of rows r = ap (passing (λ row. same_recall row.recall r)) is in
    omega (arith, none, all)

-- the next row is counted
pub counting_goes_on : (counts counts' : FinMap recall_cmp ℕ) (e : ℕ × Row) (es whole : List (ℕ × Row)) (n : ℕ) (r : Recall)
    → count_in counts r + passing (λ row. same_recall row.recall r) whole ≡ n → whole ≡ e ∷ es → IsRaised counts e.1.recall counts'
    → count_in counts' r + passing (λ row. same_recall row.recall r) es ≡ n
counting_goes_on counts counts' e es whole n r all is up =
    omega (arith, all, ap (passing (λ row. same_recall row.recall r)) is, passing_more (λ (row : Row). same_recall row.recall r) e es, up r)
