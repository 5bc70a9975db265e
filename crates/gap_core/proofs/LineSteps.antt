-- Lines of items in order.
use Rattle.std.proofs.Common.{◌≡◌, ◌↔◌, inl, inr, ℕ, zero, suc, ◌+◌, ◌-◌, ◌<◌, ◌≤◌, ◌∙◌, List, [], ◌∷◌, ◌++◌, length, get_or, refl, sym, ap, subst, ⊎_elim, arith, length-append}
use mathlib.Core.Logic.{◌⊎◌}
use Rattle.std.specs.Cmp.{IsTotalOrder}
use Rattle.std.specs.Cmp.Lexicographic.{slice_cmp}
use Rattle.std.specs.List.{AllByRecursion, Contains, sum_by}
use Rattle.std.specs.List.Sorted.{IsStrictlySortedBy}
use Rattle.std.specs.Ordering.{nat_cmp, ordering_then}
use Rattle.std.specs.declared.cmp.Ordering.{Ordering}
use Rattle.std.specs.declared.cmp.Ordering.TheVariants.{Less, Equal, Greater}
use Rattle.std.proofs.lemmas.Bool.{cases_lt}
use Rattle.std.proofs.lemmas.Cmp.{then_total, on_total, nat_cmp_total, nat_list_cmp_total, tied_itself}
use Rattle.std.proofs.lemmas.List.{get_or_default}
use Rattle.std.proofs.lemmas.List.Elements.{Contains-get_or}
use Rattle.std.proofs.lemmas.List.Sums.{sum_by_push}
use Rattle.std.proofs.lemmas.Map.Keys.{Less-from_sorted}
use Rattle.std.proofs.lemmas.Map.Lookups.{exact_unsigned, exact_bytes}
use Rattle.trace_core.specs.Spreads.{AreAscendingItems}
use Rattle.trace_core.proofs.Members.{contains_here, contains_none, contains_there}
use Rattle.trace_core.proofs.SetMembers.{contains_pushed}
use Rattle.gap_core.specs.GapItems.{gap_item_cmp}
use Rattle.gap_core.specs.Lines.{AreLinesOf, HaveOneKey, IsEnd, IsLineOf, IsOfLine, gap_line_cmp, item_of, items_in}
use Rattle.gap_core.specs.declared.gap_items.GapItem.{GapItem}
use Rattle.gap_core.specs.declared.lines.GapLine.{GapLine}

-- ---- order

-- one more at the end
all_pushed : {X : Type 0} (P : X → Type 0) (xs : List X) (x : X) → AllByRecursion P xs → P x → AllByRecursion P (xs ++ x ∷ [])
all_pushed P [] x h p = (p, tt)
all_pushed P (y ∷ ys) x h p = (h.0, all_pushed P ys x h.1 p)

-- one more at the end, above all
sorted_push : {K : Type 0} (c : K → K → Ordering) (xs : List K) (y : K) → IsStrictlySortedBy c xs → ((x : K) → Contains xs x → c x y ≡ Less) → IsStrictlySortedBy c (xs ++ y ∷ [])
unfolding IsStrictlySortedBy
sorted_push c [] y sorted above = (tt, tt)
sorted_push c (x ∷ xs) y sorted above =
    (all_pushed (λ z. c x z ≡ Less) xs y sorted.0 (above x (contains_here x xs)), sorted_push c xs y sorted.1 (λ z there. above z (contains_there x z xs there)))

none_sorted : {K : Type 0} (c : K → K → Ordering) → IsStrictlySortedBy c []
unfolding IsStrictlySortedBy
none_sorted c = tt

-- the line of an item, by its key
abbrev key_of : GapItem → GapLine
key_of g = record { site = g.site; container = g.container; by = g.by; items = 0 }

abbrev KeyLess : GapItem → GapItem → Type 0
KeyLess a b = gap_line_cmp (key_of a) (key_of b) ≡ Less

line_total : IsTotalOrder gap_line_cmp
line_total = then_total (on_total (λ (l : GapLine). l.site) nat_cmp_total) (then_total (on_total (λ (l : GapLine). l.container) nat_list_cmp_total) (on_total (λ (l : GapLine). l.by) nat_cmp_total))

then_less : (r q : Ordering) → ordering_then r q ≡ Less → (r ≡ Less) ⊎ ((r ≡ Equal) × (q ≡ Less))
then_less Less q h = inl refl
then_less Equal q h = inr (refl, h)
then_less Greater q h = absurd (clash h)
  where
    clash : Greater ≡ Less → ⊥
    clash e = cc

first_less : (r q : Ordering) → r ≡ Less → ordering_then r q ≡ Less
first_less r q h = rw h refl

then_after : (r q : Ordering) → r ≡ Equal → q ≡ Less → ordering_then r q ≡ Less
then_after r q h k = rw (h, k) refl

-- what comes before comes before by its key, or has the same key and the lesser child
split : (a b : GapItem) → gap_item_cmp a b ≡ Less → KeyLess a b ⊎ (HaveOneKey a b × (slice_cmp nat_cmp a.child b.child ≡ Less))
split a b h = ⊎_elim
    (λ site. inl (first_less (nat_cmp a.site b.site) _ site))
    (λ (site, rest). ⊎_elim
    (λ container. inl (then_after (nat_cmp a.site b.site) _ site (first_less (slice_cmp nat_cmp a.container b.container) (nat_cmp a.by b.by) container)))
    (λ (container, last). ⊎_elim
    (λ by. inl (then_after (nat_cmp a.site b.site) _ site (then_after (slice_cmp nat_cmp a.container b.container) (nat_cmp a.by b.by) container by)))
    (λ (by, child). inr (record { site = exact_unsigned a.site b.site site; container = exact_bytes a.container b.container container; by = exact_unsigned a.by b.by by }, child))
    (then_less (nat_cmp a.by b.by) (slice_cmp nat_cmp a.child b.child) last))
    (then_less (slice_cmp nat_cmp a.container b.container) (ordering_then (nat_cmp a.by b.by) (slice_cmp nat_cmp a.child b.child)) rest))
    (then_less (nat_cmp a.site b.site) (ordering_then (slice_cmp nat_cmp a.container b.container) (ordering_then (nat_cmp a.by b.by) (slice_cmp nat_cmp a.child b.child))) h)

key_back : (a b : GapItem) → HaveOneKey a b → HaveOneKey b a
key_back a b h = record { site = sym h.site; container = sym h.container; by = sym h.by }

key_then : (a b c : GapItem) → HaveOneKey a b → HaveOneKey b c → HaveOneKey a c
key_then a b c h k = record { site = h.site ∙ k.site; container = h.container ∙ k.container; by = h.by ∙ k.by }

-- the same key isn't less
not_less : (a b : GapItem) → HaveOneKey a b → KeyLess a b → ⊥
not_less a b same less =
    let one : key_of a ≡ key_of b = λ i. record { site = same.site i; container = same.container i; by = same.by i; items = 0 } in
    clash (sym (tied_itself line_total (key_of b)) ∙ subst (λ l. gap_line_cmp l (key_of b) ≡ Less) one less)
  where
    clash : Equal ≡ Less → ⊥
    clash e = cc

-- lines are in the order of their items' keys
lines_less : (a b : GapItem) (l m : GapLine) → IsOfLine a l → IsOfLine b m → KeyLess a b → gap_line_cmp l m ≡ Less
lines_less a b l m la mb less =
    let same : gap_line_cmp (key_of a) (key_of b) ≡ gap_line_cmp l m = λ i. ordering_then (nat_cmp (la.site i) (mb.site i)) (ordering_then (slice_cmp nat_cmp (la.container i) (mb.container i)) (nat_cmp (la.by i) (mb.by i))) in
    sym same ∙ less

-- what stands of the lines of the items before a place
pub record LinesTo (items : List GapItem) (d : GapItem) (lines : List GapLine) (start : ℕ) : Type 0 where
  pub within : start ≤ length items
  pub ascending : IsStrictlySortedBy gap_line_cmp lines
  pub each : (l : GapLine) → Contains lines l → IsLineOf (Contains items) l
  pub from : (l : GapLine) → Contains lines l → (k : ℕ) × (k < start) × IsOfLine (get_or items k d) l
  pub all : (k : ℕ) → k < start → (l : GapLine) × Contains lines l × IsOfLine (get_or items k d) l
  pub apart : (k j : ℕ) → k < start → start ≤ j → j < length items → HaveOneKey (get_or items k d) (get_or items j d) → ⊥
  pub total : sum_by (λ l. l.items) lines ≡ start

-- an item that stands for none
pub none_item : GapItem
none_item = record { site = 0; container = []; by = 0; child = [] }

-- the items from one place to before another are of one line
pub record RunsTo (items : List GapItem) (start end : ℕ) : Type 0 where
  pub after : start < end
  pub same : (d : GapItem) (k : ℕ) → start ≤ k → k < end → HaveOneKey (get_or items start d) (get_or items k d)

-- ---- runs of items of one line

module _ (items : List GapItem) (sorted : IsStrictlySortedBy gap_item_cmp items) (d : GapItem) where
  abbrev at : ℕ → GapItem
  at k = get_or items k d

  less_at : (i j : ℕ) → i < j → j < length items → gap_item_cmp (at i) (at j) ≡ Less
  less_at i j before below = Less-from_sorted gap_item_cmp items i j d sorted before below

  -- no item before a place is of one line with one from there on
  abbrev AreApart : ℕ → Type 0
  AreApart start = (k j : ℕ) → k < start → start ≤ j → j < length items → HaveOneKey (at k) (at j) → ⊥

  apart_behind : (start end : ℕ) → AreApart start → IsEnd items start end → AreApart end
  apart_behind start end before is k j lt from below same = ⊎_elim
      (λ sooner. before k j sooner (reach from) below same)
      (λ inside. behind (key_then (at start) (at k) (at j) (is.same d k inside lt) same))
      (cases_lt k start)
    where
      reach : end ≤ j → start ≤ j
      reach h = let after = is.after in omega (arith, after, h)

      below_end : end < length items
      below_end = omega (arith, from, below)

      behind : HaveOneKey (at start) (at j) → ⊥
      behind one = ⊎_elim
          (λ less. ⊎_elim
          (λ sooner. ⊎_elim
          (λ more. not_less (at start) (at j) one (line_total.trans (key_of (at start)) (key_of (at end)) (key_of (at j)) less more))
          (λ (like, child). is.next d below_end (key_then (at start) (at j) (at end) one (key_back (at end) (at j) like)))
          (split (at end) (at j) (less_at end j sooner below)))
          (λ past. let here : end ≡ j = omega (arith, past, from) in is.next d below_end (subst (λ n. HaveOneKey (at start) (at n)) (sym here) one))
          (cases_lt end j))
          (λ (like, child). is.next d below_end like)
          (split (at start) (at end) (less_at start end is.after below_end))

  -- the children of so many items from a place on
  abbrev children_from : ℕ → ℕ → List (List ℕ)
  children_from start zero = []
  children_from start (suc n) = children_from start n ++ (at (start + n)).child ∷ []

  counted : (start n : ℕ) → length (children_from start n) ≡ n
  counted start zero = refl
  counted start (suc n) = length-append (children_from start n) ((at (start + n)).child ∷ []) ∙ omega (arith, counted start n)

  child_at : (start n : ℕ) (c : List ℕ) → Contains (children_from start n) c → (k : ℕ) × (k < n) × ((at (start + k)).child ≡ c)
  child_at start zero c h = absurd (contains_none c h)
  child_at start (suc n) c h = ⊎_elim
      (λ was. let (k, lt, is) = child_at start n c was in (k, omega (arith, lt), is))
      (λ last. (n, omega arith, last))
      ((contains_pushed (children_from start n) (at (start + n)).child c).0 h)

  at_child : (start n k : ℕ) → k < n → Contains (children_from start n) (at (start + k)).child
  at_child start zero k lt = absurd (none lt)
    where
      none : k < 0 → ⊥
      none h = omega (arith, h)
  at_child start (suc n) k lt = ⊎_elim
      (λ sooner. (contains_pushed (children_from start n) (at (start + n)).child (at (start + k)).child).1 (inl (at_child start n k sooner)))
      (λ past. let here : n ≡ k = omega (arith, lt, past) in (contains_pushed (children_from start n) (at (start + n)).child (at (start + k)).child).1 (inr (ap (λ m. (at (start + m)).child) here)))
      (cases_lt k n)

  children_ascend : (start end n : ℕ) → IsEnd items start end → start + n ≤ end → AreAscendingItems (children_from start n)
  children_ascend start end zero is within = none_sorted (slice_cmp nat_cmp)
  children_ascend start end (suc n) is within =
      sorted_push (slice_cmp nat_cmp) (children_from start n) (at (start + n)).child (children_ascend start end n is (omega (arith, within)))
      (λ c there.
      let (k, lt, child) = child_at start n c there in
      subst (λ x. slice_cmp nat_cmp x (at (start + n)).child ≡ Less) child
      (⊎_elim
      (λ less. absurd (not_less (at (start + k)) (at (start + n)) (alike k lt) less))
      (λ (like, smaller). smaller)
      (split (at (start + k)) (at (start + n)) (less_at (start + k) (start + n) (omega (arith, lt)) (inside is.within)))))
    where
      inside : end ≤ length items → start + n < length items
      inside h = omega (arith, within, h)

      alike : (k : ℕ) → k < n → HaveOneKey (at (start + k)) (at (start + n))
      alike k lt = key_then (at (start + k)) (at start) (at (start + n))
          (key_back (at start) (at (start + k)) (is.same d (start + k) (omega arith) (omega (arith, within, lt))))
          (is.same d (start + n) (omega arith) (omega (arith, within)))

  -- the line of a run
  abbrev line_at : ℕ → ℕ → GapLine
  line_at start end = record { site = (at start).site; container = (at start).container; by = (at start).by; items = end - start }

  run_line : (start end : ℕ) → AreApart start → IsEnd items start end → IsLineOf (Contains items) (line_at start end)
  run_line start end apart is = record {
    children = children_from start (end - start);
    ascending = children_ascend start end (end - start) is (fits is.after);
    exact = λ c. (
      λ h.
          let (k, lt, child) = child_at start (end - start) c h in
          subst (Contains items) (whole k c (is.same d (start + k) (omega arith) (inner k lt is.after)) child) (Contains-get_or items (start + k) d (below k lt is.after is.within)),
      λ (j, lt, stands). back c j lt (at_item c j stands),
    );
    counted = sym (counted start (end - start));
    some = one is.after;
  }
    where
      fits : start < end → start + (end - start) ≤ end
      fits h = omega (arith, h)

      one : start < end → 1 ≤ end - start
      one h = omega (arith, h)

      inner : (k : ℕ) → k < end - start → start < end → start + k < end
      inner k lt h = omega (arith, lt, h)

      below : (k : ℕ) → k < end - start → start < end → end ≤ length items → start + k < length items
      below k lt h within = omega (arith, lt, h, within)

      whole : (k : ℕ) (c : List ℕ) → HaveOneKey (at start) (at (start + k)) → (at (start + k)).child ≡ c → at (start + k) ≡ item_of (line_at start end) c
      whole k c same child = λ i. record { site = (sym same.site) i; container = (sym same.container) i; by = (sym same.by) i; child = child i }

      at_item : (c : List ℕ) (j : ℕ) → get_or items j (item_of (line_at start end) c) ≡ item_of (line_at start end) c → j < length items → at j ≡ item_of (line_at start end) c
      at_item c j stands lt = get_or_default items j d (item_of (line_at start end) c) lt ∙ stands

      back : (c : List ℕ) (j : ℕ) → j < length items → (j < length items → at j ≡ item_of (line_at start end) c) → Contains (children_from start (end - start)) c
      back c j lt stand =
          let is_item = stand lt in
          let same : HaveOneKey (at start) (at j) = record { site = sym (ap (λ (x : GapItem). x.site) is_item); container = sym (ap (λ (x : GapItem). x.container) is_item); by = sym (ap (λ (x : GapItem). x.by) is_item) } in
          ⊎_elim
          (λ sooner. absurd (apart j start sooner (omega arith) (first is.after is.within) (key_back (at start) (at j) same)))
          (λ from. ⊎_elim
          (λ inside. subst (Contains (children_from start (end - start))) (ap (λ m. (at m).child) (place from) ∙ ap (λ (x : GapItem). x.child) is_item) (at_child start (end - start) (j - start) (short from inside)))
          (λ past. absurd (apart_behind start end apart is start j is.after past lt same))
          (cases_lt j end))
          (cases_lt j start)
        where
          first : start < end → end ≤ length items → start < length items
          first h k = omega (arith, h, k)

          place : start ≤ j → start + (j - start) ≡ j
          place h = omega (arith, h)

          short : start ≤ j → j < end → j - start < end - start
          short h k = omega (arith, h, k)

  pub lines_begin : LinesTo items d [] 0
  lines_begin = record {
    within = omega arith;
    ascending = none_sorted gap_line_cmp;
    each = λ l h. absurd (contains_none l h);
    from = λ l h. absurd (contains_none l h);
    all = λ k below. absurd (none k below);
    apart = λ k j below. absurd (none k below);
    total = refl;
  }
    where
      none : (k : ℕ) → k < 0 → ⊥
      none k h = omega (arith, h)

  pub lines_go_on : (lines new : List GapLine) (start end : ℕ) → LinesTo items d lines start → IsEnd items start end → new ≡ lines ++ line_at start end ∷ [] → LinesTo items d new end
  lines_go_on lines new start end so_far is pushed = record {
    within = is.within;
    ascending = subst (IsStrictlySortedBy gap_line_cmp) (sym pushed) (sorted_push gap_line_cmp lines (line_at start end) so_far.ascending before);
    each = λ l h. ⊎_elim (λ was. so_far.each l was) (λ same. subst (IsLineOf (Contains items)) same (run_line start end so_far.apart is)) (cases l h);
    from = λ l h. ⊎_elim
        (λ was. let (k, lt, of) = so_far.from l was in (k, later k lt is.after, of))
        (λ same. (start, is.after, subst (IsOfLine (at start)) same itself))
        (cases l h);
    all = λ k lt. ⊎_elim
        (λ sooner. let (l, there, of) = so_far.all k sooner in (l, kept l there, of))
        (λ inside. (line_at start end, last, alike k (is.same d k inside lt)))
        (cases_lt k start);
    apart = apart_behind start end so_far.apart is;
    total = ap (sum_by (λ l. l.items)) pushed ∙ sum_by_push (λ l. l.items) lines (line_at start end) ∙ summed so_far.total is.after;
  }
    where
      cases : (l : GapLine) → Contains new l → Contains lines l ⊎ (line_at start end ≡ l)
      cases l h = (contains_pushed lines (line_at start end) l).0 (subst (λ ls. Contains ls l) pushed h)

      kept : (l : GapLine) → Contains lines l → Contains new l
      kept l h = subst (λ ls. Contains ls l) (sym pushed) ((contains_pushed lines (line_at start end) l).1 (inl h))

      last : Contains new (line_at start end)
      last = subst (λ ls. Contains ls (line_at start end)) (sym pushed) ((contains_pushed lines (line_at start end) (line_at start end)).1 (inr refl))

      later : (k : ℕ) → k < start → start < end → k < end
      later k lt h = omega (arith, lt, h)

      itself : IsOfLine (at start) (line_at start end)
      itself = record { site = refl; container = refl; by = refl }

      alike : (k : ℕ) → HaveOneKey (at start) (at k) → IsOfLine (at k) (line_at start end)
      alike k same = record { site = sym same.site; container = sym same.container; by = sym same.by }

      first : start < end → end ≤ length items → start < length items
      first h k = omega (arith, h, k)

      before : (l : GapLine) → Contains lines l → gap_line_cmp l (line_at start end) ≡ Less
      before l h =
          let (k, lt, of) = so_far.from l h in
          ⊎_elim
          (λ less. lines_less (at k) (at start) l (line_at start end) of itself less)
          (λ (same, child). absurd (so_far.apart k start lt (omega arith) (first is.after is.within) same))
          (split (at k) (at start) (less_at k start lt (first is.after is.within)))

      summed : sum_by (λ l. l.items) lines ≡ start → start < end → sum_by (λ l. l.items) lines + (end - start) ≡ end
      summed h k = omega (arith, h, k)

  pub lines_end : (lines : List GapLine) (start : ℕ) → length items ≤ start → LinesTo items d lines start → AreLinesOf (Contains items) lines
  lines_end lines start past so_far = record {
    ascending = so_far.ascending;
    true_ones = so_far.each;
    all = λ g (k, lt, stands).
        let (l, there, of) = so_far.all k (before k lt) in
        (l, there, subst (λ x. IsOfLine x l) (get_or_default items k d g lt ∙ stands) of);
  }
    where
      before : (k : ℕ) → k < length items → k < start
      before k lt = omega (arith, lt, past)

  pub lines_count : (lines : List GapLine) (start : ℕ) → length items ≤ start → LinesTo items d lines start → length items ≡ items_in lines
  lines_count lines start past so_far = sym (so_far.total ∙ whole so_far.within)
    where
      whole : start ≤ length items → start ≡ length items
      whole h = omega (arith, h, past)

-- ---- where a run ends

pub run_begins : (items : List GapItem) (start : ℕ) → RunsTo items start (start + 1)
run_begins items start = record {
  after = omega arith;
  same = λ d k from below. itself d k (same from below);
}
  where
    same : {k : ℕ} → start ≤ k → k < start + 1 → start ≡ k
    same from below = omega (arith, from, below)

    itself : (d : GapItem) (k : ℕ) → start ≡ k → HaveOneKey (get_or items start d) (get_or items k d)
    itself d k here = subst (λ n. HaveOneKey (get_or items start d) (get_or items n d)) here (record { site = refl; container = refl; by = refl })

module _ (items : List GapItem) (start end : ℕ) (a b : GapItem) (first : a ≡ get_or items start a) (second : b ≡ get_or items end b) (below : end < length items) where
  -- the two items, whatever stands for none
  here : start < end → (d : GapItem) → (a ≡ get_or items start d) × (b ≡ get_or items end d)
  here before d = (first ∙ get_or_default items start a d (low before), second ∙ get_or_default items end b d below)
    where
      low : start < end → start < length items
      low h = omega (arith, h, below)

  pub run_goes_on : RunsTo items start end → HaveOneKey a b → RunsTo items start (end + 1)
  run_goes_on runs one = record {
    after = longer runs.after;
    same = λ d k from lt. ⊎_elim
        (λ sooner. runs.same d k from sooner)
        (λ past. last d k (place lt past))
        (cases_lt k end);
  }
    where
      longer : start < end → start < end + 1
      longer h = omega (arith, h)

      place : {k : ℕ} → k < end + 1 → end ≤ k → end ≡ k
      place lt past = omega (arith, lt, past)

      last : (d : GapItem) (k : ℕ) → end ≡ k → HaveOneKey (get_or items start d) (get_or items k d)
      last d k same =
          let (one_is, two_is) = here runs.after d in
          subst (λ n. HaveOneKey (get_or items start d) (get_or items n d)) same (subst (λ x. HaveOneKey x (get_or items end d)) one_is (subst (λ x. HaveOneKey a x) two_is one))

  pub run_stops : RunsTo items start end → (HaveOneKey a b → ⊥) → IsEnd items start end
  run_stops runs other = record {
    after = runs.after;
    within = omega (arith, below);
    same = runs.same;
    next = λ d lt one.
        let (one_is, two_is) = here runs.after d in
        other (subst (λ x. HaveOneKey x b) (sym one_is) (subst (λ x. HaveOneKey (get_or items start d) x) (sym two_is) one));
  }

pub run_ends : (items : List GapItem) (start end : ℕ) → start < length items → length items ≤ end → RunsTo items start end → IsEnd items start (length items)
run_ends items start end some past runs = record {
  after = some;
  within = omega arith;
  same = λ d k from lt. runs.same d k from (sooner lt);
  next = λ d lt one. none lt;
}
  where
    sooner : {k : ℕ} → k < length items → k < end
    sooner lt = omega (arith, lt, past)

    none : length items < length items → ⊥
    none lt = omega (arith, lt)

-- the lines of all items of which something holds
pub lines_alike : (P : GapItem → Type 0) (items : List GapItem) (lines : List GapLine) → ((g : GapItem) → Contains items g ↔ P g) → AreLinesOf (Contains items) lines → AreLinesOf P lines
lines_alike P items lines exact are = record {
  ascending = are.ascending;
  true_ones = λ l there. let line = are.true_ones l there in record {
    children = line.children;
    ascending = line.ascending;
    exact = λ c. (λ h. (exact (item_of l c)).0 ((line.exact c).0 h), λ h. (line.exact c).1 ((exact (item_of l c)).1 h));
    counted = line.counted;
    some = line.some;
  };
  all = λ g h. are.all g ((exact g).1 h);
}
