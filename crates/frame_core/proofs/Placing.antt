-- The places of rows: what putting and removing a row leaves, and the first one of a destination.
use Rattle.std.proofs.lemmas.Cmp.{tied_itself}
use Rattle.std.proofs.Common.{◌≡◌, Result, Ok, Err, OnOk, is_err, true≢false, ◌≢◌, inl, inr, ℕ, ◌==◌, ◌<◌, ◌≤◌, ◌++◌, ◌&&◌, Bool, true, false, cond, List, [], ◌∷◌, filter, append-nil, ◌⊎◌, Option, Some, None, refl, sym, ap, subst, ◌∙◌, arith}
use Rattle.std.specs.Prelude.{T, ⊤, ◌↔◌, IsSome, IfSome, slice_get}
use Rattle.std.specs.BTreeMap.{BTreeMap, IsOrdered}
use Rattle.std.specs.BTreeMap as tree
use Rattle.std.specs.BTreeMap.Range.{IsRangeOf, IsEntryInRange, IsLeBy}
use Rattle.std.specs.declared.ops.Bound.TheVariants.{Included, Unbounded}
use Rattle.std.specs.Cmp.{nat_cmp_total}
use Rattle.std.specs.Ordering.{nat_cmp, is_eq, is_gt, is_le, is_lt, ordering_then}
use Rattle.std.specs.declared.cmp.Ordering.TheVariants.{Less, Equal, Greater}
use Rattle.std.specs.FinMap.{FinMap, nat_cmp-IsAntisymmetric, empty, get-empty, find, get, insert, remove, same_map, same_entries_map, entries, entries-insert, get-entries, entries-from_sorted, is_sorted}
use Rattle.std.specs.FinMap.Entries.{below_all, find-where_key, is_sorted-where_key}
use Rattle.frame_core.proofs.Ascending.{first, second, put_next}
use Rattle.frame_core.specs.Outboxes.{IsRowTo, IsNextTo}
use Rattle.frame_core.specs.Places.{AreListed, AreListedIn, place_cmp, place_total, place_exact}
use Rattle.frame_core.specs.declared.places.Place.{Place}
use Rattle.frame_core.specs.declared.places.Places.{Places}
use Rattle.frame_core.specs.declared.rows.Row.{Row}
use Rattle.frame_core.specs.Tables.{as_map}
use Rattle.frame_core.proofs.Maps.{map_found, none_sorted}
use Rattle.frame_core.proofs.Lookups.{one_key, get_here, get_apart, get_gone, get_left}

number_apart : (rows : FinMap nat_cmp Row) (n q : ℕ) (row : Row) → get rows n ≡ None → get rows q ≡ Some row → q ≢ n
number_apart rows n q row none is same = let there : get rows n ≡ Some row = subst (λ k. get rows k ≡ Some row) same is in cc

gone_apart : (rows : FinMap nat_cmp Row) (n q : ℕ) (row : Row) → get (remove rows n) q ≡ Some row → q ≢ n
gone_apart rows n q row is = number_apart (remove rows n) n q row (get_gone nat_cmp_total nat_cmp-IsAntisymmetric rows n) is

some_is : {A : Type 0} (o : Option A) (a : A) → o ≡ Some a → IsSome o
some_is o a is = subst IsSome (sym is) refl

not_none : {A : Type 0} (o : Option A) → o ≡ None → IsSome o → ⊥
not_none None is some = cc
not_none (Some a) is some = cc

-- a call that did not fail
pub not_failed : {A E P : Type 0} (r : Result A E) → is_err r ≡ false → OnOk r P → P
not_failed (Ok a) ok is = is
not_failed (Err e) ok is = absurd (true≢false ok)

module _ (rows : FinMap nat_cmp Row) (m : FinMap place_cmp ⊤) (p : Place) (row : Row) where
  -- a new row's place is listed
  pub listed_new : AreListed rows m → get rows p.number ≡ None → row.dest ≡ p.dest → AreListed (insert rows p.number row) (insert m p tt)
  listed_new h none to q = elim (one_key place_total place_exact q p) as (λ _. IsSome (get (insert m p tt) q) ↔ IsRowTo (insert rows p.number row) q.dest q.number) [
    | inl same ↦ (
      λ _. (row, subst (λ (z : Place). get (insert rows p.number row) z.number ≡ Some row) (sym same) (get_here nat_cmp_total nat_cmp-IsAntisymmetric rows p.number row), to ∙ ap (λ (z : Place). z.dest) (sym same)),
      λ _. subst (λ (z : Place). IsSome (get (insert m p tt) z)) (sym same) (some_is _ tt (get_here place_total place_exact m p tt)),
    )
    | inr ne ↦
        let kept : get (insert m p tt) q ≡ get m q = get_apart place_total place_exact m p tt q ne in (
          λ some.
              let (x, is, for) = (h q).0 (subst IsSome kept some) in
              (x, get_apart nat_cmp_total nat_cmp-IsAntisymmetric rows p.number row q.number (number_apart rows p.number q.number x none is) ∙ is, for),
          λ there. subst IsSome (sym kept) (elim (one_key nat_cmp_total nat_cmp-IsAntisymmetric q.number p.number) as (λ _. IsSome (get m q)) [
            | inl at ↦
                let is : Some row ≡ Some there.0 = sym (get_here nat_cmp_total nat_cmp-IsAntisymmetric rows p.number row) ∙ ap (get (insert rows p.number row)) (sym at) ∙ there.1 in
                let for : q.dest ≡ p.dest = let x : row ≡ there.0 = cc in sym there.2 ∙ ap (λ (z : Row). z.dest) (sym x) ∙ to in
                absurd (ne (λ i. record { dest = for i; number = at i }))
            | inr other ↦ (h q).1 (there.0, sym (get_apart nat_cmp_total nat_cmp-IsAntisymmetric rows p.number row q.number other) ∙ there.1, there.2)
          ]),
        )
  ]

  -- the place of a row that is removed isn't listed any more
  pub listed_without : AreListed rows m → get rows p.number ≡ Some row → row.dest ≡ p.dest → AreListed (remove rows p.number) (remove m p)
  listed_without h stood to q = elim (one_key place_total place_exact q p) as (λ _. IsSome (get (remove m p) q) ↔ IsRowTo (remove rows p.number) q.dest q.number) [
    | inl same ↦ (
      λ some. absurd (not_none _ (subst (λ (z : Place). get (remove m p) z ≡ None) (sym same) (get_gone place_total place_exact m p)) some),
      λ there. absurd (gone_apart rows p.number q.number there.0 there.1 (ap (λ (z : Place). z.number) same)),
    )
    | inr ne ↦
        let kept : get (remove m p) q ≡ get m q = get_left place_total place_exact m p q ne in (
          λ some.
              let (x, is, for) = (h q).0 (subst IsSome kept some) in
              let other : q.number ≢ p.number = λ at.
              let same : Some row ≡ Some x = sym stood ∙ ap (get rows) (sym at) ∙ is in
              let dest : q.dest ≡ p.dest = let one : row ≡ x = cc in sym for ∙ ap (λ (z : Row). z.dest) (sym one) ∙ to in
              ne (λ i. record { dest = dest i; number = at i })
              in (x, get_left nat_cmp_total nat_cmp-IsAntisymmetric rows p.number q.number other ∙ is, for),
          λ there. subst IsSome (sym kept) ((h q).1 (there.0, sym (get_left nat_cmp_total nat_cmp-IsAntisymmetric rows p.number q.number (gone_apart rows p.number q.number there.0 there.1)) ∙ there.1, there.2)),
        )
  ]

-- no places of no rows
pub none_listed : (m : FinMap place_cmp ⊤) → m ≡ empty → AreListed empty m
none_listed m is q = (
  λ some. absurd (not_none _ (ap (λ z. get z q) is ∙ get-empty place_cmp q) some),
  λ there. let none : None ≡ Some there.0 = sym (get-empty nat_cmp q.number) ∙ there.1 in cc,
)

-- The first place of a destination, in a range of all places from one on.

-- a place that isn't below another has no lower destination, and of its own no lower number
place_low : (a b c d : ℕ) → is_gt (ordering_then (nat_cmp a b) (nat_cmp c d)) ≡ false → a ≤ b
place_low a b c d h = grind arith

number_low : (a b c d : ℕ) → is_gt (ordering_then (nat_cmp a b) (nat_cmp c d)) ≡ false → b ≡ a → c ≤ d
number_low a b c d h same = grind arith

not_above : (a c d : ℕ) → c ≤ d → is_gt (ordering_then (nat_cmp a a) (nat_cmp c d)) ≡ false
not_above a c d le = grind arith

module _ (rows : FinMap nat_cmp Row) (m : BTreeMap Place ⊤) (dest from : ℕ) (h : AreListed rows (as_map place_cmp m)) (up : IsOrdered place_cmp m) where
  abbrev start : Place
  start = record { dest = dest; number = from }

  module _ (r : List (Place × ⊤)) (range : IsRangeOf place_cmp (Included start) Unbounded m r) where
    -- a row for the destination from there on is in the range
    within : (n : ℕ) → IsRowTo rows dest n → IsSome (tree.get place_cmp m (record { dest = dest; number = n }))
    within n row =
        let q : Place = record { dest = dest; number = n } in
        subst IsSome (sym (map_found place_total m q up)) ((h q).1 row)

    none_below : (n : ℕ) → from ≤ n → r ≡ [] → IsRowTo rows dest n → ⊥
    none_below n le none row = not_none _ (range.5 none (record { dest = dest; number = n }) (not_above dest from n le, tt)) (within n row)

    first_below : (p : Place) (u : ⊤) (rest : List (Place × ⊤)) → r ≡ (p, u) ∷ rest → (n : ℕ) → from ≤ n → IsRowTo rows dest n → IsLeBy place_cmp p (record { dest = dest; number = n })
    first_below p u rest is n le row =
        let q : Place = record { dest = dest; number = n } in
        subst (λ (z : List (Place × ⊤)). IfSome (slice_get z 0) (λ e. IsLeBy place_cmp e.0 q)) is (range.2 q (not_above dest from n le, tt) (within n row))

    pub none_next : r ≡ [] → IsNextTo rows dest from None
    none_next none = record { there = tt; least = λ n row le. absurd (none_below n le none row) }

    pub first_next : (p : Place) (u : ⊤) (rest : List (Place × ⊤)) → r ≡ (p, u) ∷ rest → p.dest ≡ dest → IsNextTo rows dest from (Some p.number)
    first_next p u rest is to =
        let entry : IsEntryInRange place_cmp (Included start) Unbounded m (p, u) = subst (λ (z : List (Place × ⊤)). IfSome (slice_get z 0) (IsEntryInRange place_cmp (Included start) Unbounded m)) is range.1 in
        let row = (h p).0 (some_is _ u (sym (map_found place_total m p up) ∙ entry.1)) in
        record {
          there = ((row.0, row.1, row.2 ∙ to), number_low dest p.dest from p.number entry.0.0 to);
          least = λ n there le. (p.number, refl, number_low p.dest dest p.number n (first_below p u rest is n le there) (sym to));
        }

    pub other_next : (p : Place) (u : ⊤) (rest : List (Place × ⊤)) → r ≡ (p, u) ∷ rest → p.dest ≢ dest → IsNextTo rows dest from None
    other_next p u rest is apart =
        let entry : IsEntryInRange place_cmp (Included start) Unbounded m (p, u) = subst (λ (z : List (Place × ⊤)). IfSome (slice_get z 0) (IsEntryInRange place_cmp (Included start) Unbounded m)) is range.1 in
        let low = place_low dest p.dest from p.number entry.0.0 in
        record {
          there = tt;
          least = λ n there le.
              let high = place_low p.dest dest p.number n (first_below p u rest is n le there) in
              absurd (apart (omega (arith, low, high)));
        }

-- what a test of two destinations says
pub is_same : (a b : ℕ) → (a == b) ≡ true → a ≡ b
is_same a b h = grind (arith, h)

pub is_other : (a b : ℕ) → (a == b) ≡ false → a ≢ b
is_other a b h same = grind (arith, h, same)

-- All rows gone through, from a number on.

-- what is found among entries above a number has a higher one
above_of : (k n : ℕ) (x : Row) (es : List (ℕ × Row)) → T (below_all nat_cmp k es) → find nat_cmp n es ≡ Some x → k < n
above_of k n x [] up is = cc
above_of k n x (e ∷ es) up is = elim (nat_cmp n e.0) as (λ r. nat_cmp n e.0 ≡ r → cond (is_eq r) (Some e.1) (find nat_cmp n es) ≡ Some x → k < n) [
  | Less ↦ λ _ h. above_of k n x es (second _ _ up) h
  | Equal ↦ λ tie h. let same : n ≡ e.0 = nat_cmp-IsAntisymmetric n e.0 tie in subst (λ z. k < z) (sym same) (lower k e.0 (first _ _ up))
  | Greater ↦ λ _ h. above_of k n x es (second _ _ up) h
] refl is
  where
    lower : (a b : ℕ) → T (is_lt (nat_cmp a b)) → a < b
    lower a b h = grind arith

-- the rows that are left have those from the number on that can be for the destination
pub record IsLeft (rows : FinMap nat_cmp Row) (dest from : ℕ) (rest : List (ℕ × Row)) : Type 0 where
  pub up : T (is_sorted nat_cmp rest)
  pub there : (n : ℕ) (row : Row) → find nat_cmp n rest ≡ Some row → (get rows n ≡ Some row) × (from ≤ n)
  pub left : (n : ℕ) (row : Row) → get rows n ≡ Some row → row.dest ≡ dest → from ≤ n → find nat_cmp n rest ≡ Some row

module _ (rows : FinMap nat_cmp Row) (dest from : ℕ) where
  passes : (n : ℕ) → (is_le (nat_cmp from n) && true) ≡ true → from ≤ n
  passes n h = grind (arith, h)

  passed : (n : ℕ) → from ≤ n → (is_le (nat_cmp from n) && true) ≡ true
  passed n le = grind (arith, le)

  pub all_left : (es : List (ℕ × Row)) → T (is_sorted nat_cmp es) → ((n : ℕ) → get rows n ≡ find nat_cmp n es) → IsLeft rows dest from (filter (λ e. is_le (nat_cmp from e.0) && true) es)
  all_left es up same =
      let test : ℕ → Bool = λ x. is_le (nat_cmp from x) && true in
      let found : (n : ℕ) → find nat_cmp n (filter (λ e. is_le (nat_cmp from e.0) && true) es) ≡ cond (is_le (nat_cmp from n) && true) (find nat_cmp n es) None
      = λ n. find-where_key nat_cmp (λ x. is_le (nat_cmp from x) && true) n (λ x tie. ap (λ z. is_le (nat_cmp from z) && true) (sym (nat_cmp-IsAntisymmetric n x tie))) es in
      record {
        up = is_sorted-where_key nat_cmp (λ x. is_le (nat_cmp from x) && true) es up;
        there = λ n row is. inside (is_le (nat_cmp from n) && true) n row refl (sym (found n) ∙ is);
        left = λ n row is to le. found n ∙ ap (λ b. cond b (find nat_cmp n es) None) (passed n le) ∙ sym (same n) ∙ is;
      }
    where
      inside : (b : Bool) (n : ℕ) (row : Row) → (is_le (nat_cmp from n) && true) ≡ b → cond b (find nat_cmp n es) None ≡ Some row → (get rows n ≡ Some row) × (from ≤ n)
      inside true n row test is = (same n ∙ is, passes n test)
      inside false n row test is = cc

  module _ (rest : List (ℕ × Row)) (h : IsLeft rows dest from rest) where
    pub left_none : rest ≡ [] → IsNextTo rows dest from None
    left_none none = record {
      there = tt;
      least = λ n row le. let is : find nat_cmp n [] ≡ Some row.0 = ap (find nat_cmp n) (sym none) ∙ h.left n row.0 row.1 row.2 le in cc;
    }

    module _ (later : List (ℕ × Row)) (k : ℕ) (x : Row) (is : rest ≡ (k, x) ∷ later) where
      ascending : T (is_sorted nat_cmp ((k, x) ∷ later))
      ascending = subst (λ (z : List (ℕ × Row)). T (is_sorted nat_cmp z)) is h.up

      here : find nat_cmp k rest ≡ Some x
      here = ap (find nat_cmp k) is ∙ ap (λ r. cond (is_eq r) (Some x) (find nat_cmp k later)) (tied_itself nat_cmp_total k)

      -- what is found is the first one, or found later
      first_or_later : (n : ℕ) (row : Row) → find nat_cmp n rest ≡ Some row → ((n ≡ k) × (row ≡ x)) ⊎ (find nat_cmp n later ≡ Some row)
      first_or_later n row found = elim (nat_cmp n k) as (λ r. nat_cmp n k ≡ r → cond (is_eq r) (Some x) (find nat_cmp n later) ≡ Some row → ((n ≡ k) × (row ≡ x)) ⊎ (find nat_cmp n later ≡ Some row)) [
        | Less ↦ λ _ t. inr t
        | Equal ↦ λ tie t. inl (nat_cmp-IsAntisymmetric n k tie, cc)
        | Greater ↦ λ _ t. inr t
      ] refl (sym (ap (find nat_cmp n) is) ∙ found)

      pub left_first : x.dest ≡ dest → IsNextTo rows dest from (Some k)
      left_first to =
          let row = h.there k x here in
          record {
            there = ((x, row.0, to), row.1);
            least = λ n there le. (
              k,
              refl,
              elim (first_or_later n there.0 (h.left n there.0 there.1 there.2 le)) as (λ _. k ≤ n) [
                | inl same ↦ let e = same.0 in omega (arith, e)
                | inr more ↦ let lt = above_of k n there.0 later (first _ _ ascending) more in omega (arith, lt)
              ],
            );
          }

      pub left_later : x.dest ≢ dest → IsLeft rows dest from later
      left_later apart = record {
        up = second _ _ ascending;
        there = λ n row found.
            let above : nat_cmp n k ≡ Greater = greater k n (above_of k n row later (first _ _ ascending) found) in
            h.there n row (ap (find nat_cmp n) is ∙ ap (λ r. cond (is_eq r) (Some x) (find nat_cmp n later)) above ∙ found);
        left = λ n row found to le. elim (first_or_later n row (h.left n row found to le)) as (λ _. find nat_cmp n later ≡ Some row) [
          | inl same ↦ absurd (apart (ap (λ (z : Row). z.dest) (sym same.1) ∙ to))
          | inr more ↦ more
        ];
      }
        where
          greater : (a b : ℕ) → a < b → nat_cmp b a ≡ Greater
          greater a b lt = grind (arith, lt)

-- All rows, each listed when it is come to.

-- the places are those of the rows that were gone through
pub record ListsBefore (whole rest : List (ℕ × Row)) (places : Places) : Type 0 where
  pub rows : FinMap nat_cmp Row
  pub joined : entries rows ++ rest ≡ whole
  pub listed : AreListedIn rows places

pub lists_none : (whole rest : List (ℕ × Row)) (places : Places) → rest ≡ whole → AreListedIn empty places → ListsBefore whole rest places
lists_none whole rest places all listed =
    let none : entries (empty {X = Row} {R = nat_cmp}) ≡ [] = ap entries (sym none_sorted) ∙ entries-from_sorted nat_cmp [] tt in
    record { rows = empty; joined = ap (λ z. z ++ rest) none ∙ all; listed = listed }

-- the key of a later entry isn't found before it
not_before : (k : ℕ) (x : Row) (rest es : List (ℕ × Row)) → T (is_sorted nat_cmp (es ++ (k, x) ∷ rest)) → find nat_cmp k es ≡ None
not_before k x rest [] up = refl
not_before k x rest (e ∷ es) up =
    ap (λ r. cond (is_eq r) (Some e.1) (find nat_cmp k es)) (within es (first _ _ up)) ∙ not_before k x rest es (second _ _ up)
  where
    higher : (a b : ℕ) → T (is_lt (nat_cmp a b)) → nat_cmp b a ≡ Greater
    higher a b h = grind arith

    within : (fs : List (ℕ × Row)) → T (below_all nat_cmp e.0 (fs ++ (k, x) ∷ rest)) → nat_cmp k e.0 ≡ Greater
    within [] h = higher e.0 k (first _ _ h)
    within (f ∷ fs) h = within fs (second _ _ h)

module _ (whole rest later : List (ℕ × Row)) (places new : Places) (k : ℕ) (x : Row) (h : ListsBefore whole rest places) (up : T (is_sorted nat_cmp whole)) (is : rest ≡ (k, x) ∷ later) where
  joins : entries h.rows ++ (k, x) ∷ later ≡ whole
  joins = ap (λ z. entries h.rows ++ z) (sym is) ∙ h.joined

  pub not_listed_yet : get h.rows k ≡ None
  not_listed_yet = get-entries h.rows k ∙ not_before k x later (entries h.rows) (subst (λ (z : List (ℕ × Row)). T (is_sorted nat_cmp z)) (sym joins) up)

  pub lists_one_more : AreListedIn (insert h.rows k x) new → ListsBefore whole later new
  lists_one_more listed = record {
    rows = insert h.rows k x;
    joined = ap (λ z. z ++ later) (entries-insert nat_cmp_total h.rows k x) ∙ put_next nat_cmp_total (entries h.rows) later whole k x joins up;
    listed = listed;
  }

pub lists_all : (whole : FinMap nat_cmp Row) (es rest : List (ℕ × Row)) (places : Places) → es ≡ entries whole → ListsBefore es rest places → rest ≡ [] → AreListedIn whole places
lists_all whole es rest places same h none =
    let all : entries h.rows ≡ entries whole = sym (append-nil (entries h.rows)) ∙ ap (λ z. entries h.rows ++ z) (sym none) ∙ h.joined ∙ same in
    subst (λ (z : FinMap nat_cmp Row). AreListedIn z places) (same_entries_map h.rows whole all) h.listed

-- A row that is written over: the place of the one before is taken away first.
removed_over : (rows : FinMap nat_cmp Row) (n : ℕ) (row : Row) → insert (remove rows n) n row ≡ insert rows n row
removed_over rows n row = same_map nat_cmp_total nat_cmp-IsAntisymmetric _ _ (λ q. elim (one_key nat_cmp_total nat_cmp-IsAntisymmetric q n) as (λ _. get (insert (remove rows n) n row) q ≡ get (insert rows n row) q) [
  | inl same ↦ subst (λ z. get (insert (remove rows n) n row) z ≡ get (insert rows n row) z) (sym same) (get_here nat_cmp_total nat_cmp-IsAntisymmetric (remove rows n) n row ∙ sym (get_here nat_cmp_total nat_cmp-IsAntisymmetric rows n row))
  | inr ne ↦ get_apart nat_cmp_total nat_cmp-IsAntisymmetric (remove rows n) n row q ne ∙ get_left nat_cmp_total nat_cmp-IsAntisymmetric rows n q ne ∙ sym (get_apart nat_cmp_total nat_cmp-IsAntisymmetric rows n row q ne)
])

-- the places are those of all rows but the one at a number
pub record IsUnlisted (rows : FinMap nat_cmp Row) (n : ℕ) (row : Row) (places : Places) : Type 0 where
  pub others : FinMap nat_cmp Row
  pub listed : AreListedIn others places
  pub free : get others n ≡ None
  pub joined : insert others n row ≡ rows

pub new_unlisted : (rows whole : FinMap nat_cmp Row) (n : ℕ) (row : Row) (places : Places) → whole ≡ insert rows n row → AreListedIn rows places → get rows n ≡ None → IsUnlisted whole n row places
new_unlisted rows whole n row places is listed free = record { others = rows; listed = listed; free = free; joined = sym is }

pub over_unlisted : (rows whole : FinMap nat_cmp Row) (n : ℕ) (row : Row) (places : Places) → whole ≡ insert rows n row → AreListedIn (remove rows n) places → IsUnlisted whole n row places
over_unlisted rows whole n row places is listed = record { others = remove rows n; listed = listed; free = get_gone nat_cmp_total nat_cmp-IsAntisymmetric rows n; joined = removed_over rows n row ∙ sym is }

pub relisted : (rows : FinMap nat_cmp Row) (n : ℕ) (row : Row) (places new : Places) (u : IsUnlisted rows n row places) → AreListedIn (insert u.others n row) new → AreListedIn rows new
relisted rows n row places new u listed = subst (λ (z : FinMap nat_cmp Row). AreListedIn z new) u.joined listed
