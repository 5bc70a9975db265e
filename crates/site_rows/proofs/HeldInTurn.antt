-- The items of a quarantine in order, and one more behind them.
use Rattle.std.proofs.Common.{◌≡◌, ◌≢◌, inl, inr, ℕ, suc, zero, ◌-◌, ◌<◌, Bool, true, false, cond, List, [], ◌∷◌, ◌++◌, map, length, Some, refl, sym, ap, subst, ◌∙◌, append_assoc, arith, None}
use Rattle.std.specs.Prelude.{T, IsTrue, ◌↔◌, ◌&&◌, ◌==◌, IsSome}
use Rattle.std.specs.Cmp.{IsTotalOrder}
use Rattle.std.specs.Ordering.{is_lt, is_eq, ordering_reverse, ordering_index, ordering_then}
use Rattle.std.specs.declared.cmp.Ordering.{Ordering}
use Rattle.std.specs.declared.cmp.Ordering.TheVariants.{Less, Equal, Greater}
use Rattle.std.specs.FinMap.{is_sorted, put, find, get-entries, entries, entries_sorted, entries-insert, empty, empty_of_len, len-entries, len-empty, get}
use Rattle.std.specs.FinMap.Entries.{below_all}
use Rattle.std.specs.List.{Contains, slice_get, flat_map}
use Rattle.std.proofs.lemmas.Cmp.{on_total, then_total, tied_itself}
use Rattle.std.proofs.lemmas.List.{append-nil, map-append, nil_from_length}
use Rattle.std.proofs.lemmas.Option.{get_or_from_slice_get}
use Rattle.site_rows.specs.Texts.{IsItemText}
use Rattle.frame_core.proofs.Ascending.{first, second}
use Rattle.frame_core.specs.Identifiers.{recall_cmp}
use Rattle.frame_core.specs.Numbers.{Recall}
use Rattle.frame_core.specs.Orders.{recall_total, recall_exact}
use Rattle.trace_core.proofs.Members.{contains_here, contains_there, contains_cases, contains_none, contains-map, contains-flat_map}
use Rattle.std.proofs.lemmas.List.Elements.{Contains-append_cases, Contains-append_left, Contains-append_right}
use Rattle.site_core.specs.ItemSets as set
use Rattle.site_core.specs.ItemSets.{Items, item_cmp}
use Rattle.site_core.specs.Quarantines.{Quarantine, items_under, or_none, with_item, HasNoEmptySet}
use Rattle.site_core.proofs.Entries.{entry_found, entry_there}
use Rattle.site_core.specs.Records.{IsRecallAmong}
use mathlib.Core.Bool.{false≢true}
use Rattle.site_core.proofs.Places.{member_there, some_stands}
use Rattle.site_core.proofs.ItemOrder.{item_total}
use Rattle.site_rows.specs.BadRows.{Match, IsHeldEntry}
use Rattle.site_rows.specs.Laws.{HoldsKeys}
use Rattle.site_rows.specs.RecordRows.{quarantine_row, quarantine_rows}
use Rattle.site_rows.specs.declared.rows.QuarantineRow.{QuarantineRow}
use Rattle.site_rows.proofs.RowsOfMaps.{rows_matched, matched_each}
use Rattle.site_rows.specs.HeldItems.{Held, held_cmp, held_of, held_under, all_held, IsLast}
use Rattle.site_rows.proofs.AtTheEnd.{first_tells, first_told, may_come, each_below, put_last}

pub held_total : IsTotalOrder held_cmp
held_total = then_total (on_total (λ (p : Recall × List ℕ). p.0) recall_total) (on_total (λ (p : Recall × List ℕ). p.1) item_total)

-- an entry may come behind a last one exactly where it is above it
module _ {K X : Type 0} (R : K → K → Ordering) (o : IsTotalOrder R) where
  at_end : (xs : List (K × X)) (x : K × X) → Contains (xs ++ x ∷ []) x
  at_end [] x = contains_here x []
  at_end (y ∷ xs) x = contains_there y x (xs ++ x ∷ []) (at_end xs x)

  below_new : (front : List (K × X)) (last : K × X) (k : K) → T (is_sorted R (front ++ last ∷ [])) → R last.0 k ≡ Less → (e : K × X) → Contains (front ++ last ∷ []) e → R e.0 k ≡ Less
  below_new front last k up low e there = elim (Contains-append_cases front (last ∷ []) e there) [
    | inl before ↦ o.trans e.0 last.0 k (each_below R front [] last.0 last.1 up e before) low
    | inr at ↦ elim (contains_cases last e [] at) [
      | inl same ↦ subst (λ (z : K × X). R z.0 k ≡ Less) same low
      | inr none ↦ absurd (contains_none e none)
    ]
  ]

  pub comes_behind : (es : List (K × X)) (last : K × X) (k : K) (v : X) (b : Bool) → T (is_sorted R es) → IsLast es last → b ≡ (ordering_index (R last.0 k) == 0) → IsTrue b ↔ T (is_sorted R (es ++ (k, v) ∷ []))
  comes_behind es last k v b up is tells = (
    λ h.
        let low : R last.0 k ≡ Less = first_tells (R last.0 k) (sym tells ∙ h) in
        may_come R es k v up (λ e there. below_new is.front last k (subst (λ xs. T (is_sorted R xs)) is.parts up) low e (subst (λ xs. Contains xs e) is.parts there)),
    λ ascends. tells ∙ first_told (R last.0 k) (each_below R es [] k v ascends last (subst (λ xs. Contains xs last) (sym is.parts) (at_end is.front last))),
  )

-- the last element
stands_last : {X : Type 0} (xs : List X) (n : ℕ) (x : X) → length xs ≡ suc n → slice_get xs n ≡ Some x → IsLast xs x
stands_last [] n x size is = cc
stands_last (y ∷ []) zero x size is = let same : y ≡ x = cc in record { front = []; parts = ap (λ z. z ∷ []) same }
stands_last (y ∷ []) (suc n) x size is = cc
stands_last (y ∷ z ∷ xs) zero x size is = absurd (omega (arith, size))
stands_last (y ∷ z ∷ xs) (suc n) x size is =
    let rest = stands_last (z ∷ xs) n x (omega (arith, size)) is in
    record { front = y ∷ rest.front; parts = ap (λ ys. y ∷ ys) rest.parts }

pub ends_with : {X : Type 0} (xs : List X) (x : X) → slice_get xs (length xs - 1) ≡ Some x → IsLast xs x
ends_with [] x is = cc
ends_with (y ∷ xs) x is =
    let place : length (y ∷ xs) - 1 ≡ length xs = omega arith in
    stands_last (y ∷ xs) (length xs) x refl (subst (λ n. slice_get (y ∷ xs) n ≡ Some x) place is)

-- the last item of the last recall is the last of all
under_last : (r : Recall) (items : List (List ℕ)) (i : List ℕ) → IsLast items i → IsLast (map (held_of r) items) (held_of r i)
under_last r items i is = record { front = map (held_of r) is.front; parts = ap (map (held_of r)) is.parts ∙ map-append (held_of r) is.front (i ∷ []) }

behind_all : {X Y : Type 0} (f : X → List Y) (front : List X) (x : X) (y : Y) → IsLast (f x) y → IsLast (flat_map f (front ++ x ∷ [])) y
behind_all f [] x y is = record { front = is.front; parts = append-nil (f x) ∙ is.parts }
behind_all f (e ∷ front) x y is =
    let rest = behind_all f front x y is in
    record { front = f e ++ rest.front; parts = ap (λ ys. f e ++ ys) rest.parts ∙ sym (append_assoc (f e) rest.front (y ∷ [])) }

pub last_of_all : (q : Quarantine) (r : Recall) (items : Items) (i : List ℕ) → IsLast (entries q) (r, items) → IsLast (set.items items) i → IsLast (all_held q) (held_of r i)
last_of_all q r items i is at =
    let there = behind_all held_under is.front (r, items) (held_of r i) (under_last r (set.items items) i at) in
    record { front = there.front; parts = ap (flat_map held_under) is.parts ∙ there.parts }

-- ---- they ascend
both : (a b : Bool) → T a → T b → T (a && b)
both true b p q = q
both false b p q = absurd p

is_less : (r : Ordering) → r ≡ Less → T (is_lt r)
is_less r e = subst (λ z. T (is_lt z)) (sym e) tt

less : (r : Ordering) → T (is_lt r) → r ≡ Less
less Less p = refl
less Equal p = absurd p
less Greater p = absurd p

same_recall_below : (r : Recall) (i j : List ℕ) → item_cmp i j ≡ Less → held_cmp (r, i) (r, j) ≡ Less
same_recall_below r i j low = ap (λ z. ordering_then z (item_cmp i j)) (tied_itself recall_total r) ∙ low

other_recall_below : (r s : Recall) (i j : List ℕ) → recall_cmp r s ≡ Less → held_cmp (r, i) (s, j) ≡ Less
other_recall_below r s i j low = ap (λ z. ordering_then z (item_cmp i j)) low

below_in_set : (r : Recall) (i : List ℕ) (es : List (List ℕ × Unit {0})) → T (below_all item_cmp i es) → T (below_all held_cmp (r, i) (map (held_of r) (map (λ e. e.0) es)))
below_in_set r i [] h = tt
below_in_set r i (e ∷ es) h = both _ _ (is_less _ (same_recall_below r i e.0 (less _ (first _ _ h)))) (below_in_set r i es (second _ _ h))

set_ascends : (r : Recall) (es : List (List ℕ × Unit {0})) → T (is_sorted item_cmp es) → T (is_sorted held_cmp (map (held_of r) (map (λ e. e.0) es)))
set_ascends r [] h = tt
set_ascends r (e ∷ es) h = both _ _ (below_in_set r e.0 es (first _ _ h)) (set_ascends r es (second _ _ h))

below_append : (x : Recall × List ℕ) (a b : List Held) → T (below_all held_cmp x a) → T (below_all held_cmp x b) → T (below_all held_cmp x (a ++ b))
below_append x [] b h k = k
below_append x (y ∷ a) b h k = both _ _ (first _ _ h) (below_append x a b (second _ _ h) k)

below_set : (r : Recall) (i : List ℕ) (s : Recall) (js : List (List ℕ)) → recall_cmp r s ≡ Less → T (below_all held_cmp (r, i) (map (held_of s) js))
below_set r i s [] low = tt
below_set r i s (j ∷ js) low = both _ _ (is_less _ (other_recall_below r s i j low)) (below_set r i s js low)

below_rest : (r : Recall) (i : List ℕ) (es : List (Recall × Items)) → T (below_all recall_cmp r es) → T (below_all held_cmp (r, i) (flat_map held_under es))
below_rest r i [] h = tt
below_rest r i (e ∷ es) h = below_append (r, i) (held_under e) (flat_map held_under es) (below_set r i e.0 (set.items e.1) (less _ (first _ _ h))) (below_rest r i es (second _ _ h))

append_ascends : (r : Recall) (is : List (List ℕ)) (es : List (Recall × Items)) → T (is_sorted held_cmp (map (held_of r) is)) → T (below_all recall_cmp r es) → T (is_sorted held_cmp (flat_map held_under es))
    → T (is_sorted held_cmp (map (held_of r) is ++ flat_map held_under es))
append_ascends r [] es a low b = b
append_ascends r (i ∷ is) es a low b = both _ _ (below_append (r, i) (map (held_of r) is) (flat_map held_under es) (first _ _ a) (below_rest r i es low)) (append_ascends r is es (second _ _ a) low b)

listed_ascend : (es : List (Recall × Items)) → T (is_sorted recall_cmp es) → T (is_sorted held_cmp (flat_map held_under es))
listed_ascend [] up = tt
listed_ascend (e ∷ es) up = append_ascends e.0 (set.items e.1) es (set_ascends e.0 (entries e.1) (entries_sorted e.1)) (first _ _ up) (listed_ascend es (second _ _ up))

pub all_ascend : (q : Quarantine) → T (is_sorted held_cmp (all_held q))
all_ascend q = listed_ascend (entries q) (entries_sorted q)

-- ---- one more
recall_not_above : (r s : Recall) (i j : List ℕ) → held_cmp (r, i) (s, j) ≡ Less → recall_cmp r s ≢ Greater
recall_not_above r s i j low above = let greater : held_cmp (r, i) (s, j) ≡ Greater = ap (λ z. ordering_then z (item_cmp i j)) above in cc

item_below : (r : Recall) (i j : List ℕ) → held_cmp (r, i) (r, j) ≡ Less → item_cmp i j ≡ Less
item_below r i j low = sym (ap (λ z. ordering_then z (item_cmp i j)) (tied_itself recall_total r)) ∙ low

-- each recall of the list has an item
abbrev Full : List (Recall × Items) → Type 0
Full es = (e : Recall × Items) → Contains es e → (i : List ℕ) × Contains (set.items e.1) i

keys_last : (es : List (List ℕ × Unit {0})) (i : List ℕ) → T (is_sorted item_cmp es) → ((e : List ℕ × Unit {0}) → Contains es e → item_cmp e.0 i ≡ Less) → map (λ e. e.0) (put item_cmp i tt es) ≡ map (λ e. e.0) es ++ i ∷ []
keys_last es i up low = ap (map (λ e. e.0)) (put_last item_cmp item_total es i tt (may_come item_cmp es i tt up low)) ∙ map-append (λ (e : List ℕ × Unit {0}). e.0) es ((i, tt) ∷ [])

set_last : (items : Items) (i : List ℕ) → ((j : List ℕ) → Contains (set.items items) j → item_cmp j i ≡ Less) → set.items (set.insert items i) ≡ set.items items ++ i ∷ []
set_last items i low =
    ap (map (λ (e : List ℕ × Unit {0}). e.0)) (entries-insert item_total items i tt)
    ∙ keys_last (entries items) i (entries_sorted items) (λ e there. low e.0 (contains-map (λ (e : List ℕ × Unit {0}). e.0) (entries items) e there))

no_entry : {K : Type 0} (X : Type 0) (R : K → K → Ordering) → entries (empty {X = X} {R = R}) ≡ []
no_entry X R = nil_from_length (entries (empty {X = X} {R = R})) (sym (len-entries (empty {X = X} {R = R})) ∙ len-empty R X)

first_item : (i : List ℕ) → set.items (set.insert set.empty i) ≡ i ∷ []
first_item i = ap (map (λ (e : List ℕ × Unit {0}). e.0)) (entries-insert item_total set.empty i tt ∙ ap (put item_cmp i tt) (no_entry (Unit {0}) item_cmp))

in_first : (e : Recall × Items) (es : List (Recall × Items)) (j : List ℕ) → Contains (set.items e.1) j → Contains (flat_map held_under (e ∷ es)) (held_of e.0 j)
in_first e es j there = Contains-append_left (held_under e) (flat_map held_under es) (held_of e.0 j) (contains-map (held_of e.0) (set.items e.1) j there)

in_rest : (e : Recall × Items) (es : List (Recall × Items)) (h : Held) → Contains (flat_map held_under es) h → Contains (flat_map held_under (e ∷ es)) h
in_rest e es h there = Contains-append_right (held_under e) (flat_map held_under es) h there

put_behind : (r : Recall) (i : List ℕ) (es : List (Recall × Items)) → T (is_sorted recall_cmp es) → Full es → ((h : Held) → Contains (flat_map held_under es) h → held_cmp h.0 (r, i) ≡ Less)
    → flat_map held_under (put recall_cmp r (set.insert (or_none (find recall_cmp r es)) i) es) ≡ flat_map held_under es ++ held_of r i ∷ []
put_behind r i [] up full low = append-nil (held_under (r, set.insert set.empty i)) ∙ ap (map (held_of r)) (first_item i)
put_behind r i (e ∷ es) up full low =
    let some = full e (contains_here e es) in
    let under : recall_cmp e.0 r ≢ Greater = recall_not_above e.0 r some.0 i (low (held_of e.0 some.0) (in_first e es some.0 some.1)) in
    elim (recall_cmp r e.0) as (λ z. recall_cmp r e.0 ≡ z → flat_map held_under (put recall_cmp r (set.insert (or_none (find recall_cmp r (e ∷ es))) i) (e ∷ es)) ≡ flat_map held_under (e ∷ es) ++ held_of r i ∷ []) [
      | Less ↦ λ t. absurd (under (recall_total.antisymm e.0 r ∙ ap ordering_reverse t))
      | Equal ↦ λ t. last_recall t es refl
      | Greater ↦ λ t.
          let rest = put_behind r i es (second _ _ up) (λ f there. full f (contains_there e f es there)) (λ h there. low h (in_rest e es h there)) in
          let apart : find recall_cmp r (e ∷ es) ≡ find recall_cmp r es = ap (λ z. cond (is_eq z) (Some e.1) (find recall_cmp r es)) t in
          let later : flat_map held_under (put recall_cmp r (set.insert (or_none (find recall_cmp r es)) i) (e ∷ es)) ≡ flat_map held_under (e ∷ es) ++ held_of r i ∷ [] =
          rw t (ap (λ hs. held_under e ++ hs) rest ∙ sym (append_assoc (held_under e) (flat_map held_under es) (held_of r i ∷ []))) in
          ap (λ o. flat_map held_under (put recall_cmp r (set.insert (or_none o) i) (e ∷ es))) apart ∙ later
    ] refl
  where
    last_recall : recall_cmp r e.0 ≡ Equal → (later : List (Recall × Items)) → es ≡ later → flat_map held_under (put recall_cmp r (set.insert (or_none (find recall_cmp r (e ∷ es))) i) (e ∷ es)) ≡ flat_map held_under (e ∷ es) ++ held_of r i ∷ []
    last_recall t [] none =
        let same : r ≡ e.0 = recall_exact r e.0 t in
        let one : set.items (set.insert e.1 i) ≡ set.items e.1 ++ i ∷ [] = set_last e.1 i (λ j there. item_below e.0 j i (subst (λ z. held_cmp (e.0, j) (z, i) ≡ Less) same (low (held_of e.0 j) (in_first e es j there)))) in
        let made : held_under (e.0, set.insert e.1 i) ≡ held_under e ++ held_of e.0 i ∷ [] = ap (map (held_of e.0)) one ∙ map-append (held_of e.0) (set.items e.1) (i ∷ []) in
        let here : find recall_cmp r (e ∷ es) ≡ Some e.1 = ap (λ z. cond (is_eq z) (Some e.1) (find recall_cmp r es)) t in
        let later : flat_map held_under (put recall_cmp r (set.insert e.1 i) (e ∷ es)) ≡ flat_map held_under (e ∷ es) ++ held_of r i ∷ [] =
        rw t (rw none (append-nil (held_under (e.0, set.insert e.1 i)) ∙ made ∙ sym (λ k. append-nil (held_under e) k ++ held_of (same k) i ∷ []))) in
        ap (λ o. flat_map held_under (put recall_cmp r (set.insert (or_none o) i) (e ∷ es))) here ∙ later
    last_recall t (f ∷ later) some =
        let above : recall_cmp e.0 f.0 ≡ Less = less _ (first _ _ (subst (λ xs. T (below_all recall_cmp e.0 xs)) some (first _ _ up))) in
        let there : Contains (e ∷ es) f = contains_there e f es (subst (λ xs. Contains xs f) (sym some) (contains_here f later)) in
        let item = full f there in
        let in_es : Contains (flat_map held_under es) (held_of f.0 item.0) = subst (λ xs. Contains (flat_map held_under xs) (held_of f.0 item.0)) (sym some) (in_first f later item.0 item.1) in
        let not_above : recall_cmp f.0 r ≢ Greater = recall_not_above f.0 r item.0 i (low (held_of f.0 item.0) (in_rest e es (held_of f.0 item.0) in_es)) in
        let lower : recall_cmp r f.0 ≡ Less = recall_total.congr r e.0 f.0 t ∙ above in
        absurd (not_above (recall_total.antisymm f.0 r ∙ ap ordering_reverse lower))

some_item : (items : Items) → items ≢ set.empty → (i : List ℕ) × Contains (set.items items) i
some_item items some = elim (entries items) as (λ es. entries items ≡ es → (i : List ℕ) × Contains (set.items items) i) [
  | [] ↦ λ none. absurd (some (empty_of_len items (len-entries items ∙ ap length none)))
  | e ∷ es ↦ λ is. (e.0, subst (λ xs. Contains (map (λ (d : List ℕ × Unit {0}). d.0) xs) e.0) (sym is) (contains_here e.0 (map (λ (d : List ℕ × Unit {0}). d.0) es)))
] refl

all_full : (q : Quarantine) → HasNoEmptySet q → Full (entries q)
all_full q full e there = some_item e.1 (λ none. full e.0 (entry_found recall_total q e.0 e.1 there ∙ ap Some none))

-- an item that comes behind all others stands behind them
pub held_more : (q after : Quarantine) (r : Recall) (i : List ℕ) → HasNoEmptySet q → after ≡ with_item q r i → T (is_sorted held_cmp (all_held q ++ held_of r i ∷ []))
    → (all_held after ≡ all_held q ++ held_of r i ∷ []) × T (is_sorted held_cmp (all_held after))
held_more q after r i full is up =
    let put_there = entries-insert recall_total q r (set.insert (items_under q r) i) in
    let found : items_under q r ≡ or_none (find recall_cmp r (entries q)) = ap or_none (get-entries q r) in
    let last = put_behind r i (entries q) (entries_sorted q) (all_full q full) (λ h there. each_below held_cmp (all_held q) [] (r, i) tt up h there) in
    let all : all_held after ≡ all_held q ++ held_of r i ∷ [] =
    ap all_held is ∙ ap (flat_map held_under) (put_there ∙ ap (λ items. put recall_cmp r (set.insert items i) (entries q)) found) ∙ last in
    (all, all_ascend after)

pub nothing_held : all_held empty ≡ []
nothing_held = ap (flat_map held_under) (no_entry Items recall_cmp)

-- where no recall is kept, or a recall has no item
pub none_kept : (q : Quarantine) → length (entries q) ≡ 0 → all_held q ≡ []
none_kept q none = ap (flat_map held_under) (nil_from_length (entries q) none)

pub no_item_last : (q : Quarantine) (n : ℕ) (r : Recall) (items : Items) → HasNoEmptySet q → slice_get (entries q) n ≡ Some (r, items) → length (set.items items) ≡ 0 → ⊥
no_item_last q n r items full at none =
    let there = member_there (entries q) n (r, items) at in
    let some = all_full q full (r, items) there in
    contains_none some.0 (subst (λ xs. Contains xs some.0) (nil_from_length (set.items items) none) some.1)

pub none_positive : (n : ℕ) → (0 < n → false ≡ true) → n ≡ 0
none_positive zero past = refl
none_positive (suc n) past = let wrong : false ≡ true = past (omega arith) in cc

-- ---- what the rows tell
abbrev row_of_held : Held → QuarantineRow
row_of_held h = quarantine_row h.0.0 h.0.1

rows_under : (r : Recall) (is : List (List ℕ)) → map row_of_held (map (held_of r) is) ≡ map (quarantine_row r) is
rows_under r [] = refl
rows_under r (i ∷ is) = ap (λ rows. quarantine_row r i ∷ rows) (rows_under r is)

rows_listed : (es : List (Recall × Items)) → map row_of_held (flat_map held_under es) ≡ flat_map quarantine_rows es
rows_listed [] = refl
rows_listed (e ∷ es) = map-append row_of_held (held_under e) (flat_map held_under es) ∙ (λ i. rows_under e.0 (set.items e.1) i ++ rows_listed es i)

pub rows_held : (sites : ℕ) (rows : List QuarantineRow) (q : Quarantine) → Match (IsHeldEntry sites) rows (all_held q) → rows ≡ flat_map quarantine_rows (entries q)
rows_held sites rows q m = rows_matched (IsHeldEntry sites) row_of_held (λ _ _ _ is. is.same) rows (all_held q) m ∙ rows_listed (entries q)

pub recalls_among : (sites : ℕ) (rows : List QuarantineRow) (q : Quarantine) → HasNoEmptySet q → Match (IsHeldEntry sites) rows (all_held q) → (r : Recall) → IsSome (get q r) → IsRecallAmong sites r
recalls_among sites rows q full m r kept = elim (get q r) as (λ o. get q r ≡ o → IsSome o → IsRecallAmong sites r) [
  | None ↦ λ _ some. absurd (false≢true some)
  | Some items ↦ λ is _.
      let at = entry_there recall_total recall_exact q r items is in
      let item = all_full q full (r, items) at in
      let there = contains-flat_map held_under (entries q) (r, items) (held_of r item.0) at (contains-map (held_of r) (set.items items) item.0 item.1) in
      matched_each (IsHeldEntry sites) (λ k _. IsRecallAmong sites k.0) (λ _ _ _ held. held.among) rows (all_held q) m (held_of r item.0) there
] refl kept

-- each item of a recall is one
pub items_held : (sites : ℕ) (rows : List QuarantineRow) (q : Quarantine) → Match (IsHeldEntry sites) rows (all_held q) → HoldsKeys q
items_held sites rows q m r items is = λ k d low.
    let at = entry_there recall_total recall_exact q r items is in
    let item = some_stands (set.items items) k low in
    let among = contains-map (held_of r) (set.items items) item.0 (member_there (set.items items) k item.0 item.1) in
    let there = contains-flat_map held_under (entries q) (r, items) (held_of r item.0) at among in
    let key = matched_each (IsHeldEntry sites) (λ p _. IsItemText p.1) (λ _ _ _ held. held.item) rows (all_held q) m (held_of r item.0) there in
    subst IsItemText (sym (get_or_from_slice_get (set.items items) k item.0 d item.1)) key
