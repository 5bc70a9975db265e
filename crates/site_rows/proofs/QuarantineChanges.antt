-- The rows of a quarantine once items came under a recall that weren't held under it.
use Rattle.std.proofs.Common.{◌≡◌, inl, inr, ℕ, Bool, true, false, List, [], ◌∷◌, ◌++◌, map, flat_map, Option, Some, None, refl, sym, ap, subst, ◌∙◌, append_assoc, IsPermutation}
use Rattle.std.specs.Prelude.{IsTrue}
use Rattle.std.specs.FinMap.{get, insert, entries, len-entries, len-empty}
use Rattle.std.specs.List.{Contains}
use Rattle.std.specs.declared.cmp.Ordering.TheVariants.{Less, Equal}
use Rattle.std.proofs.lemmas.Cmp.{tied_itself}
use Rattle.std.proofs.lemmas.Grind.{flat_map-append}
use Rattle.std.proofs.lemmas.List.{append-nil, map-append, nil_from_length}
use Rattle.std.proofs.lemmas.List.Sorted.{IsPermutation-sym, IsPermutation-trans, IsPermutation-append_left, IsPermutation-append_right, IsPermutation-map}
use Rattle.frame_core.specs.Numbers.{Recall}
use Rattle.frame_core.specs.Identifiers.{recall_cmp}
use Rattle.frame_core.specs.Orders.{recall_total, recall_exact}
use Rattle.frame_core.proofs.Ascending.{without}
use Rattle.frame_core.proofs.Maps.{none_found, remove_none}
use Rattle.trace_core.proofs.Members.{contains_here, contains_there}
use Rattle.site_core.specs.ItemSets as set
use Rattle.site_core.specs.ItemSets.{Items, item_cmp}
use Rattle.site_core.specs.Quarantines.{Quarantine, items_under, or_none, held, with_item, with_items}
use Rattle.trace_core.specs.Spreads.{AreAscendingItems}
use Rattle.site_core.proofs.Ascending.{head_below, tail_ascends}
use Rattle.site_core.proofs.Changes.{insert_same}
use Rattle.site_core.proofs.HeldLaws.{held_one}
use Rattle.site_core.proofs.ItemOrder.{item_total, item_exact}
use Rattle.site_rows.specs.declared.rows.QuarantineRow.{QuarantineRow}
use Rattle.site_rows.specs.RecordRows.{quarantine_row, quarantine_rows}
use Rattle.site_rows.proofs.ChangedEntries.{inserted_entries, removed_entries, new_row}
use Rattle.site_rows.proofs.Permuted.{flat_map_permuted, same_permuted}

abbrev rows_held : Quarantine → List QuarantineRow
rows_held q = flat_map quarantine_rows (entries q)

no_items : set.items set.empty ≡ []
no_items = ap (map (λ (e : List ℕ × Unit {0}). e.0)) (nil_from_length (entries set.empty) (sym (len-entries set.empty) ∙ len-empty item_cmp (Unit {0})))

-- one more item of a set
item_row : (r : Recall) (items : Items) (i : List ℕ) → set.contains items i ≡ false
    → IsPermutation (quarantine_rows (r, items) ++ quarantine_row r i ∷ []) (quarantine_rows (r, set.insert items i))
item_row r items i new =
    subst (λ rows. IsPermutation rows (quarantine_rows (r, set.insert items i))) (map-append (quarantine_row r) (set.items items) (i ∷ []))
    (IsPermutation-map (quarantine_row r) (set.items items ++ i ∷ []) (set.items (set.insert items i))
    (new_row item_total item_exact (λ (e : List ℕ × Unit {0}). e.0) items i tt (none_found (get items i) new)))

last_of : (es : List (Recall × Items)) (e : Recall × Items) → flat_map quarantine_rows (es ++ e ∷ []) ≡ flat_map quarantine_rows es ++ quarantine_rows e
last_of es e = flat_map-append quarantine_rows es (e ∷ []) ∙ ap (λ rows. flat_map quarantine_rows es ++ rows) (append-nil (quarantine_rows e))

-- the rows with those of a recall at the end
inserted_rows : (q : Quarantine) (r : Recall) (items : Items)
    → IsPermutation (flat_map quarantine_rows (without recall_cmp r (entries q)) ++ quarantine_rows (r, items)) (rows_held (insert q r items))
inserted_rows q r items =
    let others = without recall_cmp r (entries q) in
    subst (λ rows. IsPermutation rows (rows_held (insert q r items))) (last_of others (r, items))
    (flat_map_permuted quarantine_rows (others ++ (r, items) ∷ []) (entries (insert q r items)) (inserted_entries recall_total recall_exact q r items))

rows_by_recall : (q : Quarantine) (r : Recall) (found : Option Items) → get q r ≡ found
    → IsPermutation (flat_map quarantine_rows (without recall_cmp r (entries q)) ++ quarantine_rows (r, or_none found)) (rows_held q)
rows_by_recall q r None has =
    let others : without recall_cmp r (entries q) ≡ entries q = removed_entries recall_total recall_exact q r ∙ ap entries (remove_none recall_total recall_exact q r has) in
    same_permuted _ _ (
    ap (λ is. flat_map quarantine_rows (without recall_cmp r (entries q)) ++ map (quarantine_row r) is) no_items
    ∙ append-nil (flat_map quarantine_rows (without recall_cmp r (entries q)))
    ∙ ap (flat_map quarantine_rows) others
    )
rows_by_recall q r (Some items) has =
    subst (λ (p : Quarantine). IsPermutation (flat_map quarantine_rows (without recall_cmp r (entries q)) ++ quarantine_rows (r, items)) (rows_held p))
    (insert_same recall_total recall_exact q r items has) (inserted_rows q r items)

-- one more item under a recall
one_row : (q : Quarantine) (r : Recall) (i : List ℕ) → held q r i ≡ false → IsPermutation (rows_held q ++ quarantine_row r i ∷ []) (rows_held (with_item q r i))
one_row q r i new =
    let others = flat_map quarantine_rows (without recall_cmp r (entries q)) in
    let items = items_under q r in
    let last = quarantine_row r i ∷ [] in
    let apart : IsPermutation (rows_held q) (others ++ quarantine_rows (r, items)) = IsPermutation-sym _ _ (rows_by_recall q r (get q r) refl) in
    let here : IsPermutation (others ++ (quarantine_rows (r, items) ++ last)) (rows_held (with_item q r i)) =
    IsPermutation-trans _ _ _ (IsPermutation-append_right others _ _ (item_row r items i new)) (inserted_rows q r (set.insert items i)) in
    IsPermutation-trans _ _ _ (IsPermutation-append_left last _ _ apart)
    (subst (λ rows. IsPermutation rows (rows_held (with_item q r i))) (sym (append_assoc others (quarantine_rows (r, items)) last)) here)

is_not : (b : Bool) → (IsTrue b → ⊥) → b ≡ false
is_not true h = absurd (h refl)
is_not false h = refl

-- items that weren't held
pub newly_held_rows : (q : Quarantine) (r : Recall) (items : List (List ℕ)) → AreAscendingItems items → ((j : List ℕ) → Contains items j → IsTrue (held q r j) → ⊥)
    → IsPermutation (rows_held q ++ map (quarantine_row r) items) (rows_held (with_items q r items))
newly_held_rows q r [] up new = same_permuted _ _ (append-nil (rows_held q))
newly_held_rows q r (i ∷ items) up new =
    let later : (j : List ℕ) → Contains items j → IsTrue (held (with_item q r i) r j) → ⊥ = λ j there is. elim ((held_one q r i r j).0 is) [
      | inl same ↦
          let below : item_cmp i j ≡ Less = head_below item_cmp i items up j there in
          let tie : item_cmp i j ≡ Equal = subst (λ z. item_cmp i z ≡ Equal) (sym same.1) (tied_itself item_total i) in
          cc
      | inr before ↦ new j (contains_there i j items there) before
    ] in
    let rest = newly_held_rows (with_item q r i) r items (tail_ascends item_cmp i items up) later in
    let first = one_row q r i (is_not (held q r i) (new i (contains_here i items))) in
    subst (λ rows. IsPermutation rows (rows_held (with_items q r (i ∷ items)))) (append_assoc (rows_held q) (quarantine_row r i ∷ []) (map (quarantine_row r) items))
    (IsPermutation-trans _ _ _ (IsPermutation-append_left (map (quarantine_row r) items) _ _ first) rest)
