-- What stands in gaps by container, after a change of one list.
use Rattle.std.proofs.Common.{◌≡◌, ◌≢◌, ◌↔◌, inl, inr, ℕ, ◌∙◌, List, [], take, Option, None, Some, sym, ap, subst, ⊎_elim}
use Rattle.std.specs.BTreeMap.{UpdatesBy, get, is_at}
use Rattle.std.specs.List.{Any, Contains}
use Rattle.std.specs.Map.{lookup}
use Rattle.trace_core.proofs.Members.{contains_none}
use Rattle.gap_core.specs.Adding.{AddsTo, AddsToList, ByOne, NotesOne}
use Rattle.gap_core.specs.GapPacks.{EdgeMap, IsEdgeOf, KeepsEdge, or_no_items}
use Rattle.gap_core.specs.Sources.{item_cmp}
use Rattle.gap_core.specs.declared.gap_items.GapItem.{GapItem}
use Rattle.gap_core.proofs.Notings.{noted_members}
use Rattle.gap_core.proofs.SourceLists.{item_exact, one_item, other_key}

-- an index in which one list is changed
module _ (old new : EdgeMap) (i : List ℕ) (ks : List (List ℕ)) (upd : UpdatesBy item_cmp (item_cmp i) old new (Some ks))
    (was : Option (List (List ℕ))) (found : get item_cmp old i ≡ was) where
  -- elsewhere all is as it was
  elsewhere : (j : List ℕ) → j ≢ i → get item_cmp new j ≡ get item_cmp old j
  elsewhere j ne = upd.2 j (other_key item_exact i j ne)

  now_here : (j : List ℕ) → j ≡ i → or_no_items (get item_cmp new j) ≡ ks
  now_here j here = ap or_no_items (ap (get item_cmp new) here ∙ upd.1)

  was_here : (j : List ℕ) → j ≡ i → or_no_items (get item_cmp old j) ≡ or_no_items was
  was_here j here = ap or_no_items (ap (get item_cmp old) here ∙ found)

  list_changed : (Q : List ℕ → Type 0) → AddsToList (or_no_items was) ks Q → AddsTo (KeepsEdge old) (KeepsEdge new) (λ m. (i ≡ m.0) × Q m.1)
  list_changed Q adds (j, x) = ⊎_elim
      (λ here. (
        λ h. ⊎_elim
            (λ before. inl (subst (λ xs. Contains xs x) (sym (was_here j here)) before))
            (λ q. inr (sym here, q))
            ((adds x).0 (subst (λ xs. Contains xs x) (now_here j here) h)),
        λ h. subst (λ xs. Contains xs x) (sym (now_here j here)) ((adds x).1 (⊎_elim
            (λ before. inl (subst (λ xs. Contains xs x) (was_here j here) before))
            (λ (same, q). inr q)
            h)),
      ))
      (λ ne. (
        λ h. inl (subst (λ o. Contains (or_no_items o) x) (elsewhere j ne) h),
        λ h. ⊎_elim
            (λ before. subst (λ o. Contains (or_no_items o) x) (sym (elsewhere j ne)) before)
            (λ (same, q). absurd (ne (sym same)))
            h,
      ))
      (one_item j i)

-- an item more of a container
pub edge_noted : (old new : EdgeMap) (i child : List ℕ) (was ks : List (List ℕ)) → UpdatesBy item_cmp (item_cmp i) old new (Some ks) → get item_cmp old i ≡ Some was → NotesOne child was ks
    → AddsTo (KeepsEdge old) (KeepsEdge new) (λ m. (i ≡ m.0) × (child ≡ m.1))
edge_noted old new i child was ks upd found notes =
    list_changed old new i ks upd (Some was) found (λ x. child ≡ x) (noted_members (λ x. child ≡ x) was ks notes)

-- a container that is new, with its first item
pub first_edge : (old mid new : EdgeMap) (i j child : List ℕ) (ks : List (List ℕ)) → mid ≡ old → j ≡ i → get item_cmp old i ≡ None
    → UpdatesBy item_cmp (item_cmp j) mid new (Some ks) → ((x : List ℕ) → Contains ks x ↔ (child ≡ x)) → AddsTo (KeepsEdge old) (KeepsEdge new) (λ m. (i ≡ m.0) × (child ≡ m.1))
first_edge old mid new i j child ks same copied absent upd first =
    let at : UpdatesBy item_cmp (item_cmp i) old new (Some ks) = subst (λ (x : List ℕ). UpdatesBy item_cmp (item_cmp x) old new (Some ks)) copied
    (subst (λ (x : EdgeMap). UpdatesBy item_cmp (item_cmp j) x new (Some ks)) same upd) in
    list_changed old new i ks at None absent (λ x. child ≡ x) (λ x. (
      λ h. inr ((first x).0 h),
      λ h. ⊎_elim (λ none. absurd (contains_none x none)) (λ is. (first x).1 is) h,
    ))

-- whether one of some items stands in a gap in the container
pub edges_told : (edges : EdgeMap) (container : List ℕ) (list items : List (List ℕ)) → Some list ≡ get item_cmp edges container → Any (Contains list) items ↔ Any (λ i. KeepsEdge edges (container, i)) items
edges_told edges container list items found =
    let same : list ≡ or_no_items (get item_cmp edges container) = ap or_no_items found in (
      λ (k, i, lt, at, there). (k, i, lt, at, subst (λ xs. Contains xs i) same there),
      λ (k, i, lt, at, there). (k, i, lt, at, subst (λ xs. Contains xs i) (sym same) there),
    )

pub none_told : (edges : EdgeMap) (container : List ℕ) (items : List (List ℕ)) → None ≡ get item_cmp edges container → Any (λ i. KeepsEdge edges (container, i)) items → ⊥
none_told edges container items absent (k, i, lt, at, there) = contains_none i (subst (λ xs. Contains xs i) (sym (ap or_no_items absent)) there)

-- no edges at first
pub no_edges : (edges : EdgeMap) (gaps : List GapItem) → edges.entries ≡ [] → AddsTo (λ m. ⊥) (KeepsEdge edges) (ByOne (take 0 gaps) IsEdgeOf)
no_edges edges gaps nothing m = (
  λ h. absurd (contains_none m.1 (subst (λ (es : List (List ℕ × List (List ℕ))). Contains (or_no_items (lookup (is_at (item_cmp m.0)) es)) m.1) nothing h)),
  λ h. ⊎_elim (λ none. absurd none) (λ (g, there, edge). absurd (contains_none g there)) h,
)
