-- Ordered sets of items as finite sets: what they have, and what their changes leave.
use Rattle.std.proofs.Common.{◌≡◌, ℕ, suc, Bool, true, false, cond, List, [], ◌∷◌, ◌++◌, map, length, refl, sym, ap, subst, ◌∙◌}
use Rattle.std.specs.BTreeSet.{BTreeSet, IsOrdered, contains_by, insert_key}
use Rattle.std.specs.BTreeMap.{is_at}
use Rattle.std.specs.FinMap.{entries, put, from_sorted, entries-from_sorted, entries-insert, same_entries_map, contains_key-keys, len-entries}
use Rattle.std.specs.FinMap.Entries.{is_sorted-put}
use Rattle.std.specs.List.{list_any}
use Rattle.std.specs.List.Sorted.{IsStrictlySortedBy}
use Rattle.std.specs.Map.{remove_entry}
use Rattle.std.specs.Set.{remove_key}
use Rattle.std.specs.Ordering.{eq_by_cmp}
use Rattle.std.specs.declared.cmp.Ordering.TheVariants.{Less, Equal, Greater}
use Rattle.frame_core.proofs.Ascending.{IsAscending, ascending_keys, removed, put_next}
use Rattle.frame_core.proofs.Maps.{without_sorted, none_sorted}
use Rattle.site_core.specs.ItemSets.{item_cmp, as_items, empty, contains, insert, remove, items, len}
use Rattle.site_core.proofs.ItemOrder.{item_total, item_exact}

-- items as entries with nothing at each
abbrev marked : List (List ℕ) → List (List ℕ × Unit {0})
marked ks = map (λ k. (k, tt)) ks

marked_keys : (ks : List (List ℕ)) → map (λ (e : List ℕ × Unit {0}). e.0) (marked ks) ≡ ks
marked_keys [] = refl
marked_keys (k ∷ ks) = ap (λ xs. k ∷ xs) (marked_keys ks)

marked_length : (ks : List (List ℕ)) → length (marked ks) ≡ length ks
marked_length [] = refl
marked_length (k ∷ ks) = ap suc (marked_length ks)

marked_removed : (test : List ℕ → Bool) (ks : List (List ℕ)) → marked (remove_key test ks) ≡ remove_entry test (marked ks)
marked_removed test [] = refl
marked_removed test (k ∷ ks) = elim (test k) as (λ b. marked (cond b ks (k ∷ remove_key test ks)) ≡ cond b (marked ks) ((k, tt) ∷ remove_entry test (marked ks))) [
  | true ↦ refl
  | false ↦ ap (λ es. (k, tt) ∷ es) (marked_removed test ks)
]

marked_inserted : (k : List ℕ) (ks : List (List ℕ)) → marked (insert_key item_cmp ks k) ≡ put item_cmp k tt (marked ks)
marked_inserted k [] = refl
marked_inserted k (x ∷ ks) =
    elim (item_cmp k x) as (λ r. item_cmp k x ≡ r → marked (insert_key item_cmp (x ∷ ks) k) ≡ put item_cmp k tt (marked (x ∷ ks))) [
      | Less ↦ λ t. rw t refl
      | Equal ↦ λ t. rw t refl
      | Greater ↦ λ t. rw t (ap (λ es. (x, tt) ∷ es) (marked_inserted k ks))
    ] refl

ascending_marked : (ks : List (List ℕ)) → IsStrictlySortedBy item_cmp ks → IsAscending item_cmp (marked ks)
ascending_marked ks up = ascending_keys item_cmp (marked ks) (subst (IsStrictlySortedBy item_cmp) (sym (marked_keys ks)) up)

set_entries : (s : BTreeSet (List ℕ)) → IsOrdered item_cmp s → entries (as_items s) ≡ marked s.keys
set_entries s up = entries-from_sorted item_cmp (marked s.keys) (ascending_marked s.keys up)

-- the items of the finite set are the keys
pub set_items : (s : BTreeSet (List ℕ)) → IsOrdered item_cmp s → items (as_items s) ≡ s.keys
set_items s up = ap (map (λ (e : List ℕ × Unit {0}). e.0)) (set_entries s up) ∙ marked_keys s.keys

pub set_len : (s : BTreeSet (List ℕ)) → IsOrdered item_cmp s → len (as_items s) ≡ length s.keys
set_len s up = len-entries (as_items s) ∙ ap length (set_entries s up) ∙ marked_length s.keys

pub set_found : (s : BTreeSet (List ℕ)) (k : List ℕ) → IsOrdered item_cmp s → contains (as_items s) k ≡ contains_by (item_cmp k) s
set_found s k up = contains_key-keys (as_items s) k ∙ ap (list_any (eq_by_cmp item_cmp k)) (set_items s up)

-- a set without keys
pub no_keys : (s : BTreeSet (List ℕ)) → s.keys ≡ [] → as_items s ≡ empty
no_keys s none = ap (λ ks. from_sorted {R = item_cmp} (marked ks)) none ∙ none_sorted

pub set_inserted : (s n : BTreeSet (List ℕ)) (k : List ℕ) → IsOrdered item_cmp s → n.keys ≡ insert_key item_cmp s.keys k → as_items n ≡ insert (as_items s) k
set_inserted s n k up is =
    ap (λ ks. from_sorted {R = item_cmp} (marked ks)) is
    ∙ ap (from_sorted {R = item_cmp}) (marked_inserted k s.keys)
    ∙ same_entries_map _ _ (entries-from_sorted item_cmp _ (is_sorted-put item_cmp item_total k tt (marked s.keys) (ascending_marked s.keys up))
    ∙ sym (entries-insert item_total (as_items s) k tt ∙ ap (put item_cmp k tt) (set_entries s up)))

pub set_removed : (s n : BTreeSet (List ℕ)) (k : List ℕ) → IsOrdered item_cmp s → n.keys ≡ remove_key (is_at (item_cmp k)) s.keys → as_items n ≡ remove (as_items s) k
set_removed s n k up is =
    let sorted = ascending_marked s.keys up in
    ap (λ ks. from_sorted {R = item_cmp} (marked ks)) is
    ∙ ap (from_sorted {R = item_cmp}) (marked_removed (is_at (item_cmp k)) s.keys ∙ removed item_total k (marked s.keys) sorted)
    ∙ without_sorted item_total item_exact (marked s.keys) k sorted

marked_append : (ks ls : List (List ℕ)) → marked (ks ++ ls) ≡ marked ks ++ marked ls
marked_append [] ls = refl
marked_append (k ∷ ks) ls = ap (λ es. (k, tt) ∷ es) (marked_append ks ls)

-- the next of ascending items comes behind those before it
pub insert_next : (ks rest whole : List (List ℕ)) (k : List ℕ) → ks ++ k ∷ rest ≡ whole → IsStrictlySortedBy item_cmp whole → insert_key item_cmp ks k ++ rest ≡ whole
insert_next ks rest whole k is up =
    sym (marked_keys (insert_key item_cmp ks k ++ rest))
    ∙ ap (map (λ (e : List ℕ × Unit {0}). e.0))
    (marked_append (insert_key item_cmp ks k) rest ∙ ap (λ es. es ++ marked rest) (marked_inserted k ks)
    ∙ put_next item_total (marked ks) (marked rest) (marked whole) k tt (sym (marked_append ks (k ∷ rest)) ∙ ap marked is) (ascending_marked whole up))
    ∙ marked_keys whole
