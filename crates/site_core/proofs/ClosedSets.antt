-- A quarantine is closed inside its site where each recall's items have their whole spread.
use Rattle.std.proofs.Common.{◌≡◌, ◌↔◌, ℕ, Bool, true, List, [], ◌∷◌, Some, None, refl, sym, ap, subst, ◌∙◌}
use mathlib.Core.Bool.{false≢true}
use Rattle.std.specs.Prelude.{IsTrue, is_some}
use Rattle.std.specs.BTreeSet.{BTreeSet, contains}
use Rattle.std.specs.FinMap.{entries, get, get-empty, contains_key-keys}
use Rattle.std.specs.List.{Contains, list_all}
use Rattle.std.proofs.lemmas.Bool.{and_from}
use Rattle.std.proofs.lemmas.Map.Lookups.{exact_bytes}
use Rattle.std.proofs.lemmas.Map.Views.{btree_set_contains_iff}
use Rattle.frame_core.specs.Numbers.{Recall}
use Rattle.frame_core.specs.Orders.{recall_total, recall_exact}
use Rattle.trace_core.specs.Sites.{SiteEvents}
use Rattle.trace_core.specs.Spreads.{Inside, IsSpread}
use Rattle.trace_core.proofs.ChainLaws.{reached_holds, reached_start, reached_step}
use Rattle.trace_core.proofs.Members.{contains_here, contains_there}
use Rattle.site_core.specs.ItemSets as set
use Rattle.site_core.specs.ItemSets.{Items, item_cmp}
use Rattle.site_core.specs.Quarantines.{Quarantine, or_none, held}
use Rattle.site_core.specs.Shortcuts.{IsClosedInside, IsClosedSet}
use Rattle.site_core.proofs.Blocks.{list_all_member}
use Rattle.site_core.proofs.Entries.{entry_found, entry_there}
use Rattle.site_core.proofs.ItemOrder.{item_total}

all_pass : {X : Type 0} (p : X → Bool) (xs : List X) → ((x : X) → Contains xs x → p x ≡ true) → list_all p xs ≡ true
all_pass p [] each = refl
all_pass p (x ∷ xs) each = and_from (p x) (list_all p xs) (each x (contains_here x xs)) (all_pass p xs (λ y there. each y (contains_there x y xs there)))

-- the items of a set are those that it has
listed : (items : Items) (i : List ℕ) → IsTrue (set.contains items i) ↔ Contains (set.items items) i
listed items i =
    let keys : BTreeSet (List ℕ) = record { keys = set.items items } in
    let same : set.contains items i ≡ contains item_cmp keys i = contains_key-keys items i in
    let among : IsTrue (contains item_cmp keys i) ↔ Contains (set.items items) i = btree_set_contains_iff item_total exact_bytes keys i in
    (λ h. among.0 (sym same ∙ h), λ there. same ∙ among.1 there)

-- One recall's items.
module _ (s : SiteEvents) (items : Items) where
  pub closed_by_spread : (starts spread : List (List ℕ)) (b : Bool) → starts ≡ set.items items → ((j : List ℕ) → Contains spread j ↔ IsSpread s starts j)
      → b ≡ list_all (λ i. set.contains items i) spread → IsTrue b ↔ IsClosedSet s items
  closed_by_spread starts spread b are exact is =
      let start : (i : List ℕ) → IsTrue (set.contains items i) → Contains starts i = λ i h. subst (λ xs. Contains xs i) (sym are) ((listed items i).0 h) in
      let back : (i : List ℕ) → Contains starts i → IsTrue (set.contains items i) = λ i there. (listed items i).1 (subst (λ xs. Contains xs i) are there) in (
        λ h i j has made. list_all_member (λ k. set.contains items k) spread j ((exact j).1 (reached_step (Inside s) starts i j (reached_start (Inside s) starts i (start i has)) made)) (sym is ∙ h),
        λ closed. is ∙ all_pass (λ k. set.contains items k) spread (λ j there.
            let (x, at, reaches) = (exact j).0 there in
            reached_holds (Inside s) (λ k. IsTrue (set.contains items k)) closed x j reaches (back x at)),
      )

-- The items of each recall.
abbrev pub EntryIsClosed : SiteEvents → Recall × Items → Type 0
EntryIsClosed s e = IsClosedSet s e.1

module _ (s : SiteEvents) (q : Quarantine) where
  pub closed_entries : ((e : Recall × Items) → Contains (entries q) e → EntryIsClosed s e) → IsClosedInside s q
  closed_entries each r i j has made = elim (get q r) as (λ o. get q r ≡ o → IsTrue (set.contains (or_none o) i) → IsTrue (set.contains (or_none o) j)) [
    | None ↦ λ _ h. absurd (false≢true (sym (ap is_some (get-empty item_cmp i)) ∙ h))
    | Some items ↦ λ is h. each (r, items) (entry_there recall_total recall_exact q r items is) i j h made
  ] refl has

  pub entries_closed : IsClosedInside s q → (e : Recall × Items) → Contains (entries q) e → EntryIsClosed s e
  entries_closed closed e there i j has made =
      let is : get q e.0 ≡ Some e.1 = entry_found recall_total q e.0 e.1 there in
      let same : (k : List ℕ) → held q e.0 k ≡ set.contains e.1 k = λ k. ap (λ o. set.contains (or_none o) k) is in
      sym (same j) ∙ closed e.0 i j (same i ∙ has) made
