-- Found nodes are listed in batches, and the items of a batch by their numbers.
use Rattle.std.proofs.Common.{◌≡◌, ◌<◌, ◌≤◌, ◌+◌, ltb, ltb-true, ltb-false, ℕ, true, false, List, [], ◌∷◌, ◌++◌, Option, None, Some, take, get_or, slice_get, length, ◌↔◌, refl, sym, ap, ◌∙◌, subst, inl, inr, ⊎_elim, arith}
use mathlib.Core.Bool.{false≢true}
use mathlib.Core.Logic.{◌⊎◌}
use Rattle.std.specs.Borrow.{Bor}
use Rattle.std.specs.BTreeMap.{BTreeMap, IsOrdered, Updates, get}
use Rattle.std.specs.Cmp.{eq_by_cmp_equiv}
use Rattle.std.specs.List.{Contains}
use Rattle.std.specs.Ordering.{eq_by_cmp}
use Rattle.std.proofs.lemmas.Bool.{cases_Bool, cond-false}
use Rattle.std.proofs.lemmas.List.{map-append, take_more}
use Rattle.std.proofs.lemmas.Map.Views.{btree_map_get_iff, tells_apart}
use Rattle.std.proofs.lemmas.List.Sorted.{Contains-permutation, IsPermutation-map, IsPermutation-sym}
use Rattle.std.specs.List.Sorted.{IsPermutation}
use Rattle.std.proofs.lemmas.Option.{slice_get_within}
use Rattle.event_json.specs.Events.{Content}
use Rattle.trace_core.specs.declared.nodes.Batch.{Batch}
use Rattle.trace_core.specs.declared.nodes.Node.{Node}
use Rattle.trace_core.specs.declared.pairs.Pair.{Pair}
use Rattle.trace_core.specs.Found.{items_at, HasNumber, batch_cmp, IsInBatch, Gives, IsPairOf}
use Rattle.trace_core.specs.Numbers.{numbered}
use Rattle.trace_core.specs.Places.{or_none}
use Rattle.trace_core.specs.Sites.{SiteEvents}
use Rattle.trace_core.proofs.BatchOrder.{batches_exact, batches_total}
use Rattle.trace_core.proofs.Gathered.{FromSome}
use Rattle.trace_core.proofs.Members.{contains_none}
use Rattle.trace_core.proofs.NumberLists.{some_is}
use Rattle.trace_core.proofs.SetMembers.{contains_pushed}

-- the item has one of the numbers below
abbrev pub HasNumberBelow : List Content → List ℕ → ℕ → List ℕ → Type 0
HasNumberBelow events numbers k i = (n : ℕ) × (n < k) × Contains numbers n × (slice_get (numbered events) n ≡ Some i)

-- the item of the number
abbrev pub HasThisNumber : List Content → ℕ → List ℕ → Type 0
HasThisNumber events n i = slice_get (numbered events) n ≡ Some i

-- an item of the numbers of a batch
abbrev pub HasNumbered : List Content → Batch × List ℕ → List ℕ → Type 0
HasNumbered events b i = HasNumber events b.1 i

-- references in another order point to the same items
pub refs_sorted : (refs refs' : List (Bor (List ℕ))) → IsPermutation refs refs' → (i : List ℕ) → Contains (items_at refs') i ↔ Contains (items_at refs) i
refs_sorted refs refs' same i = (
  Contains-permutation (items_at refs') (items_at refs) i (IsPermutation-map (λ (r : Bor (List ℕ)). r.now) refs' refs (IsPermutation-sym refs refs' same)),
  Contains-permutation (items_at refs) (items_at refs') i (IsPermutation-map (λ (r : Bor (List ℕ)). r.now) refs refs' same),
)

-- the same numbers have the same items
pub same_numbers : (events : List Content) (xs ys : List ℕ) → ((n : ℕ) → Contains xs n ↔ Contains ys n) → (i : List ℕ) → HasNumber events xs i ↔ HasNumber events ys i
same_numbers events xs ys same i = (λ (n, there, stands). (n, (same n).0 there, stands), λ (n, there, stands). (n, (same n).1 there, stands))

-- one item more of a list
pub item_more : {X : Type 0} (xs ys : List X) (x y : X) → ys ≡ xs ++ x ∷ [] → x ≡ y → (i : X) → Contains ys i ↔ (Contains xs i ⊎ (y ≡ i))
item_more xs ys x y pushed same i = (
  λ h. ⊎_elim (λ before. inl before) (λ is. inr (sym same ∙ is)) ((contains_pushed xs x i).0 (subst (λ zs. Contains zs i) pushed h)),
  λ h. subst (λ zs. Contains zs i) (sym pushed) ((contains_pushed xs x i).1 (⊎_elim (λ before. inl before) (λ is. inr (same ∙ is)) h)),
)

-- one reference more
pub ref_pushed : (refs refs' : List (Bor (List ℕ))) (ref : Bor (List ℕ)) → refs' ≡ refs ++ ref ∷ [] → (i : List ℕ) → Contains (items_at refs') i ↔ (Contains (items_at refs) i ⊎ (ref.now ≡ i))
ref_pushed refs refs' ref pushed = item_more (items_at refs) (items_at refs') ref.now ref.now (ap items_at pushed ∙ map-append (λ (r : Bor (List ℕ)). r.now) refs (ref ∷ [])) refl

-- the references to the first so many
pub refs_more : (refs : List (Bor (List ℕ))) (k : ℕ) (ref : Bor (List ℕ)) → k < length refs → ref ≡ get_or refs k ref → items_at (take (k + 1) refs) ≡ items_at (take k refs) ++ ref.now ∷ []
refs_more refs k ref within at = ap items_at (take_more refs k ref within ∙ ap (λ (r : Bor (List ℕ)). take k refs ++ r ∷ []) (sym at)) ∙ map-append (λ (r : Bor (List ℕ)). r.now) (take k refs) (ref ∷ [])

abbrev pub batch_of : Node → Batch
batch_of n = record { at = n.at; site = n.site }

-- a node comes to its batch
module _ (old new : BTreeMap Batch (List ℕ)) (node : Node) (numbers : List ℕ) (upd : Updates batch_cmp old new (batch_of node) (Some numbers))
    (are : (m : ℕ) → Contains numbers m ↔ (Contains (or_none (get batch_cmp old (batch_of node))) m ⊎ (node.item ≡ m))) where
  one_node : (n : Node) → batch_of node ≡ batch_of n → node.item ≡ n.item → node ≡ n
  one_node n same its = ap (λ (b : Batch). record { site = b.site; item = node.item; at = b.at }) same ∙ ap (λ (m : ℕ). record { site = n.site; item = m; at = n.at }) its

  own : (m : ℕ) → Contains (or_none (get batch_cmp new (batch_of node))) m ↔ (Contains (or_none (get batch_cmp old (batch_of node))) m ⊎ (node.item ≡ m))
  own m =
      let is : or_none (get batch_cmp new (batch_of node)) ≡ numbers = ap or_none upd.1 in
      (λ h. (are m).0 (subst (λ ns. Contains ns m) is h), λ h. subst (λ ns. Contains ns m) (sym is) ((are m).1 h))

  one_more : (n : Node) → batch_of node ≡ batch_of n → (m : ℕ) → Contains (or_none (get batch_cmp new (batch_of n))) m ↔ (Contains (or_none (get batch_cmp old (batch_of n))) m ⊎ (node.item ≡ m))
  one_more n same m = subst (λ (b : Batch). Contains (or_none (get batch_cmp new b)) m ↔ (Contains (or_none (get batch_cmp old b)) m ⊎ (node.item ≡ m))) same (own m)

  others_stay : (n : Node) → eq_by_cmp batch_cmp (batch_of node) (batch_of n) ≡ false → get batch_cmp new (batch_of n) ≡ get batch_cmp old (batch_of n)
  others_stay n apart = upd.0 (batch_of n) ∙ cond-false (eq_by_cmp batch_cmp (batch_of node) (batch_of n)) (Some numbers) (get batch_cmp old (batch_of n)) apart

  pub batch_noted : (n : Node) → IsInBatch new n ↔ (IsInBatch old n ⊎ (node ≡ n))
  batch_noted n = ⊎_elim
      (λ at.
      let same : batch_of node ≡ batch_of n = tells_apart batches_exact (batch_of node) (batch_of n) at in
      let more = one_more n same n.item in (
        λ h. ⊎_elim (λ before. inl before) (λ its. inr (one_node n same its)) (more.0 h),
        λ h. more.1 (⊎_elim (λ before. inl before) (λ it. inr (ap (λ (m : Node). m.item) it)) h),
      ))
      (λ not_at.
      let stay = others_stay n not_at in (
        λ h. inl (subst (λ o. Contains (or_none o) n.item) stay h),
        λ h. ⊎_elim
            (λ before. subst (λ o. Contains (or_none o) n.item) (sym stay) before)
            (λ same. absurd (false≢true (sym not_at ∙ subst (λ (m : Node). eq_by_cmp batch_cmp (batch_of node) (batch_of m) ≡ true) same ((eq_by_cmp_equiv batches_total).refl (batch_of node)))))
            h,
      ))
      (cases_Bool (eq_by_cmp batch_cmp (batch_of node) (batch_of n)))

-- a node of a batch that is there
pub batch_marked : (old new : BTreeMap Batch (List ℕ)) (node : Node) (own numbers : List ℕ) → Updates batch_cmp old new (batch_of node) (Some numbers) → Some own ≡ get batch_cmp old (batch_of node)
    → ((m : ℕ) → Contains numbers m ↔ (Contains own m ⊎ (node.item ≡ m))) → (n : Node) → IsInBatch new n ↔ (IsInBatch old n ⊎ (node ≡ n))
batch_marked old new node own numbers upd is marked = batch_noted old new node numbers upd
    (λ m. subst (λ o. Contains numbers m ↔ (Contains (or_none o) m ⊎ (node.item ≡ m))) is (marked m))

-- of a new one
pub batch_begun : (old new : BTreeMap Batch (List ℕ)) (node : Node) (none numbers : List ℕ) → Updates batch_cmp old new (batch_of node) (Some numbers) → None ≡ get batch_cmp old (batch_of node) → none ≡ []
    → ((m : ℕ) → Contains numbers m ↔ (Contains none m ⊎ (node.item ≡ m))) → (n : Node) → IsInBatch new n ↔ (IsInBatch old n ⊎ (node ≡ n))
batch_begun old new node none numbers upd is empty marked = batch_noted old new node numbers upd
    (λ m. subst (λ o. Contains numbers m ↔ (Contains (or_none o) m ⊎ (node.item ≡ m))) is (subst (λ ns. Contains numbers m ↔ (Contains ns m ⊎ (node.item ≡ m))) empty (marked m)))

-- a batch that has the same numbers as before
pub batch_same : (old new : BTreeMap Batch (List ℕ)) (node : Node) (own numbers : List ℕ) → Updates batch_cmp old new (batch_of node) (Some numbers) → Some own ≡ get batch_cmp old (batch_of node)
    → ((m : ℕ) → Contains numbers m ↔ Contains own m) → (n : Node) → IsInBatch new n ↔ IsInBatch old n
batch_same old new node own numbers upd is same n = ⊎_elim
    (λ at.
    let here : batch_of node ≡ batch_of n = tells_apart batches_exact (batch_of node) (batch_of n) at in
    let was : Some own ≡ get batch_cmp old (batch_of n) = is ∙ ap (get batch_cmp old) here in
    let now : get batch_cmp new (batch_of n) ≡ Some numbers = ap (get batch_cmp new) (sym here) ∙ upd.1 in (
      λ h. subst (λ o. Contains (or_none o) n.item) was ((same n.item).0 (subst (λ o. Contains (or_none o) n.item) now h)),
      λ h. subst (λ o. Contains (or_none o) n.item) (sym now) ((same n.item).1 (subst (λ o. Contains (or_none o) n.item) (sym was) h)),
    ))
    (λ not_at.
    let stay : get batch_cmp new (batch_of n) ≡ get batch_cmp old (batch_of n) = upd.0 (batch_of n) ∙ cond-false (eq_by_cmp batch_cmp (batch_of node) (batch_of n)) (Some numbers) (get batch_cmp old (batch_of n)) not_at in (
      λ h. subst (λ o. Contains (or_none o) n.item) stay h,
      λ h. subst (λ o. Contains (or_none o) n.item) (sym stay) h,
    ))
    (cases_Bool (eq_by_cmp batch_cmp (batch_of node) (batch_of n)))

-- what the numbers of batches give is what the nodes in them give
pub batches_give : {X : Type 0} (G : Node → X → Type 0) (batches : BTreeMap Batch (List ℕ)) → IsOrdered batch_cmp batches → (x : X)
    → FromSome (λ (b : Batch × List ℕ) y. (m : ℕ) × Contains b.1 m × G (record { site = b.0.site; item = m; at = b.0.at }) y) batches.entries x ↔ ((n : Node) × IsInBatch batches n × G n x)
batches_give {X} G batches ordered x = (
  λ (e, there, (m, listed, given)).
      let looked : get batch_cmp batches e.0 ≡ Some e.1 = (btree_map_get_iff batches_total batches_exact batches ordered e.0 e.1).1 there in
      (record { site = e.0.site; item = m; at = e.0.at }, subst (λ o. Contains (or_none o) m) (sym looked) listed, given),
  λ (n, there, given). of_batch n given (get batch_cmp batches (batch_of n)) refl there,
)
  where
    of_batch : (n : Node) → G n x → (o : Option (List ℕ)) → get batch_cmp batches (batch_of n) ≡ o → Contains (or_none (get batch_cmp batches (batch_of n))) n.item
        → FromSome (λ (b : Batch × List ℕ) y. (m : ℕ) × Contains b.1 m × G (record { site = b.0.site; item = m; at = b.0.at }) y) batches.entries x
    of_batch n given None none there = absurd (contains_none n.item (subst (λ o. Contains (or_none o) n.item) none there))
    of_batch n given (Some ns) some there =
        ((batch_of n, ns), (btree_map_get_iff batches_total batches_exact batches ordered (batch_of n) ns).0 some, (n.item, subst (λ o. Contains (or_none o) n.item) some there, given))

-- and those are all nodes
pub all_in_batches : {X : Type 0} (G : Node → X → Type 0) (batches : BTreeMap Batch (List ℕ)) (nodes : List Node) → ((n : Node) → IsInBatch batches n ↔ Contains nodes n)
    → (x : X) → ((n : Node) × IsInBatch batches n × G n x) ↔ ((n : Node) × Contains nodes n × G n x)
all_in_batches G batches nodes are x = (λ (n, there, given). (n, (are n).0 there, given), λ (n, there, given). (n, (are n).1 there, given))

-- no items, no more than before
pub none_more : {X : Type 0} (first : List X) (x : X) → Contains first x ↔ (Contains first x ⊎ Contains [] x)
none_more first x = (λ h. inl h, λ h. ⊎_elim (λ old. old) (λ none. absurd (contains_none x none)) h)

-- the copy of one item more
pub copy_pushed : {X : Type 0} (first found found' items : List X) (copy : X) → found' ≡ found ++ copy ∷ [] → ((x : X) → Contains found x ↔ (Contains first x ⊎ Contains items x)) → (x : X) → Contains found' x ↔ (Contains first x ⊎ Contains (items ++ copy ∷ []) x)
copy_pushed first found found' items copy pushed so_far x =
    let both = contains_pushed found copy x in
    let listed = contains_pushed items copy x in (
      λ h. ⊎_elim
          (λ before. ⊎_elim (λ old. inl old) (λ new. inr (listed.1 (inl new))) ((so_far x).0 before))
          (λ is. inr (listed.1 (inr is)))
          (both.0 (subst (λ xs. Contains xs x) pushed h)),
      λ h. subst (λ xs. Contains xs x) (sym pushed) (both.1 (⊎_elim
          (λ old. inl ((so_far x).1 (inl old)))
          (λ new. ⊎_elim (λ before. inl ((so_far x).1 (inr before))) (λ is. inr is) (listed.0 new))
          h)),
    )

-- no items, no pairs
pub no_pairs : (first : List Pair) (at : ℕ) (p : Pair) → Contains first p ↔ (Contains first p ⊎ IsPairOf at [] p)
no_pairs first at p = (λ h. inl h, λ h. ⊎_elim (λ old. old) (λ (there, place). absurd (contains_none p.item there)) h)

-- the pair of one item more
pub pair_pushed : (first pairs pairs' : List Pair) (at : ℕ) (items : List (List ℕ)) (item : List ℕ) → pairs' ≡ pairs ++ record { site = at; item = item } ∷ [] → ((p : Pair) → Contains pairs p ↔ (Contains first p ⊎ IsPairOf at items p))
    → (p : Pair) → Contains pairs' p ↔ (Contains first p ⊎ IsPairOf at (items ++ item ∷ []) p)
pair_pushed first pairs pairs' at items item pushed so_far p =
    let both = contains_pushed pairs (record { site = at; item = item }) p in
    let listed = contains_pushed items item p.item in (
      λ h. ⊎_elim
          (λ before. ⊎_elim (λ old. inl old) (λ (there, place). inr (listed.1 (inl there), place)) ((so_far p).0 before))
          (λ is. inr (listed.1 (inr (ap (λ (q : Pair). q.item) is)), ap (λ (q : Pair). q.site) (sym is)))
          (both.0 (subst (λ ps. Contains ps p) pushed h)),
      λ h. subst (λ ps. Contains ps p) (sym pushed) (both.1 (⊎_elim
          (λ old. inl ((so_far p).1 (inl old)))
          (λ (there, place). ⊎_elim
          (λ before. inl ((so_far p).1 (inr (before, place))))
          (λ is. inr (ap (λ (m : ℕ). record { site = m; item = item }) (sym place) ∙ ap (λ (i : List ℕ). record { site = p.site; item = i }) is))
          (listed.0 there))
          h)),
    )

pub batch_pairs : (sites : List SiteEvents) (b : Batch) (numbers : List ℕ) (s : SiteEvents) (items : List (List ℕ)) → slice_get sites b.site ≡ Some s → ((i : List ℕ) → Contains items i ↔ HasNumber s.events numbers i)
    → (p : Pair) → IsPairOf b.at items p ↔ Gives sites (b, numbers) p
batch_pairs sites b numbers s items at are p = (
  λ (there, place).
      let (n, listed, stands) = (are p.item).0 there in
      (n, listed, (s, at, stands, place)),
  λ (n, listed, (t, at', stands, place)).
      let same : t ≡ s = some_is t s (sym at' ∙ at) in
      ((are p.item).1 (n, listed, ap (λ (u : SiteEvents). slice_get (numbered u.events) n) (sym same) ∙ stands), place),
)

pub no_batch : (sites : List SiteEvents) (b : Batch) (numbers : List ℕ) → length sites ≤ b.site → (p : Pair) → Gives sites (b, numbers) p → ⊥
no_batch sites b numbers past p (n, listed, (s, at, stands, place)) = omega (arith, past, slice_get_within sites b.site s at)

-- an item whose number is marked is added
pub marked_pushed : {A B C D : Type 0} → C → A ↔ (B ⊎ D) → A ↔ (B ⊎ (C × D))
marked_pushed marked more = (
  λ h. ⊎_elim (λ before. inl before) (λ is. inr (marked, is)) (more.0 h),
  λ h. more.1 (⊎_elim (λ before. inl before) (λ (_, is). inr is) h),
)

-- a list that has nothing yet
pub nothing_has : {X : Type 0} (xs : List X) → xs ≡ [] → (x : X) → Contains xs x ↔ ⊥
nothing_has xs none x = (λ h. contains_none x (subst (λ ys. Contains ys x) none h), λ h. absurd h)

-- one equivalence after another
pub iff_then : {A B C : Type 0} → A ↔ B → B ↔ C → A ↔ C
iff_then one two = (λ a. two.0 (one.0 a), λ d. one.1 (two.1 d))

pub widened : {A B C D : Type 0} → A ↔ (B ⊎ C) → B ↔ D → A ↔ (D ⊎ C)
widened one two = (λ a. ⊎_elim (λ b. inl (two.0 b)) (λ d. inr d) (one.0 a), λ h. one.1 (⊎_elim (λ d. inl (two.1 d)) (λ d. inr d) h))

pub either_then : {A B C D : Type 0} → A ↔ (B ⊎ C) → C ↔ D → A ↔ (B ⊎ D)
either_then one two = (λ a. ⊎_elim (λ b. inl b) (λ d. inr (two.0 d)) (one.0 a), λ h. one.1 (⊎_elim (λ b. inl b) (λ d. inr (two.1 d)) h))

-- what some of the elements give is all that is there
pub all_given : {A B C : Type 0} → A ↔ (⊥ ⊎ B) → B ↔ C → A ↔ C
all_given one two = (λ a. two.0 (⊎_elim (λ none. absurd none) (λ b. b) (one.0 a)), λ d. one.1 (inr (two.1 d)))

-- the items of the marked numbers, one number after another
module _ (events : List Content) (numbers : List ℕ) where
  pub none_below : (xs : List (List ℕ)) → xs ≡ [] → (i : List ℕ) → Contains xs i ↔ HasNumberBelow events numbers 0 i
  none_below xs none i = (λ h. absurd (contains_none i (subst (λ ys. Contains ys i) none h)), λ (n, below, there, stands). absurd (omega (arith, below)))

  pub below_more : (k : ℕ) (xs ys : List (List ℕ)) → ((i : List ℕ) → Contains ys i ↔ (Contains xs i ⊎ (Contains numbers k × (slice_get (numbered events) k ≡ Some i)))) → ((i : List ℕ) → Contains xs i ↔ HasNumberBelow events numbers k i)
      → (i : List ℕ) → Contains ys i ↔ HasNumberBelow events numbers (k + 1) i
  below_more k xs ys more so_far i = (
    λ h. ⊎_elim
        (λ before. let (n, below, there, stands) = (so_far i).0 before in (n, omega (arith, below), there, stands))
        (λ (there, stands). (k, omega arith, there, stands))
        ((more i).0 h),
    λ (n, below, there, stands). (more i).1 (⊎_elim
        (λ yes. inl ((so_far i).1 (n, ltb-true n k yes, there, stands)))
        (λ no.
        let same : n ≡ k = omega (arith, below, ltb-false n k no) in
        inr (subst (λ m. Contains numbers m) same there, subst (λ m. slice_get (numbered events) m ≡ Some i) same stands))
        (cases_Bool (ltb n k))),
  )

  pub all_below : (k : ℕ) (xs ys : List (List ℕ)) → length (numbered events) ≤ k → ((i : List ℕ) → Contains ys i ↔ Contains xs i) → ((i : List ℕ) → Contains xs i ↔ HasNumberBelow events numbers k i)
      → (i : List ℕ) → Contains ys i ↔ HasNumber events numbers i
  all_below k xs ys past same so_far i = iff_then (same i) (iff_then (so_far i) (
    λ (n, below, there, stands). (n, there, stands),
    λ (n, there, stands). (n, omega (arith, past, slice_get_within (numbered events) n i stands), there, stands),
  ))
