-- The spread of items, and its looks.
use Rattle.std.proofs.Common.{◌≡◌, ℕ, zero, suc, ◌<◌, ◌≤◌, ◌+◌, ◌-◌, ◌^◌, true, false, min, Decides, List, [], ◌∷◌, ◌++◌, Option, None, Some, map, take, get_or, slice_get, unwrap_or, length, length-append, sum_by, ◌↔◌, refl, sym, ap, ◌∙◌, subst, inl, inr, ⊎_elim, arith}
use mathlib.Core.Bool.{false≢true}
use mathlib.Core.Logic.{◌⊎◌}
use Rattle.std.specs.BTreeSet.{BTreeSet}
use Rattle.std.specs.Cmp.{eq_by_cmp_equiv}
use Rattle.std.specs.Cmp.Lexicographic.{slice_cmp}
use Rattle.std.specs.List.{Contains}
use Rattle.std.specs.Ordering.{nat_cmp, eq_by_cmp}
use Rattle.std.proofs.lemmas.Cmp.{nat_list_cmp_total}
use Rattle.std.proofs.lemmas.List.{length-map}
use Rattle.std.proofs.lemmas.List.Elements.{Contains-append_left, Contains-append_right}
use Rattle.std.proofs.lemmas.Map.Keys.{IsDistinct-from_sorted}
use Rattle.std.proofs.lemmas.Map.Made.{length-le_from_is_member, IsDistinct-from_AllPairs}
use Rattle.std.proofs.lemmas.Map.Lookups.{exact_bytes}
use Rattle.std.proofs.lemmas.Map.Views.{Contains-from_any, list_any-from_Contains, tells_apart}
use Rattle.event_json.specs.Events.{Content}
use Rattle.trace_core.specs.declared.groups.Group.{Group}
use Rattle.trace_core.specs.declared.nodes.Node.{Node}
use Rattle.trace_core.specs.declared.pairs.Pair.{Pair}
use Rattle.trace_core.specs.Groups.{SeeksFrom, IsGiven, IsSought, HasSeenTakers, HasSeenFrom, StaysSeen, unseen_outputs, first_of}
use Rattle.trace_core.specs.Nodes.{Stands, Had, AreOnce, Gains, ReachedFromNodes, HasItem, IsKnownNode}
use Rattle.trace_core.specs.Numbers.{number_in, numbered}
use Rattle.trace_core.specs.Pairs.{IsRelated}
use Rattle.trace_core.specs.Places.{names_item, takes_item}
use Rattle.trace_core.specs.Relations.{Reaches}
use Rattle.trace_core.specs.Searches.{LooksAtAll}
use Rattle.trace_core.specs.Sites.{SiteEvents}
use Rattle.trace_core.specs.Spreads.{AreAscendingItems, Inside, IsSpread, items_of, output_count, HasEachItem, outputs_from, AreLooks}
use Rattle.trace_core.proofs.ChainLaws.{reaches_itself, reaches_step, reached_holds}
use Rattle.trace_core.proofs.GroupSteps.{adds_same}
use Rattle.trace_core.specs.Looks.{one_look}
use Rattle.trace_core.proofs.LookSteps.{one_look_cases, seen_with_id, seen_outputs}
use Rattle.trace_core.proofs.Members.{contains-map, list_any_witness, list_any_member}
use Rattle.trace_core.proofs.NodeOrder.{node_cmp, nodes_exact, nodes_total}
use Rattle.trace_core.proofs.NodeSteps.{gains_none, gains_retold}
use Rattle.trace_core.proofs.NumberLists.{some_is, none_is, number_stands, number_listed, unnumbered, numbered_apart, numbered_named}
use Rattle.trace_core.proofs.PairTestsDecide.{lists_decides}
use Rattle.trace_core.proofs.ReachSteps.{one_stands, unrelated}
use Rattle.trace_core.proofs.RelatedPlaces.{ins_listed, takes_named}
use Rattle.trace_core.proofs.SetMembers.{contains_pushed, contains_more}

module _ (s : SiteEvents) where
  abbrev pub here : List ℕ → Pair
  here i = record { site = s.me; item = i }

  -- a chain of the site's pairs that ends at the site stays in it
  pub inside-chain : (i : List ℕ) (q : Pair) → Reaches (SeeksFrom false s) (here i) q → q.site ≡ s.me → Reaches (Inside s) i q.item
  inside-chain i q reaches = reached_holds (SeeksFrom false s) (λ q. q.site ≡ s.me → Reaches (Inside s) i q.item)
      (λ p q so_far (same, made) at. reaches_step (Inside s) i p.item q.item (so_far (sym same)) (subst (λ (n : ℕ). IsRelated s p.item (record { site = n; item = q.item })) at (inr made)))
      (here i) q reaches (λ _. reaches_itself (Inside s) i)

  chain-inside : (i j : List ℕ) → Reaches (Inside s) i j → Reaches (SeeksFrom false s) (here i) (here j)
  chain-inside i j reaches = reached_holds (Inside s) (λ j. Reaches (SeeksFrom false s) (here i) (here j))
      (λ j k so_far related. reaches_step (SeeksFrom false s) (here i) (here j) (here k) so_far (refl, ⊎_elim (λ (other, same, any). absurd (other refl)) (λ made. made) related))
      i j reaches (reaches_itself (SeeksFrom false s) (here i))

  -- what is found is at the site
  pub found_here : (i : List ℕ) (q : Pair) → Reaches (SeeksFrom false s) (here i) q → q.site ≡ s.me
  found_here i q reaches = reached_holds (SeeksFrom false s) (λ (q : Pair). q.site ≡ s.me) (λ x y h (same, made). made.0) (here i) q reaches refl

  the_site : (n : ℕ) (t : SiteEvents) → slice_get (s ∷ []) n ≡ Some t → (n ≡ 0) × (s ≡ t)
  the_site zero t h = (refl, some_is s t h)
  the_site (suc n) t h = none_is t h

  -- the item of a node
  pub its_item : (n : Node) (q : Pair) → Stands (s ∷ []) n q → slice_get (numbered s.events) n.item ≡ Some q.item
  its_item n q (t, at, item, place) = ap (λ (u : SiteEvents). slice_get (numbered u.events) n.item) (the_site n.site t at).1 ∙ item

  known_stands : (items : List (List ℕ)) (n : Node) (known : IsKnownNode s items n) → Stands (s ∷ []) n (here known.0)
  known_stands items n (i, there, number, first, at) = (s, ap (slice_get (s ∷ [])) first, number_stands (numbered s.events) i n.item number, sym at)

  pub some_known : (items : List (List ℕ)) (n : Node) → IsKnownNode s items n → (q : Pair) × Stands (s ∷ []) n q
  some_known items n known = (here known.0, known_stands items n known)

  -- visiting a node
  pub node_gains : (node : Node) (at : ℕ) (a b : BTreeSet Group) (x y : List Node) → node.at ≡ at → at ≡ s.me
      → ((all : List SiteEvents) (i : List ℕ) → slice_get all 0 ≡ Some s → slice_get (numbered s.events) node.item ≡ Some i → Gains (Stands all) (λ groups q. IsGiven s 0 groups q) (λ q. IsSought false s i q) a b x y)
      → (p : Pair) → Stands (s ∷ []) node p → Gains (Stands (s ∷ [])) (IsGiven s 0) (SeeksFrom false s p) a b x y
  node_gains node at a b x y own is gained p (t, at_t, item, place) =
      gains_retold (Stands (s ∷ [])) (λ groups q. IsGiven s 0 groups q) (IsGiven s 0) (λ q. IsSought false s p.item q) (SeeksFrom false s p) a b x y
      (adds_same (IsGiven s 0) (λ q. IsSought false s p.item q) (SeeksFrom false s p) a b (Had (Stands (s ∷ [])) x) (Had (Stands (s ∷ [])) y) (λ q. (λ h. (sym (place ∙ own ∙ is), h), λ h. h.1)))
      (gained (s ∷ []) p.item refl (its_item node p (t, at_t, item, place)))

  pub node_elsewhere : (node : Node) (at : ℕ) (a : BTreeSet Group) (x : List Node) → (node.at ≡ at → ⊥) → at ≡ s.me → (p : Pair) → Stands (s ∷ []) node p → Gains (Stands (s ∷ [])) (IsGiven s 0) (SeeksFrom false s p) a a x x
  node_elsewhere node at a x apart is p (t, at_t, item, place) = gains_none (Stands (s ∷ [])) (IsGiven s 0) (SeeksFrom false s p) a x (λ q h. apart (sym place ∙ sym h.0 ∙ sym is))

  -- what was seen then
  pub node_seen : (node : Node) (seen : BTreeSet Group) → ((i : List ℕ) → slice_get (numbered s.events) node.item ≡ Some i → HasSeenTakers 0 s.events seen i) → (p : Pair) → Stands (s ∷ []) node p → HasSeenFrom s seen p
  node_seen node seen takers p stands own = takers p.item (its_item node p stands)

  pub nothing_seen_elsewhere : (node : Node) (at : ℕ) (seen : BTreeSet Group) → (node.at ≡ at → ⊥) → at ≡ s.me → (p : Pair) → Stands (s ∷ []) node p → HasSeenFrom s seen p
  nothing_seen_elsewhere node at seen apart is p (t, at_t, item, place) own = absurd (apart (sym place ∙ sym own ∙ sym is))

  pub stays_seen_from : (a b : BTreeSet Group) → StaysSeen a b → (p : Pair) → HasSeenFrom s a p → HasSeenFrom s b p
  stays_seen_from a b stays p before own place e stands takes = stays (record { site = 0; first = first_of s.events place e.body }) (before own place e stands takes)

  -- an item that goes into a transformation is known
  taken_known : (i : List ℕ) (e : Content) → Contains s.events e → takes_item i e ≡ true → number_in (numbered s.events) i ≡ None → ⊥
  taken_known i e there takes none = false≢true (
      sym (unnumbered (numbered s.events) i none)
      ∙ numbered_named s.events i
      ∙ list_any_member (names_item i) s.events e there (takes_named i e.body (sym (ins_listed i e.body) ∙ takes))
      )

  module _ (items : List (List ℕ)) (starts list : List Node) (nodes : List Node) (are : (n : Node) → Contains starts n ↔ IsKnownNode s items n) (once : AreOnce nodes) (stand : (n : Node) → Contains nodes n → (q : Pair) × Stands (s ∷ []) n q)
      (reached : (q : Pair) → Had (Stands (s ∷ [])) nodes q ↔ ReachedFromNodes (Stands (s ∷ [])) (SeeksFrom false s) starts q) (same : list ≡ nodes) where
    -- a found pair is made of a given item
    from_given : (n : Node) (q : Pair) → Contains nodes n → Stands (s ∷ []) n q → (i : List ℕ) × Contains items i × Reaches (SeeksFrom false s) (here i) q
    from_given n q found stands =
        let (m, p, start, stood, reaches) = (reached q).0 (n, found, stands) in
        let known = (are m).0 start in
        (known.0, known.1, subst (λ x. Reaches (SeeksFrom false s) x q) (one_stands (s ∷ []) m p (here known.0) stood (known_stands items m known)) reaches)

    -- the given items that aren't known, and those of the found nodes, are the spread
    pub spread_exact : (unknown found : List (List ℕ)) → ((i : List ℕ) → Contains unknown i ↔ (Contains items i × (number_in (numbered s.events) i ≡ None))) → ((i : List ℕ) → Contains found i ↔ (Contains unknown i ⊎ HasItem s.events list i))
        → (j : List ℕ) → Contains found j ↔ IsSpread s items j
    spread_exact unknown found unknown_are found_are j = (
      λ h. ⊎_elim
          (λ new. (j, ((unknown_are j).0 new).0, reaches_itself (Inside s) j))
          (λ (n, there, is).
          let has = subst (λ ns. Contains ns n) same there in
          let (q, stands) = stand n has in
          let its : q.item ≡ j = some_is q.item j (sym (its_item n q stands) ∙ is) in
          let (i, given, reaches) = from_given n q has stands in
          (i, given, subst (Reaches (Inside s) i) its (inside-chain i q reaches (found_here i q reaches))))
          ((found_are j).0 h),
      λ (i, given, reaches). (found_are j).1 (by_number i given reaches (number_in (numbered s.events) i) refl),
    )
      where
        by_number : (i : List ℕ) → Contains items i → Reaches (Inside s) i j → (o : Option ℕ) → number_in (numbered s.events) i ≡ o → Contains unknown j ⊎ HasItem s.events list j
        by_number i given reaches None none =
            let alone : j ≡ i = reached_holds (Inside s) (λ x. x ≡ i) (λ y z is related. absurd (unrelated s i none (here z) (subst (λ k. Inside s k z) is related))) i j reaches refl in
            inl ((unknown_are j).1 (subst (λ k. Contains items k × (number_in (numbered s.events) k ≡ None)) (sym alone) (given, none)))
        by_number i given reaches (Some m) known =
            let start : Node = record { site = 0; item = m; at = s.me } in
            let its : IsKnownNode s items start = (i, given, known, refl, refl) in
            let (n, found, stands) = (reached (here j)).1 (start, here i, (are start).1 its, known_stands items start its, chain-inside i j reaches) in
            inr (n, subst (λ ns. Contains ns n) (sym same) found, its_item n (here j) stands)

    -- a found node is that of a known item
    abbrev node_of : List ℕ → Node
    node_of i = record { site = 0; item = unwrap_or (number_in (numbered s.events) i) 0; at = s.me }

    known_item : (known : List (List ℕ)) → HasEachItem s known → (n : Node) → Contains nodes n → Contains (map node_of known) n
    known_item known each n found =
        let (q, (t, at, item, place)) = stand n found in
        let number : number_in (numbered s.events) q.item ≡ Some n.item = numbered_apart s.events n.item q.item (its_item n q (t, at, item, place)) in
        let (e, there, names) = list_any_witness (names_item q.item) s.events (sym (numbered_named s.events q.item) ∙ number_listed (numbered s.events) q.item n.item number) in
        let (i, given, reaches) = from_given n q found (t, at, item, place) in
        let is : node_of q.item ≡ n =
        ap (λ o. record { site = 0; item = unwrap_or o 0; at = s.me }) number
        ∙ ap (λ (m : ℕ). record { site = m; item = n.item; at = s.me }) (sym (the_site n.site t at).0) ∙ ap (λ (m : ℕ). record { site = n.site; item = n.item; at = m }) (sym (found_here i q reaches) ∙ place) in
        subst (Contains (map node_of known)) is (contains-map node_of known q.item (each e q.item there ((lists_decides (items_of e.body) q.item).0 names)))

    -- no more nodes are found than items are known
    nodes_le : (known : List (List ℕ)) → HasEachItem s known → length list ≤ length known
    nodes_le known each =
        let laws = eq_by_cmp_equiv nodes_total in
        let tells : (m n : Node) → Decides (eq_by_cmp node_cmp m n) (m ≡ n) = λ m n. (λ at. tells_apart nodes_exact m n at, λ is. subst (λ x. eq_by_cmp node_cmp m x ≡ true) is (laws.refl m)) in
        let all : length nodes ≤ length (map node_of known) = length-le_from_is_member laws nodes (map node_of known) (IsDistinct-from_AllPairs tells nodes once)
        (λ n listed. list_any-from_Contains laws n (map node_of known) (known_item known each n (Contains-from_any (tells_apart nodes_exact) n nodes listed))) in
        omega (arith, all, length-map known node_of, ap length same)

    -- nor more items than are unknown or found
    spread_le : (unknown out : List (List ℕ)) → AreAscendingItems out → ((i : List ℕ) → Contains out i → Contains unknown i ⊎ HasItem s.events list i) → length out ≤ length unknown + length list
    spread_le unknown out ascending parts =
        let item_of : Node → List ℕ = λ n. unwrap_or (slice_get (numbered s.events) n.item) [] in
        let laws = eq_by_cmp_equiv nat_list_cmp_total in
        let all : length out ≤ length (unknown ++ map item_of list) = length-le_from_is_member laws out (unknown ++ map item_of list) (IsDistinct-from_sorted (slice_cmp nat_cmp) out ascending)
        (λ i there. list_any-from_Contains laws i (unknown ++ map item_of list) (⊎_elim
        (λ new. Contains-append_left unknown (map item_of list) i new)
        (λ (n, at, is). Contains-append_right unknown (map item_of list) i (subst (Contains (map item_of list)) (ap (λ o. unwrap_or o []) is) (contains-map item_of list n at)))
        (parts i (Contains-from_any (tells_apart exact_bytes) i out there)))) in
        omega (arith, all, length-append unknown (map item_of list), length-map list item_of)

    -- each transformation was seen that one of the found items goes into
    out_seen : (unknown out : List (List ℕ)) (seen : BTreeSet Group) → ((i : List ℕ) → Contains unknown i → number_in (numbered s.events) i ≡ None) → ((i : List ℕ) → Contains out i → Contains unknown i ⊎ HasItem s.events list i)
        → ((n : Node) → Contains list n → (p : Pair) → Stands (s ∷ []) n p → HasSeenFrom s seen p) → (i : List ℕ) (e : Content) → Contains out i → Contains s.events e → takes_item i e ≡ true → HasSeenTakers 0 s.events seen i
    out_seen unknown out seen unnamed parts followed i e there among takes = ⊎_elim
        (λ new. absurd (taken_known i e among takes (unnamed i new)))
        (λ (n, at, is).
        let found = subst (λ ns. Contains ns n) same at in
        let (q, stands) = stand n found in
        let (j, given, reaches) = from_given n q found stands in
        subst (HasSeenTakers 0 s.events seen) (some_is q.item i (sym (its_item n q stands) ∙ is)) (followed n at q stands (sym (found_here j q reaches))))
        (parts i there)

    -- the looks of a spread
    pub looks_spread : (unknown found out : List (List ℕ)) (searched looks : ℕ) → ((i : List ℕ) → Contains unknown i → number_in (numbered s.events) i ≡ None) → length out < 2 ^ 64 → AreAscendingItems out
        → ((i : List ℕ) → Contains out i → Contains unknown i ⊎ HasItem s.events list i) → searched ≤ 0 + length list + sum_by (λ e. output_count e.body) s.events
        → LooksAtAll (λ seen n. (p : Pair) → Stands (s ∷ []) n p → HasSeenFrom s seen p) (sum_by (λ e. output_count e.body) s.events) (λ seen. unseen_outputs 0 s.events seen) list 0 searched
        → (searched + length unknown ≤ looks) ⊎ (2 ^ 64 - 1 ≤ looks) → looks ≤ searched + length items → AreLooks s items out looks
    looks_spread unknown found out searched looks unnamed fits ascending parts most all counted given =
        let seen = seen_outputs 0 s.events out all.seen (seen_with_id 0 s.events out all.seen (out_seen unknown out all.seen unnamed parts all.followed)) in
        let enough : min (length out + outputs_from s.events out) (2 ^ 64 - 1) ≤ looks =
        ⊎_elim
        (λ each. ⊎_elim
        (λ searching. omega (arith, spread_le unknown out ascending parts, each, searching, seen))
        (λ past. omega (arith, past, each))
        all.counted)
        (λ past. omega (arith, past))
        counted in
        record {
          least = omega (arith, fits, enough);
          outputs = enough;
          most = λ known each. omega (arith, nodes_le known each, most, given);
        }

  -- the nodes of the first so many items
  module _ (items : List (List ℕ)) (nodes : List Node) (k : ℕ) (i : List ℕ) (below : k < length items) (at : i ≡ get_or items k i) (so_far : (n : Node) → Contains nodes n ↔ IsKnownNode s (take k items) n) where
    pub known_pushed : (nodes' : List Node) (me number : ℕ) → me ≡ s.me → Some number ≡ number_in (numbered s.events) i → nodes' ≡ nodes ++ record { site = 0; item = number; at = me } ∷ [] → (n : Node) → Contains nodes' n ↔ IsKnownNode s (take (k + 1) items) n
    known_pushed nodes' me number own known pushed n =
        let new : Node = record { site = 0; item = number; at = me } in
        let both = contains_pushed nodes new n in (
          λ h. ⊎_elim
              (λ before. let (j, there, is, first, its) = (so_far n).0 before in (j, (contains_more items k i below at j).1 (inl there), is, first, its))
              (λ same. (i, (contains_more items k i below at i).1 (inr refl), sym known ∙ ap (λ (m : Node). Some m.item) same, sym (ap (λ (m : Node). m.site) same), sym (ap (λ (m : Node). m.at) same) ∙ own))
              (both.0 (subst (λ ns. Contains ns n) pushed h)),
          λ (j, there, is, first, its). subst (λ ns. Contains ns n) (sym pushed) (both.1 (⊎_elim
              (λ before. inl ((so_far n).1 (j, before, is, first, its)))
              (λ same.
              let item : number ≡ n.item = some_is number n.item (known ∙ ap (number_in (numbered s.events)) same ∙ is) in
              inr (ap (λ (m : ℕ). record { site = 0; item = m; at = me }) item ∙ ap (λ (m : ℕ). record { site = m; item = n.item; at = me }) (sym first) ∙ ap (λ (m : ℕ). record { site = n.site; item = n.item; at = m }) (own ∙ sym its)))
              ((contains_more items k i below at j).0 there))),
        )

    pub known_passed : None ≡ number_in (numbered s.events) i → (n : Node) → Contains nodes n ↔ IsKnownNode s (take (k + 1) items) n
    known_passed unknown n = (
      λ h. let (j, there, is, first, its) = (so_far n).0 h in (j, (contains_more items k i below at j).1 (inl there), is, first, its),
      λ (j, there, is, first, its). ⊎_elim
          (λ before. (so_far n).1 (j, before, is, first, its))
          (λ same. none_is n.item (unknown ∙ ap (number_in (numbered s.events)) same ∙ is))
          ((contains_more items k i below at j).0 there),
    )

-- those of the first so many items that no event names
module _ (events : List Content) (items found : List (List ℕ)) (k : ℕ) (i : List ℕ) (below : k < length items) (at : i ≡ get_or items k i)
    (so_far : (j : List ℕ) → Contains found j ↔ (Contains (take k items) j × (number_in (numbered events) j ≡ None))) where
  pub unknown_pushed : (found' : List (List ℕ)) (copy : List ℕ) → number_in (numbered events) i ≡ None → copy ≡ i → found' ≡ found ++ copy ∷ [] → (j : List ℕ) → Contains found' j ↔ (Contains (take (k + 1) items) j × (number_in (numbered events) j ≡ None))
  unknown_pushed found' copy unknown same pushed j =
      let both = contains_pushed found copy j in
      let more = contains_more items k i below at j in (
        λ h. ⊎_elim
            (λ before. let (there, none) = (so_far j).0 before in (more.1 (inl there), none))
            (λ is. (more.1 (inr (sym same ∙ is)), subst (λ l. number_in (numbered events) l ≡ None) (sym same ∙ is) unknown))
            (both.0 (subst (λ ns. Contains ns j) pushed h)),
        λ (there, none). subst (λ ns. Contains ns j) (sym pushed) (both.1 (⊎_elim (λ before. inl ((so_far j).1 (before, none))) (λ is. inr (same ∙ is)) (more.0 there))),
      )

  pub unknown_passed : (number_in (numbered events) i ≡ None → ⊥) → (j : List ℕ) → Contains found j ↔ (Contains (take (k + 1) items) j × (number_in (numbered events) j ≡ None))
  unknown_passed known j =
      let more = contains_more items k i below at j in (
        λ h. let (there, none) = (so_far j).0 h in (more.1 (inl there), none),
        λ (there, none). ⊎_elim (λ before. (so_far j).1 (before, none)) (λ is. absurd (known (subst (λ l. number_in (numbered events) l ≡ None) (sym is) none))) (more.0 there),
      )

-- one look more for one item more
pub look_counted : (begun looks looks' n n' : ℕ) → (begun + n ≤ looks) ⊎ (2 ^ 64 - 1 ≤ looks) → looks' ≡ one_look looks → n' ≡ n + 1 → (begun + n' ≤ looks') ⊎ (2 ^ 64 - 1 ≤ looks')
look_counted begun looks looks' n n' so_far is more = ⊎_elim
    (λ one. ⊎_elim (λ all. inl (omega (arith, all, is, one, more))) (λ past. inr (omega (arith, past, is, one))) so_far)
    (λ (same, past). inr (omega (arith, is, same, past)))
    (one_look_cases looks)

pub look_within : (begun looks looks' k : ℕ) → looks ≤ begun + k → looks' ≡ one_look looks → looks' ≤ begun + (k + 1)
look_within begun looks looks' k so_far is = ⊎_elim (λ one. omega (arith, so_far, is, one)) (λ (same, past). omega (arith, so_far, is, same)) (one_look_cases looks)
