-- What several sites relate a node's pair to, and what is reached from a pair.
use Rattle.std.proofs.Common.{◌≡◌, ◌<◌, ◌≤◌, ◌+◌, ℕ, true, List, [], ◌∷◌, ◌++◌, Option, None, Some, length, slice_get, ◌↔◌, refl, sym, ap, ◌∙◌, subst, inl, inr, ⊎_elim, arith}
use mathlib.Core.Bool.{false≢true}
use Rattle.std.specs.BTreeSet.{BTreeSet}
use Rattle.std.specs.List.{Contains}
use Rattle.std.proofs.lemmas.Bool.{cases_eq, cases_lt}
use Rattle.std.proofs.lemmas.List.Elements.{Contains-append_cases}
use Rattle.std.proofs.lemmas.Option.{slice_get-get_or, slice_get_within, slice_get_cases}
use Rattle.event_json.specs.Events.{Content}
use Rattle.trace_core.specs.declared.groups.Group.{Group}
use Rattle.trace_core.specs.declared.nodes.Node.{Node}
use Rattle.trace_core.specs.declared.pairs.Pair.{Pair}
use Rattle.trace_core.specs.Chains.{Related, RelatesFrom}
use Rattle.trace_core.specs.Groups.{IsGiven, IsGivenBy, SeesOnly, IsSought}
use Rattle.trace_core.specs.Nodes.{Stands, Had, Gains}
use Rattle.trace_core.specs.Numbers.{number_in, numbered}
use Rattle.trace_core.specs.Pairs.{IsRelated}
use Rattle.trace_core.specs.Places.{names_item}
use Rattle.trace_core.specs.Searches.{AreUnseen}
use Rattle.trace_core.specs.Sites.{SiteEvents}
use Rattle.trace_core.specs.Spreads.{items_of}
use Rattle.trace_core.proofs.GroupSteps.{adds_same}
use Rattle.trace_core.proofs.Members.{contains_none, contains_cases, list_any_member}
use Rattle.trace_core.proofs.NodeSteps.{more_nodes, gains_none, gains_retold}
use Rattle.trace_core.proofs.NumberLists.{some_is, none_is, number_stands, unnumbered, numbered_named, numbered_apart}
use Rattle.trace_core.proofs.PairTestsDecide.{lists_decides}
use Rattle.trace_core.proofs.RelatedPlaces.{related_named}
use Rattle.trace_core.proofs.SetMembers.{contains_pushed}
use Rattle.trace_core.proofs.Visiting.{BySites, one_site, all_sites_added, none_given_by}

-- an item that no event names is related to nothing
pub unrelated : (s : SiteEvents) (i : List ℕ) → number_in (numbered s.events) i ≡ None → (q : Pair) → IsRelated s i q → ⊥
unrelated s i unknown q h =
    let (k, e, lt, at, named) = related_named s i q h in
    false≢true (sym (unnumbered (numbered s.events) i unknown) ∙ numbered_named s.events i ∙ list_any_member (names_item i) s.events e (k, lt, at) ((lists_decides (items_of e.body) i).1 named))

module _ (sites : List SiteEvents) where
  -- a node stands for one pair
  pub one_stands : (n : Node) (p q : Pair) → Stands sites n p → Stands sites n q → p ≡ q
  one_stands n p q (s, at, item, place) (t, at', item', place') =
      let same : s ≡ t = some_is s t (sym at ∙ at') in
      let its : p.item ≡ q.item = some_is p.item q.item (sym item ∙ ap (λ (u : SiteEvents). slice_get (numbered u.events) n.item) same ∙ item') in
      ap (λ (m : ℕ). record { site = m; item = p.item }) (place ∙ sym place') ∙ ap (λ (i : List ℕ). record { site = q.site; item = i }) its

  -- its item has its number there
  pub number_of_node : (n : Node) (p : Pair) (s : SiteEvents) → Stands sites n p → slice_get sites n.site ≡ Some s → Some n.item ≡ number_in (numbered s.events) p.item
  number_of_node n p s (t, at, item, place) here =
      let same : t ≡ s = some_is t s (sym at ∙ here) in
      sym (numbered_apart s.events n.item p.item (ap (λ (u : SiteEvents). slice_get (numbered u.events) n.item) (sym same) ∙ item))

  pub site_of_node : (n : Node) (p : Pair) → Stands sites n p → p.site ≡ n.at
  site_of_node n p (t, at, item, place) = place

  -- what one of the sites relates a pair to
  module _ (number : ℕ) (s t : SiteEvents) (at_s : slice_get sites number ≡ Some s) (at_t : slice_get sites number ≡ Some t) (here : ℕ) (p : Pair) (its : p.site ≡ here) where
    it : s ≡ t
    it = some_is s t (sym at_s ∙ at_t)

    pub site_gains : (item : ℕ) (a b : BTreeSet Group) (x y : List Node) → s.me ≡ here → Some item ≡ number_in (numbered t.events) p.item
        → ((all : List SiteEvents) (i : List ℕ) → slice_get all number ≡ Some s → slice_get (numbered s.events) item ≡ Some i → Gains (Stands all) (λ groups q. IsGiven s number groups q) (λ q. IsSought true s i q) a b x y)
        → Gains (Stands sites) (IsGiven t number) (RelatesFrom t p) a b x y
    site_gains item a b x y own known gained = subst (λ (u : SiteEvents). Gains (Stands sites) (IsGiven u number) (RelatesFrom u p) a b x y) it
        (gains_retold (Stands sites) (λ groups q. IsGiven s number groups q) (IsGiven s number) (λ q. IsSought true s p.item q) (RelatesFrom s p) a b x y
        (adds_same (IsGiven s number) (λ q. IsSought true s p.item q) (RelatesFrom s p) a b (Had (Stands sites) x) (Had (Stands sites) y) (λ q. (λ h. (own ∙ sym its, h), λ h. h.1)))
        (gained sites p.item at_s (number_stands (numbered s.events) p.item item (ap (λ (u : SiteEvents). number_in (numbered u.events) p.item) it ∙ sym known))))

    pub unknown_gains : (a : BTreeSet Group) (x : List Node) → None ≡ number_in (numbered t.events) p.item → Gains (Stands sites) (IsGiven t number) (RelatesFrom t p) a a x x
    unknown_gains a x unknown = gains_none (Stands sites) (IsGiven t number) (RelatesFrom t p) a x (λ q h. unrelated t p.item (sym unknown) q h.1)

    pub elsewhere_gains : (a : BTreeSet Group) (x : List Node) → (s.me ≡ here → ⊥) → Gains (Stands sites) (IsGiven t number) (RelatesFrom t p) a a x x
    elsewhere_gains a x apart = gains_none (Stands sites) (IsGiven t number) (RelatesFrom t p) a x (λ q h. apart (ap (λ (u : SiteEvents). u.me) it ∙ h.0 ∙ its))

  -- one site stands at a number
  pub same_gains : (number : ℕ) (s t : SiteEvents) (p : Pair) (a b : BTreeSet Group) (x y : List Node) → slice_get sites number ≡ Some s → slice_get sites number ≡ Some t
      → Gains (Stands sites) (IsGiven s number) (RelatesFrom s p) a b x y → Gains (Stands sites) (IsGiven t number) (RelatesFrom t p) a b x y
  same_gains number s t p a b x y at at' gained = subst (λ (u : SiteEvents). Gains (Stands sites) (IsGiven u number) (RelatesFrom u p) a b x y) (some_is s t (sym at ∙ at')) gained

  -- the pairs that are gained
  pub targets_gained : (R : Pair → Type 0) (seen seen' : BTreeSet Group) (none nodes : List Node) (pairs targets : List Pair) → none ≡ [] → Gains (Stands sites) (IsGivenBy sites) R seen seen' none nodes
      → ((p : Pair) → Contains pairs p ↔ Had (Stands sites) nodes p) → ((p : Pair) → Contains targets p ↔ Contains pairs p) → AreUnseen R (IsGivenBy sites) seen seen' targets
  targets_gained R seen seen' none nodes pairs targets empty gained are same = record {
    sound = λ q h. ⊎_elim (λ (n, there, stands). absurd (contains_none n (subst (λ ns. Contains ns n) empty there))) (λ r. r) (gained.added.sound q ((are q).0 ((same q).0 h)));
    complete = λ q r. ⊎_elim (λ had. inl ((same q).1 ((are q).1 had))) (λ before. inr before) (gained.added.complete q r);
    given = λ q h. ⊎_elim (λ before. inl before) (λ had. inr ((same q).1 ((are q).1 had))) (gained.added.given q h);
  }

  -- one site more
  pub sites_gain : (n : ℕ) (s : SiteEvents) (p : Pair) (a b c : BTreeSet Group) (x y z : List Node) → slice_get sites n ≡ Some s → Gains (Stands sites) (IsGivenBy sites) (BySites sites p n) a b x y
      → Gains (Stands sites) (IsGiven s n) (RelatesFrom s p) b c y z → SeesOnly n b c → Gains (Stands sites) (IsGivenBy sites) (BySites sites p (n + 1)) a c x z
  sites_gain n s p a b c x y z at one two sees = record {
    nodes = one.nodes ++ two.nodes;
    noted = more_nodes x y z one.nodes two.nodes one.noted two.noted;
    stand = λ m h. ⊎_elim (one.stand m) (two.stand m) (Contains-append_cases one.nodes two.nodes m h);
    added = one_site sites p n s a b c (Had (Stands sites) x) (Had (Stands sites) y) (Had (Stands sites) z) at one.added two.added sees;
  }

  pub no_site_gains : (p : Pair) (a : BTreeSet Group) (x : List Node) → Gains (Stands sites) (IsGivenBy sites) (BySites sites p 0) a a x x
  no_site_gains p a x = gains_none (Stands sites) (IsGivenBy sites) (BySites sites p 0) a x (λ q (k, s, below, at, related). omega (arith, below))

  pub all_sites_gain : (n : ℕ) (p : Pair) (a b : BTreeSet Group) (x y : List Node) → length sites ≤ n → Gains (Stands sites) (IsGivenBy sites) (BySites sites p n) a b x y → Gains (Stands sites) (IsGivenBy sites) (Related sites p) a b x y
  all_sites_gain n p a b x y past = gains_retold (Stands sites) (IsGivenBy sites) (IsGivenBy sites) (BySites sites p n) (Related sites p) a b x y (all_sites_added sites p n a b (Had (Stands sites) x) (Had (Stands sites) y) past)

  module _ (root : Pair) where
    -- the nodes of the first so many sites
    abbrev pub NodesSoFar : List Node → ℕ → Type 0
    NodesSoFar nodes k = (n : Node) → Contains nodes n ↔ (Stands sites n root × (n.site < k))

    pub node_pushed : (nodes nodes' : List Node) (k item : ℕ) (s : SiteEvents) → slice_get sites k ≡ Some s → Some item ≡ number_in (numbered s.events) root.item → nodes' ≡ nodes ++ record { site = k; item = item; at = root.site } ∷ [] → NodesSoFar nodes k → NodesSoFar nodes' (k + 1)
    node_pushed nodes nodes' k item s at known pushed so_far n =
        let new : Node = record { site = k; item = item; at = root.site } in
        let both = contains_pushed nodes new n in (
          λ h. ⊎_elim
              (λ before. let (stands, below) = (so_far n).0 before in (stands, omega (arith, below)))
              (λ same. (subst (λ m. Stands sites m root) same (s, at, number_stands (numbered s.events) root.item item (sym known), refl), omega (arith, ap (λ (m : Node). m.site) same)))
              (both.0 (subst (λ ns. Contains ns n) pushed h)),
          λ (stands, below). subst (λ ns. Contains ns n) (sym pushed) (both.1 (⊎_elim
              (λ here.
              let number : item ≡ n.item = some_is item n.item (known ∙ sym (number_of_node n root s stands (ap (slice_get sites) here ∙ at))) in
              inr (ap (λ (m : ℕ). record { site = m; item = item; at = root.site }) (sym here) ∙ ap (λ (m : ℕ). record { site = n.site; item = m; at = root.site }) number
              ∙ ap (λ (m : ℕ). record { site = n.site; item = n.item; at = m }) (site_of_node n root stands)))
              (λ other. inl ((so_far n).1 (stands, earlier n.site below other)))
              (cases_eq n.site k))),
        )
      where
        earlier : (j : ℕ) → j < k + 1 → (j ≡ k → ⊥) → j < k
        earlier j below other = ⊎_elim (λ lt. lt) (λ past. absurd (other (omega (arith, below, past)))) (cases_lt j k)

    pub node_passed : (nodes : List Node) (k : ℕ) (s : SiteEvents) → slice_get sites k ≡ Some s → None ≡ number_in (numbered s.events) root.item → NodesSoFar nodes k → NodesSoFar nodes (k + 1)
    node_passed nodes k s at unknown so_far n = (
      λ h. let (stands, below) = (so_far n).0 h in (stands, omega (arith, below)),
      λ (stands, below). ⊎_elim
          (λ here. none_is n.item (unknown ∙ sym (number_of_node n root s stands (ap (slice_get sites) here ∙ at))))
          (λ other. (so_far n).1 (stands, earlier n.site below other))
          (cases_eq n.site k),
    )
      where
        earlier : (j : ℕ) → j < k + 1 → (j ≡ k → ⊥) → j < k
        earlier j below other = ⊎_elim (λ lt. lt) (λ past. absurd (other (omega (arith, below, past)))) (cases_lt j k)

    pub nodes_begin : (nodes : List Node) → nodes ≡ [] → NodesSoFar nodes 0
    nodes_begin nodes none n = (λ h. absurd (contains_none n (subst (λ ns. Contains ns n) none h)), λ (stands, below). absurd (omega (arith, below)))

    pub nodes_end : (nodes : List Node) (k : ℕ) → length sites ≤ k → NodesSoFar nodes k → (n : Node) → Contains nodes n ↔ Stands sites n root
    nodes_end nodes k past so_far n = (
      λ h. ((so_far n).0 h).0,
      λ (s, at, item, place). (so_far n).1 ((s, at, item, place), omega (arith, past, slice_get_within sites n.site s at)),
    )

    -- where it is related to anything, it has a node
    pub root_node : (q : Pair) → Related sites root q → (n : Node) × Stands sites n root
    root_node q (k, s, below, at, (own, related)) = numbered_by (number_in (numbered s.events) root.item) refl
      where
        numbered_by : (o : Option ℕ) → number_in (numbered s.events) root.item ≡ o → (n : Node) × Stands sites n root
        numbered_by None unknown = absurd (unrelated s root.item unknown q related)
        numbered_by (Some m) known = (record { site = k; item = m; at = root.site }, (s, slice_get-get_or sites k s below ∙ ap Some at, number_stands (numbered s.events) root.item m known, refl))

pub some_site : (sites : List SiteEvents) (n : ℕ) → n < length sites → (s : SiteEvents) × (slice_get sites n ≡ Some s)
some_site sites n below = ⊎_elim
    (λ (s, lt, is, at). (s, is))
    (λ (past, none). absurd (omega (arith, below, past)))
    (slice_get_cases sites n).1

-- what is said of a site's events is said of the site
pub known_there : (o : Option ℕ) (i : List ℕ) (events : List Content) (s : SiteEvents) → o ≡ number_in (numbered events) i → events ≡ s.events → o ≡ number_in (numbered s.events) i
known_there o i events s is are = is ∙ ap (λ (es : List Content). number_in (numbered es) i) are

pub nothing_left : {X : Type 0} (xs : List X) → length xs ≡ 0 → xs ≡ []
nothing_left [] none = refl
nothing_left (x ∷ xs) none = absurd (omega (arith, none))

-- what a site alone relates an item to, where no transformation was seen before
pub related_alone : (s : SiteEvents) (site : ℕ) (item copy : List ℕ) (seen seen' : BTreeSet Group) (targets : List Pair) → site ≡ s.me → copy ≡ item → seen.keys ≡ []
    → AreUnseen (Related (s ∷ []) (record { site = site; item = copy })) (IsGivenBy (s ∷ [])) seen seen' targets → (q : Pair) → Contains targets q ↔ IsRelated s item q
related_alone s site item copy seen seen' targets own same empty unseen q = (
  λ h. its (unseen.sound q h),
  λ h. ⊎_elim (λ there. there) (λ given. absurd (none_given_by (s ∷ []) seen empty q given))
      (unseen.complete q (0, s, omega arith, refl, (sym own, subst (λ i. IsRelated s i q) (sym same) h))),
)
  where
    its : Related (s ∷ []) (record { site = site; item = copy }) q → IsRelated s item q
    its (k, t, lt, at, (here, related)) = ⊎_elim
        (λ one. subst (λ (u : SiteEvents). IsRelated u item q) (sym one) (subst (λ i. IsRelated t i q) same related))
        (λ none. absurd (contains_none t none))
        (contains_cases s t [] (k, lt, at))
