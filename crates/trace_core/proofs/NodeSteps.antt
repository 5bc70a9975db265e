-- What a search has found: all that is reached, and nothing else.
use Rattle.std.proofs.Common.{◌≡◌, ◌≢◌, ◌<◌, ◌≤◌, ◌+◌, ◌-◌, ◌^◌, ◌==◌, ℕ, Bool, true, false, not, cond, map, filter, List, [], ◌∷◌, ◌++◌, length, take, get_or, ◌↔◌, sym, ap, ◌∙◌, subst, inl, inr, ⊎_elim, arith, append-nil, append_assoc, length-append}
use mathlib.Core.Logic.{◌⊎◌}
use Rattle.std.specs.BTreeMap.{BTreeMap}
use Rattle.std.specs.BTreeSet.{BTreeSet}
use Rattle.std.specs.List.{Contains, flat_map}
use Rattle.std.proofs.lemmas.Grind.{flat_map-append}
use Rattle.std.proofs.lemmas.List.{take_all, take-append-le, take_more, map-append, get_or_default}
use Rattle.std.proofs.lemmas.List.Quantifiers.{all_pairs_push}
use Rattle.std.proofs.lemmas.List.Elements.{Contains-append_left, Contains-append_right, Contains-append_cases, filter-append}
use Rattle.trace_core.specs.declared.groups.Group.{Group}
use Rattle.trace_core.specs.declared.nodes.Batch.{Batch}
use Rattle.trace_core.specs.declared.nodes.Node.{Node}
use Rattle.trace_core.specs.declared.pairs.Pair.{Pair}
use Rattle.trace_core.specs.Found.{IsInBatch}
use Rattle.trace_core.specs.Groups.{AddsUnseen}
use Rattle.trace_core.specs.SiteSets.{has_site, sites_below, sites_in}
use Rattle.trace_core.specs.Nodes.{Had, AreOnce, NotesNodes, destinations, Gains, ReachedFromNodes}
use Rattle.trace_core.specs.Searches.{LooksAtAll}
use Rattle.trace_core.proofs.ChainLaws.{reaches_itself, reaches_step, reached_holds}
use Rattle.trace_core.proofs.GroupSteps.{HasMore, adds_none}
use Rattle.trace_core.proofs.Members.{contains_none, contains_cases}
use Rattle.trace_core.proofs.SetMembers.{contains_more, contains_pushed}
use Rattle.trace_core.proofs.SiteSetSteps.{one_below, none_below, no_sites}

only_one : (x y : Node) → Contains (x ∷ []) y → x ≡ y
only_one x y h = ⊎_elim (λ e. e) (λ none. absurd (contains_none y none)) (contains_cases x y [] h)

pub no_nodes : (nodes : List Node) → NotesNodes nodes nodes []
no_nodes nodes = record { more = []; appended = sym (append-nil nodes); only = λ n h. h; all = λ n h. absurd (contains_none n h); once = λ h. h }

-- the node is there already
pub known_node : (nodes : List Node) (node : Node) → Contains nodes node → NotesNodes nodes nodes (node ∷ [])
known_node nodes node there = record {
  more = [];
  appended = sym (append-nil nodes);
  only = λ n h. absurd (contains_none n h);
  all = λ n h. subst (Contains nodes) (only_one node n h) there;
  once = λ h. h;
}

pub new_node : (old new : List Node) (node : Node) → (Contains old node → ⊥) → new ≡ old ++ node ∷ [] → NotesNodes old new (node ∷ [])
new_node old new node missing pushed = record {
  more = node ∷ [];
  appended = pushed;
  only = λ n h. h;
  all = λ n h. subst (λ ns. Contains ns n) (sym pushed) (Contains-append_right old (node ∷ []) n h);
  once = λ once. subst AreOnce (sym pushed) (all_pairs_push (λ (m n : Node). m ≢ n) old node once (λ k d below is. missing (k, below, get_or_default old k node d below ∙ is)));
}

pub node_stays : (old new nodes : List Node) → NotesNodes old new nodes → (n : Node) → Contains old n → Contains new n
node_stays old new nodes noted n h = subst (λ ns. Contains ns n) (sym noted.appended) (Contains-append_left old noted.more n h)

pub noted_from : (old new nodes : List Node) → NotesNodes old new nodes → (n : Node) → Contains new n → Contains old n ⊎ Contains nodes n
noted_from old new nodes noted n h = ⊎_elim (λ before. inl before) (λ more. inr (noted.only n more)) (Contains-append_cases old noted.more n (subst (λ ns. Contains ns n) noted.appended h))

pub more_nodes : (a b c xs ys : List Node) → NotesNodes a b xs → NotesNodes b c ys → NotesNodes a c (xs ++ ys)
more_nodes a b c xs ys one two = record {
  more = one.more ++ two.more;
  appended = two.appended ∙ ap (λ zs. zs ++ two.more) one.appended ∙ append_assoc a one.more two.more;
  only = λ n h. ⊎_elim (λ first. Contains-append_left xs ys n (one.only n first)) (λ second. Contains-append_right xs ys n (two.only n second)) (Contains-append_cases one.more two.more n h);
  all = λ n h. ⊎_elim (λ first. node_stays b c ys two n (one.all n first)) (λ second. two.all n second) (Contains-append_cases xs ys n h);
  once = λ h. two.once (one.once h);
}

-- marks of nodes go with a list
module _ (old new : BTreeMap Batch (List ℕ)) (list : List Node) (node : Node) (are : (m : Node) → IsInBatch old m ↔ Contains list m) where
  pub list_kept : (held : List Node) → held ≡ list → ((m : Node) → IsInBatch new m ↔ IsInBatch old m) → (m : Node) → IsInBatch new m ↔ Contains held m
  list_kept held is same m = (
    λ h. subst (λ ns. Contains ns m) (sym is) ((are m).0 ((same m).0 h)),
    λ h. (same m).1 ((are m).1 (subst (λ ns. Contains ns m) is h)),
  )

  module _ (held : List Node) (is : held ≡ list) (marked : (m : Node) → IsInBatch new m ↔ (IsInBatch old m ⊎ (node ≡ m))) where
    -- the node is new
    pub list_pushed : (list' : List Node) → list' ≡ held ++ node ∷ [] → (m : Node) → IsInBatch new m ↔ Contains list' m
    list_pushed list' pushed m =
        let both = contains_pushed list node m in
        let all : list' ≡ list ++ node ∷ [] = pushed ∙ ap (λ ns. ns ++ node ∷ []) is in (
          λ h. subst (λ ns. Contains ns m) (sym all) (both.1 (⊎_elim (λ before. inl ((are m).0 before)) (λ same. inr same) ((marked m).0 h))),
          λ h. (marked m).1 (⊎_elim (λ before. inl ((are m).1 before)) (λ same. inr same) (both.0 (subst (λ ns. Contains ns m) all h))),
        )

    -- it was there
    pub list_had : IsInBatch old node → (m : Node) → IsInBatch new m ↔ Contains held m
    list_had there = list_kept held is (λ m. (λ h. ⊎_elim (λ before. before) (λ same. subst (IsInBatch old) same there) ((marked m).0 h), λ h. (marked m).1 (inl h)))

  pub node_known : (held : List Node) → held ≡ list → IsInBatch old node → NotesNodes list held (node ∷ [])
  node_known held is there = subst (λ ns. NotesNodes list ns (node ∷ [])) (sym is) (known_node list node ((are node).0 there))

  pub node_fresh : (held list' : List Node) → held ≡ list → list' ≡ held ++ node ∷ [] → (IsInBatch old node → ⊥) → NotesNodes list list' (node ∷ [])
  node_fresh held list' is pushed missing = new_node list list' node (λ h. missing ((are node).1 h)) (pushed ∙ ap (λ ns. ns ++ node ∷ []) is)

pub same_nodes : (a b : List Node) (xs ys : List Node) → xs ≡ ys → NotesNodes a b xs → NotesNodes a b ys
same_nodes a b xs ys same = subst (NotesNodes a b) same

-- one node more of a list
pub one_node : (a b c : List Node) (nodes : List Node) (n : ℕ) (x : Node) → n < length nodes → x ≡ get_or nodes n x → NotesNodes a b (take n nodes) → NotesNodes b c (x ∷ []) → NotesNodes a c (take (n + 1) nodes)
one_node a b c nodes n x below at so_far now =
    same_nodes a c (take n nodes ++ x ∷ []) (take (n + 1) nodes) (sym (take_more nodes n x below ∙ ap (λ z. take n nodes ++ z ∷ []) (sym at))) (more_nodes a b c (take n nodes) (x ∷ []) so_far now)

-- those of the pairs that p passes are what the nodes stand for
abbrev pub StandFor : (Node → Pair → Type 0) → List Node → (Pair → Bool) → Type 0
StandFor S nodes p = (q : Pair) → ((n : Node) × Contains nodes n × S n q) ↔ (p q ≡ true)

module _ (S : Node → Pair → Type 0) where
  -- nodes that are noted stand for some pairs more
  pub had_more : (old new : List Node) (nodes : List Node) (p : Pair → Bool) → NotesNodes old new nodes → StandFor S nodes p → HasMore (Had S old) (Had S new) p
  had_more old new nodes p noted are q = (
    λ (n, found, stands). ⊎_elim
        (λ before. inl (n, before, stands))
        (λ there. inr ((are q).0 (n, there, stands)))
        (noted_from old new nodes noted n found),
    λ h. ⊎_elim
        (λ (n, before, stands). (n, node_stays old new nodes noted n before, stands))
        (λ passes. let (n, there, stands) = (are q).1 passes in (n, noted.all n there, stands))
        h,
  )

  module _ (G : BTreeSet Group → Pair → Type 0) where
    pub gains_none : (P : Pair → Type 0) (seen : BTreeSet Group) (nodes : List Node) → ((q : Pair) → P q → ⊥) → Gains S G P seen seen nodes nodes
    gains_none P seen nodes none = record {
      nodes = [];
      noted = no_nodes nodes;
      stand = λ n h. absurd (contains_none n h);
      added = adds_none G P seen (Had S nodes) none;
    }

    -- the same nodes, said in another way
    pub gains_retold : (H : BTreeSet Group → Pair → Type 0) (P Q : Pair → Type 0) (a b : BTreeSet Group) (x y : List Node) → (AddsUnseen G P a b (Had S x) (Had S y) → AddsUnseen H Q a b (Had S x) (Had S y)) → Gains S G P a b x y → Gains S H Q a b x y
    gains_retold H P Q a b x y retold one = record {
      nodes = one.nodes;
      noted = one.noted;
      stand = one.stand;
      added = retold one.added;
    }

module _ (S : Node → Pair → Type 0) (R : Pair → Pair → Type 0) (G H : BTreeSet Group → Pair → Type 0) (starts : List Node) where
  -- what holds of a search that has visited the nodes before a place
  pub record Searching (seen : BTreeSet Group) (nodes : List Node) (place : ℕ) : Type 0 where
    pub once : AreOnce nodes
    pub starts_found : (n : Node) → Contains starts n → Contains nodes n
    pub stand : (n : Node) → Contains nodes n → (q : Pair) × S n q
    pub sound : (q : Pair) → Had S nodes q → ReachedFromNodes S R starts q
    pub followed : (n : Node) (p q : Pair) → Contains (take place nodes) n → S n p → R p q → Had S nodes q
    pub given : (q : Pair) → G seen q → Had S nodes q
    pub has_seen : (n : Node) → Contains (take place nodes) n → (p : Pair) → S n p → H seen p
    pub within : place ≤ length nodes

  -- the starts are noted
  pub search_begins : (seen : BTreeSet Group) (none nodes : List Node) → none ≡ [] → ((q : Pair) → G seen q → ⊥) → ((n : Node) → Contains starts n → (q : Pair) × S n q) → NotesNodes none nodes starts → Searching seen nodes 0
  search_begins seen none nodes empty nothing stand noted =
      let new : (n : Node) → Contains nodes n → Contains starts n = λ n h. ⊎_elim (λ before. absurd (contains_none n (subst (λ (xs : List Node). Contains xs n) empty before))) (λ new. new) (noted_from none nodes starts noted n h) in
      record {
        once = noted.once (subst AreOnce (sym empty) (λ i j d lt below. absurd (omega (arith, below))));
        starts_found = noted.all;
        stand = λ n h. stand n (new n h);
        sound = λ q (n, found, stands). (n, q, new n found, stands, reaches_itself R q);
        followed = λ n p q h stands r. absurd (contains_none n h);
        given = λ q h. absurd (nothing q h);
        has_seen = λ n h p stands. absurd (contains_none n h);
        within = omega arith;
      }

  -- a node is visited
  pub search_goes_on : (seen seen' : BTreeSet Group) (nodes nodes' : List Node) (place : ℕ) (node : Node) → place < length nodes → node ≡ get_or nodes place node → Searching seen nodes place → ((p : Pair) → S node p → Gains S G (R p) seen seen' nodes nodes')
      → ((p : Pair) → S node p → H seen' p) → ((p : Pair) → H seen p → H seen' p) → Searching seen' nodes' (place + 1)
  search_goes_on seen seen' nodes nodes' place node below at so_far visited now stays =
      let here : Contains nodes node = (place, below, sym at) in
      let (p, stands) = so_far.stand node here in
      let gains = visited p stands in
      let front : take (place + 1) nodes' ≡ take (place + 1) nodes = ap (take (place + 1)) gains.noted.appended ∙ take-append-le (place + 1) nodes gains.noted.more (omega (arith, below)) in
      let taken : (n : Node) → Contains (take (place + 1) nodes') n → Contains (take place nodes) n ⊎ (node ≡ n) = λ n h. (contains_more nodes place node below at n).0 (subst (λ xs. Contains xs n) front h) in
      record {
        once = gains.noted.once so_far.once;
        starts_found = λ n h. node_stays nodes nodes' gains.nodes gains.noted n (so_far.starts_found n h);
        stand = λ n h. ⊎_elim (λ before. so_far.stand n before) (λ new. gains.stand n new) (noted_from nodes nodes' gains.nodes gains.noted n h);
        sound = λ q h. ⊎_elim
            (λ before. so_far.sound q before)
            (λ r. let (m, s, start, stood, reaches) = so_far.sound p (node, here, stands) in (m, s, start, stood, reaches_step R s p q reaches r))
            (gains.added.sound q h);
        followed = λ n p' q h stood r. ⊎_elim
            (λ before. gains.added.stay q (so_far.followed n p' q before stood r))
            (λ same.
            let own = visited p' (subst (λ m. S m p') (sym same) stood) in
            ⊎_elim (λ there. there) (λ given. gains.added.stay q (so_far.given q given)) (own.added.complete q r))
            (taken n h);
        given = λ q h. ⊎_elim (λ before. gains.added.stay q (so_far.given q before)) (λ there. there) (gains.added.given q h);
        has_seen = λ n h p' stood. ⊎_elim
            (λ before. stays p' (so_far.has_seen n before p' stood))
            (λ same. now p' (subst (λ m. S m p') (sym same) stood))
            (taken n h);
        within = omega (arith, below, ap length gains.noted.appended, length-append nodes gains.noted.more);
      }

  -- once all nodes are visited
  pub search_ends : (seen : BTreeSet Group) (nodes : List Node) (place : ℕ) → length nodes ≤ place → Searching seen nodes place → (q : Pair) → Had S nodes q ↔ ReachedFromNodes S R starts q
  search_ends seen nodes place past so_far q =
      let closed : (y z : Pair) → Had S nodes y → R y z → Had S nodes z = λ y z (n, found, stands) r. so_far.followed n y z (subst (λ xs. Contains xs n) (sym (take_all place nodes past)) found) stands r in
      (so_far.sound q, λ (n, p, start, stands, reaches). reached_holds R (Had S nodes) closed p q reaches (n, so_far.starts_found n start, stands))

-- where looks are told, they are the nodes before a place and the outputs that aren't left, where the count didn't end
pub record CountsLooks (Bounded : Type 0) (outputs unseen begun looks place : ℕ) : Type 0 where
  pub most : Bounded → looks + unseen ≤ begun + place + outputs
  pub all : Bounded → (begun + place + outputs ≤ looks + unseen) ⊎ (2 ^ 64 - 1 ≤ looks)

module _ (Bounded : Type 0) (outputs begun : ℕ) where
  pub counts_begin : (unseen : ℕ) → (Bounded → unseen ≡ outputs) → CountsLooks Bounded outputs unseen begun begun 0
  counts_begin unseen as_many = record { most = λ b. omega (arith, as_many b); all = λ b. inl (omega (arith, as_many b)) }

  pub counts_go_on : (unseen unseen' looks looks' place : ℕ) → CountsLooks Bounded outputs unseen begun looks place → looks ≤ looks' → (Bounded → looks' + unseen' ≤ looks + 1 + unseen) → (Bounded → (looks + 1 + unseen ≤ looks' + unseen') ⊎ (2 ^ 64 - 1 ≤ looks'))
      → CountsLooks Bounded outputs unseen' begun looks' (place + 1)
  counts_go_on unseen unseen' looks looks' place so_far more fewer all = record {
    most = λ b. omega (arith, so_far.most b, fewer b);
    all = λ b. ⊎_elim
        (λ now. ⊎_elim (λ before. inl (omega (arith, before, now))) (λ past. inr (omega (arith, past, more))) (so_far.all b))
        (λ past. inr past)
        (all b);
  }

-- once all nodes are visited
pub looks_at_all : (S : Node → Pair → Type 0) (R : Pair → Pair → Type 0) (G H : BTreeSet Group → Pair → Type 0) (starts : List Node) (Bounded : Type 0) (outputs : ℕ) (unseen : BTreeSet Group → ℕ) (seen : BTreeSet Group) (nodes : List Node) (begun looks place : ℕ)
    → length nodes ≤ place → Searching S R G H starts seen nodes place → CountsLooks Bounded outputs (unseen seen) begun looks place → Bounded → LooksAtAll (λ seen n. (p : Pair) → S n p → H seen p) outputs unseen nodes begun looks
looks_at_all S R G H starts Bounded outputs unseen seen nodes begun looks place past so_far counts bounded = record {
  seen = seen;
  followed = λ n there. so_far.has_seen n (subst (λ xs. Contains xs n) (sym (take_all place nodes past)) there);
  counted = ⊎_elim (λ counted. inl (omega (arith, past, counted))) (λ ended. inr ended) (counts.all bounded);
}

-- nodes made of the elements of a list, one more
pub one_mapped : {X : Type 0} (a b c : List Node) (f : X → Node) (xs : List X) (n : ℕ) (x : X) → n < length xs → x ≡ get_or xs n x → NotesNodes a b (map f (take n xs)) → NotesNodes b c (f x ∷ []) → NotesNodes a c (map f (take (n + 1) xs))
one_mapped a b c f xs n x below at so_far now =
    same_nodes a c (map f (take n xs) ++ f x ∷ []) (map f (take (n + 1) xs)) (sym (ap (map f) (take_more xs n x below ∙ ap (λ z. take n xs ++ z ∷ []) (sym at)) ∙ map-append f (take n xs) (x ∷ []))) (more_nodes a b c (map f (take n xs)) (f x ∷ []) so_far now)

-- all of them
pub each_mapped : {X : Type 0} (a b : List Node) (f : X → Node) (xs : List X) (n : ℕ) → length xs ≤ n → NotesNodes a b (map f (take n xs)) → NotesNodes a b (map f xs)
each_mapped a b f xs n past = same_nodes a b (map f (take n xs)) (map f xs) (ap (map f) (take_all n xs past))

-- those of several elements, one more
pub one_part : {X : Type 0} (a b c : List Node) (f : X → List Node) (xs : List X) (n : ℕ) (x : X) → n < length xs → x ≡ get_or xs n x → NotesNodes a b (flat_map f (take n xs)) → NotesNodes b c (f x) → NotesNodes a c (flat_map f (take (n + 1) xs))
one_part a b c f xs n x below at so_far now =
    same_nodes a c (flat_map f (take n xs) ++ f x) (flat_map f (take (n + 1) xs))
    (sym (ap (flat_map f) (take_more xs n x below ∙ ap (λ z. take n xs ++ z ∷ []) (sym at)) ∙ flat_map-append f (take n xs) (x ∷ []) ∙ ap (λ ys. flat_map f (take n xs) ++ ys) (append-nil (f x))))
    (more_nodes a b c (flat_map f (take n xs)) (f x) so_far now)

-- an item at the sites of a set, number by number
module _ (a b : List Node) (me site item mask n : ℕ) where
  with_site : (is : Bool) → has_site mask n ≡ is → destinations me site item (sites_below (n + 1) mask) ≡ destinations me site item (sites_below n mask) ++ destinations me site item (cond is (n ∷ []) [])
  with_site is has =
      let to : ℕ → Node = λ t. record { site = site; item = item; at = t } in
      let other : ℕ → Bool = λ t. not (t == me) in
      ap (λ ts. map to (filter other ts)) (one_below n mask ∙ ap (λ b. sites_below n mask ++ cond b (n ∷ []) []) has)
      ∙ ap (map to) (filter-append other (sites_below n mask) (cond is (n ∷ []) [])) ∙ map-append to (filter other (sites_below n mask)) (filter other (cond is (n ∷ []) []))

  -- it is there
  pub one_destination : (c : List Node) (t : ℕ) → has_site mask n ≡ true → t ≡ n → NotesNodes a b (destinations me site item (sites_below n mask)) → NotesNodes b c (destinations me site item (t ∷ [])) → NotesNodes a c (destinations me site item (sites_below (n + 1) mask))
  one_destination c t has is so_far now =
      same_nodes a c (destinations me site item (sites_below n mask) ++ destinations me site item (n ∷ [])) (destinations me site item (sites_below (n + 1) mask)) (sym (with_site true has))
      (more_nodes a b c (destinations me site item (sites_below n mask)) (destinations me site item (n ∷ [])) so_far (subst (λ (k : ℕ). NotesNodes b c (destinations me site item (k ∷ []))) is now))

  -- it isn't
  pub no_destination : has_site mask n ≡ false → NotesNodes a b (destinations me site item (sites_below n mask)) → NotesNodes a b (destinations me site item (sites_below (n + 1) mask))
  no_destination has so_far =
      same_nodes a b (destinations me site item (sites_below n mask)) (destinations me site item (sites_below (n + 1) mask))
      (sym (with_site false has ∙ append-nil (destinations me site item (sites_below n mask)))) so_far

-- nothing is in it
pub nowhere : (nodes : List Node) (me site item mask : ℕ) → ((t : ℕ) → has_site mask t ≡ false) → NotesNodes nodes nodes (destinations me site item (sites_in mask))
nowhere nodes me site item mask none = same_nodes nodes nodes [] (destinations me site item (sites_in mask)) (ap (destinations me site item) (sym (no_sites 16 mask none))) (no_nodes nodes)

pub no_destinations : (nodes : List Node) (me site item mask : ℕ) → NotesNodes nodes nodes (destinations me site item (sites_below 0 mask))
no_destinations nodes me site item mask = same_nodes nodes nodes [] (destinations me site item (sites_below 0 mask)) (ap (destinations me site item) (sym (none_below mask))) (no_nodes nodes)

pub each_part : {X : Type 0} (a b : List Node) (f : X → List Node) (xs : List X) (n : ℕ) → length xs ≤ n → NotesNodes a b (flat_map f (take n xs)) → NotesNodes a b (flat_map f xs)
each_part a b f xs n past = same_nodes a b (flat_map f (take n xs)) (flat_map f xs) (ap (flat_map f) (take_all n xs past))
