-- How looks add up.
use Rattle.std.proofs.Common.{◌≡◌, ◌<◌, ◌≤◌, ◌+◌, ◌-◌, ◌^◌, ◌||◌, ◌&&◌, ℕ, Bool, true, false, cond, nat_lt, eqb, Option, Some, None, List, [], ◌∷◌, map, filter, take, length, get_or, slice_get, sum_by, refl, sym, ap, ◌∙◌, subst, inl, inr, ⊎_elim, arith}
use mathlib.Core.Bool.{false≢true}
use mathlib.Core.Logic.{◌⊎◌}
use Rattle.std.specs.BTreeMap.{is_at}
use Rattle.std.specs.BTreeSet.{BTreeSet, contains}
use Rattle.std.specs.List.{enumerate_from, list_any, Contains}
use Rattle.std.proofs.lemmas.Bool.{cases_Bool, cases_eq, cases_lt, cond-true, cond-false, eqb-true, eq-eqb, or_cases, and_parts}
use Rattle.std.proofs.lemmas.List.{take_all, take_more}
use Rattle.std.proofs.lemmas.List.FromFn.{length-enumerate_from, get_or-enumerate_from}
use Rattle.std.proofs.lemmas.List.Sums.{sum_by-cons, sum_by_push, sum_by-take-le, get_or-le-sum_by}
use Rattle.std.proofs.lemmas.Option.{slice_get-get_or, slice_get_cases}
use Rattle.event_json.specs.Events.{Content}
use Rattle.event_json.specs.declared.bodies.Body.{Body}
use Rattle.trace_core.specs.declared.groups.Group.{Group}
use Rattle.trace_core.specs.Gathering.{joins}
use Rattle.trace_core.specs.Groups.{group_cmp, IsSeen, Sees, HasSeenTakers, outputs_at, parts_of, or_place, first_of, group_outputs, unseen_outputs, LooksAtUnseen}
use Rattle.trace_core.specs.Looks.{one_look, LooksAtMost, LooksAtEach}
use Rattle.trace_core.specs.Pairs.{make_id}
use Rattle.trace_core.specs.PairTests.{same_id, takes_in}
use Rattle.trace_core.specs.Places.{places_where, takes_item}
use Rattle.trace_core.specs.Spreads.{output_count, takes_some, outputs_from}
use Rattle.trace_core.proofs.GroupSteps.{first_among}
use Rattle.trace_core.proofs.Members.{contains_here, contains_there, list_any_witness}
use Rattle.trace_core.proofs.NumberLists.{some_is}
use Rattle.trace_core.proofs.PairTestsDecide.{same_id_decides}
use Rattle.trace_core.proofs.PlaceLists.{place_there, place_passes, places_none, no_id}
use Rattle.trace_core.proofs.RelatedPlaces.{slice_there, ins_listed}

-- it grows by one, or stays at the end
pub one_look_cases : (n : ℕ) → (one_look n ≡ n + 1) ⊎ ((one_look n ≡ n) × (2 ^ 64 - 1 ≤ n))
one_look_cases n = ⊎_elim
    (λ yes. inl (cond-true (nat_lt n (2 ^ 64 - 1)) (n + 1) n yes))
    (λ no. inr (cond-false (nat_lt n (2 ^ 64 - 1)) (n + 1) n no, grind (arith, no)))
    (cases_Bool (nat_lt n (2 ^ 64 - 1)))

-- one look more
pub one_look_more : (more looks cur next : ℕ) → LooksAtMost more looks cur → next ≡ one_look cur → LooksAtMost (more + 1) looks next
one_look_more more looks cur next so_far is = ⊎_elim
    (λ one. record { least = omega (arith, is, one, so_far.least); most = omega (arith, is, one, so_far.most) })
    (λ (same, past). record { least = omega (arith, is, same, so_far.least); most = omega (arith, is, same, so_far.most) })
    (one_look_cases cur)

module _ {X : Type 0} (f : X → ℕ) (xs : List X) where
  -- one element more
  pub looks_more : (n : ℕ) (x : X) (looks cur next : ℕ) → n < length xs → x ≡ get_or xs n x → LooksAtEach (sum_by f (take n xs)) looks cur → LooksAtEach (f x) cur next → LooksAtEach (sum_by f (take (n + 1) xs)) looks next
  looks_more n x looks cur next below at so_far now =
      let more : sum_by f (take (n + 1) xs) ≡ sum_by f (take n xs) + f x = ap (sum_by f) (take_more xs n x below) ∙ sum_by_push f (take n xs) (get_or xs n x) ∙ ap (λ y. sum_by f (take n xs) + f y) (sym at) in
      record {
        least = omega (arith, so_far.least, now.least);
        most = omega (arith, more, so_far.most, now.most);
        all = omega (arith, more, so_far.all, now.all);
      }

  -- all elements
  pub looks_of_each : (n looks cur : ℕ) → length xs ≤ n → LooksAtEach (sum_by f (take n xs)) looks cur → LooksAtEach (sum_by f xs) looks cur
  looks_of_each n looks cur past = subst (λ (ys : List X). LooksAtEach (sum_by f ys) looks cur) (take_all n xs past)

  pub looks_of_all : (n looks cur : ℕ) → LooksAtMost (sum_by f (take n xs)) looks cur → LooksAtMost (sum_by f xs) looks cur
  looks_of_all n looks cur so_far = record { least = so_far.least; most = omega (arith, so_far.most, sum_by-take-le f xs n) }

module _ {X : Type 0} where
  -- two sums together
  sum_both : (f g : X → ℕ) (xs : List X) → sum_by f xs + sum_by g xs ≡ sum_by (λ x. f x + g x) xs
  sum_both f g [] = omega arith
  sum_both f g (x ∷ xs) = omega (arith, sum_both f g xs, sum_by-cons f x xs, sum_by-cons g x xs, sum_by-cons (λ y. f y + g y) x xs)

  -- a sum within another, by the elements that are there
  sum_within : (f g : X → ℕ) (xs : List X) → ((x : X) → Contains xs x → f x ≤ g x) → sum_by f xs ≤ sum_by g xs
  sum_within f g [] within = omega arith
  sum_within f g (x ∷ xs) within = omega (arith, within x (contains_here x xs), sum_within f g xs (λ y there. within y (contains_there x y xs there)), sum_by-cons f x xs, sum_by-cons g x xs)

  sum_same : (f g : X → ℕ) (xs : List X) → ((x : X) → Contains xs x → f x ≡ g x) → sum_by f xs ≡ sum_by g xs
  sum_same f g xs same = omega (arith, sum_within f g xs (λ x there. omega (arith, same x there)), sum_within g f xs (λ x there. omega (arith, same x there)))

  sum_nothing : (f : X → ℕ) (xs : List X) → ((x : X) → Contains xs x → f x ≡ 0) → sum_by f xs ≡ 0
  sum_nothing f [] none = refl
  sum_nothing f (x ∷ xs) none = omega (arith, none x (contains_here x xs), sum_nothing f xs (λ y there. none y (contains_there x y xs there)), sum_by-cons f x xs)

  -- the sum at the places of those that pass
  sum_passing : (q : ℕ × X → Bool) (f : ℕ → ℕ) (g : ℕ × X → ℕ) (those : List (ℕ × X)) → ((a : ℕ × X) → Contains those a → q a ≡ true → f a.0 ≡ g a) → ((a : ℕ × X) → Contains those a → q a ≡ false → g a ≡ 0)
      → sum_by f (map (λ (a : ℕ × X). a.0) (filter q those)) ≡ sum_by g those
  sum_passing q f g [] are none = refl
  sum_passing q f g (a ∷ rest) are none =
      let so_far = sum_passing q f g rest (λ b h passes. are b (contains_there a b rest h) passes) (λ b h fails. none b (contains_there a b rest h) fails) in
      ⊎_elim
      (λ yes.
      let is : sum_by f (map (λ (a : ℕ × X). a.0) (filter q (a ∷ rest))) ≡ sum_by f (a.0 ∷ map (λ (a : ℕ × X). a.0) (filter q rest)) = ap (λ xs. sum_by f (map (λ (a : ℕ × X). a.0) xs)) (cond-true (q a) (a ∷ filter q rest) (filter q rest) yes) in
      omega (arith, so_far, is, are a (contains_here a rest) yes, sum_by-cons f a.0 (map (λ (a : ℕ × X). a.0) (filter q rest)), sum_by-cons g a rest))
      (λ no.
      let is : sum_by f (map (λ (a : ℕ × X). a.0) (filter q (a ∷ rest))) ≡ sum_by f (map (λ (a : ℕ × X). a.0) (filter q rest)) = ap (λ xs. sum_by f (map (λ (a : ℕ × X). a.0) xs)) (cond-false (q a) (a ∷ filter q rest) (filter q rest) no) in
      omega (arith, so_far, is, none a (contains_here a rest) no, sum_by-cons g a rest))
      (cases_Bool (q a))

  -- a sum that knows no places
  sum_placed : (g : X → ℕ) (n : ℕ) (xs : List X) → sum_by (λ (a : ℕ × X). g a.1) (enumerate_from n xs) ≡ sum_by g xs
  sum_placed g n [] = refl
  sum_placed g n (x ∷ xs) = sum_by-cons (λ (a : ℕ × X). g a.1) (n, x) (enumerate_from (n + 1) xs) ∙ ap (λ m. g x + m) (sum_placed g (n + 1) xs) ∙ sym (sum_by-cons g x xs)

  -- each one stands at its place
  placed_from : (n : ℕ) (xs : List X) (a : ℕ × X) → Contains (enumerate_from n xs) a → (j : ℕ) × (n + j ≡ a.0) × (slice_get xs j ≡ Some a.1)
  placed_from n xs a (j, lt, at) =
      let below : j < length xs = omega (arith, lt, length-enumerate_from n xs) in
      let same : (n + j, get_or xs j a.1) ≡ a = sym (get_or-enumerate_from n xs j a below) ∙ at in
      (j, ap (λ (b : ℕ × X). b.0) same, slice_get-get_or xs j a.1 below ∙ ap Some (ap (λ (b : ℕ × X). b.1) same))

  placed : (xs : List X) (a : ℕ × X) → Contains (enumerate_from 0 xs) a → slice_get xs a.0 ≡ Some a.1
  placed xs a there =
      let (j, place, stands) = placed_from 0 xs a there in
      let same : j ≡ a.0 = omega (arith, place) in
      ap (slice_get xs) (sym same) ∙ stands

module _ {X : Type 0} where
  -- a sum to which one place alone adds
  sum_at : (g : ℕ × X → ℕ) (k most n : ℕ) (xs : List X) → ((a : ℕ × X) → Contains (enumerate_from n xs) a → a.0 ≡ k → g a ≤ most) → ((a : ℕ × X) → Contains (enumerate_from n xs) a → (a.0 ≡ k → ⊥) → g a ≡ 0)
      → sum_by g (enumerate_from n xs) ≤ most
  sum_at g k most n [] here none = omega arith
  sum_at g k most n (x ∷ xs) here none =
      let rest = enumerate_from (n + 1) xs in
      let own = contains_here (n, x) rest in
      ⊎_elim
      (λ same.
      let nothing = sum_nothing g rest (λ a h. none a (contains_there (n, x) a rest h) (λ at. let (j, place, stands) = placed_from (n + 1) xs a h in absurd (omega (arith, place, at, same)))) in
      omega (arith, here (n, x) own same, nothing, sum_by-cons g (n, x) rest))
      (λ apart.
      let so_far = sum_at g k most (n + 1) xs (λ a h. here a (contains_there (n, x) a rest h)) (λ a h. none a (contains_there (n, x) a rest h)) in
      omega (arith, none (n, x) own apart, so_far, sum_by-cons g (n, x) rest))
      (cases_eq n k)

absent : (o : Option ℕ) (x : ℕ) → o ≡ None → o ≡ Some x → ⊥
absent o x none some = cc

-- a list with an element has a first one
first_there : (places : List ℕ) (k : ℕ) → Contains places k → (first : ℕ) × (slice_get places 0 ≡ Some first)
first_there places k (j, below, at) = ⊎_elim
    (λ (first, lt, is, there). (first, is))
    (λ (past, none). absurd (omega (arith, below, past)))
    (slice_get_cases places 0).1

some_of : (b : Bool) (n : ℕ) → cond b n 0 ≤ n
some_of true n = omega arith
some_of false n = omega arith

module _ (events : List Content) where
  -- the first part has the same id, and where there is none it is the event itself
  pub first_stands : (k : ℕ) (e : Content) → slice_get events k ≡ Some e → (f : Content) × (slice_get events (first_of events k e.body) ≡ Some f) × (make_id f.body ≡ make_id e.body)
  first_stands k e stands = at (slice_get (parts_of events e.body) 0) refl
    where
      at : (o : Option ℕ) → slice_get (parts_of events e.body) 0 ≡ o → (f : Content) × (slice_get events (or_place k o) ≡ Some f) × (make_id f.body ≡ make_id e.body)
      at None none = (e, stands, refl)
      at (Some first) some =
          let (f, below, here, same) = place_passes (λ (g : Content). same_id (make_id g.body) (make_id e.body)) events first (first_among (parts_of events e.body) first (sym some)) in
          let (id, own, other) = (same_id_decides (make_id f.body) (make_id e.body)).0 same in
          (f, slice_get-get_or events first f below ∙ ap Some here, own ∙ sym other)

  pub first_alone : (k : ℕ) (b : Body) → make_id b ≡ None → first_of events k b ≡ k
  first_alone k b none =
      ap (λ (o : Option (List ℕ)). or_place k (slice_get (places_where (λ (f : Content). same_id (make_id f.body) o) events) 0)) none
      ∙ ap (λ (ps : List ℕ). or_place k (slice_get ps 0)) (places_none (λ (f : Content). same_id (make_id f.body) None) events (λ f. no_id (make_id f.body)))

  -- parts of one id have one first part
  pub one_first : (j k : ℕ) (f e : Content) → slice_get events k ≡ Some e → same_id (make_id f.body) (make_id e.body) ≡ true → first_of events j f.body ≡ first_of events k e.body
  one_first j k f e stands same =
      let (below, at) = slice_there events k e stands in
      let (id, own, other) = (same_id_decides (make_id f.body) (make_id e.body)).0 same in
      let parts : parts_of events f.body ≡ parts_of events e.body = ap (λ o. places_where (λ (g : Content). same_id (make_id g.body) o) events) (own ∙ sym other) in
      let itself = (same_id_decides (make_id e.body) (make_id e.body)).1 (id, other, other) in
      let (first, has) = first_there (parts_of events e.body) k (place_there (λ (g : Content). same_id (make_id g.body) (make_id e.body)) events k e below at itself) in
      ap (λ (ps : List ℕ). or_place j (slice_get ps 0)) parts ∙ ap (or_place j) has ∙ sym (ap (or_place k) has)

  -- the outputs at the places of all parts
  pub parts_outputs : (b : Body) (id : List ℕ) (places : List ℕ) → make_id b ≡ Some id → places ≡ parts_of events b → sum_by (λ k. outputs_at (slice_get events k)) places ≡ group_outputs events b (make_id b)
  parts_outputs b id places has are = ap (sum_by (λ k. outputs_at (slice_get events k))) are ∙ ap (group_outputs events b) (sym has)

module _ (site : ℕ) (events : List Content) where
  pub looks_none : (seen : BTreeSet Group) (looks : ℕ) → LooksAtUnseen site events seen seen looks looks
  looks_none seen looks = record { least = omega arith; most = omega arith; all = inl (omega arith) }

  pub looks_both : (a b c : BTreeSet Group) (x y z : ℕ) → LooksAtUnseen site events a b x y → LooksAtUnseen site events b c y z → LooksAtUnseen site events a c x z
  looks_both a b c x y z one two = record {
    least = omega (arith, one.least, two.least);
    most = omega (arith, one.most, two.most);
    all = ⊎_elim
        (λ first. ⊎_elim (λ second. inl (omega (arith, first, second))) (λ past. inr past) two.all)
        (λ past. inr (omega (arith, past, two.least)))
        one.all;
  }

  -- an item is taken, and then outputs are looked at
  module _ (seen seen' : BTreeSet Group) (looks looks' : ℕ) (looked : LooksAtUnseen site events seen seen' (one_look looks) looks') where
    pub taken_least : looks ≤ looks'
    taken_least = ⊎_elim (λ one. omega (arith, one, looked.least)) (λ (same, past). omega (arith, same, looked.least)) (one_look_cases looks)

    pub taken_most : looks' + unseen_outputs site events seen' ≤ looks + 1 + unseen_outputs site events seen
    taken_most = ⊎_elim (λ one. omega (arith, one, looked.most)) (λ (same, past). omega (arith, same, looked.most)) (one_look_cases looks)

    pub taken_all : (looks + 1 + unseen_outputs site events seen ≤ looks' + unseen_outputs site events seen') ⊎ (2 ^ 64 - 1 ≤ looks')
    taken_all = ⊎_elim
        (λ one. ⊎_elim (λ each. inl (omega (arith, one, each))) (λ past. inr past) looked.all)
        (λ (same, past). inr (omega (arith, same, past, looked.least)))
        (one_look_cases looks)

  -- what is left to look at, at one place
  abbrev left_at : BTreeSet Group → ℕ × Content → ℕ
  left_at seen a = cond (contains group_cmp seen (record { site = site; first = first_of events a.0 a.1.body })) 0 (output_count a.1.body)

  -- before anything is looked at
  pub all_unseen : (seen : BTreeSet Group) → seen.keys ≡ [] → unseen_outputs site events seen ≡ sum_by (λ e. output_count e.body) events
  unfolding unseen_outputs
  all_unseen seen empty =
      sum_same (left_at seen) (λ (a : ℕ × Content). output_count a.1.body) (enumerate_from 0 events) (λ a there. cond-false _ 0 (output_count a.1.body) (away (record { site = site; first = first_of events a.0 a.1.body })))
      ∙ sum_placed (λ (e : Content). output_count e.body) 0 events
    where
      away : (g : Group) → contains group_cmp seen g ≡ false
      away g = ap (λ (ks : List Group). list_any (is_at (group_cmp g)) ks) empty

  -- those that one of the items goes into were seen: their outputs aren't left
  pub seen_outputs : (items : List (List ℕ)) (seen : BTreeSet Group) → ((k : ℕ) (e : Content) → slice_get events k ≡ Some e → takes_some events items e.body ≡ true → IsSeen seen site (first_of events k e.body))
      → outputs_from events items + unseen_outputs site events seen ≤ sum_by (λ e. output_count e.body) events
  unfolding unseen_outputs
  seen_outputs items seen all =
      let of : ℕ × Content → ℕ = λ a. cond (takes_some events items a.1.body) (output_count a.1.body) 0 in
      omega (
        arith,
        sum_placed (λ (e : Content). cond (takes_some events items e.body) (output_count e.body) 0) 0 events,
        sum_both of (left_at seen) (enumerate_from 0 events),
        sum_within (λ a. of a + left_at seen a) (λ (a : ℕ × Content). output_count a.1.body) (enumerate_from 0 events) (λ a there. apart a (placed events a there)),
        sum_placed (λ (e : Content). output_count e.body) 0 events,
      )
    where
      apart : (a : ℕ × Content) → slice_get events a.0 ≡ Some a.1 → cond (takes_some events items a.1.body) (output_count a.1.body) 0 + left_at seen a ≤ output_count a.1.body
      apart a stands = ⊎_elim
          (λ yes. omega (arith, cond-true (takes_some events items a.1.body) (output_count a.1.body) 0 yes, cond-true _ 0 (output_count a.1.body) (all a.0 a.1 stands yes)))
          (λ no. omega (arith, cond-false (takes_some events items a.1.body) (output_count a.1.body) 0 no, rest_of (contains group_cmp seen (record { site = site; first = first_of events a.0 a.1.body })) (output_count a.1.body)))
          (cases_Bool (takes_some events items a.1.body))
        where
          rest_of : (b : Bool) (n : ℕ) → cond b 0 n ≤ n
          rest_of true n = omega arith
          rest_of false n = omega arith

  -- where each one was seen that takes an item in, so was each that an item goes into
  pub seen_with_id : (items : List (List ℕ)) (seen : BTreeSet Group) → ((i : List ℕ) (e : Content) → Contains items i → Contains events e → takes_item i e ≡ true → HasSeenTakers site events seen i)
      → (k : ℕ) (e : Content) → slice_get events k ≡ Some e → takes_some events items e.body ≡ true → IsSeen seen site (first_of events k e.body)
  seen_with_id items seen each k e stands takes =
      let (i, given, into) = list_any_witness (λ (i : List ℕ). takes_in i e.body || joins events i e.body) items takes in
      let (below, at) = slice_there events k e stands in
      ⊎_elim
      (λ own. let passes : takes_item i e ≡ true = ins_listed i e.body ∙ own in each i e given (k, below, at) passes k e stands passes)
      (λ joined.
      let (f, (j, lt, there), both) = list_any_witness (λ (f : Content). takes_in i f.body && same_id (make_id f.body) (make_id e.body)) events joined in
      let (its, same) = and_parts (takes_in i f.body) (same_id (make_id f.body) (make_id e.body)) both in
      let passes : takes_item i f ≡ true = ins_listed i f.body ∙ its in
      subst (λ n. IsSeen seen site n) (one_first events j k f e stands same) (each i f given (j, lt, there) passes j f (slice_get-get_or events j f lt ∙ ap Some there) passes))
      (or_cases (takes_in i e.body) (joins events i e.body) into)

  module _ (first : ℕ) (seen seen' : BTreeSet Group) (upd : Sees seen seen' (record { site = site; first = first })) (new : contains group_cmp seen (record { site = site; first = first }) ≡ false) where
    -- the outputs of the transformation that is seen now, at one place
    abbrev mine : ℕ × Content → ℕ
    mine a = cond (eqb (first_of events a.0 a.1.body) first) (output_count a.1.body) 0

    same_left : (a : ℕ × Content) → mine a + left_at seen' a ≡ left_at seen a
    same_left a =
        let at = first_of events a.0 a.1.body in
        let n = output_count a.1.body in
        let still = upd (record { site = site; first = at }) in
        ⊎_elim
        (λ yes.
        let same : first ≡ at = sym (eqb-true at first yes) in
        let now = still.1 (inr (ap (λ m. record { site = site; first = m }) same)) in
        let before : contains group_cmp seen (record { site = site; first = at }) ≡ false = subst (λ m. contains group_cmp seen (record { site = site; first = m }) ≡ false) same new in
        omega (arith, cond-true (eqb at first) n 0 yes, cond-true (contains group_cmp seen' (record { site = site; first = at })) 0 n now, cond-false (contains group_cmp seen (record { site = site; first = at })) 0 n before))
        (λ no. ⊎_elim
        (λ there. omega (arith, cond-false (eqb at first) n 0 no, cond-true (contains group_cmp seen' (record { site = site; first = at })) 0 n (still.1 (inl there)), cond-true (contains group_cmp seen (record { site = site; first = at })) 0 n there))
        (λ away. ⊎_elim
        (λ now. ⊎_elim
        (λ there. absurd (false≢true (sym away ∙ there)))
        (λ same. absurd (false≢true (sym no ∙ eq-eqb at first (sym (ap (λ (g : Group). g.first) same)))))
        (still.0 now))
        (λ nor. omega (arith, cond-false (eqb at first) n 0 no, cond-false (contains group_cmp seen' (record { site = site; first = at })) 0 n nor, cond-false (contains group_cmp seen (record { site = site; first = at })) 0 n away))
        (cases_Bool (contains group_cmp seen' (record { site = site; first = at }))))
        (cases_Bool (contains group_cmp seen (record { site = site; first = at }))))
        (cases_Bool (eqb at first))

    all_left : sum_by mine (enumerate_from 0 events) + sum_by (left_at seen') (enumerate_from 0 events) ≡ sum_by (left_at seen) (enumerate_from 0 events)
    all_left = sum_both mine (left_at seen') (enumerate_from 0 events) ∙ sum_same (λ a. mine a + left_at seen' a) (left_at seen) (enumerate_from 0 events) (λ a there. same_left a)

    module _ (k : ℕ) (e : Content) (stands : slice_get events k ≡ Some e) (is_first : first ≡ first_of events k e.body) where
      -- an event of this transformation has its id, if there is one
      its_id : (a : ℕ × Content) → Contains (enumerate_from 0 events) a → eqb (first_of events a.0 a.1.body) first ≡ true → make_id a.1.body ≡ make_id e.body
      its_id a there here =
          let (f, at, own) = first_stands events a.0 a.1 (placed events a there) in
          let (g, at', other) = first_stands events k e stands in
          let one : f ≡ g = some_is f g (sym at ∙ ap (slice_get events) (eqb-true (first_of events a.0 a.1.body) first here ∙ is_first) ∙ at') in
          sym own ∙ ap (λ (h : Content). make_id h.body) one ∙ other

      -- its own outputs
      own_left : make_id e.body ≡ None → output_count e.body ≡ sum_by mine (enumerate_from 0 events)
      own_left none =
          let (below, at) = slice_there events k e stands in
          let zero_plus : 0 + k ≡ k = omega arith in
          let is : get_or (enumerate_from 0 events) k (k, e) ≡ (k, e) = get_or-enumerate_from 0 events k (k, e) below ∙ ap (λ n. (n, get_or events k e)) zero_plus ∙ ap (λ y. (k, y)) at in
          let it : mine (get_or (enumerate_from 0 events) k (k, e)) ≡ output_count e.body = ap mine is ∙ cond-true (eqb (first_of events k e.body) first) (output_count e.body) 0 (eq-eqb (first_of events k e.body) first (sym is_first)) in
          let most = sum_at mine k (output_count e.body) 0 events
          (λ a there here.
          let same : a.1 ≡ e = some_is a.1 e (sym (placed events a there) ∙ ap (slice_get events) here ∙ stands) in
          omega (arith, some_of (eqb (first_of events a.0 a.1.body) first) (output_count a.1.body), ap (λ (f : Content). output_count f.body) same))
          (λ a there apart. cond-false (eqb (first_of events a.0 a.1.body) first) (output_count a.1.body) 0 (⊎_elim
          (λ yes. absurd (apart (sym (first_alone events a.0 a.1.body (its_id a there yes ∙ none)) ∙ eqb-true (first_of events a.0 a.1.body) first yes ∙ is_first ∙ first_alone events k e.body none)))
          (λ no. no)
          (cases_Bool (eqb (first_of events a.0 a.1.body) first)))) in
          omega (arith, it, most, get_or-le-sum_by mine (enumerate_from 0 events) k (k, e) (omega (arith, below, length-enumerate_from 0 events)))

      -- those of all its parts
      parts_left : (id : List ℕ) → make_id e.body ≡ Some id → sum_by (λ j. outputs_at (slice_get events j)) (parts_of events e.body) ≡ sum_by mine (enumerate_from 0 events)
      parts_left id has = sum_passing (λ (a : ℕ × Content). same_id (make_id a.1.body) (make_id e.body)) (λ j. outputs_at (slice_get events j)) mine (enumerate_from 0 events)
          (λ a there same.
          ap outputs_at (placed events a there)
          ∙ sym (cond-true (eqb (first_of events a.0 a.1.body) first) (output_count a.1.body) 0 (eq-eqb (first_of events a.0 a.1.body) first (one_first events a.0 k a.1 e stands same ∙ sym is_first))))
          (λ a there other. cond-false (eqb (first_of events a.0 a.1.body) first) (output_count a.1.body) 0 (⊎_elim
          (λ yes. absurd (false≢true (sym other ∙ (same_id_decides (make_id a.1.body) (make_id e.body)).1 (id, its_id a there yes ∙ has, has))))
          (λ no. no)
          (cases_Bool (eqb (first_of events a.0 a.1.body) first))))

      group_left : (o : Option (List ℕ)) → make_id e.body ≡ o → group_outputs events e.body o ≡ sum_by mine (enumerate_from 0 events)
      group_left None none = own_left none
      group_left (Some id) has = parts_left id has

      -- a transformation that wasn't seen is looked at
      pub group_looked : (looks looks' : ℕ) → LooksAtEach (group_outputs events e.body (make_id e.body)) looks looks' → LooksAtUnseen site events seen seen' looks looks'
      unfolding unseen_outputs
      group_looked looks looks' looked =
          let own = group_left (make_id e.body) refl in
          record {
            least = looked.least;
            most = omega (arith, looked.most, own, all_left);
            all = ⊎_elim
                (λ counted. inl (omega (arith, looked.all, counted, own, all_left)))
                (λ past. inr (omega (arith, looked.all, past)))
                (cases_lt (looks + group_outputs events e.body (make_id e.body)) (2 ^ 64));
          }

  -- a transformation that was seen isn't looked at again
  pub group_passed : (first : ℕ) (seen seen' : BTreeSet Group) (looks : ℕ) → Sees seen seen' (record { site = site; first = first }) → IsSeen seen site first → LooksAtUnseen site events seen seen' looks looks
  unfolding unseen_outputs
  group_passed first seen seen' looks upd there =
      let same = sum_same (left_at seen') (left_at seen) (enumerate_from 0 events) (λ a h. ap (λ (b : Bool). cond b 0 (output_count a.1.body)) (as_before (record { site = site; first = first_of events a.0 a.1.body }))) in
      record { least = omega arith; most = omega (arith, same); all = inl (omega (arith, same)) }
    where
      as_before : (g : Group) → contains group_cmp seen' g ≡ contains group_cmp seen g
      as_before g =
          let still = upd g in
          ⊎_elim
          (λ before. still.1 (inl before) ∙ sym before)
          (λ away. ⊎_elim
          (λ now. ⊎_elim
          (λ before. now ∙ sym before)
          (λ same. now ∙ sym (subst (λ (h : Group). contains group_cmp seen h ≡ true) same there))
          (still.0 now))
          (λ nor. nor ∙ sym away)
          (cases_Bool (contains group_cmp seen' g)))
          (cases_Bool (contains group_cmp seen g))
