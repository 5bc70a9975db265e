-- What events put into items, by the numbers of both, with an event more and with one less.
use Rattle.std.proofs.Common.{◌≡◌, ◌==◌, ◌-◌, ◌↔◌, ℕ, true, false, cond, List, [], ◌∷◌, ◌++◌, Option, Some, None, length, take, slice_get, unwrap_or, refl, sym, ap, ◌∙◌, subst, ⊎_elim, arith, append-nil, length-append}
use mathlib.Core.Bool.{false≢true}
use Rattle.std.specs.List.{Contains}
use Rattle.std.proofs.lemmas.Bool.{cases_Bool, cases_eq, cond-true, cond-false, eq-eqb, ne_eqb}
use Rattle.std.proofs.lemmas.Grind.{flat_map-append}
use Rattle.std.proofs.lemmas.List.{map-append, length-map, take_at}
use Rattle.std.proofs.lemmas.List.Elements.{Contains-append_left, Contains-append_right}
use Rattle.event_json.specs.Events.{Content}
use Rattle.event_json.specs.declared.bodies.Action.TheVariants.{Add, Observe, Delete}
use Rattle.event_json.specs.declared.bodies.Body.{Body}
use Rattle.event_json.specs.declared.bodies.Body.TheVariants.{Note, Ship, Make, Pack}
use Rattle.trace_core.specs.Numbers.{AreApart, number_in, numbered, numbers_of, moved_in}
use Rattle.trace_core.specs.Pairs.{Packs, Carries}
use Rattle.trace_core.specs.PairTests.{lists, put_into}
use Rattle.trace_core.specs.Places.{names_item}
use Rattle.trace_core.specs.PutIn.{put_at, cut_at, parent_number, children_of, children_at, HasPacked}
use Rattle.trace_core.specs.Spreads.{items_of, parents}
use Rattle.trace_core.proofs.Members.{contains_here, contains_none, contains_cases, contains-map, contains-flat_map, list_any_member}
use Rattle.trace_core.proofs.NumberLists.{some_is, none_is, listed_number, number_or, number_stands, none_numbered, numbered_named, numbered_apart, numbered_more, numbers_stay, with_more, slice_stays}
use Rattle.trace_core.proofs.PairTestsDecide.{lists_decides, put_is}
use Rattle.trace_core.proofs.SetMembers.{contains-from_map, contains-from_flat_map}

-- ---- what events put into an item

only : (i j : List ℕ) → Contains (i ∷ []) j → i ≡ j
only i j h = ⊎_elim (λ is. is) (λ none. absurd (contains_none j none)) (contains_cases i j [] h)

put_packs : (i : List ℕ) (b : Body) (j : List ℕ) → Contains (put_into (i ∷ []) b) j ↔ Packs i j b
put_packs i b j =
    let both = put_is (i ∷ []) b j in (
      λ h. let (p, in', packs) = both.0 h in subst (λ k. Packs k j b) (sym (only i p in')) packs,
      λ packs. both.1 (i, contains_here i [], packs),
    )

-- the children of an item are what it carries
pub children_carried : (events : List Content) (i j : List ℕ) → Contains (children_of events i) j ↔ Carries events i j
children_carried events i j = (
  λ h. let (e, (k, lt, at), there) = contains-from_flat_map (λ (e : Content). put_into (i ∷ []) e.body) events j h in (k, e, lt, at, (put_packs i e.body j).0 there),
  λ (k, e, lt, at, packs). contains-flat_map (λ (e : Content). put_into (i ∷ []) e.body) events e j (k, lt, at) ((put_packs i e.body j).1 packs),
)

-- both are named
parent_named : (i j : List ℕ) (b : Body) → Packs i j b → Contains (items_of b) i
parent_named i j (Note items) none = absurd none
parent_named i j (Ship items sites outside) none = absurd none
parent_named i j (Make id ins outs) none = absurd none
parent_named i j (Pack action parent children) (add, is, put) = subst (λ p. Contains (parents p ++ children) i) (sym is) (Contains-append_left (i ∷ []) children i (contains_here i []))

child_named : (i j : List ℕ) (b : Body) → Packs i j b → Contains (items_of b) j
child_named i j (Note items) none = absurd none
child_named i j (Ship items sites outside) none = absurd none
child_named i j (Make id ins outs) none = absurd none
child_named i j (Pack action parent children) (add, is, put) = Contains-append_right (parents parent) children j put

event_names : (events : List Content) (e : Content) (i : List ℕ) → Contains events e → Contains (items_of e.body) i
    → lists (numbered events) i ≡ true
event_names events e i there named = numbered_named events i ∙ list_any_member (names_item i) events e there ((lists_decides (items_of e.body) i).1 named)

pub carrier_known : (events : List Content) (i j : List ℕ) → Carries events i j → lists (numbered events) i ≡ true
carrier_known events i j (k, e, lt, at, packs) = event_names events e i (k, lt, at) (parent_named i j e.body packs)

pub carried_known : (events : List Content) (i j : List ℕ) → Carries events i j → lists (numbered events) j ≡ true
carried_known events i j (k, e, lt, at, packs) = event_names events e j (k, lt, at) (child_named i j e.body packs)

-- nothing is put into an item that isn't named
nothing : {X : Type 0} (xs : List X) → ((x : X) → Contains xs x → ⊥) → xs ≡ []
nothing [] none = refl
nothing (x ∷ xs) none = absurd (none x (contains_here x xs))

no_children : (events : List Content) (i : List ℕ) → lists (numbered events) i ≡ false → children_of events i ≡ []
no_children events i unknown = nothing (children_of events i) (λ j h. false≢true (sym unknown ∙ carrier_known events i j ((children_carried events i j).0 h)))

-- ---- one event more

-- what it puts into the item of a number
abbrev told_by : List (List ℕ) → Body → Option (List ℕ) → List ℕ
told_by names b None = []
told_by names b (Some i) = numbers_of names (put_into (i ∷ []) b)

told_more : (names : List (List ℕ)) (events : List Content) (e : Content) (o : Option (List ℕ))
    → children_at names (events ++ e ∷ []) o ≡ children_at names events o ++ told_by names e.body o
told_more names events e None = refl
told_more names events e (Some i) =
    ap (numbers_of names) (flat_map-append (λ (e : Content). put_into (i ∷ []) e.body) events (e ∷ []) ∙ ap (λ ys. children_of events i ++ ys) (append-nil (put_into (i ∷ []) e.body)))
    ∙ map-append (λ j. unwrap_or (number_in names j) 0) (children_of events i) (put_into (i ∷ []) e.body)

-- which is nothing, or these where it is the parent
no_told : (names : List (List ℕ)) (b : Body) → ((i : List ℕ) → put_into (i ∷ []) b ≡ []) → (o : Option (List ℕ))
    → told_by names b o ≡ []
no_told names b none None = refl
no_told names b none (Some i) = ap (numbers_of names) (none i)

one_listed : (i q : List ℕ) → lists (i ∷ []) q ≡ true → i ≡ q
one_listed i q h = only i q ((lists_decides (i ∷ []) q).0 h)

other_listed : (i q : List ℕ) → (i ≡ q → ⊥) → lists (i ∷ []) q ≡ false
other_listed i q other = ⊎_elim (λ is. absurd (other (one_listed i q is))) (λ no. no) (cases_Bool (lists (i ∷ []) q))

add_told : (names : List (List ℕ)) → AreApart names → (q : List ℕ) (children : List (List ℕ)) (m n : ℕ)
    → number_in names q ≡ Some m → (o : Option (List ℕ)) → slice_get names n ≡ o
    → told_by names (Pack Add (Some q) children) o ≡ cond (m == n) (numbers_of names children) []
add_told names apart q children m n number None none =
    sym (cond-false (m == n) (numbers_of names children) [] (ne_eqb m n (λ same. none_is q (sym none ∙ ap (slice_get names) (sym same) ∙ number_stands names q m number))))
add_told names apart q children m n number (Some i) so = ⊎_elim
    (λ here.
    let same : i ≡ q = some_is i q (sym so ∙ ap (slice_get names) (sym here) ∙ number_stands names q m number) in
    ap (numbers_of names) (cond-true (lists (i ∷ []) q) children [] ((lists_decides (i ∷ []) q).1 (subst (Contains (i ∷ [])) same (contains_here i []))))
    ∙ sym (cond-true (m == n) (numbers_of names children) [] (eq-eqb m n here)))
    (λ other.
    ap (numbers_of names) (cond-false (lists (i ∷ []) q) children [] (other_listed i q (λ same. other (some_is m n (sym number ∙ ap (number_in names) (sym same) ∙ apart n i so)))))
    ∙ sym (cond-false (m == n) (numbers_of names children) [] (ne_eqb m n other)))
    (cases_eq m n)

told_put : (names : List (List ℕ)) → AreApart names → (b : Body)
    → ((i : List ℕ) → Contains (items_of b) i → lists names i ≡ true) → (n : ℕ)
    → told_by names b (slice_get names n) ≡ put_at (parent_number names b) (numbers_of names (moved_in b)) n
told_put names apart (Note items) known n = no_told names (Note items) (λ i. refl) (slice_get names n)
told_put names apart (Ship items sites outside) known n = no_told names (Ship items sites outside) (λ i. refl) (slice_get names n)
told_put names apart (Make id ins outs) known n = no_told names (Make id ins outs) (λ i. refl) (slice_get names n)
told_put names apart (Pack Observe parent children) known n = no_told names (Pack Observe parent children) (λ i. refl) (slice_get names n)
told_put names apart (Pack Delete parent children) known n = no_told names (Pack Delete parent children) (λ i. refl) (slice_get names n)
told_put names apart (Pack Add None children) known n = no_told names (Pack Add None children) (λ i. refl) (slice_get names n)
told_put names apart (Pack Add (Some q) children) known n =
    let (m, number) = listed_number names q (known q (Contains-append_left (q ∷ []) children q (contains_here q []))) in
    add_told names apart q children m n number (slice_get names n) refl
    ∙ ap (λ p. put_at p (numbers_of names children) n) (sym number)

module _ (events : List Content) (e : Content) where
  abbrev names : List (List ℕ)
  names = numbered events

  abbrev names' : List (List ℕ)
  names' = numbered (events ++ e ∷ [])

  pub number_kept : (n : ℕ) (i : List ℕ) → slice_get names n ≡ Some i → slice_get names' n ≡ Some i
  number_kept n i so = let (more, is) = with_more (items_of e.body) names in subst (λ ns. slice_get ns n ≡ Some i) (sym (numbered_more events e ∙ is)) (slice_stays names more n i so)

  pub all_known : (i : List ℕ) → Contains (items_of e.body) i → lists names' i ≡ true
  all_known i there = event_names (events ++ e ∷ []) e i (Contains-append_right events (e ∷ []) e (contains_here e [])) there

  same_numbers : (i : List ℕ) → numbers_of names' (children_of events i) ≡ numbers_of names (children_of events i)
  same_numbers i =
      let (more, is) = with_more (items_of e.body) names in
      ap (λ ns. numbers_of ns (children_of events i)) (numbered_more events e ∙ is)
      ∙ numbers_stay names more (children_of events i) (λ j h. carried_known events i j ((children_carried events i j).0 h))

  -- what was put into items stays the same under the numbers of all
  told_same : (n : ℕ) → children_at names events (slice_get names n) ≡ children_at names' events (slice_get names' n)
  told_same n = at (slice_get names n) (slice_get names' n) refl refl
    where
      at : (o o' : Option (List ℕ)) → slice_get names n ≡ o → slice_get names' n ≡ o'
          → children_at names events o ≡ children_at names' events o'
      at None None none none' = refl
      at (Some i) None so none' = none_is i (sym none' ∙ number_kept n i so)
      at (Some i) (Some j) so so' = sym (same_numbers i) ∙ ap (λ k. numbers_of names' (children_of events k)) (some_is i j (sym (number_kept n i so) ∙ so'))
      at None (Some j) none so' = sym (ap (numbers_of names') (no_children events j (⊎_elim
          (λ listed.
          let (m, number) = listed_number names j listed in
          let stands : slice_get names m ≡ Some j = number_stands names j m number in
          let same : m ≡ n = some_is m n (sym (numbered_apart (events ++ e ∷ []) m j (number_kept m j stands)) ∙ numbered_apart (events ++ e ∷ []) n j so') in
          none_is j (sym none ∙ ap (slice_get names) (sym same) ∙ stands))
          (λ no. no)
          (cases_Bool (lists names j)))))

  all_told : (n : ℕ)
      → children_at names' (events ++ e ∷ [])
      (slice_get names' n) ≡ children_at names events (slice_get names n) ++ put_at (parent_number names' e.body)
      (numbers_of names' (moved_in e.body)) n
  all_told n =
      told_more names' events e (slice_get names' n)
      ∙ ap (λ ns. ns ++ told_by names' e.body (slice_get names' n)) (sym (told_same n))
      ∙ ap (λ ns. children_at names events (slice_get names n) ++ ns) (told_put names' (numbered_apart (events ++ e ∷ [])) e.body all_known n)

  -- an event comes
  pub packed_more : (packed packed' : ℕ → List ℕ) (parent : Option ℕ) (numbers : List ℕ)
      → parent ≡ parent_number names' e.body → numbers ≡ numbers_of names' (moved_in e.body)
      → ((n : ℕ) → packed' n ≡ packed n ++ put_at parent numbers n) → HasPacked packed events
      → HasPacked packed' (events ++ e ∷ [])
  packed_more packed packed' parent numbers of is noted has n =
      noted n ∙ ap (λ ns. ns ++ put_at parent numbers n) (has n)
      ∙ ap (λ p. children_at names events (slice_get names n) ++ put_at p numbers n) of
      ∙ ap (λ ns. children_at names events (slice_get names n) ++ put_at (parent_number names' e.body) ns n) is
      ∙ sym (all_told n)

  -- it is taken away
  pub packed_less : (packed packed' : ℕ → List ℕ) (parent : Option ℕ) (count : ℕ)
      → parent ≡ parent_number names' e.body → count ≡ length (moved_in e.body)
      → ((n : ℕ) → packed' n ≡ take (length (packed n) - cut_at parent count n) (packed n))
      → HasPacked packed (events ++ e ∷ []) → HasPacked packed' events
  packed_less packed packed' parent count of is cut has n =
      let all : packed n ≡ children_at names events (slice_get names n) ++ put_at parent (numbers_of names' (moved_in e.body)) n =
      has n ∙ all_told n ∙ ap (λ p. children_at names events (slice_get names n) ++ put_at p (numbers_of names' (moved_in e.body)) n) (sym of) in
      cut n ∙ ap (λ ns. take (length ns - cut_at parent count n) ns) all
      ∙ cut_off (children_at names events (slice_get names n)) (put_at parent (numbers_of names' (moved_in e.body)) n) (cut_at parent count n)
      (count_put parent (numbers_of names' (moved_in e.body)) count (length-map (moved_in e.body) (λ j. unwrap_or (number_in names' j) 0) ∙ sym is) n)
    where
      cut_off : (xs ys : List ℕ) (k : ℕ) → length ys ≡ k → take (length (xs ++ ys) - k) (xs ++ ys) ≡ xs
      cut_off xs ys k long = ap (λ m. take m (xs ++ ys)) (let m : length (xs ++ ys) - k ≡ length xs = omega (arith, length-append xs ys, long) in m) ∙ take_at xs ys (length xs) refl

      count_put : (parent : Option ℕ) (numbers : List ℕ) (count : ℕ) → length numbers ≡ count → (n : ℕ)
          → length (put_at parent numbers n) ≡ cut_at parent count n
      count_put None numbers count long n = refl
      count_put (Some p) numbers count long n = ⊎_elim
          (λ here. ap length (cond-true (p == n) numbers [] here) ∙ long ∙ sym (cond-true (p == n) count 0 here))
          (λ other. ap length (cond-false (p == n) numbers [] other) ∙ sym (cond-false (p == n) count 0 other))
          (cases_Bool (p == n))

  -- it is noted and taken away again
  pub packed_again : (packed packed' : ℕ → List ℕ) → ((n : ℕ) → packed' n ≡ packed n) → HasPacked packed events
      → HasPacked packed' events
  packed_again packed packed' same has n = same n ∙ has n

-- nothing is put into anything before the first event
pub none_packed : (packed : ℕ → List ℕ) → ((n : ℕ) → packed n ≡ []) → HasPacked packed []
none_packed packed none n = none n ∙ sym (ap (λ ns. children_at ns [] (slice_get ns n)) none_numbered ∙ at (slice_get [] n))
  where
    at : (o : Option (List ℕ)) → children_at [] [] o ≡ []
    at None = refl
    at (Some i) = refl

-- ---- what lies in the item of a number

module _ (names : List (List ℕ)) (events : List Content) (known : (i j : List ℕ) → Carries events i j → lists names j ≡ true) (ns : List ℕ) (i : List ℕ) (are : ns ≡ numbers_of names (children_of events i)) where
  -- are the numbers of what it carries
  pub held_carried : (c : ℕ) → Contains ns c → (j : List ℕ) × (slice_get names c ≡ Some j) × Carries events i j
  held_carried c h =
      let (j, there, number) = contains-from_map (λ j. unwrap_or (number_in names j) 0) (children_of events i) c (subst (λ xs. Contains xs c) are h) in
      let carries = (children_carried events i j).0 there in
      (j, subst (λ m. slice_get names m ≡ Some j) number (number_or names j (known i j carries)), carries)

  pub carried_held : (j : List ℕ) (c : ℕ) → Carries events i j → number_in names j ≡ Some c → Contains ns c
  carried_held j c carries number =
      subst (λ xs. Contains xs c) (sym are)
      (subst (Contains (numbers_of names (children_of events i))) (ap (λ o. unwrap_or o 0) number)
      (contains-map (λ j. unwrap_or (number_in names j) 0) (children_of events i) j ((children_carried events i j).1 carries)))

-- by the numbers of these events, or with one more
pub packed_at : (packed : ℕ → List ℕ) (events : List Content) → HasPacked packed events → (n : ℕ) (i : List ℕ)
    → slice_get (numbered events) n ≡ Some i → packed n ≡ numbers_of (numbered events) (children_of events i)
packed_at packed events has n i so = has n ∙ ap (children_at (numbered events) events) so

pub packed_then : (packed : ℕ → List ℕ) (events : List Content) (e : Content) → HasPacked packed events
    → (n : ℕ) (i : List ℕ) → slice_get (numbered (events ++ e ∷ [])) n ≡ Some i
    → packed n ≡ numbers_of (numbered (events ++ e ∷ [])) (children_of events i)
packed_then packed events e has n i so = has n ∙ told_same events e n ∙ ap (children_at (numbered (events ++ e ∷ [])) events) so
