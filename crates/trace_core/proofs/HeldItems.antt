-- The items of numbers, and all that lies in them.
use Rattle.std.proofs.Common.{◌≡◌, ◌<◌, ◌+◌, ◌↔◌, ℕ, true, List, [], ◌∷◌, ◌++◌, None, Some, take, length, get_or, slice_get, refl, sym, ap, ◌∙◌, subst, inl, inr, ⊎_elim}
use mathlib.Core.Logic.{◌⊎◌}
use Rattle.std.specs.List.{Contains}
use Rattle.event_json.specs.Events.{Content}
use Rattle.trace_core.specs.declared.sendings.Sending.{Sending}
use Rattle.trace_core.specs.Numbers.{number_in, numbered, AreNumbersOf}
use Rattle.trace_core.specs.Pairs.{Carries}
use Rattle.trace_core.specs.PairTests.{lists}
use Rattle.trace_core.specs.PutIn.{HasPacked}
use Rattle.trace_core.specs.Relations.{ReachedFrom}
use Rattle.trace_core.specs.Sendings.{NotesSendings, Holds, Follows, HasItemOf, at_site}
use Rattle.trace_core.proofs.ChainLaws.{reached_holds, reached_step, reached_start}
use Rattle.trace_core.proofs.Members.{contains_none, contains-map}
use Rattle.trace_core.proofs.NumberLists.{none_is, some_is, listed_number, number_listed, number_stands, numbered_apart}
use Rattle.trace_core.proofs.PackedSteps.{carrier_known, carried_known, held_carried, carried_held, packed_at}
use Rattle.trace_core.proofs.SentSteps.{stays, notes_from}
use Rattle.trace_core.proofs.SetMembers.{contains_more, contains_pushed, contains-from_map}

-- ---- the numbers of items

module _ (names : List (List ℕ)) (items : List (List ℕ)) (n : ℕ) (x : List ℕ) (below : n < length items) (at : x ≡ get_or items n x) (numbers : List ℕ) (so_far : AreNumbersOf names (take n items) numbers) where
  pub number_more : (number : ℕ) → number_in names x ≡ Some number → (numbers' : List ℕ)
      → numbers' ≡ numbers ++ number ∷ [] → AreNumbersOf names (take (n + 1) items) numbers'
  number_more number is numbers' pushed m = (
    λ h. ⊎_elim
        (λ before. let (i, there, number_i) = (so_far m).0 before in (i, (contains_more items n x below at i).1 (inl there), number_i))
        (λ same. (x, (contains_more items n x below at x).1 (inr refl), is ∙ ap Some same))
        ((contains_pushed numbers number m).0 (subst (λ ms. Contains ms m) pushed h)),
    λ (i, there, number_i). subst (λ ms. Contains ms m) (sym pushed) ((contains_pushed numbers number m).1 (⊎_elim
        (λ before. inl ((so_far m).1 (i, before, number_i)))
        (λ same. inr (some_is number m (sym is ∙ ap (number_in names) same ∙ number_i)))
        ((contains_more items n x below at i).0 there))),
  )

  pub number_passed : None ≡ number_in names x → AreNumbersOf names (take (n + 1) items) numbers
  number_passed none m = (
    λ h. let (i, there, number_i) = (so_far m).0 h in (i, (contains_more items n x below at i).1 (inl there), number_i),
    λ (i, there, number_i). ⊎_elim
        (λ before. (so_far m).1 (i, before, number_i))
        (λ same. none_is m (none ∙ ap (number_in names) same ∙ number_i))
        ((contains_more items n x below at i).0 there),
  )

pub no_numbers : (names : List (List ℕ)) (none : List ℕ) → none ≡ [] → AreNumbersOf names [] none
no_numbers names none empty m = (
  λ h. absurd (contains_none m (subst (λ ms. Contains ms m) empty h)),
  λ (i, there, number). absurd (contains_none i there),
)

-- ---- all that lies in them

module _ (events : List Content) (packed : ℕ → List ℕ) (has : HasPacked packed events) (items : List (List ℕ)) (numbers : List ℕ) (are : AreNumbersOf (numbered events) items numbers)
    (site : ℕ) (none between found : List Sending) (empty : none ≡ []) (noted : NotesSendings none between (at_site numbers site)) (follows : Follows packed 0 between found) where
  -- the item of the number is reached
  abbrev IsReachedAt : ℕ → Type 0
  IsReachedAt n = (i : List ℕ) × (slice_get (numbered events) n ≡ Some i) × ReachedFrom (Carries events) items i

  start_reached : (s : Sending) → Contains between s → IsReachedAt s.item
  start_reached s h = ⊎_elim
      (λ before. absurd (contains_none s (subst (λ xs. Contains xs s) empty before)))
      (λ start.
      let (n, there, is) = contains-from_map (λ (n : ℕ). record { item = n; site = site }) numbers s start in
      let (i, listed, number) = (are n).0 there in
      (i, subst (λ m. slice_get (numbered events) m ≡ Some i) (ap (λ (z : Sending). z.item) is) (number_stands (numbered events) i n number), reached_start (Carries events) items i listed))
      (notes_from none between (at_site numbers site) noted s h)

  held_reached : (n c : ℕ) → IsReachedAt n → Holds packed n c → IsReachedAt c
  held_reached n c (i, so, reached) held =
      let (j, so', carries) = held_carried (numbered events) events (carried_known events) (packed n) i (packed_at packed events has n i so) c held in
      (j, so', reached_step (Carries events) items i j reached carries)

  -- the item is found, if it is known
  abbrev IsFoundThere : List ℕ → Type 0
  IsFoundThere j = lists (numbered events) j ≡ true → (c : ℕ) × (number_in (numbered events) j ≡ Some c) × Contains found (record { item = c; site = site })

  start_found : (x : List ℕ) → Contains items x → IsFoundThere x
  start_found x there known =
      let (c, number) = listed_number (numbered events) x known in (
        c,
        number,
        stays between found follows.extends (record { item = c; site = site })
            (noted.all (record { item = c; site = site }) (contains-map (λ (n : ℕ). record { item = n; site = site }) numbers c ((are c).1 (x, there, number)))),
      )

  found_on : (j k : List ℕ) → IsFoundThere j → Carries events j k → IsFoundThere k
  found_on j k so_far carries known =
      let (c, number, there) = so_far (carrier_known events j k carries) in
      let (m, number') = listed_number (numbered events) k known in (
        m,
        number',
        follows.closed (λ s d h held. absurd (contains_none s h)) (record { item = c; site = site }) m there
            (carried_held (numbered events) events (carried_known events) (packed c) j (packed_at packed events has c j (number_stands (numbered events) j c number)) k m carries number'),
      )

  pub known_held : (i : List ℕ)
      → HasItemOf events found i ↔ ((lists (numbered events) i ≡ true) × ReachedFrom (Carries events) items i)
  known_held i = (
    λ (s, there, so).
        let (n, start, chain) = follows.sound s there in
        let (j, so', reached) = reached_holds (Holds packed) IsReachedAt held_reached n s.item chain (start_reached (record { item = n; site = s.site }) start) in
        (number_listed (numbered events) i s.item (numbered_apart events s.item i so), subst (ReachedFrom (Carries events) items) (some_is j i (sym so' ∙ so)) reached),
    λ (known, (x, at, chain)).
        let (c, number, there) = reached_holds (Carries events) IsFoundThere found_on x i chain (start_found x at) known in
        (record { item = c; site = site }, there, number_stands (numbered events) i c number),
  )

-- what is reached is given, or known
given_or_known : (events : List Content) (items : List (List ℕ)) (i : List ℕ) → ReachedFrom (Carries events) items i
    → Contains items i ⊎ (lists (numbered events) i ≡ true)
given_or_known events items i (x, at, chain) =
    reached_holds (Carries events) (λ j. Contains items j ⊎ (lists (numbered events) j ≡ true)) (λ j k so_far carries. inr (carried_known events j k carries)) x i chain (inl at)

pub all_held : (events : List Content) (items : List (List ℕ)) (found : List Sending) (all : List (List ℕ))
    → ((i : List ℕ) → HasItemOf events found i ↔ ((lists (numbered events) i ≡ true) × ReachedFrom (Carries events) items i))
    → ((i : List ℕ) → Contains all i ↔ (Contains items i ⊎ HasItemOf events found i)) → (i : List ℕ)
    → Contains all i ↔ ReachedFrom (Carries events) items i
all_held events items found all held either i = (
  λ h. ⊎_elim (λ given. reached_start (Carries events) items i given) (λ item. ((held i).0 item).1) ((either i).0 h),
  λ reached. (either i).1 (⊎_elim (λ given. inl given) (λ known. inr ((held i).1 (known, reached))) (given_or_known events items i reached)),
)

-- ---- the items of sendings

pub no_items_more : (events : List Content) (found : List (List ℕ)) (i : List ℕ)
    → Contains found i ↔ (Contains found i ⊎ HasItemOf events [] i)
no_items_more events found i = (λ h. inl h, λ h. ⊎_elim (λ before. before) (λ (s, none, so). absurd (contains_none s none)) h)

pub one_item_more : (events : List Content) (first found found' : List (List ℕ)) (sendings : List Sending) (n : ℕ)
    (s : Sending) → n < length sendings → s ≡ get_or sendings n s
    → ((i : List ℕ) → Contains found i ↔ (Contains first i ⊎ HasItemOf events (take n sendings) i))
    → ((i : List ℕ) → Contains found' i ↔ (Contains found i ⊎ (slice_get (numbered events) s.item ≡ Some i)))
    → (i : List ℕ) → Contains found' i ↔ (Contains first i ⊎ HasItemOf events (take (n + 1) sendings) i)
one_item_more events first found found' sendings n s below at so_far now i =
    let more = contains_more sendings n s below at in (
      λ h. ⊎_elim
          (λ before. ⊎_elim (λ given. inl given) (λ (z, there, so). inr (z, (more z).1 (inl there), so)) ((so_far i).0 before))
          (λ so. inr (s, (more s).1 (inr refl), so))
          ((now i).0 h),
      λ h. (now i).1 (⊎_elim
          (λ given. inl ((so_far i).1 (inl given)))
          (λ (z, there, so). ⊎_elim
          (λ before. inl ((so_far i).1 (inr (z, before, so))))
          (λ same. inr (subst (λ (y : Sending). slice_get (numbered events) y.item ≡ Some i) (sym same) so))
          ((more z).0 there))
          h),
    )
