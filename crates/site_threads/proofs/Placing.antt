-- The next message for a site: what is found of the messages that wait, and how the place stays with the record.
use Rattle.std.proofs.Common.{◌≡◌, ℕ, zero, suc, ◌≤◌, ◌⊎◌, inl, inr, ⊎_elim, Bool, true, false, not, cond, is_some, min, max, nat_cmp, nat_le, ◌==◌, Option, Some, None, List, [], ◌∷◌, filter, fold, map, refl, sym, ap, ◌∙◌, subst, arith, true≢false}
use Rattle.std.specs.Prelude.{T, Contains, unwrap_or}
use Rattle.std.proofs.lemmas.Bool.{cases_lt}
use Rattle.std.specs.Cmp.{nat_cmp_total}
use Rattle.std.specs.FinMap.{entries, get, is_sorted, nat_cmp-IsAntisymmetric}
use Rattle.std.specs.FinMap.Entries.{below_all}
use Rattle.std.specs.List.{AllByRecursion}
use Rattle.std.specs.Option.{option_or}
use Rattle.std.specs.Ordering.{is_lt}
use Rattle.frame_core.specs.declared.frames.Frame.TheVariants as frames
use Rattle.frame_core.specs.declared.rows.Row.{Row}
use Rattle.frame_core.specs.Numbers.{Message}
use Rattle.frame_core.specs.Outboxes.{IsNextTo, IsRowTo}
use Rattle.keeper_core.specs.Keeping.{IsAfter}
use Rattle.scholten_core.specs.Engagement.{Engagement}
use Rattle.scholten_core.specs.declared.outcomes.Signalled.{Signalled}
use Rattle.scholten_core.specs.declared.outcomes.Signalled.TheVariants as signals
use Rattle.site_core.proofs.Clearings.{signals_clear}
use Rattle.site_core.proofs.Entries.{entry_found, entry_there}
use Rattle.site_core.proofs.Growths.{captures_grow}
use Rattle.site_core.proofs.Openings.{starts_open}
use Rattle.site_core.proofs.Takings.{messages_are_taken}
use Rattle.site_core.specs.Records.{Record}
use Rattle.site_core.specs.StepLaws.{ClearsFor}
use Rattle.site_core.specs.Steps.{Does}
use Rattle.site_core.specs.Ways.{GrowsBy, Quarantines}
use Rattle.site_core.specs.declared.inputs.SiteInput.{SiteInput}
use Rattle.site_core.specs.declared.inputs.SiteInput.TheVariants.{Capture, Start, Deliver}
use Rattle.site_core.specs.declared.outcomes.Effects.{Effects}
use Rattle.site_core.specs.declared.outcomes.Effects.TheVariants as effects
use Rattle.trace_core.proofs.Members.{contains_here, contains_there, contains_cases, contains_none, contains-map}
use Rattle.trace_core.proofs.SetMembers.{contains-from_map}
use Rattle.site_threads.specs.Offers.{IsRound, from_on, least, next_to, moved, waiting}
use Rattle.site_threads.specs.declared.rounds.Round.{Round}

-- What a filter leaves.

pub passing : {X : Type 0} (p : X → Bool) (xs : List X) (y : X) → Contains (filter p xs) y → Contains xs y × (p y ≡ true)
passing p [] y at = absurd (contains_none y at)
passing p (x ∷ xs) y at = elim (p x) as (λ b. p x ≡ b → Contains (cond b (x ∷ filter p xs) (filter p xs)) y → Contains (x ∷ xs) y × (p y ≡ true)) [
  | true ↦ λ is c. elim (contains_cases x y (filter p xs) c) as (λ _. Contains (x ∷ xs) y × (p y ≡ true)) [
    | inl same ↦ (subst (Contains (x ∷ xs)) same (contains_here x xs), subst (λ z. p z ≡ true) same is)
    | inr later ↦ let rest = passing p xs y later in (contains_there x y xs rest.0, rest.1)
  ]
  | false ↦ λ is c. let rest = passing p xs y c in (contains_there x y xs rest.0, rest.1)
] refl at

pub passed : {X : Type 0} (p : X → Bool) (xs : List X) (y : X) → Contains xs y → p y ≡ true → Contains (filter p xs) y
passed p [] y at is = absurd (contains_none y at)
passed p (x ∷ xs) y at is = elim (p x) as (λ b. p x ≡ b → Contains (cond b (x ∷ filter p xs) (filter p xs)) y) [
  | true ↦ λ _. elim (contains_cases x y xs at) as (λ _. Contains (x ∷ filter p xs) y) [
    | inl same ↦ subst (Contains (x ∷ filter p xs)) same (contains_here x (filter p xs))
    | inr later ↦ contains_there x y (filter p xs) (passed p xs y later is)
  ]
  | false ↦ λ fails. elim (contains_cases x y xs at) as (λ _. Contains (filter p xs) y) [
    | inl same ↦ absurd (true≢false (sym is ∙ ap p (sym same) ∙ fails))
    | inr later ↦ passed p xs y later is
  ]
] refl

-- two tests that agree on the items leave the same
same_left : {X : Type 0} (p q : X → Bool) (xs : List X) → ((x : X) → Contains xs x → p x ≡ q x) → filter p xs ≡ filter q xs
same_left p q [] same = refl
same_left p q (x ∷ xs) same =
    ap (λ b. cond b (x ∷ filter p xs) (filter p xs)) (same x (contains_here x xs))
    ∙ ap (λ l. cond (q x) (x ∷ l) l) (same_left p q xs (λ y at. same y (contains_there x y xs at)))

all_left : {X : Type 0} (p : X → Bool) (xs : List X) → ((x : X) → Contains xs x → p x ≡ true) → filter p xs ≡ xs
all_left p [] all = refl
all_left p (x ∷ xs) all =
    ap (λ b. cond b (x ∷ filter p xs) (filter p xs)) (all x (contains_here x xs))
    ∙ ap (λ l. x ∷ l) (all_left p xs (λ y at. all y (contains_there x y xs at)))

-- The least of some numbers.

fold_low : (x : ℕ) (xs : List ℕ) → fold min x xs ≤ x
fold_low x [] = omega arith
fold_low x (y ∷ ys) = let low = fold_low (min x y) ys in omega (arith, low)

fold_lowest : (x : ℕ) (xs : List ℕ) (n : ℕ) → Contains xs n → fold min x xs ≤ n
fold_lowest x [] n at = absurd (contains_none n at)
fold_lowest x (y ∷ ys) n at = elim (contains_cases y n ys at) as (λ _. fold min (min x y) ys ≤ n) [
  | inl same ↦ let low = fold_low (min x y) ys in omega (arith, low, same)
  | inr later ↦ fold_lowest (min x y) ys n later
]

-- one of them, and none is less
pub least_low : (xs : List ℕ) (n : ℕ) → Contains xs n → (k : ℕ) × (least xs ≡ Some k) × (k ≤ n)
least_low [] n at = absurd (contains_none n at)
least_low (x ∷ xs) n at = (
  fold min x xs,
  refl,
  elim (contains_cases x n xs at) as (λ _. fold min x xs ≤ n) [
    | inl same ↦ let low = fold_low x xs in omega (arith, low, same)
    | inr later ↦ fold_lowest x xs n later
  ],
)

-- it is one of them
fold_among : (x : ℕ) (xs : List ℕ) → Contains (x ∷ xs) (fold min x xs)
fold_among x [] = contains_here x []
fold_among x (y ∷ ys) = elim (contains_cases (min x y) (fold min (min x y) ys) ys (fold_among (min x y) ys)) as (λ _. Contains (x ∷ y ∷ ys) (fold min (min x y) ys)) [
  | inl same ↦ elim (one_of x y) as (λ _. Contains (x ∷ y ∷ ys) (fold min (min x y) ys)) [
    | inl is ↦ subst (Contains (x ∷ y ∷ ys)) (sym is ∙ same) (contains_here x (y ∷ ys))
    | inr is ↦ contains_there x _ (y ∷ ys) (subst (Contains (y ∷ ys)) (sym is ∙ same) (contains_here y ys))
  ]
  | inr later ↦ contains_there x _ (y ∷ ys) (contains_there y _ ys later)
]
  where
    one_of : (a b : ℕ) → (min a b ≡ a) ⊎ (min a b ≡ b)
    one_of a b = ⊎_elim (λ lt. inl (omega (arith, lt))) (λ le. inr (omega (arith, le))) (cases_lt a b)

least_among : (xs : List ℕ) (k : ℕ) → least xs ≡ Some k → Contains xs k
least_among [] k is = cc
least_among (x ∷ xs) k is = let same : fold min x xs ≡ k = cc in subst (Contains (x ∷ xs)) same (fold_among x xs)

least_none : (xs : List ℕ) → ((n : ℕ) → Contains xs n → ⊥) → None ≡ least xs
least_none [] none = refl
least_none (x ∷ xs) none = absurd (none x (contains_here x xs))

abbrev pub to_site : ℕ → ℕ × Row → Bool
to_site to row = row.1.dest == to

-- The place for one site.

module _ (e : Engagement) (to : ℕ) where
  -- a message waits where its row is the site's
  pub waits : (n : ℕ) → Contains (waiting e to) n → (row : Row) × (get e.outbox n ≡ Some row) × ((row.dest == to) ≡ true)
  waits n at =
      let (row, among, is) = contains-from_map (λ (x : ℕ × Row). x.0) (filter (to_site to) (entries e.outbox)) n at in
      let (there, mine) = passing (to_site to) (entries e.outbox) row among in
      (row.1, subst (λ k. get e.outbox k ≡ Some row.1) is (entry_found nat_cmp_total e.outbox row.0 row.1 there), mine)

  waits_there : (n : ℕ) (row : Row) → get e.outbox n ≡ Some row → (row.dest == to) ≡ true → Contains (waiting e to) n
  waits_there n row is mine =
      contains-map (λ (x : ℕ × Row). x.0) (filter (to_site to) (entries e.outbox)) (n, row) (passed (to_site to) (entries e.outbox) (n, row) (entry_there nat_cmp_total nat_cmp-IsAntisymmetric e.outbox n row is) mine)

  is_dest : (a : ℕ) → (a == to) ≡ true → a ≡ to
  is_dest a h = grind (arith, h)

  pub same_dest : (a : ℕ) → a ≡ to → (a == to) ≡ true
  same_dest a h = grind (arith, h)

  le_true : (a b : ℕ) → a ≤ b → nat_le a b ≡ true
  le_true a b h = grind (arith, h)

  true_le : (a b : ℕ) → nat_le a b ≡ true → a ≤ b
  true_le a b h = grind (arith, h)

  -- what is looked up from a number on is the least one that waits
  among : (from n : ℕ) → Contains (from_on from (waiting e to)) n → IsRowTo e.outbox to n × (from ≤ n)
  among from n at =
      let (there, up) = passing (λ x. nat_le from x) (waiting e to) n at in
      let (row, is, mine) = waits n there in
      ((row, is, is_dest row.dest mine), true_le from n up)

  pub next_is_least : (from : ℕ) (found : Option ℕ) → IsNextTo e.outbox to from found → found ≡ least (from_on from (waiting e to))
  next_is_least from None next = least_none (from_on from (waiting e to)) (λ n at.
      let (row, up) = among from n at in
      let (k, is, low) = next.least n row up in
      cc)
  next_is_least from (Some n) next =
      let ((row, is, mine), up) = next.there in
      let at = passed (λ x. nat_le from x) (waiting e to) n (waits_there n row is (same_dest row.dest mine)) (le_true from n up) in
      let (k, least_is, low) = least_low (from_on from (waiting e to)) n at in
      let (there, above) = among from k (least_among (from_on from (waiting e to)) k least_is) in
      let (m, same, lowest) = next.least k there above in
      let one : n ≡ m = cc in
      let all : n ≡ k = omega (arith, one, low, lowest) in
      ap Some all ∙ sym least_is

  agree : (a b n : ℕ) → a ≤ b → (a ≤ n → b ≤ n) → nat_le a n ≡ nat_le b n
  agree a b n low high = elim (nat_le a n) as (λ t. nat_le a n ≡ t → t ≡ nat_le b n) [
    | true ↦ λ is. sym (le_true b n (high (true_le a n is)))
    | false ↦ λ is. elim (nat_le b n) as (λ t. nat_le b n ≡ t → false ≡ t) [
      | true ↦ λ s. let l = true_le b n s in absurd (true≢false (sym (le_true a n (omega (arith, low, l))) ∙ is))
      | false ↦ λ _. refl
    ] refl
  ] refl

  module _ (round : Round) (h : IsRound e to round) where
    -- from the place on waits what waits from where the search begins
    next_left : from_on round.next (waiting e to) ≡ from_on round.place (waiting e to)
    next_left = sym (same_left (λ n. nat_le round.place n) (λ n. nat_le round.next n) (waiting e to) (λ n at. agree round.place round.next n h.behind (h.next n at)))

    least_left : from_on round.least (waiting e to) ≡ waiting e to
    least_left = all_left (λ n. nat_le round.least n) (waiting e to) (λ n at. le_true round.least n (h.least n at))

    -- what is found from there on, or else from the least on, is the next message
    pub found_next : (found : Option ℕ) → found ≡ least (from_on round.next (waiting e to)) → is_some found ≡ true → found ≡ next_to e to round.place
    found_next (Some n) is there = ap (λ o. option_or o (least (waiting e to))) (is ∙ ap least next_left)
    found_next None is there = absurd (true≢false (sym there))

    pub found_least : (none found : Option ℕ) → none ≡ least (from_on round.next (waiting e to)) → is_some none ≡ false → found ≡ least (from_on round.least (waiting e to)) → found ≡ next_to e to round.place
    found_least None found is not is' = is' ∙ ap least least_left ∙ ap (λ o. option_or o (least (waiting e to))) (is ∙ ap least next_left)
    found_least (Some n) found is not is' = absurd (true≢false not)

    -- what is waiting isn't before what was found
    not_before : (from end n : ℕ) (found : Option ℕ) → found ≡ least (from_on from (waiting e to)) → Contains (waiting e to) n → from ≤ n → max from (min (unwrap_or found end) end) ≤ n
    not_before from end n found is at low =
        let (k, is_k, high) = least_low (from_on from (waiting e to)) n (passed (λ x. nat_le from x) (waiting e to) n at (le_true from n low)) in
        let same : unwrap_or found end ≡ k = ap (λ o. unwrap_or o end) (is ∙ is_k) in
        omega (arith, same, high, low)

    pub searched : (found : Option ℕ) → found ≡ least (from_on round.next (waiting e to)) → (next : ℕ) → next ≡ max round.next (min (unwrap_or found e.next_message) e.next_message)
        → IsRound e to (record { place = round.place; least = round.least; next = next })
    searched found is next new =
        let behind' = h.behind in
        let low = h.next_low in
        record {
          behind = omega (arith, new, behind');
          next = λ n at up. let before = not_before round.next e.next_message n found is at (h.next n at up) in omega (arith, new, before);
          least = h.least;
          next_low = omega (arith, new, low);
          least_low = h.least_low;
        }

    pub searched_least : (found : Option ℕ) → found ≡ least (from_on round.least (waiting e to)) → (next : ℕ) → next ≡ max round.least (min (unwrap_or found e.next_message) e.next_message)
        → IsRound e to (record { place = round.place; least = next; next = round.next })
    searched_least found is next new =
        let low = h.least_low in
        record {
          behind = h.behind;
          next = h.next;
          least = λ n at. let before = not_before round.least e.next_message n found is at (h.least n at) in omega (arith, new, before);
          next_low = h.next_low;
          least_low = omega (arith, new, low);
        }

    -- behind a frame that was posted
    pub posted_round : (posted : ℕ) (number : Option ℕ) → IsRound e to (moved round posted number)
    posted_round zero number = h
    posted_round (suc posted) None = h
    posted_round (suc posted) (Some number) = record { behind = omega arith; next = λ n at up. up; least = h.least; next_low = omega arith; least_low = h.least_low }

-- before the first message
pub first_round : (e : Engagement) (to : ℕ) → IsRound e to (record { place = 0; least = 0; next = 0 })
first_round e to = record { behind = omega arith; next = λ n at up. omega arith; least = λ n at. omega arith; next_low = omega arith; least_low = omega arith }

-- A step.

-- the messages that wait after it waited before it, or have the number that was next or one past it
record AddsMessages (old new : Engagement) : Type 0 where
  pub later : old.next_message ≤ new.next_message
  pub origin : (n : ℕ) (row : Row) → get new.outbox n ≡ Some row → (get old.outbox n ≡ Some row) ⊎ (old.next_message ≤ n)

same_adds : (old new : Engagement) → new ≡ old → AddsMessages old new
same_adds old new is = subst (AddsMessages old) (sym is) (record { later = omega arith; origin = λ n row at. inl at })

grown : (k : ℕ) (old new : Record) → GrowsBy old k new → new.engagement ≡ old.engagement
grown zero old new is = ap (λ z. z.engagement) (sym is)
grown (suc k) old new (u, first', last) = last.engagement ∙ grown k old u first'

quarantined : (old new : Record) (r : _) (i : List ℕ) → Quarantines old new r i → AddsMessages old.engagement new.engagement
quarantined old new r i q = record { later = q.next_message; origin = λ n row at. ⊎_elim (λ before. inl before) (λ m. inr m.low) (q.row_origin n row at) }

cleared : (old new : Record) (m : Message) (by : ℕ) (answer : Signalled) → ClearsFor old new m by answer → AddsMessages old.engagement new.engagement
cleared old new m by answer c = let next = c.clears.clears.next_message in record { later = omega (arith, next); origin = λ n row at. inl (c.clears.clears.row_origin n row at) }

adds : (old new : Record) (input : SiteInput) (e : Effects) → Does old input e new → AddsMessages old.engagement new.engagement
adds old new (Capture bytes) (effects.Captured fresh known skipped) does = same_adds old.engagement new.engagement (grown fresh old new (captures_grow old new bytes fresh known skipped does))
adds old new (Start root) (effects.Started recall quarantined' numbered ended) does = quarantined old new _ root (starts_open old new root recall quarantined' numbered ended does).0.quarantines
adds old new (Deliver (frames.Recall m dest r i)) (effects.Received quarantined' numbered owed) does = quarantined old new r i (messages_are_taken old new m dest r i quarantined' numbered owed does).1.quarantines
adds old new (Deliver (frames.Recall m dest r i)) effects.Repeat does = same_adds old.engagement new.engagement (ap (λ z. z.engagement) does.1)
adds old new (Deliver (frames.Signal m by)) effects.Stale does = same_adds old.engagement new.engagement (ap (λ z. z.engagement) does.1)
adds old new (Deliver (frames.Signal m by)) effects.Cleared does = cleared old new m by signals.Cleared ((signals_clear old new m by).0 does)
adds old new (Deliver (frames.Signal m by)) (effects.ParentDue parent) does = cleared old new m by (signals.ParentDue parent) ((signals_clear old new m by).1 parent does)
adds old new (Deliver (frames.Signal m by)) (effects.Ended recall) does = cleared old new m by (signals.Ended recall) ((signals_clear old new m by).2 recall does)
adds old new input other does = absurd does

stays : (old new : Engagement) (to : ℕ) (round : Round) → AddsMessages old new → IsRound old to round → IsRound new to round
stays old new to round a h =
    let later = a.later in
    let next_low = h.next_low in
    let least_low' = h.least_low in
    record {
      behind = h.behind;
      next = λ n at up.
          let (row, is, mine) = waits new to n at in
          ⊎_elim (λ before. h.next n (waits_there old to n row before mine) up) (λ high. omega (arith, next_low, high, up)) (a.origin n row is);
      least = λ n at.
          let (row, is, mine) = waits new to n at in
          ⊎_elim (λ before. h.least n (waits_there old to n row before mine)) (λ high. omega (arith, least_low', high)) (a.origin n row is);
      next_low = omega (arith, next_low, later);
      least_low = omega (arith, least_low', later);
    }

-- the places stay with the record that is marked next
pub next_round : (old new : Record) (input : SiteInput) (to : ℕ) (round : Round) → (new ≡ old) ⊎ IsAfter old input new → IsRound old.engagement to round → IsRound new.engagement to round
next_round old new input to round (inl same) h = subst (λ (z : Record). IsRound z.engagement to round) (sym same) h
next_round old new input to round (inr after) h = stays old.engagement new.engagement to round (adds old new input after.0 after.1) h
