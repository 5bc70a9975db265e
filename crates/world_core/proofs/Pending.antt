-- How much is left to be passed: of each message whether it is unseen and whether it is unsignalled. Each message
-- that is taken, and each signal, makes it less, however many new messages are numbered by it: a number that isn't
-- given yet counts as a message that is neither.
use Rattle.std.proofs.Common.{◌≡◌, inl, inr, ℕ, zero, suc, ◌+◌, ◌<◌, ◌≤◌, true, false, cond, List, Option, Some, None, refl, sym, ap, ◌∙◌, subst, arith, nat_lt, lt-ltb, ltb-true}
use Rattle.frame_core.specs.Numbers.{Recall, Message}
use Rattle.frame_core.specs.declared.rows.Row.{Row}
use Rattle.site_recovery.specs.Looks.{World, row, seen, next_message}
use Rattle.site_recovery.proofs.Changes.{Takes, Clears}
use Rattle.site_recovery.proofs.OneSite.{one_place}

-- Sums of a function below a number.

abbrev pub total : (ℕ → ℕ) → ℕ → ℕ
total f zero = 0
total f (suc n) = f n + total f n

total_falls : (f g : ℕ → ℕ) → ((k : ℕ) → f k ≤ g k) → (n : ℕ) → total f n ≤ total g n
total_falls f g le zero = omega arith
total_falls f g le (suc n) = omega (arith, le n, total_falls f g le n)

total_falls_at : (f g : ℕ → ℕ) → ((k : ℕ) → f k ≤ g k) → (n k : ℕ) → k < n → f k < g k → total f n < total g n
total_falls_at f g le zero k below less = absurd (omega (arith, below))
total_falls_at f g le (suc n) k below less = elim (one_place k n) as (λ _. total f (suc n) < total g (suc n)) [
  | inl last ↦ let at : f n < g n = subst (λ z. f z < g z) last less in omega (arith, at, total_falls f g le n)
  | inr before ↦ omega (arith, le n, total_falls_at f g le n k (omega (arith, below, before)) less)
]

-- The messages of a world.

abbrev unseen : Option Recall → ℕ
unseen None = 2
unseen (Some under) = 1

abbrev of_row : World → ℕ → ℕ → Option Row → ℕ
of_row W s n None = 0
of_row W s n (Some x) = unseen (seen W x.dest (record { site = s; number = n }))

-- 2 where it is unseen or has no number yet, 1 where it is seen, 0 where it is signalled
abbrev pub message_left : World → ℕ → ℕ → ℕ
message_left W s n = cond (nat_lt n (next_message W s)) (of_row W s n (row W s n)) 2

-- of all messages with numbers below a bound
abbrev pub left_below : ℕ → ℕ → World → ℕ
left_below sites bound W = total (λ s. total (message_left W s) bound) sites

unseen_most : (o : Option Recall) → unseen o ≤ 2
unseen_most None = omega arith
unseen_most (Some under) = omega arith

of_row_most : (W : World) (s n : ℕ) (o : Option Row) → of_row W s n o ≤ 2
of_row_most W s n None = omega arith
of_row_most W s n (Some x) = unseen_most (seen W x.dest (record { site = s; number = n }))

most : (W : World) (s n : ℕ) → message_left W s n ≤ 2
most W s n = elim (nat_lt n (next_message W s)) as (λ b. cond b (of_row W s n (row W s n)) 2 ≤ 2) [
  | true ↦ of_row_most W s n (row W s n)
  | false ↦ omega arith
]

-- what is left of it, by what is found
module _ (W : World) (s n : ℕ) where
  numbered_left : n < next_message W s → message_left W s n ≡ of_row W s n (row W s n)
  numbered_left low = ap (λ b. cond b (of_row W s n (row W s n)) 2) (lt-ltb n (next_message W s) low)

  gone_left : n < next_message W s → row W s n ≡ None → message_left W s n ≡ 0
  gone_left low none = numbered_left low ∙ ap (of_row W s n) none

  stands_left : (x : Row) (under : Option Recall) → n < next_message W s → row W s n ≡ Some x → seen W x.dest (record { site = s; number = n }) ≡ under → message_left W s n ≡ unseen under
  stands_left x under low stands is = numbered_left low ∙ ap (of_row W s n) stands ∙ ap unseen is

-- one of three
data Found (W : World) (s n : ℕ) : Type 0 where
  full : message_left W s n ≡ 2 → Found W s n
  saw : (x : Row) (q : Recall) → n < next_message W s → row W s n ≡ Some x → seen W x.dest (record { site = s; number = n }) ≡ Some q → message_left W s n ≡ 1 → Found W s n
  gone : n < next_message W s → row W s n ≡ None → Found W s n

found : (W : World) (s n : ℕ) → Found W s n
found W s n = elim (nat_lt n (next_message W s)) as (λ b. nat_lt n (next_message W s) ≡ b → Found W s n) [
  | false ↦ λ high. full (ap (λ b. cond b (of_row W s n (row W s n)) 2) high)
  | true ↦ λ low.
      let below : n < next_message W s = ltb-true n (next_message W s) low in
      elim (row W s n) as (λ o. row W s n ≡ o → Found W s n) [
        | None ↦ λ none. gone below none
        | Some x ↦ λ stands. elim (seen W x.dest (record { site = s; number = n })) as (λ o. seen W x.dest (record { site = s; number = n }) ≡ o → Found W s n) [
          | None ↦ λ is. full (stands_left W s n x None below stands is)
          | Some q ↦ λ is. saw x q below stands is (stands_left W s n x (Some q) below stands is)
        ] refl
      ] refl
] refl

-- A message that is taken.
module _ (V W : World) (s : ℕ) (m : Message) (r : Recall) (item : List ℕ) (c : Takes V W s m r item) where
  taken_less : (t n : ℕ) → message_left W t n ≤ message_left V t n
  taken_less t n = elim (found V t n) as (λ _. message_left W t n ≤ message_left V t n) [
    | full is ↦ omega (arith, is, most W t n)
    | saw x q low stands was is ↦
        let up = c.spreads.next_up t in
        let now = stands_left W t n x (Some q) (omega (arith, low, up)) (c.spreads.row_kept t n x low stands) (c.seen_kept x.dest (record { site = t; number = n }) q was) in
        omega (arith, is, now)
    | gone low none ↦
        let up = c.spreads.next_up t in
        let still : row W t n ≡ None = elim (row W t n) as (λ o. row W t n ≡ o → row W t n ≡ None) [
          | None ↦ λ is. is
          | Some x ↦ λ is. elim (c.spreads.row_origin t n x is) as (λ _. row W t n ≡ None) [
            | inl old ↦ absurd (let twice : None ≡ Some x = sym none ∙ old in cc)
            | inr new ↦ absurd (let high = subst (λ z. next_message V z ≤ n) (sym new.0) new.1.above in omega (arith, low, high))
          ]
        ] refl in
        let now = gone_left W t n (omega (arith, low, up)) still in
        omega (arith, now)
  ]

  pub taking_leaves_less : (sites bound : ℕ) → m.site < sites → m.number < bound → m.number < next_message V m.site → row V m.site m.number ≡ Some (record { dest = s; recall = r; item = item })
      → left_below sites bound W < left_below sites bound V
  taking_leaves_less sites bound here numbered low stands =
      let x : Row = record { dest = s; recall = r; item = item } in
      let up = c.spreads.next_up m.site in
      let was = stands_left V m.site m.number x None low stands c.unseen in
      let now = stands_left W m.site m.number x (Some r) (omega (arith, low, up)) (c.spreads.row_kept m.site m.number x low stands) c.seen_new in
      total_falls_at (λ t. total (message_left W t) bound) (λ t. total (message_left V t) bound)
      (λ t. total_falls (message_left W t) (message_left V t) (taken_less t) bound) sites m.site here
      (total_falls_at (message_left W m.site) (message_left V m.site) (taken_less m.site) bound m.number numbered (omega (arith, was, now)))

-- A signal that clears a row.
module _ (V W : World) (s k : ℕ) (x : Row) (c : Clears V W s k x) where
  cleared_less : (t n : ℕ) → message_left W t n ≤ message_left V t n
  cleared_less t n = elim (found V t n) as (λ _. message_left W t n ≤ message_left V t n) [
    | full is ↦ omega (arith, is, most W t n)
    | saw y q low stands was is ↦
        let next = c.next_message t in
        let low' : n < next_message W t = omega (arith, low, next) in
        elim (row W t n) as (λ o. row W t n ≡ o → message_left W t n ≤ message_left V t n) [
          | None ↦ λ none. let now = gone_left W t n low' none in omega (arith, now)
          | Some z ↦ λ there.
              let same : Some z ≡ Some y = sym (c.row_origin t n z there) ∙ stands in
              let now = stands_left W t n y (Some q) low' (there ∙ same) (c.seen y.dest (record { site = t; number = n }) ∙ was) in
              omega (arith, is, now)
        ] refl
    | gone low none ↦
        let next = c.next_message t in
        let still : row W t n ≡ None = elim (row W t n) as (λ o. row W t n ≡ o → row W t n ≡ None) [
          | None ↦ λ is. is
          | Some z ↦ λ is. absurd (let twice : None ≡ Some z = sym none ∙ c.row_origin t n z is in cc)
        ] refl in
        let now = gone_left W t n (omega (arith, low, next)) still in
        omega (arith, now)
  ]

  pub clearing_leaves_less : (sites bound : ℕ) (q : Recall) → s < sites → k < bound → k < next_message V s → seen V x.dest (record { site = s; number = k }) ≡ Some q → row W s k ≡ None → left_below sites bound W < left_below sites bound V
  clearing_leaves_less sites bound q here numbered low was none =
      let next = c.next_message s in
      let before = stands_left V s k x (Some q) low c.was was in
      let now = gone_left W s k (omega (arith, low, next)) none in
      total_falls_at (λ t. total (message_left W t) bound) (λ t. total (message_left V t) bound)
      (λ t. total_falls (message_left W t) (message_left V t) (cleared_less t) bound) sites s here
      (total_falls_at (message_left W s) (message_left V s) (cleared_less s) bound k numbered (omega (arith, before, now)))
