-- All that was ever announced: a log of each message with its row as it was numbered, and how it grows.
use Rattle.std.proofs.Common.{◌≡◌, ◌⊎◌, ◌↔◌, inl, inr, ℕ, zero, suc, ◌+◌, ◌<◌, List, [], ◌∷◌, ◌++◌, Some, true, false, refl, sym, ap, ◌∙◌, subst, slice_get, Contains, arith}
use Rattle.std.specs.FinMap.{get}
use Rattle.std.specs.List.Sorted.{IsStrictlySortedBy}
use Rattle.std.specs.declared.cmp.Ordering.TheVariants.{Less, Equal}
use Rattle.std.proofs.lemmas.Cmp.{tied_itself}
use Rattle.std.proofs.lemmas.List.Elements.{Contains-append_cases, Contains-append_left, Contains-append_right}
use Rattle.std.proofs.lemmas.Option.{same_Some, slice_get-get_or}
use Rattle.frame_core.specs.Numbers.{Recall, Message}
use Rattle.frame_core.specs.declared.rows.Row.{Row}
use Rattle.scholten_core.specs.Effects.{AddsRows}
use Rattle.trace_core.specs.Sites.{SiteEvents}
use Rattle.trace_core.specs.Pairs.{IsShipped}
use Rattle.trace_core.proofs.Members.{contains_cases, contains_here, contains_none, contains_there}
use Rattle.site_core.specs.Quarantines.{held}
use Rattle.site_core.specs.Shipments.{shipment_cmp}
use Rattle.site_core.proofs.Ascending.{head_below, tail_ascends}
use Rattle.site_core.proofs.Places.{member_there}
use Rattle.site_core.proofs.SameLists.{shipment_total}
use Rattle.site_recovery.specs.Fit.{Fit}
use Rattle.site_recovery.specs.Looks.{World, Held, Ships, row, seen, next_message}
use Rattle.site_recovery.proofs.Changes.{Spreads}
use Rattle.site_recovery.proofs.OneSite.{SameElsewhere, one_place}

pub record IsLog (W : World) (log : List (Message × Row)) : Type 0 where
  pub of_row : (s n : ℕ) (x : Row) → row W s n ≡ Some x → Contains log (record { site = s; number = n }, x)
  pub of_seen : (t : ℕ) (m : Message) (q : Recall) → seen W t m ≡ Some q → (x : Row) × Contains log (m, x) × (x.recall ≡ q)
  pub waits_or_seen : (m : Message) (x : Row) → Contains log (m, x) → (row W m.site m.number ≡ Some x) ⊎ (seen W x.dest m ≡ Some x.recall)
  pub reason : (m : Message) (x : Row) → Contains log (m, x) → Held W m.site x.recall x.item × Ships W m.site x.item x.dest
  pub told : (s : ℕ) (r : Recall) (i : List ℕ) (t : ℕ) → Held W s r i → Ships W s i t → (n : ℕ) × Contains log (record { site = s; number = n }, record { dest = t; recall = r; item = i })
  pub one_row : (m : Message) (x y : Row) → Contains log (m, x) → Contains log (m, y) → x ≡ y
  pub one_message : (m p : Message) (x : Row) → Contains log (m, x) → Contains log (p, x) → m.site ≡ p.site → m ≡ p

-- The messages of one step.

abbrev news : (s n : ℕ) (r : Recall) (out : List (ℕ × List ℕ)) → List (Message × Row)
news s n r [] = []
news s n r (p ∷ out) = (record { site = s; number = n }, record { dest = p.0; recall = r; item = p.1 }) ∷ news s (n + 1) r out

record IsNew (s n : ℕ) (r : Recall) (out : List (ℕ × List ℕ)) (m : Message) (x : Row) : Type 0 where
  place : ℕ
  number : m ≡ record { site = s; number = n + place }
  message : slice_get out place ≡ Some (x.dest, x.item)
  recall : x.recall ≡ r

news_are : (s n : ℕ) (r : Recall) (out : List (ℕ × List ℕ)) (m : Message) (x : Row) → Contains (news s n r out) (m, x) → IsNew s n r out m x
news_are s n r [] m x h = absurd (contains_none (m, x) h)
news_are s n r (p ∷ out) m x h =
    let first : Message × Row = (record { site = s; number = n }, record { dest = p.0; recall = r; item = p.1 }) in
    elim (contains_cases first (m, x) (news s (n + 1) r out) h) as (λ _. IsNew s n r (p ∷ out) m x) [
      | inl e ↦
          let at : n ≡ n + 0 = omega arith in
          record {
            place = 0;
            number = sym (ap (λ z. z.0) e) ∙ ap (λ k. record { site = s; number = k }) at;
            message = ap (λ z. Some (z.1.dest, z.1.item)) e;
            recall = sym (ap (λ z. z.1.recall) e);
          }
      | inr t ↦
          let w = news_are s (n + 1) r out m x t in
          let at : (n + 1) + w.place ≡ n + suc w.place = omega arith in
          record { place = suc w.place; number = w.number ∙ ap (λ k. record { site = s; number = k }) at; message = w.message; recall = w.recall }
    ]

news_have : (s n : ℕ) (r : Recall) (out : List (ℕ × List ℕ)) (place : ℕ) (p : ℕ × List ℕ) → slice_get out place ≡ Some p
    → Contains (news s n r out) (record { site = s; number = n + place }, record { dest = p.0; recall = r; item = p.1 })
news_have s n r [] place p e = cc
news_have s n r (q ∷ out) zero p e =
    let same : q ≡ p = same_Some q p e in
    let at : n ≡ n + 0 = omega arith in
    let first = contains_here (record { site = s; number = n }, record { dest = q.0; recall = r; item = q.1 }) (news s (n + 1) r out) in
    subst (λ k. Contains (news s n r (q ∷ out)) (record { site = s; number = k }, record { dest = p.0; recall = r; item = p.1 })) at
    (subst (λ z. Contains (news s n r (q ∷ out)) (record { site = s; number = n }, record { dest = z.0; recall = r; item = z.1 })) same first)
news_have s n r (q ∷ out) (suc place) p e =
    let at : (n + 1) + place ≡ n + suc place = omega arith in
    let later = news_have s (n + 1) r out place p e in
    subst (λ k. Contains (news s n r (q ∷ out)) (record { site = s; number = k }, record { dest = p.0; recall = r; item = p.1 })) at
    (contains_there (record { site = s; number = n }, record { dest = q.0; recall = r; item = q.1 }) (record { site = s; number = (n + 1) + place }, record { dest = p.0; recall = r; item = p.1 }) (news s (n + 1) r out) later)

got_at : {X : Type 0} (xs : List X) (x : X) (there : Contains xs x) → slice_get xs there.0 ≡ Some x
got_at xs x there = slice_get-get_or xs there.0 x there.1 ∙ ap Some there.2

-- what rises has each element once
not_below_itself : (p q : ℕ × List ℕ) → shipment_cmp p q ≡ Less → p ≡ q → ⊥
not_below_itself p q below same = let tie : shipment_cmp p q ≡ Equal = subst (λ z. shipment_cmp p z ≡ Equal) same (tied_itself shipment_total p) in cc

each_once : (out : List (ℕ × List ℕ)) → IsStrictlySortedBy shipment_cmp out → (j k : ℕ) (p : ℕ × List ℕ) → slice_get out j ≡ Some p → slice_get out k ≡ Some p → j ≡ k
each_once [] up j k p a b = cc
each_once (x ∷ xs) up zero zero p a b = refl
each_once (x ∷ xs) up zero (suc k) p a b = absurd (not_below_itself x p (head_below shipment_cmp x xs up p (member_there xs k p b)) (same_Some x p a))
each_once (x ∷ xs) up (suc j) zero p a b = absurd (not_below_itself x p (head_below shipment_cmp x xs up p (member_there xs j p a)) (same_Some x p b))
each_once (x ∷ xs) up (suc j) (suc k) p a b = ap suc (each_once xs (tail_ascends shipment_cmp x xs up) j k p a b)

-- A step that brings items under a recall, and announces each of their shipments.

pub record Adds (V W : World) (s : ℕ) (r : Recall) (item : List ℕ) (out : List (ℕ × List ℕ)) : Type 0 where
  pub spreads : Spreads V W s r item
  pub rows : AddsRows (V s).engagement (W s).engagement r out
  pub once : IsStrictlySortedBy shipment_cmp out
  pub exact : (u : ℕ) (i : List ℕ) → Contains out (u, i) ↔ (Held W s r i × (Held V s r i → ⊥) × Ships V s i u)
  pub seen_kept : (t : ℕ) (m : Message) (q : Recall) → seen V t m ≡ Some q → seen W t m ≡ Some q
  pub seen_origin : (t : ℕ) (m : Message) (q : Recall) → seen W t m ≡ Some q → (seen V t m ≡ Some q) ⊎ ((x : Row) × (row V m.site m.number ≡ Some x) × (x.recall ≡ q))

module _ (V W : World) (s : ℕ) (elsewhere : SameElsewhere V W s) (f : Fit V) (r : Recall) (item : List ℕ) (out : List (ℕ × List ℕ)) (c : Adds V W s r item out)
    (log : List (Message × Row)) (g : IsLog V log) where
  abbrev new : List (Message × Row)
  new = news s (next_message V s) r out

  abbrev all : List (Message × Row)
  all = new ++ log

  among_new : (e : Message × Row) → Contains new e → Contains all e
  among_new e h = Contains-append_left new log e h

  among_old : (e : Message × Row) → Contains log e → Contains all e
  among_old e h = Contains-append_right new log e h

  ships_still : (t : ℕ) (i : List ℕ) (u : ℕ) → Ships V t i u → Ships W t i u
  ships_still t i u h = subst (λ (z : SiteEvents). IsShipped z i (record { site = u; item = i })) (sym (c.spreads.captured t)) h

  shipped_before : (t : ℕ) (i : List ℕ) (u : ℕ) → Ships W t i u → Ships V t i u
  shipped_before t i u h = subst (λ (z : SiteEvents). IsShipped z i (record { site = u; item = i })) (c.spreads.captured t) h

  -- numbers announced before are below those of this step
  below : (m : Message) (x : Row) → Contains log (m, x) → m.number < next_message V m.site
  below m x h = elim (g.waits_or_seen m x h) as (λ _. m.number < next_message V m.site) [
    | inl stands ↦ (f.numbers_are_below m.site).rows m.number x stands
    | inr saw ↦ (f.numbers_are_below m.site).seen x.dest m x.recall saw refl
  ]

  apart : (m : Message) (x y : Row) → IsNew s (next_message V s) r out m x → Contains log (m, y) → ⊥
  apart m x y w h =
      let low : m.number < next_message V s = subst (λ z. m.number < next_message V z) (ap (λ z. z.site) w.number) (below m y h) in
      omega (arith, low, ap (λ z. z.number) w.number)

  -- what was announced now wasn't quarantined before
  new_reason : (m : Message) (x : Row) → IsNew s (next_message V s) r out m x → Held W s r x.item × (Held V s r x.item → ⊥) × Ships V s x.item x.dest
  new_reason m x w = (c.exact x.dest x.item).0 (member_there out w.place (x.dest, x.item) w.message)

  told_twice : (m p : Message) (x : Row) → IsNew s (next_message V s) r out m x → Contains log (p, x) → m.site ≡ p.site → ⊥
  told_twice m p x w h same =
      let at : p.site ≡ s = sym same ∙ ap (λ z. z.site) w.number in
      (new_reason m x w).1 (subst (λ z. Held V z r x.item) at (subst (λ q. Held V p.site q x.item) w.recall (g.reason p x h).0))

  row_among : (t n : ℕ) (x : Row) → row W t n ≡ Some x → Contains all (record { site = t; number = n }, x)
  row_among t n x e = elim (one_place t s) as (λ _. Contains all (record { site = t; number = n }, x)) [
    | inl here ↦ elim (c.rows.row_origin n x (subst (λ z. row W z n ≡ Some x) here e)) as (λ _. Contains all (record { site = t; number = n }, x)) [
      | inl old ↦ among_old (record { site = t; number = n }, x) (g.of_row t n x (subst (λ z. row V z n ≡ Some x) (sym here) old))
      | inr w ↦
          let have = news_have s (next_message V s) r out w.place (x.dest, x.item) w.message in
          among_new (record { site = t; number = n }, x)
          (subst (λ z. Contains new (z, x)) (λ i. record { site = sym here i; number = sym w.number i })
          (subst (λ q. Contains new (record { site = s; number = next_message V s + w.place }, record { dest = x.dest; recall = q; item = x.item })) (sym w.recall) have))
    ]
    | inr away ↦ among_old (record { site = t; number = n }, x) (g.of_row t n x (subst (λ z. get z.engagement.outbox n ≡ Some x) (elsewhere t away) e))
  ]

  seen_among : (t : ℕ) (m : Message) (q : Recall) → seen W t m ≡ Some q → (x : Row) × Contains all (m, x) × (x.recall ≡ q)
  seen_among t m q e = elim (c.seen_origin t m q e) as (λ _. (x : Row) × Contains all (m, x) × (x.recall ≡ q)) [
    | inl old ↦ let h = g.of_seen t m q old in (h.0, among_old (m, h.0) h.1, h.2)
    | inr now ↦ (now.0, among_old (m, now.0) (g.of_row m.site m.number now.0 now.1), now.2)
  ]

  still_known : (m : Message) (x : Row) → Contains all (m, x) → (row W m.site m.number ≡ Some x) ⊎ (seen W x.dest m ≡ Some x.recall)
  still_known m x h = elim (Contains-append_cases new log (m, x) h) as (λ _. (row W m.site m.number ≡ Some x) ⊎ (seen W x.dest m ≡ Some x.recall)) [
    | inl now ↦
        let w = news_are s (next_message V s) r out m x now in
        let stands = c.rows.row_told w.place (x.dest, x.item) w.message in
        inl (subst (λ (z : Message). row W z.site z.number ≡ Some x) (sym w.number) (stands ∙ ap (λ q. Some (record { dest = x.dest; recall = q; item = x.item })) (sym w.recall)))
    | inr old ↦ elim (g.waits_or_seen m x old) as (λ _. (row W m.site m.number ≡ Some x) ⊎ (seen W x.dest m ≡ Some x.recall)) [
      | inl stands ↦ inl (c.spreads.row_kept m.site m.number x ((f.numbers_are_below m.site).rows m.number x stands) stands)
      | inr saw ↦ inr (c.seen_kept x.dest m x.recall saw)
    ]
  ]

  still_reason : (m : Message) (x : Row) → Contains all (m, x) → Held W m.site x.recall x.item × Ships W m.site x.item x.dest
  still_reason m x h = elim (Contains-append_cases new log (m, x) h) as (λ _. Held W m.site x.recall x.item × Ships W m.site x.item x.dest) [
    | inl now ↦
        let w = news_are s (next_message V s) r out m x now in
        let why = new_reason m x w in
        let at : s ≡ m.site = sym (ap (λ z. z.site) w.number) in (
          subst (λ z. Held W z x.recall x.item) at (subst (λ q. Held W s q x.item) (sym w.recall) why.0),
          subst (λ z. Ships W z x.item x.dest) at (ships_still s x.item x.dest why.2),
        )
    | inr old ↦ let why = g.reason m x old in (c.spreads.held_kept m.site x.recall x.item why.0, ships_still m.site x.item x.dest why.1)
  ]

  told_now : (q : Recall) (i : List ℕ) (u : ℕ) → q ≡ r → Contains out (u, i) → (n : ℕ) × Contains all (record { site = s; number = n }, record { dest = u; recall = q; item = i })
  told_now q i u of there =
      let e : slice_get out there.0 ≡ Some (u, i) = got_at out (u, i) there in
      let have = news_have s (next_message V s) r out there.0 (u, i) e in (
        next_message V s + there.0,
        among_new (record { site = s; number = next_message V s + there.0 }, record { dest = u; recall = q; item = i })
            (subst (λ z. Contains new (record { site = s; number = next_message V s + there.0 }, record { dest = u; recall = z; item = i })) (sym of) have),
      )

  still_told : (t : ℕ) (q : Recall) (i : List ℕ) (u : ℕ) → Held W t q i → Ships W t i u → (n : ℕ) × Contains all (record { site = t; number = n }, record { dest = u; recall = q; item = i })
  still_told t q i u h ships =
      let Told : Type 0 = (n : ℕ) × Contains all (record { site = t; number = n }, record { dest = u; recall = q; item = i }) in
      let shipped = shipped_before t i u ships in
      let before : Held V t q i → Told = λ was. let k = g.told t q i u was shipped in (k.0, among_old (record { site = t; number = k.0 }, record { dest = u; recall = q; item = i }) k.1) in
      elim (held (V t).quarantine q i) as (λ b. held (V t).quarantine q i ≡ b → Told) [
        | true ↦ before
        | false ↦ λ not. elim (c.spreads.held_origin t q i h) as (λ _. Told) [
          | inl was ↦ before was
          | inr now ↦
              let here : Held W s r i = subst (λ z. Held W z r i) now.0 (subst (λ z. Held W t z i) now.1 h) in
              let never : Held V s r i → ⊥ = λ was. let two : true ≡ false = sym (subst (λ z. Held V z q i) (sym now.0) (subst (λ z. Held V s z i) (sym now.1) was)) ∙ not in cc in
              let there = (c.exact u i).1 (here, never, subst (λ z. Ships V z i u) now.0 shipped) in
              subst (λ z. (n : ℕ) × Contains all (record { site = z; number = n }, record { dest = u; recall = q; item = i })) (sym now.0) (told_now q i u now.1 there)
        ]
      ] refl

  one_row_still : (m : Message) (x y : Row) → Contains all (m, x) → Contains all (m, y) → x ≡ y
  one_row_still m x y a b = elim (Contains-append_cases new log (m, x) a) as (λ _. x ≡ y) [
    | inl now ↦
        let w = news_are s (next_message V s) r out m x now in
        elim (Contains-append_cases new log (m, y) b) as (λ _. x ≡ y) [
          | inl too ↦
              let v = news_are s (next_message V s) r out m y too in
              let place : w.place ≡ v.place = omega (arith, ap (λ z. z.number) w.number, ap (λ z. z.number) v.number) in
              let same = same_Some (x.dest, x.item) (y.dest, y.item) (sym w.message ∙ ap (slice_get out) place ∙ v.message) in
              λ i. record { dest = (same i).0; recall = (w.recall ∙ sym v.recall) i; item = (same i).1 }
          | inr old ↦ absurd (apart m x y w old)
        ]
    | inr old ↦ elim (Contains-append_cases new log (m, y) b) as (λ _. x ≡ y) [
      | inl now ↦ absurd (apart m y x (news_are s (next_message V s) r out m y now) old)
      | inr too ↦ g.one_row m x y old too
    ]
  ]

  one_message_still : (m p : Message) (x : Row) → Contains all (m, x) → Contains all (p, x) → m.site ≡ p.site → m ≡ p
  one_message_still m p x a b same = elim (Contains-append_cases new log (m, x) a) as (λ _. m ≡ p) [
    | inl now ↦
        let w = news_are s (next_message V s) r out m x now in
        elim (Contains-append_cases new log (p, x) b) as (λ _. m ≡ p) [
          | inl too ↦
              let v = news_are s (next_message V s) r out p x too in
              let place = each_once out c.once w.place v.place (x.dest, x.item) w.message v.message in
              w.number ∙ ap (λ k. record { site = s; number = next_message V s + k }) place ∙ sym v.number
          | inr old ↦ absurd (told_twice m p x w old same)
        ]
    | inr old ↦ elim (Contains-append_cases new log (p, x) b) as (λ _. m ≡ p) [
      | inl now ↦ absurd (told_twice p m x (news_are s (next_message V s) r out p x now) old (sym same))
      | inr too ↦ g.one_message m p x old too same
    ]
  ]

  pub log_adds : (more : List (Message × Row)) × IsLog W more
  log_adds = (
    all,
    record {
      of_row = row_among;
      of_seen = seen_among;
      waits_or_seen = still_known;
      reason = still_reason;
      told = still_told;
      one_row = one_row_still;
      one_message = one_message_still;
    },
  )
