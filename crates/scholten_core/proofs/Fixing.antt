-- What begins, is taken or is cleared fixes the engagement afterwards: two that follow are found to have the same.
use Rattle.std.proofs.Common.{◌≡◌, ◌⊎◌, inl, inr, ℕ, zero, suc, ◌+◌, ◌-◌, ◌<◌, ◌≤◌, Bool, true, false, List, [], ◌∷◌, length, Option, Some, None, refl, sym, ap, ◌∙◌, arith}
use Rattle.std.specs.Prelude.{slice_get}
use Rattle.std.specs.declared.cmp.Ordering.{Ordering}
use Rattle.std.specs.Cmp.{IsTotalOrder, nat_cmp_total}
use Rattle.std.specs.FinMap.{FinMap, IsAntisymmetric, nat_cmp-IsAntisymmetric, get, same_map}
use Rattle.frame_core.specs.Numbers.{Recall, Message}
use Rattle.frame_core.specs.declared.rows.Row.{Row}
use Rattle.frame_core.specs.Laws.{IsRowOf, HasNoRows}
use Rattle.frame_core.proofs.Lookups.{one_key}
use Rattle.frame_core.proofs.Numbering.{new_row_below}
use Rattle.frame_core.specs.Orders.{recall_total, recall_exact, message_total, message_exact}
use Rattle.scholten_core.specs.declared.own_recalls.Own.{Own}
use Rattle.scholten_core.specs.Engagement.{Engagement}
use Rattle.scholten_core.specs.Effects.{AddsRows, Begins, Takes, Clears}

-- two answers that say the same where either says something
same_option : {A : Type 0} (a b : Option A) → ((x : A) → a ≡ Some x → b ≡ Some x) → ((x : A) → b ≡ Some x → a ≡ Some x) → a ≡ b
same_option None None there back = refl
same_option None (Some y) there back = back y refl
same_option (Some x) b there back = sym (there x refl)

-- so two maps are one
same_maps : {K X : Type 0} {R : K → K → Ordering} → IsTotalOrder R → IsAntisymmetric R → (m n : FinMap R X)
    → ((k : K) (x : X) → get m k ≡ Some x → get n k ≡ Some x) → ((k : K) (x : X) → get n k ≡ Some x → get m k ≡ Some x) → m ≡ n
same_maps o exact m n there back = same_map o exact m n (λ k. same_option (get m k) (get n k) (there k) (back k))

-- Rows.

below_or_from : (n k : ℕ) → (n < k) ⊎ (k ≤ n)
below_or_from n zero = inr (omega arith)
below_or_from zero (suc k) = inl (omega arith)
below_or_from (suc n) (suc k) = elim (below_or_from n k) [
  | inl below ↦ inl (omega (arith, below))
  | inr from ↦ inr (omega (arith, from))
]

reached : {A : Type 0} (xs : List A) (i : ℕ) → i < length xs → (x : A) × (slice_get xs i ≡ Some x)
reached [] i lt = absurd (omega (arith, lt))
reached (y ∷ xs) zero lt = (y, refl)
reached (y ∷ xs) (suc i) lt = reached xs i (omega (arith, lt))

module _ (old one two : Engagement) (r : Recall) (out : List (ℕ × List ℕ)) (a : AddsRows old one r out) (b : AddsRows old two r out) where
  same_next : one.next_message ≡ two.next_message
  same_next = a.next_message ∙ sym b.next_message

  -- at the number of a message both have its row
  told_there : (n : ℕ) (x : Row) (place : ℕ) (pair : ℕ × List ℕ) → n ≡ old.next_message + place → slice_get out place ≡ Some pair → get one.outbox n ≡ Some x → get two.outbox n ≡ Some x
  told_there n x place pair at said is =
      ap (get two.outbox) at ∙ b.row_told place pair said ∙ sym (a.row_told place pair said) ∙ ap (get one.outbox) (sym at) ∙ is

  -- a row of the one is one of the other
  row_there : (n : ℕ) (x : Row) → get one.outbox n ≡ Some x → get two.outbox n ≡ Some x
  row_there n x is = elim (below_or_from n old.next_message) [
    | inl below ↦ elim (a.row_origin n x is) [
      | inl before ↦ b.row_kept n x (inl below) before
      | inr new ↦ absurd (omega (arith, below, new.number))
    ]
    | inr above ↦ elim (below_or_from n one.next_message) [
      | inl new ↦
          let place = n - old.next_message in
          let said = reached out place (omega (arith, new, above, a.next_message)) in
          told_there n x place said.0 (omega (arith, above)) said.1 is
      | inr past ↦ elim (a.row_origin n x is) [
        | inl before ↦ b.row_kept n x (inr (omega (arith, past, same_next))) before
        | inr new ↦ absurd (omega (arith, past, new_row_below old.next_message r out n x new, a.next_message))
      ]
    ]
  ]

-- Beginning.

module _ (old one two : Engagement) (root : List ℕ) (out : List (ℕ × List ℕ)) (a : Begins old one root out) (b : Begins old two root out) where
  flag : (x y : Bool) → (x ≡ true → y ≡ true) → (y ≡ true → x ≡ true) → x ≡ y
  flag true y there back = sym (there refl)
  flag false true there back = back refl
  flag false false there back = refl

  begun_there : (k : ℕ) (o : Own) → get one.own k ≡ Some o → get two.own k ≡ Some o
  begun_there k o is = elim (one_key nat_cmp_total nat_cmp-IsAntisymmetric k old.next_recall) [
    | inl same ↦
        let mine = a.own_new in
        let other = b.own_new in
        let h : Some mine.0 ≡ Some o = sym mine.1 ∙ ap (get one.own) (sym same) ∙ is in
        let eq : mine.0 ≡ o = cc in
        let root_is : other.0.root ≡ mine.0.root = other.2.begun_with ∙ sym mine.2.begun_with in
        let ended_is : other.0.ended ≡ mine.0.ended = flag other.0.ended mine.0.ended (λ e. mine.2.ends_at_once.1 (other.2.ends_at_once.0 e)) (λ e. other.2.ends_at_once.1 (mine.2.ends_at_once.0 e)) in
        ap (get two.own) same ∙ other.1 ∙ (λ i. Some (record { root = root_is i; ended = ended_is i })) ∙ ap Some eq
    | inr ne ↦ elim (a.own_origin k o is) [
      | inl before ↦ b.own_kept k o ne before
      | inr new ↦ absurd (ne new.0)
    ]
  ]

pub begins_fixes : (old one two : Engagement) (root : List ℕ) (out : List (ℕ × List ℕ)) → Begins old one root out → Begins old two root out → one ≡ two
begins_fixes old one two root out a b =
    let r : Recall = record { site = old.me; number = old.next_recall } in
    let me = a.me ∙ sym b.me in
    let outbox = same_maps nat_cmp_total nat_cmp-IsAntisymmetric one.outbox two.outbox (row_there old one two r out a.rows b.rows) (row_there old two one r out b.rows a.rows) in
    let seen = same_map message_total message_exact one.seen two.seen (λ p. a.seen p ∙ sym (b.seen p)) in
    let parents = same_map recall_total recall_exact one.parents two.parents (λ q. a.parent q ∙ sym (b.parent q)) in
    let own = same_maps nat_cmp_total nat_cmp-IsAntisymmetric one.own two.own (begun_there old one two root out a b) (begun_there old two one root out b a) in
    let next_message = same_next old one two r out a.rows b.rows in
    let next_recall = a.next_recall ∙ sym b.next_recall in
    λ i. record { me = me i; outbox = outbox i; seen = seen i; parents = parents i; own = own i; next_message = next_message i; next_recall = next_recall i }

-- Taking.

module _ (old one two : Engagement) (m : Message) (r : Recall) (out : List (ℕ × List ℕ)) (a : Takes old one m r out) (b : Takes old two m r out) where
  seen_there : (p : Message) (q : Recall) → get one.seen p ≡ Some q → get two.seen p ≡ Some q
  seen_there p q is = elim (a.seen_origin p q is) [
    | inl before ↦ b.seen_kept p q before
    | inr new ↦ ap (get two.seen) new.0 ∙ b.seen_new ∙ ap Some (sym new.1)
  ]

  parent_there : (q : Recall) (p : Message) → get one.parents q ≡ Some p → get two.parents q ≡ Some p
  parent_there q p is = elim (a.parent_origin q p is) [
    | inl before ↦ b.parent_kept q p before
    | inr new ↦
        let row : IsRowOf two.outbox r = record { number = new.3.number; row = new.3.row; stands = row_there old one two r out a.rows b.rows new.3.number new.3.row new.3.stands; of_recall = new.3.of_recall } in
        elim (b.engages row) [
          | inl up ↦ ap (get two.parents) new.0 ∙ up.1 ∙ elim (b.parent_origin r up.0 up.1) [
            | inl before ↦ sym (a.parent_kept r up.0 before) ∙ ap (get one.parents) (sym new.0) ∙ is
            | inr same ↦ ap Some (same.1 ∙ sym new.1)
          ]
          | inr live ↦ absurd (new.2 live)
        ]
  ]

pub takes_fixes : (old one two : Engagement) (m : Message) (r : Recall) (out : List (ℕ × List ℕ)) → Takes old one m r out → Takes old two m r out → one ≡ two
takes_fixes old one two m r out a b =
    let me = a.me ∙ sym b.me in
    let outbox = same_maps nat_cmp_total nat_cmp-IsAntisymmetric one.outbox two.outbox (row_there old one two r out a.rows b.rows) (row_there old two one r out b.rows a.rows) in
    let seen = same_maps message_total message_exact one.seen two.seen (seen_there old one two m r out a b) (seen_there old two one m r out b a) in
    let parents = same_maps recall_total recall_exact one.parents two.parents (parent_there old one two m r out a b) (parent_there old two one m r out b a) in
    let own = same_map nat_cmp_total nat_cmp-IsAntisymmetric one.own two.own (λ k. a.own k ∙ sym (b.own k)) in
    let next_message = same_next old one two r out a.rows b.rows in
    let next_recall = a.next_recall ∙ sym b.next_recall in
    λ i. record { me = me i; outbox = outbox i; seen = seen i; parents = parents i; own = own i; next_message = next_message i; next_recall = next_recall i }

-- Clearing.

module _ (old one two : Engagement) (n : ℕ) (x : Row) (a : Clears old one n x) (b : Clears old two n x) where
  left_there : (k : ℕ) (y : Row) → get one.outbox k ≡ Some y → get two.outbox k ≡ Some y
  left_there k y is = elim (one_key nat_cmp_total nat_cmp-IsAntisymmetric k n) [
    | inl same ↦ let twice : None ≡ Some y = sym a.row_gone ∙ ap (get one.outbox) (sym same) ∙ is in cc
    | inr ne ↦ b.row_kept k y ne (a.row_origin k y is)
  ]

  kept_there : (q : Recall) (p : Message) → (HasNoRows two.outbox x.recall → HasNoRows one.outbox x.recall) → get one.parents q ≡ Some p → get two.parents q ≡ Some p
  kept_there q p none is = elim (b.parent_kept q p (a.parent_origin q p is)) [
    | inl kept ↦ kept
    | inr gone ↦ let twice : None ≡ Some p = sym (a.parent_gone (none gone.1)) ∙ ap (get one.parents) (sym gone.0) ∙ is in cc
  ]

  own_there : (k : ℕ) (p : Own) → ((e : HasNoRows one.outbox x.recall) → HasNoRows two.outbox x.recall) → (HasNoRows two.outbox x.recall → HasNoRows one.outbox x.recall) → get one.own k ≡ Some p → get two.own k ≡ Some p
  own_there k p there back is =
      let before = a.own_origin k p is in
      let after = b.own_kept k before.0 before.1 in
      let root : after.0.root ≡ p.root = after.2 ∙ sym before.2 in
      let ended : after.0.ended ≡ p.ended = elim before.3 [
        | inl as_was ↦ elim after.3 [
          | inl stays ↦ stays ∙ sym as_was
          | inr over ↦ over.0 ∙ sym (a.own_ended k p is (record { recall = over.1.recall; neutral = over.1.neutral; none_left = back over.1.none_left }))
        ]
        | inr over ↦ b.own_ended k after.0 after.1 (record { recall = over.1.recall; neutral = over.1.neutral; none_left = there over.1.none_left }) ∙ sym over.0
      ] in
      after.1 ∙ (λ i. Some (record { root = root i; ended = ended i }))

pub clears_fixes : (old one two : Engagement) (n : ℕ) (x : Row) → Clears old one n x → Clears old two n x → one ≡ two
clears_fixes old one two n x a b =
    let me = a.me ∙ sym b.me in
    let there : HasNoRows one.outbox x.recall → HasNoRows two.outbox x.recall = λ none k y is. none k y (left_there old two one n x b a k y is) in
    let back : HasNoRows two.outbox x.recall → HasNoRows one.outbox x.recall = λ none k y is. none k y (left_there old one two n x a b k y is) in
    let outbox = same_maps nat_cmp_total nat_cmp-IsAntisymmetric one.outbox two.outbox (left_there old one two n x a b) (left_there old two one n x b a) in
    let seen = same_map message_total message_exact one.seen two.seen (λ p. a.seen p ∙ sym (b.seen p)) in
    let parents = same_maps recall_total recall_exact one.parents two.parents (λ q p. kept_there old one two n x a b q p back) (λ q p. kept_there old two one n x b a q p there) in
    let own = same_maps nat_cmp_total nat_cmp-IsAntisymmetric one.own two.own (λ k p. own_there old one two n x a b k p there back) (λ k p. own_there old two one n x b a k p back there) in
    let next_message = a.next_message ∙ sym b.next_message in
    let next_recall = a.next_recall ∙ sym b.next_recall in
    λ i. record { me = me i; outbox = outbox i; seen = seen i; parents = parents i; own = own i; next_message = next_message i; next_recall = next_recall i }
