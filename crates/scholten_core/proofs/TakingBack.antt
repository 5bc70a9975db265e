-- Changes that are taken back, where they came at free numbers.
use Rattle.std.proofs.Common.{◌≡◌, ℕ, ◌+◌, ◌==◌, Bool, true, false, List, length, Option, Some, None, refl, sym, ap, ◌∙◌, arith}
use Rattle.std.specs.Ordering.{nat_cmp}
use Rattle.std.specs.Cmp.{nat_cmp_total}
use Rattle.std.specs.FinMap.{FinMap, nat_cmp-IsAntisymmetric, get, remove}
use Rattle.frame_core.specs.Identifiers.{recall_cmp, message_cmp}
use Rattle.frame_core.specs.Numbers.{Recall, Message}
use Rattle.frame_core.specs.Orders.{recall_total, recall_exact, message_total, message_exact}
use Rattle.frame_core.specs.Outboxes.{has_rows}
use Rattle.frame_core.specs.declared.rows.Row.{Row}
use Rattle.frame_core.proofs.Below.{free_number}
use Rattle.frame_core.proofs.Maps.{removed_again}
use Rattle.scholten_core.specs.Changes.{begun, noted, with_parent, engaged, at_first, received}
use Rattle.scholten_core.specs.Engagement.{Engagement, live_own}
use Rattle.scholten_core.specs.FreeNumbers.{HasFreeNumbers}
use Rattle.scholten_core.specs.declared.outcomes.Received.{Received}
use Rattle.scholten_core.specs.declared.outcomes.Received.TheVariants.{Repeat, Owe, SignalNow}
use Rattle.scholten_core.specs.declared.own_recalls.Own.{Own}

-- without the own recall that began, its rows and its number
pub begun_back : (old now : Engagement) (root : List ℕ) (out : List (ℕ × List ℕ)) (rows : FinMap nat_cmp Row) (own : FinMap nat_cmp Own) (first next : ℕ)
    → HasFreeNumbers old → now ≡ begun old root out → rows ≡ old.outbox → own ≡ remove now.own next → first ≡ old.next_message → next + 1 ≡ now.next_recall
    → (let e : Engagement = record { me = now.me; outbox = rows; seen = now.seen; parents = now.parents; own = own; next_message = first; next_recall = next } in e) ≡ old
begun_back old now root out rows own first next free is rows_back own_back first_back next_back =
    let number : next ≡ old.next_recall = omega (arith, next_back, ap (λ (e : Engagement). e.next_recall) is) in
    let same : own ≡ old.own =
    own_back
    ∙ ap (remove now.own) number
    ∙ ap (λ (e : Engagement). remove e.own old.next_recall) is
    ∙ removed_again nat_cmp_total nat_cmp-IsAntisymmetric old.own old.next_recall (record { root = root; ended = length out == 0 }) (free_number old.own old.next_recall old.next_recall free.own (omega arith)) in
    λ i. record { me = (is i).me; outbox = rows_back i; seen = (is i).seen; parents = (is i).parents; own = same i; next_message = first_back i; next_recall = number i }

-- without the message that was noted, and its rows
pub noted_back : (old now : Engagement) (m : Message) (r : Recall) (out : List (ℕ × List ℕ)) (rows : FinMap nat_cmp Row) (seen : FinMap message_cmp Recall) (first : ℕ)
    → get old.seen m ≡ None → now ≡ noted old m r out → rows ≡ old.outbox → seen ≡ remove now.seen m → first ≡ old.next_message
    → (let e : Engagement = record { me = now.me; outbox = rows; seen = seen; parents = now.parents; own = now.own; next_message = first; next_recall = now.next_recall } in e) ≡ old
noted_back old now m r out rows seen first unseen is rows_back seen_back first_back =
    let same : seen ≡ old.seen =
    seen_back ∙ ap (λ (e : Engagement). remove e.seen m) is ∙ removed_again message_total message_exact old.seen m r unseen in
    λ i. record { me = (is i).me; outbox = rows_back i; seen = same i; parents = (is i).parents; own = (is i).own; next_message = first_back i; next_recall = (is i).next_recall }

-- without the parent that the message became
pub parent_back : (old now : Engagement) (m : Message) (r : Recall) (out : List (ℕ × List ℕ)) (parents : FinMap recall_cmp Message)
    → get old.parents r ≡ None → now ≡ with_parent (noted old m r out) r m → parents ≡ remove now.parents r
    → (let e : Engagement = record { me = now.me; outbox = now.outbox; seen = now.seen; parents = parents; own = now.own; next_message = now.next_message; next_recall = now.next_recall } in e) ≡ noted old m r out
parent_back old now m r out parents none is parents_back =
    let same : parents ≡ old.parents =
    parents_back ∙ ap (λ (e : Engagement). remove e.parents r) is ∙ removed_again recall_total recall_exact old.parents r m none in
    λ i. record { me = (is i).me; outbox = (is i).outbox; seen = (is i).seen; parents = same i; own = (is i).own; next_message = (is i).next_message; next_recall = (is i).next_recall }

-- What an answer says of the change that it came of.

-- a message that became the parent wasn't seen, and there was no parent
pub record HasEngaged (old now : Engagement) (m : Message) (r : Recall) (out : List (ℕ × List ℕ)) : Type 0 where
  pub unseen : get old.seen m ≡ None
  pub no_parent : get old.parents r ≡ None
  pub is : now ≡ with_parent (noted old m r out) r m

-- one whose signal is due wasn't seen
pub record HasNoted (old now : Engagement) (m : Message) (r : Recall) (out : List (ℕ × List ℕ)) : Type 0 where
  pub unseen : get old.seen m ≡ None
  pub is : now ≡ noted old m r out

abbrev Tells : Engagement → Engagement → Message → Recall → List (ℕ × List ℕ) → Received → Type 0
Tells old now m r out Repeat = now ≡ old
Tells old now m r out (Owe n) = HasEngaged old now m r out
Tells old now m r out (SignalNow n) = HasNoted old now m r out

module _ (old now : Engagement) (m : Message) (r : Recall) (out : List (ℕ × List ℕ)) where
  of_engaged : (answer : Received) (left : Bool) (parent : Option Message) (live : Option Own) → get old.seen m ≡ None → get old.parents r ≡ parent
      → engaged (noted old m r out) m r (length out) left parent live ≡ (now, answer) → Tells old now m r out answer
  of_engaged Repeat false parent live unseen was h = let same : SignalNow (length out) ≡ Repeat = ap (λ p. p.1) h in absurd cc
  of_engaged Repeat true (Some first) live unseen was h = let same : SignalNow (length out) ≡ Repeat = ap (λ p. p.1) h in absurd cc
  of_engaged Repeat true None (Some own) unseen was h = let same : SignalNow (length out) ≡ Repeat = ap (λ p. p.1) h in absurd cc
  of_engaged Repeat true None None unseen was h = let same : Owe (length out) ≡ Repeat = ap (λ p. p.1) h in absurd cc
  of_engaged (Owe n) false parent live unseen was h = let same : SignalNow (length out) ≡ Owe n = ap (λ p. p.1) h in absurd cc
  of_engaged (Owe n) true (Some first) live unseen was h = let same : SignalNow (length out) ≡ Owe n = ap (λ p. p.1) h in absurd cc
  of_engaged (Owe n) true None (Some own) unseen was h = let same : SignalNow (length out) ≡ Owe n = ap (λ p. p.1) h in absurd cc
  of_engaged (Owe n) true None None unseen was h = record { unseen = unseen; no_parent = was; is = sym (ap (λ p. p.0) h) }
  of_engaged (SignalNow n) false parent live unseen was h = record { unseen = unseen; is = sym (ap (λ p. p.0) h) }
  of_engaged (SignalNow n) true (Some first) live unseen was h = record { unseen = unseen; is = sym (ap (λ p. p.0) h) }
  of_engaged (SignalNow n) true None (Some own) unseen was h = record { unseen = unseen; is = sym (ap (λ p. p.0) h) }
  of_engaged (SignalNow n) true None None unseen was h = let same : Owe (length out) ≡ SignalNow n = ap (λ p. p.1) h in absurd cc

  of_first : (answer : Received) (before : Option Recall) → get old.seen m ≡ before → at_first old m r out before ≡ (now, answer) → Tells old now m r out answer
  of_first Repeat (Some under) was h = sym (ap (λ p. p.0) h)
  of_first (Owe n) (Some under) was h = let same : Repeat ≡ Owe n = ap (λ p. p.1) h in absurd cc
  of_first (SignalNow n) (Some under) was h = let same : Repeat ≡ SignalNow n = ap (λ p. p.1) h in absurd cc
  of_first answer None was h =
      let next = noted old m r out in
      of_engaged answer (has_rows next.outbox r) (get next.parents r) (live_own next r) was refl h

  pub is_repeat : received old m r out ≡ (now, Repeat) → now ≡ old
  is_repeat h = of_first Repeat (get old.seen m) refl h

  pub has_engaged : (n : ℕ) → received old m r out ≡ (now, Owe n) → HasEngaged old now m r out
  has_engaged n h = of_first (Owe n) (get old.seen m) refl h

  pub has_noted : (n : ℕ) → received old m r out ≡ (now, SignalNow n) → HasNoted old now m r out
  has_noted n h = of_first (SignalNow n) (get old.seen m) refl h
