-- What taking a message leaves, which wasn't seen, and what it returns.
use Rattle.std.proofs.Common.{◌≡◌, ◌⊎◌, inl, inr, ℕ, Bool, true, false, List, length, Option, Some, None, refl, sym, ap, subst, ◌∙◌}
use Rattle.std.specs.FinMap.{FinMap, get, insert}
use Rattle.frame_core.specs.Numbers.{Recall, Message}
use Rattle.frame_core.specs.Identifiers.{recall_cmp}
use Rattle.frame_core.specs.Outboxes.{has_rows}
use Rattle.frame_core.specs.Laws.{IsRowOf}
use Rattle.frame_core.proofs.Deficits.{rows_are_found, found_rows}
use Rattle.frame_core.proofs.Lookups.{one_key, get_here, get_apart}
use Rattle.frame_core.specs.Orders.{recall_total, recall_exact, message_total, message_exact}
use Rattle.scholten_core.specs.declared.own_recalls.Own.{Own}
use Rattle.scholten_core.specs.declared.outcomes.Received.TheVariants.{Repeat}
use Rattle.scholten_core.specs.Engagement.{Engagement, live_own}
use Rattle.scholten_core.specs.Changes.{noted, engaged, at_first, received}
use Rattle.scholten_core.specs.Effects.{IsLive, Takes}
use Rattle.scholten_core.specs.Replies.{TellsTaken}
use Rattle.scholten_core.proofs.Beginning.{adds_rows}
use Rattle.scholten_core.proofs.Live.{live_is, not_live}

module _ (e : Engagement) (m : Message) (r : Recall) (out : List (ℕ × List ℕ)) (unseen : get e.seen m ≡ None) where
  -- all but the parents, whatever they become
  noted_takes : (parents : FinMap recall_cmp Message)
      → ((q : Recall) (p : Message) → get e.parents q ≡ Some p → get parents q ≡ Some p)
      → ((q : Recall) (p : Message) → get parents q ≡ Some p → (get e.parents q ≡ Some p) ⊎ ((q ≡ r) × (p ≡ m) × (IsLive e r → ⊥) × IsRowOf (noted e m r out).outbox r))
      → (IsRowOf (noted e m r out).outbox r → ((p : Message) × (get parents r ≡ Some p)) ⊎ IsLive e r)
      → Takes e (record (noted e m r out) { parents = parents }) m r out
  noted_takes parents kept origin engages = record {
    unseen = unseen;
    me = refl;
    rows = adds_rows e (record (noted e m r out) { parents = parents }) r out refl refl;
    next_recall = refl;
    seen_kept = λ p q is. elim (one_key message_total message_exact p m) [
      | inl same ↦ let twice : None ≡ Some q = sym unseen ∙ ap (get e.seen) (sym same) ∙ is in cc
      | inr ne ↦ get_apart message_total message_exact e.seen m r p ne ∙ is
    ];
    seen_origin = λ p q is. elim (one_key message_total message_exact p m) [
      | inl same ↦
          let here : Some r ≡ Some q = sym (get_here message_total message_exact e.seen m r) ∙ ap (get (insert e.seen m r)) (sym same) ∙ is in
          let one : q ≡ r = cc in
          inr (same, one)
      | inr ne ↦ inl (sym (get_apart message_total message_exact e.seen m r p ne) ∙ is)
    ];
    seen_new = get_here message_total message_exact e.seen m r;
    parent_kept = kept;
    parent_origin = origin;
    engages = engages;
    own = λ k. refl;
  }

  engaged_takes : (left : Bool) (parent : Option Message) (live : Option Own)
      → has_rows (noted e m r out).outbox r ≡ left → get e.parents r ≡ parent → live_own e r ≡ live
      → Takes e (engaged (noted e m r out) m r (length out) left parent live).0 m r out
  engaged_takes false parent live rows was lives =
      noted_takes e.parents (λ q p is. is) (λ q p is. inl is) (λ row. let some : has_rows (noted e m r out).outbox r ≡ true = found_rows (noted e m r out).outbox r row in cc)
  engaged_takes true (Some first) live rows was lives = noted_takes e.parents (λ q p is. is) (λ q p is. inl is) (λ row. inl (first, was))
  engaged_takes true None (Some own) rows was lives = noted_takes e.parents (λ q p is. is) (λ q p is. inl is) (λ row. inr (live_is e r own lives))
  engaged_takes true None None rows was lives =
      noted_takes (insert e.parents r m)
      (λ q p is. elim (one_key recall_total recall_exact q r) [
        | inl same ↦ let twice : None ≡ Some p = sym was ∙ ap (get e.parents) (sym same) ∙ is in cc
        | inr ne ↦ get_apart recall_total recall_exact e.parents r m q ne ∙ is
      ])
      (λ q p is. elim (one_key recall_total recall_exact q r) [
        | inl same ↦
            let here : Some m ≡ Some p = sym (get_here recall_total recall_exact e.parents r m) ∙ ap (get (insert e.parents r m)) (sym same) ∙ is in
            let one : p ≡ m = cc in
            inr (same, one, not_live e r lives, rows_are_found (noted e m r out).outbox r rows)
        | inr ne ↦ inl (sym (get_apart recall_total recall_exact e.parents r m q ne) ∙ is)
      ])
      (λ row. inl (m, get_here recall_total recall_exact e.parents r m))

  -- where no parent was written, the message is none
  stays_out : (get e.parents r ≡ None) × (get e.parents r ≡ Some m) → ⊥
  stays_out h = let twice : None ≡ Some m = sym h.0 ∙ h.1 in cc

  engaged_tells : (left : Bool) (parent : Option Message) (live : Option Own) → get e.parents r ≡ parent
      → TellsTaken e (engaged (noted e m r out) m r (length out) left parent live).0 m r (engaged (noted e m r out) m r (length out) left parent live).1
  engaged_tells false parent live was = (stays_out, refl)
  engaged_tells true (Some first) live was = (stays_out, refl)
  engaged_tells true None (Some own) was = (stays_out, refl)
  engaged_tells true None None was = ((was, get_here recall_total recall_exact e.parents r m), refl)

  pub unseen_is_taken : Takes e (received e m r out).0 m r out × TellsTaken e (received e m r out).0 m r (received e m r out).1
  unseen_is_taken =
      let next = noted e m r out in
      subst (λ s. Takes e (at_first e m r out s).0 m r out × TellsTaken e (at_first e m r out s).0 m r (at_first e m r out s).1) (sym unseen) (
        engaged_takes (has_rows next.outbox r) (get next.parents r) (live_own next r) refl refl refl,
        engaged_tells (has_rows next.outbox r) (get next.parents r) (live_own next r) refl,
      )

pub seen_is_repeat : (e : Engagement) (m : Message) (r : Recall) (out : List (ℕ × List ℕ)) (under : Recall) → get e.seen m ≡ Some under → received e m r out ≡ (e, Repeat)
seen_is_repeat e m r out under seen = ap (at_first e m r out) seen
