-- While a recall is live, some frame of it is waiting that changes something: a message that its site hasn't seen, or
-- the signal of one that was seen and is no parent. It is found by a walk from the initiator along messages that are
-- parents, which can't be longer than there are sites.
use Rattle.std.proofs.Common.{◌≡◌, ◌≢◌, ℕ, zero, suc, ◌+◌, ◌<◌, true, false, List, Option, Some, None, refl, sym, ap, ◌∙◌, subst, arith}
use Rattle.frame_core.specs.Identifiers.{same_message}
use Rattle.frame_core.specs.Numbers.{Recall, Message}
use Rattle.frame_core.specs.declared.rows.Row.{Row}
use Rattle.frame_core.proofs.Sameness.{one_message, equal_messages}
use Rattle.site_recovery.specs.Fit.{Fit, Climbs, IsAnswered, IsEngaged}
use Rattle.site_recovery.specs.Looks.{World, row, seen, parent}
use Rattle.site_recovery.proofs.Climbing.{climbs_short}

-- the site has a row of the recall
pub record HasRowOf (W : World) (s : ℕ) (r : Recall) : Type 0 where
  pub number : ℕ
  pub row_there : Row
  pub stands : row W s number ≡ Some row_there
  pub of_recall : row_there.recall ≡ r

-- the frame that is waiting
pub data Waiting (W : World) (r : Recall) : Type 0 where
  message : (s n t : ℕ) (i : List ℕ) → row W s n ≡ Some (record { dest = t; recall = r; item = i }) → seen W t (record { site = s; number = n }) ≡ None → Waiting W r
  signal : (s n t : ℕ) (i : List ℕ) → row W s n ≡ Some (record { dest = t; recall = r; item = i }) → IsAnswered W t (record { site = s; number = n }) → Waiting W r

named_row : (W : World) (r : Recall) (s n : ℕ) (x : Row) → row W s n ≡ Some x → x.recall ≡ r → row W s n ≡ Some (record { dest = x.dest; recall = r; item = x.item })
named_row W r s n x stands of = stands ∙ (λ i. Some (record { dest = x.dest; recall = of i; item = x.item }))

module _ (W : World) (r : Recall) (f : Fit W) (sites : ℕ) (below : (s : ℕ) (m : Message) → parent W s r ≡ Some m → s < sites) (awaits : (s : ℕ) → IsEngaged W s r → HasRowOf W s r) where
  -- a message that isn't the parent of its recall is the parent of none
  free : (s n : ℕ) (x : Row) (p : Option Message) → row W s n ≡ Some x → x.recall ≡ r → parent W x.dest r ≡ p → p ≢ Some (record { site = s; number = n })
      → (q : Recall) → parent W x.dest q ≢ Some (record { site = s; number = n })
  free s n x p stands of at other q is =
      let up = (f.parents_stand x.dest q (record { site = s; number = n }) is).1 in
      let same : Some x ≡ Some up.0 = sym stands ∙ up.1 in
      let row_is : x ≡ up.0 = cc in
      let its : q ≡ r = sym up.3 ∙ ap (λ (y : Row). y.recall) (sym row_is) ∙ of in
      other (sym at ∙ subst (λ (z : Recall). parent W x.dest z ≡ Some (record { site = s; number = n })) its is)

  -- at a row whose message was seen
  module _ (s n : ℕ) (x : Row) (stands : row W s n ≡ Some x) (of : x.recall ≡ r) (q : Recall) (saw : seen W x.dest (record { site = s; number = n }) ≡ Some q) where
    signal_waits : (p : Option Message) → parent W x.dest r ≡ p → p ≢ Some (record { site = s; number = n }) → Waiting W r
    signal_waits p at other = signal s n x.dest x.item (named_row W r s n x stands of) ((q, saw), free s n x p stands of at other)

  find : (fuel k s : ℕ) → Climbs W r k s → sites < k + fuel → HasRowOf W s r → Waiting W r
  find zero k s c far h = absurd (let short = climbs_short W r sites below k s c in omega (arith, short, far))
  find (suc fuel) k s c far h =
      let n = h.number in
      let x = h.row_there in
      let m : Message = record { site = s; number = n } in
      elim (seen W x.dest m) as (λ o. seen W x.dest m ≡ o → Waiting W r) [
        | None ↦ λ is. message s n x.dest x.item (named_row W r s n x h.stands h.of_recall) is
        | Some q ↦ λ is. elim (parent W x.dest r) as (λ o. parent W x.dest r ≡ o → Waiting W r) [
          | None ↦ λ at. signal_waits s n x h.stands h.of_recall q is None at (λ e. cc)
          | Some p ↦ λ at. elim (same_message p m) as (λ b. same_message p m ≡ b → Waiting W r) [
            | false ↦ λ differ. signal_waits s n x h.stands h.of_recall q is (Some p) at (λ e. let same : p ≡ m = cc in let equal = equal_messages p m same in let twice : false ≡ true = sym differ ∙ equal in cc)
            | true ↦ λ same.
                let here : parent W x.dest r ≡ Some m = at ∙ ap Some (one_message p m same) in
                let away : x.dest ≢ r.site = (f.parents_lead_home x.dest r m here).0 in
                find fuel (suc k) x.dest (m, here, c, away) (omega (arith, far)) (awaits x.dest (m, here))
          ] refl
        ] refl
      ] refl

  pub next_frame : HasRowOf W r.site r → Waiting W r
  next_frame h = find (suc sites) zero r.site refl (omega arith) h
