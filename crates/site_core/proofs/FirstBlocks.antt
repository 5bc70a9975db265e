-- A block is named by the least item, and then by the least recall.
use Rattle.std.proofs.Common.{◌≡◌, ◌≢◌, ◌⊎◌, inl, inr, ℕ, List, [], ◌∷◌, Option, Some, refl, sym, ap, subst, ◌∙◌, arith}
use Rattle.std.specs.Prelude.{IsTrue}
use mathlib.Core.Bool.{true≢false}
use Rattle.std.specs.Ordering.{nat_cmp, ordering_then, ordering_reverse, is_gt}
use Rattle.std.specs.declared.cmp.Ordering.{Ordering}
use Rattle.std.specs.declared.cmp.Ordering.TheVariants.{Less, Equal, Greater}
use Rattle.std.proofs.lemmas.Cmp.{by_ranked, ranked}
use Rattle.std.proofs.lemmas.List.Elements.{Contains-append_right}
use Rattle.std.proofs.lemmas.Map.Lookups.{exact_bytes}
use Rattle.event_json.specs.Events.{Content}
use Rattle.frame_core.specs.Identifiers.{recall_cmp}
use Rattle.frame_core.specs.Numbers.{Recall}
use Rattle.frame_core.specs.Orders.{recall_exact}
use Rattle.trace_core.proofs.Members.{contains_here}
use Rattle.trace_core.proofs.OrderLaws.{item_below, item_less}
use Rattle.trace_core.proofs.PairLaws.{ship_relates}
use Rattle.trace_core.specs.Laws.{IsItemBelow}
use Rattle.trace_core.specs.Sites.{SiteEvents}
use Rattle.trace_core.specs.Spreads.{with_event}
use Rattle.site_core.specs.Capturing.{IsBlockedBy, IsFirstBlock, site_before}
use Rattle.site_core.specs.CapturingLaws.{LeadsOut, IsRecallBelow, IsNamedBefore, IsShippedAnew, BlocksNameTheLeast, ShipmentsNameTheLesser}
use Rattle.site_core.specs.Quarantines.{Quarantine, held, item_cmp}
use Rattle.site_core.proofs.ItemOrder.{item_total}

recall_below : (r t : Recall) → recall_cmp r t ≡ Less → IsRecallBelow r t
recall_below r t e =
    let then : (o : Ordering) → nat_cmp r.site t.site ≡ o → ordering_then o (nat_cmp r.number t.number) ≡ Less = λ o is. sym (ap (λ n. ordering_then n (nat_cmp r.number t.number)) is) ∙ e in
    by_ranked _ _ _ (nat_cmp r.site t.site) (ranked r.site t.site _ refl)
    (λ is l. inl l)
    (λ is l. inr (
      l,
      by_ranked _ _ _ (nat_cmp r.number t.number) (ranked r.number t.number _ refl)
          (λ less below. below)
          (λ tie same. let both : Equal ≡ Less = sym tie ∙ then Equal is in cc)
          (λ more above. let both : Greater ≡ Less = sym more ∙ then Equal is in cc),
    ))
    (λ is l. absurd (true≢false (ap is_gt (then Greater is))))

up_to_recall : (r t : Recall) → recall_cmp r t ≢ Greater → (r ≡ t) ⊎ IsRecallBelow r t
up_to_recall r t not_above = elim (recall_cmp r t) as (λ o. recall_cmp r t ≡ o → (r ≡ t) ⊎ IsRecallBelow r t) [
  | Less ↦ λ is. inr (recall_below r t is)
  | Equal ↦ λ is. inl (recall_exact r t is)
  | Greater ↦ λ is. absurd (not_above is)
] refl

module _ (s : SiteEvents) (q : Quarantine) (e : Content) where
  leading : (r : Recall) (i : List ℕ) → LeadsOut s q e r i → IsBlockedBy s q e i r
  leading r i h = record { source = h.source; target = h.target; new = (h.added, h.new); leaves = h.leaves }

  named_before : (r : Recall) (i : List ℕ) → IsFirstBlock s q e i r → (t : Recall) (j : List ℕ) → IsBlockedBy s q e j t → IsNamedBefore i r j t
  named_before r i first t j other = elim (item_cmp i j) as (λ o. item_cmp i j ≡ o → IsNamedBefore i r j t) [
    | Less ↦ λ is. inl (item_below i j is)
    | Equal ↦ λ is.
        let same : i ≡ j = exact_bytes i j is in
        inr (same, up_to_recall r t (first.least_recall t (subst (λ (k : List ℕ). IsBlockedBy s q e k t) (sym same) other)))
    | Greater ↦ λ is. absurd (first.least_item j t other is)
  ] refl

same_event : (x y : Content) (o : Option Content) → o ≡ Some x → o ≡ Some y → x ≡ y
same_event x y o h k = cc

pub blocks_name_the_least : BlocksNameTheLeast
blocks_name_the_least s q given place r i e h at t j leads =
    let same : h.refused.event ≡ e = same_event h.refused.event e _ h.refused.stands at in
    let before = site_before s given place in
    named_before before q e r i (subst (λ (x : Content). IsFirstBlock before q x i r) same h.refused.refused.1) t j (leading before q e t j leads)

-- Neither order is both ways round.

below_not_above : (i j : List ℕ) → IsItemBelow i j → IsItemBelow j i → ⊥
below_not_above i j below above =
    let turned : item_cmp i j ≡ ordering_reverse (item_cmp j i) = item_total.antisymm i j in
    let less : item_cmp i j ≡ Less = item_less i j below in
    let back : ordering_reverse (item_cmp j i) ≡ Greater = ap ordering_reverse (item_less j i above) in
    let both : Less ≡ Greater = sym less ∙ turned ∙ back in cc

not_below_itself : (i j : List ℕ) → i ≡ j → IsItemBelow i j → ⊥
not_below_itself i j same below =
    let itself : IsItemBelow i i = subst (λ (k : List ℕ). IsItemBelow i k) (sym same) below in
    below_not_above i i itself itself

recall_not_above : (r t : Recall) → IsRecallBelow r t → IsRecallBelow t r → ⊥
recall_not_above r t (inl a) (inl b) = omega (arith, a, b)
recall_not_above r t (inl a) (inr (b, _)) = omega (arith, a, b)
recall_not_above r t (inr (a, _)) (inl b) = omega (arith, a, b)
recall_not_above r t (inr (_, a)) (inr (_, b)) = omega (arith, a, b)

recall_not_below_itself : (r t : Recall) → t ≡ r → IsRecallBelow r t → ⊥
recall_not_below_itself r t same below =
    let itself : IsRecallBelow r r = subst (λ (u : Recall). IsRecallBelow r u) same below in
    recall_not_above r r itself itself

module _ (s : SiteEvents) (q : Quarantine) (given : List Content) (place : ℕ) (i : List ℕ) (r : Recall) where
  shipped_out : (h : IsShippedAnew s given place i) → IsTrue (held q r i) → LeadsOut (site_before s given place) q h.event r i
  shipped_out h source =
      let before = site_before s given place in
      record {
        source = source;
        target = record { site = h.to; item = i };
        added = ship_relates (with_event before h.event) h.event h.items h.sites h.outside i h.to (Contains-append_right before.events (h.event ∷ []) h.event (contains_here h.event [])) h.says h.listed h.goes h.elsewhere;
        new = h.new;
        leaves = λ (is, _). h.elsewhere is;
      }

  item_first : (j : List ℕ) (t : Recall) → IsNamedBefore j t i r → IsItemBelow i j → ⊥
  item_first j t (inl above) below = below_not_above i j below above
  item_first j t (inr (same, _)) below = not_below_itself i j (sym same) below

  recall_first : (j : List ℕ) (t : Recall) → IsNamedBefore j t i r → i ≡ j → IsRecallBelow r t → ⊥
  recall_first j t (inl above) same below = not_below_itself j i (sym same) above
  recall_first j t (inr (_, inl one)) same below = recall_not_below_itself r t one below
  recall_first j t (inr (_, inr above)) same below = recall_not_above r t below above

pub shipments_name_the_lesser : ShipmentsNameTheLesser
shipments_name_the_lesser s q given place i j r t h source refused =
    let named = blocks_name_the_least s q given place t j h.event refused h.stands r i (shipped_out s q given place i r h source) in
    (item_first s q given place i r j t named, recall_first s q given place i r j t named)
