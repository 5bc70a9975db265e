-- A document has at most one outcome.
use Rattle.std.proofs.Common.{◌≡◌, ℕ, List, length, Option, Some, refl, sym, ap, subst, ◌∙◌, ⊎_elim, arith}
use Rattle.std.proofs.lemmas.Bool.{cases_lt}
use Rattle.std.proofs.lemmas.Cmp.{nat_list_cmp_total}
use Rattle.std.proofs.lemmas.Map.Lookups.{exact_bytes}
use Rattle.event_json.specs.Events.{Content}
use Rattle.frame_core.specs.Identifiers.{recall_cmp}
use Rattle.frame_core.specs.Numbers.{Recall}
use Rattle.frame_core.specs.Orders.{recall_total, recall_exact}
use Rattle.trace_core.specs.declared.adding.Standing.TheVariants.{Fresh, Taken}
use Rattle.trace_core.specs.Sites.{SiteEvents}
use Rattle.site_core.specs.Capturing.{IsBlockedBy, IsFirstBlock, IsReason, Reason, taken, blocked, site_before, IsRefusedAt}
use Rattle.site_core.specs.CapturingLaws.{EventsHaveOneOutcome}
use Rattle.site_core.specs.Quarantines.{Quarantine, item_cmp}
use Rattle.site_core.proofs.Ascending.{neither_above}
use Rattle.site_core.proofs.Captures.{none_refused}
use Rattle.site_core.proofs.Places.{stands_within}

one_item : (s : SiteEvents) (q : Quarantine) (e : Content) (i j : List ℕ) (r t : Recall) → IsFirstBlock s q e i r → IsFirstBlock s q e j t → i ≡ j
one_item s q e i j r t a b = exact_bytes i j (neither_above item_cmp nat_list_cmp_total i j (a.least_item j t b.blocked) (b.least_item i r a.blocked))

one_recall : (s : SiteEvents) (q : Quarantine) (e : Content) (i j : List ℕ) (r t : Recall) → IsFirstBlock s q e i r → IsFirstBlock s q e j t → i ≡ j → r ≡ t
one_recall s q e i j r t a b same = recall_exact r t (neither_above recall_cmp recall_total r t
    (a.least_recall t (subst (λ (k : List ℕ). IsBlockedBy s q e k t) (sym same) b.blocked))
    (b.least_recall r (subst (λ (k : List ℕ). IsBlockedBy s q e k r) same a.blocked)))

one_reason : (s : SiteEvents) (q : Quarantine) (e : Content) (a b : Reason) → IsReason s q e a → IsReason s q e b → a ≡ b
one_reason s q e taken taken h k = refl
one_reason s q e taken (blocked r i) h (fresh, first) = let both : Taken ≡ Fresh = sym h ∙ fresh in cc
one_reason s q e (blocked r i) taken (fresh, first) k = let both : Taken ≡ Fresh = sym k ∙ fresh in cc
one_reason s q e (blocked r i) (blocked t j) (fresh, first) (also, other) =
    let same : i ≡ j = one_item s q e i j r t first other in
    ap (λ (k : List ℕ). blocked r k) same ∙ ap (λ (u : Recall). blocked u j) (one_recall s q e i j r t first other same)

same_event : (x y : Content) (o : Option Content) → o ≡ Some x → o ≡ Some y → x ≡ y
same_event x y o h k = cc

one_at : (s : SiteEvents) (q : Quarantine) (given : List Content) (place : ℕ) (a b : Reason) → IsRefusedAt s q given place a → IsRefusedAt s q given place b → a ≡ b
one_at s q given place a b h k =
    one_reason (site_before s given place) q h.event a b h.refused (subst (λ e. IsReason (site_before s given place) q e b) (same_event k.event h.event _ k.stands h.stands) k.refused)

pub one_outcome : EventsHaveOneOutcome
one_outcome s q given = record {
  one_addition = λ a b h k. h.kept ∙ sym k.kept;
  not_both = λ a place reason h k. none_refused s q given (length given) h.all_pass place reason (stands_within given place k.refused.event k.refused.stands) k.refused;
  one_refusal = λ place other reason why h k.
      let same : place ≡ other = ⊎_elim
      (λ before. absurd (k.first place reason before h.refused))
      (λ past. ⊎_elim (λ before. absurd (h.first other why before k.refused)) (λ back. omega (arith, past, back)) (cases_lt other place))
      (cases_lt place other) in
      (same, one_at s q given other reason why (subst (λ n. IsRefusedAt s q given n reason) same h.refused) k.refused);
}
