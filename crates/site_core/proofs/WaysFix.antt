-- The ways of a step fix the record afterwards, among those that keep no recall without items.
use Rattle.std.proofs.Common.{◌≡◌, ◌⊎◌, ◌↔◌, inl, inr, ℕ, List, length, sym, ap, subst, ◌∙◌}
use Rattle.std.specs.Cmp.Lexicographic.{nat_list_cmp_total}
use Rattle.std.proofs.lemmas.Map.Lookups.{exact_bytes}
use Rattle.frame_core.specs.Numbers.{Recall}
use Rattle.scholten_core.specs.Effects as effects
use Rattle.scholten_core.proofs.Fixing.{begins_fixes, takes_fixes, clears_fixes}
use Rattle.site_core.specs.Quarantines.{HasNoEmptySet, item_cmp}
use Rattle.site_core.specs.Records.{Record}
use Rattle.site_core.specs.Shipments.{shipment_cmp}
use Rattle.site_core.specs.StepLaws.{OpensFixes, TakesFixes, ClearsFixes, CountIsFixed}
use Rattle.site_core.specs.Ways.{Holds, Spreads, Quarantines}
use Rattle.site_core.proofs.Ascending.{same_ascending}
use Rattle.site_core.proofs.HeldLaws.{held_is_all}
use Rattle.site_core.proofs.SameLists.{both, shipment_total, shipment_exact}

module _ (s t : Record) (r : Recall) (i : List ℕ) (a : Quarantines s t r i) where
  -- what is held afterwards is what was held, and the spread
  holds_after : (q : Recall) (j : List ℕ) → Holds t q j ↔ (Holds s q j ⊎ ((q ≡ r) × Spreads s i j))
  holds_after q j = (
    a.held_origin q j,
    λ either. elim either [
      | inl before ↦ a.held_kept q j before
      | inr new ↦ subst (λ z. Holds t z j) (sym new.0) (a.held_spread j new.1)
    ],
  )

module _ (s t u : Record) (r : Recall) (i : List ℕ) (a : Quarantines s t r i) (b : Quarantines s u r i) where
  same_held : (q : Recall) (j : List ℕ) → Holds t q j ↔ Holds u q j
  same_held q j = both (holds_after s t r i a q j) (holds_after s u r i b q j)

  same_record : HasNoEmptySet t.quarantine → HasNoEmptySet u.quarantine → t.engagement ≡ u.engagement → t ≡ u
  same_record full_t full_u engagement =
      let sites = a.sites ∙ sym b.sites in
      let captured = a.captured ∙ sym b.captured in
      let quarantine = held_is_all t.quarantine u.quarantine full_t full_u same_held in
      λ k. record { sites = sites k; captured = captured k; quarantine = quarantine k; engagement = engagement k }

pub opens_fixes : OpensFixes
opens_fixes s t u root full_t full_u a b =
    let out = same_ascending shipment_cmp shipment_total shipment_exact a.out b.out a.once b.once (λ x. both (a.exact x.0 x.1) (b.exact x.0 x.1)) in
    same_record s t u _ root a.quarantines b.quarantines full_t full_u
    (begins_fixes s.engagement t.engagement u.engagement root b.out (subst (effects.Begins s.engagement t.engagement root) out a.begins) b.begins)

pub message_fixes : TakesFixes
message_fixes s t u m r i full_t full_u a b =
    let held = same_held s t u r i a.quarantines b.quarantines r in
    let out = same_ascending shipment_cmp shipment_total shipment_exact a.out b.out a.once b.once (λ x. (
      λ there. let (is, new, to) = (a.exact x.0 x.1).0 there in (b.exact x.0 x.1).1 ((held x.1).0 is, new, to),
      λ there. let (is, new, to) = (b.exact x.0 x.1).0 there in (a.exact x.0 x.1).1 ((held x.1).1 is, new, to),
    )) in
    same_record s t u r i a.quarantines b.quarantines full_t full_u
    (takes_fixes s.engagement t.engagement u.engagement m r b.out (subst (effects.Takes s.engagement t.engagement m r) out a.takes) b.takes)

pub row_fixes : ClearsFixes
row_fixes s t u n x a b =
    let sites = a.sites ∙ sym b.sites in
    let captured = a.captured ∙ sym b.captured in
    let quarantine = a.quarantine ∙ sym b.quarantine in
    let engagement = clears_fixes s.engagement t.engagement u.engagement n x a.clears b.clears in
    λ k. record { sites = sites k; captured = captured k; quarantine = quarantine k; engagement = engagement k }

pub count_is_fixed : CountIsFixed
count_is_fixed s t r n k a b =
    a.count_is ∙ ap length (same_ascending item_cmp nat_list_cmp_total exact_bytes a.items b.items a.once b.once (λ j. both (a.exact j) (b.exact j))) ∙ sym b.count_is
