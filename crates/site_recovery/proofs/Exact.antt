-- What is quarantined under an ended recall, in the words of related pairs of sites.
use Rattle.std.proofs.Common.{◌≡◌, ◌⊎◌, ◌↔◌, inl, inr, ℕ, ◌<◌, ◌≤◌, List, [], length, get_or, Some, true, false, refl, sym, ap, ◌∙◌, subst, arith, ltb}
use Rattle.std.specs.List.{Any}
use Rattle.std.specs.Prelude.{IsTrue}
use Rattle.std.proofs.lemmas.List.{get_or-map, get_or_past, length-map}
use Rattle.event_json.specs.Events.{Content}
use Rattle.frame_core.specs.Numbers.{Recall}
use Rattle.scholten_core.specs.declared.own_recalls.Own.{Own}
use Rattle.trace_core.specs.Chains.{Related}
use Rattle.trace_core.specs.Pairs.{IsRelated}
use Rattle.trace_core.specs.Relations.{Reaches}
use Rattle.trace_core.specs.Sites.{SiteEvents}
use Rattle.trace_core.specs.declared.pairs.Pair.{Pair}
use Rattle.trace_core.proofs.ChainLaws.{reach_widens}
use Rattle.site_core.specs.Records.{Record, fresh}
use Rattle.site_recovery.specs.Fit.{Fit, LeadsTo}
use Rattle.site_recovery.specs.Laws.{AreInPlace, captured_of}
use Rattle.site_recovery.specs.Looks.{world_of, Held, own}
use Rattle.site_recovery.proofs.Parents.{exact_end}

pub within_or_past : (a b : ℕ) → (a < b) ⊎ (b ≤ a)
within_or_past a b = elim (ltb a b) as (λ t. ltb a b ≡ t → (a < b) ⊎ (b ≤ a)) [
  | true ↦ λ e. inl (grind arith)
  | false ↦ λ e. inr (grind arith)
] refl

module _ (records : List Record) (places : AreInPlace records) where
  counted : length (captured_of records) ≡ length records
  counted = length-map records (λ r. r.captured)

  captured_at : (s : ℕ) (c : SiteEvents) → s < length records → get_or (captured_of records) s c ≡ (world_of records s).captured
  captured_at s c below = get_or-map (λ r. r.captured) records s (fresh [] s) c below

  -- past the end nothing is related
  none_past : (p q : Pair) → length records ≤ p.site → LeadsTo (world_of records) p q → ⊥
  none_past p q past leads =
      let nothing : (world_of records p.site).captured.events ≡ [] = ap (λ z. z.captured.events) (get_or_past records p.site (fresh [] p.site) past) in
      let none : (P : Content → Type 0) → Any P (world_of records p.site).captured.events → ⊥ = λ P any. absurd (omega (arith, ap length nothing, any.2)) in
      elim leads as (λ _. ⊥) [
        | inl here ↦ elim here.1 as (λ _. ⊥) [ inl shipped ↦ none _ shipped.2.1 | inr made ↦ none _ made.1 ]
        | inr away ↦ none _ away.0.2.1
      ]

  related_within : (p q : Pair) → p.site < length records → LeadsTo (world_of records) p q → IsRelated (world_of records p.site).captured p.item q
  related_within p q below leads = elim leads as (λ _. IsRelated (world_of records p.site).captured p.item q) [
    | inl here ↦
        let at : record { site = (world_of records p.site).captured.me; item = q.item } ≡ q = (λ i. record { site = ((places p.site below).captured ∙ here.0) i; item = q.item }) in
        subst (λ z. IsRelated (world_of records p.site).captured p.item z) at here.1
    | inr away ↦
        let at : record { site = q.site; item = p.item } ≡ q = (λ i. record { site = q.site; item = away.1 i }) in
        subst (λ z. IsRelated (world_of records p.site).captured p.item z) at (inl away.0)
  ]

  leads_related : (p q : Pair) → LeadsTo (world_of records) p q → Related (captured_of records) p q
  leads_related p q leads = elim (within_or_past p.site (length records)) as (λ _. Related (captured_of records) p q) [
    | inl below ↦ (
      p.site,
      (world_of records p.site).captured,
      subst (λ n. p.site < n) (sym (counted)) below,
      captured_at p.site (world_of records p.site).captured below,
      ((places p.site below).captured, related_within p q below leads),
    )
    | inr past ↦ absurd (none_past p q past leads)
  ]

  related_leads : (p q : Pair) → Related (captured_of records) p q → LeadsTo (world_of records) p q
  related_leads p q (k, c, below, at, (same, related)) =
      let within : k < length records = subst (λ n. k < n) (counted) below in
      let is : c ≡ (world_of records k).captured = sym at ∙ captured_at k c within in
      let number : k ≡ p.site = sym (places k within).captured ∙ ap (λ z. z.me) (sym is) ∙ same in
      let here : IsRelated (world_of records p.site).captured p.item q = subst (λ z. IsRelated (world_of records z).captured p.item q) number (subst (λ z. IsRelated z p.item q) is related) in
      let me : (world_of records p.site).captured.me ≡ p.site = (places p.site (subst (λ z. z < length records) number within)).captured in
      elim here as (λ _. LeadsTo (world_of records) p q) [
        | inl shipped ↦ inr ((shipped.0, refl, shipped.2), sym shipped.1)
        | inr made ↦ inl (sym (made.0 ∙ me), inr (refl, made.1))
      ]

  -- reach by looks, and by the relation of several sites
  pub reached_related : (a : ℕ) (root : List ℕ) (p : Pair) → Reaches (LeadsTo (world_of records)) (record { site = a; item = root }) p ↔ Reaches (Related (captured_of records)) (record { site = a; item = root }) p
  reached_related a root p = (
    reach_widens (LeadsTo (world_of records)) (Related (captured_of records)) leads_related (record { site = a; item = root }) p,
    reach_widens (Related (captured_of records)) (LeadsTo (world_of records)) related_leads (record { site = a; item = root }) p,
  )

  pub ends_exactly : Fit (world_of records) → (r : Recall) (o : Own) → own (world_of records) r.site r.number ≡ Some o → IsTrue o.ended
      → (s : ℕ) (i : List ℕ) → Held (world_of records) s r i ↔ Reaches (Related (captured_of records)) (record { site = r.site; item = o.root }) (record { site = s; item = i })
  ends_exactly f r o is ended s i =
      let exact = exact_end (world_of records) f r o is ended s i in (
        λ h. (reached_related r.site o.root (record { site = s; item = i })).0 (exact.0 h),
        λ reach. exact.1 ((reached_related r.site o.root (record { site = s; item = i })).1 reach),
      )
