-- The events of a document are captured, or one of them is refused first.
use Rattle.std.proofs.Common.{◌≡◌, ◌≢◌, ◌⊎◌, ◌==◌, inl, inr, ℕ, zero, suc, ◌≤◌, ◌&&◌, not, Bool, true, false, List, [], ◌∷◌, ◌++◌, length, Some, refl, sym, subst, ◌∙◌, arith}
use Rattle.std.specs.Prelude.{IsTrue}
use mathlib.Core.Bool.{false≢true}
use Rattle.std.specs.Bool.{Decides}
use Rattle.std.specs.FinMap.{entries}
use Rattle.std.specs.List.{Contains, flat_map, list_any, slice_get}
use Rattle.std.specs.declared.cmp.Ordering.TheVariants.{Greater}
use Rattle.std.proofs.lemmas.Bool.{cases_lt}
use Rattle.std.proofs.lemmas.Bool.Decides.{Decides-and, Decides-eqb, Decides-not}
use Rattle.event_json.specs.Events.{Content}
use Rattle.frame_core.specs.Identifiers.{recall_cmp}
use Rattle.frame_core.specs.Numbers.{Recall}
use Rattle.frame_core.specs.Orders.{recall_total, recall_exact}
use Rattle.trace_core.specs.Adding.{judged, kept_with, standing_among}
use Rattle.trace_core.specs.PairTests.{is_related}
use Rattle.trace_core.specs.Pairs.{IsRelated}
use Rattle.trace_core.specs.Sites.{SiteEvents}
use Rattle.trace_core.specs.Spreads.{items_of, with_event}
use Rattle.trace_core.specs.Targets.{site_targets}
use Rattle.trace_core.specs.declared.adding.Standing.TheVariants.{Fresh, Known, Taken}
use Rattle.trace_core.specs.declared.pairs.Pair.{Pair}
use Rattle.trace_core.proofs.HasTargets.{site_has_target}
use Rattle.trace_core.proofs.Members.{contains-flat_map, list_any_witness, list_any_member}
use Rattle.trace_core.proofs.PairTestsDecide.{related_decides}
use Rattle.site_core.specs.Capturing.{IsBlockedBy, IsFirstBlock, IsFree, IsHeldHere, IsPassed, IsReason, Reason, taken, blocked, site_before, EachPassesBefore, IsFirstRefused}
use Rattle.site_core.specs.CapturingLaws.{BlockedEventsLeadOut, EventsHaveAnOutcome}
use Rattle.site_core.specs.Quarantines.{Quarantine, held, item_cmp}
use Rattle.site_core.proofs.Captures.{none_refused}
use Rattle.site_core.proofs.Holders.{holding, holders_exact}
use Rattle.site_core.proofs.ItemOrder.{item_total, item_exact}
use Rattle.site_core.proofs.Places.{some_stands}
use Rattle.site_core.proofs.Questions.{Decided, least_or_none}
use Rattle.site_core.proofs.SourcesFound.{related_named}

module _ (s : SiteEvents) (q : Quarantine) (e : Content) where
  module _ (i : List ℕ) (r : Recall) where
    -- the event adds the pair, which isn't quarantined here
    leads_to : Pair → Bool
    leads_to p = is_related (with_event s e) i p && (not (is_related s i p) && not (p.site == s.me && held q r p.item))

    leads_decides : (p : Pair) → Decides (leads_to p) (IsRelated (with_event s e) i p × ((IsRelated s i p → ⊥) × (IsHeldHere s q r p → ⊥)))
    unfolding leads_to
    leads_decides p = Decides-and _ _ (related_decides (with_event s e) i p)
        (Decides-and _ _ (Decides-not _ (related_decides s i p)) (Decides-not _ (Decides-and _ _ (Decides-eqb p.site s.me) (λ h. h, λ h. h))))

    by_targets : IsTrue (held q r i) → Decided (IsBlockedBy s q e i r)
    by_targets source = elim (list_any leads_to (site_targets (with_event s e))) as (λ b. list_any leads_to (site_targets (with_event s e)) ≡ b → Decided (IsBlockedBy s q e i r)) [
      | true ↦ λ is.
          let (p, there, passes) = list_any_witness leads_to (site_targets (with_event s e)) is in
          let (added, (new, leaves)) = (leads_decides p).0 passes in
          inl (record { source = source; target = p; new = (added, new); leaves = leaves })
      | false ↦ λ is. inr (λ b. false≢true (sym is ∙ list_any_member leads_to (site_targets (with_event s e)) b.target (site_has_target (with_event s e) i b.target b.new.0) ((leads_decides b.target).1 (b.new.0, (b.new.1, b.leaves)))))
    ] refl

    is_blocked : Decided (IsBlockedBy s q e i r)
    is_blocked = elim (held q r i) as (λ b. held q r i ≡ b → Decided (IsBlockedBy s q e i r)) [
      | true ↦ λ is. by_targets is
      | false ↦ λ is. inr (λ b. false≢true (sym is ∙ b.source))
    ] refl

  -- the least recall by which the event is blocked from the item
  LeastFrom : List ℕ → Recall → Type 0
  LeastFrom i r = IsBlockedBy s q e i r × ((other : Recall) → IsBlockedBy s q e i other → recall_cmp r other ≢ Greater)

  from_item : (i : List ℕ) → ((r : Recall) × LeastFrom i r) ⊎ ((r : Recall) → IsBlockedBy s q e i r → ⊥)
  unfolding LeastFrom
  from_item i = elim (least_or_none recall_cmp recall_total recall_exact (IsBlockedBy s q e i) (is_blocked i) (holding i (entries q))) [
    | inl found ↦ inl (found.0, (found.1.has, λ other b. found.1.least other ((holders_exact i q other).1 b.source) b))
    | inr none ↦ inr (λ r b. none r ((holders_exact i q r).1 b.source) b)
  ]

  -- the items from which a new pair can lead: those that events name
  candidates : List (List ℕ)
  candidates = flat_map (λ (f : Content). items_of f.body) (s.events ++ e ∷ [])

  is_candidate : (i : List ℕ) (r : Recall) → IsBlockedBy s q e i r → Contains candidates i
  unfolding candidates
  is_candidate i r b =
      let (k, f, lt, at, named) = related_named (with_event s e) i b.target b.new.0 in
      contains-flat_map (λ (g : Content). items_of g.body) (s.events ++ e ∷ []) f i (k, lt, at) named

  blocks_item : (i : List ℕ) → Decided ((r : Recall) × IsBlockedBy s q e i r)
  unfolding LeastFrom
  blocks_item i = elim (from_item i) [
    | inl found ↦ inl (found.0, found.1.0)
    | inr none ↦ inr (λ (r, b). none r b)
  ]

  first_from : (i : List ℕ) → ((r : Recall) × IsBlockedBy s q e i r) → ((j : List ℕ) (r : Recall) → IsBlockedBy s q e j r → item_cmp i j ≢ Greater) → (r : Recall) × IsFirstBlock s q e i r
  unfolding LeastFrom
  first_from i some first = elim (from_item i) [
    | inl found ↦ (found.0, record { blocked = found.1.0; least_item = first; least_recall = found.1.1 })
    | inr none ↦ absurd (none some.0 some.1)
  ]

  free_or_blocked : ((i : List ℕ) × (r : Recall) × IsFirstBlock s q e i r) ⊎ IsFree s q e
  free_or_blocked = elim (least_or_none item_cmp item_total item_exact (λ i. (r : Recall) × IsBlockedBy s q e i r) blocks_item candidates) [
    | inl found ↦ let (r, first) = first_from found.0 found.1.has (λ j r b. found.1.least j (is_candidate j r b) (r, b)) in inl (found.0, r, first)
    | inr none ↦ inr (λ i r b. none i (is_candidate i r b) (r, b))
  ]

  passed_or_refused : IsPassed s q e ⊎ ((reason : Reason) × IsReason s q e reason)
  passed_or_refused = elim (standing_among s.events e) as (λ st. standing_among s.events e ≡ st → IsPassed s q e ⊎ ((reason : Reason) × IsReason s q e reason)) [
    | Known ↦ λ is. inl (inl is)
    | Taken ↦ λ is. inr (taken, is)
    | Fresh ↦ λ is. elim free_or_blocked [
      | inl first ↦ inr (blocked first.1 first.0, (is, first.2))
      | inr free ↦ inl (inr (is, free))
    ]
  ] refl

module _ (s : SiteEvents) (q : Quarantine) (given : List Content) where
  same_event : (x y : Content) (place : ℕ) → slice_get given place ≡ Some x → slice_get given place ≡ Some y → x ≡ y
  same_event x y place h k = let both : Some x ≡ Some y = sym h ∙ k in cc

  one_more : (place : ℕ) (e : Content) → slice_get given place ≡ Some e → IsPassed (site_before s given place) q e → EachPassesBefore s q given place → EachPassesBefore s q given (suc place)
  one_more place e at passed pass earlier x below there = elim (cases_lt earlier place) [
    | inl before ↦ pass earlier x before there
    | inr past ↦
        let same : earlier ≡ place = omega (arith, below, past) in
        let one : e ≡ x = same_event e x place at (subst (λ n. slice_get given n ≡ Some x) same there) in
        subst (λ n. IsPassed (site_before s given n) q x) (sym same) (subst (IsPassed (site_before s given place) q) one passed)
  ]

  each_or_refused : (place : ℕ) → place ≤ length given → EachPassesBefore s q given place ⊎ ((at : ℕ) × (reason : Reason) × IsFirstRefused s q given at reason)
  each_or_refused zero within = inl (λ earlier e below at. absurd (omega (arith, below)))
  each_or_refused (suc place) within = elim (each_or_refused place (omega (arith, within))) [
    | inr refused ↦ inr refused
    | inl pass ↦
        let (e, at) = some_stands given place (omega (arith, within)) in
        elim (passed_or_refused (site_before s given place) q e) [
          | inl passed ↦ inl (one_more place e at passed pass)
          | inr why ↦ inr (place, why.0, record { refused = record { event = e; stands = at; refused = why.1 }; first = none_refused s q given place pass })
        ]
  ]

pub events_have_an_outcome : EventsHaveAnOutcome
events_have_an_outcome s q given = elim (each_or_refused s q given (length given) (omega arith)) [
  | inl pass ↦ inl (kept_with s.events (judged s.events given), record { all_pass = pass; kept = refl })
  | inr refused ↦ inr refused
]

pub blocked_events_lead_out : BlockedEventsLeadOut
blocked_events_lead_out s q given place r i first =
    let b = first.refused.refused.1.blocked in
    (first.refused.event, first.refused.stands, record { source = b.source; target = b.target; added = b.new.0; new = b.new.1; leaves = b.leaves })
