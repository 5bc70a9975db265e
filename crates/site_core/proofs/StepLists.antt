-- A step's lists are there: the spread of an item, what is new in it, and its shipments.
use Rattle.std.proofs.Common.{◌≡◌, ◌≢◌, ◌↔◌, inl, inr, ℕ, true, false, List, [], ◌∷◌, map, refl, sym, ◌∙◌}
use Rattle.std.specs.Prelude.{IsTrue}
use mathlib.Core.Bool.{false≢true}
use Rattle.std.specs.List.{Contains}
use Rattle.frame_core.specs.Numbers.{Recall}
use Rattle.trace_core.specs.PairTests.{is_related, lists}
use Rattle.trace_core.specs.Pairs.{IsRelated, IsShipped}
use Rattle.trace_core.specs.Sites.{SiteEvents}
use Rattle.trace_core.specs.Spreads.{Inside, IsSpread}
use Rattle.trace_core.specs.Targets.{site_targets}
use Rattle.trace_core.specs.declared.pairs.Pair.{Pair}
use Rattle.trace_core.proofs.HasTargets.{site_has_target}
use Rattle.trace_core.proofs.Members.{contains-map}
use Rattle.trace_core.proofs.PairTestsDecide.{lists_decides, related_decides}
use Rattle.site_core.specs.Quarantines.{Quarantine, held, item_cmp}
use Rattle.site_core.specs.Shipments.{AreShipments, shipment_cmp}
use Rattle.site_core.specs.Spreading.{AreNewlyHeld}
use Rattle.site_core.proofs.Closures.{reached_list}
use Rattle.site_core.proofs.ItemOrder.{item_total, item_exact}
use Rattle.site_core.proofs.Ordered.{ListsAll, in_order}
use Rattle.site_core.proofs.Questions.{Decided, all_of, alike, none_of, is_equal}
use Rattle.site_core.proofs.SameLists.{shipment_total, shipment_exact}

is_listed : (items : List (List ℕ)) (i : List ℕ) → Decided (Contains items i)
is_listed items i = elim (lists items i) as (λ b. lists items i ≡ b → Decided (Contains items i)) [
  | true ↦ λ is. inl ((lists_decides items i).0 is)
  | false ↦ λ is. inr (λ there. false≢true (sym is ∙ (lists_decides items i).1 there))
] refl

is_held : (q : Quarantine) (r : Recall) (i : List ℕ) → Decided (IsTrue (held q r i))
is_held q r i = elim (held q r i) as (λ b. held q r i ≡ b → Decided (held q r i ≡ true)) [
  | true ↦ λ is. inl is
  | false ↦ λ is. inr (λ h. false≢true (sym is ∙ h))
] refl

module _ (s : SiteEvents) where
  is_related_to : (i : List ℕ) (p : Pair) → Decided (IsRelated s i p)
  is_related_to i p = elim (is_related s i p) as (λ b. is_related s i p ≡ b → Decided (IsRelated s i p)) [
    | true ↦ λ is. inl ((related_decides s i p).0 is)
    | false ↦ λ is. inr (λ related. false≢true (sym is ∙ (related_decides s i p).1 related))
  ] refl

  is_shipped : (i : List ℕ) (p : Pair) → Decided (IsShipped s i p)
  is_shipped i p = alike {P = (p.site ≢ s.me) × IsRelated s i p}
      (λ (away, related). elim related [ inl shipped ↦ shipped | inr made ↦ absurd (away made.0) ])
      (λ shipped. (shipped.0, inl shipped))
      (all_of (none_of (is_equal p.site s.me)) (is_related_to i p))

  -- the items that something is made into
  made_items : List (List ℕ)
  made_items = map (λ (p : Pair). p.item) (site_targets s)

  is_made_item : (i j : List ℕ) → Inside s i j → Contains made_items j
  unfolding made_items
  is_made_item i j inside = contains-map (λ (p : Pair). p.item) (site_targets s) (record { site = s.me; item = j }) (site_has_target s i (record { site = s.me; item = j }) inside)

  spread_found : (i : List ℕ) → (ys : List (List ℕ)) × ((j : List ℕ) → Contains ys j ↔ IsSpread s (i ∷ []) j)
  spread_found i = reached_list (Inside s) (λ j k. is_related_to j (record { site = s.me; item = k })) (i ∷ []) made_items is_made_item

  in_spread : (i j : List ℕ) → Decided (IsSpread s (i ∷ []) j)
  in_spread i j = let found = spread_found i in alike (found.1 j).0 (found.1 j).1 (is_listed found.0 j)

  pub spread_listed : (i : List ℕ) → ListsAll item_cmp (IsSpread s (i ∷ []))
  spread_listed i = let found = spread_found i in in_order item_cmp item_total item_exact (IsSpread s (i ∷ [])) (in_spread i) found.0 (λ j spread. (found.1 j).1 spread)

  pub newly_listed : (q : Quarantine) (r : Recall) (i : List ℕ) → (new : List (List ℕ)) × AreNewlyHeld s q r i new
  newly_listed q r i =
      let found = spread_found i in
      let all = in_order item_cmp item_total item_exact (λ j. IsSpread s (i ∷ []) j × (IsTrue (held q r j) → ⊥)) (λ j. all_of (in_spread i j) (none_of (is_held q r j))) found.0 (λ j h. (found.1 j).1 h.0) in
      (all.list, record { ascending = all.ascending; exact = all.exact })

  -- an item and a site that it was shipped to
  Shipment : List (List ℕ) → ℕ × List ℕ → Type 0
  Shipment items x = Contains items x.1 × IsShipped s x.1 (record { site = x.0; item = x.1 })

  is_shipment : (items : List (List ℕ)) (x : ℕ × List ℕ) → Decided (Shipment items x)
  unfolding Shipment
  is_shipment items x = all_of (is_listed items x.1) (is_shipped x.1 (record { site = x.0; item = x.1 }))

  shipment_targets : List (ℕ × List ℕ)
  shipment_targets = map (λ (p : Pair). (p.site, p.item)) (site_targets s)

  is_target : (items : List (List ℕ)) (x : ℕ × List ℕ) → Shipment items x → Contains shipment_targets x
  unfolding Shipment shipment_targets
  is_target items x h = contains-map (λ (p : Pair). (p.site, p.item)) (site_targets s) (record { site = x.0; item = x.1 }) (site_has_target s x.1 (record { site = x.0; item = x.1 }) (inl h.1))

  pub shipments_listed : (items : List (List ℕ)) → (out : List (ℕ × List ℕ)) × AreShipments s items out
  unfolding Shipment
  shipments_listed items =
      let all = in_order shipment_cmp shipment_total shipment_exact (Shipment items) (is_shipment items) shipment_targets (is_target items) in
      (all.list, record { ascending = all.ascending; exact = λ t i. all.exact (t, i) })
