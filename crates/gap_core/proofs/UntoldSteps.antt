-- Shipments out of the traced sites that aren't told, item by item.
use Rattle.std.proofs.Common.{◌≡◌, ◌↔◌, inr, ℕ, ◌<◌, ◌≤◌, ◌∙◌, List, [], None, Some, length, slice_get, refl, sym, ap, subst, ⊎_elim, arith}
use Rattle.std.specs.BTreeMap.{IsOrdered, get}
use Rattle.std.specs.Cmp.Lexicographic.{slice_cmp}
use Rattle.std.specs.List.{Contains}
use Rattle.std.specs.Ordering.{nat_cmp, ordering_then}
use Rattle.std.proofs.lemmas.Cmp.{nat_list_cmp_total}
use Rattle.std.proofs.lemmas.Map.Lookups.{CmpEqualImpliesEq, exact_pairs, exact_unsigned, exact_bytes}
use Rattle.std.proofs.lemmas.Map.Views.{btree_map_get_iff}
use Rattle.std.proofs.lemmas.Option.{slice_get_within}
use Rattle.event_json.specs.Events.{Content}
use Rattle.trace_core.specs.declared.pairs.Pair.{Pair}
use Rattle.trace_core.specs.Gaps.{IsSent, by_known, by_own}
use Rattle.trace_core.specs.Pairs.{pair_cmp}
use Rattle.trace_core.specs.Searches.{IsFound}
use Rattle.trace_core.specs.Sites.{SiteEvents}
use Rattle.trace_core.proofs.Members.{contains_none}
use Rattle.trace_core.proofs.NumberLists.{some_is}
use Rattle.gap_core.specs.Adding.{AddsToList, ByOne}
use Rattle.gap_core.specs.Batches.{AreOutside, Outside, or_no_places}
use Rattle.gap_core.specs.GapItems.{IsSentBy}
use Rattle.gap_core.specs.Shipments.{ArePlacesTo, GoesAt}
use Rattle.gap_core.specs.Sources.{AreKnown, AreOwn, Index, item_cmp}
use Rattle.gap_core.specs.Untold.{IsUntoldAt, IsUntoldBy, IsUntoldIn, IsUntoldOf, shipped_pair, untold_cmp}
use Rattle.gap_core.specs.declared.untold.Reached.{Reached}
use Rattle.gap_core.specs.declared.untold.UntoldShipment.{UntoldShipment}
use Rattle.gap_core.proofs.Additions.{Before, adds_alike}
use Rattle.gap_core.proofs.GapSteps.{sends_known, sends_own}
use Rattle.gap_core.proofs.Notings.{placed, stands_in}
use Rattle.gap_core.proofs.ShippedItems.{ship_goes}
use Rattle.gap_core.proofs.SourceLists.{item_exact}

-- ---- the order of these shipments tells all of them apart

last_exact : CmpEqualImpliesEq (λ (x y : List ℕ × List ℕ). ordering_then (slice_cmp nat_cmp x.0 y.0) (slice_cmp nat_cmp x.1 y.1))
last_exact = exact_pairs (slice_cmp nat_cmp) (slice_cmp nat_cmp) exact_bytes exact_bytes

pub untold_exact : CmpEqualImpliesEq untold_cmp
untold_exact a b h =
    ap (λ (p : ℕ × (List ℕ × List ℕ)). let x : UntoldShipment = record { site = p.0; item = p.1.0; destination = p.1.1 } in x)
    (exact_pairs nat_cmp (λ (x y : List ℕ × List ℕ). ordering_then (slice_cmp nat_cmp x.0 y.0) (slice_cmp nat_cmp x.1 y.1)) exact_unsigned last_exact
    (a.site, (a.item, a.destination)) (b.site, (b.item, b.destination)) h)

-- ---- the shipments at some places

pub place_untold : (sites : List SiteEvents) (own known : Index) (reached : Reached) (at : ℕ) (s : SiteEvents) → slice_get sites at ≡ Some s → (me : ℕ) → me ≡ s.me
    → (text places : List ℕ) (told sent : List (List ℕ)) → ((i : List ℕ) → Contains told i ↔ IsSentBy sites own at places i) → ((i : List ℕ) → Contains sent i ↔ IsSentBy sites known at places i)
    → (old new : List UntoldShipment) → AddsToList old new (ByOne sent (IsUntoldOf me text told reached)) → AddsToList old new (IsUntoldBy sites own known reached at (text, places))
place_untold sites own known reached at s so me is text places told sent tell send old new =
    adds_alike (Contains old) (Contains new) (ByOne sent (IsUntoldOf me text told reached)) (IsUntoldBy sites own known reached at (text, places))
    (λ x. (
      λ (item, there, ((found, untold), eq)).
          let here : item ≡ x.item = ap (λ (y : UntoldShipment). y.item) eq in
          let pair : (let p : Pair = record { site = me; item = item } in p) ≡ shipped_pair x = ap shipped_pair eq in
          record {
            site = s;
            there = so;
            number = sym is ∙ ap (λ (y : UntoldShipment). y.site) eq;
            to = ap (λ (y : UntoldShipment). y.destination) eq;
            found = subst (IsFound pair_cmp reached.wide) pair found;
            sent = subst (IsSentBy sites known at places) here ((send item).0 there);
            untold = λ narrow by_own. untold ((tell item).1 (subst (IsSentBy sites own at places) (sym here) by_own), subst (IsFound pair_cmp reached.told) (sym pair) narrow);
          },
      λ u.
          let one : s ≡ u.site = some_is s u.site (sym so ∙ u.there) in
          let number : me ≡ x.site = is ∙ ap (λ (z : SiteEvents). z.me) one ∙ u.number in
          let pair : (let p : Pair = record { site = me; item = x.item } in p) ≡ shipped_pair x = λ k. record { site = number k; item = x.item } in (
            x.item,
            (send x.item).1 u.sent,
            (
              (
                subst (IsFound pair_cmp reached.wide) (sym pair) u.found,
                λ (listed, narrow). u.untold (subst (IsFound pair_cmp reached.told) pair narrow) ((tell x.item).0 listed),
              ),
              λ k. record { site = number k; item = x.item; destination = u.to k },
            ),
          ),
    ))

-- ---- the site

-- an entry of the map has the shipments to its place
entry_places : (events : List Content) (outside : Outside) → IsOrdered item_cmp outside → AreOutside events outside → (e : List ℕ × List ℕ) → Contains outside.entries e
    → ArePlacesTo events (inr e.0) e.1
entry_places events outside ordered are e there k = (
  λ h. (are (e.0, k)).0 (subst (λ o. Contains (or_no_places o) k) (sym looked) h),
  λ goes. subst (λ o. Contains (or_no_places o) k) looked ((are (e.0, k)).1 goes),
)
  where
    looked : get item_cmp outside e.0 ≡ Some e.1
    looked = (btree_map_get_iff nat_list_cmp_total item_exact outside ordered e.0 e.1).1 there

-- a place to which something goes has an entry
place_entry : (events : List Content) (outside : Outside) → IsOrdered item_cmp outside → AreOutside events outside → (text : List ℕ) (k : ℕ) → GoesAt events (inr text) k
    → (places : List ℕ) × Contains outside.entries (text, places)
place_entry events outside ordered are text k goes = found (get item_cmp outside text) refl
  where
    found : (o : _) → get item_cmp outside text ≡ o → (places : List ℕ) × Contains outside.entries (text, places)
    found None so = absurd (contains_none k (subst (λ o. Contains (or_no_places o) k) so ((are (text, k)).1 goes)))
    found (Some places) so = (places, (btree_map_get_iff nat_list_cmp_total item_exact outside ordered text places).0 so)

pub site_untold : (sites : List SiteEvents) (own known : Index) → AreOwn sites own → AreKnown sites known → (reached : Reached) (at : ℕ) (s : SiteEvents) → slice_get sites at ≡ Some s
    → (outside : Outside) → IsOrdered item_cmp outside → AreOutside s.events outside → (old new : List UntoldShipment)
    → AddsToList old new (ByOne outside.entries (IsUntoldBy sites own known reached at)) → AddsToList old new (IsUntoldAt sites reached at)
site_untold sites own known are_own are_known reached at s so outside ordered are old new =
    adds_alike (Contains old) (Contains new) (ByOne outside.entries (IsUntoldBy sites own known reached at)) (IsUntoldAt sites reached at)
    (λ x. (
      λ (e, there, u).
          let there_places = entry_places s.events outside ordered are e there in
          let known_sent : IsSent (by_known sites) s x.item (inr e.0) = (sends_known sites own known are_own are_known at s so (inr e.0) e.1 there_places x.item).0 u.sent in
          record {
            site = s;
            there = so;
            number = sym (ap (λ (z : SiteEvents). z.me) (some_is u.site s (sym u.there ∙ so))) ∙ u.number;
            found = u.found;
            sent = subst (λ t. IsSent (by_known sites) s x.item (inr t)) u.to known_sent;
            untold = λ narrow by. u.untold narrow ((sends_own sites own known are_own are_known at s so (inr e.0) e.1 there_places x.item).1 (subst (λ t. IsSent by_own s x.item (inr t)) (sym u.to) by));
          },
      λ u.
          let one : u.site ≡ s = some_is u.site s (sym u.there ∙ so) in
          let sent : IsSent (by_known sites) s x.item (inr x.destination) = subst (λ z. IsSent (by_known sites) z x.item (inr x.destination)) one u.sent in
          let (carrier, ships, chain) = sent in
          let (k, goes) = ship_goes s.events (inr x.destination) carrier ships in
          let (places, there) = place_entry s.events outside ordered are x.destination k goes in
          let there_places = entry_places s.events outside ordered are (x.destination, places) there in (
            (x.destination, places),
            there,
            record {
              site = s;
              there = so;
              number = sym (ap (λ (z : SiteEvents). z.me) one) ∙ u.number;
              to = refl;
              found = u.found;
              sent = (sends_known sites own known are_own are_known at s so (inr x.destination) places there_places x.item).1 sent;
              untold = λ narrow by. u.untold narrow (subst (λ z. IsSent by_own z x.item (inr x.destination)) (sym one) ((sends_own sites own known are_own are_known at s so (inr x.destination) places there_places x.item).0 by));
            },
          ),
    ))

-- all sites
pub all_untold : (sites : List SiteEvents) (reached : Reached) (n : ℕ) (found ordered : List UntoldShipment) → length sites ≤ n → AddsToList [] found (Before n (IsUntoldAt sites reached))
    → ((x : UntoldShipment) → Contains ordered x ↔ Contains found x) → (x : UntoldShipment) → Contains ordered x ↔ IsUntoldIn sites reached x
all_untold sites reached n found ordered past adds same x = (
  λ h. ⊎_elim
      (λ none. absurd (contains_none x none))
      (λ (at, below, u). record { site = u.site; there = stands_in sites at u.site u.there; number = u.number; found = u.found; sent = u.sent; untold = u.untold })
      ((adds x).0 ((same x).0 h)),
  λ u.
      let (k, so) = placed sites u.site u.there in
      (same x).1 ((adds x).1 (inr (k, within k (slice_get_within sites k u.site so), record { site = u.site; there = so; number = u.number; found = u.found; sent = u.sent; untold = u.untold }))),
)
  where
    within : (k : ℕ) → k < length sites → k < n
    within k below = omega (arith, below, past)
