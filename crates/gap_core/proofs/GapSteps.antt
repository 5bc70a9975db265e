-- Items that stand in packed gaps, container by container and shipment by shipment.
use Rattle.std.proofs.Common.{◌≡◌, ◌↔◌, inl, inr, ℕ, ◌<◌, ◌≤◌, ◌∙◌, List, [], ◌∷◌, ◌++◌, None, Some, length, slice_get, refl, sym, ap, subst, ⊎_elim, arith}
use mathlib.Core.Logic.{◌⊎◌}
use Rattle.std.specs.BTreeMap.{get}
use Rattle.std.specs.Cmp.Lexicographic.{slice_cmp}
use Rattle.std.specs.List.{Contains}
use Rattle.std.specs.Ordering.{nat_cmp, ordering_then}
use Rattle.std.proofs.lemmas.Map.Lookups.{CmpEqualImpliesEq, exact_pairs, exact_unsigned, exact_bytes}
use Rattle.std.proofs.lemmas.Option.{slice_get_within}
use Rattle.trace_core.specs.Gaps.{Place, IsPackedGap, IsSent, by_known, by_own}
use Rattle.trace_core.specs.Pairs.{Carries}
use Rattle.trace_core.specs.Relations.{ReachedFrom}
use Rattle.trace_core.specs.Sites.{SiteEvents}
use Rattle.trace_core.proofs.ChainLaws.{reach_widens}
use Rattle.trace_core.proofs.GapClosing.{known_is_where_it_came}
use Rattle.trace_core.proofs.Members.{contains_none}
use Rattle.trace_core.proofs.NumberLists.{none_is, some_is}
use Rattle.gap_core.specs.Adding.{AddsToList, ByOne}
use Rattle.gap_core.specs.Batches.{AreAllBatches}
use Rattle.gap_core.specs.GapItems.{IsGapAt, IsGapBy, IsGapIn, IsGapOf, IsGapOfAt, IsSentBy, gap_item_cmp}
use Rattle.gap_core.specs.GapLines.{IsGapChild, IsPackedBy}
use Rattle.gap_core.specs.Packers.{IsFrom, IsFromOne, Packers}
use Rattle.gap_core.specs.Shipments.{ArePlacesTo, IsShippedAt}
use Rattle.gap_core.specs.Sources.{AreKnown, AreOwn, Index, LiesIn, item_cmp}
use Rattle.gap_core.specs.declared.gap_items.GapItem.{GapItem}
use Rattle.gap_core.proofs.Additions.{Before, adds_alike, adds_nothing, adds_one}
use Rattle.gap_core.proofs.KnownSteps.{lies_as_known, own_lies}
use Rattle.gap_core.proofs.Notings.{placed, stands_in}
use Rattle.gap_core.proofs.PackerSteps.{packer_found, packer_is}
use Rattle.gap_core.proofs.ShippedItems.{ship_goes, shipped_there}

-- ---- the order of these items tells all of them apart

last_exact : CmpEqualImpliesEq (λ (x y : ℕ × List ℕ). ordering_then (nat_cmp x.0 y.0) (slice_cmp nat_cmp x.1 y.1))
last_exact = exact_pairs nat_cmp (slice_cmp nat_cmp) exact_unsigned exact_bytes

inner_exact : CmpEqualImpliesEq (λ (x y : List ℕ × (ℕ × List ℕ)). ordering_then (slice_cmp nat_cmp x.0 y.0) (ordering_then (nat_cmp x.1.0 y.1.0) (slice_cmp nat_cmp x.1.1 y.1.1)))
inner_exact = exact_pairs (slice_cmp nat_cmp) (λ (x y : ℕ × List ℕ). ordering_then (nat_cmp x.0 y.0) (slice_cmp nat_cmp x.1 y.1)) exact_bytes last_exact

pub gap_items_exact : CmpEqualImpliesEq gap_item_cmp
gap_items_exact a b h =
    ap (λ (p : ℕ × (List ℕ × (ℕ × List ℕ))). let x : GapItem = record { site = p.0; container = p.1.0; by = p.1.1.0; child = p.1.1.1 } in x)
    (exact_pairs nat_cmp (λ (x y : List ℕ × (ℕ × List ℕ)). ordering_then (slice_cmp nat_cmp x.0 y.0) (ordering_then (nat_cmp x.1.0 y.1.0) (slice_cmp nat_cmp x.1.1 y.1.1))) exact_unsigned inner_exact
    (a.site, (a.container, (a.by, a.child))) (b.site, (b.container, (b.by, b.child))) h)

-- ---- one item

module _ (site : ℕ) (container : List ℕ) (told packed : List (List ℕ)) (packers : Packers) where
  pub gap_added : (child : List ℕ) (by : ℕ) (old new : List GapItem) → ((Contains told child ⊎ Contains packed child) → ⊥) → Some by ≡ get item_cmp packers child
      → new ≡ old ++ record { site = site; container = container; by = by; child = child } ∷ [] → AddsToList old new (IsGapOf site container told packed packers child)
  gap_added child by old new fresh found is =
      let item : GapItem = record { site = site; container = container; by = by; child = child } in
      adds_alike (Contains old) (Contains new) (λ g. item ≡ g) (IsGapOf site container told packed packers child)
      (λ g. (
        λ same. ((λ h. fresh (inl h)), (λ h. fresh (inr h)), by, sym found, same),
        λ (untold, unpacked, n, also, same). subst (λ (k : ℕ). (let x : GapItem = record { site = site; container = container; by = k; child = child } in x) ≡ g) (some_is n by (sym also ∙ sym found)) same,
      ))
      (adds_one old new item is)

  pub told_gap : (child : List ℕ) (old : List GapItem) → Contains told child ⊎ Contains packed child → AddsToList old old (IsGapOf site container told packed packers child)
  told_gap child old known = adds_nothing (Contains old) (IsGapOf site container told packed packers child) (λ g (untold, unpacked, by, found, same). ⊎_elim untold unpacked known)

  pub no_gap : (child : List ℕ) (old : List GapItem) → None ≡ get item_cmp packers child → AddsToList old old (IsGapOf site container told packed packers child)
  no_gap child old none = adds_nothing (Contains old) (IsGapOf site container told packed packers child) (λ g (untold, unpacked, by, found, same). none_is by (none ∙ found))

  abbrev pub IsGapOfChild : List (List ℕ) → ℕ → GapItem → Type 0
  IsGapOfChild children place g = (i : List ℕ) × (slice_get children place ≡ Some i) × IsGapOf site container told packed packers i g

  pub child_gap : (children : List (List ℕ)) (place : ℕ) (i : List ℕ) (old new : List GapItem) → slice_get children place ≡ Some i
      → AddsToList old new (IsGapOf site container told packed packers i) → AddsToList old new (IsGapOfChild children place)
  child_gap children place i old new so = adds_alike (Contains old) (Contains new) (IsGapOf site container told packed packers i) (IsGapOfChild children place)
      (λ g. (
        λ h. (i, so, h),
        λ (j, also, h). subst (λ x. IsGapOf site container told packed packers x g) (some_is j i (sym also ∙ so)) h,
      ))

  pub no_child_gap : (children : List (List ℕ)) (place : ℕ) (old : List GapItem) → None ≡ slice_get children place → AddsToList old old (IsGapOfChild children place)
  no_child_gap children place old none = adds_nothing (Contains old) (IsGapOfChild children place) (λ g (i, so, h). none_is i (none ∙ so))

  pub all_child_gaps : (children : List (List ℕ)) (n : ℕ) (old new : List GapItem) → length children ≤ n → AddsToList old new (Before n (IsGapOfChild children))
      → AddsToList old new (λ g. Contains children g.child × IsGapOf site container told packed packers g.child g)
  all_child_gaps children n old new past = adds_alike (Contains old) (Contains new) (Before n (IsGapOfChild children)) (λ g. Contains children g.child × IsGapOf site container told packed packers g.child g)
      (λ g. (
        λ (k, below, (i, so, (untold, unpacked, by, found, same))).
            let here : i ≡ g.child = ap (λ (x : GapItem). x.child) same in
            (subst (Contains children) here (stands_in children k i so), subst (λ x. IsGapOf site container told packed packers x g) here (untold, unpacked, by, found, same)),
        λ (there, h). let (k, so) = placed children g.child there in (k, within k (slice_get_within children k g.child so), (g.child, so, h)),
      ))
    where
      within : (k : ℕ) → k < length children → k < n
      within k below = omega (arith, below, past)

-- ---- one container

module _ (sites : List SiteEvents) (known : Index) (are_known : AreKnown sites known) (at : ℕ) (s : SiteEvents) (so : slice_get sites at ≡ Some s) where
  -- what one of them packed and came is known
  known_source : (by : ℕ) (container child : List ℕ) → IsPackedBy sites by s container child → LiesIn sites known at container child
  known_source by container child packed =
      let (from, is, keeps) = are_known.complete at s packed.site container child so packed.source.there packed.source.packed packed.source.came in
      (from, keeps, (packed.site, is, packed.source.packed))

  pub gaps_in : (me : ℕ) (container : List ℕ) (told packed children : List (List ℕ)) (packers : Packers) (old new : List GapItem) → me ≡ s.me
      → ((m : List ℕ × ℕ) → IsFrom packers m ↔ IsFromOne sites known at container m)
      → ((i : List ℕ) → Contains children i ↔ LiesIn sites known at container i) → ((i : List ℕ) → Contains packed i ↔ Carries s.events container i)
      → AddsToList old new (λ g. Contains children g.child × IsGapOf me container told packed packers g.child g) → AddsToList old new (IsGapIn sites at told container)
  gaps_in me container told packed children packers old new is from lie carry =
      adds_alike (Contains old) (Contains new) (λ g. Contains children g.child × IsGapOf me container told packed packers g.child g) (IsGapIn sites at told container)
      (λ g. (
        λ (there, (untold, unpacked, by, found, same)). record {
          own = s;
          there = so;
          site = sym is ∙ ap (λ (x : GapItem). x.site) same;
          of = ap (λ (x : GapItem). x.container) same;
          packed = subst (λ k. IsPackedBy sites k s container g.child) (ap (λ (x : GapItem). x.by) same) (packer_is sites known are_known at s so packers container from g.child by found);
          uncaptured = λ carries. unpacked ((carry g.child).1 carries);
          untold = untold;
        },
        λ gap.
            let one : gap.own ≡ s = some_is gap.own s (sym gap.there ∙ so) in
            let packed_by : IsPackedBy sites g.by s container g.child = subst (λ z. IsPackedBy sites g.by z container g.child) one gap.packed in (
              (lie g.child).1 (known_source g.by container g.child packed_by),
              (
                gap.untold,
                λ h. gap.uncaptured (subst (λ (z : SiteEvents). Carries z.events container g.child) (sym one) ((carry g.child).0 h)),
                g.by,
                packer_found sites known are_known at s so packers container from g.child g.by packed_by,
                told_item me container g (is ∙ sym (ap (λ (z : SiteEvents). z.me) one) ∙ gap.site) gap.of,
              ),
            ),
      ))
    where
      told_item : (n : ℕ) (c : List ℕ) (g : GapItem) → n ≡ g.site → c ≡ g.container → (let x : GapItem = record { site = n; container = c; by = g.by; child = g.child } in x) ≡ g
      told_item n c g one two = λ k. record { site = one k; container = two k; by = g.by; child = g.child }

-- ---- the containers of a list

module _ (sites : List SiteEvents) (at : ℕ) (sent told : List (List ℕ)) where
  pub container_gaps : (place : ℕ) (container : List ℕ) (old new : List GapItem) → slice_get sent place ≡ Some container
      → AddsToList old new (IsGapIn sites at told container) → AddsToList old new (IsGapOfAt sites at sent told place)
  container_gaps place container old new so = adds_alike (Contains old) (Contains new) (IsGapIn sites at told container) (IsGapOfAt sites at sent told place)
      (λ g. (
        λ h. (container, so, h),
        λ (c, also, h). subst (λ x. IsGapIn sites at told x g) (some_is c container (sym also ∙ so)) h,
      ))

  pub no_container_gaps : (place : ℕ) (old : List GapItem) → None ≡ slice_get sent place → AddsToList old old (IsGapOfAt sites at sent told place)
  no_container_gaps place old none = adds_nothing (Contains old) (IsGapOfAt sites at sent told place) (λ g (c, so, h). none_is c (none ∙ so))

  pub all_container_gaps : (n : ℕ) (old new : List GapItem) → length sent ≤ n → AddsToList old new (Before n (IsGapOfAt sites at sent told))
      → AddsToList old new (λ g. Contains sent g.container × IsGapIn sites at told g.container g)
  all_container_gaps n old new past = adds_alike (Contains old) (Contains new) (Before n (IsGapOfAt sites at sent told)) (λ g. Contains sent g.container × IsGapIn sites at told g.container g)
      (λ g. (
        λ (k, below, (c, so, gap)). (subst (Contains sent) gap.of (stands_in sent k c so), subst (λ x. IsGapIn sites at told x g) gap.of gap),
        λ (there, gap). let (k, so) = placed sent g.container there in (k, within k (slice_get_within sent k g.container so), (g.container, so, gap)),
      ))
    where
      within : (k : ℕ) → k < length sent → k < n
      within k below = omega (arith, below, past)

-- ---- the shipments at some places

pub sent_is : (sites : List SiteEvents) (index : Index) (at : ℕ) (s : SiteEvents) (places : List ℕ) (starts sent : List (List ℕ)) → slice_get sites at ≡ Some s
    → ((i : List ℕ) → Contains starts i ↔ IsShippedAt s.events places i) → ((i : List ℕ) → Contains sent i ↔ ReachedFrom (LiesIn sites index at) starts i)
    → (i : List ℕ) → Contains sent i ↔ IsSentBy sites index at places i
sent_is sites index at s places starts sent so shipped walked i = (
  λ h. let (carrier, there, chain) = (walked i).0 h in (s, so, carrier, (shipped carrier).0 there, chain),
  λ (t, also, carrier, there, chain).
      (walked i).1 (carrier, (shipped carrier).1 (subst (λ (z : SiteEvents). IsShippedAt z.events places carrier) (some_is t s (sym also ∙ so)) there), chain),
)

pub batch_gaps : (sites : List SiteEvents) (own known : Index) (at : ℕ) (places : List ℕ) (told sent : List (List ℕ)) (old new : List GapItem)
    → ((i : List ℕ) → Contains told i ↔ IsSentBy sites own at places i) → ((i : List ℕ) → Contains sent i ↔ IsSentBy sites known at places i)
    → AddsToList old new (λ g. Contains sent g.container × IsGapIn sites at told g.container g) → AddsToList old new (IsGapBy sites own known at places)
batch_gaps sites own known at places told sent old new tell send =
    adds_alike (Contains old) (Contains new) (λ g. Contains sent g.container × IsGapIn sites at told g.container g) (IsGapBy sites own known at places)
    (λ g. (
      λ (there, gap). record {
        site = gap.own;
        there = gap.there;
        number = gap.site;
        sent = (send g.container).0 there;
        packed = gap.packed;
        uncaptured = gap.uncaptured;
        untold = λ h. gap.untold ((tell g.child).1 h);
      },
      λ gap. (
        (send g.container).1 gap.sent,
        record {
          own = gap.site;
          there = gap.there;
          site = gap.number;
          of = refl;
          packed = gap.packed;
          uncaptured = gap.uncaptured;
          untold = λ h. gap.untold ((tell g.child).0 h);
        },
      ),
    ))

-- ---- the site

module _ (sites : List SiteEvents) (own known : Index) (are_own : AreOwn sites own) (are_known : AreKnown sites known) (at : ℕ) (s : SiteEvents) (so : slice_get sites at ≡ Some s) where
  -- what is sent by the known packings, and by the own ones
  pub sends_known : (to : Place) (places : List ℕ) → ArePlacesTo s.events to places → (i : List ℕ) → IsSentBy sites known at places i ↔ IsSent (by_known sites) s i to
  sends_known to places are i = (
    λ (t, also, carrier, shipped, chain).
        let same = some_is t s (sym also ∙ so) in (
          carrier,
          (shipped_there s.events to places are carrier).0 (subst (λ (z : SiteEvents). IsShippedAt z.events places carrier) same shipped),
          reach_widens (LiesIn sites known at) (by_known sites s) (λ x y h. (lies_as_known sites known are_known at s so x y).0 h) carrier i chain,
        ),
    λ (carrier, ships, chain). (
      s,
      so,
      carrier,
      (shipped_there s.events to places are carrier).1 ships,
      reach_widens (by_known sites s) (LiesIn sites known at) (λ x y h. (lies_as_known sites known are_known at s so x y).1 h) carrier i chain,
    ),
  )

  pub sends_own : (to : Place) (places : List ℕ) → ArePlacesTo s.events to places → (i : List ℕ) → IsSentBy sites own at places i ↔ IsSent by_own s i to
  sends_own to places are i = (
    λ (t, also, carrier, shipped, chain).
        let same = some_is t s (sym also ∙ so) in (
          carrier,
          (shipped_there s.events to places are carrier).0 (subst (λ (z : SiteEvents). IsShippedAt z.events places carrier) same shipped),
          reach_widens (LiesIn sites own at) (Carries s.events) (λ x y h. (own_lies sites own are_own at s so x y).0 h) carrier i chain,
        ),
    λ (carrier, ships, chain). (
      s,
      so,
      carrier,
      (shipped_there s.events to places are carrier).1 ships,
      reach_widens (Carries s.events) (LiesIn sites own at) (λ x y h. (own_lies sites own are_own at s so x y).1 h) carrier i chain,
    ),
  )

  source_known : (by : ℕ) (container child : List ℕ) → IsPackedBy sites by s container child → by_known sites s container child
  source_known by container child packed =
      (known_is_where_it_came sites s (stands_in sites at s so) container child).1 (packed.site, packed.source.there, packed.source.packed, packed.source.came)

  pub site_gaps : (batches : List (List ℕ)) (old new : List GapItem) → AreAllBatches s batches
      → AddsToList old new (ByOne batches (IsGapBy sites own known at)) → AddsToList old new (IsGapAt sites at)
  site_gaps batches old new all = adds_alike (Contains old) (Contains new) (ByOne batches (IsGapBy sites own known at)) (IsGapAt sites at)
      (λ g. (
        λ (places, there, gap).
            let (to, elsewhere, are) = all.sound places there in
            let one : gap.site ≡ s = some_is gap.site s (sym gap.there ∙ so) in
            let packed : IsPackedBy sites g.by s g.container g.child = subst (λ z. IsPackedBy sites g.by z g.container g.child) one gap.packed in
            record {
              site = s;
              there = so;
              number = sym (ap (λ (z : SiteEvents). z.me) one) ∙ gap.number;
              to = to;
              gap = record {
                elsewhere = elsewhere;
                goes = (sends_known to places are g.container).0 gap.sent;
                known = source_known g.by g.container g.child packed;
                uncaptured = λ carries. gap.uncaptured (subst (λ (z : SiteEvents). Carries z.events g.container g.child) (sym one) carries);
                untold = λ told. gap.untold ((sends_own to places are g.child).1 told);
              };
              packed = packed;
            },
        λ gap.
            let one : gap.site ≡ s = some_is gap.site s (sym gap.there ∙ so) in
            let stands : IsPackedGap (by_known sites) s g.container g.child gap.to = subst (λ z. IsPackedGap (by_known sites) z g.container g.child gap.to) one gap.gap in
            let (carrier, ships, chain) = stands.goes in
            let (k, goes) = ship_goes s.events gap.to carrier ships in
            let (places, there, are) = all.complete gap.to stands.elsewhere k goes in (
              places,
              there,
              record {
                site = s;
                there = so;
                number = sym (ap (λ (z : SiteEvents). z.me) one) ∙ gap.number;
                sent = (sends_known gap.to places are g.container).1 stands.goes;
                packed = subst (λ z. IsPackedBy sites g.by z g.container g.child) one gap.packed;
                uncaptured = stands.uncaptured;
                untold = λ told. stands.untold ((sends_own gap.to places are g.child).0 told);
              },
            ),
      ))

-- ---- all sites

pub all_gaps : (sites : List SiteEvents) (n : ℕ) (gaps ordered : List GapItem) → length sites ≤ n → AddsToList [] gaps (Before n (IsGapAt sites))
    → ((g : GapItem) → Contains ordered g ↔ Contains gaps g) → (g : GapItem) → Contains ordered g ↔ IsGapChild sites g.site g.by g.container g.child
all_gaps sites n gaps ordered past adds same g = (
  λ h. ⊎_elim
      (λ none. absurd (contains_none g none))
      (λ (at, below, gap). record {
        at = gap.site;
        there = stands_in sites at gap.site gap.there;
        number = gap.number;
        to = gap.to;
        gap = gap.gap;
        packed = gap.packed;
      })
      ((adds g).0 ((same g).0 h)),
  λ gap.
      let (k, so) = placed sites gap.at gap.there in
      (same g).1 ((adds g).1 (inr (
        k,
        within k (slice_get_within sites k gap.at so),
        record {
          site = gap.at;
          there = so;
          number = gap.number;
          to = gap.to;
          gap = gap.gap;
          packed = gap.packed;
        },
      ))),
)
  where
    within : (k : ℕ) → k < length sites → k < n
    within k below = omega (arith, below, past)
