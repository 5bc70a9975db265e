-- Events that close gaps, one after another.
use Rattle.std.proofs.Common.{◌≡◌, ◌↔◌, inr, ℕ, ◌<◌, ◌≤◌, ◌∙◌, List, [], ◌∷◌, ◌++◌, None, Some, length, slice_get, refl, sym, ap, subst, ⊎_elim, arith}
use Rattle.std.specs.Cmp.Lexicographic.{slice_cmp}
use Rattle.std.specs.List.{Any, Contains}
use Rattle.std.specs.Ordering.{nat_cmp, ordering_then}
use Rattle.std.proofs.lemmas.Map.Lookups.{CmpEqualImpliesEq, exact_pairs, exact_unsigned, exact_bytes}
use Rattle.std.proofs.lemmas.Option.{slice_get_within, get_or_from_slice_get}
use Rattle.event_json.specs.Events.{Content}
use Rattle.event_json.specs.declared.bodies.Action.TheVariants.{Add}
use Rattle.event_json.specs.declared.bodies.Body.{Body}
use Rattle.event_json.specs.declared.bodies.Body.TheVariants.{Pack}
use Rattle.trace_core.specs.Gaps.{IsPackedGap, SendsOn, by_known}
use Rattle.trace_core.specs.Pairs.{Carries, Packs}
use Rattle.trace_core.specs.PutIn.{filled}
use Rattle.trace_core.specs.Relations.{Reaches}
use Rattle.trace_core.specs.Sites.{SiteEvents}
use Rattle.trace_core.proofs.Members.{contains_none}
use Rattle.trace_core.proofs.NumberLists.{none_is, some_is}
use Rattle.gap_core.specs.Adding.{AddsToList, ByOne}
use Rattle.gap_core.specs.GapItems.{IsGapAt}
use Rattle.gap_core.specs.GapPacks.{ClosesEdge, EdgeMap, IsEdgeOf, IsGapPack, IsItemPack, IsItemPackAt, IsPackAt, IsPackFor, IsPackFrom, IsPackIn, IsPackOnce, IsWanted, KeepsEdge, TellsItem, gap_pack_cmp}
use Rattle.gap_core.specs.Sources.{AreKnown, Index, Keeps}
use Rattle.gap_core.specs.declared.gap_items.GapItem.{GapItem}
use Rattle.gap_core.specs.declared.packs.GapPack.{GapPack}
use Rattle.gap_core.specs.declared.packs.Wanted.{Wanted}
use Rattle.gap_core.specs.declared.packs.Wanted.TheVariants.{Edges, Items}
use Rattle.gap_core.proofs.Additions.{Before, adds_alike, adds_nothing, adds_one}
use Rattle.gap_core.proofs.KnownSteps.{fills}
use Rattle.gap_core.proofs.LeastSources.{some_packer}
use Rattle.gap_core.proofs.Notings.{placed, stands_in}

-- ---- the order of these events tells all of them apart

last_exact : CmpEqualImpliesEq (λ (x y : ℕ × List ℕ). ordering_then (nat_cmp x.0 y.0) (slice_cmp nat_cmp x.1 y.1))
last_exact = exact_pairs nat_cmp (slice_cmp nat_cmp) exact_unsigned exact_bytes

inner_exact : CmpEqualImpliesEq (λ (x y : ℕ × (ℕ × List ℕ)). ordering_then (nat_cmp x.0 y.0) (ordering_then (nat_cmp x.1.0 y.1.0) (slice_cmp nat_cmp x.1.1 y.1.1)))
inner_exact = exact_pairs nat_cmp (λ (x y : ℕ × List ℕ). ordering_then (nat_cmp x.0 y.0) (slice_cmp nat_cmp x.1 y.1)) exact_unsigned last_exact

pub gap_packs_exact : CmpEqualImpliesEq gap_pack_cmp
gap_packs_exact a b h =
    ap (λ (p : ℕ × (ℕ × (ℕ × List ℕ))). let x : GapPack = record { site = p.0; by = p.1.0; place = p.1.1.0; container = p.1.1.1 } in x)
    (exact_pairs nat_cmp (λ (x y : ℕ × (ℕ × List ℕ)). ordering_then (nat_cmp x.0 y.0) (ordering_then (nat_cmp x.1.0 y.1.0) (slice_cmp nat_cmp x.1.1 y.1.1))) exact_unsigned inner_exact
    (a.site, (a.by, (a.place, a.container))) (b.site, (b.by, (b.place, b.container))) h)

-- ---- one event

module _ (known : Index) (wanted : Wanted) (at from : ℕ) where
  abbrev Closes : Body → List ℕ → Type 0
  Closes = ClosesEdge known wanted at from

  -- a packing closes gaps of its container
  pub closes : (b : Body) (container : List ℕ) (items : List (List ℕ)) → b ≡ Pack Add (Some container) items → Any (λ i. IsWanted wanted container i) items
      → Keeps known (container, record { at = at; from = from }) → Closes b container
  closes b container items is (k, child, lt, there, edge) keeps =
      (keeps, child, subst (Packs container child) (sym is) (refl, refl, (k, lt, there)), edge)

  -- and of no other
  pub closes_no_other : (b : Body) (container : List ℕ) (items : List (List ℕ)) → b ≡ Pack Add (Some container) items
      → (Any (λ i. IsWanted wanted container i) items → Keeps known (container, record { at = at; from = from }) → ⊥) → (i : List ℕ) → Closes b i → ⊥
  closes_no_other b container items is none i (keeps, child, packs, edge) =
      let (add, same, (k, lt, there)) : Packs i child (Pack Add (Some container) items) = subst (Packs i child) is packs in
      let here : i ≡ container = some_is i container (sym same) in
      none (k, child, lt, there, subst (λ j. IsWanted wanted j child) here edge) (subst (λ j. Keeps known (j, record { at = at; from = from })) here keeps)

  pub fills_nothing : (b : Body) → filled b ≡ None → (i : List ℕ) → Closes b i → ⊥
  fills_nothing b none i (keeps, child, packs, edge) = none_is i (sym none ∙ fills i child b packs)

  closes_one : (b : Body) (i j : List ℕ) → Closes b i → Closes b j → i ≡ j
  closes_one b i j (keeps, child, packs, edge) (keeps', child', packs', edge') = some_is i j (sym (fills i child b packs) ∙ fills j child' b packs')

  module _ (site : ℕ) (packer : SiteEvents) (place : ℕ) where
    pub pack_added : (e : Content) (b : Body) (by : ℕ) (container : List ℕ) (old new : List GapPack) → slice_get packer.events place ≡ Some e → b ≡ e.body → by ≡ packer.me → Closes b container
        → new ≡ old ++ record { site = site; by = by; place = place; container = container } ∷ [] → AddsToList old new (IsPackOnce known wanted site at from packer place)
    pack_added e b by container old new so is me closing new_is =
        let pack : GapPack = record { site = site; by = by; place = place; container = container } in
        let here : Closes e.body container = subst (λ c. Closes c container) is closing in
        adds_alike (Contains old) (Contains new) (λ p. pack ≡ p) (IsPackOnce known wanted site at from packer place)
        (λ p. (
          λ same. subst (IsPackOnce known wanted site at from packer place) same (refl, e, so, sym me, refl, here),
          λ (own, f, also, its, there, closes').
              let at_e : Closes e.body p.container = subst (λ (g : Content). Closes g.body p.container) (some_is f e (sym also ∙ so)) closes' in
              all_same p own (me ∙ its) there (closes_one e.body container p.container here at_e),
        ))
        (adds_one old new pack new_is)
      where
        all_same : (p : GapPack) → site ≡ p.site → by ≡ p.by → place ≡ p.place → container ≡ p.container → record { site = site; by = by; place = place; container = container } ≡ p
        all_same p w x y z = λ k. record { site = w k; by = x k; place = y k; container = z k }

    pub no_pack : (e : Content) (b : Body) (old : List GapPack) → slice_get packer.events place ≡ Some e → b ≡ e.body → ((i : List ℕ) → Closes b i → ⊥) → AddsToList old old (IsPackOnce known wanted site at from packer place)
    no_pack e b old so is none = adds_nothing (Contains old) (IsPackOnce known wanted site at from packer place)
        (λ p (own, f, also, its, there, closes').
        none p.container (subst (λ c. Closes c p.container) (sym is) (subst (λ (g : Content). Closes g.body p.container) (some_is f e (sym also ∙ so)) closes')))

    pub no_event : (old : List GapPack) → slice_get packer.events place ≡ None → AddsToList old old (IsPackOnce known wanted site at from packer place)
    no_event old none = adds_nothing (Contains old) (IsPackOnce known wanted site at from packer place) (λ p (own, f, also, its, there, closes'). none_is f (sym none ∙ also))

  -- all events of a site
  pub all_in : (site : ℕ) (packer : SiteEvents) (n : ℕ) (old new : List GapPack) → length packer.events ≤ n → AddsToList old new (Before n (IsPackOnce known wanted site at from packer))
      → AddsToList old new (IsPackIn known wanted site at from packer)
  all_in site packer n old new past = adds_alike (Contains old) (Contains new) (Before n (IsPackOnce known wanted site at from packer)) (IsPackIn known wanted site at from packer)
      (λ p. (
        λ (k, below, h). (k, h),
        λ (k, (own, e, so, its, there, h)). (k, within k (slice_get_within packer.events k e so), (own, e, so, its, there, h)),
      ))
    where
      within : (k : ℕ) → k < length packer.events → k < n
      within k below = omega (arith, below, past)

-- ---- all sites

module _ (sites : List SiteEvents) (known : Index) (wanted : Wanted) (site at : ℕ) where
  pub site_packs : (from : ℕ) (packer : SiteEvents) (old new : List GapPack) → slice_get sites from ≡ Some packer → AddsToList old new (IsPackIn known wanted site at from packer) → AddsToList old new (IsPackFrom sites known wanted site at from)
  site_packs from packer old new so = adds_alike (Contains old) (Contains new) (IsPackIn known wanted site at from packer) (IsPackFrom sites known wanted site at from)
      (λ p. (
        λ h. (packer, so, h),
        λ (u, also, h). subst (λ (z : SiteEvents). IsPackIn known wanted site at from z p) (some_is u packer (sym also ∙ so)) h,
      ))

  pub all_packs_from : (n : ℕ) (old new : List GapPack) → length sites ≤ n → AddsToList old new (Before n (IsPackFrom sites known wanted site at)) → AddsToList old new (λ p. (from : ℕ) × IsPackFrom sites known wanted site at from p)
  all_packs_from n old new past = adds_alike (Contains old) (Contains new) (Before n (IsPackFrom sites known wanted site at)) (λ p. (from : ℕ) × IsPackFrom sites known wanted site at from p)
      (λ p. (
        λ (k, below, h). (k, h),
        λ (k, (u, so, h)). (k, within k (slice_get_within sites k u so), (u, so, h)),
      ))
    where
      within : (k : ℕ) → k < length sites → k < n
      within k below = omega (arith, below, past)

-- ---- what closes the gaps of a site

module _ (sites : List SiteEvents) (known : Index) (are : AreKnown sites known) (at : ℕ) (s : SiteEvents) (so : slice_get sites at ≡ Some s) (gaps : List GapItem)
    (found : AddsToList [] gaps (IsGapAt sites at)) (edges : EdgeMap) (told : (m : List ℕ × List ℕ) → KeepsEdge edges m ↔ ByOne gaps IsEdgeOf m) where
  -- what is noted is a gap
  is_gap : (container child : List ℕ) → KeepsEdge edges (container, child) → (to : _) × IsPackedGap (by_known sites) s container child to
  is_gap container child edge =
      let (g, there, (of, is)) = (told (container, child)).0 edge in
      ⊎_elim
      (λ none. absurd (contains_none g none))
      (λ gap. (
        gap.to,
        subst (λ c. IsPackedGap (by_known sites) s container c gap.to) is (subst (λ c. IsPackedGap (by_known sites) s c g.child gap.to) of
            (subst (λ z. IsPackedGap (by_known sites) z g.container g.child gap.to) (some_is gap.site s (sym gap.there ∙ so)) gap.gap)),
      ))
      ((found g).0 there)

  -- and each is noted
  is_noted : (container child : List ℕ) (to : _) → IsPackedGap (by_known sites) s container child to → KeepsEdge edges (container, child)
  is_noted container child to gap =
      let (by, packed) = some_packer sites known are at s so container child gap.known in
      let g : GapItem = record { site = s.me; container = container; by = by; child = child } in
      (told (container, child)).1 (g, (found g).1 (inr (record { site = s; there = so; number = refl; to = to; gap = gap; packed = packed })), (refl, refl))

  -- so just those events are noted by which the site closes its gaps
  pub packs_at : (site : ℕ) (old new : List GapPack) → site ≡ s.me → AddsToList old new (λ p. (from : ℕ) × IsPackFrom sites known (Edges edges) site at from p) → AddsToList old new (IsPackAt sites at)
  packs_at site old new me = adds_alike (Contains old) (Contains new) (λ p. (from : ℕ) × IsPackFrom sites known (Edges edges) site at from p) (IsPackAt sites at)
      (λ p. (
        λ (from, (packer, source, (place, (own, e, stands, by, here, (keeps, child, packs, edge))))).
            let (u, t, is, also, came) = are.sound (p.container, record { at = at; from = from }) keeps in
            let (to, gap) = is_gap p.container child edge in (
              s,
              so,
              record {
                number = sym me ∙ own;
                packer = packer;
                listed = stands_in sites from packer source;
                by = by;
                event = e;
                stands = subst (λ k. slice_get packer.events k ≡ Some e) here stands;
                closes = record {
                  child = child;
                  packs = packs;
                  came = subst (λ z. Reaches (SendsOn sites p.container) z s) (some_is u packer (sym is ∙ source)) (subst (λ z. Reaches (SendsOn sites p.container) u z) (some_is t s (sym also ∙ so)) came);
                  to = to;
                  gap = gap;
                };
              },
            ),
        λ (t, also, pack). noted p t (some_is t s (sym also ∙ so)) pack,
      ))
    where
      noted : (p : GapPack) (t : SiteEvents) → t ≡ s → IsPackFor sites t p → (from : ℕ) × IsPackFrom sites known (Edges edges) site at from p
      noted p t is pack =
          let closing = pack.closes in
          let packed : Carries pack.packer.events p.container closing.child = (p.place, pack.event, slice_get_within pack.packer.events p.place pack.event pack.stands, get_or_from_slice_get pack.packer.events p.place pack.event pack.event pack.stands, closing.packs) in
          let (from, source, keeps) = are.complete at s pack.packer p.container closing.child so pack.listed packed (subst (λ z. Reaches (SendsOn sites p.container) pack.packer z) is closing.came) in
          let edge = is_noted p.container closing.child closing.to (subst (λ z. IsPackedGap (by_known sites) z p.container closing.child closing.to) is closing.gap) in
          let own : site ≡ p.site = me ∙ sym (ap (λ (z : SiteEvents). z.me) is) ∙ pack.number in
          (from, (pack.packer, source, (p.place, (own, pack.event, pack.stands, pack.by, refl, (keeps, closing.child, closing.packs, edge)))))

-- ---- all of them

pub all_packs : (sites : List SiteEvents) (n : ℕ) (packs ordered : List GapPack) → length sites ≤ n → AddsToList [] packs (Before n (IsPackAt sites))
    → ((p : GapPack) → Contains ordered p ↔ Contains packs p) → (p : GapPack) → Contains ordered p ↔ IsGapPack sites p
all_packs sites n packs ordered past adds same p = (
  λ h. ⊎_elim
      (λ none. absurd (contains_none p none))
      (λ (at, below, (s, so, pack)). (s, stands_in sites at s so, pack))
      ((adds p).0 ((same p).0 h)),
  λ (s, there, pack).
      let (k, so) = placed sites s there in
      (same p).1 ((adds p).1 (inr (k, within k (slice_get_within sites k s so), (s, so, pack)))),
)
  where
    within : (k : ℕ) → k < length sites → k < n
    within k below = omega (arith, below, past)

-- ---- those that tell of items

module _ (sites : List SiteEvents) (known : Index) (are : AreKnown sites known) (items : List (List ℕ)) (site at : ℕ) (s : SiteEvents) (so : slice_get sites at ≡ Some s) (me : s.me ≡ site) where
  pub item_packs_at : (old new : List GapPack) → AddsToList old new (λ p. (from : ℕ) × IsPackFrom sites known (Items items) site at from p) → AddsToList old new (IsItemPackAt sites site items at)
  item_packs_at old new = adds_alike (Contains old) (Contains new) (λ p. (from : ℕ) × IsPackFrom sites known (Items items) site at from p) (IsItemPackAt sites site items at)
      (λ p. (
        λ (from, (packer, source, (place, (own, e, stands, by, here, (keeps, child, packs, asked))))).
            let (u, t, is, also, came) = are.sound (p.container, record { at = at; from = from }) keeps in (
              s,
              so,
              me,
              record {
                number = me ∙ own;
                packer = packer;
                listed = stands_in sites from packer source;
                by = by;
                event = e;
                stands = subst (λ k. slice_get packer.events k ≡ Some e) here stands;
                child = child;
                packs = packs;
                came = subst (λ z. Reaches (SendsOn sites p.container) z s) (some_is u packer (sym is ∙ source)) (subst (λ z. Reaches (SendsOn sites p.container) u z) (some_is t s (sym also ∙ so)) came);
                asked = asked;
              },
            ),
        λ (t, also, of, tells). noted p t (some_is t s (sym also ∙ so)) tells,
      ))
    where
      noted : (p : GapPack) (t : SiteEvents) → t ≡ s → TellsItem sites t items p → (from : ℕ) × IsPackFrom sites known (Items items) site at from p
      noted p t is tells =
          let packed : Carries tells.packer.events p.container tells.child = (p.place, tells.event, slice_get_within tells.packer.events p.place tells.event tells.stands, get_or_from_slice_get tells.packer.events p.place tells.event tells.event tells.stands, tells.packs) in
          let (from, source, keeps) = are.complete at s tells.packer p.container tells.child so tells.listed packed (subst (λ z. Reaches (SendsOn sites p.container) tells.packer z) is tells.came) in
          let own : site ≡ p.site = sym me ∙ sym (ap (λ (z : SiteEvents). z.me) is) ∙ tells.number in
          (from, (tells.packer, source, (p.place, (own, tells.event, tells.stands, tells.by, refl, (keeps, tells.child, tells.packs, tells.asked)))))

-- of the same items there are the same
same_items : (sites : List SiteEvents) (xs ys : List (List ℕ)) (site at : ℕ) → ((i : List ℕ) → Contains xs i → Contains ys i) → (p : GapPack) → IsItemPackAt sites site xs at p → IsItemPackAt sites site ys at p
same_items sites xs ys site at also p (s, so, me, t) = (
  s,
  so,
  me,
  record {
    number = t.number;
    packer = t.packer;
    listed = t.listed;
    by = t.by;
    event = t.event;
    stands = t.stands;
    child = t.child;
    packs = t.packs;
    came = t.came;
    asked = also t.child t.asked;
  },
)

pub of_same_items : (sites : List SiteEvents) (xs ys : List (List ℕ)) (site at : ℕ) → ((i : List ℕ) → Contains xs i ↔ Contains ys i) → (old new : List GapPack) → AddsToList old new (IsItemPackAt sites site xs at) → AddsToList old new (IsItemPackAt sites site ys at)
of_same_items sites xs ys site at same old new = adds_alike (Contains old) (Contains new) (IsItemPackAt sites site xs at) (IsItemPackAt sites site ys at)
    (λ p. (same_items sites xs ys site at (λ i. (same i).0) p, same_items sites ys xs site at (λ i. (same i).1) p))

-- a site of another number has none
pub no_item_packs : (sites : List SiteEvents) (items : List (List ℕ)) (site at : ℕ) (s : SiteEvents) → slice_get sites at ≡ Some s → (s.me ≡ site → ⊥) → (old : List GapPack) → AddsToList old old (IsItemPackAt sites site items at)
no_item_packs sites items site at s so not old =
    adds_nothing (Contains old) (IsItemPackAt sites site items at) (λ p (t, also, of, tells). not (sym (ap (λ (z : SiteEvents). z.me) (some_is t s (sym also ∙ so))) ∙ of))

pub all_item_packs : (sites : List SiteEvents) (site : ℕ) (items : List (List ℕ)) (n : ℕ) (packs ordered : List GapPack) → length sites ≤ n → AddsToList [] packs (Before n (IsItemPackAt sites site items))
    → ((p : GapPack) → Contains ordered p ↔ Contains packs p) → (p : GapPack) → Contains ordered p ↔ IsItemPack sites site items p
all_item_packs sites site items n packs ordered past adds same p = (
  λ h. ⊎_elim
      (λ none. absurd (contains_none p none))
      (λ (at, below, (s, so, me, tells)). (s, stands_in sites at s so, me, tells))
      ((adds p).0 ((same p).0 h)),
  λ (s, there, me, tells).
      let (k, so) = placed sites s there in
      (same p).1 ((adds p).1 (inr (k, within k (slice_get_within sites k s so), (s, so, me, tells)))),
)
  where
    within : (k : ℕ) → k < length sites → k < n
    within k below = omega (arith, below, past)
