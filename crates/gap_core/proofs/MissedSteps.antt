-- Items that are missed, shipment by shipment.
use Rattle.std.proofs.Common.{◌≡◌, ◌↔◌, inr, ℕ, ◌<◌, ◌≤◌, ◌∙◌, List, [], ◌∷◌, ◌++◌, None, Some, length, slice_get, sym, ap, subst, ⊎_elim, arith}
use Rattle.std.specs.List.{Contains}
use Rattle.std.proofs.lemmas.Option.{slice_get_within}
use Rattle.trace_core.specs.declared.pairs.Pair.{Pair}
use Rattle.trace_core.specs.Gaps.{IsMissed, by_known}
use Rattle.trace_core.specs.Sites.{SiteEvents}
use Rattle.trace_core.proofs.Members.{contains_none}
use Rattle.trace_core.proofs.NumberLists.{none_is, some_is}
use Rattle.gap_core.specs.Adding.{AddsToList, ByOne}
use Rattle.gap_core.specs.Batches.{AreAllBatches}
use Rattle.gap_core.specs.GapItems.{IsSentBy}
use Rattle.gap_core.specs.Missed.{IsMissedAt, IsMissedBy, IsMissedIn, IsMissedOfAt, IsMissedPair}
use Rattle.gap_core.specs.Sources.{AreKnown, AreOwn, Index}
use Rattle.gap_core.proofs.Additions.{Before, adds_alike, adds_nothing, adds_one}
use Rattle.gap_core.proofs.GapSteps.{sends_known, sends_own}
use Rattle.gap_core.proofs.Notings.{placed, stands_in}
use Rattle.gap_core.proofs.ShippedItems.{ship_goes}

module _ (sites : List SiteEvents) (at : ℕ) (told : List (List ℕ)) where
  pub item_missed : (item : List ℕ) (s : SiteEvents) (me : ℕ) (old new : List Pair) → slice_get sites at ≡ Some s → me ≡ s.me → (Contains told item → ⊥)
      → new ≡ old ++ record { site = me; item = item } ∷ [] → AddsToList old new (IsMissedIn sites at told item)
  item_missed item s me old new so is untold pushed =
      let pair : Pair = record { site = me; item = item } in
      adds_alike (Contains old) (Contains new) (λ p. pair ≡ p) (IsMissedIn sites at told item)
      (λ p. (
        λ same. (untold, s, so, subst (λ (n : ℕ). (let x : Pair = record { site = n; item = item } in x) ≡ p) is same),
        λ (also, t, st, same). subst (λ (n : ℕ). (let x : Pair = record { site = n; item = item } in x) ≡ p) (ap (λ (z : SiteEvents). z.me) (some_is t s (sym st ∙ so)) ∙ sym is) same,
      ))
      (adds_one old new pair pushed)

  pub told_item : (item : List ℕ) (old : List Pair) → Contains told item → AddsToList old old (IsMissedIn sites at told item)
  told_item item old known = adds_nothing (Contains old) (IsMissedIn sites at told item) (λ p (untold, s, so, same). untold known)

  module _ (sent : List (List ℕ)) where
    pub item_at : (place : ℕ) (item : List ℕ) (old new : List Pair) → slice_get sent place ≡ Some item
        → AddsToList old new (IsMissedIn sites at told item) → AddsToList old new (IsMissedOfAt sites at sent told place)
    item_at place item old new so = adds_alike (Contains old) (Contains new) (IsMissedIn sites at told item) (IsMissedOfAt sites at sent told place)
        (λ p. (
          λ h. (item, so, h),
          λ (i, also, h). subst (λ x. IsMissedIn sites at told x p) (some_is i item (sym also ∙ so)) h,
        ))

    pub no_item_at : (place : ℕ) (old : List Pair) → None ≡ slice_get sent place → AddsToList old old (IsMissedOfAt sites at sent told place)
    no_item_at place old none = adds_nothing (Contains old) (IsMissedOfAt sites at sent told place) (λ p (i, so, h). none_is i (none ∙ so))

    pub all_items : (n : ℕ) (old new : List Pair) → length sent ≤ n → AddsToList old new (Before n (IsMissedOfAt sites at sent told))
        → AddsToList old new (λ p. Contains sent p.item × IsMissedIn sites at told p.item p)
    all_items n old new past = adds_alike (Contains old) (Contains new) (Before n (IsMissedOfAt sites at sent told)) (λ p. Contains sent p.item × IsMissedIn sites at told p.item p)
        (λ p. (
          λ (k, below, (i, so, (untold, s, st, same))).
              let here : i ≡ p.item = ap (λ (x : Pair). x.item) same in
              (subst (Contains sent) here (stands_in sent k i so), subst (λ x. IsMissedIn sites at told x p) here (untold, s, st, same)),
          λ (there, h). let (k, so) = placed sent p.item there in (k, within k (slice_get_within sent k p.item so), (p.item, so, h)),
        ))
      where
        within : (k : ℕ) → k < length sent → k < n
        within k below = omega (arith, below, past)

-- the shipments at some places
pub batch_missed : (sites : List SiteEvents) (own known : Index) (at : ℕ) (places : List ℕ) (told sent : List (List ℕ)) (old new : List Pair)
    → ((i : List ℕ) → Contains told i ↔ IsSentBy sites own at places i) → ((i : List ℕ) → Contains sent i ↔ IsSentBy sites known at places i)
    → AddsToList old new (λ p. Contains sent p.item × IsMissedIn sites at told p.item p) → AddsToList old new (IsMissedBy sites own known at places)
batch_missed sites own known at places told sent old new tell send =
    adds_alike (Contains old) (Contains new) (λ p. Contains sent p.item × IsMissedIn sites at told p.item p) (IsMissedBy sites own known at places)
    (λ p. (
      λ (there, (untold, s, so, same)). record {
        site = s;
        there = so;
        number = ap (λ (x : Pair). x.site) same;
        sent = (send p.item).0 there;
        untold = λ h. untold ((tell p.item).1 h);
      },
      λ m. ((send p.item).1 m.sent, ((λ h. m.untold ((tell p.item).0 h)), m.site, m.there, pair_is p m.site.me m.number)),
    ))
  where
    pair_is : (p : Pair) (n : ℕ) → n ≡ p.site → (let x : Pair = record { site = n; item = p.item } in x) ≡ p
    pair_is p n is = λ k. record { site = is k; item = p.item }

-- the site
pub site_missed : (sites : List SiteEvents) (own known : Index) → AreOwn sites own → AreKnown sites known → (at : ℕ) (s : SiteEvents) → slice_get sites at ≡ Some s
    → (batches : List (List ℕ)) (old new : List Pair) → AreAllBatches s batches → AddsToList old new (ByOne batches (IsMissedBy sites own known at)) → AddsToList old new (IsMissedAt sites at)
site_missed sites own known are_own are_known at s so batches old new all =
    adds_alike (Contains old) (Contains new) (ByOne batches (IsMissedBy sites own known at)) (IsMissedAt sites at)
    (λ p. (
      λ (places, there, m).
          let (to, elsewhere, are) = all.sound places there in
          record {
            site = s;
            there = so;
            number = sym (ap (λ (z : SiteEvents). z.me) (some_is m.site s (sym m.there ∙ so))) ∙ m.number;
            to = to;
            missed = record {
              elsewhere = elsewhere;
              goes = (sends_known sites own known are_own are_known at s so to places are p.item).0 m.sent;
              untold = λ told. m.untold ((sends_own sites own known are_own are_known at s so to places are p.item).1 told);
            };
          },
      λ m.
          let one : m.site ≡ s = some_is m.site s (sym m.there ∙ so) in
          let missed : IsMissed (by_known sites) s p.item m.to = subst (λ z. IsMissed (by_known sites) z p.item m.to) one m.missed in
          let (carrier, ships, chain) = missed.goes in
          let (k, goes) = ship_goes s.events m.to carrier ships in
          let (places, there, are) = all.complete m.to missed.elsewhere k goes in (
            places,
            there,
            record {
              site = s;
              there = so;
              number = sym (ap (λ (z : SiteEvents). z.me) one) ∙ m.number;
              sent = (sends_known sites own known are_own are_known at s so m.to places are p.item).1 missed.goes;
              untold = λ told. missed.untold ((sends_own sites own known are_own are_known at s so m.to places are p.item).0 told);
            },
          ),
    ))

-- all sites
pub all_missed : (sites : List SiteEvents) (n : ℕ) (missed ordered : List Pair) → length sites ≤ n → AddsToList [] missed (Before n (IsMissedAt sites))
    → ((p : Pair) → Contains ordered p ↔ Contains missed p) → (p : Pair) → Contains ordered p ↔ IsMissedPair sites p
all_missed sites n missed ordered past adds same p = (
  λ h. ⊎_elim
      (λ none. absurd (contains_none p none))
      (λ (at, below, m). record { site = m.site; there = stands_in sites at m.site m.there; number = m.number; to = m.to; missed = m.missed })
      ((adds p).0 ((same p).0 h)),
  λ m.
      let (k, so) = placed sites m.site m.there in
      (same p).1 ((adds p).1 (inr (k, within k (slice_get_within sites k m.site so), record { site = m.site; there = so; number = m.number; to = m.to; missed = m.missed }))),
)
  where
    within : (k : ℕ) → k < length sites → k < n
    within k below = omega (arith, below, past)
