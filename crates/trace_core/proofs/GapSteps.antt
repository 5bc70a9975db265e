-- Packed gaps: what is missed has a gap before it, and closing gaps adds nothing to what is known.
use Rattle.std.proofs.Common.{◌↔◌, ℕ, zero, suc, Bool, true, false, cond, List, [], refl, sym, subst, inl, inr, ⊎_elim}
use mathlib.Core.Logic.{◌⊎◌}
use mathlib.Core.Bool.{false≢true}
use Rattle.std.specs.Bool.{Decides}
use Rattle.std.specs.List.{Contains, flat_map}
use Rattle.std.proofs.lemmas.Bool.{cases_Bool, cond-true, cond-false}
use Rattle.std.proofs.lemmas.Bool.Decides.{Decides-like}
use Rattle.event_json.specs.declared.bodies.Body.{Body}
use Rattle.event_json.specs.declared.bodies.Body.TheVariants.{Note, Ship, Make, Pack}
use Rattle.trace_core.specs.declared.pairs.Pair.{Pair}
use Rattle.trace_core.specs.Chains.{Related}
use Rattle.trace_core.specs.Gaps.{Place, ShipsOut, IsElsewhere, Lying, by_own, IsSent, IsRelatedBy, RelatedBy, known_over, by_known, by_all, IsMissed, IsPackedGap, OwnIsNarrow, WideIsBetween, GapsAreMisses, GapsAreMissesBy, IsMissedOnTheWay, WideReachIsTold, WideReachIsToldBy, HasNoTouchedGap, ReachesAgree, NoGapMissesNothing, NoGapMissesNothingBy}
use Rattle.trace_core.specs.Pairs.{Carries}
use Rattle.trace_core.specs.PairTests.{lists, is_sent}
use Rattle.trace_core.specs.Relations.{Reaches}
use Rattle.trace_core.specs.Sites.{SiteEvents}
use Rattle.trace_core.proofs.ChainLaws.{reaches_itself, reaches_step, reached_holds, reach_widens}
use Rattle.trace_core.proofs.Members.{contains_none, contains-flat_map}
use Rattle.trace_core.proofs.PairTestsDecide.{lists_decides, carried_decides, sent_is_decided}
use Rattle.trace_core.proofs.SetMembers.{contains-from_flat_map}

-- ---- whether the own packings tell it is decided

abbrev out_at : List ℕ → Body → List (List ℕ)
out_at text (Note items) = []
out_at text (Ship items sites outside) = cond (lists outside text) items []
out_at text (Make id ins outs) = []
out_at text (Pack action parent children) = []

out_is : (text : List ℕ) (b : Body) (i : List ℕ) → Contains (out_at text b) i ↔ ShipsOut i text b
out_is text (Note items) i = (λ h. absurd (contains_none i h), λ none. absurd none)
out_is text (Make id ins outs) i = (λ h. absurd (contains_none i h), λ none. absurd none)
out_is text (Pack action parent children) i = (λ h. absurd (contains_none i h), λ none. absurd none)
out_is text (Ship items sites outside) i = (
  λ h. ⊎_elim
      (λ goes. (subst (λ xs. Contains xs i) (cond-true _ items [] goes) h, (lists_decides outside text).0 goes))
      (λ missing. absurd (contains_none i (subst (λ xs. Contains xs i) (cond-false _ items [] missing) h)))
      (cases_Bool (lists outside text)),
  λ (listed, goes). subst (λ xs. Contains xs i) (sym (cond-true _ items [] ((lists_decides outside text).1 goes))) listed,
)

either_way : (b : Bool) (P : Type 0) → Decides b P → P ⊎ (P → ⊥)
either_way true P d = inl (d.0 refl)
either_way false P d = inr (λ p. false≢true (d.1 p))

out_decided : (s : SiteEvents) (i text : List ℕ) → IsSent by_own s i (inr text) ⊎ (IsSent by_own s i (inr text) → ⊥)
out_decided s i text = either_way _ (IsSent by_own s i (inr text)) (Decides-like _
    (λ (carrier, there, carried).
    let (e, (k, lt, at), shipped) = contains-from_flat_map (λ e. out_at text e.body) s.events carrier there in
    (carrier, (k, e, lt, at, (out_is text e.body carrier).0 shipped), carried))
    (λ (carrier, (k, e, lt, at, ships), carried).
    (carrier, contains-flat_map (λ e. out_at text e.body) s.events e carrier (k, lt, at) ((out_is text e.body carrier).1 ships), carried))
    (carried_decides s.events (flat_map (λ e. out_at text e.body) s.events) i))

pub sent_or_not : (s : SiteEvents) (i : List ℕ) (to : Place) → IsSent by_own s i to ⊎ (IsSent by_own s i to → ⊥)
sent_or_not s i (inl site) = either_way (is_sent s.events i site) (IsSent by_own s i (inl site)) (sent_is_decided s.events i site)
sent_or_not s i (inr text) = out_decided s i text

-- ---- wider packings

pub sent_by_wider : (R S : Lying) (s : SiteEvents) → ((x y : List ℕ) → R s x y → S s x y) → (i : List ℕ) (to : Place) → IsSent R s i to → IsSent S s i to
sent_by_wider R S s wider i to (carrier, ships, carried) = (carrier, ships, reach_widens (R s) (S s) wider carrier i carried)

pub own_is_narrow : OwnIsNarrow
own_is_narrow sites p q = (λ h. h, λ h. h)

own_known : (sites : List SiteEvents) (s : SiteEvents) (x y : List ℕ) → Carries s.events x y → by_known sites s x y
own_known sites s x y h = (0, h)

related_by_wider : (R S : Lying) (s : SiteEvents) → ((x y : List ℕ) → R s x y → S s x y) → (i : List ℕ) (q : Pair) → IsRelatedBy R s i q → IsRelatedBy S s i q
related_by_wider R S s wider i q h = ⊎_elim
    (λ (other, same, sent). inl (other, same, sent_by_wider R S s wider i (inl q.site) sent))
    (λ made. inr made)
    h

known_somewhere : (sites : List SiteEvents) (n : ℕ) (s : SiteEvents) → Contains sites s → (x y : List ℕ) → known_over sites n s x y → by_all sites s x y
known_somewhere sites zero s there x y h = inl h
known_somewhere sites (suc n) s there x y h = ⊎_elim
    (λ before. known_somewhere sites n s there x y before)
    (λ (k, u, lt, at, (sent, knows)). ⊎_elim (λ own. inr (k, u, lt, at, own)) (λ any. inr any) (known_somewhere sites n u (k, lt, at) x y knows))
    h

pub wide_is_between : WideIsBetween
wide_is_between sites p q = (
  λ (k, s, lt, at, (me, h)). (k, s, lt, at, (me, related_by_wider by_own (by_known sites) s (own_known sites s) p.item q h)),
  λ (k, s, lt, at, (me, h)). (k, s, lt, at, (me, related_by_wider (by_known sites) (by_all sites) s (λ x y (n, knows). known_somewhere sites n s (k, lt, at) x y knows) p.item q h)),
)

-- ---- by any packings that have the own ones

abbrev HasOwn : (List SiteEvents → Lying) → Type 0
HasOwn by = (sites : List SiteEvents) (s : SiteEvents) (x y : List ℕ) → Carries s.events x y → by sites s x y

module _ (by : List SiteEvents → Lying) (own : HasOwn by) where
  -- ---- what is missed has a gap before it

  module _ (sites : List SiteEvents) (s : SiteEvents) (to : Place) where
    abbrev Gap : List ℕ → List ℕ → Type 0
    Gap p c = IsPackedGap (by sites) s p c to

    abbrev Before : List ℕ → Type 0
    Before x = (p : List ℕ) × (c : List ℕ) × Gap p c × Reaches (by sites s) c x

    gap_here : IsElsewhere s to → (y z : List ℕ) → IsSent by_own s y to → by sites s y z → (IsSent by_own s z to → ⊥) → Gap y z
    gap_here other y z (carrier, ships, carried) knows untold = record {
      elsewhere = other;
      goes = sent_by_wider by_own (by sites) s (own sites s) y to (carrier, ships, carried);
      known = knows;
      uncaptured = λ packed. untold (carrier, ships, reaches_step (Carries s.events) carrier y z carried packed);
      untold = untold;
    }

    told_or_gap : IsElsewhere s to → (y z : List ℕ) → IsSent by_own s y to ⊎ Before y → by sites s y z → IsSent by_own s z to ⊎ Before z
    told_or_gap other y z either knows = ⊎_elim
        (λ told. ⊎_elim
        (λ now. inl now)
        (λ untold. inr (y, z, gap_here other y z told knows untold, reaches_itself (by sites s) z))
        (sent_or_not s z to))
        (λ (p, c, gap, on). inr (p, c, gap, reaches_step (by sites s) c y z on knows))
        either

    gap_before : (item : List ℕ) → IsMissed (by sites) s item to → Before item
    gap_before item missed =
        let (carrier, ships, carried) = missed.goes in
        ⊎_elim
        (λ told. absurd (missed.untold told))
        (λ before. before)
        (reached_holds (by sites s) (λ x. IsSent by_own s x to ⊎ Before x) (told_or_gap missed.elsewhere) carrier item carried
        (inl (carrier, ships, reaches_itself (Carries s.events) carrier)))

    gap_missed : (p c : List ℕ) → Gap p c → IsMissed (by sites) s c to
    gap_missed p c gap =
        let (carrier, ships, carried) = gap.goes in
        record { elsewhere = gap.elsewhere; goes = (carrier, ships, reaches_step (by sites s) carrier p c carried gap.known); untold = gap.untold }

  pub gaps_are_misses_by : GapsAreMissesBy by
  gaps_are_misses_by sites s to = (gap_missed sites s to, gap_before sites s to)

  -- ---- the wide reach

  module _ (sites : List SiteEvents) (root : Pair) where
    abbrev Told : Pair → Type 0
    Told p = Reaches (Related sites) root p ⊎ IsMissedOnTheWay by sites root

    one_more : (p q : Pair) → Told p → RelatedBy (by sites) sites p q → Told q
    one_more p q told (k, s, lt, at, (me, h)) = ⊎_elim
        (λ reached. ⊎_elim
        (λ (other, same, sent). ⊎_elim
        (λ own. inl (reaches_step (Related sites) root p q reached (k, s, lt, at, (me, inl (other, same, own)))))
        (λ untold. inr (record {
          site = s;
          there = (k, lt, at);
          item = p.item;
          reached = subst (λ n. Reaches (Related sites) root (record { site = n; item = p.item })) (sym me) reached;
          to = q.site;
          missed = record { elsewhere = other; goes = sent; untold = untold };
        }))
        (sent_or_not s p.item (inl q.site)))
        (λ made. inl (reaches_step (Related sites) root p q reached (k, s, lt, at, (me, inr made))))
        h)
        (λ missed. inr missed)
        told

    wide_told : (p : Pair) → Reaches (RelatedBy (by sites) sites) root p → Told p
    wide_told p wide = reached_holds (RelatedBy (by sites) sites) Told one_more root p wide (inl (reaches_itself (Related sites) root))

    wider : (p q : Pair) → Related sites p q → RelatedBy (by sites) sites p q
    wider p q (k, s, lt, at, (me, h)) = (k, s, lt, at, (me, related_by_wider by_own (by sites) s (own sites s) p.item q h))

    missed_reached : (m : IsMissedOnTheWay by sites root) → Reaches (RelatedBy (by sites) sites) root (record { site = m.to; item = m.item })
    missed_reached m =
        let (k, lt, at) = m.there in
        reaches_step (RelatedBy (by sites) sites) root (record { site = m.site.me; item = m.item }) (record { site = m.to; item = m.item })
        (reach_widens (Related sites) (RelatedBy (by sites) sites) wider root (record { site = m.site.me; item = m.item }) m.reached)
        (k, m.site, lt, at, (refl, inl (m.missed.elsewhere, refl, m.missed.goes)))

    untouched : HasNoTouchedGap by sites root → (s : SiteEvents) (item : List ℕ) (to : Place) → Contains sites s
        → Reaches (Related sites) root (record { site = s.me; item = item }) → IsMissed (by sites) s item to → ⊥
    untouched none s item to there reached missed =
        let (parent, child, gap, on) = gap_before sites s to item missed in
        none s parent child to (record { there = there; gap = gap; item = item; inside = on; reached = reached })

    agree : HasNoTouchedGap by sites root → ReachesAgree by sites root
    agree none = (
      λ p. (
        λ wide. ⊎_elim (λ reached. reached) (λ m. absurd (untouched none m.site m.item (inl m.to) m.there m.reached m.missed)) (wide_told p wide),
        reach_widens (Related sites) (RelatedBy (by sites) sites) wider root p,
      ),
      λ s item text there reached. (
        λ sent. ⊎_elim
            (λ told. told)
            (λ untold. absurd (untouched none s item (inr text) there reached (record { elsewhere = tt; goes = sent; untold = untold })))
            (sent_or_not s item (inr text)),
        sent_by_wider by_own (by sites) s (own sites s) item (inr text),
      ),
    )

  pub wide_reach_is_told_by : WideReachIsToldBy by
  wide_reach_is_told_by sites root = (wide_told sites root, missed_reached sites root)

  pub no_gap_misses_nothing_by : NoGapMissesNothingBy by
  no_gap_misses_nothing_by sites root = (
    agree sites root,
    λ none s parent child to touched. none s touched.item parent child to touched.there touched.reached touched.gap,
  )

known_has_own : HasOwn by_known
known_has_own sites s x y h = (0, h)

all_has_own : HasOwn by_all
all_has_own sites s x y h = inl h

pub gaps_are_misses : GapsAreMisses
gaps_are_misses = (gaps_are_misses_by by_known known_has_own, gaps_are_misses_by by_all all_has_own)

pub wide_reach_is_told : WideReachIsTold
wide_reach_is_told = (wide_reach_is_told_by by_known known_has_own, wide_reach_is_told_by by_all all_has_own)

pub no_gap_misses_nothing : NoGapMissesNothing
no_gap_misses_nothing = (no_gap_misses_nothing_by by_known known_has_own, no_gap_misses_nothing_by by_all all_has_own)
