-- Containers that a site sent on, and into which another site put what isn't known there.
use Rattle.std.proofs.Common.{◌≡◌, ◌↔◌, inl, inr, ℕ, ◌<◌, ◌≤◌, ◌∙◌, List, [], ◌∷◌, ◌++◌, Some, length, slice_get, refl, sym, ap, subst, ⊎_elim, arith}
use Rattle.std.specs.BTreeMap.{get}
use Rattle.std.specs.List.{Contains}
use Rattle.std.proofs.lemmas.Option.{slice_get_within, slice_get-get_or}
use Rattle.trace_core.specs.Gaps.{IsElsewhere, IsSent, by_known}
use Rattle.trace_core.specs.Pairs.{Carries}
use Rattle.trace_core.specs.Sites.{SiteEvents}
use Rattle.trace_core.proofs.GapClosing.{known_is_where_it_came}
use Rattle.trace_core.proofs.Members.{contains_none}
use Rattle.trace_core.proofs.NumberLists.{some_is}
use Rattle.gap_core.specs.Adding.{AddsToList, ByOne}
use Rattle.gap_core.specs.Elsewhere.{IsSentElsewhere}
use Rattle.gap_core.specs.Sources.{AreKnown, AreOwn, Index, LiesIn, item_cmp, or_no_sources}
use Rattle.gap_core.specs.Unlinked.{IsLinked, IsUnknownItem, IsUnlinkedAt, IsUnlinkedChild, IsUnlinkedFrom, IsUnlinkedIn, UnlinkedNeverCame}
use Rattle.gap_core.specs.declared.gap_items.GapItem.{GapItem}
use Rattle.gap_core.specs.declared.sources.Source.{Source}
use Rattle.gap_core.proofs.Additions.{Before, adds_alike, adds_nothing, adds_one}
use Rattle.gap_core.proofs.EventsInTurn.{none_past}
use Rattle.gap_core.proofs.KnownSteps.{fills, lies_as_known, lies_known}
use Rattle.gap_core.proofs.Notings.{placed, stands_in}

-- ---- one child

module _ (site : ℕ) (container : List ℕ) (by : ℕ) (inside : List (List ℕ)) (child : List ℕ) where
  pub child_pushed : (old new : List GapItem) → (Contains inside child → ⊥) → new ≡ old ++ record { site = site; container = container; by = by; child = child } ∷ []
      → AddsToList old new (IsUnknownItem site container by inside child)
  child_pushed old new unknown is =
      let item : GapItem = record { site = site; container = container; by = by; child = child } in
      adds_alike (Contains old) (Contains new) (λ g. item ≡ g) (IsUnknownItem site container by inside child)
      (λ g. (λ same. (unknown, same), λ (also, same). same))
      (adds_one old new item is)

  pub child_known : (old : List GapItem) → Contains inside child → AddsToList old old (IsUnknownItem site container by inside child)
  child_known old known = adds_nothing (Contains old) (IsUnknownItem site container by inside child) (λ g (unknown, same). unknown known)

-- ---- one packer

module _ (sites : List SiteEvents) (known : Index) (are_known : AreKnown sites known) (at from : ℕ) (s u : SiteEvents) (so : slice_get sites at ≡ Some s) (from_so : slice_get sites from ≡ Some u) (container : List ℕ) where
  -- what it put in and isn't known, where it isn't linked
  pub packer_unlinked : (me by : ℕ) (inside children : List (List ℕ)) (old new : List GapItem) → me ≡ s.me → by ≡ u.me → (IsLinked s u known at from container → ⊥)
      → ((i : List ℕ) → Contains inside i ↔ LiesIn sites known at container i) → ((i : List ℕ) → Contains children i ↔ Carries u.events container i)
      → AddsToList old new (ByOne children (IsUnknownItem me container by inside)) → AddsToList old new (IsUnlinkedFrom sites at container from)
  packer_unlinked me by inside children old new own packs unlinked lie carry =
      adds_alike (Contains old) (Contains new) (ByOne children (IsUnknownItem me container by inside)) (IsUnlinkedFrom sites at container from)
      (λ g. (
        λ (child, there, (unknown, same)).
            let here : child ≡ g.child = ap (λ (x : GapItem). x.child) same in
            record {
              site = s;
              there = so;
              number = sym own ∙ ap (λ (x : GapItem). x.site) same;
              of = ap (λ (x : GapItem). x.container) same;
              packer = u;
              packer_there = from_so;
              packer_number = sym packs ∙ ap (λ (x : GapItem). x.by) same;
              other = λ one. unlinked (inl (sym one));
              packed = subst (Carries u.events container) here ((carry child).0 there);
              unknown = subst (λ c. by_known sites s container c → ⊥) here (λ knows. unknown ((lie child).1 ((lies_as_known sites known are_known at s so container child).1 knows)));
            },
        λ it.
            let one : it.site ≡ s = some_is it.site s (sym it.there ∙ so) in
            let two : it.packer ≡ u = some_is it.packer u (sym it.packer_there ∙ from_so) in (
              g.child,
              (carry g.child).1 (subst (λ (z : SiteEvents). Carries z.events container g.child) two it.packed),
              (
                λ h. it.unknown (subst (λ (z : SiteEvents). by_known sites z container g.child) (sym one) ((lies_as_known sites known are_known at s so container g.child).0 ((lie g.child).0 h))),
                told g me by (own ∙ sym (ap (λ (z : SiteEvents). z.me) one) ∙ it.number) it.of (packs ∙ sym (ap (λ (z : SiteEvents). z.me) two) ∙ it.packer_number),
              ),
            ),
      ))
    where
      told : (g : GapItem) (n m : ℕ) → n ≡ g.site → container ≡ g.container → m ≡ g.by → (let x : GapItem = record { site = n; container = container; by = m; child = g.child } in x) ≡ g
      told g n m first second third = λ k. record { site = first k; container = second k; by = third k; child = g.child }

  -- nothing where it is, as all that it put in is known, or has the same number
  pub packer_linked : (old : List GapItem) → IsLinked s u known at from container → AddsToList old old (IsUnlinkedFrom sites at container from)
  packer_linked old linked = adds_nothing (Contains old) (IsUnlinkedFrom sites at container from)
      (λ g it.
      let one : it.site ≡ s = some_is it.site s (sym it.there ∙ so) in
      let two : it.packer ≡ u = some_is it.packer u (sym it.packer_there ∙ from_so) in
      ⊎_elim
      (λ same. it.other (ap (λ (z : SiteEvents). z.me) two ∙ sym same ∙ sym (ap (λ (z : SiteEvents). z.me) one)))
      (λ keeps. it.unknown (lies_known sites known are_known.sound at it.site it.there container g.child (from, keeps, (it.packer, it.packer_there, it.packed))))
      linked)

pub no_packer : (sites : List SiteEvents) (at from : ℕ) (container : List ℕ) (old : List GapItem) → length sites ≤ from → AddsToList old old (IsUnlinkedFrom sites at container from)
no_packer sites at from container old past = adds_nothing (Contains old) (IsUnlinkedFrom sites at container from) (λ g it. none_past sites from it.packer past it.packer_there)

-- ---- one container: each site that packed it is an own source

pub all_packers : (sites : List SiteEvents) (own : Index) → AreOwn sites own → (at : ℕ) (container : List ℕ) (sources : List Source) (old new : List GapItem) → sources ≡ or_no_sources (get item_cmp own container)
    → AddsToList old new (ByOne sources (λ source. IsUnlinkedFrom sites at container source.from)) → AddsToList old new (IsUnlinkedIn sites at container)
all_packers sites own are_own at container sources old new are =
    adds_alike (Contains old) (Contains new) (ByOne sources (λ source. IsUnlinkedFrom sites at container source.from)) (IsUnlinkedIn sites at container)
    (λ g. (
      λ (source, there, it). (source.from, it),
      λ (from, it).
          let (k, e, below, is, packs) = it.packed in (
            record { at = from; from = from },
            subst (λ xs. Contains xs (record { at = from; from = from })) (sym are) ((are_own (container, record { at = from; from = from })).1 (from, (it.packer, it.packer_there, k, (e, slice_get-get_or it.packer.events k e below ∙ ap Some is, (fills container g.child e.body packs, refl))))),
            it,
          ),
    ))

-- ---- one site

pub site_unlinked : (sites : List SiteEvents) (at : ℕ) (sent : List (List ℕ)) (old new : List GapItem) → ((i : List ℕ) → Contains sent i ↔ IsSentElsewhere sites at i)
    → AddsToList old new (ByOne sent (IsUnlinkedIn sites at)) → AddsToList old new (IsUnlinkedAt sites at)
site_unlinked sites at sent old new are = adds_alike (Contains old) (Contains new) (ByOne sent (IsUnlinkedIn sites at)) (IsUnlinkedAt sites at)
    (λ g. (
      λ (container, there, (from, it)). (subst (IsSentElsewhere sites at) it.of ((are container).0 there), subst (λ c. IsUnlinkedIn sites at c g) it.of (from, it)),
      λ (sent_on, it). (g.container, (are g.container).1 sent_on, it),
    ))

-- ---- all sites

pub all_unlinked : (sites : List SiteEvents) (n : ℕ) (found ordered : List GapItem) → length sites ≤ n → AddsToList [] found (Before n (IsUnlinkedAt sites))
    → ((g : GapItem) → Contains ordered g ↔ Contains found g) → (g : GapItem) → Contains ordered g ↔ IsUnlinkedChild sites g
all_unlinked sites n found ordered past adds same g = (
  λ h. ⊎_elim
      (λ none. absurd (contains_none g none))
      (λ (at, below, ((s, so, to, other, sent), (from, it))).
      let one : s ≡ it.site = some_is s it.site (sym so ∙ it.there) in
      record {
        site = it.site;
        there = stands_in sites at it.site it.there;
        number = it.number;
        to = to;
        elsewhere = subst (λ z. IsElsewhere z to) one other;
        sent = subst (λ z. IsSent (by_known sites) z g.container to) one sent;
        packer = it.packer;
        packer_there = stands_in sites from it.packer it.packer_there;
        packer_number = it.packer_number;
        other = it.other;
        packed = it.packed;
        unknown = it.unknown;
      })
      ((adds g).0 ((same g).0 h)),
  λ it.
      let (k, so) = placed sites it.site it.there in
      let (from, from_so) = placed sites it.packer it.packer_there in
      (same g).1 ((adds g).1 (inr (
        k,
        within k (slice_get_within sites k it.site so),
        (
          (it.site, so, it.to, it.elsewhere, it.sent),
          (
            from,
            record {
              site = it.site;
              there = so;
              number = it.number;
              of = refl;
              packer = it.packer;
              packer_there = from_so;
              packer_number = it.packer_number;
              other = it.other;
              packed = it.packed;
              unknown = it.unknown;
            },
          ),
        ),
      ))),
)
  where
    within : (k : ℕ) → k < length sites → k < n
    within k below = omega (arith, below, past)

-- ---- what is told came from no site that packed it

pub unlinked_never_came : UnlinkedNeverCame
unlinked_never_came sites g it = (
  λ carries. it.unknown (0, carries),
  λ u there carries came. it.unknown ((known_is_where_it_came sites it.site it.there g.container g.child).1 (u, there, carries, came)),
)
