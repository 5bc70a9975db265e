-- Packed gaps: a container is shipped on by a site that never captured what another site packed into it. The narrow relation of `Pairs` follows a
-- shipment by the packings of the shipping site alone; the wide one by all packings that came to it with the goods.
use Rattle.std.specs.Prelude.{◌≡◌, ◌≢◌, ℕ, zero, suc, ⊤, Bool, IsTrue, List, ◌++◌, Some, Any, Contains, ◌↔◌}
use Rattle.std.specs.List.{AllZip}
use mathlib.Core.Logic.{◌⊎◌, inl, inr}
use Rattle.event_json.specs.Events.{Content}
use Rattle.event_json.specs.declared.bodies.Action.TheVariants.{Add}
use Rattle.event_json.specs.declared.bodies.Body.{Body}
use Rattle.event_json.specs.declared.bodies.Body.TheVariants.{Note, Ship, Make, Pack}
use Rattle.trace_core.specs.declared.pairs.Pair.{Pair}
use Rattle.trace_core.specs.Chains.{Related}
use Rattle.trace_core.specs.Pairs.{Ships, Packs, Carries, IsMade}
use Rattle.trace_core.specs.Relations.{Reaches}
use Rattle.trace_core.specs.Sites.{SiteEvents}

-- where a shipment goes: a traced site by its number, or a place outside by its text
abbrev pub Place : Type 0
Place = ℕ ⊎ List ℕ

-- a shipment of the item to a place outside the traced sites
abbrev pub ShipsOut : List ℕ → List ℕ → Body → Type 0
ShipsOut item text (Note items) = ⊥
ShipsOut item text (Ship items sites outside) = Contains items item × Contains outside text
ShipsOut item text (Make id ins outs) = ⊥
ShipsOut item text (Pack action parent children) = ⊥

-- a shipment of the item to the place
abbrev pub ShipsTo : List ℕ → Place → Body → Type 0
ShipsTo item (inl site) body = Ships item site body
ShipsTo item (inr text) body = ShipsOut item text body

-- the place isn't the site itself
abbrev pub IsElsewhere : SiteEvents → Place → Type 0
IsElsewhere s (inl site) = site ≢ s.me
IsElsewhere s (inr text) = ⊤

-- what is taken to lie in what at a site: a parent and a child
abbrev pub Lying : Type 1
Lying = SiteEvents → List ℕ → List ℕ → Type 0

-- by the site's own packings
abbrev pub by_own : Lying
by_own s = Carries s.events

-- the item was shipped there from the site, or something in which it is taken to lie
abbrev pub IsSent : Lying → SiteEvents → List ℕ → Place → Type 0
IsSent lies s item to = (carrier : List ℕ) × Any (λ e. ShipsTo carrier to e.body) s.events × Reaches (lies s) carrier item

-- a pair by shipment, and by transformation as ever
abbrev pub IsRelatedBy : Lying → SiteEvents → List ℕ → Pair → Type 0
IsRelatedBy lies s item q = ((q.site ≢ s.me) × (q.item ≡ item) × IsSent lies s item (inl q.site)) ⊎ IsMade s item q

abbrev pub RelatedBy : Lying → List SiteEvents → Pair → Pair → Type 0
RelatedBy lies sites p q = Any (λ s. (s.me ≡ p.site) × IsRelatedBy lies s p.item q) sites

-- the packing came to the site with the goods: one of the sites takes it so, and sent the parent there
abbrev pub CameWith : List SiteEvents → Lying → Lying
CameWith sites lies s parent child = Any (λ u. IsSent lies u parent (inl s.me) × lies u parent child) sites

-- what is known of packings after they came over so many sites
abbrev pub known_over : List SiteEvents → ℕ → Lying
known_over sites zero s parent child = Carries s.events parent child
known_over sites (suc n) s parent child = known_over sites n s parent child ⊎ CameWith sites (known_over sites n) s parent child

-- what is known at a site of packings: its own, and those that came with the goods, over as many sites as it took
abbrev pub by_known : List SiteEvents → Lying
by_known sites s parent child = (n : ℕ) × known_over sites n s parent child

-- by the packings of all sites, whether the goods came from there or not
abbrev pub by_all : List SiteEvents → Lying
by_all sites s parent child = Carries s.events parent child ⊎ Any (λ u. Carries u.events parent child) sites

-- the wide relation
abbrev pub WideRelated : List SiteEvents → Pair → Pair → Type 0
WideRelated sites = RelatedBy (by_known sites) sites

-- the item goes there with a container, and the site's own packings don't tell it
pub record IsMissed (lies : Lying) (s : SiteEvents) (item : List ℕ) (to : Place) : Type 0 where
  pub elsewhere : IsElsewhere s to
  pub goes : IsSent lies s item to
  pub untold : IsSent by_own s item to → ⊥

-- a gap: the parent goes there, the child is known to lie in it, the site's own packings don't tell that it does, nor that it goes there
pub record IsPackedGap (lies : Lying) (s : SiteEvents) (parent child : List ℕ) (to : Place) : Type 0 where
  pub elsewhere : IsElsewhere s to
  pub goes : IsSent lies s parent to
  pub known : lies s parent child
  pub uncaptured : Carries s.events parent child → ⊥
  pub untold : IsSent by_own s child to → ⊥

-- the narrow relation is the one by the sites' own packings, word for word
abbrev pub OwnIsNarrow : Type 0
OwnIsNarrow = (sites : List SiteEvents) (p q : Pair) → RelatedBy by_own sites p q ↔ Related sites p q

-- what is related is widely related, and what is widely related is related by the packings of all sites
abbrev pub WideIsBetween : Type 0
WideIsBetween = (sites : List SiteEvents) (p q : Pair) → (Related sites p q → WideRelated sites p q) × (WideRelated sites p q → RelatedBy (by_all sites) sites p q)

-- at a site something is missed exactly where there is a gap: a gap's child is missed, and what is missed lies in a gap's child
abbrev pub GapsAreMissesBy : (List SiteEvents → Lying) → Type 0
GapsAreMissesBy by =
    (sites : List SiteEvents) (s : SiteEvents) (to : Place)
    → ((parent child : List ℕ) → IsPackedGap (by sites) s parent child to → IsMissed (by sites) s child to)
    × ((item : List ℕ) → IsMissed (by sites) s item to
    → (parent : List ℕ) × (child : List ℕ) × IsPackedGap (by sites) s parent child to × Reaches (by sites s) child item)

-- an item that is reached at one of the sites goes from there to a further one, and is missed
pub record IsMissedOnTheWay (by : List SiteEvents → Lying) (sites : List SiteEvents) (root : Pair) : Type 0 where
  pub site : SiteEvents
  pub there : Contains sites site
  pub item : List ℕ
  pub reached : Reaches (Related sites) root (record { site = site.me; item = item })
  pub to : ℕ
  pub missed : IsMissed (by sites) site item (inl to)

-- what is widely reached is reached, or something is missed on the way, where the narrow reach stops short; and that is widely reached
abbrev pub WideReachIsToldBy : (List SiteEvents → Lying) → Type 0
WideReachIsToldBy by =
    (sites : List SiteEvents) (root : Pair)
    → ((p : Pair) → Reaches (RelatedBy (by sites) sites) root p → Reaches (Related sites) root p ⊎ IsMissedOnTheWay by sites root)
    × ((m : IsMissedOnTheWay by sites root) → Reaches (RelatedBy (by sites) sites) root (record { site = m.to; item = m.item }))

-- a gap that the narrow reach touches: an item that is reached at the site lies in the gap's child, or is the child. Whether the parent is
-- reached doesn't matter: a case isn't made of what its cartons are made of.
pub record IsTouched (by : List SiteEvents → Lying) (sites : List SiteEvents) (root : Pair) (s : SiteEvents) (parent child : List ℕ) (to : Place) : Type 0 where
  pub there : Contains sites s
  pub gap : IsPackedGap (by sites) s parent child to
  pub item : List ℕ
  pub inside : Reaches (by sites s) child item
  pub reached : Reaches (Related sites) root (record { site = s.me; item = item })

abbrev pub HasNoTouchedGap : (List SiteEvents → Lying) → List SiteEvents → Pair → Type 0
HasNoTouchedGap by sites root = (s : SiteEvents) (parent child : List ℕ) (to : Place) → IsTouched by sites root s parent child to → ⊥

-- no gap stands at a site that the narrow reach comes to
abbrev pub HasNoGapOnTheWay : (List SiteEvents → Lying) → List SiteEvents → Pair → Type 0
HasNoGapOnTheWay by sites root =
    (s : SiteEvents) (item parent child : List ℕ) (to : Place)
    → Contains sites s → Reaches (Related sites) root (record { site = s.me; item = item }) → IsPackedGap (by sites) s parent child to → ⊥

-- both reaches are one, and so is what left the traced sites
abbrev pub ReachesAgree : (List SiteEvents → Lying) → List SiteEvents → Pair → Type 0
ReachesAgree by sites root =
    ((p : Pair) → Reaches (RelatedBy (by sites) sites) root p ↔ Reaches (Related sites) root p)
    × ((s : SiteEvents) (item text : List ℕ) → Contains sites s → Reaches (Related sites) root (record { site = s.me; item = item })
    → IsSent (by sites) s item (inr text) ↔ IsSent by_own s item (inr text))

-- the law: where no gap is touched nothing is missed by packing; no touched gap is more than no gap at all on the way
abbrev pub NoGapMissesNothingBy : (List SiteEvents → Lying) → Type 0
NoGapMissesNothingBy by =
    (sites : List SiteEvents) (root : Pair)
    → (HasNoTouchedGap by sites root → ReachesAgree by sites root) × (HasNoGapOnTheWay by sites root → HasNoTouchedGap by sites root)

-- so it is by what is known, and by the packings of all sites
abbrev pub GapsAreMisses : Type 0
GapsAreMisses = GapsAreMissesBy by_known × GapsAreMissesBy by_all

abbrev pub WideReachIsTold : Type 0
WideReachIsTold = WideReachIsToldBy by_known × WideReachIsToldBy by_all

abbrev pub NoGapMissesNothing : Type 0
NoGapMissesNothing = NoGapMissesNothingBy by_known × NoGapMissesNothingBy by_all

-- the site has further events, and each of them is a packing that was known there
pub record HasCapturedKnown (sites : List SiteEvents) (old new : SiteEvents) : Type 0 where
  pub same : new.me ≡ old.me
  pub kept : (e : Content) → Contains old.events e → Contains new.events e
  pub ships : (item : List ℕ) (to : Place) → Any (λ e. ShipsTo item to e.body) new.events → Any (λ e. ShipsTo item to e.body) old.events
  pub made : (item : List ℕ) (q : Pair) → IsMade new item q → IsMade old item q
  pub packs : (parent child : List ℕ) → Carries new.events parent child → by_known sites old parent child

-- it has captured what closes its gaps
pub record HasClosed (sites : List SiteEvents) (old new : SiteEvents) : Type 0 where
  pub captured : HasCapturedKnown sites old new
  pub closed : (parent child : List ℕ) (to : Place) → IsPackedGap (by_known sites) old parent child to → Carries new.events parent child

-- capturing packings that are known adds nothing to what is known, at any site, nor takes anything from it
abbrev pub KnownStays : Type 0
KnownStays =
    (old new : List SiteEvents) → AllZip (HasCapturedKnown old) old new → (s t : SiteEvents) → HasCapturedKnown old s t
    → (parent child : List ℕ) → by_known new t parent child ↔ by_known old s parent child

-- so it makes no gap: each gap that is left stood before
abbrev pub GapsOnlyClose : Type 0
GapsOnlyClose =
    (old new : List SiteEvents) → AllZip (HasCapturedKnown old) old new → (s t : SiteEvents) → HasCapturedKnown old s t
    → (parent child : List ℕ) (to : Place) → IsPackedGap (by_known new) t parent child to → IsPackedGap (by_known old) s parent child to

-- once each gap's packing is captured, no gap is left, by one round
abbrev pub OneRoundCloses : Type 0
OneRoundCloses =
    (old new : List SiteEvents) → AllZip (HasCapturedKnown old) old new → (s t : SiteEvents) → HasClosed old s t
    → (parent child : List ℕ) (to : Place) → IsPackedGap (by_known new) t parent child to → ⊥

-- each packing that is known was captured somewhere, and what its event puts into something is known with it: so it can be captured
abbrev pub KnownIsCapturedSomewhere : Type 0
KnownIsCapturedSomewhere =
    (sites : List SiteEvents) (s : SiteEvents) → Contains sites s → (parent child : List ℕ) → by_known sites s parent child
    → (u : SiteEvents) × (e : Content) × Contains sites u × Contains u.events e × Packs parent child e.body
    × ((p c : List ℕ) → Packs p c e.body → by_known sites s p c)

-- and the wide relation stays as it is
abbrev pub WideStays : Type 0
WideStays = (old new : List SiteEvents) → AllZip (HasCapturedKnown old) old new → (p q : Pair) → WideRelated new p q ↔ WideRelated old p q

-- what is known has the own packings, and what came with the goods
abbrev pub KnownIsClosed : Type 0
KnownIsClosed =
    (sites : List SiteEvents) (s : SiteEvents) (parent child : List ℕ)
    → (Carries s.events parent child → by_known sites s parent child) × (CameWith sites (by_known sites) s parent child → by_known sites s parent child)

-- a test that has both
abbrev pub IsClosedKnowing : List SiteEvents → (SiteEvents → List ℕ → List ℕ → Bool) → Type 0
IsClosedKnowing sites is_in =
    ((s : SiteEvents) (parent child : List ℕ) → Contains sites s → Carries s.events parent child → IsTrue (is_in s parent child))
    × ((s : SiteEvents) (parent child : List ℕ) → Contains sites s → CameWith sites (λ u p c. IsTrue (is_in u p c)) s parent child → IsTrue (is_in s parent child))

-- and is the least
abbrev pub KnownIsLeast : Type 0
KnownIsLeast =
    (sites : List SiteEvents) (is_in : SiteEvents → List ℕ → List ℕ → Bool) → IsClosedKnowing sites is_in
    → (s : SiteEvents) → Contains sites s → (parent child : List ℕ) → by_known sites s parent child → IsTrue (is_in s parent child)

-- the site sent the item to the other one
abbrev pub SendsOn : List SiteEvents → List ℕ → SiteEvents → SiteEvents → Type 0
SendsOn sites item u t = Contains sites u × IsSent (by_known sites) u item (inl t.me)

-- the same without rounds: a packing is known at a site exactly where one of the sites captured it and the parent came from there, over
-- however many sites
abbrev pub KnownIsWhereItCame : Type 0
KnownIsWhereItCame =
    (sites : List SiteEvents) (s : SiteEvents) → Contains sites s → (parent child : List ℕ)
    → by_known sites s parent child ↔ ((u : SiteEvents) × Contains sites u × Carries u.events parent child × Reaches (SendsOn sites parent) u s)

-- what lay in what at each moment of a history in which sites capture their own packings and shipments: what lies so lay so a moment before,
-- or was put so by a packing of the site, or came so with goods that another of the sites sent
abbrev pub IsHistory : List SiteEvents → (ℕ → SiteEvents → List ℕ → List ℕ → Bool) → Type 0
IsHistory sites lay =
    ((s : SiteEvents) (parent child : List ℕ) → Contains sites s → IsTrue (lay 0 s parent child) → Carries s.events parent child)
    × ((n : ℕ) (s : SiteEvents) (parent child : List ℕ) → Contains sites s → IsTrue (lay (suc n) s parent child)
    → IsTrue (lay n s parent child) ⊎ (Carries s.events parent child ⊎ CameWith sites (λ u p c. IsTrue (lay n u p c)) s parent child))

-- whatever really lay in something is known: so wide pairs miss no goods that really went, in whatever order it was captured
abbrev pub HistoryIsKnown : Type 0
HistoryIsKnown =
    (sites : List SiteEvents) (lay : ℕ → SiteEvents → List ℕ → List ℕ → Bool) → IsHistory sites lay
    → (n : ℕ) (s : SiteEvents) → Contains sites s
    → ((parent child : List ℕ) → IsTrue (lay n s parent child) → by_known sites s parent child)
    × ((item : List ℕ) (to : Place) → IsSent (λ u p c. IsTrue (lay n u p c)) s item to → IsSent (by_known sites) s item to)

-- an event that puts into something what is known to lie in it
pub record PutsKnown (sites : List SiteEvents) (s : SiteEvents) (e : Content) : Type 0 where
  pub parent : List ℕ
  pub children : List (List ℕ)
  pub is : e.body ≡ Pack Add (Some parent) children
  pub known : (child : List ℕ) → Contains children child → by_known sites s parent child

-- to capture such events is to capture what is known
abbrev pub CapturingIsClosing : Type 0
CapturingIsClosing =
    (sites : List SiteEvents) (s : SiteEvents) (more : List Content) → ((e : Content) → Contains more e → PutsKnown sites s e)
    → HasCapturedKnown sites s (record { me = s.me; events = s.events ++ more })

-- What `recall packs` is for: where each site has captured what closes its gaps, the narrow reach of the sites as they are now is the wide
-- reach of the sites as they were, from each root.
abbrev pub ClosedReachesAll : Type 0
ClosedReachesAll =
    (old new : List SiteEvents) → AllZip (HasClosed old) old new → (root p : Pair)
    → Reaches (Related new) root p ↔ Reaches (WideRelated old) root p

-- And what it sends by its own packings, to whatever place, outside ones too, is what it was known to send. This needs nothing of the other
-- sites but that they captured what is known.
abbrev pub ClosedSendsAll : Type 0
ClosedSendsAll =
    (old new : List SiteEvents) → AllZip (HasCapturedKnown old) old new → (s t : SiteEvents) → HasClosed old s t
    → (item : List ℕ) (to : Place) → IsElsewhere t to → IsSent by_own t item to ↔ IsSent (by_known old) s item to
