-- Transformations that a search comes to once: all parts of one id at a site, or one without an id.
use Rattle.std.specs.Prelude.{◌≡◌, ◌≤◌, ◌+◌, ◌-◌, ◌^◌, ◌==◌, ℕ, Bool, true, false, ◌&&◌, ◌||◌, cond, List, Option, None, Some, slice_get, sum_by, suc, ◌↔◌, [], ◌∷◌, ◌++◌, map}
use mathlib.Core.Logic.{◌⊎◌}
use Rattle.std.specs.BTreeSet.{BTreeSet, contains}
use Rattle.std.specs.List.{enumerate_from}
use Rattle.std.specs.declared.cmp.Ordering.{Ordering}
use Rattle.std.specs.Ordering.{nat_cmp, ordering_then}
use Rattle.event_json.specs.Events.{Content}
use Rattle.event_json.specs.declared.bodies.Body.{Body}
use Rattle.trace_core.specs.declared.groups.Group.{Group}
use Rattle.trace_core.specs.declared.pairs.Pair.{Pair}
use Rattle.trace_core.specs.Gathering.{joined_by}
use Rattle.trace_core.specs.Pairs.{make_id, IsMade, IsRelated}
use Rattle.trace_core.specs.PairTests.{gives_out, same_id}
use Rattle.trace_core.specs.Places.{at_place, places_where, takes_item}
use Rattle.trace_core.specs.Searches.{IsFound}
use Rattle.trace_core.specs.Sites.{SiteEvents}
use Rattle.trace_core.specs.Spreads.{output_count}

-- by site, and then by first part
abbrev pub group_cmp : Group → Group → Ordering
group_cmp a b = ordering_then (nat_cmp a.site b.site) (nat_cmp a.first b.first)

-- the transformations with these first parts, by site, from this one on
abbrev pub groups_from : ℕ → List (List ℕ) → List Group
groups_from site [] = []
groups_from site (firsts ∷ rest) = map (λ first. record { site = site; first = first }) firsts ++ groups_from (suc site) rest

abbrev pub IsSeen : BTreeSet Group → ℕ → ℕ → Type 0
IsSeen seen site first = IsFound group_cmp seen (record { site = site; first = first })

-- the transformation is seen now, and no other is new
abbrev pub Sees : BTreeSet Group → BTreeSet Group → Group → Type 0
Sees seen seen' g = (h : Group) → IsFound group_cmp seen' h ↔ (IsFound group_cmp seen h ⊎ (g ≡ h))

-- an output of a transformation, or of one that has its id
abbrev pub outs_of : List Content → List ℕ → Body → Bool
outs_of events j body = gives_out j body || joined_by events body j

-- the pair is an output, at the site, of the transformation whose first part stands at the place
abbrev pub Gives : SiteEvents → ℕ → Pair → Type 0
Gives s first q = (q.site ≡ s.me) × (at_place (λ e. outs_of s.events q.item e.body) (slice_get s.events first) ≡ true)

-- one of the site's transformations that were seen gives the pair
abbrev pub IsGiven : SiteEvents → ℕ → BTreeSet Group → Pair → Type 0
IsGiven s site seen q = (first : ℕ) × IsSeen seen site first × Gives s first q

-- one of the sites' does
abbrev pub IsGivenBy : List SiteEvents → BTreeSet Group → Pair → Type 0
IsGivenBy sites seen q = (k : ℕ) × (s : SiteEvents) × (slice_get sites k ≡ Some s) × IsGiven s k seen q

-- the pairs of P are added to those that are there, but for those that transformations gave which were seen; what transformations give that are seen now is there
pub record AddsUnseen (G : BTreeSet Group → Pair → Type 0) (P : Pair → Type 0) (seen seen' : BTreeSet Group) (Old New : Pair → Type 0) : Type 0 where
  pub stay : (q : Pair) → Old q → New q
  pub sound : (q : Pair) → New q → Old q ⊎ P q
  pub complete : (q : Pair) → P q → New q ⊎ G seen q
  pub given : (q : Pair) → G seen' q → G seen q ⊎ New q

-- only this site's transformations are seen now
abbrev pub SeesOnly : ℕ → BTreeSet Group → BTreeSet Group → Type 0
SeesOnly site seen seen' = (g : Group) → IsFound group_cmp seen' g → IsFound group_cmp seen g ⊎ (g.site ≡ site)

-- how many outputs the event at a place has
abbrev pub outputs_at : Option Content → ℕ
outputs_at None = 0
outputs_at (Some e) = output_count e.body

-- the places of the parts of a transformation that has an id
abbrev pub parts_of : List Content → Body → List ℕ
parts_of events b = places_where (λ f. same_id (make_id f.body) (make_id b)) events

abbrev pub or_place : ℕ → Option ℕ → ℕ
or_place place None = place
or_place place (Some first) = first

-- the place that stands for the transformation of the event at a place: its first part's, and its own where it has no id
abbrev pub first_of : List Content → ℕ → Body → ℕ
first_of events place b = or_place place (slice_get (parts_of events b) 0)

-- how many outputs a transformation has, all its parts together
abbrev pub group_outputs : List Content → Body → Option (List ℕ) → ℕ
group_outputs events b None = output_count b
group_outputs events b (Some id) = sum_by (λ k. outputs_at (slice_get events k)) (parts_of events b)

-- how many outputs the transformations have that weren't seen
unfoldable pub unseen_outputs : ℕ → List Content → BTreeSet Group → ℕ
unseen_outputs site events seen = sum_by (λ a. cond (contains group_cmp seen (record { site = site; first = first_of events a.0 a.1.body })) 0 (output_count a.1.body)) (enumerate_from 0 events)

-- each look is an output of a transformation that is seen now and wasn't before, and each such output is a look,
-- where the count didn't end at 2^64 - 1
pub record LooksAtUnseen (site : ℕ) (events : List Content) (seen seen' : BTreeSet Group) (looks looks' : ℕ) : Type 0 where
  pub least : looks ≤ looks'
  pub most : looks' + unseen_outputs site events seen' ≤ looks + unseen_outputs site events seen
  pub all : (looks + unseen_outputs site events seen ≤ looks' + unseen_outputs site events seen') ⊎ (2 ^ 64 - 1 ≤ looks')

-- the transformation of the event at a place was seen
abbrev pub IsSeenAt : ℕ → List Content → BTreeSet Group → ℕ → Type 0
IsSeenAt site events seen place = (e : Content) → slice_get events place ≡ Some e → IsSeen seen site (first_of events place e.body)

-- the event at the place is a part of the transformation whose first part stands at `first`
abbrev pub IsPartOf : List Content → ℕ → ℕ → Type 0
IsPartOf events place first = (e : Content) × (slice_get events place ≡ Some e) × (first_of events place e.body ≡ first)

-- the item goes into the transformation whose first part stands at `first`
abbrev pub GoesInto : List Content → List ℕ → ℕ → Type 0
GoesInto events i first = (place : ℕ) × (e : Content) × (slice_get events place ≡ Some e) × (takes_item i e ≡ true) × (first_of events place e.body ≡ first)

-- of the site's transformations no other is new than that of the event at a place
abbrev pub SeesAt : ℕ → List Content → BTreeSet Group → BTreeSet Group → ℕ → Type 0
SeesAt site events seen seen' place = (first : ℕ) → IsSeen seen' site first → IsSeen seen site first ⊎ IsPartOf events place first

-- of the site's transformations no others are new than those that the item goes into
abbrev pub SeesTakers : ℕ → List Content → BTreeSet Group → BTreeSet Group → List ℕ → Type 0
SeesTakers site events seen seen' i = (first : ℕ) → IsSeen seen' site first → IsSeen seen site first ⊎ GoesInto events i first

-- each transformation was seen that takes the item in
abbrev pub HasSeenTakers : ℕ → List Content → BTreeSet Group → List ℕ → Type 0
HasSeenTakers site events seen i =
    (place : ℕ) (e : Content) → slice_get events place ≡ Some e → takes_item i e ≡ true
    → IsSeen seen site (first_of events place e.body)

-- each transformation of the site was seen that the pair's item goes into, where the pair is at the site
abbrev pub HasSeenFrom : SiteEvents → BTreeSet Group → Pair → Type 0
HasSeenFrom s seen p = s.me ≡ p.site → HasSeenTakers 0 s.events seen p.item

-- what was seen before is seen
abbrev pub StaysSeen : BTreeSet Group → BTreeSet Group → Type 0
StaysSeen seen seen' = (g : Group) → IsFound group_cmp seen g → IsFound group_cmp seen' g

-- an output, at the own site, of the transformation whose part stands at the place
abbrev pub made_at : ℕ → List Content → ℕ → Pair → Bool
made_at me events place q = at_place (λ e. q.site == me && outs_of events q.item e.body) (slice_get events place)

abbrev pub IsSought : Bool → SiteEvents → List ℕ → Pair → Type 0
IsSought true s item q = IsRelated s item q
IsSought false s item q = IsMade s item q

-- the site is that of p, and p's item is related to q there, inside the site alone where shipments aren't asked for
abbrev pub SeeksFrom : Bool → SiteEvents → Pair → Pair → Type 0
SeeksFrom ships s p q = (s.me ≡ p.site) × IsSought ships s p.item q
