-- Laws of related pairs, of reach and of adding events.
use Rattle.std.specs.Prelude.{◌≡◌, ◌≢◌, ℕ, ◌+◌, ◌<◌, ◌↔◌, Bool, true, IsTrue, List, [], ◌∷◌, ◌++◌, length, Option, Some, None, Ok, Err, ⊤, Any, AllPairs, Contains, ◌⊎◌}
use Rattle.std.specs.List.{AllZip}
use Rattle.std.specs.declared.cmp.Ordering.TheVariants.{Less, Equal, Greater}
use Rattle.event_json.specs.Events.{Content}
use Rattle.event_json.specs.declared.bodies.Body.{Body}
use Rattle.event_json.specs.declared.bodies.Body.TheVariants.{Note, Ship, Make, Pack}
use Rattle.event_json.specs.declared.bodies.Action.{Action}
use Rattle.event_json.specs.declared.bodies.Action.TheVariants.{Add, Observe, Delete}
use Rattle.trace_core.specs.declared.adding.Standing.{Standing}
use Rattle.trace_core.specs.declared.adding.Standing.TheVariants.{Fresh, Known, Taken}
use Rattle.trace_core.specs.declared.pairs.Pair.{Pair}
use Rattle.trace_core.specs.Adding.{Addition, adding, standing_among}
use Rattle.trace_core.specs.Chains.{Related}
use Rattle.trace_core.specs.PairTests.{is_related}
use Rattle.trace_core.specs.Pairs.{pair_cmp, IsStrictlyAscending, HaveOneId, IsRelated}
use Rattle.trace_core.specs.Relations.{Reaches, Chain, last_of}
use Rattle.trace_core.specs.Sites.{SiteEvents}
use Rattle.trace_core.specs.Spreads.{items_of}

-- the same site with further events
abbrev pub IsExtendedTo : SiteEvents → SiteEvents → Type 0
IsExtendedTo old new = (more : List Content) × (new.me ≡ old.me) × (new.events ≡ old.events ++ more)

-- a pair reaches itself
abbrev pub ReachHasItsRoot : Type 0
ReachHasItsRoot = (sites : List SiteEvents) (root : Pair) → Reaches (Related sites) root root

-- what a reached pair is related to is reached
abbrev pub ReachIsClosed : Type 0
ReachIsClosed = (sites : List SiteEvents) (root p q : Pair) → Reaches (Related sites) root p → Related sites p q → Reaches (Related sites) root q

-- a set that has the root, and each pair that one of its pairs is related to, has all that the root reaches
abbrev pub ReachIsLeast : Type 0
ReachIsLeast =
    (sites : List SiteEvents) (root : Pair) (is_inside : Pair → Bool)
    → IsTrue (is_inside root)
    → ((p q : Pair) → IsTrue (is_inside p) → Related sites p q → IsTrue (is_inside q))
    → (p : Pair) → Reaches (Related sites) root p → IsTrue (is_inside p)

-- the same of a list
abbrev pub ReachIsInClosedList : Type 0
ReachIsInClosedList =
    (sites : List SiteEvents) (root : Pair) (pairs : List Pair)
    → Contains pairs root
    → ((p q : Pair) → Contains pairs p → Related sites p q → Contains pairs q)
    → (p : Pair) → Reaches (Related sites) root p → Contains pairs p

-- the two forms of a chain agree: a list of pairs, and steps that are counted
abbrev pub ChainFormsAgree : Type 0
ChainFormsAgree = (sites : List SiteEvents) (root p : Pair) → Reaches (Related sites) root p ↔ ((n : ℕ) × Chain (Related sites) root n p)

-- events of a document come after those that a site has
abbrev pub AddingAppends : Type 0
AddingAppends = (before given : List Content) (a : Addition) → adding before given ≡ Ok a → (more : List Content) × (a.events ≡ before ++ more)

-- what a site has after a document is what it had and what it was given, each event once or more
abbrev pub AddingKeepsAll : Type 0
AddingKeepsAll = (before given : List Content) (a : Addition) → adding before given ≡ Ok a → (e : Content) → Contains a.events e ↔ Contains (before ++ given) e

-- the event given at this place, from 0, has the eventID of an event that stands before it, before the document or in it, and isn't one of those
pub record IsTakenAt (before given : List Content) (place : ℕ) : Type 0 where
  pub front : List Content
  pub event : Content
  pub behind : List Content
  pub split : given ≡ front ++ event ∷ behind
  pub counted : length front ≡ place
  pub used : Any (λ f. HaveOneId f.id event.id) (before ++ front)
  pub other : Contains (before ++ front) event → ⊥

-- n is the first such place, reported from 1
abbrev pub IsFirstTaken : List Content → List Content → ℕ → Type 0
IsFirstTaken before given n = (place : ℕ) × (n ≡ place + 1) × IsTakenAt before given place × ((earlier : ℕ) → earlier < place → IsTakenAt before given earlier → ⊥)

-- a document is refused exactly where there is such an event, at the first one
abbrev pub FirstTakenIsTold : Type 0
FirstTakenIsTold = (before given : List Content) (n : ℕ) → (adding before given ≡ Err n) ↔ IsFirstTaken before given n

-- of the events given, after those that were seen, each either has no eventID that one of the events before it has, and is kept, or is one of these,
-- with its eventID, and isn't kept again; those that are kept stand in order
abbrev pub Keeps : List Content → List Content → List Content → Type 0
Keeps seen [] more = more ≡ []
Keeps seen (e ∷ es) more =
    ((rest : List Content) × (Any (λ f. HaveOneId f.id e.id) seen → ⊥) × (more ≡ e ∷ rest) × Keeps (seen ++ e ∷ []) es rest)
    ⊎ (Contains seen e × Any (λ f. HaveOneId f.id e.id) seen × Keeps (seen ++ e ∷ []) es more)

-- of a document that isn't refused the fresh events are kept, behind those before it, and as many are reported as fresh; all others are
-- known
abbrev pub AddingKeepsFresh : Type 0
AddingKeepsFresh =
    (before given : List Content) (a : Addition) → adding before given ≡ Ok a
    → (more : List Content) × (a.events ≡ before ++ more) × Keeps before given more × (a.fresh ≡ length more) × (a.fresh + a.known ≡ length given)

-- a fresh event has no eventID that another one has; a known one is among them, by its eventID; of a taken one the eventID is there, and it isn't
abbrev pub StandingSays : List Content → Content → Standing → Type 0
StandingSays events e Fresh = Any (λ f. HaveOneId f.id e.id) events → ⊥
StandingSays events e Known = Any (λ f. HaveOneId f.id e.id) events × Contains events e
StandingSays events e Taken = Any (λ f. HaveOneId f.id e.id) events × (Contains events e → ⊥)

abbrev pub StandingIsRight : Type 0
StandingIsRight = (events : List Content) (e : Content) → StandingSays events e (standing_among events e)

-- an event stands alike among the given events before it and among those of them that were kept
abbrev pub StandingByMembers : Type 0
StandingByMembers = (xs ys : List Content) → ((x : Content) → Contains xs x ↔ Contains ys x) → (e : Content) → standing_among xs e ≡ standing_among ys e

-- an aggregation names its parent, where it has one, and its children, and no other item
abbrev pub PackNames : Type 0
PackNames =
    (e : Content) (action : Action) (parent : Option (List ℕ)) (children : List (List ℕ)) (item : List ℕ)
    → e.body ≡ Pack action parent children → Contains (items_of e.body) item ↔ ((parent ≡ Some item) ⊎ Contains children item)

-- an item that was shipped to another site is related to itself there
abbrev pub ShipRelates : Type 0
ShipRelates =
    (s : SiteEvents) (e : Content) (items : List (List ℕ)) (sites : List ℕ) (outside : List (List ℕ)) (item : List ℕ) (to : ℕ)
    → Contains s.events e → e.body ≡ Ship items sites outside → Contains items item → Contains sites to → to ≢ s.me
    → IsRelated s item (record { site = to; item = item })

-- what was put into an item that was shipped to another site is related to itself there
abbrev pub PackRelates : Type 0
PackRelates =
    (s : SiteEvents) (e f : Content) (items : List (List ℕ)) (sites : List ℕ) (outside : List (List ℕ)) (parent child : List ℕ) (children : List (List ℕ)) (to : ℕ)
    → Contains s.events e → Contains s.events f → e.body ≡ Ship items sites outside → f.body ≡ Pack Add (Some parent) children
    → Contains items parent → Contains children child → Contains sites to → to ≢ s.me
    → IsRelated s child (record { site = to; item = child })

-- so is what was put into that, and so on: where a parent is related to itself at another site, its children are
abbrev pub PackedFollow : Type 0
PackedFollow =
    (s : SiteEvents) (e : Content) (parent child : List ℕ) (children : List (List ℕ)) (to : ℕ)
    → Contains s.events e → e.body ≡ Pack Add (Some parent) children → Contains children child → to ≢ s.me
    → IsRelated s parent (record { site = to; item = parent })
    → IsRelated s child (record { site = to; item = child })

-- an input of a transformation is related to each output
abbrev pub MakeRelates : Type 0
MakeRelates =
    (s : SiteEvents) (e : Content) (id : Option (List ℕ)) (ins outs : List (List ℕ)) (i j : List ℕ)
    → Contains s.events e → e.body ≡ Make id ins outs → Contains ins i → Contains outs j
    → IsRelated s i (record { site = s.me; item = j })

-- so it is to the outputs of each transformation of the same id, whichever came first
abbrev pub JoinedMakesRelate : Type 0
JoinedMakesRelate =
    (s : SiteEvents) (e f : Content) (id : List ℕ) (ins outs ins' outs' : List (List ℕ)) (i j : List ℕ)
    → Contains s.events e → Contains s.events f → e.body ≡ Make (Some id) ins outs → f.body ≡ Make (Some id) ins' outs' → Contains ins i → Contains outs' j
    → IsRelated s i (record { site = s.me; item = j })

-- an aggregation of the site's events put the child into the parent
pub record IsPut (s : SiteEvents) (parent child : List ℕ) : Type 0 where
  pub event : Content
  pub children : List (List ℕ)
  pub there : Contains s.events event
  pub says : event.body ≡ Pack Add (Some parent) children
  pub listed : Contains children child

-- each of the items was put into the one before it, and the first into the carrier
abbrev pub ArePutIn : SiteEvents → List ℕ → List (List ℕ) → Type 0
ArePutIn s carrier [] = ⊤
ArePutIn s carrier (next ∷ rest) = IsPut s carrier next × ArePutIn s next rest

-- a shipment of the site's events lists the item, or what it lies in, and has the site of the pair among its destinations, another one; the
-- item is the same
pub record IsOfShipment (s : SiteEvents) (item : List ℕ) (q : Pair) : Type 0 where
  pub event : Content
  pub items : List (List ℕ)
  pub sites : List ℕ
  pub outside : List (List ℕ)
  pub there : Contains s.events event
  pub says : event.body ≡ Ship items sites outside
  pub carrier : List ℕ
  pub listed : Contains items carrier
  pub chain : List (List ℕ)
  pub packed : ArePutIn s carrier chain
  pub last : last_of carrier chain ≡ item
  pub goes : Contains sites q.site
  pub elsewhere : q.site ≢ s.me
  pub same : q.item ≡ item

-- a transformation of the site's events lists the item as an input and the pair's item as an output; the site is the same
pub record IsOfOneMake (s : SiteEvents) (item : List ℕ) (q : Pair) : Type 0 where
  pub event : Content
  pub id : Option (List ℕ)
  pub ins : List (List ℕ)
  pub outs : List (List ℕ)
  pub there : Contains s.events event
  pub says : event.body ≡ Make id ins outs
  pub taken : Contains ins item
  pub given : Contains outs q.item
  pub here : q.site ≡ s.me

-- of two transformations with one transformationID one lists the item as an input, and the other the pair's item as an output
pub record IsOfTwoMakes (s : SiteEvents) (item : List ℕ) (q : Pair) : Type 0 where
  pub taking : Content
  pub giving : Content
  pub id : List ℕ
  pub ins : List (List ℕ)
  pub outs : List (List ℕ)
  pub ins' : List (List ℕ)
  pub outs' : List (List ℕ)
  pub takes_there : Contains s.events taking
  pub gives_there : Contains s.events giving
  pub takes_says : taking.body ≡ Make (Some id) ins outs
  pub gives_says : giving.body ≡ Make (Some id) ins' outs'
  pub taken : Contains ins item
  pub given : Contains outs' q.item
  pub here : q.site ≡ s.me

-- there are no related pairs but these: with the five laws above that relate an item it is exact
abbrev pub RelatedPairsComeFromEvents : Type 0
RelatedPairsComeFromEvents = (s : SiteEvents) (item : List ℕ) (q : Pair) → IsRelated s item q → IsOfShipment s item q ⊎ (IsOfOneMake s item q ⊎ IsOfTwoMakes s item q)

-- the event adds no pair to any site's
abbrev pub AddsNothing : ℕ → Body → Type 0
AddsNothing me body =
    (events : List Content) (e : Content) → e.body ≡ body → (item : List ℕ) (q : Pair)
    → IsRelated (record { me = me; events = events ++ e ∷ [] }) item q → IsRelated (record { me = me; events = events }) item q

-- a note adds no pair; nor does a shipment to the own site or out of the traced ones, nor a transformation without an id and inputs or outputs,
-- nor an aggregation that observes or deletes, or one without children
abbrev pub OthersAddNothing : Type 0
OthersAddNothing =
    ((me : ℕ) (items : List (List ℕ)) → AddsNothing me (Note items))
    × ((me : ℕ) (items outside : List (List ℕ)) → AddsNothing me (Ship items (me ∷ []) outside))
    × ((me : ℕ) (items outside : List (List ℕ)) → AddsNothing me (Ship items [] outside))
    × ((me : ℕ) (ins : List (List ℕ)) → AddsNothing me (Make None ins []))
    × ((me : ℕ) (outs : List (List ℕ)) → AddsNothing me (Make None [] outs))
    × ((me : ℕ) (parent : Option (List ℕ)) (children : List (List ℕ)) → AddsNothing me (Pack Observe parent children))
    × ((me : ℕ) (parent : Option (List ℕ)) (children : List (List ℕ)) → AddsNothing me (Pack Delete parent children))
    × ((me : ℕ) (parent : Option (List ℕ)) → AddsNothing me (Pack Add parent []))

-- the tests of pairs decide the relation
abbrev pub PairTestsAgree : Type 0
PairTestsAgree = (s : SiteEvents) (item : List ℕ) (q : Pair) → (is_related s item q ≡ true) ↔ IsRelated s item q

-- what is related stays related once further events are captured
abbrev pub RelatedStays : Type 0
RelatedStays = (old new : SiteEvents) → IsExtendedTo old new → (item : List ℕ) (p : Pair) → IsRelated old item p → IsRelated new item p

-- what is reached stays reached
abbrev pub ReachGrows : Type 0
ReachGrows = (old new : List SiteEvents) → AllZip IsExtendedTo old new → (root p : Pair) → Reaches (Related old) root p → Reaches (Related new) root p

-- strictly ascending lists with the same pairs are one list
abbrev pub AscendingListsAgree : Type 0
AscendingListsAgree = (xs ys : List Pair) → IsStrictlyAscending xs → IsStrictlyAscending ys → ((p : Pair) → Contains xs p ↔ Contains ys p) → xs ≡ ys

-- no two of the sites have one number
abbrev pub HaveOwnNumbers : List SiteEvents → Type 0
HaveOwnNumbers sites = AllPairs (λ s t. s.me ≢ t.me) sites

-- in a list of sites that has one of each number, related pairs are those of the pair's site
abbrev pub RelatedPairsAreOfTheirSite : Type 0
RelatedPairsAreOfTheirSite =
    (sites : List SiteEvents) → HaveOwnNumbers sites → (s : SiteEvents) → Contains sites s
    → (p q : Pair) → s.me ≡ p.site → Related sites p q ↔ IsRelated s p.item q

-- the one item is the other's beginning, and the other goes on
pub record IsBeginning (i j : List ℕ) : Type 0 where
  pub byte : ℕ
  pub more : List ℕ
  pub longer : j ≡ i ++ byte ∷ more

-- the items begin alike, and at their first difference the one has the lower byte
pub record DiffersBelow (i j : List ℕ) : Type 0 where
  pub front : List ℕ
  pub low : ℕ
  pub high : ℕ
  pub more : List ℕ
  pub more' : List ℕ
  pub one : i ≡ front ++ low ∷ more
  pub other : j ≡ front ++ high ∷ more'
  pub lower : low < high

-- an item is below another one in the order of bytes
abbrev pub IsItemBelow : List ℕ → List ℕ → Type 0
IsItemBelow i j = IsBeginning i j ⊎ DiffersBelow i j

-- a pair stands before those of higher sites, whatever their items, and before those of its site with an item above its own
abbrev pub IsPairBefore : Pair → Pair → Type 0
IsPairBefore p q = (p.site < q.site) ⊎ ((p.site ≡ q.site) × IsItemBelow p.item q.item)

-- the order of pairs is this one
pub record AreOrdered (p q : Pair) : Type 0 where
  pub less : (pair_cmp p q ≡ Less) ↔ IsPairBefore p q
  pub equal : (pair_cmp p q ≡ Equal) ↔ (p ≡ q)
  pub greater : (pair_cmp p q ≡ Greater) ↔ IsPairBefore q p

abbrev pub PairsAreInOrder : Type 0
PairsAreInOrder = (p q : Pair) → AreOrdered p q
