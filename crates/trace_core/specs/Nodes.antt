-- Pairs as a search keeps them, by numbers.
use Rattle.std.specs.Prelude.{◌≡◌, ◌≢◌, ◌==◌, ◌↔◌, ℕ, Bool, true, not, cond, List, [], ◌++◌, Option, None, Some, map, filter, slice_get, AllPairs, Contains}
use Rattle.std.specs.BTreeSet.{BTreeSet}
use Rattle.std.specs.List.{flat_map}
use Rattle.event_json.specs.Events.{Content}
use Rattle.event_json.specs.declared.bodies.Body.{Body}
use Rattle.trace_core.specs.declared.groups.Group.{Group}
use Rattle.trace_core.specs.declared.nodes.Node.{Node}
use Rattle.trace_core.specs.declared.pairs.Pair.{Pair}
use Rattle.trace_core.specs.Groups.{AddsUnseen, parts_of}
use Rattle.trace_core.specs.Numbers.{number_in, numbered, outs_at}
use Rattle.trace_core.specs.Pairs.{IsSentTo}
use Rattle.trace_core.specs.Relations.{Reaches}
use Rattle.trace_core.specs.Sites.{SiteEvents}

-- the node stands for the pair: the site at its place numbered the pair's item so
abbrev pub Stands : List SiteEvents → Node → Pair → Type 0
Stands sites n q = (s : SiteEvents) × (slice_get sites n.site ≡ Some s) × (slice_get (numbered s.events) n.item ≡ Some q.item) × (q.site ≡ n.at)

-- one of the nodes stands for the pair
abbrev pub Had : (Node → Pair → Type 0) → List Node → Pair → Type 0
Had S nodes q = (n : Node) × Contains nodes n × S n q

-- it stands for one of the pairs
abbrev pub StandsForOne : List SiteEvents → List Pair → Node → Type 0
StandsForOne sites pairs n = (p : Pair) × Contains pairs p × Stands sites n p

-- no node comes twice
abbrev pub AreOnce : List Node → Type 0
AreOnce nodes = AllPairs (λ m n. m ≢ n) nodes

-- the nodes are found now, and those that weren't before come at the end; nothing else is new
pub record NotesNodes (old new nodes : List Node) : Type 0 where
  pub more : List Node
  pub appended : new ≡ old ++ more
  pub only : (n : Node) → Contains more n → Contains nodes n
  pub all : (n : Node) → Contains nodes n → Contains new n
  pub once : AreOnce old → AreOnce new

-- an item at each of the sites but the own one
abbrev pub destinations : ℕ → ℕ → ℕ → List ℕ → List Node
destinations me site item sites = map (λ t. record { site = site; item = item; at = t }) (filter (λ t. not (t == me)) sites)

-- those, where shipments are asked for
abbrev pub sent_nodes : Bool → ℕ → ℕ → ℕ → List ℕ → List Node
sent_nodes ships me site item sites = cond ships (destinations me site item sites) []

-- an item is noted at each other site that it was shipped to, where shipments are asked for
pub record NotesSent (ships : Bool) (me : ℕ) (events : List Content) (site item : ℕ) (i : List ℕ) (old new : List Node) : Type 0 where
  pub sites : List ℕ
  pub all : ships ≡ true → (t : ℕ) → Contains sites t ↔ IsSentTo events i t
  pub noted : NotesNodes old new (sent_nodes ships me site item sites)

-- items at the own site
abbrev pub made_nodes : ℕ → ℕ → List ℕ → List Node
made_nodes me site items = map (λ i. record { site = site; item = i; at = me }) items

-- the outputs of the transformation at a place
abbrev pub part_nodes : ℕ → List Content → ℕ → ℕ → List Node
part_nodes me events site place = made_nodes me site (outs_at events (slice_get events place))

-- those of all parts with its id, and its own where it has none
abbrev pub group_nodes : ℕ → List Content → ℕ → ℕ → Body → Option (List ℕ) → List Node
group_nodes me events site place b None = part_nodes me events site place
group_nodes me events site place b (Some id) = flat_map (λ k. part_nodes me events site k) (parts_of events b)

-- nodes are noted that stand for pairs of P, but for those that transformations gave which were seen before
pub record Gains (S : Node → Pair → Type 0) (G : BTreeSet Group → Pair → Type 0) (P : Pair → Type 0) (seen seen' : BTreeSet Group) (old new : List Node) : Type 0 where
  pub nodes : List Node
  pub noted : NotesNodes old new nodes
  pub stand : (n : Node) → Contains nodes n → (q : Pair) × S n q
  pub added : AddsUnseen G P seen seen' (Had S old) (Had S new)

-- a chain leads from a pair that one of the starts stands for
abbrev pub ReachedFromNodes : (Node → Pair → Type 0) → (Pair → Pair → Type 0) → List Node → Pair → Type 0
ReachedFromNodes S R starts q = (n : Node) × (p : Pair) × Contains starts n × S n p × Reaches R p q

-- the item of one of the nodes
abbrev pub HasItem : List Content → List Node → List ℕ → Type 0
HasItem events nodes i = (n : Node) × Contains nodes n × (slice_get (numbered events) n.item ≡ Some i)

-- the node of one of the items, at the only site
abbrev pub IsKnownNode : SiteEvents → List (List ℕ) → Node → Type 0
IsKnownNode s items n = (i : List ℕ) × Contains items i × (number_in (numbered s.events) i ≡ Some n.item) × (n.site ≡ 0) × (n.at ≡ s.me)
