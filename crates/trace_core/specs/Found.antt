-- Found nodes as an answer: in batches, and the items of a batch by their numbers.
use Rattle.std.specs.Prelude.{◌≡◌, ℕ, List, Some, map, slice_get, Contains}
use Rattle.std.specs.Borrow.{Bor}
use Rattle.std.specs.BTreeMap.{BTreeMap, get}
use Rattle.std.specs.declared.cmp.Ordering.{Ordering}
use Rattle.std.specs.Ordering.{nat_cmp, ordering_then}
use Rattle.event_json.specs.Events.{Content}
use Rattle.trace_core.specs.declared.nodes.Batch.{Batch}
use Rattle.trace_core.specs.declared.nodes.Node.{Node}
use Rattle.trace_core.specs.declared.pairs.Pair.{Pair}
use Rattle.trace_core.specs.Nodes.{Stands}
use Rattle.trace_core.specs.Numbers.{numbered}
use Rattle.trace_core.specs.Places.{or_none}
use Rattle.trace_core.specs.Sites.{SiteEvents}

-- the items that references point to
abbrev pub items_at : List (Bor (List ℕ)) → List (List ℕ)
items_at refs = map (λ r. r.now) refs

-- the item has one of the numbers
abbrev pub HasNumber : List Content → List ℕ → List ℕ → Type 0
HasNumber events numbers i = (n : ℕ) × Contains numbers n × (slice_get (numbered events) n ≡ Some i)

-- by the site of the pairs, and then by the site that numbered their items
abbrev pub batch_cmp : Batch → Batch → Ordering
batch_cmp a b = ordering_then (nat_cmp a.at b.at) (nat_cmp a.site b.site)

-- the node's number is in its batch
abbrev pub IsInBatch : BTreeMap Batch (List ℕ) → Node → Type 0
IsInBatch batches n = Contains (or_none (get batch_cmp batches (record { at = n.at; site = n.site }))) n.item

-- one of the batch's nodes stands for the pair
abbrev pub Gives : List SiteEvents → Batch × List ℕ → Pair → Type 0
Gives sites b p = (n : ℕ) × Contains b.1 n × Stands sites (record { site = b.0.site; item = n; at = b.0.at }) p

-- one of the items at the site
abbrev pub IsPairOf : ℕ → List (List ℕ) → Pair → Type 0
IsPairOf at items p = Contains items p.item × (p.site ≡ at)
