-- What one event adds to the pairs that an item is related to.
use Rattle.std.specs.Prelude.{◌==◌, ℕ, Bool, not, ◌&&◌, ◌||◌, List}
use Rattle.std.specs.List.{list_any}
use Rattle.std.specs.BTreeSet.{BTreeSet, contains}
use Rattle.event_json.specs.Events.{Content}
use Rattle.event_json.specs.declared.bodies.Body.{Body}
use Rattle.trace_core.specs.declared.pairs.Pair.{Pair}
use Rattle.trace_core.specs.Pairs.{pair_cmp, make_id}
use Rattle.trace_core.specs.PairTests.{same_item, takes_in, gives_out, same_id}

abbrev pub is_in : BTreeSet Pair → Pair → Bool
is_in pairs p = contains pair_cmp pairs p

-- the item at one of the sites, but for the own one
abbrev pub sent_to : ℕ → List ℕ → List ℕ → Pair → Bool
sent_to me item sites p = not (p.site == me) && (list_any (λ s. s == p.site) sites && same_item item p.item)

-- an output of a transformation that has this one's id
abbrev pub joined_by : List Content → Body → List ℕ → Bool
joined_by events body j = list_any (λ f. same_id (make_id body) (make_id f.body) && gives_out j f.body) events

-- made by this event, or by one that is joined to it
abbrev pub made_by : ℕ → List Content → List ℕ → Body → Pair → Bool
made_by me events item body p = p.site == me && (takes_in item body && (gives_out p.item body || joined_by events body p.item))

-- one of the events takes the item into a transformation that has this one's id
abbrev pub joins : List Content → List ℕ → Body → Bool
joins events item body = list_any (λ f. takes_in item f.body && same_id (make_id f.body) (make_id body)) events

-- made by an event that comes after the events: by itself, or as an output of what it is joined to
abbrev pub added_by : ℕ → List Content → List ℕ → Body → Pair → Bool
added_by me events item body p = made_by me events item body p || (joins events item body && (p.site == me && gives_out p.item body))
