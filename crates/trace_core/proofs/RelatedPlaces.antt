-- Events that relate an item name it, and the places of ids lead to what is joined.
use Rattle.std.proofs.Common.{◌≡◌, ◌&&◌, ◌<◌, ◌≤◌, ℕ, true, ◌||◌, List, take, length, get_or, slice_get, ◌↔◌, Option, Some, None, refl, sym, ap, subst, ◌∙◌, ⊎_elim}
use mathlib.Core.Bool.{false≢true}
use Rattle.std.specs.List.{list_any, Any, Contains}
use Rattle.std.proofs.lemmas.Bool.Decides.{same_from_decides}
use Rattle.std.proofs.lemmas.List.{take_all}
use Rattle.std.proofs.lemmas.List.Elements.{Contains-append_left}
use Rattle.std.proofs.lemmas.List.Folds.{list_any-append}
use Rattle.std.proofs.lemmas.Option.{slice_get-get_or, slice_get_cases, get_or_from_slice_get}
use Rattle.event_json.specs.Events.{Content}
use Rattle.event_json.specs.declared.bodies.Body.{Body}
use Rattle.event_json.specs.declared.bodies.Body.TheVariants.{Note, Ship, Make, Pack}
use Rattle.trace_core.specs.declared.pairs.Pair.{Pair}
use Rattle.trace_core.specs.Gathering.{joined_by}
use Rattle.trace_core.specs.PairTests.{lists, same_id, same_item, takes_in, gives_out}
use Rattle.trace_core.specs.Pairs.{TakesIn, make_id, HaveOneId, IsRelated}
use Rattle.trace_core.specs.Places.{places_where, at_place, IsPartAt}
use Rattle.trace_core.specs.Sites.{SiteEvents}
use Rattle.trace_core.specs.Spreads.{items_of, ins_in}
use Rattle.trace_core.proofs.Carrying.{sent_named}
use Rattle.trace_core.proofs.PlaceLists.{place_there, place_passes, any_at_places}
use Rattle.trace_core.proofs.Booleans.{list_any-same}
use Rattle.trace_core.proofs.PairTestsDecide.{same_id_decides}

-- the inputs of a transformation, and the test of one
pub ins_listed : (i : List ℕ) (b : Body) → lists (ins_in b) i ≡ takes_in i b
ins_listed i (Note items) = refl
ins_listed i (Ship items sites outside) = refl
ins_listed i (Make id ins outs) = refl
ins_listed i (Pack action parent children) = refl

pub takes_named : (item : List ℕ) (b : Body) → takes_in item b ≡ true → lists (items_of b) item ≡ true
takes_named item (Note items) h = absurd (false≢true h)
takes_named item (Ship items sites outside) h = absurd (false≢true h)
takes_named item (Pack action parent children) h = absurd (false≢true h)
takes_named item (Make id ins outs) h = list_any-append (λ i. same_item i item) ins outs ∙ ap (λ b. b || lists outs item) h

input_named : (item : List ℕ) (b : Body) → TakesIn item b → Contains (items_of b) item
input_named item (Note items) h = absurd h
input_named item (Ship items sites outside) h = absurd h
input_named item (Make id ins outs) h = Contains-append_left ins outs item h
input_named item (Pack action parent children) h = absurd h

-- an event names what is related to anything
pub related_named : (s : SiteEvents) (item : List ℕ) (q : Pair) → IsRelated s item q → Any (λ e. Contains (items_of e.body) item) s.events
related_named s item q h = ⊎_elim
    (λ (other, same, sent). sent_named s.events item q.site sent)
    (λ (own, (k, e, lt, at, (takes, gives))). (k, e, lt, at, input_named item e.body takes))
    h

absent : {X : Type 0} (o : Option X) (x : X) → o ≡ None → o ≡ Some x → ⊥
absent o x none some = cc

pub slice_there : (xs : List Content) (i : ℕ) (x : Content) → slice_get xs i ≡ Some x → (i < length xs) × (get_or xs i x ≡ x)
slice_there xs i x h = ⊎_elim
    (λ (y, below, is, at). (below, get_or_from_slice_get xs i x x h))
    (λ (past, none). absurd (absent (slice_get xs i) x none h))
    (slice_get_cases xs i).1

same_id_either : (a b : Option (List ℕ)) → same_id a b ≡ same_id b a
same_id_either a b = same_from_decides {P = HaveOneId a b} _ _ (same_id_decides a b)
    (λ h. let (id, first, second) = (same_id_decides b a).0 h in (id, second, first), λ (id, first, second). (same_id_decides b a).1 (id, second, first))

-- the places of the parts of a body's transformation
pub parts_found : (events : List Content) (body : Body) (places : List ℕ) (o : Option (List ℕ)) → places ≡ places_where (λ e. same_id (make_id e.body) o) events → o ≡ make_id body
    → places ≡ places_where (λ e. same_id (make_id e.body) (make_id body)) events
parts_found events body places o are is = are ∙ ap (λ (p : Option (List ℕ)). places_where (λ e. same_id (make_id e.body) p) events) is

-- they give out what is joined to the body
pub joined_in_parts : (events : List Content) (body : Body) (j : List ℕ) → list_any (λ k. at_place (λ e. gives_out j e.body) (slice_get events k)) (places_where (λ e. same_id (make_id e.body) (make_id body)) events) ≡ joined_by events body j
joined_in_parts events body j =
    any_at_places (λ e. same_id (make_id e.body) (make_id body)) (λ e. gives_out j e.body) events
    ∙ list_any-same (λ e. same_id (make_id e.body) (make_id body) && gives_out j e.body) (λ e. same_id (make_id body) (make_id e.body) && gives_out j e.body)
    (λ e. ap (λ b. b && gives_out j e.body) (same_id_either (make_id e.body) (make_id body))) events

pub joined_at_places : (events : List Content) (body : Body) (j : List ℕ) (places : List ℕ) (n : ℕ) → length places ≤ n → places ≡ places_where (λ e. same_id (make_id e.body) (make_id body)) events
    → list_any (λ k. at_place (λ e. gives_out j e.body) (slice_get events k)) (take n places) ≡ joined_by events body j
joined_at_places events body j places n past are =
    ap (list_any (λ k. at_place (λ e. gives_out j e.body) (slice_get events k))) (take_all n places past ∙ are)
    ∙ joined_in_parts events body j

-- the places of an id are those at which a part of its transformation stands
pub parts_exact : (events : List Content) (id : List ℕ) (places : List ℕ) → places ≡ places_where (λ e. same_id (make_id e.body) (Some id)) events → (k : ℕ) → Contains places k ↔ IsPartAt events id k
parts_exact events id places are k = (
  λ h. let (e, below, at, same) = place_passes (λ e. same_id (make_id e.body) (Some id)) events k (subst (λ ps. Contains ps k) are h) in
      let (own, first, second) = (same_id_decides (make_id e.body) (Some id)).0 same in
      (e, slice_get-get_or events k e below ∙ ap Some at, first ∙ sym second),
  λ (e, stands, is). let (below, at) = slice_there events k e stands in
      subst (λ ps. Contains ps k) (sym are) (place_there (λ e. same_id (make_id e.body) (Some id)) events k e below at ((same_id_decides (make_id e.body) (Some id)).1 (id, is, refl))),
)
