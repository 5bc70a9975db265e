-- Where what is quarantined is closed inside the site, one held input of a transformation tells of all that its parts give out.
use Rattle.std.proofs.Common.{◌≡◌, ◌&&◌, ◌↔◌, ℕ, true, List, [], ◌∷◌, Option, Some, slice_get, refl, sym, ap, subst, ◌∙◌, ⊎_elim}
use Rattle.std.specs.Prelude.{Any, IsTrue, Bool}
use Rattle.std.specs.BTreeSet.{BTreeSet, contains}
use Rattle.std.specs.List.{Contains, list_all}
use Rattle.std.proofs.lemmas.Cmp.{nat_list_cmp_total}
use Rattle.std.proofs.lemmas.Map.Lookups.{exact_bytes}
use Rattle.std.proofs.lemmas.Map.Views.{btree_set_contains_iff}
use Rattle.event_json.specs.Events.{Content}
use Rattle.event_json.specs.declared.bodies.Body.{Body}
use Rattle.event_json.specs.declared.bodies.Body.TheVariants.{Note, Ship, Make, Pack}
use Rattle.frame_core.specs.Identifiers.{recall_cmp}
use Rattle.frame_core.specs.Numbers.{Recall}
use Rattle.trace_core.specs.Adding.{with_fresh}
use Rattle.trace_core.specs.Pairs.{GivesOut, TakesIn, make_id}
use Rattle.trace_core.specs.Parts.{TakesInAsPart}
use Rattle.trace_core.specs.Places.{IsPartAt}
use Rattle.trace_core.specs.Searches.{IsFound}
use Rattle.trace_core.specs.Sites.{SiteEvents}
use Rattle.trace_core.specs.Spreads.{ins_in}
use Rattle.trace_core.specs.declared.adding.Standing.{Standing}
use Rattle.trace_core.specs.declared.adding.Standing.TheVariants.{Fresh, Known, Taken}
use Rattle.trace_core.proofs.Members.{contains_here, contains_there, contains_none, list_any_witness}
use Rattle.trace_core.proofs.RelatedPlaces.{slice_there}
use Rattle.site_core.specs.Blocks.{IsMaking, CoverOutputs, Passes, holds_at, holds_outputs}
use Rattle.site_core.specs.Capturing.{IsBlockedBy, IsFree}
use Rattle.site_core.specs.Joined.{AreParts, CoversAnOutput, GivesAt, JoinedAreCovered, TakesHeldAt}
use Rattle.site_core.specs.Quarantines.{Quarantine, held, item_cmp}
use Rattle.site_core.specs.Shortcuts.{IsClosedInside}
use Rattle.site_core.specs.Sources.{FindsAlso, FindsGiving}
use Rattle.site_core.proofs.Blocks.{gives_made, list_all_member, outputs_of_parts}
use Rattle.site_core.proofs.Closed.{held_or_not}
use Rattle.site_core.proofs.SourcesFound.{new_pair_source, parts_relate}

all_pass : {X : Type 0} (p : X → Bool) (xs : List X) → ((x : X) → Contains xs x → p x ≡ true) → list_all p xs ≡ true
all_pass p [] each = refl
all_pass p (x ∷ xs) each = ap (λ b. b && list_all p xs) (each x (contains_here x xs)) ∙ all_pass p xs (λ y there. each y (contains_there x y xs there))

-- a body whose outputs are all quarantined
outputs_held : (q : Quarantine) (b : Body) (r : Recall) → ((j : List ℕ) → GivesOut j b → IsTrue (held q r j)) → holds_outputs q b r ≡ true
outputs_held q (Note items) r each = refl
outputs_held q (Ship items sites outside) r each = refl
outputs_held q (Make id ins outs) r each = all_pass (λ j. held q r j) outs each
outputs_held q (Pack action parent children) r each = refl

-- what stands among the inputs is taken in
is_taken : (i : List ℕ) (b : Body) → Contains (ins_in b) i → TakesIn i b
is_taken i (Note items) h = absurd (contains_none i h)
is_taken i (Ship items sites outside) h = absurd (contains_none i h)
is_taken i (Make id ins outs) h = h
is_taken i (Pack action parent children) h = absurd (contains_none i h)

one_id : (id other : List ℕ) (o : Option (List ℕ)) → o ≡ Some id → o ≡ Some other → other ≡ id
one_id id other o h k = cc

-- the recalls of one output tell that the recalls of the inputs are covered
pub joined_covered : (s : SiteEvents) (q : Quarantine) (b : Body) (found : BTreeSet Recall) (id : List ℕ) → IsClosedInside s q → CoverOutputs q b found → make_id b ≡ Some id → CoversAnOutput s.events q id found
    → JoinedAreCovered s q b
joined_covered s q b found id closed cover is (o, gives, covers) other i r named h takes =
    let there : TakesInAsPart s.events id i = subst (λ (x : List ℕ). TakesInAsPart s.events x i) (one_id id other (make_id b) is named) takes in
    cover r (covers r (closed r i o h (parts_relate s id i (record { site = s.me; item = o }) there gives refl)))

-- an output that was found, with all its recalls
pub covers_output : (events : List Content) (q : Quarantine) (id o : List ℕ) (found : BTreeSet Recall) (recalls : List Recall) → Any (λ e. (make_id e.body ≡ Some id) × GivesOut o e.body) events
    → ((r : Recall) → IsTrue (held q r o) → Contains recalls r) → list_all (λ r. contains recall_cmp found r) recalls ≡ true → CoversAnOutput events q id found
covers_output events q id o found recalls gives exact all = (o, gives, λ r h. list_all_member (λ t. contains recall_cmp found t) recalls r (exact r h) all)

-- an output of the event at a place of a part
part_gives : (events : List Content) (id o : List ℕ) (k : ℕ) → IsPartAt events id k → GivesAt (slice_get events k) o → Any (λ e. (make_id e.body ≡ Some id) × GivesOut o e.body) events
part_gives events id o k (e, stands, is) gives =
    let (below, at) = slice_there events k e stands in
    (k, e, below, at, (is, subst (λ (x : Option Content). GivesAt x o) stands gives))

pub output_found : (events : List Content) (id o : List ℕ) (places : List ℕ) (k : ℕ) → ((k : ℕ) → Contains places k ↔ IsPartAt events id k) → Contains places k → GivesAt (slice_get events k) o
    → Any (λ e. (make_id e.body ≡ Some id) × GivesOut o e.body) events
output_found events id o places k exact there gives = part_gives events id o k ((exact k).0 there) gives

-- the inputs of one part that are held tell that the outputs of all parts are
pub parts_held_by : (s : SiteEvents) (q : Quarantine) (r : Recall) (places : List ℕ) → IsClosedInside s q → Any (λ k. TakesHeldAt (slice_get s.events k) q r) places → AreParts s.events places
    → list_all (λ k. holds_at q (slice_get s.events k) r) places ≡ true
parts_held_by s q r places closed (n, k, lt, at, takes) (id, parts) =
    let (e, stands, is) = parts k (n, lt, at) in
    let (i, among, h) = list_any_witness (λ i. held q r i) (ins_in e.body) (subst (λ (x : Option Content). TakesHeldAt x q r) stands takes) in
    let (below, there) = slice_there s.events k e stands in
    let joins : TakesInAsPart s.events id i = (k, e, below, there, (is, is_taken i e.body among)) in
    all_pass (λ k. holds_at q (slice_get s.events k) r) places (λ l in_places.
    let (f, stands', named) = parts l in_places in
    let (below', there') = slice_there s.events l f stands' in
    ap (λ o. holds_at q o r) stands'
    ∙ outputs_held q f.body r (λ j gives. closed r i j h (parts_relate s id i (record { site = s.me; item = j }) joins (l, f, below', there', (named, gives)) refl)))

-- the list has each item by which the event is blocked
pub blocked_listed : (s : SiteEvents) (q : Quarantine) (e : Content) (b b' : Body) (first own all : BTreeSet (List ℕ)) (items : List (List ℕ)) → b ≡ e.body → b' ≡ e.body → FindsAlso first own (ins_in b)
    → FindsGiving s.events q b' own all → items ≡ all.keys → IsMaking e.body → (i : List ℕ) (r : Recall) → IsBlockedBy s q e i r → Contains items i
blocked_listed s q e b b' first own all items is is' also joined keys making i r blocked =
    let j : List ℕ = blocked.target.item in
    let found : IsFound item_cmp all i = ⊎_elim
    (λ takes. joined.stay i (also.all i (subst (λ c. Contains (ins_in c) i) (sym is) takes)))
    (λ (id, named, takes, gives). joined.all id i j r (ap make_id is' ∙ named) (subst (λ (c : Body). GivesOut j c) (sym is') gives) blocked.source takes
    (λ holds. blocked.leaves ((outputs_of_parts s e i making blocked.target blocked.new).0, gives_made q b' r j holds (subst (λ (c : Body). GivesOut j c) (sym is') gives))))
    (new_pair_source s e i blocked.target making blocked.new) in
    subst (λ xs. Contains xs i) (sym keys) ((btree_set_contains_iff nat_list_cmp_total exact_bytes all i).0 found)

-- What is closed stays closed once an event passes.
module _ (s : SiteEvents) (q : Quarantine) (e : Content) (closed : IsClosedInside s q) where
  closed_freely : (s' : SiteEvents) → s' ≡ record s { events = with_fresh s.events e Fresh } → IsFree s q e → IsClosedInside s' q
  closed_freely s' is free = subst (λ (t : SiteEvents). IsClosedInside t q) (sym is) (λ r i j h made. ⊎_elim
      (λ there. there)
      (λ none. absurd (free i r (record {
        source = h;
        target = record { site = s.me; item = j };
        new = (made, λ before. none (closed r i j h before));
        leaves = λ (here, there). none there;
      })))
      (held_or_not q r j))

  pub closed_passed : (standing : Standing) (s' : SiteEvents) → Passes s q e standing → s' ≡ record s { events = with_fresh s.events e standing } → IsClosedInside s' q
  closed_passed Fresh s' (fresh, free) is = closed_freely s' is free
  closed_passed Known s' known is = subst (λ (t : SiteEvents). IsClosedInside t q) (sym is) closed
  closed_passed Taken s' taken is = absurd taken
