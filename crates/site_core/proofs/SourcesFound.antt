-- The sources of the pairs that an event adds, and what is found of them.
use Rattle.std.proofs.Common.{◌≡◌, ◌⊎◌, ◌==◌, inl, inr, ℕ, ◌+◌, ◌<◌, ◌≤◌, true, false, not, arith, List, [], ◌∷◌, Option, Some, None, take, get_or, length, ◌↔◌, refl, sym, ap, subst, ◌∙◌, ⊎_elim}
use Rattle.std.specs.Prelude.{Any, IsTrue}
use mathlib.Core.Bool.{false≢true}
use Rattle.std.proofs.lemmas.Bool.{cases_Bool, eqb-true}
use Rattle.std.specs.BTreeSet.{BTreeSet, Updates}
use Rattle.std.specs.Cmp.Lexicographic.{slice_cmp}
use Rattle.std.specs.List.{Contains, slice_get}
use Rattle.std.specs.Ordering.{nat_cmp}
use Rattle.std.proofs.lemmas.Cmp.{nat_list_cmp_total}
use Rattle.std.proofs.lemmas.List.{take_all}
use Rattle.std.proofs.lemmas.List.Elements.{Contains-append_left}
use Rattle.std.proofs.lemmas.Map.Lookups.{exact_bytes}
use Rattle.std.proofs.lemmas.Option.{slice_get-get_or}
use Rattle.event_json.specs.Events.{Content}
use Rattle.event_json.specs.declared.bodies.Body.{Body}
use Rattle.event_json.specs.declared.bodies.Body.TheVariants.{Note, Ship, Make, Pack}
use Rattle.frame_core.specs.Numbers.{Recall}
use Rattle.trace_core.specs.declared.pairs.Pair.{Pair}
use Rattle.trace_core.specs.Pairs.{TakesIn, GivesOut, make_id, IsRelated}
use Rattle.trace_core.specs.Parts.{TakesInAsPart}
use Rattle.trace_core.specs.Places.{IsPartAt}
use Rattle.trace_core.specs.Searches.{IsFound}
use Rattle.trace_core.specs.Sites.{SiteEvents}
use Rattle.trace_core.specs.Carried.{GoTo}
use Rattle.trace_core.specs.Spreads.{IsNewTarget, ins_in, items_of}
use Rattle.trace_core.proofs.AddedPairs.{related_with}
use Rattle.trace_core.proofs.Carrying.{sent_named}
use Rattle.trace_core.proofs.Members.{contains_cases, contains_none}
use Rattle.trace_core.proofs.SetMembers.{found-insert, contains_more}
use Rattle.site_core.specs.HeldIndex.{Index, IsIndex}
use Rattle.site_core.specs.Quarantines.{Quarantine, held, item_cmp}
use Rattle.site_core.specs.Blocks.{IsMaking}
use Rattle.site_core.specs.Joined.{JoinedAreCovered}
use Rattle.site_core.specs.Sources.{FindsAlso, FindsInputsAt, FindsParts, FindsIfInput, FindsHeldInputs, FindsJoined, FindsUncovered, FindsGiving, has_outputs}
use Rattle.site_core.proofs.HeldIndex.{held_entry}

pub taken_in : (i : List ℕ) (b : Body) → TakesIn i b → Contains (ins_in b) i
taken_in i (Note items) h = absurd h
taken_in i (Ship items sites outside) h = absurd h
taken_in i (Make id ins outs) h = h
taken_in i (Pack action parent children) h = absurd h

-- a transformation sends nothing
pub makes_only : (events : List Content) (b : Body) (site : ℕ) → IsMaking b → GoTo events b site → ⊥
makes_only events (Note items) site making goes = making
makes_only events (Ship items sites outside) site making goes = making
makes_only events (Make id ins outs) site making goes = goes
makes_only events (Pack action parent children) site making goes = making

-- what an item is related to comes of events that name it
taken_named : (i : List ℕ) (b : Body) → TakesIn i b → Contains (items_of b) i
taken_named i (Note items) h = absurd h
taken_named i (Ship items sites outside) h = absurd h
taken_named i (Make id ins outs) h = Contains-append_left ins outs i h
taken_named i (Pack action parent children) h = absurd h

pub related_named : (s : SiteEvents) (i : List ℕ) (p : Pair) → IsRelated s i p → Any (λ e. Contains (items_of e.body) i) s.events
related_named s i p related = ⊎_elim
    (λ shipped. sent_named s.events i p.site shipped.2)
    (λ (here, (k, e, lt, at, (takes, gives))). (k, e, lt, at, taken_named i e.body takes))
    related

-- one more item is found
pub found_more : (first old new : BTreeSet (List ℕ)) (items : List (List ℕ)) (k : ℕ) (i copy : List ℕ) → k < length items → i ≡ get_or items k i → copy ≡ i → Updates item_cmp old new copy true
    → FindsAlso first old (take k items) → FindsAlso first new (take (k + 1) items)
found_more first old new items k i copy below at same upd so_far =
    let found : (j : List ℕ) → IsFound item_cmp old j ⊎ (copy ≡ j) → IsFound item_cmp new j = λ j. (found-insert (slice_cmp nat_cmp) nat_list_cmp_total exact_bytes old new copy upd j).1 in
    record {
      stay = λ j h. found j (inl (so_far.stay j h));
      all = λ j there. ⊎_elim (λ before. found j (inl (so_far.all j before))) (λ is. found j (inr (same ∙ is))) ((contains_more items k i below at j).0 there);
    }

-- what the events at the places move is found
pub record FindsAtPlaces (events : List Content) (places : List ℕ) (old new : BTreeSet (List ℕ)) : Type 0 where
  pub stay : (i : List ℕ) → IsFound item_cmp old i → IsFound item_cmp new i
  pub all : (k : ℕ) → Contains places k → (e : Content) → slice_get events k ≡ Some e → (i : List ℕ) → Contains (ins_in e.body) i → IsFound item_cmp new i

inputs_stay : (o : Option Content) (old new : BTreeSet (List ℕ)) → FindsInputsAt o old new → (i : List ℕ) → IsFound item_cmp old i → IsFound item_cmp new i
inputs_stay None old new also = also.stay
inputs_stay (Some e) old new also = also.stay

-- one place more
pub place_found : (events : List Content) (places : List ℕ) (n k : ℕ) (first old new : BTreeSet (List ℕ)) → n < length places → k ≡ get_or places n k → FindsInputsAt (slice_get events k) old new
    → FindsAtPlaces events (take n places) first old → FindsAtPlaces events (take (n + 1) places) first new
place_found events places n k first old new below at moved so_far = record {
  stay = λ i h. inputs_stay (slice_get events k) old new moved i (so_far.stay i h);
  all = λ j there e stands i moves. ⊎_elim
      (λ before. inputs_stay (slice_get events k) old new moved i (so_far.all j before e stands i moves))
      (λ same. let found : FindsAlso old new (ins_in e.body) = subst (λ o. FindsInputsAt o old new) (ap (slice_get events) same ∙ stands) moved in found.all i moves)
      ((contains_more places n k below at j).0 there);
}

-- the places are those of the parts
pub all_parts : (events : List Content) (id : List ℕ) (places : List ℕ) (n : ℕ) (first found : BTreeSet (List ℕ)) → length places ≤ n → ((k : ℕ) → Contains places k ↔ IsPartAt events id k)
    → FindsAtPlaces events (take n places) first found → FindsParts (Some id) events first found
all_parts events id places n first found past exact so_far = record {
  stay = so_far.stay;
  all = λ e (k, lt, at) (own, is, same) i moves.
      let stands : slice_get events k ≡ Some e = slice_get-get_or events k e lt ∙ ap Some at in
      so_far.all k (subst (λ ps. Contains ps k) (sym (take_all n places past)) ((exact k).1 (e, stands, is ∙ sym same))) e stands i moves;
}

-- those of the quarantined inputs are among all that parts move
pub held_among_parts : (events : List Content) (q : Quarantine) (id : List ℕ) (old new : BTreeSet (List ℕ)) → FindsParts (Some id) events old new → FindsHeldInputs events q id old new
held_among_parts events q id old new parts = record {
  stay = parts.stay;
  all = λ i r h (k, f, lt, at, (is, takes)). parts.all f (k, lt, at) (id, is, refl) i (taken_in i f.body takes);
}

pub input_found : (events : List Content) (id item copy : List ℕ) (old new : BTreeSet (List ℕ)) → copy ≡ item → Updates item_cmp old new copy true → FindsIfInput events id item old new
input_found events id item copy old new same upd =
    let found : (j : List ℕ) → IsFound item_cmp old j ⊎ (copy ≡ j) → IsFound item_cmp new j = λ j. (found-insert (slice_cmp nat_cmp) nat_list_cmp_total exact_bytes old new copy upd j).1 in
    record { stay = λ i h. found i (inl h); here = λ takes. found item (inr same) }

-- The quarantined inputs, sought among all quarantined items.
module _ (events : List Content) (q : Quarantine) (id : List ℕ) (first : BTreeSet (List ℕ)) where
  -- those that aren't found are left
  pub record FindsButLeft (left : List (List ℕ × BTreeSet Recall)) (found : BTreeSet (List ℕ)) : Type 0 where
    pub stay : (i : List ℕ) → IsFound item_cmp first i → IsFound item_cmp found i
    pub all : (i : List ℕ) (r : Recall) → IsTrue (held q r i) → TakesInAsPart events id i → IsFound item_cmp found i ⊎ ((recalls : BTreeSet Recall) × Contains left (i, recalls))

  pub all_left : (index : Index) (left : List (List ℕ × BTreeSet Recall)) → left ≡ index.entries → IsIndex index q → FindsButLeft left first
  all_left index left gives is = record {
    stay = λ i h. h;
    all = λ i r h takes. let (recalls, there) = held_entry index q is i r h in inr (recalls, subst (λ es. Contains es (i, recalls)) (sym gives) there);
  }

  module _ (left rest : List (List ℕ × BTreeSet Recall)) (e : List ℕ × BTreeSet Recall) (next : left ≡ e ∷ rest) where
    either_left : {P : Type 0} (i : List ℕ) → ((recalls : BTreeSet Recall) × Contains left (i, recalls)) → (e.0 ≡ i → P) → P ⊎ ((recalls : BTreeSet Recall) × Contains rest (i, recalls))
    either_left i (recalls, there) here = ⊎_elim
        (λ same. inl (here (ap (λ (x : List ℕ × BTreeSet Recall). x.0) same)))
        (λ later. inr (recalls, later))
        (contains_cases e (i, recalls) rest (subst (λ es. Contains es (i, recalls)) next there))

    pub input_tried : (old new : BTreeSet (List ℕ)) → FindsIfInput events id e.0 old new → FindsButLeft left old → FindsButLeft rest new
    input_tried old new tried so_far = record {
      stay = λ i h. tried.stay i (so_far.stay i h);
      all = λ i r h takes. ⊎_elim
          (λ before. inl (tried.stay i before))
          (λ left. either_left i left (λ is. subst (IsFound item_cmp new) is (tried.here (subst (λ (j : List ℕ). TakesInAsPart events id j) (sym is) takes))))
          (so_far.all i r h takes);
    }

  pub none_left : (left : List (List ℕ × BTreeSet Recall)) (found : BTreeSet (List ℕ)) → left ≡ [] → FindsButLeft left found → FindsHeldInputs events q id first found
  none_left left found none so_far = record {
    stay = so_far.stay;
    all = λ i r h takes. ⊎_elim
        (λ found. found)
        (λ (recalls, there). absurd (contains_none (i, recalls) (subst (λ es. Contains es (i, recalls)) none there)))
        (so_far.all i r h takes);
  }

-- the quarantined inputs of a transformation with an id are those of the body that has it
module _ (events : List Content) (q : Quarantine) (b : Body) (old : BTreeSet (List ℕ)) where
  one_id : (id other : List ℕ) (o : Option (List ℕ)) → Some id ≡ o → o ≡ Some other → id ≡ other
  one_id id other o h k = cc

  pub joined_held : (id : List ℕ) (new : BTreeSet (List ℕ)) → Some id ≡ make_id b → FindsHeldInputs events q id old new → FindsJoined events q b old new
  joined_held id new is finds = record {
    stay = finds.stay;
    all = λ other i r named h takes. finds.all i r h (subst (λ (x : List ℕ). TakesInAsPart events x i) (sym (one_id id other (make_id b) is named)) takes);
  }

-- what gives something out has outputs
gives_some : (b : Body) (j : List ℕ) → GivesOut j b → has_outputs b ≡ true
gives_some (Note items) j h = absurd h
gives_some (Ship items sites outside) j h = absurd h
gives_some (Pack action parent children) j h = absurd h
gives_some (Make id ins []) j h = absurd (contains_none j h)
gives_some (Make id ins (k ∷ ks)) j h = ⊎_elim
    (λ none. let no : length (k ∷ ks) ≡ 0 = eqb-true (length (k ∷ ks)) 0 none in absurd (omega (arith, no)))
    (λ some. ap not some)
    (cases_Bool (length (k ∷ ks) == 0))

module _ (events : List Content) (q : Quarantine) (b : Body) (old new : BTreeSet (List ℕ)) where
  pub uncovered_joined : FindsJoined events q b old new → FindsUncovered events q b old new
  uncovered_joined joined = record { stay = joined.stay; all = λ id i r named h takes free. joined.all id i r named h takes }

  pub giving_joined : FindsUncovered events q b old new → FindsGiving events q b old new
  giving_joined joined = record { stay = joined.stay; all = λ id i j r named gives h takes free. joined.all id i r named h takes free }

  pub giving_nothing : has_outputs b ≡ false → FindsGiving events q b old old
  giving_nothing none = record { stay = λ i h. h; all = λ id i j r named gives h takes free. absurd (false≢true (sym none ∙ gives_some b j gives)) }

pub covered_uncovered : (s : SiteEvents) (q : Quarantine) (b : Body) (old : BTreeSet (List ℕ)) → JoinedAreCovered s q b → FindsUncovered s.events q b old old
covered_uncovered s q b old covered = record { stay = λ i h. h; all = λ id i r named h takes free. absurd (free (covered id i r named h takes)) }

-- a part takes the item in, another gives out the pair's item
module _ (s : SiteEvents) (id i : List ℕ) (q : Pair) where
  pub parts_relate : TakesInAsPart s.events id i → Any (λ g. (make_id g.body ≡ Some id) × GivesOut q.item g.body) s.events → q.site ≡ s.me → IsRelated s i q
  parts_relate (k, f, lt, at, (is, takes)) (l, g, lt', at', (named, gives)) here = inr (here, (k, f, lt, at, (takes, (l, g, lt', at', (inr (id, is, named), gives)))))

-- a new pair of a transformation begins in an item that it takes in, or that another part of it does
pub new_pair_source : (s : SiteEvents) (e : Content) (i : List ℕ) (q : Pair) → IsMaking e.body → IsNewTarget s e i q
    → Contains (ins_in e.body) i ⊎ ((id : List ℕ) × (make_id e.body ≡ Some id) × TakesInAsPart s.events id i × GivesOut q.item e.body)
new_pair_source s e i q making (related, new) = ⊎_elim
    (λ before. absurd (new before))
    (λ added. ⊎_elim
    (λ own. ⊎_elim
    (λ (other, (sends, same)). absurd (makes_only s.events e.body q.site making sends.0))
    (λ (here, (takes, gives)). inl (taken_in i e.body takes))
    own)
    (λ ((k, f, lt, at, (takes, (id, first, second))), (here, gives)).
    inr (id, second, (k, f, lt, at, (first, takes)), gives))
    added)
    (related_with s e i q related)
