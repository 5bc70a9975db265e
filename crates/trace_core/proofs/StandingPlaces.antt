-- How an event stands, by the places of its eventID.
use Rattle.std.proofs.Common.{◌≡◌, ℕ, Bool, true, false, not, ◌&&◌, if◌then◌else◌, List, Option, slice_get, sym, ap, subst, ◌∙◌}
use Rattle.std.specs.List.{list_any, Contains}
use Rattle.std.specs.declared.hash.RandomState.{RandomState}
use Rattle.std.proofs.lemmas.Bool.{and_parts}
use Rattle.std.proofs.lemmas.Bool.Decides.{same_from_decides}
use Rattle.event_json.specs.Events.{Content}
use Rattle.event_json.specs.Contents.{same_content}
use Rattle.event_json.proofs.ContentLaws.{content_decides}
use Rattle.trace_core.specs.declared.adding.Standing.TheVariants.{Fresh, Known, Taken}
use Rattle.trace_core.specs.Adding.{standing_among}
use Rattle.trace_core.specs.PairTests.{same_id}
use Rattle.trace_core.specs.declared.event_ids.EventIds.{EventIds}
use Rattle.trace_core.specs.EventIds.{text_hash, hash_key, hash_keys, hash_places, has_hash}
use Rattle.trace_core.specs.Places.{places_where, at_place, id_places, IsIndex}
use Rattle.trace_core.proofs.Members.{list_any_witness, list_any_member}
use Rattle.trace_core.proofs.PairTestsDecide.{same_id_decides}
use Rattle.trace_core.proofs.PlaceLists.{any_at_places, id_looked_up}

-- what is the id of something is an id
own_id : (a b : Option (List ℕ)) → same_id a b ≡ true → same_id b b ≡ true
own_id a b h = let (id, first, second) = (same_id_decides a b).0 h in (same_id_decides b b).1 (id, second, second)

-- the places of the eventIDs of one hash
pub ids_found : (ids : EventIds) (events : List Content) (places : List ℕ) (o id : Option (List ℕ)) → places ≡ id_places (hash_places ids.places) (hash_keys ids.keys o) → o ≡ id → IsIndex (hash_places ids.places) (has_hash ids.keys) events
    → places ≡ places_where (λ f. same_id (hash_keys ids.keys f.id) (hash_keys ids.keys id)) events
ids_found ids events places o id found same is = found ∙ ap (λ i. id_places (hash_places ids.places) (hash_keys ids.keys i)) same ∙ id_looked_up (hash_places ids.places) (λ e. hash_keys ids.keys e.id) events is (hash_keys ids.keys id)

-- equal eventIDs have one hash
one_hash : (keys : RandomState) (a b : Option (List ℕ)) → same_id a b ≡ true → same_id (hash_keys keys a) (hash_keys keys b) ≡ true
one_hash keys a b same = let (id, first, second) = (same_id_decides a b).0 same in
    (same_id_decides (hash_keys keys a) (hash_keys keys b)).1 (hash_key (text_hash keys id), ap (hash_keys keys) first, ap (hash_keys keys) second)

module _ (keys : RandomState) (events : List Content) (e : Content) (places : List ℕ) (are : places ≡ places_where (λ f. same_id (hash_keys keys f.id) (hash_keys keys e.id)) events) where
  abbrev has : Bool
  has = list_any (λ f. same_id f.id e.id) events

  -- where a test passes none but events of the same eventID, those of one hash are enough
  at_places : (test : Content → Bool) → ((f : Content) → Contains events f → test f ≡ true → same_id f.id e.id ≡ true) → list_any (λ k. at_place test (slice_get events k)) places ≡ list_any test events
  at_places test named =
      ap (list_any (λ k. at_place test (slice_get events k))) are
      ∙ any_at_places (λ f. same_id (hash_keys keys f.id) (hash_keys keys e.id)) test events
      ∙ same_from_decides {P = list_any test events ≡ true} _ _ (
        λ h. let (f, there, both) = list_any_witness (λ f. same_id (hash_keys keys f.id) (hash_keys keys e.id) && test f) events h in
            list_any_member test events f there (and_parts (same_id (hash_keys keys f.id) (hash_keys keys e.id)) (test f) both).1,
        λ h. let (f, there, passes) = list_any_witness test events h in
            list_any_member (λ f. same_id (hash_keys keys f.id) (hash_keys keys e.id) && test f) events f there (ap (λ b. b && test f) (one_hash keys f.id e.id (named f there passes)) ∙ passes),
      )
      (λ h. h, λ h. h)

  -- an event of its eventID stands there
  pub named_there : list_any (λ k. at_place (λ f. same_id f.id e.id) (slice_get events k)) places ≡ has
  named_there = at_places (λ f. same_id f.id e.id) (λ f there same. same)

  -- an equal event has the same eventID
  equal_there : has ≡ true → list_any (λ k. at_place (λ f. same_content f e) (slice_get events k)) places ≡ list_any (λ f. same_content f e) events
  equal_there used = at_places (λ f. same_content f e) (λ f there equal.
      let (g, there', id) = list_any_witness (λ f. same_id f.id e.id) events used in
      let same : f ≡ e = (content_decides f e).0 equal in
      subst (λ (x : Content). same_id x.id e.id ≡ true) (sym same) (own_id g.id e.id id))

  pub stands_fresh : has ≡ false → Fresh ≡ standing_among events e
  unfolding standing_among
  stands_fresh none = ap (λ b. if not b then Fresh else (if list_any (λ f. same_content f e) events then Known else Taken)) (sym none)

  pub stands_known : has ≡ true → list_any (λ k. at_place (λ f. same_content f e) (slice_get events k)) places ≡ true → Known ≡ standing_among events e
  unfolding standing_among
  stands_known used equal =
      sym (ap (λ b. if not b then Fresh else (if list_any (λ f. same_content f e) events then Known else Taken)) used
      ∙ ap (λ b. if b then Known else Taken) (sym (equal_there used) ∙ equal))

  pub stands_taken : has ≡ true → list_any (λ k. at_place (λ f. same_content f e) (slice_get events k)) places ≡ false → Taken ≡ standing_among events e
  unfolding standing_among
  stands_taken used other =
      sym (ap (λ b. if not b then Fresh else (if list_any (λ f. same_content f e) events then Known else Taken)) used
      ∙ ap (λ b. if b then Known else Taken) (sym (equal_there used) ∙ other))
