-- What goes into a transformation still does when more is captured, and all that it gives out is made of that.
use Rattle.std.proofs.Common.{◌≡◌, ◌==◌, ◌&&◌, ℕ, ◌<◌, true, List, [], ◌∷◌, ◌++◌, Option, Some, None, length, slice_get, refl, sym, ap, subst, ◌∙◌, inr, append_assoc, arith}
use Rattle.std.specs.Prelude.{IsTrue}
use Rattle.std.specs.BTreeSet.{BTreeSet}
use Rattle.std.specs.List.{Contains}
use Rattle.std.proofs.lemmas.Bool.{eq-eqb}
use Rattle.std.proofs.lemmas.List.{append-nil, length-append, get_or_append_left}
use Rattle.std.proofs.lemmas.Option.{slice_get-get_or}
use Rattle.event_json.specs.Events.{Content}
use Rattle.frame_core.specs.Numbers.{Recall}
use Rattle.trace_core.specs.Beyond.{GivesInside}
use Rattle.trace_core.specs.declared.groups.Group.{Group}
use Rattle.trace_core.specs.declared.pairs.Pair.{Pair}
use Rattle.trace_core.specs.Groups.{GoesInto, first_of, made_at, or_place, outs_of, parts_of}
use Rattle.trace_core.specs.Pairs.{make_id}
use Rattle.trace_core.specs.PairTests.{same_id}
use Rattle.trace_core.specs.Places.{at_place, places_where, takes_item}
use Rattle.trace_core.specs.Sites.{SiteEvents}
use Rattle.trace_core.specs.Spreads.{Inside}
use Rattle.trace_core.proofs.GroupSteps.{made_places, same_outs}
use Rattle.trace_core.proofs.LookSteps.{first_alone, first_stands}
use Rattle.trace_core.proofs.Members.{list_any_member}
use Rattle.trace_core.proofs.PairTestsDecide.{same_id_decides}
use Rattle.trace_core.proofs.PlaceLists.{place_there, places_more}
use Rattle.trace_core.proofs.RelatedPlaces.{slice_there}
use Rattle.site_core.specs.Quarantines.{Quarantine, held}
use Rattle.site_core.specs.Shortcuts.{IsClosedInside, TakeHeld}

-- the first of a list that isn't empty stays the first
first_stays : (ks more : List ℕ) (k : ℕ) → Contains ks k → slice_get (ks ++ more) 0 ≡ slice_get ks 0
first_stays [] more k (j, below, at) = absurd (omega (arith, below))
first_stays (x ∷ ks) more k there = refl

module _ (events : List Content) (z : Content) where
  -- the event at a place stays a part of the same transformation
  first_later : (k : ℕ) (e : Content) → slice_get events k ≡ Some e → first_of (events ++ z ∷ []) k e.body ≡ first_of events k e.body
  first_later k e stands = by_id (make_id e.body) refl
    where
      by_id : (o : Option (List ℕ)) → make_id e.body ≡ o → first_of (events ++ z ∷ []) k e.body ≡ first_of events k e.body
      by_id None none = first_alone (events ++ z ∷ []) k e.body none ∙ sym (first_alone events k e.body none)
      by_id (Some id) is =
          let (below, at) = slice_there events k e stands in
          let itself = (same_id_decides (make_id e.body) (make_id e.body)).1 (id, is, is) in
          ap (λ (ks : List ℕ). or_place k (slice_get ks 0)) (places_more (λ (f : Content). same_id (make_id f.body) (make_id e.body)) events z)
          ∙ ap (or_place k) (first_stays (parts_of events e.body) _ k (place_there (λ (f : Content). same_id (make_id f.body) (make_id e.body)) events k e below at itself))

  goes_into_next : (i : List ℕ) (first : ℕ) → GoesInto events i first → GoesInto (events ++ z ∷ []) i first
  goes_into_next i first (k, e, stands, takes, is) =
      let (below, at) = slice_there events k e stands in
      let more : k < length (events ++ z ∷ []) = omega (arith, below, length-append events (z ∷ [])) in
      (k, e, slice_get-get_or (events ++ z ∷ []) k e more ∙ ap Some (get_or_append_left events (z ∷ []) e k below ∙ at), takes, first_later k e stands ∙ is)

-- events come after those that are there
pub goes_into_later : (events more : List Content) (i : List ℕ) (first : ℕ) → GoesInto events i first → GoesInto (events ++ more) i first
goes_into_later events [] i first into = subst (λ (es : List Content). GoesInto es i first) (sym (append-nil events)) into
goes_into_later events (z ∷ more) i first into =
    subst (λ (es : List Content). GoesInto es i first) (append_assoc events (z ∷ []) more) (goes_into_later (events ++ z ∷ []) more i first (goes_into_next events z i first into))

-- the first part gives out what each part does
first_outs : (events : List Content) (j : List ℕ) (k : ℕ) (e : Content) → slice_get events k ≡ Some e → at_place (λ f. outs_of events j f.body) (slice_get events (first_of events k e.body)) ≡ outs_of events j e.body
first_outs events j k e stands = by_id (make_id e.body) refl
  where
    by_id : (o : Option (List ℕ)) → make_id e.body ≡ o → at_place (λ f. outs_of events j f.body) (slice_get events (first_of events k e.body)) ≡ outs_of events j e.body
    by_id None none = ap (λ (n : ℕ). at_place (λ f. outs_of events j f.body) (slice_get events n)) (first_alone events k e.body none) ∙ ap (at_place (λ f. outs_of events j f.body)) stands
    by_id (Some id) is =
        let (f, at, same) = first_stands events k e stands in
        let (below, there) = slice_there events k e stands in
        let (below', there') = slice_there events (first_of events k e.body) f at in
        ap (at_place (λ g. outs_of events j g.body)) at
        ∙ same_outs events j f e (first_of events k e.body, below', there') (k, below, there) ((same_id_decides (make_id f.body) (make_id e.body)).1 (id, same ∙ is, is))

module _ (s : SiteEvents) (i j : List ℕ) where
  -- what goes into a transformation is made into all that it gives out
  pub into_gives : (first : ℕ) → GoesInto s.events i first → at_place (λ f. outs_of s.events j f.body) (slice_get s.events first) ≡ true → Inside s i j
  into_gives first (k, e, stands, takes, is) gives =
      let q : Pair = record { site = s.me; item = j } in
      let (below, at) = slice_there s.events k e stands in
      let outs : outs_of s.events j e.body ≡ true = sym (first_outs s.events j k e stands) ∙ ap (λ (n : ℕ). at_place (λ f. outs_of s.events j f.body) (slice_get s.events n)) is ∙ gives in
      let made : made_at s.me s.events k q ≡ true =
      ap (at_place (λ f. q.site == s.me && outs_of s.events q.item f.body)) stands ∙ ap (λ b. b && outs_of s.events j e.body) (eq-eqb s.me s.me refl) ∙ outs in
      inr ((made_places s i q).0 (list_any_member (λ n. made_at s.me s.events n q) (places_where (takes_item i) s.events) k (place_there (takes_item i) s.events k e below at takes) made))

-- so where what is quarantined is closed, all that they give out is quarantined
pub gives_held : (s : SiteEvents) (q : Quarantine) (r : Recall) (seen : BTreeSet Group) → IsClosedInside s q → TakeHeld s q r seen → (j : List ℕ) → GivesInside s seen j → IsTrue (held q r j)
gives_held s q r seen closed taken j (first, there, (own, gives)) =
    let (i, h, into) = taken first there in
    closed r i j h (into_gives s i j first into gives)
