-- What a search adds that comes to each transformation once.
use Rattle.std.proofs.Common.{◌≡◌, ◌==◌, ℕ, ◌<◌, ◌≤◌, ◌+◌, Bool, true, false, not, ◌&&◌, ◌||◌, List, [], ◌∷◌, Option, Some, None, length, take, get_or, slice_get, ◌↔◌, refl, sym, ap, subst, ◌∙◌, inl, inr, ⊎_elim}
use mathlib.Core.Bool.{false≢true}
use mathlib.Core.Logic.{◌⊎◌}
use Rattle.std.specs.BTreeSet.{BTreeSet}
use Rattle.std.specs.List.{list_any, Contains}
use Rattle.std.proofs.lemmas.Bool.{or_cases, and_parts, eqb-true, eq-eqb}
use Rattle.std.proofs.lemmas.List.{take_all}
use Rattle.std.proofs.lemmas.List.Folds.{list_any_more}
use Rattle.std.proofs.lemmas.Option.{slice_get-get_or, slice_get_cases, get_or_from_slice_get}
use Rattle.event_json.specs.Events.{Content}
use Rattle.event_json.specs.declared.bodies.Body.{Body}
use Rattle.trace_core.specs.declared.groups.Group.{Group}
use Rattle.trace_core.specs.declared.pairs.Pair.{Pair}
use Rattle.trace_core.specs.Gathering.{made_by, joined_by}
use Rattle.trace_core.specs.Groups.{group_cmp, IsSeen, Sees, outs_of, Gives, IsGiven, AddsUnseen, SeesOnly, IsSeenAt, HasSeenTakers, SeesAt, SeesTakers, IsPartOf, StaysSeen, first_of, made_at, IsSought}
use Rattle.trace_core.specs.Pairs.{make_id, IsShipped, IsMade}
use Rattle.trace_core.specs.PairTests.{same_id, gives_out}
use Rattle.trace_core.specs.Places.{at_place, places_where, takes_item}
use Rattle.trace_core.specs.Searches.{IsFound}
use Rattle.trace_core.specs.Sites.{SiteEvents}
use Rattle.trace_core.proofs.Booleans.{list_any-same}
use Rattle.trace_core.proofs.GatheringSteps.{is_made-by_events}
use Rattle.trace_core.proofs.Members.{contains_none, list_any_member}
use Rattle.trace_core.proofs.NumberLists.{some_is}
use Rattle.trace_core.proofs.PairTestsDecide.{same_id_decides, made_decides}
use Rattle.trace_core.proofs.PlaceLists.{place_there, place_passes, any_at_places}
use Rattle.trace_core.proofs.RelatedPlaces.{slice_there, ins_listed}
use Rattle.trace_core.proofs.SetMembers.{contains_more}

module _ (events : List Content) (j : List ℕ) where
  or_same : (a b : Bool) → (a ≡ true → b ≡ true) → (a || b) ≡ b
  or_same true b h = sym (h refl)
  or_same false b h = refl

  -- among events with an id, what it gives is what is joined to it
  pub outs_joined : (e : Content) (id : List ℕ) → Contains events e → make_id e.body ≡ Some id → outs_of events j e.body ≡ joined_by events e.body j
  outs_joined e id there is = or_same (gives_out j e.body) (joined_by events e.body j) (λ gives.
      list_any_member (λ f. same_id (make_id e.body) (make_id f.body) && gives_out j f.body) events e there
      (ap (λ b. b && gives_out j e.body) ((same_id_decides (make_id e.body) (make_id e.body)).1 (id, is, is)) ∙ gives))

  -- so parts of one transformation give the same
  pub same_outs : (e f : Content) → Contains events e → Contains events f → same_id (make_id e.body) (make_id f.body) ≡ true → outs_of events j e.body ≡ outs_of events j f.body
  same_outs e f there there' same =
      let (id, first, second) = (same_id_decides (make_id e.body) (make_id f.body)).0 same in
      outs_joined e id there first
      ∙ ap (λ o. list_any (λ g. same_id o (make_id g.body) && gives_out j g.body) events) (first ∙ sym second)
      ∙ sym (outs_joined f id there' second)

  -- the first part
  pub first_gives : (k first : ℕ) (e : Content) (b : Body) → slice_get events k ≡ Some e → e.body ≡ b → Contains (places_where (λ f. same_id (make_id f.body) (make_id b)) events) first
      → at_place (λ f. outs_of events j f.body) (slice_get events first) ≡ outs_of events j b
  first_gives k first e b stands is among =
      let (f, below, at, same) = place_passes (λ f. same_id (make_id f.body) (make_id b)) events first among in
      ap (at_place (λ f. outs_of events j f.body)) (slice_get-get_or events first f below ∙ ap Some at)
      ∙ same_outs f e (first, below, at) (let (lt, at') = slice_there events k e stands in (k, lt, at')) (ap (λ (c : Body). same_id (make_id f.body) (make_id c)) is ∙ same)
      ∙ ap (outs_of events j) is

  -- an event without an id gives its own outputs
  pub outs_alone : (b : Body) → make_id b ≡ None → outs_of events j b ≡ gives_out j b
  outs_alone b none = ap (λ o. gives_out j b || list_any (λ f. same_id o (make_id f.body) && gives_out j f.body) events) none ∙ ap (λ c. gives_out j b || c) (none_joined events) ∙ or_no (gives_out j b)
    where
      none_joined : (fs : List Content) → list_any (λ f. same_id None (make_id f.body) && gives_out j f.body) fs ≡ false
      none_joined [] = refl
      none_joined (f ∷ fs) = none_joined fs

      or_no : (a : Bool) → (a || false) ≡ a
      or_no true = refl
      or_no false = refl

module _ (G : BTreeSet Group → Pair → Type 0) where
  -- nothing to add
  pub adds_none : (P : Pair → Type 0) (seen : BTreeSet Group) (Old : Pair → Type 0) → ((q : Pair) → P q → ⊥) → AddsUnseen G P seen seen Old Old
  adds_none P seen Old none = record {
    stay = λ q h. h;
    sound = λ q h. inl h;
    complete = λ q h. absurd (none q h);
    given = λ q h. inl h;
  }

  -- one after another
  pub adds_both : (P Q : Pair → Type 0) (a b c : BTreeSet Group) (x y z : Pair → Type 0) → AddsUnseen G P a b x y → AddsUnseen G Q b c y z → AddsUnseen G (λ q. P q ⊎ Q q) a c x z
  adds_both P Q a b c x y z one two = record {
    stay = λ q h. two.stay q (one.stay q h);
    sound = λ q h. ⊎_elim
        (λ before. ⊎_elim (λ first. inl first) (λ p. inr (inl p)) (one.sound q before))
        (λ new. inr (inr new))
        (two.sound q h);
    complete = λ q h. ⊎_elim
        (λ p. ⊎_elim (λ there. inl (two.stay q there)) (λ before. inr before) (one.complete q p))
        (λ r. ⊎_elim (λ there. inl there) (λ before. ⊎_elim (λ first. inr first) (λ there. inl (two.stay q there)) (one.given q before)) (two.complete q r))
        h;
    given = λ q h. ⊎_elim
        (λ before. ⊎_elim (λ first. inl first) (λ there. inr (two.stay q there)) (one.given q before))
        (λ there. inr there)
        (two.given q h);
  }

  -- the same pairs said in another way
  pub adds_same : (P Q : Pair → Type 0) (a b : BTreeSet Group) (x y : Pair → Type 0) → ((q : Pair) → P q ↔ Q q) → AddsUnseen G P a b x y → AddsUnseen G Q a b x y
  adds_same P Q a b x y same one = record {
    stay = one.stay;
    sound = λ q h. ⊎_elim (λ before. inl before) (λ p. inr ((same q).0 p)) (one.sound q h);
    complete = λ q h. one.complete q ((same q).1 h);
    given = one.given;
  }

-- a set of pairs that has some more
abbrev pub HasMore : (Pair → Type 0) → (Pair → Type 0) → (Pair → Bool) → Type 0
HasMore Old New p = (q : Pair) → New q ↔ (Old q ⊎ (p q ≡ true))

-- it has some pairs more, and transformations that were seen before alone
pub adds_pairs : (G : BTreeSet Group → Pair → Type 0) (p : Pair → Bool) (seen : BTreeSet Group) (Old New : Pair → Type 0) → HasMore Old New p → AddsUnseen G (λ q. p q ≡ true) seen seen Old New
adds_pairs G p seen Old New are = record {
  stay = λ q h. (are q).1 (inl h);
  sound = λ q h. (are q).0 h;
  complete = λ q h. inl ((are q).1 (inr h));
  given = λ q h. inl h;
}

-- a transformation is seen now, and all that it gives is added
pub adds_group : (s : SiteEvents) (site first : ℕ) (p : Pair → Bool) (seen seen' : BTreeSet Group) (Old New : Pair → Type 0) → Sees seen seen' (record { site = site; first = first })
    → HasMore Old New p → ((q : Pair) → Gives s first q → p q ≡ true) → AddsUnseen (λ groups q. IsGiven s site groups q) (λ q. p q ≡ true) seen seen' Old New
adds_group s site first p seen seen' Old New upd are gives = record {
  stay = λ q h. (are q).1 (inl h);
  sound = λ q h. (are q).0 h;
  complete = λ q h. inl ((are q).1 (inr h));
  given = λ q (other, there, given). ⊎_elim
      (λ before. inl (other, before, given))
      (λ same. inr ((are q).1 (inr (gives q (subst (λ n. Gives s n q) (sym (ap (λ (g : Group). g.first) same)) given)))))
      ((upd (record { site = site; first = other })).0 there);
}

pub sees_none : (site : ℕ) (seen : BTreeSet Group) → SeesOnly site seen seen
sees_none site seen g h = inl h

pub sees_both : (site : ℕ) (a b c : BTreeSet Group) → SeesOnly site a b → SeesOnly site b c → SeesOnly site a c
sees_both site a b c one two g h = ⊎_elim (λ before. one g before) (λ own. inr own) (two g h)

-- what was seen stays seen, and this transformation is seen now
pub stays_seen : (g : Group) (seen seen' : BTreeSet Group) → Sees seen seen' g → StaysSeen seen seen'
stays_seen g seen seen' upd h there = (upd h).1 (inl there)

pub stays_both : (a b c : BTreeSet Group) → StaysSeen a b → StaysSeen b c → StaysSeen a c
stays_both a b c one two g there = two g (one g there)

pub seen_now : (site first place : ℕ) (events : List Content) (e : Content) (seen seen' : BTreeSet Group) → slice_get events place ≡ Some e → first ≡ first_of events place e.body → Sees seen seen' (record { site = site; first = first }) → IsSeenAt site events seen' place
seen_now site first place events e seen seen' stands is upd f at =
    let same : e ≡ f = some_is e f (sym stands ∙ at) in
    subst (λ n. IsSeen seen' site n) (is ∙ ap (λ (g : Content). first_of events place g.body) same) ((upd (record { site = site; first = first })).1 (inr refl))

-- no other is new
pub one_new : (site first place : ℕ) (events : List Content) (e : Content) (seen seen' : BTreeSet Group) → slice_get events place ≡ Some e → first ≡ first_of events place e.body → Sees seen seen' (record { site = site; first = first }) → SeesAt site events seen seen' place
one_new site first place events e seen seen' stands is upd other there = ⊎_elim
    (λ before. inl before)
    (λ same. inr (e, stands, sym is ∙ ap (λ (g : Group). g.first) same))
    ((upd (record { site = site; first = other })).0 there)

module _ (site : ℕ) (events : List Content) (places : List ℕ) where
  -- no others are new than those at the first so many places
  abbrev pub NewSoFar : BTreeSet Group → BTreeSet Group → ℕ → Type 0
  NewSoFar seen seen' n = (first : ℕ) → IsSeen seen' site first → IsSeen seen site first ⊎ ((k : ℕ) × Contains (take n places) k × IsPartOf events k first)

  pub none_new : (seen : BTreeSet Group) → NewSoFar seen seen 0
  none_new seen first there = inl there

  pub one_place_new : (n place : ℕ) (a b c : BTreeSet Group) → n < length places → place ≡ get_or places n place → NewSoFar a b n → SeesAt site events b c place → NewSoFar a c (n + 1)
  one_place_new n place a b c below at so_far now first there = ⊎_elim
      (λ before. ⊎_elim
      (λ old. inl old)
      (λ (k, among, is). inr (k, (contains_more places n place below at k).1 (inl among), is))
      (so_far first before))
      (λ is. inr (place, (contains_more places n place below at place).1 (inr refl), is))
      (now first there)

  pub all_places_new : (n : ℕ) (i : List ℕ) (a b : BTreeSet Group) → length places ≤ n → places ≡ places_where (takes_item i) events → NewSoFar a b n → SeesTakers site events a b i
  all_places_new n i a b past are so_far first there = ⊎_elim
      (λ old. inl old)
      (λ (k, among, (e, stands, is)).
      let (f, below, at, takes) = place_passes (takes_item i) events k (subst (λ ps. Contains ps k) (take_all n places past ∙ are) among) in
      let same : f ≡ e = some_is f e (sym (slice_get-get_or events k f below ∙ ap Some at) ∙ stands) in
      inr (k, e, stands, subst (λ (g : Content). takes_item i g ≡ true) same takes, is))
      (so_far first there)

  -- the transformations at the first so many places were seen
  abbrev pub SeenSoFar : BTreeSet Group → ℕ → Type 0
  SeenSoFar seen n = (k : ℕ) → Contains (take n places) k → IsSeenAt site events seen k

  pub seen_nowhere : (seen : BTreeSet Group) → SeenSoFar seen 0
  seen_nowhere seen k there = absurd (contains_none k there)

  pub one_place_seen : (n place : ℕ) (a b : BTreeSet Group) → n < length places → place ≡ get_or places n place → StaysSeen a b → SeenSoFar a n → IsSeenAt site events b place → SeenSoFar b (n + 1)
  one_place_seen n place a b below at stays so_far now k there e stands = ⊎_elim
      (λ before. stays _ (so_far k before e stands))
      (λ same. subst (λ j. IsSeenAt site events b j) same now e stands)
      ((contains_more places n place below at k).0 there)

  pub all_places_seen : (n : ℕ) (i : List ℕ) (seen : BTreeSet Group) → length places ≤ n → places ≡ places_where (takes_item i) events → SeenSoFar seen n → HasSeenTakers site events seen i
  all_places_seen n i seen past are so_far k e stands takes =
      let (below, at) = slice_there events k e stands in
      so_far k (subst (λ ps. Contains ps k) (sym (take_all n places past ∙ are)) (place_there (takes_item i) events k e below at takes)) e stands

-- a transformation that was seen before adds nothing
adds_again : (s : SiteEvents) (site first : ℕ) (P : Pair → Type 0) (seen seen' : BTreeSet Group) (Old : Pair → Type 0) → Sees seen seen' (record { site = site; first = first }) → IsSeen seen site first
    → ((q : Pair) → P q → Gives s first q) → AddsUnseen (λ groups q. IsGiven s site groups q) P seen seen' Old Old
adds_again s site first P seen seen' Old upd there gives = record {
  stay = λ q h. h;
  sound = λ q h. inl h;
  complete = λ q h. inr (first, there, gives q h);
  given = λ q (other, found, given). ⊎_elim
      (λ before. inl (other, before, given))
      (λ same. inl (other, subst (λ (g : Group). IsFound group_cmp seen g) same there, given))
      ((upd (record { site = site; first = other })).0 found);
}

module _ (s : SiteEvents) (e : Content) where
  -- an output of the event's transformation, at the site
  abbrev pub makes : Pair → Bool
  makes q = q.site == s.me && outs_of s.events q.item e.body

  module _ (k site : ℕ) (stands : slice_get s.events k ≡ Some e) (seen seen' : BTreeSet Group) (x : Pair → Type 0) (first : ℕ)
      (stood_for : (j : List ℕ) → at_place (λ f. outs_of s.events j f.body) (slice_get s.events first) ≡ outs_of s.events j e.body) (upd : Sees seen seen' (record { site = site; first = first })) where
    here : (y : Pair → Type 0) → AddsUnseen (λ groups q. IsGiven s site groups q) (λ q. makes q ≡ true) seen seen' x y → AddsUnseen (λ groups q. IsGiven s site groups q) (λ q. made_at s.me s.events k q ≡ true) seen seen' x y
    here y = adds_same (λ groups q. IsGiven s site groups q) (λ q. makes q ≡ true) (λ q. made_at s.me s.events k q ≡ true) seen seen' x y (λ q.
        let is : made_at s.me s.events k q ≡ makes q = ap (at_place (λ f. q.site == s.me && outs_of s.events q.item f.body)) stands in
        (λ h. is ∙ h, λ h. sym is ∙ h))

    -- it is new
    pub make_new : (y : Pair → Type 0) → HasMore x y makes → AddsUnseen (λ groups q. IsGiven s site groups q) (λ q. made_at s.me s.events k q ≡ true) seen seen' x y
    make_new y made = here y (adds_group s site first makes seen seen' x y upd made (λ q (own, given). ap (λ b. b && outs_of s.events q.item e.body) (eq-eqb q.site s.me own) ∙ sym (stood_for q.item) ∙ given))

    -- it was seen before
    pub make_again : IsSeen seen site first → AddsUnseen (λ groups q. IsGiven s site groups q) (λ q. made_at s.me s.events k q ≡ true) seen seen' x x
    make_again there = here x (adds_again s site first (λ q. makes q ≡ true) seen seen' x upd there
        (λ q made. let (own, outs) = and_parts (q.site == s.me) (outs_of s.events q.item e.body) made in (eqb-true q.site s.me own, stood_for q.item ∙ outs)))

absent : (o : Option ℕ) (x : ℕ) → o ≡ None → o ≡ Some x → ⊥
absent o x none some = cc

-- the first of a list is one of it
pub first_among : (places : List ℕ) (k : ℕ) → Some k ≡ slice_get places 0 → Contains places k
first_among places k is = ⊎_elim
    (λ (y, below, at, there). (0, below, get_or_from_slice_get places 0 k k (sym is)))
    (λ (past, none). absurd (absent (slice_get places 0) k none (sym is)))
    (slice_get_cases places 0).1

-- a key that isn't new was there
pub was_seen : {b : Bool} (there : Bool) → b ≡ not there → b ≡ false → there ≡ true
was_seen true is h = refl
was_seen {b} false is h = absurd (false≢true (sym h ∙ is))

-- a key that is new wasn't there
pub wasnt_seen : {b : Bool} (there : Bool) → b ≡ not there → b ≡ true → there ≡ false
wasnt_seen false is h = refl
wasnt_seen {b} true is h = absurd (false≢true (sym is ∙ h))

same_site : (me : ℕ) (events : List Content) (s : SiteEvents) → me ≡ s.me → events ≡ s.events → record { me = me; events = events } ≡ s
same_site me events s is are = ap (λ (m : ℕ). record { me = m; events = events }) is ∙ ap (λ (es : List Content). record { me = s.me; events = es }) are

either : (a b : Bool) → (a ≡ true) ⊎ (b ≡ true) → (a || b) ≡ true
either true b h = refl
either false b h = ⊎_elim (λ no. absurd (false≢true no)) (λ yes. yes) h

module _ (s : SiteEvents) (item : List ℕ) (q : Pair) where
  and_swapped : (a b c : Bool) → (a && (b && c)) ≡ (b && (a && c))
  and_swapped true b c = refl
  and_swapped false true c = refl
  and_swapped false false c = refl

  -- the transformations that take the item in make all that is made of it
  made_by_takers : list_any (λ k. made_at s.me s.events k q) (places_where (takes_item item) s.events) ≡ list_any (λ e. made_by s.me s.events item e.body q) s.events
  made_by_takers =
      any_at_places (takes_item item) (λ e. q.site == s.me && outs_of s.events q.item e.body) s.events
      ∙ list_any-same (λ e. takes_item item e && (q.site == s.me && outs_of s.events q.item e.body)) (λ e. made_by s.me s.events item e.body q)
      (λ e. and_swapped (takes_item item e) (q.site == s.me) (outs_of s.events q.item e.body)
      ∙ ap (λ b. q.site == s.me && (b && outs_of s.events q.item e.body)) (ins_listed item e.body)) s.events

  pub made_places : (list_any (λ k. made_at s.me s.events k q) (places_where (takes_item item) s.events) ≡ true) ↔ IsMade s item q
  made_places =
      let is = made_by_takers ∙ sym (is_made-by_events s item q) in
      let decides = made_decides s item q in
      (λ h. decides.0 (sym is ∙ h), λ made. is ∙ decides.1 made)

module _ (ships : Bool) (s : SiteEvents) (item : List ℕ) (site : ℕ) where
  -- shipped, where shipments are asked for
  abbrev pub IsSent : Pair → Type 0
  IsSent q = (ships ≡ true) × IsShipped s item q

  -- that, and what the transformations make whose parts stand at the first so many places
  abbrev pub SoFar : List ℕ → ℕ → Pair → Type 0
  SoFar places n q = IsSent q ⊎ (list_any (λ k. made_at s.me s.events k q) (take n places) ≡ true)

  -- no place
  pub sent_added : (places : List ℕ) (a b : BTreeSet Group) (x y : Pair → Type 0) → AddsUnseen (λ groups q. IsGiven s site groups q) IsSent a b x y → AddsUnseen (λ groups q. IsGiven s site groups q) (SoFar places 0) a b x y
  sent_added places a b x y = adds_same (λ groups q. IsGiven s site groups q) IsSent (SoFar places 0) a b x y (λ q. (λ h. inl h, λ h. ⊎_elim (λ sent. sent) (λ none. absurd (false≢true none)) h))

  module _ (places : List ℕ) where
    -- one place more
    pub place_added : (n k me : ℕ) (events : List Content) (a b c : BTreeSet Group) (x y z : Pair → Type 0) → n < length places → k ≡ get_or places n k → me ≡ s.me → events ≡ s.events
        → AddsUnseen (λ groups q. IsGiven s site groups q) (SoFar places n) a b x y
        → AddsUnseen (λ groups q. IsGiven (record { me = me; events = events }) site groups q) (λ q. made_at me events k q ≡ true) b c y z
        → AddsUnseen (λ groups q. IsGiven s site groups q) (SoFar places (n + 1)) a c x z
    place_added n k me events a b c x y z below at is are so_far added =
        let HereOf : SiteEvents → Pair → Type 0 = λ t q. made_at t.me t.events k q ≡ true in
        let now : AddsUnseen (λ groups q. IsGiven s site groups q) (HereOf s) b c y z =
        subst (λ (t : SiteEvents). AddsUnseen (λ groups q. IsGiven t site groups q) (HereOf t) b c y z) (same_site me events s is are) added in
        adds_same (λ groups q. IsGiven s site groups q) (λ q. SoFar places n q ⊎ HereOf s q) (SoFar places (n + 1)) a c x z
        (λ q.
        let test : ℕ → Bool = λ j. made_at s.me s.events j q in
        let more : list_any test (take (n + 1) places) ≡ (list_any test (take n places) || test k) = list_any_more test places n k below ∙ ap (λ j. list_any test (take n places) || test j) (sym at) in (
          λ h. ⊎_elim
              (λ before. ⊎_elim (λ sent. inl sent) (λ made. inr (more ∙ either (list_any test (take n places)) (test k) (inl made))) before)
              (λ made. inr (more ∙ either (list_any test (take n places)) (test k) (inr made)))
              h,
          λ h. ⊎_elim
              (λ sent. inl (inl sent))
              (λ made. ⊎_elim (λ before. inl (inr before)) (λ last. inr last) (or_cases (list_any test (take n places)) (test k) (sym more ∙ made)))
              h,
        ))
        (adds_both (λ groups q. IsGiven s site groups q) (SoFar places n) (HereOf s) a b c x y z so_far now)

    -- all places
    pub places_added : (n : ℕ) (a b : BTreeSet Group) (x y : Pair → Type 0) → length places ≤ n → places ≡ places_where (takes_item item) s.events
        → AddsUnseen (λ groups q. IsGiven s site groups q) (SoFar places n) a b x y → AddsUnseen (λ groups q. IsGiven s site groups q) (λ q. IsSought ships s item q) a b x y
    places_added n a b x y past are = adds_same (λ groups q. IsGiven s site groups q) (SoFar places n) (λ q. IsSought ships s item q) a b x y (λ q.
        let is = ap (list_any (λ k. made_at s.me s.events k q)) (take_all n places past ∙ are) in
        let made = made_places s item q in
        sought q ships (list_any (λ k. made_at s.me s.events k q) (take n places) ≡ true) (λ h. made.0 (sym is ∙ h)) (λ h. is ∙ made.1 h))
      where
        sought : (q : Pair) (too : Bool) (M : Type 0) → (M → IsMade s item q) → (IsMade s item q → M) → (((too ≡ true) × IsShipped s item q) ⊎ M) ↔ IsSought too s item q
        sought q true M there back = (λ h. ⊎_elim (λ (asked, shipped). inl shipped) (λ m. inr (there m)) h, λ h. ⊎_elim (λ shipped. inl (refl, shipped)) (λ made. inr (back made)) h)
        sought q false M there back = (λ h. ⊎_elim (λ (asked, shipped). absurd (false≢true asked)) (λ m. there m) h, λ h. inr (back h))
