-- What a search back adds, which comes to each transformation once.
use Rattle.std.proofs.Common.{◌≡◌, ◌↔◌, inl, inr, ℕ, ◌+◌, ◌<◌, ◌≤◌, Bool, true, false, not, List, [], ◌∷◌, length, take, get_or, slice_get, Option, Some, None, refl, sym, ap, ◌∙◌, subst, ⊎_elim, arith}
use mathlib.Core.Bool.{false≢true}
use mathlib.Core.Logic.{◌⊎◌}
use Rattle.std.specs.BTreeMap.{get, is_at}
use Rattle.std.specs.BTreeSet.{BTreeSet, contains}
use Rattle.std.specs.List.{Contains, list_any}
use Rattle.std.specs.Option.{option_map}
use Rattle.std.proofs.lemmas.List.{take_all}
use Rattle.event_json.specs.Events.{Content}
use Rattle.trace_core.specs.Groups.{group_cmp, AddsUnseen, IsSeen, Sees, first_of}
use Rattle.trace_core.specs.Pairs.{AreOneMake, make_id}
use Rattle.trace_core.specs.Chains.{Related}
use Rattle.trace_core.specs.Relations.{Converse}
use Rattle.trace_core.specs.Searches.{AreUnseen, IsFound}
use Rattle.trace_core.specs.Sites.{SiteEvents}
use Rattle.trace_core.specs.declared.groups.Group.{Group}
use Rattle.trace_core.specs.declared.pairs.Pair.{Pair}
use Rattle.trace_core.proofs.GroupSteps.{adds_none, adds_both, adds_same}
use Rattle.trace_core.proofs.LookSteps.{first_stands, first_alone}
use Rattle.trace_core.proofs.Members.{contains_none}
use Rattle.trace_core.proofs.NumberLists.{some_is, none_is}
use Rattle.report_core.specs.Sources.{AddsTo, AddsToList, AreMakers, ByOne, GoesInto, GoesIntoAt, GoesIntoSeen, Index, SendsTo, or_no_places}
use Rattle.report_core.specs.declared.makers.EventPlace.{EventPlace}
use Rattle.report_core.proofs.Additions.{by_one_more, none_by_one}
use Rattle.report_core.proofs.SourcesFound.{come_from}
use Rattle.site_core.specs.ItemSets.{item_cmp}

module _ (G : BTreeSet Group → Pair → Type 0) where
  -- no transformation is gone through
  pub adds_plainly : (P : Pair → Type 0) (seen : BTreeSet Group) (Old New : Pair → Type 0) → AddsTo Old New P → AddsUnseen G P seen seen Old New
  adds_plainly P seen Old New adds = record {
    stay = λ q h. (adds q).1 (inl h);
    sound = λ q h. (adds q).0 h;
    complete = λ q h. inl ((adds q).1 (inr h));
    given = λ q h. inl h;
  }

  -- all that was added to nothing
  pub all_unseen_added : (P : Pair → Type 0) (seen seen' : BTreeSet Group) (none nodes : List Pair) → none ≡ [] → AddsUnseen G P seen seen' (Contains none) (Contains nodes) → AreUnseen P G seen seen' nodes
  all_unseen_added P seen seen' none nodes nothing adds = record {
    sound = λ q h. ⊎_elim (λ was. absurd (contains_none q (subst (λ xs. Contains xs q) nothing was))) (λ p. p) (adds.sound q h);
    complete = adds.complete;
    given = adds.given;
  }

  -- by none of a list yet
  pub starts_unseen : {Y : Type 0} (P : Y → Pair → Type 0) (ys : List Y) (seen : BTreeSet Group) (Old : Pair → Type 0) → AddsUnseen G (ByOne (take 0 ys) P) seen seen Old Old
  starts_unseen P ys seen Old = adds_none G (ByOne (take 0 ys) P) seen Old (none_by_one P (take 0 ys) (no_longer ys))
    where
      no_longer : {Y : Type 0} (ys : List Y) → length (take 0 ys) ≤ 0
      no_longer [] = omega arith
      no_longer (y ∷ ys) = omega arith

  module _ {Y : Type 0} (P : Y → Pair → Type 0) (ys : List Y) (i : ℕ) where
    pub more_unseen : (y : Y) → i < length ys → y ≡ get_or ys i y → (a b c : BTreeSet Group) (Start Old New : Pair → Type 0)
        → AddsUnseen G (ByOne (take i ys) P) a b Start Old → AddsUnseen G (P y) b c Old New → AddsUnseen G (ByOne (take (i + 1) ys) P) a c Start New
    more_unseen y below at a b c Start Old New before adds =
        adds_same G (λ q. ByOne (take i ys) P q ⊎ P y q) (ByOne (take (i + 1) ys) P) a c Start New (by_one_more P ys i y below at)
        (adds_both G (ByOne (take i ys) P) (P y) a b c Start Old New before adds)

    pub all_unseen : (a b : BTreeSet Group) (Start New : Pair → Type 0) → length ys ≤ i → AddsUnseen G (ByOne (take i ys) P) a b Start New → AddsUnseen G (ByOne ys P) a b Start New
    all_unseen a b Start New past adds = subst (λ zs. AddsUnseen G (ByOne zs P) a b Start New) (take_all i ys past) adds

-- no transformation was seen yet
pub none_seen_gives : (sites : List SiteEvents) (none : BTreeSet Group) → none.keys ≡ [] → (q : Pair) → GoesIntoSeen sites none q → ⊥
none_seen_gives sites none empty q (k, s, stands, first, there, goes) =
    false≢true (subst (λ ks. list_any (is_at (group_cmp (record { site = k; first = first }))) ks ≡ true) empty there)

-- two events of one id are parts of the same transformations
one_make_moves : (x e f : Content) (id : List ℕ) → make_id e.body ≡ Some id → make_id f.body ≡ Some id → AreOneMake x e → AreOneMake x f
one_make_moves x e f id own other one = ⊎_elim
    (λ same. inr (id, ap (λ (c : Content). make_id c.body) same ∙ own, other))
    (λ (same, first, second). inr (same, first, other ∙ sym own ∙ second))
    one

module _ (s : SiteEvents) where
  goes_alike : (j k : ℕ) (e f : Content) (id : List ℕ) → slice_get s.events j ≡ Some e → slice_get s.events k ≡ Some f → make_id e.body ≡ Some id → make_id f.body ≡ Some id → (q : Pair) → GoesInto s j q → GoesInto s k q
  goes_alike j k e f id stands stands' own other q (site, g, at, (n, x, below, here, (takes, one))) =
      let same : g ≡ e = some_is g e (sym at ∙ stands) in
      (site, f, stands', (n, x, below, here, (takes, one_make_moves x e f id own other (subst (AreOneMake x) same one))))

  -- into an event's transformation goes what goes into that of its first part
  pub goes_first : (place first : ℕ) (e : Content) → slice_get s.events place ≡ Some e → first ≡ first_of s.events place e.body → (q : Pair) → GoesInto s place q ↔ GoesInto s first q
  goes_first place first e stands is q =
      let (f, at, same) = first_stands s.events place e stands in
      by_id (make_id e.body) refl f (ap (slice_get s.events) is ∙ at) same
    where
      by_id : (id : Option (List ℕ)) → make_id e.body ≡ id → (f : Content) → slice_get s.events first ≡ Some f → make_id f.body ≡ make_id e.body → GoesInto s place q ↔ GoesInto s first q
      by_id None none f at same =
          let alone : first ≡ place = is ∙ first_alone s.events place e.body none in
          (subst (λ n. GoesInto s n q) (sym alone), subst (λ n. GoesInto s n q) alone)
      by_id (Some id) some f at same = (goes_alike place first e f id stands at some (same ∙ some) q, goes_alike first place f e id at stands (same ∙ some) some q)

module _ (sites : List SiteEvents) (at : ℕ) (place : EventPlace) (s : SiteEvents) (stands : slice_get sites place.site ≡ Some s) where
  one_site : (t : SiteEvents) → slice_get sites place.site ≡ Some t → t ≡ s
  one_site t there = some_is t s (sym there ∙ stands)

  -- the site is another one
  pub none_elsewhere : (s.me ≡ at → ⊥) → (q : Pair) → GoesIntoAt sites at place q → ⊥
  none_elsewhere other q (t, there, me, goes) = other (ap (λ (u : SiteEvents). u.me) (sym (one_site t there)) ∙ me)

  -- there is no event
  pub none_without_event : slice_get s.events place.event ≡ None → (q : Pair) → GoesIntoAt sites at place q → ⊥
  none_without_event none q (t, there, me, goes) = let (site, f, stands', any) = subst (λ (u : SiteEvents). GoesInto u place.event q) (one_site t there) goes in none_is f (sym none ∙ stands')

  module _ (first : ℕ) (e : Content) (stands_there : slice_get s.events place.event ≡ Some e) (is_first : first ≡ first_of s.events place.event e.body) (here : s.me ≡ at) where
    abbrev pub group : Group
    group = record { site = place.site; first = first }

    goes_into_first : (q : Pair) → GoesIntoAt sites at place q → GoesInto s first q
    goes_into_first q (t, there, me, goes) = (goes_first s place.event first e stands_there is_first q).0 (subst (λ (u : SiteEvents). GoesInto u place.event q) (one_site t there) goes)

    -- it is new: what goes into it is added
    pub new_group : (seen seen' : BTreeSet Group) (Old New : Pair → Type 0) → Sees seen seen' group → AddsTo Old New (GoesInto s first) → AddsUnseen (GoesIntoSeen sites) (GoesIntoAt sites at place) seen seen' Old New
    new_group seen seen' Old New sees adds = record {
      stay = λ q h. (adds q).1 (inl h);
      sound = λ q h. ⊎_elim
          (λ was. inl was)
          (λ goes. inr (s, stands, here, (goes_first s place.event first e stands_there is_first q).1 goes))
          ((adds q).0 h);
      complete = λ q h. inl ((adds q).1 (inr (goes_into_first q h)));
      given = λ q (k, t, there, n, found, goes). ⊎_elim
          (λ before. inl (k, t, there, n, before, goes))
          (λ same.
          let one : t ≡ s = one_site t (ap (λ (g : Group). slice_get sites g.site) same ∙ there) in
          inr ((adds q).1 (inr (subst (λ m. GoesInto s m q) (sym (ap (λ (g : Group). g.first) same)) (subst (λ (u : SiteEvents). GoesInto u n q) one goes)))))
          ((sees (record { site = k; first = n })).0 found);
    }

    -- it was seen before
    pub known_group : (seen seen' : BTreeSet Group) (Old : Pair → Type 0) → Sees seen seen' group → false ≡ not (contains group_cmp seen group) → AddsUnseen (GoesIntoSeen sites) (GoesIntoAt sites at place) seen seen' Old Old
    known_group seen seen' Old sees not_new =
        let known : IsSeen seen place.site first = is_true (contains group_cmp seen group) not_new in
        record {
          stay = λ q h. h;
          sound = λ q h. inl h;
          complete = λ q h. inr (place.site, s, stands, first, known, goes_into_first q h);
          given = λ q (k, t, there, n, found, goes). inl (k, t, there, n, ⊎_elim (λ before. before) (λ same. subst (IsFound group_cmp seen) same known) ((sees (record { site = k; first = n })).0 found), goes);
        }
      where
        is_true : (b : Bool) → false ≡ not b → b ≡ true
        is_true true h = refl
        is_true false h = absurd (false≢true h)

-- what a value was mapped from
pub mapped_from : {X : Type 0} (f : X → ℕ) (o : Option X) (n : ℕ) → Some n ≡ option_map f o → (x : X) × (o ≡ Some x) × (n ≡ f x)
mapped_from f None n is = none_is n (sym is)
mapped_from f (Some x) n is = (x, refl, some_is n (f x) is)

module _ (sites : List SiteEvents) (index : Index) (makers : AreMakers index sites) (p : Pair) (none sent : List Pair) (nothing : none ≡ []) (sends : AddsToList none sent (ByOne sites (SendsTo p))) where
  -- what was sent, and what was made by the transformations at the places of its item
  pub sources_found : (places : List EventPlace) → places ≡ or_no_places (get item_cmp index p.item) → (seen seen' : BTreeSet Group) (all : List Pair)
      → AddsUnseen (GoesIntoSeen sites) (ByOne places (GoesIntoAt sites p.site)) seen seen' (Contains sent) (Contains all) → AreUnseen (Converse (Related sites) p) (GoesIntoSeen sites) seen seen' all
  sources_found places are seen seen' all adds =
      let G = GoesIntoSeen sites in
      let made = ByOne (or_no_places (get item_cmp index p.item)) (GoesIntoAt sites p.site) in
      let adds' = subst (λ (ps : List EventPlace). AddsUnseen G (ByOne ps (GoesIntoAt sites p.site)) seen seen' (Contains sent) (Contains all)) are adds in
      all_unseen_added G (Converse (Related sites) p) seen seen' none all nothing
      (adds_same G (λ q. ByOne sites (SendsTo p) q ⊎ made q) (Converse (Related sites) p) seen seen' (Contains none) (Contains all) (come_from sites index makers p)
      (adds_both G (ByOne sites (SendsTo p)) made seen seen seen' (Contains none) (Contains sent) (Contains all) (adds_plainly G (ByOne sites (SendsTo p)) seen (Contains none) (Contains sent) sends) adds'))

  -- what was sent alone, where no transformation gives its item
  pub senders_found : [] ≡ or_no_places (get item_cmp index p.item) → (seen : BTreeSet Group) → AreUnseen (Converse (Related sites) p) (GoesIntoSeen sites) seen seen sent
  senders_found are seen =
      sources_found [] are seen seen sent (adds_none (GoesIntoSeen sites) (ByOne [] (GoesIntoAt sites p.site)) seen (Contains sent) (none_by_one (GoesIntoAt sites p.site) [] (omega arith)))
