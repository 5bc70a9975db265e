-- What a search gains from an item: the sites that it was shipped to, and what is made of it.
use Rattle.std.proofs.Common.{◌≡◌, ◌<◌, ◌≤◌, ◌+◌, ◌&&◌, ℕ, Bool, true, false, List, [], ◌++◌, Some, length, get_or, slice_get, ◌↔◌, refl, sym, ap, ◌∙◌, subst, ⊎_elim}
use mathlib.Core.Bool.{false≢true}
use Rattle.std.specs.BTreeSet.{BTreeSet}
use Rattle.std.proofs.lemmas.Bool.{and_parts}
use Rattle.std.proofs.lemmas.List.Elements.{Contains-append_cases}
use Rattle.event_json.specs.Events.{Content}
use Rattle.event_json.specs.declared.bodies.Body.{Body}
use Rattle.trace_core.specs.declared.groups.Group.{Group}
use Rattle.trace_core.specs.declared.nodes.Node.{Node}
use Rattle.trace_core.specs.Gathering.{sent_to}
use Rattle.trace_core.specs.Groups.{IsSeen, Sees, outs_of, IsGiven, made_at, IsSought}
use Rattle.trace_core.specs.Nodes.{Stands, Had, NotesNodes, NotesSent, Gains, destinations, sent_nodes, group_nodes}
use Rattle.trace_core.specs.Numbers.{numbered}
use Rattle.trace_core.specs.Pairs.{make_id, IsSentTo}
use Rattle.trace_core.specs.Places.{at_place, places_where, takes_item}
use Rattle.trace_core.specs.SiteSets.{has_site, sites_in}
use Rattle.trace_core.specs.Sites.{SiteEvents}
use Rattle.trace_core.proofs.GroupSteps.{makes, make_new, make_again, IsSent, SoFar, adds_same, adds_pairs, sent_added, place_added, places_added}
use Rattle.trace_core.proofs.Members.{contains_none}
use Rattle.trace_core.proofs.NodeSteps.{had_more, more_nodes, no_nodes}
use Rattle.trace_core.proofs.ShippedPlaces.{shipped_decides, sent_in}
use Rattle.trace_core.proofs.VisitSteps.{sent_stand, some_sent, group_stand, some_in_group}

-- shipments aren't asked for
pub unsent : (ships : Bool) (me : ℕ) (events : List Content) (site item : ℕ) (i : List ℕ) (nodes : List Node) → ships ≡ false → NotesSent ships me events site item i nodes nodes
unsent true me events site item i nodes is = absurd (false≢true (sym is))
unsent false me events site item i nodes is = record { sites = []; all = λ asked. absurd (false≢true asked); noted = no_nodes nodes }

-- they are
pub sent : (ships : Bool) (me : ℕ) (events : List Content) (site item : ℕ) (i : List ℕ) (old new : List Node) → ships ≡ true → (mask : ℕ) → ((t : ℕ) → has_site mask t ≡ true ↔ IsSentTo events i t) → NotesNodes old new (destinations me site item (sites_in mask))
    → NotesSent ships me events site item i old new
sent ships me events site item i old new is mask all noted = record {
  sites = sites_in mask;
  all = λ asked. sent_in mask (IsSentTo events i) all;
  noted = subst (λ (b : Bool). NotesNodes old new (sent_nodes b me site item (sites_in mask))) (sym is) noted;
}

-- what is gained from the transformation whose part stands at a place
abbrev pub GainsAt : ℕ → List Content → ℕ → ℕ → BTreeSet Group → BTreeSet Group → List Node → List Node → Type 0
GainsAt me events site k seen seen' old new =
    (sites : List SiteEvents) → slice_get sites site ≡ Some (record { me = me; events = events })
    → Gains (Stands sites) (λ groups q. IsGiven (record { me = me; events = events }) site groups q) (λ q. made_at me events k q ≡ true) seen seen' old new

module _ (me : ℕ) (events : List Content) (site k : ℕ) where
  module _ (e : Content) (stands : slice_get events k ≡ Some e) (seen seen' : BTreeSet Group) (first : ℕ)
      (stood_for : (j : List ℕ) → at_place (λ f. outs_of events j f.body) (slice_get events first) ≡ outs_of events j e.body) (upd : Sees seen seen' (record { site = site; first = first })) where
    abbrev own : SiteEvents
    own = record { me = me; events = events }

    -- it is new
    pub gains_group : (b : Body) → b ≡ e.body → (x y : List Node) → NotesNodes x y (group_nodes me events site k b (make_id b)) → GainsAt me events site k seen seen' x y
    gains_group b is x y made sites at_site =
        let group = group_nodes me events site k e.body (make_id e.body) in
        let noted : NotesNodes x y group = subst (λ (d : Body). NotesNodes x y (group_nodes me events site k d (make_id d))) is made in
        record {
          nodes = group;
          noted = noted;
          stand = λ n h. some_in_group sites own site at_site k e.body (make_id e.body) n h;
          added = make_new own e k site stands seen seen' (Had (Stands sites) x) first stood_for upd (Had (Stands sites) y)
              (had_more (Stands sites) x y group (makes own e) noted (group_stand sites own site at_site k e stands (make_id e.body) refl));
        }

    -- it was seen before
    pub gains_again : IsSeen seen site first → (nodes : List Node) → GainsAt me events site k seen seen' nodes nodes
    gains_again there nodes sites at_site = record {
      nodes = [];
      noted = no_nodes nodes;
      stand = λ n h. absurd (contains_none n h);
      added = make_again own e k site stands seen seen' (Had (Stands sites) nodes) first stood_for upd there;
    }

-- what is said of a site's number and events is said of the site
same_site : (me : ℕ) (events : List Content) (s : SiteEvents) → me ≡ s.me → events ≡ s.events → record { me = me; events = events } ≡ s
same_site me events s is are = ap (λ (m : ℕ). record { me = m; events = events }) is ∙ ap (λ (es : List Content). record { me = s.me; events = es }) are

-- the places are those of the transformations that take the item in, if there is one of the number
abbrev pub AreTakersOf : List Content → ℕ → List ℕ → Type 0
AreTakersOf events item places = (i : List ℕ) → slice_get (numbered events) item ≡ Some i → places ≡ places_where (takes_item i) events

-- an item is noted at the sites that it was shipped to, if there is one of the number
abbrev pub AreSentFrom : Bool → ℕ → List Content → ℕ → ℕ → List Node → List Node → Type 0
AreSentFrom ships me events site item old new = (i : List ℕ) → slice_get (numbered events) item ≡ Some i → NotesSent ships me events site item i old new

module _ (ships : Bool) (s : SiteEvents) (site item : ℕ) (places : List ℕ) where
  -- the sites, and the transformations at the first so many places
  abbrev pub GainsSoFar : ℕ → BTreeSet Group → BTreeSet Group → List Node → List Node → Type 0
  GainsSoFar n seen seen' old new =
      (sites : List SiteEvents) (i : List ℕ) → slice_get sites site ≡ Some s → slice_get (numbered s.events) item ≡ Some i
      → Gains (Stands sites) (λ groups q. IsGiven s site groups q) (SoFar ships s i site places n) seen seen' old new

  -- the sites alone
  pub gains_sent : (me : ℕ) (events : List Content) (seen : BTreeSet Group) (x y : List Node) → me ≡ s.me → events ≡ s.events → AreSentFrom ships me events site item x y → GainsSoFar 0 seen seen x y
  gains_sent me events seen x y is are sent sites i at_site so =
      let own = subst (λ (t : SiteEvents). AreSentFrom ships t.me t.events site item x y) (same_site me events s is are) sent i so in
      let nodes = sent_nodes ships s.me site item own.sites in
      record {
        nodes = nodes;
        noted = own.noted;
        stand = some_sent sites s site at_site item i so ships own.sites;
        added = sent_added ships s i site places seen seen (Had (Stands sites) x) (Had (Stands sites) y)
            (adds_same (λ groups q. IsGiven s site groups q) (λ q. (ships && sent_to s.me i own.sites q) ≡ true) (IsSent ships s i site) seen seen (Had (Stands sites) x) (Had (Stands sites) y)
            (λ q. (
              λ h. let (asked, sent) = and_parts ships (sent_to s.me i own.sites q) h in (asked, (shipped_decides s i own.sites (own.all asked) q).0 sent),
              λ (asked, shipped). ap (λ b. b && sent_to s.me i own.sites q) asked ∙ (shipped_decides s i own.sites (own.all asked) q).1 shipped,
            ))
            (adds_pairs (λ groups q. IsGiven s site groups q) (λ q. ships && sent_to s.me i own.sites q) seen (Had (Stands sites) x) (Had (Stands sites) y)
            (had_more (Stands sites) x y nodes (λ q. ships && sent_to s.me i own.sites q) own.noted (sent_stand sites s site at_site item i so ships own.sites))));
      }

  -- one place more
  pub one_place : (n k me : ℕ) (events : List Content) (a b c : BTreeSet Group) (x y z : List Node) → n < length places → k ≡ get_or places n k → me ≡ s.me → events ≡ s.events
      → GainsSoFar n a b x y → GainsAt me events site k b c y z → GainsSoFar (n + 1) a c x z
  one_place n k me events a b c x y z below at is are so_far now sites i at_site so =
      let one = so_far sites i at_site so in
      let two = now sites (at_site ∙ ap Some (sym (same_site me events s is are))) in
      record {
        nodes = one.nodes ++ two.nodes;
        noted = more_nodes x y z one.nodes two.nodes one.noted two.noted;
        stand = λ m h. ⊎_elim (one.stand m) (two.stand m) (Contains-append_cases one.nodes two.nodes m h);
        added = place_added ships s i site places n k me events a b c (Had (Stands sites) x) (Had (Stands sites) y) (Had (Stands sites) z) below at is are one.added two.added;
      }

  -- all places
  pub all_places : (n : ℕ) (events : List Content) (a b : BTreeSet Group) (x y : List Node) → length places ≤ n → events ≡ s.events → AreTakersOf events item places → GainsSoFar n a b x y
      → (sites : List SiteEvents) (i : List ℕ) → slice_get sites site ≡ Some s → slice_get (numbered s.events) item ≡ Some i → Gains (Stands sites) (λ groups q. IsGiven s site groups q) (λ q. IsSought ships s i q) a b x y
  all_places n events a b x y past are those so_far sites i at_site so =
      let here : slice_get (numbered events) item ≡ Some i = ap (λ (es : List Content). slice_get (numbered es) item) are ∙ so in
      let one = so_far sites i at_site so in
      record {
        nodes = one.nodes;
        noted = one.noted;
        stand = one.stand;
        added = places_added ships s i site places n a b (Had (Stands sites) x) (Had (Stands sites) y) past
            (those i here ∙ ap (λ (es : List Content). places_where (takes_item i) es) are) one.added;
      }
