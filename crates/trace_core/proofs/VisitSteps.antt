-- The nodes that an event's items lead to.
use Rattle.std.proofs.Common.{◌≡◌, ◌==◌, ℕ, Bool, true, false, not, ◌&&◌, List, Option, None, Some, filter, length, slice_get, unwrap_or, ◌↔◌, refl, sym, ap, ◌∙◌, subst}
use mathlib.Core.Bool.{false≢true}
use Rattle.std.specs.List.{flat_map, list_any, Contains}
use Rattle.std.proofs.lemmas.Bool.{and_parts, eqb-true, eq-eqb}
use Rattle.std.proofs.lemmas.List.{length-map}
use Rattle.std.proofs.lemmas.Option.{slice_get-get_or}
use Rattle.std.proofs.lemmas.Slice.Eq.{bytes_eq-Decides}
use Rattle.event_json.specs.Events.{Content}
use Rattle.event_json.specs.declared.bodies.Body.{Body}
use Rattle.event_json.specs.declared.bodies.Body.TheVariants.{Note, Ship, Make, Pack}
use Rattle.trace_core.specs.declared.nodes.Node.{Node}
use Rattle.trace_core.specs.declared.pairs.Pair.{Pair}
use Rattle.trace_core.specs.Gathering.{sent_to}
use Rattle.trace_core.specs.Groups.{outs_of, parts_of, outputs_at}
use Rattle.trace_core.specs.Nodes.{Stands, sent_nodes, made_nodes, part_nodes, group_nodes}
use Rattle.trace_core.specs.Numbers.{number_in, numbered, numbers_of, outs_in, outs_at}
use Rattle.trace_core.specs.Pairs.{make_id}
use Rattle.trace_core.specs.PairTests.{lists, same_item, gives_out, same_id}
use Rattle.trace_core.specs.Places.{at_place, places_where}
use Rattle.trace_core.specs.Sites.{SiteEvents}
use Rattle.trace_core.specs.Spreads.{output_count}
use Rattle.trace_core.proofs.GroupSteps.{outs_joined, outs_alone}
use Rattle.trace_core.proofs.IndexSteps.{outs_numbered}
use Rattle.trace_core.proofs.Members.{contains_none, contains-map, contains-flat_map, list_any_witness, list_any_member}
use Rattle.trace_core.proofs.NodeSteps.{StandFor}
use Rattle.trace_core.proofs.NumberLists.{some_is, number_or}
use Rattle.trace_core.proofs.PairTestsDecide.{lists_decides}
use Rattle.trace_core.proofs.PlaceLists.{contains-filter, contains-from_filter, place_passes}
use Rattle.trace_core.proofs.RelatedPlaces.{slice_there, joined_in_parts}
use Rattle.trace_core.proofs.SetMembers.{contains-from_map, contains-from_flat_map}

given_out : (b : Body) (j : List ℕ) → gives_out j b ≡ lists (outs_in b) j
given_out (Note items) j = refl
given_out (Pack action parent children) j = refl
given_out (Ship items sites outside) j = refl
given_out (Make id ins outs) j = refl

module _ (sites : List SiteEvents) (s : SiteEvents) (site : ℕ) (at_site : slice_get sites site ≡ Some s) where
  -- a node of the site stands for its item
  pub stood : (n : Node) (q : Pair) → n.site ≡ site → Stands sites n q → (slice_get (numbered s.events) n.item ≡ Some q.item) × (q.site ≡ n.at)
  stood n q own (t, at, item, place) =
      let same : t ≡ s = some_is t s (sym at ∙ ap (slice_get sites) own ∙ at_site) in
      (subst (λ (u : SiteEvents). slice_get (numbered u.events) n.item ≡ Some q.item) same item, place)

  pub standing : (item at : ℕ) (j : List ℕ) → slice_get (numbered s.events) item ≡ Some j → Stands sites (record { site = site; item = item; at = at }) (record { site = at; item = j })
  standing item at j is = (s, at_site, is, refl)

  -- the items that an event makes
  pub made_stand : (k : ℕ) (e : Content) → slice_get s.events k ≡ Some e → StandFor (Stands sites) (part_nodes s.me s.events site k) (λ q. q.site == s.me && gives_out q.item e.body)
  made_stand k e stands q =
      let part : part_nodes s.me s.events site k ≡ made_nodes s.me site (numbers_of (numbered s.events) (outs_in e.body)) = ap (λ o. made_nodes s.me site (outs_at s.events o)) stands in (
        λ (n, there, stand).
            let (i, in', is) = contains-from_map (λ i. record { site = site; item = i; at = s.me }) (numbers_of (numbered s.events) (outs_in e.body)) n (subst (λ ns. Contains ns n) part there) in
            let (j, out, number) = contains-from_map (λ j. unwrap_or (number_in (numbered s.events) j) 0) (outs_in e.body) i in' in
            let (item, place) = stood n q (ap (λ (m : Node). m.site) (sym is)) stand in
            let same : j ≡ q.item = some_is j q.item (sym (number_or (numbered s.events) j (outs_numbered s.events k e stands j out)) ∙ ap (slice_get (numbered s.events)) (number ∙ ap (λ (m : Node). m.item) is) ∙ item) in
            ap (λ b. b && gives_out q.item e.body) (eq-eqb q.site s.me (place ∙ ap (λ (m : Node). m.at) (sym is)))
            ∙ given_out e.body q.item ∙ (lists_decides (outs_in e.body) q.item).1 (subst (Contains (outs_in e.body)) same out),
        λ passes.
            let (own, gives) = and_parts (q.site == s.me) (gives_out q.item e.body) passes in
            let out = (lists_decides (outs_in e.body) q.item).0 (sym (given_out e.body q.item) ∙ gives) in
            let number = unwrap_or (number_in (numbered s.events) q.item) 0 in (
              record { site = site; item = number; at = s.me },
              subst (λ ns. Contains ns (record { site = site; item = number; at = s.me })) (sym part)
                  (contains-map (λ i. record { site = site; item = i; at = s.me }) (numbers_of (numbered s.events) (outs_in e.body)) number
                  (contains-map (λ j. unwrap_or (number_in (numbered s.events) j) 0) (outs_in e.body) q.item out)),
              (s, at_site, number_or (numbered s.events) q.item (outs_numbered s.events k e stands q.item out), eqb-true q.site s.me own),
            ),
      )

  pub some_made : (k : ℕ) (n : Node) → Contains (part_nodes s.me s.events site k) n → (q : Pair) × Stands sites n q
  some_made k n there = at (slice_get s.events k) refl there
    where
      at : (o : Option Content) → slice_get s.events k ≡ o → Contains (made_nodes s.me site (outs_at s.events o)) n → (q : Pair) × Stands sites n q
      at None none h = absurd (contains_none n h)
      at (Some e) stands h =
          let (i, in', is) = contains-from_map (λ i. record { site = site; item = i; at = s.me }) (numbers_of (numbered s.events) (outs_in e.body)) n h in
          let (j, out, number) = contains-from_map (λ j. unwrap_or (number_in (numbered s.events) j) 0) (outs_in e.body) i in' in
          (record { site = s.me; item = j }, subst (λ m. Stands sites m (record { site = s.me; item = j })) is (standing i s.me j (ap (slice_get (numbered s.events)) (sym number) ∙ number_or (numbered s.events) j (outs_numbered s.events k e stands j out))))

  -- the places of events that pass a test, with what they make
  parts_stand : (p : Content → Bool) → StandFor (Stands sites) (flat_map (λ k. part_nodes s.me s.events site k) (places_where p s.events)) (λ q. q.site == s.me && list_any (λ k. at_place (λ e. gives_out q.item e.body) (slice_get s.events k)) (places_where p s.events))
  parts_stand p q = (
    λ (n, there, stand).
        let (k, in', at) = contains-from_flat_map (λ k. part_nodes s.me s.events site k) (places_where p s.events) n there in
        let (e, below, here, passes) = place_passes p s.events k in' in
        let stands : slice_get s.events k ≡ Some e = slice_get-get_or s.events k e below ∙ ap Some here in
        let (own, gives) = and_parts (q.site == s.me) (gives_out q.item e.body) ((made_stand k e stands q).0 (n, at, stand)) in
        ap (λ b. b && list_any (λ k. at_place (λ e. gives_out q.item e.body) (slice_get s.events k)) (places_where p s.events)) own
        ∙ list_any_member (λ k. at_place (λ e. gives_out q.item e.body) (slice_get s.events k)) (places_where p s.events) k in' (ap (at_place (λ e. gives_out q.item e.body)) stands ∙ gives),
    λ passes.
        let (own, any) = and_parts (q.site == s.me) (list_any (λ k. at_place (λ e. gives_out q.item e.body) (slice_get s.events k)) (places_where p s.events)) passes in
        let (k, in', at) = list_any_witness (λ k. at_place (λ e. gives_out q.item e.body) (slice_get s.events k)) (places_where p s.events) any in
        let (e, below, here, passed) = place_passes p s.events k in' in
        let stands : slice_get s.events k ≡ Some e = slice_get-get_or s.events k e below ∙ ap Some here in
        let gives : gives_out q.item e.body ≡ true = sym (ap (at_place (λ e. gives_out q.item e.body)) stands) ∙ at in
        let (n, there, stand) = (made_stand k e stands q).1 (ap (λ b. b && gives_out q.item e.body) own ∙ gives) in
        (n, contains-flat_map (λ k. part_nodes s.me s.events site k) (places_where p s.events) k n in' there, stand),
  )

  -- all that a transformation makes
  pub group_stand : (k : ℕ) (e : Content) → slice_get s.events k ≡ Some e → (o : Option (List ℕ)) → make_id e.body ≡ o → (q : Pair) → ((n : Node) × Contains (group_nodes s.me s.events site k e.body o) n × Stands sites n q) ↔ ((q.site == s.me && outs_of s.events q.item e.body) ≡ true)
  group_stand k e stands None id q =
      let is : outs_of s.events q.item e.body ≡ gives_out q.item e.body = outs_alone s.events q.item e.body id in
      let own = made_stand k e stands q in
      (λ h. ap (λ b. q.site == s.me && b) is ∙ own.0 h, λ h. own.1 (sym (ap (λ b. q.site == s.me && b) is) ∙ h))
  group_stand k e stands (Some id) is_id q =
      let (below, at) = slice_there s.events k e stands in
      let is : outs_of s.events q.item e.body ≡ list_any (λ k. at_place (λ e. gives_out q.item e.body) (slice_get s.events k)) (parts_of s.events e.body) =
      outs_joined s.events q.item e id (k, below, at) is_id ∙ sym (joined_in_parts s.events e.body q.item) in
      let own = parts_stand (λ f. same_id (make_id f.body) (make_id e.body)) q in
      (λ h. ap (λ b. q.site == s.me && b) is ∙ own.0 h, λ h. own.1 (sym (ap (λ b. q.site == s.me && b) is) ∙ h))

  pub some_in_group : (k : ℕ) (b : Body) (o : Option (List ℕ)) (n : Node) → Contains (group_nodes s.me s.events site k b o) n → (q : Pair) × Stands sites n q
  some_in_group k b None n h = some_made k n h
  some_in_group k b (Some id) n h = let (j, in', at) = contains-from_flat_map (λ k. part_nodes s.me s.events site k) (parts_of s.events b) n h in some_made j n at

  module _ (item : ℕ) (i : List ℕ) (numbered_so : slice_get (numbered s.events) item ≡ Some i) where
    pub some_sent : (ships : Bool) (to : List ℕ) (n : Node) → Contains (sent_nodes ships s.me site item to) n → (q : Pair) × Stands sites n q
    some_sent false to n h = absurd (contains_none n h)
    some_sent true to n h =
        let (t, in', is) = contains-from_map (λ t. record { site = site; item = item; at = t }) (filter (λ t. not (t == s.me)) to) n h in
        (record { site = t; item = i }, subst (λ m. Stands sites m (record { site = t; item = i })) is (standing item t i numbered_so))

    -- the sites that the item was shipped to
    pub sent_stand : (ships : Bool) (to : List ℕ) → StandFor (Stands sites) (sent_nodes ships s.me site item to) (λ q. ships && sent_to s.me i to q)
    sent_stand false to q = (λ (n, h, stand). absurd (contains_none n h), λ h. absurd (false≢true h))
    sent_stand true to q = (
      λ (n, h, stand).
          let (t, in', is) = contains-from_map (λ t. record { site = site; item = item; at = t }) (filter (λ t. not (t == s.me)) to) n h in
          let (among, other) = contains-from_filter (λ t. not (t == s.me)) to t in' in
          let (its, place) = stood n q (ap (λ (m : Node). m.site) (sym is)) stand in
          let there : q.site ≡ t = place ∙ ap (λ (m : Node). m.at) (sym is) in
          let same : i ≡ q.item = some_is i q.item (sym numbered_so ∙ ap (slice_get (numbered s.events)) (ap (λ (m : Node). m.item) is) ∙ its) in
          both_true (ap (λ m. not (m == s.me)) there ∙ other)
          (both_true (list_any_member (λ m. m == q.site) to t among (eq-eqb t q.site (sym there))) ((bytes_eq-Decides i q.item).1 same)),
      λ passes.
          let (other, rest) = and_parts (not (q.site == s.me)) (list_any (λ m. m == q.site) to && same_item i q.item) passes in
          let (any, same) = and_parts (list_any (λ m. m == q.site) to) (same_item i q.item) rest in
          let (t, among, is) = list_any_witness (λ m. m == q.site) to any in
          let there : t ≡ q.site = eqb-true t q.site is in (
            record { site = site; item = item; at = t },
            contains-map (λ t. record { site = site; item = item; at = t }) (filter (λ t. not (t == s.me)) to) t (contains-filter (λ t. not (t == s.me)) to t among (ap (λ m. not (m == s.me)) there ∙ other)),
            (s, at_site, numbered_so ∙ ap Some ((bytes_eq-Decides i q.item).0 same), sym there),
          ),
    )
      where
        both_true : {a b : Bool} → a ≡ true → b ≡ true → (a && b) ≡ true
        both_true {a} {b} first second = ap (λ c. c && b) first ∙ second

counted : (b : Body) → length (outs_in b) ≡ output_count b
counted (Note items) = refl
counted (Pack action parent children) = refl
counted (Ship items sites outside) = refl
counted (Make id ins outs) = refl

-- as many numbers as outputs
pub outs_counted : (events : List Content) (o : Option Content) → length (outs_at events o) ≡ outputs_at o
outs_counted events None = refl
outs_counted events (Some e) = length-map (outs_in e.body) (λ i. unwrap_or (number_in (numbered events) i) 0) ∙ counted e.body

-- the nodes of all parts of a transformation, and of one that has no id
pub parts_of_group : (me : ℕ) (events : List Content) (site place : ℕ) (b : Body) (id : List ℕ) (places : List ℕ) → make_id b ≡ Some id → places ≡ parts_of events b → flat_map (λ k. part_nodes me events site k) places ≡ group_nodes me events site place b (make_id b)
parts_of_group me events site place b id places is are = ap (flat_map (λ k. part_nodes me events site k)) are ∙ ap (group_nodes me events site place b) (sym is)

pub group_alone : (me : ℕ) (events : List Content) (site place : ℕ) (b : Body) → make_id b ≡ None → part_nodes me events site place ≡ group_nodes me events site place b (make_id b)
group_alone me events site place b is = ap (group_nodes me events site place b) (sym is)
