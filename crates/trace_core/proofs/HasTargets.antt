-- Each related pair is in the list of targets.
use Rattle.std.proofs.Common.{ℕ, List, map, sym, subst, ⊎_elim}
use Rattle.std.specs.List.{Any, Contains, flat_map}
use Rattle.std.proofs.lemmas.List.Elements.{Contains-append_left, Contains-append_right}
use Rattle.event_json.specs.declared.bodies.Body.{Body}
use Rattle.event_json.specs.declared.bodies.Body.TheVariants.{Note, Ship, Make, Pack}
use Rattle.trace_core.specs.declared.pairs.Pair.{Pair}
use Rattle.trace_core.specs.Chains.{Related}
use Rattle.trace_core.specs.Numbers.{outs_in}
use Rattle.trace_core.specs.Pairs.{Ships, GivesOut, IsSentTo, IsRelated}
use Rattle.trace_core.specs.Sites.{SiteEvents}
use Rattle.trace_core.specs.Spreads.{items_of}
use Rattle.trace_core.specs.Targets.{sites_in, at_each_site, site_targets, all_targets}
use Rattle.trace_core.proofs.Carrying.{sent_named}
use Rattle.trace_core.proofs.Members.{contains-map, contains-flat_map}

goes_there : (b : Body) (item : List ℕ) (site : ℕ) → Ships item site b → Contains (sites_in b) site
goes_there (Note items) item site h = absurd h
goes_there (Ship items sites outside) item site (listed, goes) = goes
goes_there (Make id ins outs) item site h = absurd h
goes_there (Pack action parent children) item site h = absurd h

given_out : (b : Body) (item : List ℕ) → GivesOut item b → Contains (outs_in b) item
given_out (Note items) item h = absurd h
given_out (Ship items sites outside) item h = absurd h
given_out (Make id ins outs) item h = h
given_out (Pack action parent children) item h = absurd h

module _ (s : SiteEvents) where
  abbrev names : List (List ℕ)
  names = flat_map (λ e. items_of e.body) s.events

  abbrev outs : List (List ℕ)
  outs = flat_map (λ e. outs_in e.body) s.events

  abbrev sites : List ℕ
  sites = flat_map (λ e. sites_in e.body) s.events

  abbrev here : List ℕ → Pair
  here j = record { site = s.me; item = j }

  sent_target : (i : List ℕ) (t : ℕ) → IsSentTo s.events i t → Contains (site_targets s) (record { site = t; item = i })
  sent_target i t (carrier, (k, e, lt, at, ships), carried) =
      let (l, f, lt', at', named) = sent_named s.events i t (carrier, (k, e, lt, at, ships), carried) in
      Contains-append_left (flat_map (at_each_site s) names) (map here outs) (record { site = t; item = i })
      (contains-flat_map (at_each_site s) names i (record { site = t; item = i })
      (contains-flat_map (λ g. items_of g.body) s.events f i (l, lt', at') named)
      (contains-map (λ (u : ℕ). record { site = u; item = i }) sites t
      (contains-flat_map (λ g. sites_in g.body) s.events e t (k, lt, at) (goes_there e.body carrier t ships))))

  made_target : (j : List ℕ) → Any (λ e. GivesOut j e.body) s.events → Contains (site_targets s) (here j)
  made_target j (k, e, lt, at, gives) =
      Contains-append_right (flat_map (at_each_site s) names) (map here outs) (here j)
      (contains-map here outs j (contains-flat_map (λ g. outs_in g.body) s.events e j (k, lt, at) (given_out e.body j gives)))

pub site_has_target : (s : SiteEvents) (i : List ℕ) (q : Pair) → IsRelated s i q → Contains (site_targets s) q
site_has_target s i q h = ⊎_elim
    (λ (other, same, sent).
    subst (λ (j : List ℕ). Contains (site_targets s) (record { site = q.site; item = j })) (sym same) (sent_target s i q.site sent))
    (λ (own, (k, e, lt, at, (takes, (l, f, lt', at', (one, gives))))).
    subst (λ (n : ℕ). Contains (site_targets s) (record { site = n; item = q.item })) (sym own) (made_target s q.item (l, f, lt', at', gives)))
    h

pub has_targets : (sites : List SiteEvents) (p q : Pair) → Related sites p q → Contains (all_targets sites) q
unfolding all_targets
has_targets sites p q (k, s, lt, e, (same, related)) = contains-flat_map site_targets sites s q (k, lt, e) (site_has_target s p.item q related)
