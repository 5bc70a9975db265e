-- The pairs that one more event relates an item to, and that nothing related it to before.
use Rattle.std.proofs.Common.{◌≡◌, ◌≢◌, ◌↔◌, ℕ, List, [], ◌∷◌, ◌++◌, Option, refl, sym, subst, inl, inr, ⊎_elim}
use Rattle.std.specs.BTreeSet.{BTreeSet}
use Rattle.std.specs.List.{Any, Contains}
use Rattle.std.proofs.lemmas.Map.Views.{btree_set_contains_iff}
use Rattle.event_json.specs.Events.{Content}
use Rattle.event_json.specs.declared.bodies.Body.{Body}
use Rattle.event_json.specs.declared.bodies.Body.TheVariants.{Note, Ship, Make, Pack}
use Rattle.trace_core.specs.declared.pairs.Pair.{Pair}
use Rattle.trace_core.specs.Carried.{GoTo}
use Rattle.trace_core.specs.Pairs.{pair_cmp, TakesIn, GivesOut, AreOneMake, IsSentTo, IsMade}
use Rattle.trace_core.specs.Searches.{IsFound}
use Rattle.trace_core.specs.Sendings.{IsNewlySent}
use Rattle.trace_core.specs.Sites.{SiteEvents}
use Rattle.trace_core.specs.Spreads.{with_event, IsNewlyMade, IsNewTarget}
use Rattle.trace_core.proofs.Carrying.{earlier, sent_with}
use Rattle.trace_core.proofs.PairOrder.{pairs_total, pairs_exact}

-- the keys of a set of what is newly made
pub made_listed : (s : SiteEvents) (e : Content) (i : List ℕ) (set : BTreeSet Pair) (pairs : List Pair)
    → pairs ≡ set.keys → ((q : Pair) → IsFound pair_cmp set q ↔ IsNewlyMade s e i q) → (q : Pair)
    → Contains pairs q ↔ IsNewlyMade s e i q
made_listed s e i set pairs keys is q =
    let both = btree_set_contains_iff pairs_total pairs_exact set q in
    subst (λ ps. Contains ps q ↔ IsNewlyMade s e i q) (sym keys) (λ h. (is q).0 (both.1 h), λ made. both.0 ((is q).1 made))

-- ---- an event that makes nothing

abbrev pub IsNoMake : Body → Type 0
IsNoMake b = (id : Option (List ℕ)) (ins outs : List (List ℕ)) → b ≡ Make id ins outs → ⊥

takes_nothing : (i : List ℕ) (b : Body) → IsNoMake b → TakesIn i b → ⊥
takes_nothing i (Note items) none h = h
takes_nothing i (Ship items sites outside) none h = h
takes_nothing i (Make id ins outs) none h = none id ins outs refl
takes_nothing i (Pack action parent children) none h = h

gives_nothing : (i : List ℕ) (b : Body) → IsNoMake b → GivesOut i b → ⊥
gives_nothing i (Note items) none h = h
gives_nothing i (Ship items sites outside) none h = h
gives_nothing i (Make id ins outs) none h = none id ins outs refl
gives_nothing i (Pack action parent children) none h = h

module _ (s : SiteEvents) (e : Content) (i : List ℕ) (q : Pair) where
  made_before : IsNoMake e.body → IsMade (with_event s e) i q → IsMade s i q
  made_before none (here, made) = (
    here,
    ⊎_elim
        (λ (k, f, lt, at, (takes, gives)). (
          k,
          f,
          lt,
          at,
          (
            takes,
            ⊎_elim
                (λ before. before)
                (λ (one, out). absurd (gives_nothing q.item e.body none out))
                (earlier s.events e (λ g. AreOneMake f g × GivesOut q.item g.body) gives),
          ),
        ))
        (λ (takes, gives). absurd (takes_nothing i e.body none takes))
        (earlier s.events e (λ f. TakesIn i f.body × Any (λ g. AreOneMake f g × GivesOut q.item g.body) (s.events ++ e ∷ [])) made),
  )

  -- relates just what it newly sends
  pub sent_targets : IsNoMake e.body
      → IsNewTarget s e i q ↔ ((q.site ≢ s.me) × (q.item ≡ i) × IsNewlySent s.events e i q.site)
  sent_targets none = (
    λ (related, new). ⊎_elim
        (λ (other, same, sent). (other, same, (sent, λ before. new (inl (other, same, before)))))
        (λ made. absurd (new (inr (made_before none made))))
        related,
    λ (other, same, (sent, new)). (inl (other, same, sent), λ related. ⊎_elim (λ shipped. new shipped.2) (λ made. other made.0) related),
  )

  -- ---- a transformation

  goes_nowhere : (b : Body) (id : Option (List ℕ)) (ins outs : List (List ℕ)) (t : ℕ) → b ≡ Make id ins outs
      → GoTo s.events b t → ⊥
  goes_nowhere b id ins outs t is to = subst (λ c. GoTo s.events c t) is to

  -- sends nothing
  sent_before : (id : Option (List ℕ)) (ins outs : List (List ℕ)) → e.body ≡ Make id ins outs
      → IsSentTo (s.events ++ e ∷ []) i q.site → IsSentTo s.events i q.site
  sent_before id ins outs is sent = ⊎_elim
      (λ before. before)
      (λ sends. absurd (goes_nowhere e.body id ins outs q.site is sends.0))
      (sent_with s.events e i q.site sent)

  -- and relates just what it newly makes
  pub made_targets : (id : Option (List ℕ)) (ins outs : List (List ℕ)) → e.body ≡ Make id ins outs
      → IsNewTarget s e i q ↔ IsNewlyMade s e i q
  made_targets id ins outs is = (
    λ (related, new). ⊎_elim
        (λ (other, same, sent). absurd (new (inl (other, same, sent_before id ins outs is sent))))
        (λ made. (made, λ before. new (inr before)))
        related,
    λ (made, new). (inr made, λ related. ⊎_elim (λ shipped. shipped.0 made.0) (λ before. new before) related),
  )
