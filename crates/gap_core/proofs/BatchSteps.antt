-- The lists of a site's shipments, by where they go.
use Rattle.std.proofs.Common.{◌≡◌, ◌≢◌, ◌↔◌, inl, inr, ℕ, ◌+◌, ◌<◌, ◌≤◌, ◌∙◌, List, [], ◌∷◌, ◌++◌, Option, None, Some, refl, sym, subst, ⊎_elim, arith}
use mathlib.Core.Logic.{◌⊎◌}
use Rattle.std.specs.BTreeMap.{IsOrdered, get}
use Rattle.std.specs.List.{Contains}
use Rattle.std.proofs.lemmas.Bool.{cases_lt}
use Rattle.std.proofs.lemmas.Cmp.{nat_list_cmp_total}
use Rattle.std.proofs.lemmas.Map.Views.{btree_map_get_iff}
use Rattle.event_json.specs.Events.{Content}
use Rattle.event_json.specs.declared.bodies.Body.{Body}
use Rattle.event_json.specs.declared.bodies.Body.TheVariants.{Ship}
use Rattle.trace_core.specs.Gaps.{Place, IsElsewhere}
use Rattle.trace_core.specs.Sites.{SiteEvents}
use Rattle.trace_core.proofs.Gathered.{FromSome}
use Rattle.trace_core.proofs.Members.{contains_none}
use Rattle.trace_core.proofs.SetMembers.{contains_pushed}
use Rattle.gap_core.specs.Batches.{AddsBatch, AddsOutside, AreAllBatches, AreOutside, Outside, or_no_places}
use Rattle.gap_core.specs.Shipments.{ArePlacesTo, GoesAt, GoesToSite}
use Rattle.gap_core.specs.Sources.{item_cmp}
use Rattle.gap_core.proofs.SourceLists.{item_exact}

-- nothing is added for the own site
pub own_batch : (s : SiteEvents) (to : ℕ) (old : List (List ℕ)) → to ≡ s.me → AddsBatch s (inl to) old old
own_batch s to old own = record {
  kept = λ places h. h;
  sound = λ places h. inl h;
  complete = λ elsewhere k goes. absurd (elsewhere own);
}

pub batch_added : (s : SiteEvents) (to : ℕ) (old new : List (List ℕ)) (places : List ℕ) → (to ≡ s.me → ⊥) → ArePlacesTo s.events (inl to) places → new ≡ old ++ places ∷ []
    → AddsBatch s (inl to) old new
batch_added s to old new places other are is = record {
  kept = λ xs h. subst (λ ys. Contains ys xs) (sym is) ((contains_pushed old places xs).1 (inl h));
  sound = λ xs h. ⊎_elim
      (λ was. inl was)
      (λ same. inr (other, subst (ArePlacesTo s.events (inl to)) same are))
      ((contains_pushed old places xs).0 (subst (λ ys. Contains ys xs) is h));
  complete = λ elsewhere k goes. (places, subst (λ ys. Contains ys places) (sym is) ((contains_pushed old places places).1 (inr refl)), are);
}

-- the sites of lower numbers are done
pub record HasBatches (s : SiteEvents) (n : ℕ) (batches : List (List ℕ)) : Type 0 where
  pub sound : (places : List ℕ) → Contains batches places → (to : Place) × IsElsewhere s to × ArePlacesTo s.events to places
  pub complete : (t : ℕ) → t < n → t ≢ s.me → (k : ℕ) → GoesAt s.events (inl t) k
      → (places : List ℕ) × Contains batches places × ArePlacesTo s.events (inl t) places

pub no_batches : (s : SiteEvents) (batches : List (List ℕ)) → batches ≡ [] → HasBatches s 0 batches
no_batches s batches none = record {
  sound = λ places h. absurd (contains_none places (subst (λ xs. Contains xs places) none h));
  complete = λ t below. absurd (nothing t below);
}
  where
    nothing : (t : ℕ) → t < 0 → ⊥
    nothing t below = omega (arith, below)

pub one_more_batch : (s : SiteEvents) (n : ℕ) (old new : List (List ℕ)) → HasBatches s n old → AddsBatch s (inl n) old new → HasBatches s (n + 1) new
one_more_batch s n old new has adds = record {
  sound = λ places h. ⊎_elim (λ was. has.sound places was) (λ (elsewhere, are). (inl n, elsewhere, are)) (adds.sound places h);
  complete = λ t below other k goes. ⊎_elim
      (λ sooner. let (places, there, are) = has.complete t sooner other k goes in (places, adds.kept places there, are))
      (λ past. let here : n ≡ t = omega (arith, below, past) in last t here other k goes)
      (cases_lt t n);
}
  where
    last : (t : ℕ) → n ≡ t → t ≢ s.me → (k : ℕ) → GoesAt s.events (inl t) k → (places : List ℕ) × Contains new places × ArePlacesTo s.events (inl t) places
    last t here other k goes =
        let (places, there, are) = adds.complete (λ own. other (sym here ∙ own)) k (subst (λ j. GoesAt s.events (inl j) k) (sym here) goes) in
        (places, there, subst (λ j. ArePlacesTo s.events (inl j) places) here are)

-- ---- places outside

-- each list of the map
abbrev pub IsListOf : List ℕ × List ℕ → List ℕ → Type 0
IsListOf e places = e.1 ≡ places

pub outside_added : (events : List Content) (outside : Outside) (old new : List (List ℕ)) → IsOrdered item_cmp outside → AreOutside events outside
    → ((places : List ℕ) → Contains new places ↔ (Contains old places ⊎ FromSome IsListOf outside.entries places)) → AddsOutside events old new
outside_added events outside old new ordered are adds = record {
  kept = λ places h. (adds places).1 (inl h);
  sound = λ places h. ⊎_elim
      (λ was. inl was)
      (λ (e, there, same). inr (e.0, listed e.0 places (looked e there ∙ some_same e.1 places same)))
      ((adds places).0 h);
  complete = λ text k goes. found text k goes (get item_cmp outside text) refl;
}
  where
    some_same : (xs ys : List ℕ) → xs ≡ ys → Some xs ≡ Some ys
    some_same xs ys same = λ k. Some (same k)

    looked : (e : List ℕ × List ℕ) → Contains outside.entries e → get item_cmp outside e.0 ≡ Some e.1
    looked e there = (btree_map_get_iff nat_list_cmp_total item_exact outside ordered e.0 e.1).1 there

    listed : (text places : List ℕ) → get item_cmp outside text ≡ Some places → ArePlacesTo events (inr text) places
    listed text places so k = (
      λ h. (are (text, k)).0 (subst (λ o. Contains (or_no_places o) k) (sym so) h),
      λ goes. subst (λ o. Contains (or_no_places o) k) so ((are (text, k)).1 goes),
    )

    found : (text : List ℕ) (k : ℕ) → GoesAt events (inr text) k → (o : Option (List ℕ)) → get item_cmp outside text ≡ o
        → (places : List ℕ) × Contains new places × ArePlacesTo events (inr text) places
    found text k goes None so = absurd (contains_none k (subst (λ o. Contains (or_no_places o) k) so ((are (text, k)).1 goes)))
    found text k goes (Some places) so =
        (places, (adds places).1 (inr ((text, places), (btree_map_get_iff nat_list_cmp_total item_exact outside ordered text places).0 so, refl)), listed text places so)

-- all of them
pub all_batches : (s : SiteEvents) (n : ℕ) (sites all ordered : List (List ℕ)) → 16 ≤ n → ((k t : ℕ) → GoesAt s.events (inl t) k → t < 16) → HasBatches s n sites
    → AddsOutside s.events sites all → ((places : List ℕ) → Contains ordered places ↔ Contains all places) → AreAllBatches s ordered
all_batches s n sites all ordered past low has adds same = record {
  sound = λ places h. ⊎_elim
      (λ was. has.sound places was)
      (λ (text, are). (inr text, tt, are))
      (adds.sound places ((same places).0 h));
  complete = to_each;
}
  where
    below : (t : ℕ) → t < 16 → t < n
    below t h = omega (arith, h, past)

    to_each : (to : Place) → IsElsewhere s to → (k : ℕ) → GoesAt s.events to k → (places : List ℕ) × Contains ordered places × ArePlacesTo s.events to places
    to_each (inl t) other k goes =
        let (places, there, are) = has.complete t (below t (low k t goes)) other k goes in (places, (same places).1 (adds.kept places there), are)
    to_each (inr text) other k goes =
        let (places, there, are) = adds.complete text k goes in (places, (same places).1 there, are)

-- a shipment to a site goes to one of its sites
pub sites_read : (body : Body) (items : List (List ℕ)) (sites : List ℕ) (outside : List (List ℕ)) (xs : List ℕ) → body ≡ Ship items sites outside → xs ≡ sites
    → ((t : ℕ) → Contains xs t → t < 16) → (t : ℕ) → GoesToSite t body → t < 16
sites_read body items sites outside xs is are low t goes = low t (subst (λ ys. Contains ys t) (sym are) (subst (GoesToSite t) is goes))
