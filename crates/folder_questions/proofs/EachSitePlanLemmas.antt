-- Plans of recalls of an item, site by site.
use Rattle.std.proofs.Common.{◌≡◌, ◌≢◌, ◌==◌, ◌||◌, ◌<◌, ◌∙◌, ℕ, Bool, true, false, List, [], ◌∷◌, length, inl, inr, refl, sym, ap, subst, ⊎_elim}
use Rattle.std.specs.List.{Contains, flat_map, list_any}
use Rattle.std.specs.Prelude.{◌⊎◌, ◌↔◌, Any, IsTrue, if◌then◌else◌}
use Rattle.std.proofs.lemmas.Bool.{eq-eqb, eqb-true}
use Rattle.std.proofs.lemmas.Bool.Decides.{same_from_decides}
use Rattle.std.proofs.lemmas.List.{get_or_past}
use Rattle.recall_outcomes.specs.declared.batches.Task.TheVariants.{Start}
use Rattle.report_core.specs.Traces.{IsKnownAt}
use Rattle.report_core.proofs.KnownItems.{none_known}
use Rattle.site_core.specs.Records.{Record, fresh}
use Rattle.site_recovery.specs.FittingAt.{AreAllSites}
use Rattle.site_recovery.specs.Looks.{world_of}
use Rattle.site_recovery.proofs.Exact.{within_or_past}
use Rattle.trace_core.specs.Places.{names_item}
use Rattle.trace_core.specs.Sites.{SiteEvents}
use Rattle.trace_core.specs.Spreads.{items_of}
use Rattle.trace_core.proofs.PairTestsDecide.{any_decides, lists_decides}
use Rattle.folder_questions.specs.EachSitePlans.{ArePlannedStarts, IsStartOf, started_at, starts_one}
use Rattle.folder_questions.specs.Lots.{Names}
use Rattle.folder_questions.proofs.PlanLemmas.{by_site, record_listed, record_placed}

-- an event names the item exactly where the test passes
pub naming : (r : Record) (item : List ℕ) → IsTrue (list_any (names_item item) r.captured.events) ↔ Names r item
naming r item = any_decides (names_item item) (λ e. Contains (items_of e.body) item) (λ e. lists_decides (items_of e.body) item) r.captured.events

pub named_is : (r : Record) (item : List ℕ) (s : SiteEvents) (b : Bool) → s ≡ r.captured → IsTrue b ↔ Any (λ e. Contains (items_of e.body) item) s.events → b ≡ list_any (names_item item) r.captured.events
named_is r item s b its tells =
    same_from_decides {P = Names r item} b (list_any (names_item item) r.captured.events)
    (subst (λ (x : SiteEvents). IsTrue b ↔ Any (λ e. Contains (items_of e.body) item) x.events) its tells) (naming r item)

-- another site than the one that is asked for
pub other_site : (asked : ℕ) (item : List ℕ) (r : Record) (b : Bool) → (r.engagement.me == asked) ≡ false → b ≡ list_any (names_item item) r.captured.events → b ≡ starts_one asked item r
other_site asked item r b other is = is ∙ ap (λ t. t || list_any (names_item item) r.captured.events) (sym other)

or_cases : (a b : Bool) → (a || b) ≡ true → (a ≡ true) ⊎ (b ≡ true)
or_cases true b h = inl refl
or_cases false b h = inr h

or_right : (a b : Bool) → b ≡ true → (a || b) ≡ true
or_right true b e = refl
or_right false b e = e

one_text : (b : Bool) (item : List ℕ) → (if b then item ∷ [] else []) ≢ [] → b ≡ true
one_text true item some = refl
one_text false item some = absurd (some refl)

module _ (records : List Record) (all : AreAllSites records) (asked : ℕ) (item : List ℕ) (known : IsKnownAt (world_of records) asked item) where
  -- a site that knows the item is one of all
  within : (s : ℕ) → IsKnownAt (world_of records) s item → s < length records
  within s knows = ⊎_elim
      (λ below. below)
      (λ past. absurd (none_known (world_of records) s item (get_or_past records s (fresh [] s) past) knows))
      (within_or_past s (length records))

  -- the site starts a recall
  starting : (s : ℕ) → (s ≡ asked) ⊎ Names (world_of records s) item → (s < length records) × (starts_one asked item (world_of records s) ≡ true)
  starting s (inl same) =
      let below = within s (subst (λ n. IsKnownAt (world_of records) n item) (sym same) known) in
      (below, ap (λ n. (n == asked) || list_any (names_item item) (world_of records s).captured.events) ((record_listed records all s below).1 ∙ same) ∙ ap (λ b. b || list_any (names_item item) (world_of records s).captured.events) (eq-eqb asked asked refl))
  starting s (inr named) = (within s (inl named), or_right ((world_of records s).engagement.me == asked) (list_any (names_item item) (world_of records s).captured.events) ((naming (world_of records s) item).1 named))

  started : (r : Record) → Contains records r → starts_one asked item r ≡ true → (r.engagement.me ≡ asked) ⊎ Names (world_of records r.engagement.me) item
  started r there passes = ⊎_elim
      (λ same. inl (eqb-true r.engagement.me asked same))
      (λ named. inr (subst (λ (x : Record). Names x item) (sym (record_placed records all r there).0) ((naming r item).0 named)))
      (or_cases (r.engagement.me == asked) (list_any (names_item item) r.captured.events) passes)

  abbrev texts : Record → List (List ℕ)
  texts r = if starts_one asked item r then item ∷ [] else []

  pub planned_starts : ArePlannedStarts records asked item (flat_map (started_at asked item) records)
  planned_starts =
      by_site Start texts records all (IsStartOf records asked item)
      (λ r there some.
      let passes = one_text (starts_one asked item r) item some in
      (refl, ap (λ b. if b then item ∷ [] else []) passes, started r there passes))
      (λ o (task, is, why).
      let (below, passes) = starting o.0 why in
      let r = world_of records o.0 in
      let (listed, me) = record_listed records all o.0 below in
      let its : texts r ≡ item ∷ [] = ap (λ b. if b then item ∷ [] else []) passes in
      let whole : (r.engagement.me, Start, texts r) ≡ o = λ i. (me i, sym task i, (its ∙ sym is) i) in
      (r, listed, λ none. let bad : item ∷ [] ≡ [] = sym its ∙ none in cc, whole))
