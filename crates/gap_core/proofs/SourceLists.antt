-- The sources of containers after a change of one list.
use Rattle.std.proofs.Common.{◌≡◌, ◌≢◌, ◌↔◌, inl, inr, ℕ, ◌<◌, ◌≤◌, ◌∙◌, false, List, [], ◌∷◌, length, slice_get, Option, None, Some, refl, sym, ap, subst, ⊎_elim, arith}
use mathlib.Core.Logic.{◌⊎◌}
use Rattle.std.specs.BTreeMap.{UpdatesBy, get}
use Rattle.std.specs.Cmp.Lexicographic.{pointwise}
use Rattle.std.specs.FinMap.{IsAntisymmetric, nat_cmp-IsAntisymmetric, slice_cmp-IsAntisymmetric}
use Rattle.std.specs.List.{Contains}
use Rattle.std.specs.Ordering.{is_eq}
use Rattle.std.specs.Prelude.{nat_eq}
use Rattle.std.specs.declared.cmp.Ordering.{Ordering}
use Rattle.std.specs.declared.cmp.Ordering.TheVariants.{Less, Equal, Greater}
use Rattle.std.proofs.lemmas.Bool.{cases_Bool}
use Rattle.std.proofs.lemmas.Slice.Eq.{bytes_eq-Decides}
use mathlib.Core.Bool.{false≢true}
use Rattle.std.proofs.lemmas.Option.{slice_get_within}
use Rattle.event_json.specs.Events.{Content}
use Rattle.event_json.specs.declared.bodies.Body.{Body}
use Rattle.trace_core.specs.PutIn.{filled}
use Rattle.trace_core.specs.Sites.{SiteEvents}
use Rattle.trace_core.proofs.NumberLists.{some_is}
use Rattle.trace_core.proofs.Members.{contains_cases, contains_here, contains_none}
use Rattle.gap_core.specs.Adding.{AddsNothing, AddsTo, AddsToList, ByOne}
use Rattle.gap_core.specs.Sources.{Index, IsPassed, IsPassedBy, AreOwn, IsFilledAt, IsFilledBy, IsFilledIn, IsOwnAt, IsPassedOn, Keeps, item_cmp, or_no_sources}
use Rattle.gap_core.specs.declared.sources.Source.{Source}
use Rattle.gap_core.specs.Searches.{IsPassedAt}
use Rattle.gap_core.proofs.Additions.{Before, adds_alike, adds_nothing}

pub item_exact : IsAntisymmetric item_cmp
item_exact = slice_cmp-IsAntisymmetric nat_cmp-IsAntisymmetric

-- two items are one, or they are not
pub one_item : (i j : List ℕ) → (i ≡ j) ⊎ (i ≢ j)
one_item i j = ⊎_elim
    (λ same. inl ((bytes_eq-Decides i j).0 same))
    (λ other. inr (λ same. false≢true (sym other ∙ (bytes_eq-Decides i j).1 same)))
    (cases_Bool (pointwise nat_eq i j))

-- a query doesn't find another key
pub other_key : {K : Type 0} {R : K → K → Ordering} → IsAntisymmetric R → (k q : K) → q ≢ k → is_eq (R k q) ≡ false
other_key {R = R} exact k q ne = elim (R k q) as (λ r. R k q ≡ r → is_eq r ≡ false) [
  | Less ↦ λ e. refl
  | Equal ↦ λ e. absurd (ne (sym (exact k q e)))
  | Greater ↦ λ e. refl
] refl

-- an index in which one list is changed
module _ (old new : Index) (i : List ℕ) (ks : List Source) (upd : UpdatesBy item_cmp (item_cmp i) old new (Some ks))
    (was : Option (List Source)) (found : get item_cmp old i ≡ was) where
  -- elsewhere all is as it was
  elsewhere : (j : List ℕ) → j ≢ i → get item_cmp new j ≡ get item_cmp old j
  elsewhere j ne = upd.2 j (other_key item_exact i j ne)

  now_here : (j : List ℕ) → j ≡ i → or_no_sources (get item_cmp new j) ≡ ks
  now_here j here = ap or_no_sources (ap (get item_cmp new) here ∙ upd.1)

  was_here : (j : List ℕ) → j ≡ i → or_no_sources (get item_cmp old j) ≡ or_no_sources was
  was_here j here = ap or_no_sources (ap (get item_cmp old) here ∙ found)

  pub list_changed : (Q : Source → Type 0) → AddsToList (or_no_sources was) ks Q
      → AddsTo (Keeps old) (Keeps new) (λ m. (i ≡ m.0) × Q m.1)
  list_changed Q adds (j, x) = ⊎_elim
      (λ here. (
        λ h. ⊎_elim
            (λ before. inl (subst (λ xs. Contains xs x) (sym (was_here j here)) before))
            (λ q. inr (sym here, q))
            ((adds x).0 (subst (λ xs. Contains xs x) (now_here j here) h)),
        λ h. subst (λ xs. Contains xs x) (sym (now_here j here)) ((adds x).1 (⊎_elim
            (λ before. inl (subst (λ xs. Contains xs x) (was_here j here) before))
            (λ (same, q). inr q)
            h)),
      ))
      (λ ne. (
        λ h. inl (subst (λ o. Contains (or_no_sources o) x) (elsewhere j ne) h),
        λ h. ⊎_elim
            (λ before. subst (λ o. Contains (or_no_sources o) x) (sym (elsewhere j ne)) before)
            (λ (same, q). absurd (ne (sym same)))
            h,
      ))
      (one_item j i)

  pub list_unchanged : AddsNothing (Contains (or_no_sources was)) (Contains ks) → AddsNothing (Keeps old) (Keeps new)
  list_unchanged nothing (j, x) h = ⊎_elim
      (λ here. subst (λ xs. Contains xs x) (sym (was_here j here)) (nothing x (subst (λ xs. Contains xs x) (now_here j here) h)))
      (λ ne. subst (λ o. Contains (or_no_sources o) x) (elsewhere j ne) h)
      (one_item j i)

-- an item that is new, with its first source
pub first_source : (old mid new : Index) (i j : List ℕ) (ks : List Source) (source : Source) → mid ≡ old → j ≡ i → get item_cmp old i ≡ None
    → UpdatesBy item_cmp (item_cmp j) mid new (Some ks) → ks ≡ source ∷ [] → AddsTo (Keeps old) (Keeps new) (λ m. (i ≡ m.0) × (source ≡ m.1))
first_source old mid new i j ks source same copied absent upd first =
    let at : UpdatesBy item_cmp (item_cmp i) old new (Some ks) = subst (λ (x : List ℕ). UpdatesBy item_cmp (item_cmp x) old new (Some ks)) copied
    (subst (λ (x : Index). UpdatesBy item_cmp (item_cmp j) x new (Some ks)) same upd) in
    list_changed old new i ks at None absent (λ x. source ≡ x) (λ x. (
      λ h. inr (only x (subst (λ xs. Contains xs x) first h)),
      λ h. ⊎_elim
          (λ none. absurd (contains_none x none))
          (λ is. subst (λ xs. Contains xs x) (sym first) (subst (Contains (source ∷ [])) is here))
          h,
    ))
  where
    here : Contains (source ∷ []) source
    here = contains_here source []

    only : (x : Source) → Contains (source ∷ []) x → source ≡ x
    only x h = ⊎_elim (λ is. is) (λ none. absurd (contains_none x none)) (contains_cases source x [] h)

-- what is passed on of each source of a list is what is passed on of the list
pub passed_each : (at to : ℕ) (sources : List Source) (x : Source) → ByOne sources (IsPassedBy at to) x ↔ IsPassed at to sources x
passed_each at to sources x = (
  λ (y, there, (here, is)).
      let same : y ≡ record { at = at; from = x.from } = known y x here is in
      (ap (λ (z : Source). z.at) is, subst (Contains sources) same there),
  λ (is, there). (record { at = at; from = x.from }, there, (refl, told x is)),
)
  where
    known : (y z : Source) → y.at ≡ at → record { at = to; from = y.from } ≡ z → y ≡ record { at = at; from = z.from }
    known y z here is = let f : y.from ≡ z.from = ap (λ (w : Source). w.from) is in λ k. record { at = here k; from = f k }

    told : (z : Source) → to ≡ z.at → record { at = to; from = z.from } ≡ z
    told z is = λ k. record { at = is k; from = z.from }

-- the list of an item is passed on
pub passed_on : (old new : Index) (i : List ℕ) (at to : ℕ) (was : List Source) → get item_cmp old i ≡ Some was
    → AddsTo (Keeps old) (Keeps new) (λ m. (i ≡ m.0) × IsPassed at to was m.1) → AddsTo (Keeps old) (Keeps new) (IsPassedOn old at to i)
passed_on old new i at to was found = adds_alike (Keeps old) (Keeps new) (λ m. (i ≡ m.0) × IsPassed at to was m.1) (IsPassedOn old at to i)
    (λ m. (
      λ (same, (here, there)). (same, here, subst (λ o. Contains (or_no_sources o) (record { at = at; from = m.1.from })) (sym found) there),
      λ (same, here, there). (same, (here, subst (λ o. Contains (or_no_sources o) (record { at = at; from = m.1.from })) found there)),
    ))

-- an item without sources passes nothing on
pub none_passed : (old : Index) (i : List ℕ) (at to : ℕ) → get item_cmp old i ≡ None → AddsTo (Keeps old) (Keeps old) (IsPassedOn old at to i)
none_passed old i at to absent = adds_nothing (Keeps old) (IsPassedOn old at to i)
    (λ m (same, here, there). contains_none (record { at = at; from = m.1.from }) (subst (λ o. Contains (or_no_sources o) (record { at = at; from = m.1.from })) absent there))

-- ---- what events fill

pub filled_noted : (old new : Index) (body : Body) (i : List ℕ) (at : ℕ) → Some i ≡ filled body
    → AddsTo (Keeps old) (Keeps new) (λ m. (i ≡ m.0) × (record { at = at; from = at } ≡ m.1)) → AddsTo (Keeps old) (Keeps new) (IsFilledBy body at)
filled_noted old new body i at so = adds_alike (Keeps old) (Keeps new) (λ m. (i ≡ m.0) × (record { at = at; from = at } ≡ m.1)) (IsFilledBy body at)
    (λ m. (
      λ (same, here). (sym so ∙ ap Some same, here),
      λ (also, here). (some_is i m.0 (so ∙ also), here),
    ))

pub event_filled : (old new : Index) (events : List Content) (at place : ℕ) (e : Content) (body : Body) → slice_get events place ≡ Some e → body ≡ e.body
    → AddsTo (Keeps old) (Keeps new) (IsFilledBy body at) → AddsTo (Keeps old) (Keeps new) (IsFilledAt events at place)
event_filled old new events at place e body so is = adds_alike (Keeps old) (Keeps new) (IsFilledBy body at) (IsFilledAt events at place)
    (λ m. (
      λ h. (e, so, subst (λ b. IsFilledBy b at m) is h),
      λ (f, also, h). subst (λ b. IsFilledBy b at m) (sym is) (subst (λ (g : Content). IsFilledBy g.body at m) (some_is f e (sym also ∙ so)) h),
    ))

pub all_filled : (old new : Index) (s : SiteEvents) (at n : ℕ) → length s.events ≤ n
    → AddsTo (Keeps old) (Keeps new) (Before n (IsFilledAt s.events at)) → AddsTo (Keeps old) (Keeps new) (IsFilledIn s at)
all_filled old new s at n past = adds_alike (Keeps old) (Keeps new) (Before n (IsFilledAt s.events at)) (IsFilledIn s at)
    (λ m. (
      λ (k, below, h). (k, h),
      λ (k, (e, so, h)). (k, within k (slice_get_within s.events k e so), (e, so, h)),
    ))
  where
    within : (k : ℕ) → k < length s.events → k < n
    within k below = omega (arith, below, past)

pub site_filled : (old new : Index) (sites : List SiteEvents) (at : ℕ) (s : SiteEvents) → slice_get sites at ≡ Some s
    → AddsTo (Keeps old) (Keeps new) (IsFilledIn s at) → AddsTo (Keeps old) (Keeps new) (IsOwnAt sites at)
site_filled old new sites at s so = adds_alike (Keeps old) (Keeps new) (IsFilledIn s at) (IsOwnAt sites at)
    (λ m. (
      λ (k, h). (s, so, k, h),
      λ (t, also, k, h). (k, subst (λ (z : SiteEvents). IsFilledAt z.events at k m) (some_is t s (sym also ∙ so)) h),
    ))

pub all_own : (index : Index) (sites : List SiteEvents) (n : ℕ) → length sites ≤ n
    → AddsTo (λ m. ⊥) (Keeps index) (Before n (IsOwnAt sites)) → AreOwn sites index
all_own index sites n past adds m = (
  λ h. ⊎_elim (λ none. absurd none) (λ (at, below, own). (at, own)) ((adds m).0 h),
  λ (at, (s, so, k, h)). (adds m).1 (inr (at, within at (slice_get_within sites at s so), (s, so, k, h))),
)
  where
    within : (at : ℕ) → at < length sites → at < n
    within at below = omega (arith, below, past)

-- what is passed on of the item that stands there
pub passed_there : (old new : Index) (sent : List (List ℕ)) (at to place : ℕ) (i : List ℕ) → slice_get sent place ≡ Some i
    → AddsTo (Keeps old) (Keeps new) (IsPassedOn old at to i) → AddsTo (Keeps old) (Keeps new) (IsPassedAt sent old at to place)
passed_there old new sent at to place i so = adds_alike (Keeps old) (Keeps new) (IsPassedOn old at to i) (IsPassedAt sent old at to place)
    (λ m. (
      λ h. (i, so, h),
      λ (j, also, h). subst (λ k. IsPassedOn old at to k m) (some_is j i (sym also ∙ so)) h,
    ))
