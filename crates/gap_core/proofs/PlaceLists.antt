-- The events under places outside after a change of one list.
use Rattle.std.proofs.Common.{◌≡◌, ◌≢◌, inl, inr, ℕ, ◌<◌, ◌≤◌, ◌∙◌, List, [], ◌∷◌, length, slice_get, Option, None, Some, refl, sym, ap, subst, ⊎_elim, arith}
use Rattle.std.specs.BTreeMap.{UpdatesBy, get}
use Rattle.std.specs.List.{Contains}
use Rattle.std.proofs.lemmas.Option.{slice_get_within}
use Rattle.event_json.specs.Events.{Content}
use Rattle.event_json.specs.declared.bodies.Body.{Body}
use Rattle.event_json.specs.declared.bodies.Body.TheVariants.{Ship}
use Rattle.trace_core.proofs.Members.{contains_cases, contains_here, contains_none}
use Rattle.trace_core.proofs.NumberLists.{some_is}
use Rattle.gap_core.specs.Adding.{AddsTo, AddsToList, ByOne}
use Rattle.gap_core.specs.Batches.{AreOutside, IsOutsideAt, KeepsPlace, Outside, or_no_places}
use Rattle.gap_core.specs.Shipments.{GoesOutside}
use Rattle.gap_core.specs.Sources.{item_cmp}
use Rattle.gap_core.proofs.Additions.{Before, adds_alike}
use Rattle.gap_core.proofs.SourceLists.{item_exact, one_item, other_key}

-- an index in which one list is changed
module _ (old new : Outside) (i : List ℕ) (ks : List ℕ) (upd : UpdatesBy item_cmp (item_cmp i) old new (Some ks))
    (was : Option (List ℕ)) (found : get item_cmp old i ≡ was) where
  -- elsewhere all is as it was
  elsewhere : (j : List ℕ) → j ≢ i → get item_cmp new j ≡ get item_cmp old j
  elsewhere j ne = upd.2 j (other_key item_exact i j ne)

  now_here : (j : List ℕ) → j ≡ i → or_no_places (get item_cmp new j) ≡ ks
  now_here j here = ap or_no_places (ap (get item_cmp new) here ∙ upd.1)

  was_here : (j : List ℕ) → j ≡ i → or_no_places (get item_cmp old j) ≡ or_no_places was
  was_here j here = ap or_no_places (ap (get item_cmp old) here ∙ found)

  pub list_changed : (Q : ℕ → Type 0) → AddsToList (or_no_places was) ks Q
      → AddsTo (KeepsPlace old) (KeepsPlace new) (λ m. (i ≡ m.0) × Q m.1)
  list_changed Q adds (j, x) = ⊎_elim
      (λ here. (
        λ h. ⊎_elim
            (λ before. inl (subst (λ xs. Contains xs x) (sym (was_here j here)) before))
            (λ q. inr (sym here, q))
            ((adds x).0 (subst (λ xs. Contains xs x) (now_here j here) h)),
        λ h. subst (λ xs. Contains xs x) (sym (now_here j here)) ((adds x).1 (⊎_elim
            (λ before. inl (subst (λ xs. Contains xs x) (was_here j here) before))
            (λ (same, q). inr q)
            h)),
      ))
      (λ ne. (
        λ h. inl (subst (λ o. Contains (or_no_places o) x) (elsewhere j ne) h),
        λ h. ⊎_elim
            (λ before. subst (λ o. Contains (or_no_places o) x) (sym (elsewhere j ne)) before)
            (λ (same, q). absurd (ne (sym same)))
            h,
      ))
      (one_item j i)

-- an item that is new, with its first place
pub first_place : (old mid new : Outside) (i j : List ℕ) (ks : List ℕ) (place : ℕ) → mid ≡ old → j ≡ i → get item_cmp old i ≡ None
    → UpdatesBy item_cmp (item_cmp j) mid new (Some ks) → ks ≡ place ∷ [] → AddsTo (KeepsPlace old) (KeepsPlace new) (λ m. (i ≡ m.0) × (place ≡ m.1))
first_place old mid new i j ks place same copied absent upd first =
    let at : UpdatesBy item_cmp (item_cmp i) old new (Some ks) = subst (λ (x : List ℕ). UpdatesBy item_cmp (item_cmp x) old new (Some ks)) copied
    (subst (λ (x : Outside). UpdatesBy item_cmp (item_cmp j) x new (Some ks)) same upd) in
    list_changed old new i ks at None absent (λ x. place ≡ x) (λ x. (
      λ h. inr (only x (subst (λ xs. Contains xs x) first h)),
      λ h. ⊎_elim
          (λ none. absurd (contains_none x none))
          (λ is. subst (λ xs. Contains xs x) (sym first) (subst (Contains (place ∷ [])) is here))
          h,
    ))
  where
    here : Contains (place ∷ []) place
    here = contains_here place []

    only : (x : ℕ) → Contains (place ∷ []) x → place ≡ x
    only x h = ⊎_elim (λ is. is) (λ none. absurd (contains_none x none)) (contains_cases place x [] h)

-- the event at a place
pub event_kept : (old new : Outside) (events : List Content) (place : ℕ) (e : Content) (body : Body) → slice_get events place ≡ Some e → body ≡ e.body
    → AddsTo (KeepsPlace old) (KeepsPlace new) (λ m. GoesOutside m.0 body × (place ≡ m.1)) → AddsTo (KeepsPlace old) (KeepsPlace new) (IsOutsideAt events place)
event_kept old new events place e body so is = adds_alike (KeepsPlace old) (KeepsPlace new) (λ m. GoesOutside m.0 body × (place ≡ m.1)) (IsOutsideAt events place)
    (λ m. (
      λ (goes, same). (e, so, subst (GoesOutside m.0) is goes, same),
      λ (f, also, goes, same). (subst (GoesOutside m.0) (sym is) (subst (λ (g : Content). GoesOutside m.0 g.body) (some_is f e (sym also ∙ so)) goes), same),
    ))

pub all_outside : (outside : Outside) (events : List Content) (n : ℕ) → length events ≤ n
    → AddsTo (λ m. ⊥) (KeepsPlace outside) (Before n (IsOutsideAt events)) → AreOutside events outside
all_outside outside events n past adds m = (
  λ h. ⊎_elim (λ none. absurd none) (λ (k, below, (e, so, goes, same)). (e, subst (λ j. slice_get events j ≡ Some e) same so, goes)) ((adds m).0 h),
  λ (e, so, goes). (adds m).1 (inr (m.1, within m.1 (slice_get_within events m.1 e so), (e, so, goes, refl))),
)
  where
    within : (k : ℕ) → k < length events → k < n
    within k below = omega (arith, below, past)

-- each place outside to which a shipment goes
pub texts_kept : (old new : Outside) (body : Body) (items : List (List ℕ)) (sites : List ℕ) (outside texts : List (List ℕ)) (place : ℕ) → body ≡ Ship items sites outside → texts ≡ outside
    → AddsTo (KeepsPlace old) (KeepsPlace new) (ByOne texts (λ text m. (text ≡ m.0) × (place ≡ m.1))) → AddsTo (KeepsPlace old) (KeepsPlace new) (λ m. GoesOutside m.0 body × (place ≡ m.1))
texts_kept old new body items sites outside texts place is are =
    adds_alike (KeepsPlace old) (KeepsPlace new) (ByOne texts (λ text m. (text ≡ m.0) × (place ≡ m.1))) (λ m. GoesOutside m.0 body × (place ≡ m.1))
    (λ m. (
      λ (text, there, (same, here)). (subst (GoesOutside m.0) (sym is) (subst (λ xs. Contains xs m.0) are (subst (Contains texts) same there)), here),
      λ (goes, here). (m.0, subst (λ xs. Contains xs m.0) (sym are) (subst (GoesOutside m.0) is goes), (refl, here)),
    ))
