-- What an index of items has after a place is noted under one of them.
use Rattle.std.proofs.Common.{◌≡◌, ◌≢◌, ◌↔◌, inl, inr, ℕ, ◌+◌, ◌<◌, ◌≤◌, false, List, [], ◌∷◌, ◌++◌, length, slice_get, Option, Some, None, refl, sym, ap, ◌∙◌, subst, ⊎_elim, arith}
use mathlib.Core.Logic.{◌⊎◌}
use Rattle.std.specs.Borrow.{Bor}
use Rattle.std.specs.BTreeMap.{UpdatesBy, get, is_at}
use Rattle.std.specs.BTreeSet.{BTreeSet}
use Rattle.std.specs.FinMap.{IsAntisymmetric}
use Rattle.std.specs.List.{Contains}
use Rattle.std.specs.Map.{lookup}
use Rattle.std.specs.Ordering.{is_eq}
use Rattle.std.specs.declared.cmp.Ordering.{Ordering}
use Rattle.std.specs.declared.cmp.Ordering.TheVariants.{Less, Equal, Greater}
use Rattle.std.proofs.lemmas.Bool.{cases_lt}
use Rattle.std.proofs.lemmas.Option.{slice_get_within}
use Rattle.event_json.specs.Events.{Content}
use Rattle.event_json.specs.declared.bodies.Body.{Body}
use Rattle.frame_core.proofs.Lookups.{one_key}
use Rattle.trace_core.specs.Searches.{IsFound}
use Rattle.trace_core.specs.Sites.{SiteEvents}
use Rattle.trace_core.proofs.Members.{contains_none}
use Rattle.trace_core.proofs.NumberLists.{some_is}
use Rattle.trace_core.proofs.SetMembers.{contains_pushed}
use Rattle.site_core.specs.ItemSets.{item_cmp}
use Rattle.site_core.proofs.ItemOrder.{item_total, item_exact}
use Rattle.report_core.specs.Sources.{AddsTo, AreOwnPlaces, ArePlaces, AreSitePlaces, ByOne, Index, IsNotedAt, IsWanted, Keeps, Notes, NotesOf, SiteNotes, SitesNote, or_no_places}
use Rattle.report_core.specs.declared.makers.EventPlace.{EventPlace}
use Rattle.report_core.specs.declared.makers.Noting.{Noting}
use Rattle.report_core.proofs.Additions.{adds_alike, adds_nothing, adds_then}

-- a query doesn't find another key
other_key : {K : Type 0} {R : K → K → Ordering} → IsAntisymmetric R → (k q : K) → q ≢ k → is_eq (R k q) ≡ false
other_key {R = R} exact k q ne = elim (R k q) as (λ r. R k q ≡ r → is_eq r ≡ false) [
  | Less ↦ λ e. refl
  | Equal ↦ λ e. absurd (ne (sym (exact k q e)))
  | Greater ↦ λ e. refl
] refl

-- the places of one item are one more, and those of the others what they were
pub place_noted : (old new : Index) (i : List ℕ) (ks : List EventPlace) → UpdatesBy item_cmp (item_cmp i) old new (Some ks)
    → (place : EventPlace) (was : Option (List EventPlace)) → get item_cmp old i ≡ was → ks ≡ or_no_places was ++ place ∷ []
    → AddsTo (Keeps old) (Keeps new) (λ m. (i ≡ m.0) × (place ≡ m.1))
place_noted old new i ks upd place was found more (j, k) = elim (one_key item_total item_exact j i) [
  | inr ne ↦
      let same : get item_cmp new j ≡ get item_cmp old j = upd.2 j (other_key item_exact i j ne) in (
        λ h. inl (subst (λ o. Contains (or_no_places o) k) same h),
        λ h. ⊎_elim (λ before. subst (λ o. Contains (or_no_places o) k) (sym same) before) (λ here. absurd (ne (sym here.0))) h,
      )
  | inl here ↦
      let now : or_no_places (get item_cmp new j) ≡ or_no_places was ++ place ∷ [] = ap or_no_places (ap (get item_cmp new) here ∙ upd.1) ∙ more in
      let before : get item_cmp old j ≡ was = ap (get item_cmp old) here ∙ found in
      let pushed = contains_pushed (or_no_places was) place k in (
        λ h. ⊎_elim
            (λ sooner. inl (subst (λ o. Contains (or_no_places o) k) (sym before) sooner))
            (λ last. inr (sym here, last))
            (pushed.0 (subst (λ ps. Contains ps k) now h)),
        λ h. subst (λ ps. Contains ps k) (sym now) (pushed.1 (⊎_elim
            (λ sooner. inl (subst (λ o. Contains (or_no_places o) k) before sooner))
            (λ last. inr last.1)
            h)),
      )
]

-- an item that is new, with its first place
pub first_noted : (old mid new : Index) (i j : List ℕ) (ks : List EventPlace) (place : EventPlace) → mid ≡ old → j ≡ i → get item_cmp old i ≡ None
    → UpdatesBy item_cmp (item_cmp j) mid new (Some ks) → ks ≡ place ∷ [] → AddsTo (Keeps old) (Keeps new) (λ m. (i ≡ m.0) × (place ≡ m.1))
first_noted old mid new i j ks place same copied absent upd first =
    let at : UpdatesBy item_cmp (item_cmp i) old new (Some ks) = subst (λ (x : List ℕ). UpdatesBy item_cmp (item_cmp x) old new (Some ks)) copied
    (subst (λ (x : Index). UpdatesBy item_cmp (item_cmp j) x new (Some ks)) same upd) in
    place_noted old new i ks at place None absent first

-- an item that is wanted is noted, and no other
pub wanted_noted : (old new : Index) (W : Type 0) (i : List ℕ) (place : EventPlace) → W → AddsTo (Keeps old) (Keeps new) (λ m. (i ≡ m.0) × (place ≡ m.1))
    → AddsTo (Keeps old) (Keeps new) (λ m. W × (i ≡ m.0) × (place ≡ m.1))
wanted_noted old new W i place wanted = adds_alike (Keeps old) (Keeps new) (λ m. (i ≡ m.0) × (place ≡ m.1)) (λ m. W × (i ≡ m.0) × (place ≡ m.1))
    (λ m. (λ (same, at). (wanted, same, at), λ (w, same, at). (same, at)))

pub unwanted_noted : (index : Index) (W : Type 0) (i : List ℕ) (place : EventPlace) → (W → ⊥) → AddsTo (Keeps index) (Keeps index) (λ m. W × (i ≡ m.0) × (place ≡ m.1))
unwanted_noted index W i place other = adds_nothing (Keeps index) (λ m. W × (i ≡ m.0) × (place ≡ m.1)) (λ m (wanted, same, at). other wanted)

-- each of some items that is wanted
abbrev pub NotesEach : Option (Bor (BTreeSet (List ℕ))) → List (List ℕ) → EventPlace → List ℕ × EventPlace → Type 0
NotesEach wanted items place = ByOne items (λ i m. IsWanted wanted i × (i ≡ m.0) × (place ≡ m.1))

module _ (noting : Noting) (body : Body) (items : List (List ℕ)) (listed : (i : List ℕ) → Contains items i ↔ Notes noting i body) (place : EventPlace) where
  each_noted : (wanted : Option (Bor (BTreeSet (List ℕ)))) (m : List ℕ × EventPlace) → NotesEach wanted items place m ↔ (NotesOf wanted noting m.0 body × (place ≡ m.1))
  each_noted None m = (
    λ (i, there, (any, same, at)). ((listed m.0).0 (subst (Contains items) same there), at),
    λ (notes, at). (m.0, (listed m.0).1 notes, (tt, refl, at)),
  )
  each_noted (Some wanted) m = (
    λ (i, there, (among, same, at)). ((subst (IsFound item_cmp wanted.now) same among, (listed m.0).0 (subst (Contains items) same there)), at),
    λ ((among, notes), at). (m.0, (listed m.0).1 notes, (among, refl, at)),
  )

  pub body_noted : (old new : Index) (wanted : Option (Bor (BTreeSet (List ℕ)))) → AddsTo (Keeps old) (Keeps new) (NotesEach wanted items place)
      → AddsTo (Keeps old) (Keeps new) (λ m. NotesOf wanted noting m.0 body × (place ≡ m.1))
  body_noted old new wanted = adds_alike (Keeps old) (Keeps new) (NotesEach wanted items place) (λ m. NotesOf wanted noting m.0 body × (place ≡ m.1)) (each_noted wanted)

module _ (N : List ℕ → Body → Type 0) (s : SiteEvents) (number : ℕ) where
  -- those of the events before the place
  abbrev pub NotesBefore : ℕ → List ℕ × EventPlace → Type 0
  NotesBefore place m = (m.1.event < place) × SiteNotes N s number m

  pub none_before : (m : List ℕ × EventPlace) → NotesBefore 0 m → ⊥
  none_before m (before, makes) = omega (arith, before)

  -- the event at the place is one more
  pub event_noted : (start old new : Index) (place : ℕ) (e : Content) (body : Body) (at : EventPlace) → slice_get s.events place ≡ Some e → body ≡ e.body → at ≡ record { site = number; event = place }
      → AddsTo (Keeps start) (Keeps old) (NotesBefore place) → AddsTo (Keeps old) (Keeps new) (λ m. N m.0 body × (at ≡ m.1)) → AddsTo (Keeps start) (Keeps new) (NotesBefore (place + 1))
  event_noted start old new place e body at stands is here before adds =
      adds_alike (Keeps start) (Keeps new) (λ m. NotesBefore place m ⊎ (N m.0 body × (at ≡ m.1))) (NotesBefore (place + 1))
      (λ m. (
        λ h. ⊎_elim
            (λ (sooner, makes). (omega (arith, sooner), makes))
            (λ (gives, same).
            let there : record { site = number; event = place } ≡ m.1 = sym here ∙ same in
            let event : place ≡ m.1.event = ap (λ (p : EventPlace). p.event) there in
            (omega (arith, event), (ap (λ (p : EventPlace). p.site) there, (e, subst (λ n. slice_get s.events n ≡ Some e) event stands, subst (N m.0) is gives))))
            h,
        λ (sooner, (site, (f, stands', gives))). ⊎_elim
            (λ earlier. inl (earlier, (site, (f, stands', gives))))
            (λ past.
            let event : place ≡ m.1.event = omega (arith, sooner, past) in
            let one : f ≡ e = some_is f e (sym stands' ∙ ap (slice_get s.events) (sym event) ∙ stands) in
            let there : record { site = number; event = place } ≡ m.1 = λ k. record { site = site k; event = event k } in
            inr (subst (N m.0) (sym is) (subst (λ (g : Content). N m.0 g.body) one gives), here ∙ there))
            (cases_lt m.1.event place),
      ))
      (adds_then (Keeps start) (Keeps old) (Keeps new) (NotesBefore place) (λ m. N m.0 body × (at ≡ m.1)) before adds)

  -- all events are gone through
  pub events_noted : (start new : Index) (place : ℕ) → length s.events ≤ place → AddsTo (Keeps start) (Keeps new) (NotesBefore place) → AddsTo (Keeps start) (Keeps new) (SiteNotes N s number)
  events_noted start new place past = adds_alike (Keeps start) (Keeps new) (NotesBefore place) (SiteNotes N s number)
      (λ m. (λ h. h.1, λ (site, (e, stands, gives)). (omega (arith, past, slice_get_within s.events m.1.event e stands), (site, (e, stands, gives)))))

module _ (N : List ℕ → Body → Type 0) (sites : List SiteEvents) where
  -- those of the sites before the place
  abbrev pub ArePlacesBefore : ℕ → Index → Type 0
  ArePlacesBefore number index = (m : List ℕ × EventPlace) → Keeps index m ↔ ((m.1.site < number) × SitesNote N sites m)

  pub site_noted : (old new : Index) (number : ℕ) (s : SiteEvents) → slice_get sites number ≡ Some s → ArePlacesBefore number old → AddsTo (Keeps old) (Keeps new) (SiteNotes N s number) → ArePlacesBefore (number + 1) new
  site_noted old new number s stands before adds m = (
    λ h. ⊎_elim
        (λ was. let (sooner, makes) = (before m).0 was in (omega (arith, sooner), makes))
        (λ (site, gives). (omega (arith, site), (s, subst (λ n. slice_get sites n ≡ Some s) site stands, gives)))
        ((adds m).0 h),
    λ (sooner, (t, stands', gives)). ⊎_elim
        (λ earlier. (adds m).1 (inl ((before m).1 (earlier, (t, stands', gives)))))
        (λ past.
        let site : number ≡ m.1.site = omega (arith, sooner, past) in
        let one : t ≡ s = some_is t s (sym stands' ∙ ap (slice_get sites) (sym site) ∙ stands) in
        (adds m).1 (inr (site, subst (λ (u : SiteEvents). IsNotedAt N u.events m.0 m.1.event) one gives)))
        (cases_lt m.1.site number),
  )

  pub sites_noted : (index : Index) (number : ℕ) → length sites ≤ number → ArePlacesBefore number index → ArePlaces N index sites
  sites_noted index number past before m = (
    λ h. ((before m).0 h).1,
    λ (s, stands, gives). (before m).1 (omega (arith, past, slice_get_within sites m.1.site s stands), (s, stands, gives)),
  )

  pub no_sites : (index : Index) → index.entries ≡ [] → ArePlacesBefore 0 index
  no_sites index nothing m = (
    λ h. absurd (contains_none m.1 (subst (λ (es : List (List ℕ × List EventPlace)). Contains (or_no_places (lookup (is_at (item_cmp m.0)) es)) m.1) nothing h)),
    λ (below, makes). absurd (omega (arith, below)),
  )

-- the places of one site alone
pub of_one_site : (N : List ℕ → Body → Type 0) (s : SiteEvents) (index : Index) → ArePlaces N index (s ∷ []) → AreSitePlaces N s 0 index
of_one_site N s index are m = (
  λ kept.
      let (t, stands, noted) = (are m).0 kept in
      let below = slice_get_within (s ∷ []) m.1.site t stands in
      let first : 0 ≡ m.1.site = omega (arith, below) in
      let one : t ≡ s = some_is t s (sym stands ∙ ap (slice_get (s ∷ [])) (sym first)) in
      (first, subst (λ (u : SiteEvents). IsNotedAt N u.events m.0 m.1.event) one noted),
  λ (first, noted). (are m).1 (s, ap (slice_get (s ∷ [])) (sym first), noted),
)

pub site_own : (N : List ℕ → Body → Type 0) (s : SiteEvents) (number : ℕ) (index : Index) → AreSitePlaces N s number index → AreOwnPlaces N s.events number index
site_own N s number index are item p here = (λ kept. ((are (item, p)).0 kept).1, λ noted. (are (item, p)).1 (here, noted))
