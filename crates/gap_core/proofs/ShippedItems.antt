-- What a site ships, and by which of its events.
use Rattle.std.proofs.Common.{◌≡◌, ◌↔◌, inl, inr, ℕ, ◌<◌, ◌≤◌, ◌∙◌, List, [], None, Some, length, slice_get, refl, sym, ap, subst, ⊎_elim, arith}
use Rattle.std.specs.List.{Any, Contains}
use Rattle.std.proofs.lemmas.Option.{slice_get_within, slice_get-get_or, get_or_from_slice_get}
use Rattle.event_json.specs.Events.{Content}
use Rattle.event_json.specs.declared.bodies.Body.{Body}
use Rattle.event_json.specs.declared.bodies.Body.TheVariants.{Note, Ship, Make, Pack}
use Rattle.trace_core.specs.Gaps.{Place, ShipsTo}
use Rattle.trace_core.proofs.Members.{contains_none}
use Rattle.trace_core.proofs.NumberLists.{some_is}
use Rattle.gap_core.specs.Adding.{AddsToList, ByOne, NotesThose}
use Rattle.gap_core.specs.Shipments.{ArePlacesTo, GoesAt, GoesTo, IsPlaceTo, IsShippedAt, IsShippedOnce, shipped_in}
use Rattle.trace_core.specs.Relations.{ReachedFrom}
use Rattle.trace_core.specs.Sites.{SiteEvents}
use Rattle.gap_core.specs.Sources.{Index, IsToldTo, LiesIn}
use Rattle.gap_core.proofs.Additions.{Before}
use Rattle.gap_core.proofs.Notings.{notes_alike, notes_had, noted_members}

-- the places of the shipments among all events
pub all_places_to : (events : List Content) (to : Place) (n : ℕ) (places : List ℕ) → length events ≤ n
    → AddsToList [] places (Before n (IsPlaceTo events to)) → ArePlacesTo events to places
all_places_to events to n places past adds k = (
  λ h. ⊎_elim
      (λ none. absurd (contains_none k none))
      (λ (j, below, (same, goes)). subst (GoesAt events to) same goes)
      ((adds k).0 h),
  λ (e, so, goes). (adds k).1 (inr (k, within (slice_get_within events k e so), (refl, (e, so, goes)))),
)
  where
    within : k < length events → k < n
    within below = omega (arith, below, past)

-- those of the event at a place
pub event_noted : (events : List Content) (k : ℕ) (e : Content) (items : List (List ℕ)) → slice_get events k ≡ Some e → items ≡ shipped_in e.body → (old new : List (List ℕ))
    → NotesThose (Contains items) old new → NotesThose (IsShippedOnce events k) old new
event_noted events k e items so are old new = notes_alike (Contains items) (IsShippedOnce events k) old new
    (λ i. (
      λ h. (e, so, subst (λ xs. Contains xs i) are h),
      λ (f, also, h). subst (λ xs. Contains xs i) (sym are) (subst (λ (g : Content). Contains (shipped_in g.body) i) (some_is f e (sym also ∙ so)) h),
    ))

pub no_event_noted : (events : List Content) (k : ℕ) → slice_get events k ≡ None → (old : List (List ℕ)) → NotesThose (IsShippedOnce events k) old old
no_event_noted events k none old = notes_had old (IsShippedOnce events k) (λ i (e, so, h). absurd (clash e (sym none ∙ so)))
  where
    clash : (e : Content) → None ≡ Some e → ⊥
    clash e h = cc

-- those of all the events
pub all_shipped : (events : List Content) (places : List ℕ) (items : List (List ℕ)) → NotesThose (ByOne places (IsShippedOnce events)) [] items
    → (i : List ℕ) → Contains items i ↔ IsShippedAt events places i
all_shipped events places items notes i = (
  λ h. ⊎_elim (λ none. absurd (contains_none i none)) (λ one. one) ((noted_members (ByOne places (IsShippedOnce events)) [] items notes i).0 h),
  λ one. (noted_members (ByOne places (IsShippedOnce events)) [] items notes i).1 (inr one),
)

-- a shipment of the item is one of the shipments there that has the item
pub ships_split : (item : List ℕ) (to : Place) (b : Body) → ShipsTo item to b ↔ (Contains (shipped_in b) item × GoesTo to b)
ships_split item (inl site) (Note items) = (λ h. absurd h, λ h. absurd h.1)
ships_split item (inl site) (Ship items sites outside) = (λ h. h, λ h. h)
ships_split item (inl site) (Make id ins outs) = (λ h. absurd h, λ h. absurd h.1)
ships_split item (inl site) (Pack action parent children) = (λ h. absurd h, λ h. absurd h.1)
ships_split item (inr text) (Note items) = (λ h. absurd h, λ h. absurd h.1)
ships_split item (inr text) (Ship items sites outside) = (λ h. h, λ h. h)
ships_split item (inr text) (Make id ins outs) = (λ h. absurd h, λ h. absurd h.1)
ships_split item (inr text) (Pack action parent children) = (λ h. absurd h, λ h. absurd h.1)

pub shipped_there : (events : List Content) (to : Place) (places : List ℕ) → ArePlacesTo events to places → (i : List ℕ)
    → IsShippedAt events places i ↔ Any (λ e. ShipsTo i to e.body) events
shipped_there events to places are i = (
  λ (k, there, (e, so, has)).
      let (f, also, goes) = (are k).0 there in
      let goes' : GoesTo to e.body = subst (λ (g : Content). GoesTo to g.body) (some_is f e (sym also ∙ so)) goes in
      (k, e, slice_get_within events k e so, get_or_from_slice_get events k e e so, (ships_split i to e.body).1 (has, goes')),
  λ (k, e, lt, at, ships).
      let so : slice_get events k ≡ Some e = slice_get-get_or events k e lt ∙ ap Some at in
      let (has, goes) = (ships_split i to e.body).0 ships in
      (k, (are k).1 (e, so, goes), (e, so, has)),
)

-- what is shipped there, and what lies in it
pub all_sent : (sites : List SiteEvents) (index : Index) (at to : ℕ) (s t : SiteEvents) (starts sent : List (List ℕ)) → slice_get sites at ≡ Some s → slice_get sites to ≡ Some t
    → ((i : List ℕ) → Contains starts i ↔ Any (λ e. ShipsTo i (inl t.me) e.body) s.events)
    → ((i : List ℕ) → Contains sent i ↔ ReachedFrom (LiesIn sites index at) starts i)
    → (i : List ℕ) → Contains sent i ↔ IsToldTo sites index at to i
all_sent sites index at to s t starts sent so also ships walked i = (
  λ h. let (carrier, there, chain) = (walked i).0 h in (s, t, so, also, carrier, (ships carrier).0 there, chain),
  λ (u, v, su, sv, carrier, shipped, chain).
      (walked i).1 (
        carrier,
        (ships carrier).1 (subst (λ (z : SiteEvents). Any (λ e. ShipsTo carrier (inl t.me) e.body) z.events) (some_is u s (sym su ∙ so))
            (subst (λ (z : SiteEvents). Any (λ e. ShipsTo carrier (inl z.me) e.body) u.events) (some_is v t (sym sv ∙ also)) shipped)),
        chain,
      ),
)

-- a shipment goes there
pub ship_goes : (events : List Content) (to : Place) (i : List ℕ) → Any (λ e. ShipsTo i to e.body) events → (k : ℕ) × GoesAt events to k
ship_goes events to i (k, e, lt, at, ships) = (k, (e, slice_get-get_or events k e lt ∙ ap Some at, ((ships_split i to e.body).0 ships).1))
