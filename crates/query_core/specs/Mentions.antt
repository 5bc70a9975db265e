-- How the events that name an item are counted, one event after another.
use Rattle.std.specs.Prelude.{◌≡◌, ◌↔◌, ◌⊎◌, ◌==◌, ◌||◌, ◌+◌, ◌<◌, ℕ, Bool, cond, List, [], ◌∷◌, Option, Some, None, IsSome, nat_eq}
use Rattle.std.specs.BTreeMap.{BTreeMap, get}
use Rattle.std.specs.List.{starts_with}
use Rattle.event_json.specs.Events.{Content}
use Rattle.trace_core.specs.PairTests.{lists}
use Rattle.site_core.specs.ItemSets.{item_cmp}
use Rattle.query_core.specs.KnownItems.{events_naming}
use Rattle.query_core.specs.declared.known_items.KnownItem.{KnownItem}
use Rattle.query_core.specs.declared.mentions.Mentions.{Mentions}

abbrev pub Counts : Type 0
Counts = BTreeMap (List ℕ) Mentions

-- what is kept of the item
abbrev pub kept : Counts → List ℕ → Option Mentions
kept counts item = get item_cmp counts item

-- the mentions once the event at the place names the item, too
abbrev pub mentioned : ℕ → Option Mentions → Mentions
mentioned place None = record { events = 1; last = place }
mentioned place (Some m) = cond (m.last == place) m (record { events = m.events + 1; last = place })

-- each of the items is mentioned by the event at the place, and nothing else is changed
abbrev pub Mention : Counts → Counts → ℕ → List (List ℕ) → Type 0
Mention old new place items =
    (i : List ℕ) → kept new i ≡ cond (lists items i) (Some (mentioned place (kept old i))) (kept old i)

-- so many events name an item, all of them before the place, and it is kept where there are any
abbrev pub IsCounted : ℕ → ℕ → Option Mentions → Type 0
IsCounted count place None = count ≡ 0
IsCounted count place (Some m) = (m.events ≡ count) × (0 < count) × (m.last < place)

-- the events of a list are counted, by their places
abbrev pub AreCounted : List Content → ℕ → Counts → Type 0
AreCounted events place counts = (i : List ℕ) → IsCounted (events_naming events i) place (kept counts i)

-- how many events were counted, 0 where the item isn't kept
abbrev pub counted : Option Mentions → ℕ
counted None = 0
counted (Some m) = m.events

-- just these items are kept beside those that were, and the counts are as they were
pub record Keeps (old new : Counts) (P : List ℕ → Type 0) : Type 0 where
  pub events : (i : List ℕ) → counted (kept new i) ≡ counted (kept old i)
  pub items : (i : List ℕ) → IsSome (kept new i) ↔ (IsSome (kept old i) ⊎ P i)

-- whether the text stands in the key
abbrev pub is_inside : List ℕ → List ℕ → Bool
is_inside text [] = starts_with nat_eq [] text
is_inside text (b ∷ bs) = starts_with nat_eq (b ∷ bs) text || is_inside text bs

-- the items in whose keys the text stands, each with its count
abbrev pub told : List ℕ → List (List ℕ × Mentions) → List KnownItem
told text [] = []
told text (e ∷ entries) =
    cond (is_inside text e.0) (record { item = e.0; events = e.1.events } ∷ told text entries) (told text entries)
