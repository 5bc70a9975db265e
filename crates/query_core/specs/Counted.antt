-- Some items, each with how many events of a site name it.
use Rattle.std.specs.Prelude.{ℕ, cond, List, [], ◌∷◌}
use Rattle.event_json.specs.Events.{Content}
use Rattle.query_core.specs.KnownItems.{events_naming}
use Rattle.query_core.specs.Mentions.{Counts, counted, is_inside, kept}
use Rattle.query_core.specs.declared.known_items.KnownItem.{KnownItem}

-- those in whose keys the text stands, in their order
abbrev pub counted_items : List Content → List ℕ → List (List ℕ) → List KnownItem
counted_items events text [] = []
counted_items events text (i ∷ items) =
    cond (is_inside text i) (record { item = i; events = events_naming events i } ∷ counted_items events text items) (counted_items events text items)

-- so by what was counted
abbrev pub told_among : Counts → List ℕ → List (List ℕ) → List KnownItem
told_among counts text [] = []
told_among counts text (i ∷ items) =
    cond (is_inside text i) (record { item = i; events = counted (kept counts i) } ∷ told_among counts text items) (told_among counts text items)
