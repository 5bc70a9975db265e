-- Items with their counts, by what was counted.
use Rattle.std.proofs.Common.{◌≡◌, ◌∙◌, ℕ, cond, List, [], ◌∷◌, Option, Some, None, refl, sym, ap}
use Rattle.event_json.specs.Events.{Content}
use Rattle.query_core.specs.Counted.{counted_items, told_among}
use Rattle.query_core.specs.KnownItems.{events_naming}
use Rattle.query_core.specs.Mentions.{AreCounted, Counts, IsCounted, counted, is_inside, kept}
use Rattle.query_core.specs.declared.known_items.KnownItem.{KnownItem}
use Rattle.query_core.specs.declared.mentions.Mentions.{Mentions}

-- what is kept of an item has its count
count_is : (n place : ℕ) (m : Option Mentions) → IsCounted n place m → counted m ≡ n
count_is n place None none = sym none
count_is n place (Some m) (events, some, before) = events

pub told_counted : (events : List Content) (place : ℕ) (counts : Counts) → AreCounted events place counts → (text : List ℕ) (items : List (List ℕ))
    → told_among counts text items ≡ counted_items events text items
told_counted events place counts are text [] = refl
told_counted events place counts are text (i ∷ items) =
    ap (λ (n : ℕ). cond (is_inside text i) (record { item = i; events = n } ∷ told_among counts text items) (told_among counts text items)) (count_is (events_naming events i) place (kept counts i) (are i))
    ∙ ap (λ (rest : List KnownItem). cond (is_inside text i) (record { item = i; events = events_naming events i } ∷ rest) rest) (told_counted events place counts are text items)
