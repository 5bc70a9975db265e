use Rattle.std.proofs.Common.{◌≡◌, ℕ, List, map, take}
use Rattle.serde_json.specs.Data.{string}
use Rattle.serde_json.specs.View.{view}
use Rattle.event_writing.specs.Packings.{AreSpellings}
use Rattle.event_writing.proofs.item_texts.item_values.Given as goal

-- the texts so far
abbrev pub invariant-loop-item : goal.invariant-loop-item
invariant-loop-item l = (texts : List (List ℕ)) × (map view l.values.items ≡ map string texts) × AreSpellings (take l.item-index l.items) texts
