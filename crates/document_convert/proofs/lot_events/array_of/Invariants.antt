use Rattle.std.proofs.Common.{◌≡◌, ◌++◌, drop, map}
use Rattle.serde_json.specs.Data.{string}
use Rattle.serde_json.specs.View.{view}
use Rattle.document_convert.proofs.lot_events.array_of.Given as goal

-- those so far and the rest are all
abbrev pub invariant-loop-text : goal.invariant-loop-text
invariant-loop-text l = map view l.list.items ++ map string (map (λ t. t.now) (drop l.text-index l.texts)) ≡ map string (map (λ t. t.now) l.texts)
