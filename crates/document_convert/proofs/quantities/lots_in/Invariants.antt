use Rattle.std.proofs.Common.{◌≡◌, ◌++◌, drop, map, string_bytes}
use Rattle.std.specs.Prelude.{option_map}
use Rattle.serde_json.specs.View.{items_view}
use Rattle.document_convert.specs.Quantities.{lots_in}
use Rattle.document_convert.proofs.quantities.lots_in.Given as goal

-- the lots so far, with those of the rest, are all
abbrev pub invariant-loop-element : goal.invariant-loop-element
invariant-loop-element l =
    option_map (λ rest. map string_bytes l.lots.items ++ rest) (lots_in (items_view (drop l.element-index l.list))) ≡ lots_in (items_view l.list)
