use Rattle.std.proofs.Common.{◌≡◌, ◌++◌, map, string_bytes}
use Rattle.serde_json.specs.Data.{string}
use Rattle.serde_json.specs.View.{view}
use Rattle.document_convert.proofs.quantities.push_texts.Given as goal

-- those so far
abbrev pub invariant-loop-text : goal.invariant-loop-text
invariant-loop-text l = map view l.list.items ≡ map view l.fn.list.items ++ map string (map string_bytes l.yielded)
