use Rattle.std.proofs.Common.{◌≤◌, ◌+◌, drop, map, take}
use Rattle.std.specs.List.{AllZip}
use Rattle.serde_json.specs.Data.{items_depth}
use Rattle.serde_json.specs.Read.{max_depth}
use Rattle.serde_json.specs.View.{items_view, view}
use Rattle.document_lint.specs.Splitting.{IsAlone}
use Rattle.document_lint.proofs.splitting.documents_of.Given as goal

-- the events so far have their documents, and none of the rest nests too deep
abbrev pub invariant-loop-value : goal.invariant-loop-value
invariant-loop-value l =
    AllZip IsAlone (map view (take l.value-index l.list)) (map (λ d. d.items) l.documents.items)
    × (items_depth (items_view (drop l.value-index l.list)) + 3 ≤ max_depth)
