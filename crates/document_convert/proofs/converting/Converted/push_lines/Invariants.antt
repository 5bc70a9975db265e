use Rattle.std.proofs.Common.{◌≡◌, ◌++◌, List, map, string_bytes}
use Rattle.serde_json.specs.Data.{Data}
use Rattle.serde_json.specs.View.{view}
use Rattle.document_convert.specs.Accounts.{with_lines}
use Rattle.document_convert.specs.Converted.{AreLinesOf}
use Rattle.document_convert.proofs.converting.Converted.push_lines.Given as goal

-- the documents so far are written and counted
abbrev pub invariant-loop-document : goal.invariant-loop-document
invariant-loop-document l =
    ((ds : List Data) → AreLinesOf ds (string_bytes l.initial.self.lines) → AreLinesOf (ds ++ map view l.yielded) (string_bytes l.self.lines))
    × (l.self.refused ≡ l.initial.self.refused)
    × (l.self.account ≡ with_lines l.initial.self.account (map view l.yielded))
