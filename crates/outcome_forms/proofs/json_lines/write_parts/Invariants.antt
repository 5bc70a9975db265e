use Rattle.std.proofs.Common.{◌≡◌, ◌++◌, ℕ, List, drop, map}
use Rattle.std.specs.Prelude.{false}
use Rattle.std.specs.Io.KnownBytes.{Appends}
use Rattle.serde_json.specs.View.{items_of}
use Rattle.serde_json.specs.Written.{items_text}
use Rattle.outcome_forms.specs.Json.{part_json}
use Rattle.outcome_forms.proofs.Lines.{is_later}
use Rattle.outcome_forms.proofs.json_lines.write_parts.Given as goal

-- the parts so far are written, and with those of the rest they are all
abbrev pub invariant-loop-place : goal.invariant-loop-place
invariant-loop-place g l =
    (done : List ℕ) × Appends (g.W.Write.contents l.initial.output) (g.W.Write.contents l.output) done
    × (done ++ items_text (is_later l.place) (items_of (map (part_json l.sites l.ways) (drop l.place l.account.parts))) ≡ items_text false (items_of (map (part_json l.sites l.ways) l.account.parts)))
