use Rattle.std.proofs.Common.{◌≡◌, take, string_bytes}
use Rattle.std.specs.List.{flat_map}
use Rattle.recall_text.specs.Words.{pair_text}
use Rattle.recall_text.proofs.texts.pair_lines.Given as goal

-- the pairs so far are written
abbrev pub invariant-loop-pair : goal.invariant-loop-pair
invariant-loop-pair l = string_bytes l.text ≡ flat_map (pair_text l.sites) (take l.pair-index l.pairs)
