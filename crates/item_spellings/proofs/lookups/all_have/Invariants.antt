use Rattle.std.proofs.Common.{◌≡◌, drop}
use Rattle.item_spellings.specs.Scans.{all_have}
use Rattle.item_spellings.specs.Seen.{seen}
use Rattle.item_spellings.proofs.lookups.all_have.Given as goal

abbrev pub invariant-loop-element : goal.invariant-loop-element
invariant-loop-element l = all_have l.ai l.value (seen (drop l.element-index l.elements)) ≡ all_have l.ai l.value (seen l.elements)
