use Rattle.std.proofs.Common.{◌≡◌, drop}
use Rattle.item_spellings.specs.Scans.{look}
use Rattle.item_spellings.specs.Seen.{seen}
use Rattle.item_spellings.proofs.lookups.look.Given as goal

abbrev pub invariant-loop-element : goal.invariant-loop-element
invariant-loop-element l = look l.ai (seen (drop l.element-index l.elements)) ≡ look l.ai (seen l.elements)
