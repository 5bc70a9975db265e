use Rattle.std.proofs.Common.{take}
use Rattle.query_core.specs.Mentions.{Mention}
use Rattle.query_core.proofs.mentions.mention_all.Given as goal

-- the items so far are mentioned
abbrev pub invariant-loop-item : goal.invariant-loop-item
invariant-loop-item l = Mention l.fn.counts l.counts l.place (take l.item-index l.items)
