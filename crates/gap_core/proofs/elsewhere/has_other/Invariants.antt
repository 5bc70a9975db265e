use Rattle.std.proofs.Common.{take}
use Rattle.gap_core.proofs.ElsewhereSteps.{AllOwn}
use Rattle.gap_core.proofs.elsewhere.has_other.Given as goal

-- none so far is another one
abbrev pub invariant-loop-site : goal.invariant-loop-site
invariant-loop-site l = AllOwn l.me (take l.site-index l.sites)
