use Rattle.std.proofs.Common.{◌≡◌, take}
use Rattle.folder_questions.specs.GapsPlans.{unheld_at}
use Rattle.folder_questions.proofs.gaps_plans.unheld_items.Given as goal

-- those so far
abbrev pub invariant-loop-missed : goal.invariant-loop-missed
invariant-loop-missed l = l.items.items ≡ unheld_at l.site (take l.missed-index l.pairs)
