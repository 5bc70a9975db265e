use Rattle.std.proofs.Common.{take}
use Rattle.site_recovery.specs.Checking.{records_at}
use Rattle.folder_questions.specs.GapsPlans.{AreUnknownAt}
use Rattle.folder_questions.proofs.gaps_plans.unknown_items.Given as goal

-- those so far
abbrev pub invariant-loop-item : goal.invariant-loop-item
invariant-loop-item l = AreUnknownAt (records_at l.records) l.site (take l.item-index l.items) l.unknown.items
