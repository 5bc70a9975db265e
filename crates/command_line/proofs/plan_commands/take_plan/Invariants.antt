use Rattle.std.proofs.Common.{◌≡◌, ◌++◌}
use Rattle.std.specs.Vec.Iter.{into_iter_items}
use Rattle.world_core.specs.KeptSteps.{StandsAfter}
use Rattle.command_line.specs.Ends.{TakesMore, progress}
use Rattle.command_line.proofs.plan_commands.take_plan.Given as goal

-- the parts so far were taken
abbrev pub invariant-loop-part : goal.invariant-loop-part
invariant-loop-part g l =
    (l.fn.plan.items ≡ l.yielded ++ into_iter_items l.part-iterator)
    × StandsAfter (TakesMore g.F.Files.does g.K.SiteKeeper.shown g.K.SiteKeeper.may g.K.SiteKeeper.stored g.W.Write.contents l.fn.asked.terms.form l.fn.asked.folder.now l.fn.sites)
    (progress l.initial.files l.initial.output 0) l.yielded (progress l.files l.output l.worst)
