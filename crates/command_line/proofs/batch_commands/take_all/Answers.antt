use Rattle.command_line.proofs.Several.{batch_taken}
use Rattle.command_line.proofs.batch_commands.take_all.Goals as goal

pub returns : goal.returns
returns g c =
    batch_taken g.F.Files.does g.K.SiteKeeper.shown g.K.SiteKeeper.may g.K.SiteKeeper.stored g.W.Write.contents c.args.batch.now _ _ _ _ c.task_of.result c.as_slice.result.now c.take_inputs.result c.task_of.ensures
    c.as_slice.ensures.value c.take_inputs.ensures.all c.take_inputs.ensures.failed
