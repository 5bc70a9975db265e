use Rattle.std.proofs.Common.{◌≡◌, map, refl}
use Rattle.recall_outcomes.specs.declared.faults.Fault.TheVariants.{NoMemory}
use Rattle.folder_commands.specs.Inputs.{input_of}
use Rattle.folder_commands.proofs.StepLemmas.{match_err}
use Rattle.command_line.proofs.Planning.{part_came, part_out}
use Rattle.command_line.proofs.plan_commands.take_inputs.Goals as goal

pub returns-in_err-given : goal.returns-in_err-given
returns-in_err-given g c =
    part_out g.F.Files.does g.K.SiteKeeper.shown g.K.SiteKeeper.may g.K.SiteKeeper.stored g.W.Write.contents c.args.asked.now.terms.form c.args.asked.now.folder.now c.args.sites.now c.args.part c.args.files.now c.args.output.now
    c.from_residual.result (match_err c.from_residual.result _ (λ told. ⊥) (λ fault. fault ≡ NoMemory) c.from_residual.ensures.1 refl)

pub returns : goal.returns
returns g c =
    part_came g.F.Files.does g.K.SiteKeeper.shown g.K.SiteKeeper.may g.K.SiteKeeper.stored g.W.Write.contents c.args.asked.now.terms.form c.args.asked.now.folder.now c.args.sites.now c.args.part c.args.files.now c.take_texts.new.files c.args.output.now
    c.take_texts.new.output c.take_texts.result c.name_of-name.result.now (map input_of c.in_ok-given.given.items) c.name_of-name.ensures c.in_ok-given.ensures c.take_texts.ensures.all c.take_texts.ensures.failed
