use Rattle.std.proofs.Common.{refl, sym, ◌∙◌}
use Rattle.command_line.specs.UnknownItems.{is_unknown}
use Rattle.command_line.proofs.Behind.{asks_who}
use Rattle.command_line.proofs.folder_tasks.with_knowers.Goals as goal

pub returns : goal.returns
returns g c =
    asks_who g.F.Files.does g.K.SiteKeeper.shown g.K.SiteKeeper.stored c.args.folder.now c.args.question.now c.args.files.now c.ask.new.files c.args.first _
    (is_unknown c.args.first.outcome) c.ask.result c.noted-notes.result (sym c.is_unknown.ensures ∙ c.if-not-is_unknown.false) refl refl c.ask.ensures.answered c.ask.ensures.failed
    c.noted-notes.ensures.told c.noted-notes.ensures.failed refl
