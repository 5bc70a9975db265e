use Rattle.command_line.proofs.Endings.{ends_sim}
use Rattle.command_line.proofs.LivedEnds.{ends_acts}
use Rattle.command_line.proofs.commands.run_command.Goals as goal

pub returns-clause-sim : goal.returns-clause-sim
returns-clause-sim g c =
    ends_sim g.F.Files.does g.F.Files.waits g.F.LimitsDocuments.limits g.F.Files.knows g.K.SiteKeeper.shown g.K.SiteKeeper.failed g.K.SiteKeeper.may g.K.SiteKeeper.reopens g.G.Gate.gives_up g.K.SiteKeeper.stored
    g.W.Write.contents
    c.args.words.now _ _ _ _ _ c.answer.ensures

pub returns-clause-acts : goal.returns-clause-acts
returns-clause-acts g c =
    ends_acts g.F.Files.does g.F.Files.waits g.F.LimitsDocuments.limits g.F.Files.knows g.K.SiteKeeper.shown g.K.SiteKeeper.failed g.K.SiteKeeper.may g.K.SiteKeeper.reopens g.G.Gate.gives_up g.K.SiteKeeper.stored
    g.W.Write.contents g.K.SiteKeeper.may_be_opened
    c.args.words.now _ _ _ _ _ c.answer.ensures
