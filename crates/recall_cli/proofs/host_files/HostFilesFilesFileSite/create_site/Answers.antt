use Rattle.recall_cli.proofs.host_files.HostFilesFilesFileSite.create_site.Goals as goal

pub returns-in-Ok-clause-made : goal.returns-in-Ok-clause-made
returns-in-Ok-clause-made c = (c.in-Ok.site, (c.in-Ok.ensures, c.close.ensures))
