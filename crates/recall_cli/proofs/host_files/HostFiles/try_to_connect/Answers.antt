use Rattle.recall_cli.proofs.host_files.HostFiles.try_to_connect.Goals as goal

-- a connection just made finds its tables in the files
pub returns-in-Ok : goal.returns-in-Ok
returns-in-Ok c = λ clean. ((c.in-Ok.ensures.opened clean).0, _, (c.in-Ok.ensures.found clean).reads)
