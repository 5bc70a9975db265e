use Rattle.recall_cli.proofs.host_files.HostFiles.open.Goals as goal

pub returns-in-Ok-clause-own : goal.returns-in-Ok-clause-own
returns-in-Ok-clause-own c = c.in-Ok.ensures.opened.own c.in_ok-conn.ensures

pub returns-in-Ok-clause-opened : goal.returns-in-Ok-clause-opened
returns-in-Ok-clause-opened c = record { conn = _; found = c.in_ok-conn.ensures; opened = c.in-Ok.ensures.opened }
