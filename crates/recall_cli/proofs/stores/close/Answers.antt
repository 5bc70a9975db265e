use Rattle.recall_cli.proofs.stores.close.Goals as goal

pub returns-in-Ok : goal.returns-in-Ok
returns-in-Ok c = (_, c.close.ensures)

pub returns-in-Err : goal.returns-in-Err
returns-in-Err c = (_, c.close.ensures)
