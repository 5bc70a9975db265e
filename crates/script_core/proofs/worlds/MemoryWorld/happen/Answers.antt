use Rattle.script_core.proofs.worlds.MemoryWorld.happen.Goals as goal

pub returns-in-None-clause-does : goal.returns-in-None-clause-does
returns-in-None-clause-does c = rw c.in-None.is c.step.ensures.does

pub returns-in-Some-clause-does : goal.returns-in-Some-clause-does
returns-in-Some-clause-does c = rw c.in-Some.is c.stop.ensures.does
