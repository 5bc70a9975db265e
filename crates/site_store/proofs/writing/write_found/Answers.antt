use Rattle.site_store.proofs.writing.write_found.Goals as goal

pub returns-in-Ok-clause-done : goal.returns-in-Ok-clause-done
returns-in-Ok-clause-done g c = λ old new told are. c.write_step.ensures.done old new told (rw c.in-Ok.is at are)

pub returns-in-Ok-clause-failed : goal.returns-in-Ok-clause-failed
returns-in-Ok-clause-failed g c = λ old new told are. c.write_step.ensures.failed old new told (rw c.in-Ok.is at are)
