use Rattle.folder_commands.proofs.StepLemmas.{device_failed, is_open, out_of_memory, step_done, step_refused, store_failed}
use Rattle.folder_commands.proofs.steps.step.Goals as goal

pub returns-in-Ok-clause-answered : goal.returns-in-Ok-clause-answered
returns-in-Ok-clause-answered g c = λ old shows. step_done old c.args.input _ c.in-Ok.effects _ (c.in-Ok.ensures.open old shows)

pub returns-in-Err-Refused-clause-answered : goal.returns-in-Err-Refused-clause-answered
returns-in-Err-Refused-clause-answered g c = λ old shows. step_refused old c.args.input _ c.in-Err-Refused.why _ (rw c.in-Err-Refused.field-0-is at (c.in-Err-Refused.ensures.open old shows))

pub returns-in-Err-NoMemory-clause-answered : goal.returns-in-Err-NoMemory-clause-answered
returns-in-Err-NoMemory-clause-answered g c = λ old shows. out_of_memory old c.args.input _ _ (rw c.in-Err-NoMemory.field-0-is at (c.in-Err-NoMemory.ensures.open old shows))

pub returns-in-Err-Device-clause-answered : goal.returns-in-Err-Device-clause-answered
returns-in-Err-Device-clause-answered g c = λ old shows. device_failed old c.args.input _ _ (rw c.in-Err-Device.field-0-is at (c.in-Err-Device.ensures.open old shows))

pub returns-in-Err-Store-clause-answered : goal.returns-in-Err-Store-clause-answered
returns-in-Err-Store-clause-answered g c = λ old shows. store_failed old c.args.input _ _ (rw c.in-Err-Store.field-0-is at (c.in-Err-Store.ensures.open old shows))

pub returns-in-Err-Closed-clause-answered : goal.returns-in-Err-Closed-clause-answered
returns-in-Err-Closed-clause-answered g c = λ old shows. absurd (is_open old c.args.input (g.K.SiteKeeper.may c.apply.new.self) (g.K.SiteKeeper.shown c.apply.new.self) (rw c.in-Err-Closed.field-0-is at (c.in-Err-Closed.ensures.open old shows)))
