use Rattle.wire_core.proofs.Running.{runs_fit, runs_stand}
use Rattle.wire_core.proofs.laws.a_run_fits_and_stands.Goals as goal

pub returns-clause-fit : goal.returns-clause-fit
returns-clause-fit c = runs_fit

pub returns-clause-stand : goal.returns-clause-stand
returns-clause-stand c = runs_stand
