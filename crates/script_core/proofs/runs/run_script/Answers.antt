use Rattle.std.proofs.lemmas.Result.{err_from_is_err_and}
use Rattle.script_core.proofs.ReaderLemmas.{leaves_nothing}
use Rattle.script_core.proofs.runs.run_script.Goals as goal

pub returns-in_err-buffer-clause-fault : goal.returns-in_err-buffer-clause-fault
returns-in_err-buffer-clause-fault g c =
    let p = err_from_is_err_and c.from_residual.result c.from_residual.ensures.1 in
    rw (p.1, p.2) (leaves_nothing _ _)

pub returns-in_err-session-clause-fault : goal.returns-in_err-session-clause-fault
returns-in_err-session-clause-fault g c =
    let p = err_from_is_err_and c.from_residual-in_err-session.result c.from_residual-in_err-session.ensures.1 in
    rw (p.1, p.2) (leaves_nothing _ _)
