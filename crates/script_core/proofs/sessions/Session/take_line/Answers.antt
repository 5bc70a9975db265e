use Rattle.std.proofs.lemmas.Result.{on_ok_weaker, MatchResult-weaker, err_from_is_err_and}
use Rattle.script_core.proofs.SessionLemmas.{goes_taken, ends_taken, ends_to_grow}
use Rattle.script_core.proofs.sessions.Session.take_line.Goals as goal

pub returns-in_err-grow-clause-err : goal.returns-in_err-grow-clause-err
returns-in_err-grow-clause-err g c =
    let p = err_from_is_err_and c.from_residual.result c.from_residual.ensures.1 in
    rw (p.1, p.2) (ends_to_grow c.args.self.now c.args.bytes.now _ _ _ c.requires.within c.in_err-grow.ensures.err)

pub returns-clause-ok : goal.returns-clause-ok
returns-clause-ok g c =
    on_ok_weaker c.end_line.result
    (λ one. goes_taken c.args.self.now c.args.bytes.now c.grow.new.self _ _ _ c.requires.within c.in_ok-grow.ensures.ok.0 c.in_ok-grow.ensures.ok.1 c.grow.ensures.script c.grow.ensures.lines c.grow.ensures.refused one)
    c.end_line.ensures.ok

pub returns-clause-err : goal.returns-clause-err
returns-clause-err g c =
    MatchResult-weaker c.end_line.result c.end_line.ensures.err (λ x held. held)
    (λ fault fails. ends_taken c.args.self.now c.args.bytes.now c.grow.new.self fault _ _ c.requires.within c.in_ok-grow.ensures.ok.0 c.in_ok-grow.ensures.ok.1 c.grow.ensures.script c.grow.ensures.lines c.grow.ensures.refused fails)
