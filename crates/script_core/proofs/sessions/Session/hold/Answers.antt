use Rattle.std.proofs.lemmas.Result.{on_ok_weaker, MatchResult-weaker}
use Rattle.script_core.proofs.SessionLemmas.{goes_held, ends_held}
use Rattle.script_core.proofs.sessions.Session.hold.Goals as goal

pub returns-clause-ok : goal.returns-clause-ok
returns-clause-ok c =
    on_ok_weaker c.grow.result
    (λ grown before. goes_held c.args.self.now c.args.bytes.now c.grow.new.self before c.requires.within grown.0 grown.1 c.grow.ensures.script c.grow.ensures.lines c.grow.ensures.refused)
    c.grow.ensures.ok

pub returns-clause-err : goal.returns-clause-err
returns-clause-err c =
    MatchResult-weaker c.grow.result c.grow.ensures.err (λ x held. held) (λ fault fails before. ends_held c.args.self.now c.args.bytes.now fault before c.requires.within fails)
