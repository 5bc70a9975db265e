use Rattle.std.proofs.Common.{subst, arith}
use Rattle.std.proofs.lemmas.List.{take_all}
use Rattle.std.proofs.lemmas.Result.{err_from_is_err_and}
use Rattle.script_core.specs.Session.{AnswersOne, FailsInOne}
use Rattle.script_core.proofs.SessionLemmas.{finishes_at_line, finishes_after_line, ends_in_last}
use Rattle.script_core.proofs.sessions.Session.finish.Goals as goal

pub returns-then-end-eq0-clause-ok : goal.returns-then-end-eq0-clause-ok
returns-then-end-eq0-clause-ok g c =
    finishes_at_line c.args.self c.tally.result (g.W.Write.contents c.args.writer.now) (omega arith) c.tally.ensures.lines c.tally.ensures.refused

pub returns-in_err-answer-clause-err : goal.returns-in_err-answer-clause-err
returns-in_err-answer-clause-err g c =
    let p = err_from_is_err_and c.from_residual.result c.from_residual.ensures.1 in
    let whole = take_all c.len-end.result c.args.self.pending (omega arith) in
    rw (p.1, p.2)
    (ends_in_last c.args.self c.in_err-answer.field-0.0 _ _ (omega arith)
    (subst (λ line. FailsInOne c.args.self line c.in_err-answer.field-0.0 (g.W.Write.contents c.args.writer.now) (g.W.Write.contents c.answer.new.writer)) whole c.in_err-answer.ensures.err))

pub returns-clause-ok : goal.returns-clause-ok
returns-clause-ok g c =
    let whole = take_all c.len-end.result c.args.self.pending (omega arith) in
    finishes_after_line c.args.self c.answer.new.self c.tally-2.result (g.W.Write.contents c.args.writer.now) (g.W.Write.contents c.answer.new.writer) (omega arith)
    (subst (λ line. AnswersOne c.args.self line c.answer.new.self (g.W.Write.contents c.args.writer.now) (g.W.Write.contents c.answer.new.writer)) whole c.in_ok-answer.ensures.ok)
    c.tally-2.ensures.lines c.tally-2.ensures.refused
