use Rattle.std.proofs.Common.{◌≡◌, false, ◌↔◌}
use Rattle.std.specs.List.{Contains}
use Rattle.std.proofs.lemmas.Result.{on_ok_weaker, on_err_weaker, IfOk-weaker}
use Rattle.trace_core.proofs.FoundSteps.{iff_then, widened}
use Rattle.trace_core.proofs.marks.Marks.mark.Goals as goal

pub returns-clause-marked : goal.returns-clause-marked
returns-clause-marked c = on_ok_weaker c.set.result (λ marked n. widened (marked n) (c.give_marks.ensures n)) c.set.ensures.marked

pub returns-clause-new : goal.returns-clause-new
returns-clause-new c = IfOk-weaker c.set.result (λ new. new ≡ false ↔ Contains c.give_marks.new.self c.args.number) (λ new. new ≡ false ↔ Contains c.args.self.now c.args.number)
    (λ new told. iff_then told (c.give_marks.ensures c.args.number)) c.set.ensures.new

pub returns-clause-err : goal.returns-clause-err
returns-clause-err c = on_err_weaker c.set.result (λ same n. iff_then (same n) (c.give_marks.ensures n)) c.set.ensures.err
