use Rattle.std.proofs.Common.{length, slice_get, ap, subst, ◌∙◌}
use Rattle.trace_core.specs.Looks.{more_looks, LooksAtEach}
use Rattle.trace_core.proofs.VisitSteps.{outs_counted}
use Rattle.trace_core.proofs.books.Book.outs_at.Goals as goal

pub returns-clause-counted : goal.returns-clause-counted
returns-clause-counted c = c.count_looks.ensures.counted ∙ ap (λ n. more_looks n c.args.looks.now) (ap length c.kept_outs-outs.ensures ∙ outs_counted c.args.self.now (slice_get c.args.self.now c.args.place))

pub returns-clause-each : goal.returns-clause-each
returns-clause-each c = subst (λ n. LooksAtEach n c.args.looks.now c.count_looks.new.looks) (ap length c.kept_outs-outs.ensures ∙ outs_counted c.args.self.now (slice_get c.args.self.now c.args.place))
    c.count_looks.ensures.each
