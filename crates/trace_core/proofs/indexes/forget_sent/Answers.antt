use Rattle.std.proofs.Common.{List, ℕ, ◌∷◌, [], ◌++◌, sym, subst, arith}
use Rattle.trace_core.specs.declared.sendings.Sending.{Sending}
use Rattle.trace_core.specs.Sendings.{HasSent}
use Rattle.trace_core.proofs.SendingSteps.{event_less, none_counted}
use Rattle.trace_core.proofs.indexes.forget_sent.Goals as goal

pub returns-in-Some : goal.returns-in-Some
returns-in-Some c events e has = subst (λ (log : List Sending). HasSent events log c.pop.new.self.items) (sym c.truncate.ensures)
    (event_less events e c.args.sent.now c.pop.new.self.items c.in-Some.before (subst (λ (ns : List ℕ). HasSent (events ++ e ∷ []) c.args.sent.now ns) c.in-Some.ensures.items has))

pub returns-in_default : goal.returns-in_default
returns-in_default c events e has = absurd (none_counted events e c.args.sent.now c.args.counts.now.items (omega (arith, c.in_default.ensures.cases.0, c.args.counts.now.ok)) has)
