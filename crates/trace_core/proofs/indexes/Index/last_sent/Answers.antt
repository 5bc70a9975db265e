use Rattle.std.proofs.Common.{◌≡◌, ◌++◌, ◌∷◌, [], ℕ, List, true, length, ltb, sym, subst, arith}
use Rattle.trace_core.specs.Sendings.{HasSent}
use Rattle.trace_core.proofs.SendingSteps.{last_new}
use Rattle.trace_core.proofs.indexes.Index.last_sent.Goals as goal

pub returns-in-Some-clause-new : goal.returns-in-Some-clause-new
returns-in-Some-clause-new c events e has = last_new events e c.args.self.now.sent c.deref.result.now c.in-Some.before.now
    (subst (λ (ns : List ℕ). HasSent (events ++ e ∷ []) c.args.self.now.sent ns) (sym c.deref.ensures.value) has.sent) c.since.ensures.once
    (let test : ltb 0 (length c.deref.result.now) ≡ true = sym c.in-Some.ensures.item.0 in grind (arith, test)) c.in-Some.ensures.item.1 c.since.result.now c.since.ensures.members
