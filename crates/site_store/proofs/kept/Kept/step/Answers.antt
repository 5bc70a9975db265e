use Rattle.std.proofs.Common.{◌≡◌, IfErr, Err, sym, ap, subst, ◌∙◌}
use Rattle.sqlite.specs.Held.{state}
use Rattle.site_store.specs.Faults.{IsCaused}
use Rattle.site_store.specs.StepTried.{Tried, StepsTo, LeavesTried, FailsTried}
use Rattle.site_store.specs.declared.kept.Kept.{Kept}
use Rattle.site_store.specs.declared.standing.Untaken.{Untaken}
use Rattle.site_store.specs.declared.standing.Untaken.TheVariants.{Failed}
use Rattle.site_store.proofs.Caused.{closing_caused}
use Rattle.site_store.proofs.KeptFailures.{closed_step, closed_keeps}
use Rattle.site_store.proofs.kept.Kept.step.Goals as goal

pub returns-in-Err-Failed-clause-steps : goal.returns-in-Err-Failed-clause-steps
returns-in-Err-Failed-clause-steps g c =
    let mid = c.step.new.self in
    let is : c.step.result ≡ Err (Failed c.in-Err-Failed.error) = c.in-Err-Failed.is ∙ ap (λ (e : Untaken). let r : Tried = Err e in r) c.in-Err-Failed.field-0-is in
    let steps = subst (λ (r : Tried). StepsTo c.args.self.now.standing c.args.input r mid) is c.step.ensures.steps in
    closed_step c.args.self.now c.close.new.self mid c.args.input c.close.result steps.0 steps.1 c.close.ensures.kind c.close.ensures.closed

pub returns-in-Err-Failed-clause-disk : goal.returns-in-Err-Failed-clause-disk
returns-in-Err-Failed-clause-disk g c = λ clean it.
    let mid = c.step.new.self in
    let after = state g.S.Store c.step.new.conn in
    let is : c.step.result ≡ Err (Failed c.in-Err-Failed.error) = c.in-Err-Failed.is ∙ ap (λ (e : Untaken). let r : Tried = Err e in r) c.in-Err-Failed.field-0-is in
    closed_keeps c.close.new.self mid c.close.result after c.close.ensures.kind (ap (λ (k : Kept). k.standing) c.close.ensures.closed)
    (subst (λ (r : Tried). LeavesTried mid r after) is (c.step.ensures.disk clean it))

pub returns-in-Err-Failed-clause-cause : goal.returns-in-Err-Failed-clause-cause
returns-in-Err-Failed-clause-cause g c = λ clean it.
    let old = state g.S.Store c.args.conn.now in
    let new = state g.S.Store c.step.new.conn in
    let is : c.step.result ≡ Err (Failed c.in-Err-Failed.error) = c.in-Err-Failed.is ∙ ap (λ (e : Untaken). let r : Tried = Err e in r) c.in-Err-Failed.field-0-is in
    let why = subst (λ (r : Tried). IfErr r (FailsTried old new)) is (c.step.ensures.cause clean it) in
    subst (IsCaused old new) (sym c.close.ensures.is) (closing_caused old new c.in-Err-Failed.error it.is_open why)
