use Rattle.std.proofs.Common.{refl, sym, subst}
use Rattle.std.proofs.lemmas.List.{length-map}
use Rattle.site_recovery.specs.Checking.{world_at}
use Rattle.site_recovery.specs.Misfits.{IsMisfit}
use Rattle.folder_questions.proofs.audits.audit_world.Goals as goal

pub returns-in-Err-Misfit : goal.returns-in-Err-Misfit
returns-in-Err-Misfit c =
    let refs = c.args.records.now in
    let misfit = c.in-Err-Misfit.misfit in
    rw c.in-Err-Misfit.field-0-is
    (subst (λ n. IsMisfit n (world_at refs) misfit.condition misfit.site) (sym (length-map refs (λ r. r.now))) (rw c.in-Err-Misfit.field-0-is at c.in-Err-Misfit.ensures.fault), refl)
