use Rattle.std.proofs.Common.{length, map, subst, sym}
use Rattle.std.proofs.lemmas.List.{length-map}
use Rattle.site_recovery.specs.Looks.{world_of}
use Rattle.site_recovery.specs.Misfits.{IsMisfit, TellsMisfit}
use Rattle.world_core.proofs.forming.records_fit.Goals as goal

pub returns-in-Ok-clause-ok : goal.returns-in-Ok-clause-ok
returns-in-Ok-clause-ok c =
    let all = c.first_other.ensures.all c.in_default.is in
    record { one = c.first_other.ensures.none c.in_default.is; places = λ s below. (all s below).place; fit = c.in-Ok.ensures.ok }

pub returns-in-Err-Misfit-clause-err : goal.returns-in-Err-Misfit-clause-err
returns-in-Err-Misfit-clause-err c =
    let states = c.args.states.now in
    let rs = map (λ s. s.now) states in
    let misfit = c.in-Err-Misfit.misfit in (
      c.first_other.ensures.none c.in_default.is,
      subst (λ n. IsMisfit n (world_of rs) misfit.condition misfit.site) (sym (length-map states (λ s. s.now))) (subst (TellsMisfit (length states) (world_of rs)) c.in-Err-Misfit.field-0-is c.in-Err-Misfit.ensures.fault),
    )
