use Rattle.std.proofs.Common.{◌↔◌, ◌<◌, ℕ, false, get_or, length, subst, sym}
use Rattle.std.specs.Prelude.{IsTrue}
use Rattle.std.proofs.lemmas.Result.{on_ok_weaker}
use Rattle.site_recovery.specs.Checking.{IsWithinAt, world_at}
use Rattle.site_recovery.specs.Fit.{IsJustifiedAt}
use Rattle.site_recovery.specs.Misfits.{TellsUnmet}
use Rattle.site_recovery.proofs.Justified.{FoundParts, errs_alike, found_parts, unmet_alike}
use Rattle.site_recovery.proofs.checking.check_justified.Goals as goal

pub returns-in-Ok-clause-ok : goal.returns-in-Ok-clause-ok
returns-in-Ok-clause-ok c =
    let refs = c.args.sites.now in
    let within = c.as_slice.result.now in
    let exact : (s : ℕ) → s < length refs → IsTrue (get_or within s false) ↔ IsWithinAt refs s =
    λ s below. subst (λ ws. IsTrue (get_or ws s false) ↔ IsWithinAt refs s) (sym c.as_slice.ensures.value) (c.in-Ok.ensures s below) in
    on_ok_weaker c.check.result (λ h s below. (found_parts refs c.requires.all within exact s below).0 (h s below)) c.check.ensures.ok

pub returns-in-Ok-clause-fault : goal.returns-in-Ok-clause-fault
returns-in-Ok-clause-fault c =
    let refs = c.args.sites.now in
    let n = length refs in
    let within = c.as_slice.result.now in
    let exact : (s : ℕ) → s < length refs → IsTrue (get_or within s false) ↔ IsWithinAt refs s =
    λ s below. subst (λ ws. IsTrue (get_or ws s false) ↔ IsWithinAt refs s) (sym c.as_slice.ensures.value) (c.in-Ok.ensures s below) in
    let parts = FoundParts refs c.requires.all within exact in
    errs_alike c.check.result (TellsUnmet 3 n parts) (TellsUnmet 3 n (IsJustifiedAt (world_at refs))) (unmet_alike 3 n parts (IsJustifiedAt (world_at refs)) (found_parts refs c.requires.all within exact)) c.check.ensures.fault
