use Rattle.std.proofs.Common.{subst, refl}
use Rattle.std.proofs.lemmas.Option.{MatchOption-at_some}
use Rattle.epc_core.specs.Spellings.{IsKey}
use Rattle.epc_core.proofs.Words.{key_of_form_is_key}
use Rattle.epc_core.proofs.items.Epc.from_key.Goals as goal

pub returns-in-Some-clause-found : goal.returns-in-Some-clause-found
returns-in-Some-clause-found c =
    let known = MatchOption-at_some _ _ c.in-Some.form c.in-Some.is c.in_ok-form.ensures.form in
    (λ yes. subst IsKey known.0 (key_of_form_is_key c.in-Some.form known.1), λ key. refl)
