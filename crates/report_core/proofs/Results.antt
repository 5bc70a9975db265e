-- What two clauses of one result give together.
use Rattle.std.proofs.Common.{Ok, Err}
use Rattle.std.specs.declared.result.Result.{Result}
use Rattle.std.specs.Prelude.{IfOk}

pub if_both : {T E : Type 0} (P Q S : T → Type 0) → ((t : T) → P t → Q t → S t) → (r : Result T E) → IfOk r P → IfOk r Q → IfOk r S
if_both P Q S gives (Ok t) p q = gives t p q
if_both P Q S gives (Err e) p q = tt
