-- What holds of an answer, carried over to what follows from it.
use Rattle.std.proofs.Common.{◌≡◌, Result, Ok, Err, OnOk, OnErr, IfOk, subst, sym}
use Rattle.std.specs.Result.{IfErr, IsErrAnd}
use Rattle.std.proofs.lemmas.Result.{err_from_is_err_and}

pub after_ok : {A E P Q : Type 0} (result : Result A E) → (P → Q) → OnOk result P → OnOk result Q
after_ok (Ok a) f p = f p
after_ok (Err e) f p = tt

pub after_err : {A E P Q : Type 0} (result : Result A E) → (P → Q) → OnErr result P → OnErr result Q
after_err (Ok a) f p = tt
after_err (Err e) f p = f p

pub of_value : {A E : Type 0} {P Q : A → Type 0} (result : Result A E) → ((a : A) → P a → Q a) → IfOk result P → IfOk result Q
of_value (Ok a) f p = f a p
of_value (Err e) f p = tt

-- what holds anyway
pub after_fault : {A E P : Type 0} (result : Result A E) → P → OnErr result P
after_fault (Ok a) p = tt
after_fault (Err e) p = p

-- what holds after either answer
pub either_way : {A E P Q S : Type 0} (result : Result A E) → OnOk result P → OnErr result Q → (P → S) → (Q → S) → S
either_way (Ok a) p q f g = f p
either_way (Err e) p q f g = g q

-- what holds of the fault that a call passed on
pub of_fault : {A E : Type 0} (P : E → Type 0) (result : Result A E) (told : E) → IsErrAnd result (λ fault. fault ≡ told) → P told → IfErr result P
of_fault P result told handed holds =
    let (fault, is, same) = err_from_is_err_and result handed in
    subst (λ r. IfErr r P) (sym is) (subst P (sym same) holds)
