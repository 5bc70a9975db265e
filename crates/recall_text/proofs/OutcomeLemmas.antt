-- what the outcome of a call says of its result
use Rattle.std.proofs.Common.{◌≡◌, Option, Some, None, Result, Ok, Err, OnOk, OnErr, refl, ap, subst}
use Rattle.recall_text.specs.Outcomes.{told, unless_memory}

pub was_ok : {X E F : Type 0} (f : E → Option F) (r : Result X E) (x : X) → unless_memory f r ≡ Ok (Ok x) → r ≡ Ok x
was_ok f (Ok y) x h = let same : y ≡ x = cc in ap Ok same
was_ok {X} {E} {F} f (Err e) x h = elim (f e) as (λ o. told {X = X} o ≡ Ok (Ok x) → Err e ≡ Ok x) [ None ↦ λ k. cc | Some fault ↦ λ k. cc ] h

pub was_err : {X E F : Type 0} (f : E → Option F) (r : Result X E) (y : F) → unless_memory f r ≡ Ok (Err y) → (e : E) × (r ≡ Err e) × (f e ≡ Some y)
was_err f (Ok x) y h = cc
was_err {X} {E} {F} f (Err e) y h =
    (e, refl, elim (f e) as (λ o. told {X = X} o ≡ Ok (Err y) → o ≡ Some y) [ None ↦ λ k. cc | Some fault ↦ λ k. let same : fault ≡ y = cc in ap Some same ] h)

pub on_err : {X E F : Type 0} (f : E → Option F) (r : Result X E) (y : F) (P : Type 0) → unless_memory f r ≡ Ok (Err y) → OnErr r P → P
on_err f r y P h held = let (e, is, place) = was_err f r y h in subst (λ x. OnErr x P) is held

pub on_ok : {X E F : Type 0} (f : E → Option F) (r : Result X E) (x : X) (P : Type 0) → unless_memory f r ≡ Ok (Ok x) → OnOk r P → P
on_ok f r x P h held = subst (λ z. OnOk z P) (was_ok f r x h) held
