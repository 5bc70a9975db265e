-- Sums over records, one after another.
use Rattle.std.proofs.Common.{◌≡◌, ℕ, ◌+◌, ◌<◌, List, [], ◌∷◌, ◌++◌, length, take, map, get_or, Some, slice_get, zero, suc, refl, sym, ap, ◌∙◌, arith}
use Rattle.std.specs.List.{flat_map, sum_by}
use Rattle.std.proofs.lemmas.List.{map_push, take_more}
use Rattle.std.proofs.lemmas.List.Sums.{sum_by-append, sum_by-cons, sum_by_push}
use Rattle.site_core.specs.Records.{Record}

-- that of one more
pub more_sum : {X : Type 0} (f : X → Record) (g : Record → ℕ) (xs : List X) (i : ℕ) (x : X) (old new : ℕ) → i < length xs → x ≡ get_or xs i x
    → old ≡ sum_by g (map f (take i xs)) → new ≡ old + g (f x) → new ≡ sum_by g (map f (take (i + 1) xs))
more_sum f g xs i x old new below is was added =
    let more : take (i + 1) xs ≡ take i xs ++ x ∷ [] = take_more xs i x below ∙ ap (λ z. take i xs ++ z ∷ []) (sym is) in
    added ∙ ap (λ o. o + g (f x)) was ∙ sym (sum_by_push g (map f (take i xs)) (f x)) ∙ ap (sum_by g) (sym (map_push f (take i xs) x))
    ∙ ap (λ zs. sum_by g (map f zs)) (sym more)

-- a sum over what each record has is the sum of the records' sums
pub sum_of_sums : {X : Type 0} (at : Record → List X) (f : X → ℕ) (g : Record → ℕ) → ((r : Record) → sum_by f (at r) ≡ g r) → (rs : List Record) → sum_by f (flat_map at rs) ≡ sum_by g rs
sum_of_sums at f g each [] = refl
sum_of_sums at f g each (r ∷ rs) = sum_by-append f (at r) (flat_map at rs) ∙ ap (λ n. n + sum_by f (flat_map at rs)) (each r) ∙ ap (λ n. g r + n) (sum_of_sums at f g each rs) ∙ sym (sum_by-cons g r rs)

pub sum_of_none : (g : Record → ℕ) (rs : List Record) → ((j : ℕ) (r : Record) → slice_get rs j ≡ Some r → g r ≡ 0) → sum_by g rs ≡ 0
sum_of_none g [] none = refl
sum_of_none g (r ∷ rs) none = omega (arith, sum_by-cons g r rs, none zero r refl, sum_of_none g rs (λ j s at. none (suc j) s at))
