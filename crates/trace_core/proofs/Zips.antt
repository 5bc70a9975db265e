-- Two lists, place by place.
use Rattle.std.proofs.Common.{◌≡◌, ℕ, ◌+◌, ◌<◌, List, [], ◌∷◌, ◌++◌, length, take, get_or, sym, ap, ◌∙◌, subst}
use Rattle.std.specs.List.{AllZip}
use Rattle.std.proofs.lemmas.List.{take_more}

zip_push : {A B : Type 0} (R : A → B → Type 0) (xs : List A) (ys : List B) (x : A) (y : B) → AllZip R xs ys → R x y → AllZip R (xs ++ x ∷ []) (ys ++ y ∷ [])
zip_push R [] [] x y h r = (r, tt)
zip_push R [] (z ∷ zs) x y h r = absurd h
zip_push R (w ∷ ws) [] x y h r = absurd h
zip_push R (w ∷ ws) (z ∷ zs) x y h r = (h.0, zip_push R ws zs x y h.1 r)

-- one more on both sides
pub zip_more : {A B : Type 0} (R : A → B → Type 0) (xs : List A) (ys : List B) (i : ℕ) (x : A) (y : B) → i < length xs → x ≡ get_or xs i x → AllZip R (take i xs) ys → R x y → AllZip R (take (i + 1) xs) (ys ++ y ∷ [])
zip_more R xs ys i x y below is h r =
    let more : take (i + 1) xs ≡ take i xs ++ x ∷ [] = take_more xs i x below ∙ ap (λ z. take i xs ++ z ∷ []) (sym is) in
    subst (λ l. AllZip R l (ys ++ y ∷ [])) (sym more) (zip_push R (take i xs) ys x y h r)

-- what each holds of, a weaker one holds of
pub zip_weaker : {A B : Type 0} (R S : A → B → Type 0) → ((x : A) (y : B) → R x y → S x y) → (xs : List A) (ys : List B) → AllZip R xs ys → AllZip S xs ys
zip_weaker R S weaker [] [] h = tt
zip_weaker R S weaker [] (y ∷ ys) h = absurd h
zip_weaker R S weaker (x ∷ xs) [] h = absurd h
zip_weaker R S weaker (x ∷ xs) (y ∷ ys) h = (weaker x y h.0, zip_weaker R S weaker xs ys h.1)
