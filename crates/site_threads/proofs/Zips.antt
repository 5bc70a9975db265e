-- Lists that are related place by place.
use Rattle.std.proofs.Common.{◌≡◌, ℕ, suc, ◌<◌, List, [], ◌∷◌, ◌++◌, All, length, get_or, map, sym, ap, subst, refl, arith}
use Rattle.std.proofs.lemmas.List.Elements.{All-nil, All-cons, All-head, All-tail}
use Rattle.std.specs.List.{AllZip}

module _ {A B : Type 0} (R : A → B → Type 0) where
  zip_push : (xs : List A) (ys : List B) (x : A) (y : B) → AllZip R xs ys → R x y → AllZip R (xs ++ x ∷ []) (ys ++ y ∷ [])
  zip_push [] [] x y z r = (r, tt)
  zip_push (a ∷ al) (b ∷ bs) x y z r = (z.0, zip_push al bs x y z.1 r)
  zip_push [] (b ∷ bs) x y z r = absurd z
  zip_push (a ∷ al) [] x y z r = absurd z

  pub zipped_more : (xs : List A) (ys : List B) (x : A) (y : B) (more : List B) → AllZip R xs ys → R x y → more ≡ ys ++ y ∷ [] → AllZip R (xs ++ x ∷ []) more
  zipped_more xs ys x y more z r is = subst (λ l. AllZip R (xs ++ x ∷ []) l) (sym is) (zip_push xs ys x y z r)

  pub as_long : (xs : List A) (ys : List B) → AllZip R xs ys → length ys ≡ length xs
  as_long [] [] z = refl
  as_long (x ∷ xs) (y ∷ ys) z = ap suc (as_long xs ys z.1)
  as_long [] (y ∷ ys) z = absurd z
  as_long (x ∷ xs) [] z = absurd z

  pub all_right : (P : B → Type 0) (xs : List A) (ys : List B) → ((x : A) (y : B) → R x y → P y) → AllZip R xs ys → All P ys
  all_right P [] [] f z = All-nil P
  all_right P [] (y ∷ ys) f z = absurd z
  all_right P (x ∷ xs) [] f z = absurd z
  all_right P (x ∷ xs) (y ∷ ys) f z = All-cons P y ys (f x y z.0) (all_right P xs ys f z.1)

  -- what each of the one list has leads to what each of the other one has
  pub all_carried : (P : A → Type 0) (Q : B → Type 0) (xs : List A) (ys : List B) → ((x : A) (y : B) → P x → R x y → Q y) → All P xs → AllZip R xs ys → All Q ys
  all_carried P Q [] [] f all z = All-nil Q
  all_carried P Q [] (y ∷ ys) f all z = absurd z
  all_carried P Q (x ∷ xs) [] f all z = absurd z
  all_carried P Q (x ∷ xs) (y ∷ ys) f all z = All-cons Q y ys (f x y (All-head P x xs all) z.0) (all_carried P Q xs ys f (All-tail P x xs all) z.1)

  -- where both lists are of the same list, place by place, they are of each other
  pub zip_through : {C : Type 0} (S : B → C → Type 0) (T : A → C → Type 0) (xs : List A) (ys : List B) (zs : List C) → ((x : A) (y : B) (z : C) → R x y → S y z → T x z) → AllZip R xs ys → AllZip S ys zs → AllZip T xs zs
  zip_through S T [] [] [] f a b = tt
  zip_through S T (x ∷ xs) (y ∷ ys) (z ∷ zs) f a b = (f x y z a.0 b.0, zip_through S T xs ys zs f a.1 b.1)
  zip_through S T [] (y ∷ ys) zs f a b = absurd a
  zip_through S T (x ∷ xs) [] zs f a b = absurd a
  zip_through S T [] [] (z ∷ zs) f a b = absurd b
  zip_through S T (x ∷ xs) (y ∷ ys) [] f a b = absurd b

  pub zip_beside : {C : Type 0} (S : A → C → Type 0) (T : B → C → Type 0) (xs : List A) (ys : List B) (zs : List C) → ((x : A) (y : B) (z : C) → R x y → S x z → T y z) → AllZip R xs ys → AllZip S xs zs → AllZip T ys zs
  zip_beside S T [] [] [] f a b = tt
  zip_beside S T (x ∷ xs) (y ∷ ys) (z ∷ zs) f a b = (f x y z a.0 b.0, zip_beside S T xs ys zs f a.1 b.1)
  zip_beside S T [] (y ∷ ys) zs f a b = absurd a
  zip_beside S T (x ∷ xs) [] zs f a b = absurd a
  zip_beside S T [] [] (z ∷ zs) f a b = absurd b
  zip_beside S T (x ∷ xs) (y ∷ ys) [] f a b = absurd b

module _ {A : Type 0} (R : A → A → Type 0) where
  -- place by place
  pub zip_from : (xs ys : List A) → length ys ≡ length xs → ((i : ℕ) (d : A) → i < length xs → R (get_or xs i d) (get_or ys i d)) → AllZip R xs ys
  zip_from [] [] n f = tt
  zip_from [] (y ∷ ys) n f = absurd (omega arith)
  zip_from (x ∷ xs) [] n f = absurd (omega arith)
  zip_from (x ∷ xs) (y ∷ ys) n f = (f 0 x (omega arith), zip_from xs ys (omega arith) (λ i d h. f (suc i) d (omega arith)))

  pub same_map : {B : Type 0} (g : A → B) (xs ys : List A) → ((x y : A) → R x y → g y ≡ g x) → AllZip R xs ys → map g ys ≡ map g xs
  same_map g [] [] f z = refl
  same_map g [] (y ∷ ys) f z = absurd z
  same_map g (x ∷ xs) [] f z = absurd z
  same_map g (x ∷ xs) (y ∷ ys) f z = λ i. f x y z.0 i ∷ same_map g xs ys f z.1 i
