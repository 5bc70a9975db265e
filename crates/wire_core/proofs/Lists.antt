-- Lists by place and by what they contain, and the frames that go one way.
use Rattle.std.proofs.Common.{◌≡◌, ℕ, zero, suc, ◌<◌, ⊎_elim, Bool, true, false, true≢false, ◌&&◌, cond, nat_eq, List, [], ◌∷◌, ◌++◌, map, flat_map, length, get_or, set, Contains, sym, refl, ap, ◌∙◌, subst, arith, append-nil, eq-eqb}
use Rattle.std.proofs.lemmas.List.{map-set}
use Rattle.std.proofs.lemmas.List.Elements.{Contains-append_left, Contains-append_right, Contains-append_cases, All-contains, All-filter, All-contains_itself, filter_passes, filter-append}
use mathlib.Core.Option.{some, some-injective, some-ne-none}
use lib.ListN.{get_elem?}
use Rattle.atomic_table.proofs.Lists.{at_index, at_map, set_here, set_again}
use Rattle.frame_core.specs.declared.frames.Frame.{Frame}
use Rattle.wire_core.specs.Frames.{sender, way}
use Rattle.world_core.specs.Turns.{addressee}

module _ {A : Type 0} where
  pub there : (l : List A) (i : ℕ) → i < length l → (a : A) × (get_elem? l i ≡ some a)
  there [] i h = absurd (omega arith)
  there (x ∷ xs) zero h = (x, refl)
  there (x ∷ xs) (suc i) h = there xs i (omega arith)

  pub within : (l : List A) (i : ℕ) (a : A) → get_elem? l i ≡ some a → i < length l
  within [] i a e = absurd (some-ne-none a (sym e))
  within (x ∷ xs) zero a e = omega arith
  within (x ∷ xs) (suc i) a e = let h = within xs i a e in omega arith

  pub index_is : (l : List A) (i : ℕ) (a d : A) → get_elem? l i ≡ some a → get_or l i d ≡ a
  index_is [] i a d e = absurd (some-ne-none a (sym e))
  index_is (x ∷ xs) zero a d e = some-injective x a e
  index_is (x ∷ xs) (suc i) a d e = index_is xs i a d e

  pub one_there : (l : List A) (i : ℕ) (a b : A) → get_elem? l i ≡ some a → get_elem? l i ≡ some b → a ≡ b
  one_there l i a b e f = some-injective a b (sym e ∙ f)

  pub set_at : (l : List A) (i : ℕ) (a b : A) → get_elem? l i ≡ some a → get_elem? (set l i b) i ≡ some b
  set_at l i a b e = set_here l i b (within l i a e)

  pub Contains_at : (l : List A) (i : ℕ) (a : A) → get_elem? l i ≡ some a → Contains l a
  Contains_at l i a e = (i, within l i a e, index_is l i a a e)

  pub at_Contains : (l : List A) (a : A) → Contains l a → (i : ℕ) × (get_elem? l i ≡ some a)
  at_Contains l a c = (c.0, at_index l c.0 a c.1 (sym c.2))

module _ {A B : Type 0} (f : A → B) where
  unmap_at : (l : List A) (i : ℕ) (y : B) → get_elem? (map f l) i ≡ some y → (x : A) × (get_elem? l i ≡ some x) × (f x ≡ y)
  unmap_at [] i y e = absurd (some-ne-none y (sym e))
  unmap_at (x ∷ xs) zero y e = (x, refl, some-injective (f x) y e)
  unmap_at (x ∷ xs) (suc i) y e = unmap_at xs i y e

  pub Contains_map : (l : List A) (x : A) → Contains l x → Contains (map f l) (f x)
  Contains_map l x c = let p = at_Contains l x c in Contains_at (map f l) p.0 (f x) (at_map f l p.0 x p.1)

  pub map_Contains : (l : List A) (y : B) → Contains (map f l) y → (x : A) × Contains l x × (f x ≡ y)
  map_Contains l y c = let p = at_Contains (map f l) y c in let q = unmap_at l p.0 y p.1 in (q.0, Contains_at l p.0 q.0 q.1, q.2)

  pub map_set_same : (l : List A) (i : ℕ) (a b : A) → get_elem? l i ≡ some a → f b ≡ f a → map f (set l i b) ≡ map f l
  map_set_same l i a b e same = map-set f l i b ∙ set_again (map f l) i (f b) (at_map f l i a e ∙ ap some (sym same))

module _ {A B : Type 0} (F : A → List B) where
  pub flat_set_same : (l : List A) (i : ℕ) (a b : A) → get_elem? l i ≡ some a → F b ≡ F a → flat_map F (set l i b) ≡ flat_map F l
  flat_set_same [] i a b e same = refl
  flat_set_same (x ∷ xs) zero a b e same = ap (λ (ys : List B). ys ++ flat_map F xs) (same ∙ ap F (sym (some-injective x a e)))
  flat_set_same (x ∷ xs) (suc i) a b e same = ap (λ (ys : List B). F x ++ ys) (flat_set_same xs i a b e same)

  pub in_flat : (l : List A) (i : ℕ) (a : A) (y : B) → get_elem? l i ≡ some a → Contains (F a) y → Contains (flat_map F l) y
  in_flat [] i a y e c = absurd (some-ne-none a (sym e))
  in_flat (x ∷ xs) zero a y e c = Contains-append_left (F x) (flat_map F xs) y (subst (λ (z : A). Contains (F z) y) (sym (some-injective x a e)) c)
  in_flat (x ∷ xs) (suc i) a y e c = Contains-append_right (F x) (flat_map F xs) y (in_flat xs i a y e c)

  pub from_flat : (l : List A) (y : B) → Contains (flat_map F l) y → (i : ℕ) × (a : A) × (get_elem? l i ≡ some a) × Contains (F a) y
  from_flat [] y c = let h = c.1 in absurd (omega arith)
  from_flat (x ∷ xs) y c =
      ⊎_elim
      (λ (d : Contains (F x) y). (0, x, refl, d))
      (λ (d : Contains (flat_map F xs) y). let r = from_flat xs y d in (suc r.0, r.1, r.2, r.3))
      (Contains-append_cases (F x) (flat_map F xs) y c)

both_true : (a b : Bool) → (a && b) ≡ true → (a ≡ true) × (b ≡ true)
both_true true b e = (refl, e)
both_true false b e = absurd (true≢false (sym e))

module _ (from to : ℕ) (frames : List Frame) (f : Frame) where
  pub way_more : (sender f) ≡ from → (addressee f) ≡ to → way from to (frames ++ f ∷ []) ≡ way from to frames ++ f ∷ []
  way_more a b = filter-append (λ g. nat_eq (sender g) from && nat_eq (addressee g) to) frames (f ∷ []) ∙ ap (λ (t : Bool). way from to frames ++ cond t (f ∷ []) []) (ap (λ (t : Bool). t && nat_eq (addressee f) to) (eq-eqb _ _ a) ∙ eq-eqb _ _ b)

  pub way_other : (nat_eq (sender f) from && nat_eq (addressee f) to) ≡ false → way from to (frames ++ f ∷ []) ≡ way from to frames
  way_other e = filter-append (λ g. nat_eq (sender g) from && nat_eq (addressee g) to) frames (f ∷ []) ∙ ap (λ (t : Bool). way from to frames ++ cond t (f ∷ []) []) e ∙ append-nil (way from to frames)

  pub in_way : Contains (way from to frames) f → Contains frames f × ((sender f) ≡ from) × ((addressee f) ≡ to)
  in_way c =
      let p : Frame → Bool = λ g. nat_eq (sender g) from && nat_eq (addressee g) to in
      let passed = both_true _ _ (All-contains (λ g. p g ≡ true) (way from to frames) f (filter_passes p frames) c) in
      (All-contains (Contains frames) (way from to frames) f (All-filter p (Contains frames) frames (All-contains_itself frames)) c, true_eq passed.0, true_eq passed.1)
    where
      true_eq : {a b : ℕ} → nat_eq a b ≡ true → a ≡ b
      true_eq {a} {b} e = grind arith
