-- What is known of a text without its front, and of a text cut at its first such byte.
use Rattle.std.proofs.Common.{◌≡◌, ◌≢◌, ℕ, ◌<◌, suc, Bool, true, false, List, [], ◌∷◌, ◌++◌, length, get_or, Option, Some, None, option_map, MatchOption, refl, sym, ap, ◌∙◌, eqb, cond, arith}
use Rattle.std.specs.Borrow.{Bor}
use Rattle.std.specs.Str.Pattern.{FindsTextPrefix, StripsPrefix}
use Rattle.std.proofs.lemmas.Bool.{eqb-true, eq-eqb, ne_eqb}
use Rattle.std.proofs.lemmas.Option.{MatchOption-at_some, MatchOption-at_none, some_pair_parts}
use Rattle.std.proofs.lemmas.Str.Pattern.{IsSplitOnceResult, split_parts}
use Rattle.epc_core.specs.Items.{behind, parted, with_first}

-- ---- behind

pub behind-append : (p rest : List ℕ) → behind p (p ++ rest) ≡ Some rest
behind-append [] rest = refl
behind-append (x ∷ p) rest = rw (eq-eqb x x refl) (behind-append p rest)

pub behind_lacks : (p s : List ℕ) → ((rest : List ℕ) → s ≢ p ++ rest) → behind p s ≡ None
behind_lacks [] s h = absurd (h s refl)
behind_lacks (x ∷ p) [] h = refl
behind_lacks (x ∷ p) (b ∷ bs) h =
    by (eqb b x) refl (behind_lacks p bs)
  where
    by : (t : Bool) → eqb b x ≡ t → (((rest : List ℕ) → bs ≢ p ++ rest) → behind p bs ≡ None) → cond t (behind p bs) None ≡ None
    by true e tail = tail (λ rest q. h rest (let same = eqb-true b x e in cc))
    by false e tail = refl

pub behind_some : (p s rest : List ℕ) → behind p s ≡ Some rest → s ≡ p ++ rest
behind_some [] s rest h = cc
behind_some (x ∷ p) [] rest h = cc
behind_some (x ∷ p) (b ∷ bs) rest h =
    by (eqb b x) refl h (behind_some p bs rest)
  where
    by : (t : Bool) → eqb b x ≡ t → cond t (behind p bs) None ≡ Some rest → (behind p bs ≡ Some rest → bs ≡ p ++ rest) → b ∷ bs ≡ x ∷ (p ++ rest)
    by true e q tail = let same = eqb-true b x e in let behind_it = tail q in cc
    by false e q tail = cc

-- what `strip_prefix` returned
pub strips_some : (p s : List ℕ) (r : Option (Bor (List ℕ))) (x : Bor (List ℕ)) → r ≡ Some x
    → MatchOption r (FindsTextPrefix p s None) (λ y. StripsPrefix (FindsTextPrefix p) s y.now) → behind p s ≡ Some x.now
strips_some p s r x e h =
    let (n, found, rest, _) = MatchOption-at_some _ _ x e h in
    let whole : s ≡ p ++ x.now = found.1 ∙ ap (λ t. p ++ t) (sym rest) in
    ap (behind p) whole ∙ behind-append p x.now

pub strips_none : (p s : List ℕ) (r : Option (Bor (List ℕ))) → r ≡ None
    → MatchOption r (FindsTextPrefix p s None) (λ y. StripsPrefix (FindsTextPrefix p) s y.now) → behind p s ≡ None
strips_none p s r e h = behind_lacks p s (MatchOption-at_none _ _ e h)

-- ---- parted

pub parted-append : (byte : ℕ) (xs ys : List ℕ) → ((i : ℕ) → i < length xs → get_or xs i 0 ≢ byte) → parted byte (xs ++ byte ∷ ys) ≡ Some (xs, ys)
parted-append byte [] ys h = rw (eq-eqb byte byte refl) refl
parted-append byte (x ∷ xs) ys h =
    rw (ne_eqb x byte (h 0 (omega arith)))
    (ap (option_map (with_first x)) (parted-append byte xs ys (λ i l. h (suc i) (omega arith))))

pub parted_lacks : (byte : ℕ) (xs : List ℕ) → ((i : ℕ) → i < length xs → get_or xs i 0 ≢ byte) → parted byte xs ≡ None
parted_lacks byte [] h = refl
parted_lacks byte (x ∷ xs) h =
    rw (ne_eqb x byte (h 0 (omega arith)))
    (ap (option_map (with_first x)) (parted_lacks byte xs (λ i l. h (suc i) (omega arith))))

pub parted_some : (byte : ℕ) (s xs ys : List ℕ) → parted byte s ≡ Some (xs, ys) → s ≡ xs ++ byte ∷ ys
parted_some byte [] xs ys h = cc
parted_some byte (b ∷ bs) xs ys h =
    by (eqb b byte) refl h (parted byte bs) refl (parted_some byte bs)
  where
    later : (o : Option (List ℕ × List ℕ)) → ((us vs : List ℕ) → o ≡ Some (us, vs) → bs ≡ us ++ byte ∷ vs)
        → option_map (with_first b) o ≡ Some (xs, ys) → b ∷ bs ≡ xs ++ byte ∷ ys
    later None tail q = cc
    later (Some (us, vs)) tail q =
        let behind_it = tail us vs refl in
        let parts = some_pair_parts (b ∷ us) xs vs ys q in
        ap (λ t. b ∷ t) behind_it ∙ (λ i. parts.0 i ++ byte ∷ parts.1 i)

    by : (t : Bool) → eqb b byte ≡ t → cond t (Some ([], bs)) (option_map (with_first b) (parted byte bs)) ≡ Some (xs, ys)
        → (o : Option (List ℕ × List ℕ)) → parted byte bs ≡ o → ((us vs : List ℕ) → parted byte bs ≡ Some (us, vs) → bs ≡ us ++ byte ∷ vs)
        → b ∷ bs ≡ xs ++ byte ∷ ys
    by true e q o is tail =
        let same = eqb-true b byte e in
        let parts = some_pair_parts [] xs bs ys q in
        (λ i. same i ∷ bs) ∙ (λ i. parts.0 i ++ byte ∷ parts.1 i)
    by false e q o is tail =
        later o (λ us vs g. tail us vs (is ∙ g)) (ap (option_map (with_first b)) (sym is) ∙ q)

-- what `split_once` returned
pub splits_some : (byte : ℕ) (s : List ℕ) (r : Option (Bor (List ℕ) × Bor (List ℕ))) (x y : Bor (List ℕ)) → r ≡ Some (x, y)
    → byte < 128 → IsSplitOnceResult byte s r → parted byte s ≡ Some (x.now, y.now)
splits_some byte s r x y e small h =
    let found = MatchOption-at_some _ _ (x, y) e (split_parts byte s r h small) in
    ap (parted byte) found.0 ∙ parted-append byte x.now y.now found.1

pub splits_none : (byte : ℕ) (s : List ℕ) (r : Option (Bor (List ℕ) × Bor (List ℕ))) → r ≡ None
    → byte < 128 → IsSplitOnceResult byte s r → parted byte s ≡ None
splits_none byte s r e small h = parted_lacks byte s (MatchOption-at_none _ _ e (split_parts byte s r h small))
