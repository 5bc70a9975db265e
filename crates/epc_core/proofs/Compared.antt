-- Keys compare as the parts of the items' forms do, and texts as themselves with zeros behind them.
use Rattle.std.proofs.Common.{◌≡◌, ℕ, zero, suc, ◌-◌, ◌<◌, true, false, replicate, take, drop, List, [], ◌∷◌, ◌++◌, length, refl, sym, ap, ◌∙◌, nat_cmp, Ordering, arith}
use Rattle.std.specs.declared.cmp.Ordering.TheVariants.{Less, Equal, Greater}
use Rattle.std.specs.Ordering.{ordering_then, is_ne}
use Rattle.std.specs.Cmp.Lexicographic.{slice_cmp}
use Rattle.std.specs.List.{list_all}
use Rattle.std.proofs.lemmas.Bool.{and_parts, leb-true}
use Rattle.std.proofs.lemmas.Bool.Decides.{nat_tests}
use Rattle.std.proofs.lemmas.Cmp.{tied_itself, nat_list_cmp_total}
use Rattle.std.proofs.lemmas.List.{take-append-drop}
use Rattle.epc_core.proofs.Held.{length-front, drop-padded}
use Rattle.epc_core.specs.Blocks.{padded}
use Rattle.epc_core.specs.Items.{is_plain_byte, sgtin_key}

pub then_assoc : (a b c : Ordering) → ordering_then a (ordering_then b c) ≡ ordering_then (ordering_then a b) c
then_assoc Less b c = refl
then_assoc Equal b c = refl
then_assoc Greater b c = refl

pub then_decided : (a b : Ordering) → (a ≡ Equal → ⊥) → ordering_then a b ≡ a
then_decided Less b h = refl
then_decided Equal b h = absurd (h refl)
then_decided Greater b h = refl

pub then_ne : (a b : Ordering) → is_ne a ≡ true → ordering_then a b ≡ a
then_ne Less b h = refl
then_ne Equal b h = absurd (let no : ⊥ = cc in no)
then_ne Greater b h = refl

pub not_ne : (a : Ordering) → is_ne a ≡ false → a ≡ Equal
not_ne Less h = absurd (let no : ⊥ = cc in no)
not_ne Equal h = refl
not_ne Greater h = absurd (let no : ⊥ = cc in no)

pub slice_cmp-append : (a b x y : List ℕ) → length a ≡ length b → slice_cmp nat_cmp (a ++ x) (b ++ y) ≡ ordering_then (slice_cmp nat_cmp a b) (slice_cmp nat_cmp x y)
slice_cmp-append [] [] x y e = refl
slice_cmp-append [] (d ∷ b) x y e = absurd (omega arith)
slice_cmp-append (c ∷ a) [] x y e = absurd (omega arith)
slice_cmp-append (c ∷ a) (d ∷ b) x y e = ap (ordering_then (nat_cmp c d)) (slice_cmp-append a b x y (omega arith)) ∙ then_assoc (nat_cmp c d) _ _

pub slice_cmp-sgtin_key : (a b x y : List ℕ) → length a ≡ 14 → length b ≡ 14 → slice_cmp nat_cmp (sgtin_key a x) (sgtin_key b y) ≡ ordering_then (slice_cmp nat_cmp a b) (slice_cmp nat_cmp x y)
slice_cmp-sgtin_key a b x y e f = slice_cmp-append a b (32 ∷ x) (32 ∷ y) (e ∙ sym f)

-- ---- zeros behind a text

above_zero : (b : ℕ) → is_plain_byte b ≡ true → 0 < b
above_zero b h = let least = leb-true 33 b (and_parts _ _ h).0 in omega arith

zero_less : (b : ℕ) → 0 < b → nat_cmp 0 b ≡ Less
zero_less b h = grind (arith, nat_tests)

zero_greater : (b : ℕ) → 0 < b → nat_cmp b 0 ≡ Greater
zero_greater b h = grind (arith, nat_tests)

zeros_less : (n b : ℕ) (bs : List ℕ) → 0 < b → slice_cmp nat_cmp (replicate n 0) (b ∷ bs) ≡ Less
zeros_less zero b bs h = refl
zeros_less (suc n) b bs h = ap (λ o. ordering_then o (slice_cmp nat_cmp (replicate n 0) bs)) (zero_less b h)

zeros_greater : (n b : ℕ) (bs : List ℕ) → 0 < b → slice_cmp nat_cmp (b ∷ bs) (replicate n 0) ≡ Greater
zeros_greater zero b bs h = refl
zeros_greater (suc n) b bs h = ap (λ o. ordering_then o (slice_cmp nat_cmp bs (replicate n 0))) (zero_greater b h)

-- zeros behind plain texts leave their order as it is
pub padded_compared : (room : ℕ) (xs ys : List ℕ) → list_all is_plain_byte xs ≡ true → list_all is_plain_byte ys ≡ true
    → slice_cmp nat_cmp (padded room xs) (padded room ys) ≡ slice_cmp nat_cmp xs ys
padded_compared room [] [] p q = tied_itself nat_list_cmp_total (padded room [])
padded_compared room [] (y ∷ ys) p q = zeros_less (room - 0) y _ (above_zero y (and_parts _ _ q).0)
padded_compared room (x ∷ xs) [] p q = zeros_greater (room - 0) x _ (above_zero x (and_parts _ _ p).0)
padded_compared room (x ∷ xs) (y ∷ ys) p q =
    let less : room - length (x ∷ xs) ≡ (room - 1) - length xs = omega arith in
    let also : room - length (y ∷ ys) ≡ (room - 1) - length ys = omega arith in
    let tails = padded_compared (room - 1) xs ys (and_parts _ _ p).1 (and_parts _ _ q).1 in
    ap (ordering_then (nat_cmp x y)) ((λ i. slice_cmp nat_cmp (xs ++ replicate (less i) 0) (ys ++ replicate (also i) 0)) ∙ tails)

-- texts compare by their fronts, zeros behind a shorter text, and then by the rest
pub fronts_then_rests : (xs ys : List ℕ) → list_all is_plain_byte xs ≡ true → list_all is_plain_byte ys ≡ true
    → slice_cmp nat_cmp xs ys ≡ ordering_then (slice_cmp nat_cmp (take 30 (padded 30 xs)) (take 30 (padded 30 ys))) (slice_cmp nat_cmp (drop 30 xs) (drop 30 ys))
fronts_then_rests xs ys p q =
    let front = length-front 30 xs in
    let also = length-front 30 ys in
    let whole = slice_cmp-append (take 30 (padded 30 xs)) (take 30 (padded 30 ys)) (drop 30 (padded 30 xs)) (drop 30 (padded 30 ys)) (front ∙ sym also) in
    sym (padded_compared 30 xs ys p q)
    ∙ ((λ i. slice_cmp nat_cmp (sym (take-append-drop 30 (padded 30 xs)) i) (sym (take-append-drop 30 (padded 30 ys)) i))
    ∙ (whole ∙ (λ i. ordering_then (slice_cmp nat_cmp (take 30 (padded 30 xs)) (take 30 (padded 30 ys))) (slice_cmp nat_cmp (drop-padded 30 xs i) (drop-padded 30 ys i)))))
