-- Blocks compare as their words do, and words as the numbers that they spell.
use Rattle.std.proofs.Common.{◌≡◌, inl, inr, zero, suc, subst, lit<, ℕ, ◌+◌, ◌*◌, ◌<◌, ◌≤◌, List, [], ◌∷◌, ◌++◌, length, take, drop, get_or, refl, sym, ap, ◌∙◌, nat_cmp, Ordering, arith}
use Rattle.std.specs.declared.cmp.Ordering.TheVariants.{Less, Equal, Greater}
use Rattle.std.specs.Ordering.{ordering_then}
use Rattle.std.specs.Cmp.Lexicographic.{slice_cmp}
use Rattle.std.proofs.Math.Seq.{take-add}
use Rattle.std.proofs.lemmas.Bool.{cases_lt}
use Rattle.std.proofs.lemmas.Bool.Decides.{nat_tests}
use Rattle.std.proofs.lemmas.Cmp.{ranked, tied_itself, nat_cmp_total, nat_list_cmp_total}
use Rattle.std.proofs.lemmas.List.{take-append-drop, get_or-take, get_or-drop, get_or_past, length-take, length-take-le, length-drop, take_all}
use Rattle.std.proofs.lemmas.Map.Lookups.{exact_bytes}
use Rattle.epc_core.specs.Blocks.{word_at, big_endian, word_number}
use Rattle.epc_core.proofs.Compared.{then_assoc, then_decided, slice_cmp-append}

abbrev pub AreBytes : List ℕ → Type 0
AreBytes xs = (k : ℕ) → get_or xs k 0 < 256

-- ---- words as numbers

digits_compared : (a b u v : ℕ) → u < 256 → v < 256 → ordering_then (nat_cmp a b) (nat_cmp u v) ≡ nat_cmp (a * 256 + u) (b * 256 + v)
digits_compared a b u v low also = grind (arith, nat_tests)

numbers_compared : (a b : ℕ) (xs ys : List ℕ) → length xs ≡ length ys → AreBytes xs → AreBytes ys
    → ordering_then (nat_cmp a b) (slice_cmp nat_cmp xs ys) ≡ nat_cmp (big_endian a xs) (big_endian b ys)
numbers_compared a b [] [] e p q = then_equal (nat_cmp a b)
  where
    then_equal : (o : Ordering) → ordering_then o Equal ≡ o
    then_equal Less = refl
    then_equal Equal = refl
    then_equal Greater = refl
numbers_compared a b [] (y ∷ ys) e p q = absurd (omega arith)
numbers_compared a b (x ∷ xs) [] e p q = absurd (omega arith)
numbers_compared a b (x ∷ xs) (y ∷ ys) e p q =
    then_assoc (nat_cmp a b) (nat_cmp x y) _
    ∙ (ap (λ o. ordering_then o (slice_cmp nat_cmp xs ys)) (digits_compared a b x y (p 0) (q 0))
    ∙ numbers_compared (a * 256 + x) (b * 256 + y) xs ys (omega arith) (λ k. p (suc k)) (λ k. q (suc k)))

length-word : (xs : List ℕ) (n i : ℕ) → i + n ≤ length xs → length (word_at n i xs) ≡ n
length-word xs n i within = length-take-le n (drop i xs) (omega (arith, length-drop i xs))

bytes_of_word : (xs : List ℕ) (n i : ℕ) → AreBytes xs → AreBytes (word_at n i xs)
bytes_of_word xs n i p k =
    elim (cases_lt k n) [
      | inl low ↦ subst (λ b. b < 256) (sym (get_or-take n (drop i xs) k 0 low ∙ get_or-drop i xs k 0)) (p (i + k))
      | inr high ↦ subst (λ b. b < 256) (sym (get_or_past (word_at n i xs) k 0 (omega (arith, length-take n (drop i xs))))) (lit< tt)
    ]

-- what is alike in front doesn't count
past : (n : ℕ) (xs ys : List ℕ) → take n xs ≡ take n ys → slice_cmp nat_cmp xs ys ≡ slice_cmp nat_cmp (drop n xs) (drop n ys)
past zero xs ys e = refl
past (suc n) [] [] e = refl
past (suc n) [] (y ∷ ys) e = absurd (let no : ⊥ = cc in no)
past (suc n) (x ∷ xs) [] e = absurd (let no : ⊥ = cc in no)
past (suc n) (x ∷ xs) (y ∷ ys) e =
    let head : x ≡ y = cc in
    let tail : take n xs ≡ take n ys = cc in
    ap (λ o. ordering_then o (slice_cmp nat_cmp xs ys)) (ap (nat_cmp x) (sym head) ∙ tied_itself nat_cmp_total x) ∙ past n xs ys tail

equal_numbers : (a b : ℕ) → nat_cmp a b ≡ Equal → a ≡ b
equal_numbers a b e = ranked a b Equal (sym e)

-- ---- blocks, word by word, behind bytes that are alike

module _ (xs ys : List ℕ) (same : length xs ≡ length ys) (p : AreBytes xs) (q : AreBytes ys) (n i : ℕ) (within : i + n ≤ length xs) (alike : take i xs ≡ take i ys) where
  words : nat_cmp (word_number n i xs) (word_number n i ys) ≡ slice_cmp nat_cmp (word_at n i xs) (word_at n i ys)
  words =
      let lengths = length-word xs n i within ∙ sym (length-word ys n i (omega arith)) in
      sym (numbers_compared 0 0 (word_at n i xs) (word_at n i ys) lengths (bytes_of_word xs n i p) (bytes_of_word ys n i q))

  parts : slice_cmp nat_cmp xs ys ≡ ordering_then (nat_cmp (word_number n i xs) (word_number n i ys)) (slice_cmp nat_cmp (drop n (drop i xs)) (drop n (drop i ys)))
  parts =
      let lengths = length-word xs n i within ∙ sym (length-word ys n i (omega arith)) in
      past i xs ys alike
      ∙ ((λ t. slice_cmp nat_cmp (sym (take-append-drop n (drop i xs)) t) (sym (take-append-drop n (drop i ys)) t))
      ∙ (slice_cmp-append (word_at n i xs) (word_at n i ys) (drop n (drop i xs)) (drop n (drop i ys)) lengths
      ∙ ap (λ o. ordering_then o (slice_cmp nat_cmp (drop n (drop i xs)) (drop n (drop i ys)))) (sym words)))

  -- words that differ decide
  pub word_decides : (word_number n i xs ≡ word_number n i ys → ⊥) → nat_cmp (word_number n i xs) (word_number n i ys) ≡ slice_cmp nat_cmp xs ys
  word_decides differ = sym (parts ∙ then_decided _ _ (λ e. differ (equal_numbers _ _ e)))

  -- behind words that don't differ more bytes are alike
  pub word_alike : word_number n i xs ≡ word_number n i ys → take (i + n) xs ≡ take (i + n) ys
  word_alike equal =
      let level = sym words ∙ (ap (nat_cmp (word_number n i xs)) (sym equal) ∙ tied_itself nat_cmp_total (word_number n i xs)) in
      take-add i n xs ∙ ((λ t. alike t ++ exact_bytes (word_at n i xs) (word_at n i ys) level t) ∙ sym (take-add i n ys))

  -- the last words decide
  pub last_decides : i + n ≡ length xs → nat_cmp (word_number n i xs) (word_number n i ys) ≡ slice_cmp nat_cmp xs ys
  last_decides last =
      words ∙ ((λ t. slice_cmp nat_cmp (take_all n (drop i xs) (omega (arith, length-drop i xs)) t) (take_all n (drop i ys) (omega (arith, length-drop i ys)) t))
      ∙ sym (past i xs ys alike))

-- blocks of which all bytes are alike
pub all_alike : (xs ys : List ℕ) (i : ℕ) → length xs ≡ length ys → i ≡ length xs → take i xs ≡ take i ys → slice_cmp nat_cmp xs ys ≡ Equal
all_alike xs ys i same all alike =
    let equal = sym (take_all i xs (omega arith)) ∙ (alike ∙ take_all i ys (omega arith)) in
    ap (slice_cmp nat_cmp xs) (sym equal) ∙ tied_itself nat_list_cmp_total xs
