-- Lists by thousands, and a member that is set twice.
use Rattle.std.proofs.Common.{◌≡◌, ℕ, zero, suc, ◌+◌, ◌-◌, ◌*◌, min, Option, List, [], ◌∷◌, ◌++◌, map, take, drop, length, Ordering, Less, Equal, Greater, nat_cmp, refl, sym, ap, ◌∙◌, arith, append_assoc, append-nil}
use Rattle.std.proofs.lemmas.Cmp.{nat_list_cmp_total, tied_itself}
use Rattle.std.proofs.lemmas.List.{drop_min, length-drop, map_push, take_all, take_min}
use Rattle.std.specs.Cmp.Lexicographic.{slice_cmp}
use Rattle.std.specs.List.{enumerate_from, flat_map}
use Rattle.std.specs.Ordering.{match_ordering}
use Rattle.serde_json.specs.Data.{Data, null, boolean, number, string, array, object, Members, no_members, member, put}
use Rattle.serde_json.specs.View.{view}
use Rattle.serde_json.specs.declared.value.Value.{Value}
use Rattle.document_convert.specs.Parted.{numbers, of_each, thousand, with_part_id}
use Rattle.document_convert.specs.Types.{with_member}

-- ---- a member that is set twice

same_text : (xs : List ℕ) → slice_cmp nat_cmp xs xs ≡ Equal
same_text xs = tied_itself nat_list_cmp_total xs

put_twice : (k : List ℕ) (d e : Data) (ms : Members) → put k d (put k e ms) ≡ put k d ms
put_twice k d e no_members = rw (same_text k) refl
put_twice k d e (member l f ms) = by (slice_cmp nat_cmp k l) refl (put_twice k d e ms)
  where
    by : (o : Ordering) → slice_cmp nat_cmp k l ≡ o → put k d (put k e ms) ≡ put k d ms
        → put k d (match_ordering o (member k e (member l f ms)) (member l e ms) (member l f (put k e ms)))
        ≡ match_ordering o (member k d (member l f ms)) (member l d ms) (member l f (put k d ms))
    by Less is later = rw (same_text k) refl
    by Equal is later = rw is refl
    by Greater is later = rw is (ap (member l f) later)

-- what was set first is gone
pub set_twice : (k : List ℕ) (d e v : Data) → with_member k d (with_member k e v) ≡ with_member k d v
set_twice k d e null = refl
set_twice k d e (boolean b) = refl
set_twice k d e (number n) = refl
set_twice k d e (string s) = refl
set_twice k d e (array ds) = refl
set_twice k d e (object ms) = ap object (put_twice k d e ms)

-- ---- numbers

numbers_more : (k n : ℕ) → numbers k (suc n) ≡ numbers k n ++ (k + n) ∷ []
numbers_more k zero = let same : k ≡ k + 0 = omega arith in ap (λ (m : ℕ). m ∷ []) same
numbers_more k (suc n) =
    let later : (k + 1) + n ≡ k + suc n = omega arith in
    ap (λ ns. k ∷ ns) (numbers_more (k + 1) n ∙ ap (λ (m : ℕ). numbers (k + 1) n ++ m ∷ []) later)

map_end : {X : Type 0} (f : ℕ → X) (ns : List ℕ) (n : ℕ) → map f (ns ++ n ∷ []) ≡ map f ns ++ f n ∷ []
map_end f [] n = refl
map_end f (m ∷ ns) n = ap (λ xs. f m ∷ xs) (map_end f ns n)

-- one more
pub each_more : {X : Type 0} (f : ℕ → X) (n : ℕ) → of_each f n ++ f n ∷ [] ≡ of_each f (n + 1)
each_more f n =
    let next : suc n ≡ n + 1 = omega arith in
    let same : 0 + n ≡ n = omega arith in
    sym (map_end f (numbers 0 n) n) ∙ ap (λ (m : ℕ). map f (numbers 0 n ++ m ∷ [])) (sym same) ∙ ap (map f) (sym (numbers_more 0 n)) ∙ ap (of_each f) next

flat_end : {X : Type 0} (f : ℕ → List X) (ns : List ℕ) (n : ℕ) → flat_map f (ns ++ n ∷ []) ≡ flat_map f ns ++ f n
flat_end f [] n = append-nil (f n)
flat_end f (m ∷ ns) n = ap (λ xs. f m ++ xs) (flat_end f ns n) ∙ sym (append_assoc (f m) (flat_map f ns) (f n))

-- a value more
pub more_behind : (front : List Data) (f : ℕ → Data) (old new : List Value) (n : ℕ) (x : Value) → map view old ≡ front ++ of_each f n → new ≡ old ++ x ∷ [] → view x ≡ f n
    → map view new ≡ front ++ of_each f (n + 1)
more_behind front f old new n x so_far is its =
    ap (map view) is ∙ map_push view old x ∙ ap (λ (ds : List Data). ds ++ view x ∷ []) so_far ∙ ap (λ d. (front ++ of_each f n) ++ d ∷ []) its
    ∙ append_assoc front (of_each f n) (f n ∷ []) ∙ ap (λ ds. front ++ ds) (each_more f n)

-- and of lists, one after another
pub flat_more : {X : Type 0} (f : ℕ → List X) (n : ℕ) → flat_map f (numbers 0 n) ++ f n ≡ flat_map f (numbers 0 (n + 1))
flat_more f n =
    let next : suc n ≡ n + 1 = omega arith in
    let same : 0 + n ≡ n = omega arith in
    sym (flat_end f (numbers 0 n) n) ∙ ap (λ (m : ℕ). flat_map f (numbers 0 n ++ m ∷ [])) (sym same) ∙ ap (flat_map f) (sym (numbers_more 0 n)) ∙ ap (λ m. flat_map f (numbers 0 m)) next

-- ---- parts by number

pub numbered_end : (id : Option (List ℕ)) (n : ℕ) (ds : List Data) (d : Data)
    → map (with_part_id id) (enumerate_from n (ds ++ d ∷ [])) ≡ map (with_part_id id) (enumerate_from n ds) ++ with_part_id id (n + length ds, d) ∷ []
numbered_end id n [] d = let same : n ≡ n + 0 = omega arith in ap (λ (k : ℕ). with_part_id id (k, d) ∷ []) same
numbered_end id n (e ∷ ds) d =
    let later : (n + 1) + length ds ≡ n + length (e ∷ ds) = omega arith in
    ap (λ l. with_part_id id (n, e) ∷ l)
    (numbered_end id (n + 1) ds d ∙ ap (λ (k : ℕ). map (with_part_id id) (enumerate_from (n + 1) ds) ++ with_part_id id (k, d) ∷ []) later)

-- ---- thousands

-- a list is cut at its end at the latest, and what is left is at most a thousand
pub thousand_cut : {X : Type 0} (k start n : ℕ) (xs : List X) → start ≡ min (k * 1000) (length xs) → n ≡ min (length (take (length xs - start) (drop start xs))) 1000
    → take n (take (length xs - start) (drop start xs)) ≡ thousand k xs
thousand_cut k start n xs from few =
    let left = length-drop start xs in
    let rest : take (length xs - start) (drop start xs) ≡ drop (k * 1000) xs =
    take_all (length xs - start) (drop start xs) (omega (arith, left)) ∙ ap (λ m. drop m xs) from ∙ drop_min (k * 1000) xs in
    let turned : min (length (drop (k * 1000) xs)) 1000 ≡ min 1000 (length (drop (k * 1000) xs)) = omega arith in
    ap (take n) rest
    ∙ ap (λ m. take m (drop (k * 1000) xs)) (few ∙ ap (λ ys. min (length ys) 1000) rest ∙ turned)
    ∙ take_min 1000 (drop (k * 1000) xs)

pub thousand_mapped : {X Y : Type 0} (f : X → Y) (k : ℕ) (xs : List X) → map f (thousand k xs) ≡ thousand k (map f xs)
thousand_mapped {X} {Y} f k xs = taken 1000 (drop (k * 1000) xs) ∙ ap (take 1000) (dropped (k * 1000) xs)
  where
    taken : (n : ℕ) (ys : List X) → map f (take n ys) ≡ take n (map f ys)
    taken zero ys = refl
    taken (suc n) [] = refl
    taken (suc n) (y ∷ ys) = ap (λ l. f y ∷ l) (taken n ys)

    dropped : (n : ℕ) (ys : List X) → map f (drop n ys) ≡ drop n (map f ys)
    dropped zero ys = refl
    dropped (suc n) [] = refl
    dropped (suc n) (y ∷ ys) = dropped n ys
