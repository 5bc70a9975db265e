-- Whether a text stands in a key.
use Rattle.std.proofs.Common.{◌≡◌, ℕ, ◌+◌, Bool, true, false, ◌||◌, List, [], ◌∷◌, ◌++◌, length, take, drop, None, refl, sym, ap, ◌∙◌, arith, append_assoc}
use Rattle.std.specs.Cmp.Lexicographic.{bytes_decides}
use Rattle.std.specs.List.{starts_with}
use Rattle.std.specs.Prelude.{nat_eq}
use Rattle.std.specs.Str.Pattern.{FindsText, HasMatch}
use Rattle.std.proofs.lemmas.Bool.{false_from_ne_true}
use Rattle.std.proofs.lemmas.List.{drop_at, take-append-drop, take_at, length-append}
use Rattle.query_core.specs.KnownItems.{IsInside}
use Rattle.query_core.specs.Mentions.{is_inside}

begins : (text rest : List ℕ) → starts_with nat_eq (text ++ rest) text ≡ true
begins text rest = (bytes_decides text (take (length text) (text ++ rest))).1 (sym (take_at text rest (length text) refl))

begins_is : (text key : List ℕ) → starts_with nat_eq key text ≡ true → key ≡ text ++ drop (length text) key
begins_is text key is =
    let front : text ≡ take (length text) key = (bytes_decides text (take (length text) key)).0 is in
    sym (take-append-drop (length text) key) ∙ ap (λ z. z ++ drop (length text) key) (sym front)

begins_here : (text key : List ℕ) → starts_with nat_eq key text ≡ true → is_inside text key ≡ true
begins_here text [] is = is
begins_here text (b ∷ bs) is = ap (λ t. t || is_inside text bs) is

or_right : (a b : Bool) → b ≡ true → (a || b) ≡ true
or_right true b e = refl
or_right false b e = e

behind : (text front rest : List ℕ) → is_inside text (front ++ text ++ rest) ≡ true
behind text [] rest = begins_here text (text ++ rest) (begins text rest)
behind text (b ∷ bs) rest = or_right (starts_with nat_eq (b ∷ (bs ++ text ++ rest)) text) (is_inside text (bs ++ text ++ rest)) (behind text bs rest)

pub found_inside : (text key : List ℕ) → IsInside text key → is_inside text key ≡ true
found_inside text key (front, rest, is) = ap (is_inside text) is ∙ behind text front rest

pub inside_found : (text key : List ℕ) → is_inside text key ≡ true → IsInside text key
inside_found text [] is = ([], drop (length text) [], begins_is text [] is)
inside_found text (b ∷ bs) is = elim (starts_with nat_eq (b ∷ bs) text) as (λ t. starts_with nat_eq (b ∷ bs) text ≡ t → (t || is_inside text bs) ≡ true → IsInside text (b ∷ bs)) [
  | true ↦ λ first _. ([], drop (length text) (b ∷ bs), begins_is text (b ∷ bs) first)
  | false ↦ λ _ later. let (front, rest, at) = inside_found text bs later in (b ∷ front, rest, ap (λ z. b ∷ z) at)
] refl is

-- where the search finds it
pub match_inside : (text key : List ℕ) → HasMatch (FindsText text) key → is_inside text key ≡ true
match_inside text key (i, j, found, _, _) =
    found_inside text key (take i key, drop j key, sym (take-append-drop i key) ∙ ap (λ z. take i key ++ z) found.1.split ∙ sym (append_assoc (take i key) text (drop j key)))

-- where it finds nothing
pub none_inside : (text key : List ℕ) → FindsText text key None → is_inside text key ≡ false
none_inside text key none = false_from_ne_true (is_inside text key) (λ is.
    let (front, rest, at) = inside_found text key is in
    let parts : key ≡ front ++ (text ++ rest) = at ∙ append_assoc front text rest in
    let whole : length key ≡ length front + length (text ++ rest) = ap length parts ∙ length-append front (text ++ rest) in
    none (length front) (omega (arith, whole)) rest (ap (drop (length front)) parts ∙ drop_at front (text ++ rest) (length front) refl))
