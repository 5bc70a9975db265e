-- Sites by their names.
use Rattle.std.proofs.Common.{subst, arith, ◌≡◌, ℕ, zero, suc, ◌+◌, ◌<◌, pos, Bool, true, false, Option, List, [], ◌∷◌, ◌++◌, length, map, take, Some, None, refl, sym, ap, ◌∙◌}
use Rattle.std.specs.Prelude.{◌&&◌, IsUtf8, bytes_eq, get_or, is_some, nat_le}
use Rattle.std.specs.List.{enumerate_from, list_all, list_any, slice_get}
use Rattle.std.proofs.lemmas.Bool.Decides.{nat_tests}
use Rattle.std.proofs.lemmas.List.{map-append}
use Rattle.std.proofs.lemmas.List.Quantifiers.{position-Some}
use Rattle.std.proofs.lemmas.List.Sums.{AllPass-from_list_all}
use Rattle.std.proofs.lemmas.Option.{slice_get-get_or}
use Rattle.std.proofs.lemmas.Slice.Eq.{bytes_eq-Decides}
use Rattle.std.proofs.lemmas.Str.{IsUtf8-from_ascii}
use Rattle.std.proofs.lemmas.Str.Ascii.{IsAscii-from_all}
use Rattle.event_json.specs.Sites.{AreSites, Site, is_name_byte, is_site, is_site_name, named, sites_fault}
use Rattle.event_json.proofs.Apart.{neither, is_some-position}
use Rattle.site_core.proofs.Places.{some_stands, taken_more}
use Rattle.site_rows.specs.BadRows.{Tells}
use Rattle.site_rows.specs.PartsInTurn.{IsWritten}
use Rattle.site_rows.specs.RecordRows.{name_of, or_no_name, site_row}
use Rattle.site_rows.proofs.AddressesOfSites.{left, right, stands_good}

-- one more of this name
pub named_more : (sites after names : List Site) (n : ℕ) (name : List ℕ) (texts : List (List ℕ)) (s : Site) → slice_get names n ≡ Some s → s.name ≡ name
    → after ≡ sites ++ record { name = name; addresses = texts } ∷ []
    → map (λ (x : Site). x.name) sites ≡ map (λ (x : Site). x.name) (take n names) → map (λ (x : Site). x.name) after ≡ map (λ (x : Site). x.name) (take (n + 1) names)
named_more sites after names n name texts s at same is so_far =
    let f = λ (x : Site). x.name in
    let new : Site = record { name = name; addresses = texts } in
    ap (map f) is ∙ map-append f sites (new ∷ []) ∙ ap (λ xs. xs ++ name ∷ []) so_far ∙ ap (λ x. map f (take n names) ++ x ∷ []) (sym same)
    ∙ sym (map-append f (take n names) (s ∷ [])) ∙ ap (map f) (sym (taken_more names n s at))

-- the rows of sites say no more than their names
pub rows_of_names : (n : ℕ) (xs ys : List Site) → map (λ (s : Site). s.name) xs ≡ map (λ (s : Site). s.name) ys → map site_row (enumerate_from n xs) ≡ map site_row (enumerate_from n ys)
rows_of_names n [] [] e = refl
rows_of_names n [] (y ∷ ys) e = cc
rows_of_names n (x ∷ xs) [] e = cc
rows_of_names n (x ∷ xs) (y ∷ ys) e =
    let one : x.name ≡ y.name = cc in
    let tail : map (λ (s : Site). s.name) xs ≡ map (λ (s : Site). s.name) ys = cc in
    let rest = rows_of_names (n + 1) xs ys tail in
    λ i. record { no = pos n; name = one i } ∷ rest i

-- what no element answers to, none answers to
none_answers : {X : Type 0} (p : X → Bool) (xs : List X) (k : ℕ) (x : X) → list_any p xs ≡ false → slice_get xs k ≡ Some x → p x ≡ true → ⊥
none_answers p [] k x none at holds = cc
none_answers p (y ∷ ys) zero x none at holds =
    let same : y ≡ x = cc in
    let no : p y ≡ false = (neither (p y) (list_any p ys) none).0 in
    let wrong : true ≡ false = sym holds ∙ ap p (sym same) ∙ no in
    cc
none_answers p (y ∷ ys) (suc k) x none at holds = none_answers p ys k x (neither (p y) (list_any p ys) none).1 at holds

-- the site that a name names has it, and where it names none no site has it
pub name_found : (sites : List Site) (text : List ℕ) (o : Option ℕ) → o ≡ named sites text → Tells o (IsWritten (λ (t : ℕ). t < length sites) (name_of sites) text)
unfolding named
name_found sites text None is =
    λ t w.
    let test = λ (s : Site). bytes_eq s.name text in
    let site = some_stands sites t w.is in
    let name : site.0.name ≡ text = ap or_no_name (sym site.1) ∙ w.same in
    let none : list_any test sites ≡ false = sym (is_some-position test sites) ∙ ap is_some (sym is) in
    none_answers test sites t site.0 none site.1 ((bytes_eq-Decides site.0.name text).1 name)
name_found sites text (Some n) is =
    let none : Site = record { name = []; addresses = [] } in
    let at = position-Some (λ (s : Site). bytes_eq s.name text) sites n none (sym is) in
    record {
      same = ap or_no_name (slice_get-get_or sites n none at.0) ∙ (bytes_eq-Decides (get_or sites n none).name text).0 at.1;
      is = at.0;
    }

-- ---- they are UTF-8
name_byte_small : (b : ℕ) → is_name_byte b ≡ true → b < 128
name_byte_small b h = grind (arith, nat_tests)

name_in_utf8 : (name : List ℕ) → is_site_name name ≡ true → IsUtf8 name
name_in_utf8 name good =
    let bytes = right (nat_le 1 (length name) && nat_le (length name) 16) (list_all is_name_byte name) good in
    IsUtf8-from_ascii name (IsAscii-from_all name (λ k d low. name_byte_small _ (AllPass-from_list_all is_name_byte name bytes k d low)))

-- so a text that isn't can't be the name of one more
pub other_name : (sites : List Site) (name : List ℕ) → (IsUtf8 name → ⊥) → sites_fault sites name [] ≡ None → ⊥
unfolding sites_fault
other_name sites name other free = elim (is_site_name name) as (λ b. is_site_name name ≡ b → ⊥) [
  | true ↦ λ is. other (name_in_utf8 name is)
  | false ↦ λ is. let wrong = rw is at free in cc
] refl

-- and names none of them
pub none_named : (sites : List Site) (text : List ℕ) → AreSites sites → (IsUtf8 text → ⊥) → (t : ℕ) → IsWritten (λ (t : ℕ). t < length sites) (name_of sites) text t → ⊥
none_named sites text are other t w =
    let site = some_stands sites t w.is in
    let good = stands_good is_site sites t site.0 are.good site.1 in
    let name : site.0.name ≡ text = ap or_no_name (sym site.1) ∙ w.same in
    other (subst IsUtf8 name (name_in_utf8 site.0.name (left _ _ (left _ _ good))))
