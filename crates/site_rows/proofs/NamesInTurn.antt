-- Rows of sites, read in turn.
use Rattle.std.proofs.Common.{◌≡◌, ℕ, suc, ◌+◌, ◌<◌, ◌≤◌, pos, Bool, true, false, List, [], ◌∷◌, ◌++◌, map, length, take, Some, None, refl, sym, ap, subst, ◌∙◌, append_assoc, arith, length-append}
use Rattle.std.specs.Prelude.{nat_le, bytes_eq, is_some}
use Rattle.std.specs.List.{enumerate_from, slice_get, list_all, list_any}
use Rattle.std.specs.Cmp.Lexicographic.{nat_list_eq_equiv}
use Rattle.std.proofs.lemmas.List.{append-nil}
use Rattle.event_json.specs.Sites.{Site, AreSites, is_site, is_site_name, named, repeats, sites_fault}
use Rattle.event_json.proofs.Apart.{neither, no_or, any_mapped, is_some-position}
use Rattle.site_core.proofs.Places.{taken_more}
use Rattle.site_rows.specs.Appending.{named_only}
use Rattle.site_rows.specs.BadRows.{Begins, IsFirstBad, IsSiteTable}
use Rattle.site_rows.specs.RecordRows.{site_row}
use Rattle.site_rows.specs.declared.rows.SiteRow.{SiteRow}
use Rattle.site_rows.proofs.AddressesOfSites.{left, right}

-- the sites of rows with one more: those of the rows, that one's, and the others
record Parted (n : ℕ) (names : List Site) (r : SiteRow) (ss : List Site) : Type 0 where
  front : List Site
  site : Site
  back : List Site
  parts : ss ≡ front ++ site ∷ back
  same : map (λ (s : Site). s.name) front ≡ map (λ (s : Site). s.name) names
  row : r ≡ site_row (n + length names, site)

parted : (n : ℕ) (names : List Site) (r : SiteRow) (more : List SiteRow) (ss : List Site) → map site_row (enumerate_from n names) ++ r ∷ more ≡ map site_row (enumerate_from n ss) → Parted n names r ss
parted n [] r more [] e = cc
parted n [] r more (s ∷ ss) e =
    let row : r ≡ site_row (n, s) = cc in
    let at : n ≡ n + 0 = omega arith in
    record { front = []; site = s; back = ss; parts = refl; same = refl; row = row ∙ ap (λ k. site_row (k, s)) at }
parted n (x ∷ names) r more [] e = cc
parted n (x ∷ names) r more (s ∷ ss) e =
    let head : site_row (n, x) ≡ site_row (n, s) = cc in
    let tail : map site_row (enumerate_from (n + 1) names) ++ r ∷ more ≡ map site_row (enumerate_from (n + 1) ss) = cc in
    let rest = parted (n + 1) names r more ss tail in
    let one : s.name ≡ x.name = ap (λ (q : SiteRow). q.name) (sym head) in
    let at : n + 1 + length names ≡ n + suc (length names) = omega arith in
    record {
      front = s ∷ rest.front;
      site = rest.site;
      back = rest.back;
      parts = ap (λ xs. s ∷ xs) rest.parts;
      same = (λ i. one i ∷ rest.same i);
      row = rest.row ∙ ap (λ k. site_row (k, rest.site)) at;
    }

good_there : (p : Site → Bool) (front : List Site) (s : Site) (back : List Site) → list_all p (front ++ s ∷ back) ≡ true → p s ≡ true
good_there p [] s back all = left (p s) (list_all p back) all
good_there p (f ∷ front) s back all = good_there p front s back (right (p f) (list_all p (front ++ s ∷ back)) all)

any_there : (p : List ℕ → Bool) (front : List Site) (s : Site) (back : List Site) → list_any p (map (λ (x : Site). x.name) (front ++ s ∷ back)) ≡ false → p s.name ≡ false
any_there p [] s back none = (neither (p s.name) _ none).0
any_there p (f ∷ front) s back none = any_there p front s back (neither (p f.name) _ none).1

pub new_there : (front : List Site) (s : Site) (back : List Site) → repeats (map (λ (x : Site). x.name) (front ++ s ∷ back)) ≡ false → list_any (λ t. bytes_eq t s.name) (map (λ (x : Site). x.name) front) ≡ false
new_there [] s back once = refl
new_there (f ∷ front) s back once =
    let parts = neither (list_any (λ t. bytes_eq t f.name) (map (λ (x : Site). x.name) (front ++ s ∷ back))) (repeats (map (λ (x : Site). x.name) (front ++ s ∷ back))) once in
    let apart : bytes_eq f.name s.name ≡ false = nat_list_eq_equiv.symm f.name s.name ∙ any_there (λ t. bytes_eq t f.name) front s back parts.0 in
    no_or (bytes_eq f.name s.name) (list_any (λ t. bytes_eq t s.name) (map (λ (x : Site). x.name) front)) apart (new_there front s back parts.1)

pub not_named : (names : List Site) (text : List ℕ) → list_any (λ t. bytes_eq t text) (map (λ (x : Site). x.name) names) ≡ false → is_some (named names text) ≡ false
unfolding named
not_named names text none = is_some-position (λ (s : Site). bytes_eq s.name text) names ∙ sym (any_mapped (λ t. bytes_eq t text) (λ (s : Site). s.name) names) ∙ none

no_fault : (names : List Site) (text : List ℕ) → is_site_name text ≡ true → is_some (named names text) ≡ false → nat_le 16 (length names) ≡ false → sites_fault names text [] ≡ None
unfolding sites_fault
no_fault names text good new room = rw (good, new, room) refl

sizes : (xs ys : List Site) → map (λ (s : Site). s.name) xs ≡ map (λ (s : Site). s.name) ys → length xs ≡ length ys
sizes [] [] e = refl
sizes [] (y ∷ ys) e = cc
sizes (x ∷ xs) [] e = cc
sizes (x ∷ xs) (y ∷ ys) e =
    let tail : map (λ (s : Site). s.name) xs ≡ map (λ (s : Site). s.name) ys = cc in
    ap suc (sizes xs ys tail)

pub not_full : (n : ℕ) → n < 16 → nat_le 16 n ≡ false
not_full n low = grind (arith, low)

no_further : (rs : List SiteRow) (names : List Site) (r : SiteRow) → rs ≡ map site_row (enumerate_from 0 names) → (r.no ≡ pos (length names) → sites_fault names r.name [] ≡ None → ⊥) → Begins IsSiteTable (rs ++ r ∷ []) → ⊥
no_further rs names r so_far refused b =
    let ss = b.stand.0 in
    let are : AreSites ss = b.stand.1 in
    let same : map site_row (enumerate_from 0 names) ++ r ∷ b.more ≡ map site_row (enumerate_from 0 ss) =
    ap (λ xs. xs ++ r ∷ b.more) (sym so_far) ∙ sym (append_assoc rs (r ∷ []) b.more) ∙ b.stand.2 in
    let p = parted 0 names r b.more ss same in
    let good : list_all is_site (p.front ++ p.site ∷ p.back) ≡ true = ap (list_all is_site) (sym p.parts) ∙ are.good in
    let site_good = good_there is_site p.front p.site p.back good in
    let name_good = left (is_site_name p.site.name) _ (left _ _ site_good) in
    let once : repeats (map (λ (x : Site). x.name) (p.front ++ p.site ∷ p.back)) ≡ false = ap (λ xs. repeats (map (λ (x : Site). x.name) xs)) (sym p.parts) ∙ are.names_differ in
    let new : list_any (λ t. bytes_eq t p.site.name) (map (λ (x : Site). x.name) names) ≡ false = ap (list_any (λ t. bytes_eq t p.site.name)) (sym p.same) ∙ new_there p.front p.site p.back once in
    let size : length p.front ≡ length names = sizes p.front names p.same in
    let long : length ss ≡ length p.front + suc (length p.back) = ap length p.parts ∙ length-append p.front (p.site ∷ p.back) in
    let few : length ss ≤ 16 = are.few in
    let low : length names < 16 = omega (arith, size, long, few) in
    let zeroth : 0 + length names ≡ length names = omega arith in
    let number : r.no ≡ pos (length names) = ap (λ (x : SiteRow). x.no) p.row ∙ ap pos zeroth in
    let text : p.site.name ≡ r.name = sym (ap (λ (x : SiteRow). x.name) p.row) in
    refused number (subst (λ t. sites_fault names t [] ≡ None) text (no_fault names p.site.name name_good (not_named names p.site.name new) (not_full (length names) low)))

begins : (rs : List SiteRow) (names : List Site) → AreSites names → rs ≡ map site_row (enumerate_from 0 names) → Begins IsSiteTable rs
begins rs names are e = record { more = []; stand = (names, are, append-nil rs ∙ e) }

-- the first row that names no site to come next is the first bad one
pub first_bad_site : (rows : List SiteRow) (n : ℕ) (r : SiteRow) (names : List Site) → AreSites names → slice_get rows n ≡ Some r → n < length rows → take n rows ≡ map site_row (enumerate_from 0 names)
    → (r.no ≡ pos (length names) → sites_fault names r.name [] ≡ None → ⊥) → IsFirstBad IsSiteTable rows (n + 1)
first_bad_site rows n r names are at low so_far refused = record {
  before = n;
  next = refl;
  good = λ _. begins (take n rows) names are so_far;
  bad = λ _ b. no_further (take n rows) names r so_far refused (subst (Begins IsSiteTable) (taken_more rows n r at) b);
  wanting = λ past. absurd (omega (arith, past, low));
}

-- one more site
enumerated_more : (n : ℕ) (names : List Site) (s : Site) → map site_row (enumerate_from n (names ++ s ∷ [])) ≡ map site_row (enumerate_from n names) ++ site_row (n + length names, s) ∷ []
enumerated_more n [] s = let at : n ≡ n + 0 = omega arith in ap (λ k. site_row (k, s) ∷ []) at
enumerated_more n (x ∷ names) s =
    let at : n + 1 + length names ≡ n + suc (length names) = omega arith in
    ap (λ rs. site_row (n, x) ∷ rs) (enumerated_more (n + 1) names s ∙ ap (λ k. map site_row (enumerate_from (n + 1) names) ++ site_row (k, s) ∷ []) at)

pub one_more_name : (rows : List SiteRow) (n : ℕ) (r : SiteRow) (names after : List Site) → slice_get rows n ≡ Some r → take n rows ≡ map site_row (enumerate_from 0 names)
    → after ≡ names ++ named_only r.name ∷ [] → r.no ≡ pos (length names) → take (n + 1) rows ≡ map site_row (enumerate_from 0 after)
one_more_name rows n r names after at so_far is number =
    let zeroth : length names ≡ 0 + length names = omega arith in
    let there : r ≡ site_row (length names, named_only r.name) = (λ i. record { no = number i; name = r.name }) in
    let row : r ≡ site_row (0 + length names, named_only r.name) = there ∙ ap (λ k. site_row (k, named_only r.name)) zeroth in
    taken_more rows n r at ∙ ap (λ xs. xs ++ r ∷ []) so_far ∙ ap (λ q. map site_row (enumerate_from 0 names) ++ q ∷ []) row
    ∙ sym (enumerated_more 0 names (named_only r.name)) ∙ ap (λ ss. map site_row (enumerate_from 0 ss)) (sym is)
