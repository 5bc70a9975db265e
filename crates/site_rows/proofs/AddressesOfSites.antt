-- How many addresses a site has, and what is left of them at a place.
use Rattle.std.proofs.Common.{◌≡◌, ℕ, ◌≤◌, Bool, true, false, zero, suc, Some, None, List, [], ◌∷◌, length, map, fold, drop, refl, ap, subst, arith}
use Rattle.std.specs.Prelude.{slice_get, ◌&&◌}
use Rattle.std.specs.List.{enumerate_from, list_all}
use Rattle.std.proofs.lemmas.Bool.{leb-true}
use Rattle.event_json.specs.Sites.{Site, is_site, AreSites}
use Rattle.site_rows.specs.RecordRows.{Addresses, address_at, with_address}
use Rattle.site_rows.proofs.InTurn.{none_numbered}

pub left : (a b : Bool) → (a && b) ≡ true → a ≡ true
left true b e = refl
left false b e = cc

pub right : (a b : Bool) → (a && b) ≡ true → b ≡ true
right true b e = e
right false b e = cc

pub stands_good : (p : Site → Bool) (sites : List Site) (n : ℕ) (site : Site) → list_all p sites ≡ true → slice_get sites n ≡ Some site → p site ≡ true
stands_good p [] n site all is = cc
stands_good p (s ∷ sites) zero site all is = let same : s ≡ site = cc in subst (λ z. p z ≡ true) same (left (p s) (list_all p sites) all)
stands_good p (s ∷ sites) (suc n) site all is = stands_good p sites n site (right (p s) (list_all p sites) all) is

-- at most 16
pub few_addresses : (sites : List Site) (n : ℕ) (site : Site) → AreSites sites → slice_get sites n ≡ Some site → length site.addresses ≤ 16
few_addresses sites n site are is = leb-true (length site.addresses) 16 (right _ _ (left _ _ (stands_good is_site sites n site are.good is)))

-- past the last one nothing is added
pub none_left : (number place m : ℕ) (addresses : List (List ℕ)) (start : Addresses) → length addresses ≤ place → fold with_address start (map (address_at number) (enumerate_from m (drop place addresses))) ≡ start
none_left number place m addresses start past = ap (λ ps. fold with_address start (map (address_at number) ps)) (none_numbered m addresses place past)

pub nothing_stands : {X : Type 0} (xs : List X) (n : ℕ) → slice_get xs n ≡ None → length xs ≤ n
nothing_stands [] n is = omega arith
nothing_stands (x ∷ xs) zero is = cc
nothing_stands (x ∷ xs) (suc n) is = omega (arith, nothing_stands xs n is)
