-- The list of sites as it is digested.
use Rattle.std.proofs.Common.{◌≡◌, ◌<◌, ◌≤◌, ◌+◌, ℕ, zero, suc, true, List, [], ◌∷◌, ◌++◌, Some, None, length, take, refl, sym, ap, ◌∙◌, subst, arith, append_assoc, append-nil}
use Rattle.std.specs.Prelude.{◌&&◌, nat_le, slice_get, flat_map}
use Rattle.std.specs.List.{list_all}
use Rattle.std.proofs.lemmas.Bool.{and_parts, leb-true}
use Rattle.std.proofs.lemmas.Grind.{flat_map-append}
use Rattle.std.proofs.lemmas.List.{take_all}
use Rattle.epc_core.specs.Items.{is_plain}
use Rattle.event_json.specs.Sites.{AreSites, Site, is_site, is_site_name}
use Rattle.recall_text.specs.Words.{name_at}

taken : {X : Type 0} (xs : List X) (k : ℕ) (x : X) → slice_get xs k ≡ Some x → take (suc k) xs ≡ take k xs ++ x ∷ []
taken [] k x is = cc
taken (y ∷ ys) zero x is = let same : y ≡ x = cc in ap (λ z. z ∷ []) same
taken (y ∷ ys) (suc k) x is = ap (λ zs. y ∷ zs) (taken ys k x is)

-- the text of one element more
pub one_more : {X : Type 0} (f : X → List ℕ) (m : List ℕ) (xs : List X) (k : ℕ) (x : X) → slice_get xs k ≡ Some x
    → (m ++ flat_map f (take k xs)) ++ f x ≡ m ++ flat_map f (take (k + 1) xs)
one_more f m xs k x is =
    let next : k + 1 ≡ suc k = omega arith in
    let more : flat_map f (take (k + 1) xs) ≡ flat_map f (take k xs) ++ f x =
    ap (λ n. flat_map f (take n xs)) next ∙ ap (flat_map f) (taken xs k x is) ∙ flat_map-append f (take k xs) (x ∷ []) ∙ ap (λ l. flat_map f (take k xs) ++ l) (append-nil (f x)) in
    append_assoc m (flat_map f (take k xs)) (f x) ∙ ap (λ l. m ++ l) (sym more)

-- where nothing stands the list has ended
pub ended : {X : Type 0} (xs : List X) (k : ℕ) → slice_get xs k ≡ None → length xs ≤ k
ended [] k is = omega arith
ended (y ∷ ys) zero is = cc
ended (y ∷ ys) (suc k) is = omega (arith, ended ys k is)

pub stands : {X : Type 0} (xs : List X) (k : ℕ) → k < length xs → (x : X) × (slice_get xs k ≡ Some x)
stands [] k lt = absurd (omega (arith, lt))
stands (y ∷ ys) zero lt = (y, refl)
stands (y ∷ ys) (suc k) lt = stands ys k (omega (arith, lt))

-- a site of a list is a site
pub site_good : (sites : List Site) (n : ℕ) (s : Site) → list_all is_site sites ≡ true → slice_get sites n ≡ Some s → is_site s ≡ true
site_good [] n s good is = cc
site_good (t ∷ ts) zero s good is = let same : t ≡ s = cc in subst (λ x. is_site x ≡ true) same (and_parts (is_site t) (list_all is_site ts) good).0
site_good (t ∷ ts) (suc n) s good is = site_good ts n s (and_parts (is_site t) (list_all is_site ts) good).1 is

-- it has at most 16 addresses
pub few_addresses : (sites : List Site) (n : ℕ) (s : Site) → AreSites sites → slice_get sites n ≡ Some s → length s.addresses ≤ 16
few_addresses sites n s are is =
    let whole = and_parts (is_site_name s.name && nat_le (length s.addresses) 16) (list_all is_plain s.addresses) (site_good sites n s are.good is) in
    leb-true (length s.addresses) 16 (and_parts (is_site_name s.name) (nat_le (length s.addresses) 16) whole.0).1

-- the rest of an ended list
pub all_taken : {X : Type 0} (f : X → List ℕ) (m : List ℕ) (xs : List X) (k : ℕ) → length xs ≤ k → m ++ flat_map f (take k xs) ≡ m ++ flat_map f xs
all_taken f m xs k past = ap (λ l. m ++ flat_map f l) (take_all k xs past)

-- a site, piece by piece
pub site_joined : (m name addresses : List ℕ) → ((m ++ (name ++ 10 ∷ [])) ++ addresses) ++ 10 ∷ [] ≡ m ++ (name ++ 10 ∷ (addresses ++ 10 ∷ []))
site_joined m name addresses = simp append_assoc

-- all that is digested, piece by piece
pub all_joined : (chain sites text : List ℕ) → (((chain ++ 10 ∷ []) ++ sites) ++ 10 ∷ []) ++ text ≡ chain ++ 10 ∷ (sites ++ 10 ∷ text)
all_joined chain sites text = simp append_assoc

-- the name of a site
pub name_there : (sites : List Site) (n : ℕ) (s : Site) → slice_get sites n ≡ Some s → name_at sites n ≡ s.name
name_there sites n s is = rw is refl
