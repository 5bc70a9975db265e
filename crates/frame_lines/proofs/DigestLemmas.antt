-- What is digested tells the chain, the list of sites and the text.
use Rattle.std.proofs.Common.{◌≡◌, ◌<◌, ◌≤◌, ◌==◌, ℕ, Bool, true, false, List, [], ◌∷◌, ◌++◌, length, drop, get_or, refl, sym, ap, ap₂, ◌∙◌, arith, append_assoc}
use mathlib.Core.Bool.{true≢false}
use Rattle.std.specs.Prelude.{◌&&◌, nat_le}
use Rattle.std.specs.List.{list_all}
use Rattle.std.proofs.lemmas.Bool.{and_parts, leb-true}
use Rattle.std.proofs.lemmas.List.Sums.{AllPass-from_list_all}
use Rattle.epc_core.specs.Items.{is_plain, is_plain_byte}
use Rattle.event_json.specs.Sites.{Site, is_name_byte, is_site, is_site_name}
use Rattle.frame_lines.specs.Chains.{is_chain_digit, is_chain_id}
use Rattle.frame_lines.specs.Laws.{DigestsTellAll}
use Rattle.frame_lines.specs.Sums.{addresses_text, sites_text}
use Rattle.frame_lines.proofs.NameLemmas.{parts_tell}

-- a text on a line of its own: it is not empty, and has no LF
record IsLine (t : List ℕ) : Type 0 where
  some : 1 ≤ length t
  within : (i : ℕ) → i < length t → get_or t i 0 ≡ 10 → ⊥

line_of : (test : ℕ → Bool) (t : List ℕ) → test 10 ≡ false → list_all test t ≡ true → 1 ≤ length t → IsLine t
line_of test t none all some =
    record { some = some; within = λ i low at. true≢false (sym (AllPass-from_list_all test t all i 0 low) ∙ ap test at ∙ none) }

-- an empty line comes before no line
not_empty : (t rest more : List ℕ) → IsLine t → 10 ∷ rest ≡ t ++ more → ⊥
not_empty [] rest more is e = omega (arith, is.some)
not_empty (b ∷ bs) rest more is e = is.within 0 (omega arith) (sym (ap (λ l. get_or l 0 0) e))

chain_line : (chain : List ℕ) → is_chain_id chain ≡ true → IsLine chain
chain_line chain is =
    let parts = and_parts (length chain == 32) (list_all is_chain_digit chain) is in
    line_of is_chain_digit chain refl parts.1 (grind (arith, parts.0))

address_line : (address : List ℕ) → is_plain address ≡ true → IsLine address
unfolding is_plain
address_line address plain =
    let parts = and_parts (nat_le 1 (length address)) (nat_le (length address) 512 && list_all is_plain_byte address) plain in
    line_of is_plain_byte address refl (and_parts (nat_le (length address) 512) (list_all is_plain_byte address) parts.1).1 (leb-true 1 (length address) parts.0)

-- ---- lists of addresses

apart : (a rest more : List ℕ) → ((a ++ 10 ∷ []) ++ rest) ++ more ≡ a ++ 10 ∷ (rest ++ more)
apart a rest more = simp append_assoc

addresses_tell : (xs ys : List (List ℕ)) (rest more : List ℕ) → list_all is_plain xs ≡ true → list_all is_plain ys ≡ true
    → addresses_text xs ++ 10 ∷ rest ≡ addresses_text ys ++ 10 ∷ more → (xs ≡ ys) × (rest ≡ more)
addresses_tell [] [] rest more hx hy e = (refl, ap (drop 1) e)
addresses_tell [] (y ∷ ys) rest more hx hy e =
    let line = address_line y (and_parts (is_plain y) (list_all is_plain ys) hy).0 in
    absurd (not_empty y rest _ line (e ∙ apart y (addresses_text ys) (10 ∷ more)))
addresses_tell (x ∷ xs) [] rest more hx hy e =
    let line = address_line x (and_parts (is_plain x) (list_all is_plain xs) hx).0 in
    absurd (not_empty x more _ line (sym e ∙ apart x (addresses_text xs) (10 ∷ rest)))
addresses_tell (x ∷ xs) (y ∷ ys) rest more hx hy e =
    let px = and_parts (is_plain x) (list_all is_plain xs) hx in
    let py = and_parts (is_plain y) (list_all is_plain ys) hy in
    let first = parts_tell 10 x y (addresses_text xs ++ 10 ∷ rest) (addresses_text ys ++ 10 ∷ more) (address_line x px.0).within (address_line y py.0).within
    (sym (apart x (addresses_text xs) (10 ∷ rest)) ∙ e ∙ apart y (addresses_text ys) (10 ∷ more)) in
    let later = addresses_tell xs ys rest more px.1 py.1 first.1 in
    (ap₂ (λ z zs. z ∷ zs) first.0 later.0, later.1)

-- ---- lists of sites

site_apart : (name addresses rest more : List ℕ) → ((name ++ 10 ∷ (addresses ++ 10 ∷ [])) ++ rest) ++ more ≡ name ++ 10 ∷ (addresses ++ 10 ∷ (rest ++ more))
site_apart name addresses rest more = simp append_assoc

name_line : (s : Site) → is_site s ≡ true → IsLine s.name
name_line s good =
    let name = (and_parts (is_site_name s.name) _ (and_parts _ (list_all is_plain s.addresses) good).0).0 in
    let parts = and_parts (nat_le 1 (length s.name) && nat_le (length s.name) 16) (list_all is_name_byte s.name) name in
    line_of is_name_byte s.name refl parts.1 (leb-true 1 (length s.name) (and_parts (nat_le 1 (length s.name)) (nat_le (length s.name) 16) parts.0).0)

addresses_plain : (s : Site) → is_site s ≡ true → list_all is_plain s.addresses ≡ true
addresses_plain s good = (and_parts _ (list_all is_plain s.addresses) good).1

of : List ℕ → List (List ℕ) → Site
of name addresses = record { name = name; addresses = addresses }

sites_tell : (xs ys : List Site) (rest more : List ℕ) → list_all is_site xs ≡ true → list_all is_site ys ≡ true
    → sites_text xs ++ 10 ∷ rest ≡ sites_text ys ++ 10 ∷ more → (xs ≡ ys) × (rest ≡ more)
unfolding of
sites_tell [] [] rest more hx hy e = (refl, ap (drop 1) e)
sites_tell [] (y ∷ ys) rest more hx hy e =
    let line = name_line y (and_parts (is_site y) (list_all is_site ys) hy).0 in
    absurd (not_empty y.name rest _ line (e ∙ site_apart y.name (addresses_text y.addresses) (sites_text ys) (10 ∷ more)))
sites_tell (x ∷ xs) [] rest more hx hy e =
    let line = name_line x (and_parts (is_site x) (list_all is_site xs) hx).0 in
    absurd (not_empty x.name more _ line (sym e ∙ site_apart x.name (addresses_text x.addresses) (sites_text xs) (10 ∷ rest)))
sites_tell (x ∷ xs) (y ∷ ys) rest more hx hy e =
    let px = and_parts (is_site x) (list_all is_site xs) hx in
    let py = and_parts (is_site y) (list_all is_site ys) hy in
    let names = parts_tell 10 x.name y.name (addresses_text x.addresses ++ 10 ∷ (sites_text xs ++ 10 ∷ rest)) (addresses_text y.addresses ++ 10 ∷ (sites_text ys ++ 10 ∷ more))
    (name_line x px.0).within (name_line y py.0).within
    (sym (site_apart x.name (addresses_text x.addresses) (sites_text xs) (10 ∷ rest)) ∙ e ∙ site_apart y.name (addresses_text y.addresses) (sites_text ys) (10 ∷ more)) in
    let addresses = addresses_tell x.addresses y.addresses (sites_text xs ++ 10 ∷ rest) (sites_text ys ++ 10 ∷ more) (addresses_plain x px.0) (addresses_plain y py.0) names.1 in
    let later = sites_tell xs ys rest more px.1 py.1 addresses.1 in
    let same : x ≡ y = ap₂ of names.0 addresses.0 in
    (ap₂ (λ z zs. z ∷ zs) same later.0, later.1)

pub digests_tell_all : DigestsTellAll
digests_tell_all sites others chain other text more are also is as_well e =
    let chains = parts_tell 10 chain other (sites_text sites ++ 10 ∷ text) (sites_text others ++ 10 ∷ more) (chain_line chain is).within (chain_line other as_well).within e in
    let parts = sites_tell sites others text more are.good also.good chains.1 in
    (chains.0, parts.0, parts.1)
