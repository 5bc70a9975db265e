-- The rows of sites and of their addresses determine the sites.
use Rattle.std.proofs.Common.{◌≡◌, ◌≢◌, ◌⊎◌, inl, inr, ℕ, ◌+◌, ◌<◌, ◌≤◌, suc, zero, false, Option, Some, None, List, [], ◌∷◌, ◌++◌, length, map, fold, refl, sym, ap, subst, ◌∙◌, arith}
use mathlib.Core.Bool.{false≢true}
use Rattle.std.specs.Prelude.{bytes_eq}
use Rattle.std.specs.FinMap.{get, insert, get-empty}
use Rattle.std.specs.FinMap as finite
use Rattle.std.specs.Option.{option_map}
use Rattle.std.specs.List.{Contains, enumerate_from, flat_map, list_any, slice_get}
use Rattle.std.proofs.lemmas.List.{map-append, length-map}
use Rattle.std.proofs.lemmas.List.Elements.{Contains-append_cases}
use Rattle.std.proofs.lemmas.Option.{slice_get-map, slice_get_past}
use Rattle.std.proofs.lemmas.Slice.Eq.{bytes_eq-Decides}
use Rattle.frame_core.proofs.Lookups.{one_key, get_here, get_apart}
use Rattle.trace_core.proofs.Members.{contains_here, contains_there, contains_cases, contains_none, contains-map, contains-flat_map, list_any_member}
use Rattle.event_json.proofs.Apart.{neither}
use Rattle.event_json.specs.Sites.{Site, AreSites, repeats}
use Rattle.site_core.proofs.ItemOrder.{item_total, item_exact}
use Rattle.site_core.proofs.Places.{member_there, some_stands, stands_within}
use Rattle.site_rows.specs.declared.address_rows.Address.{Address}
use Rattle.site_rows.specs.declared.rows.SiteRow.{SiteRow}
use Rattle.site_rows.specs.RecordRows.{Addresses, addresses_at, addresses_of, address_at, with_address, name_of, or_no_name, site_row}
use Rattle.site_rows.specs.Texts.{text_cmp}
use Rattle.site_rows.proofs.AddressesOfSites.{nothing_stands}
use Rattle.site_rows.proofs.SameEvents.{NamesTell}
use Rattle.site_rows.proofs.SameLists.{same_places}

-- a text that doesn't repeat stands at one place
places_differ : (xs : List (List ℕ)) (i j : ℕ) (x : List ℕ) → repeats xs ≡ false → slice_get xs i ≡ Some x → slice_get xs j ≡ Some x → i ≡ j
places_differ [] i j x once hi hj = cc
places_differ (t ∷ ts) zero zero x once hi hj = refl
places_differ (t ∷ ts) zero (suc j) x once hi hj =
    let same : x ≡ t = cc in
    let among = list_any_member (λ u. bytes_eq u t) ts x (member_there ts j x hj) ((bytes_eq-Decides x t).1 same) in
    absurd (false≢true (sym (neither (list_any (λ u. bytes_eq u t) ts) (repeats ts) once).0 ∙ among))
places_differ (t ∷ ts) (suc i) zero x once hi hj =
    let same : x ≡ t = cc in
    let among = list_any_member (λ u. bytes_eq u t) ts x (member_there ts i x hi) ((bytes_eq-Decides x t).1 same) in
    absurd (false≢true (sym (neither (list_any (λ u. bytes_eq u t) ts) (repeats ts) once).0 ∙ among))
places_differ (t ∷ ts) (suc i) (suc j) x once hi hj = ap suc (places_differ ts i j x (neither (list_any (λ u. bytes_eq u t) ts) (repeats ts) once).1 hi hj)

name_at : (sites : List Site) (t : ℕ) → t < length sites → slice_get (map (λ (s : Site). s.name) sites) t ≡ Some (name_of sites t)
name_at sites t low =
    let stands = some_stands sites t low in
    slice_get-map (λ (s : Site). s.name) sites t ∙ ap (λ (o : Option Site). option_map (λ (s : Site). s.name) o) stands.1 ∙ ap (λ (o : Option Site). Some (or_no_name o)) (sym stands.1)

pub names_tell : (sites : List Site) → AreSites sites → NamesTell sites
names_tell sites are t u ht hu e = places_differ (map (λ (s : Site). s.name) sites) t u (name_of sites u) are.names_differ (name_at sites t ht ∙ ap Some e) (name_at sites u hu)

pub same_names : (n : ℕ) (xs ys : List Site) → map site_row (enumerate_from n xs) ≡ map site_row (enumerate_from n ys) → map (λ (s : Site). s.name) xs ≡ map (λ (s : Site). s.name) ys
same_names n [] [] e = refl
same_names n [] (y ∷ ys) e = cc
same_names n (x ∷ xs) [] e = cc
same_names n (x ∷ xs) (y ∷ ys) e =
    let head : site_row (n, x) ≡ site_row (n, y) = cc in
    let tail : map site_row (enumerate_from (n + 1) xs) ≡ map site_row (enumerate_from (n + 1) ys) = cc in
    let one = ap (λ (r : SiteRow). r.name) head in
    let rest = same_names (n + 1) xs ys tail in
    λ i. one i ∷ rest i

-- what is found once addresses were added is one of them, or was there before
pub found_among : (m : Addresses) (es : List (List ℕ × Address)) (q : List ℕ) (a : Address) → get (fold with_address m es) q ≡ Some a → (get m q ≡ Some a) ⊎ Contains es (q, a)
found_among m [] q a is = inl is
found_among m (e ∷ es) q a is = elim (found_among (insert m e.0 e.1) es q a is) [
  | inr later ↦ inr (contains_there e (q, a) es later)
  | inl before ↦ elim (one_key item_total item_exact q e.0) [
    | inr ne ↦ inl (sym (get_apart item_total item_exact m e.0 e.1 q ne) ∙ before)
    | inl same ↦
        let here : Some e.1 ≡ Some a = sym (get_here item_total item_exact m e.0 e.1) ∙ ap (get (insert m e.0 e.1)) (sym same) ∙ before in
        let value : e.1 ≡ a = cc in
        let one : e ≡ (q, a) = (λ i. (sym same i, value i)) in
        inr (subst (Contains (e ∷ es)) one (contains_here e es))
  ]
]

-- what isn't added stays
stays : (m : Addresses) (es : List (List ℕ × Address)) (q : List ℕ) → ((a : Address) → Contains es (q, a) → ⊥) → get (fold with_address m es) q ≡ get m q
stays m [] q none = refl
stays m (e ∷ es) q none =
    let ne : q ≢ e.0 = λ same. none e.1 (subst (λ (k : List ℕ). Contains (e ∷ es) (k, e.1)) (sym same) (contains_here e es)) in
    stays (insert m e.0 e.1) es q (λ a there. none a (contains_there e (q, a) es there)) ∙ get_apart item_total item_exact m e.0 e.1 q ne

-- where no text repeats, each address that is added is found
pub all_found : (m : Addresses) (es : List (List ℕ × Address)) (q : List ℕ) (a : Address) → repeats (map (λ e. e.0) es) ≡ false → Contains es (q, a) → get (fold with_address m es) q ≡ Some a
all_found m [] q a once at = absurd (contains_none (q, a) at)
all_found m (e ∷ es) q a once at =
    let parts = neither (list_any (λ u. bytes_eq u e.0) (map (λ x. x.0) es)) (repeats (map (λ x. x.0) es)) once in
    elim (contains_cases e (q, a) es at) [
      | inr later ↦ all_found (insert m e.0 e.1) es q a parts.1 later
      | inl same ↦
          let key : e.0 ≡ q = ap (λ (p : List ℕ × Address). p.0) same in
          let value : e.1 ≡ a = ap (λ (p : List ℕ × Address). p.1) same in
          let gone : (b : Address) → Contains es (q, b) → ⊥ = λ b there.
          false≢true (sym parts.0 ∙ list_any_member (λ u. bytes_eq u e.0) (map (λ x. x.0) es) q (contains-map (λ (x : List ℕ × Address). x.0) es (q, b) there) ((bytes_eq-Decides q e.0).1 (sym key))) in
          stays (insert m e.0 e.1) es q gone ∙ ap (get (insert m e.0 e.1)) (sym key) ∙ get_here item_total item_exact m e.0 e.1 ∙ ap Some value
    ]

-- the addresses of sites, each where it stands
pub numbered : {X : Type 0} (n : ℕ) (xs : List X) (j : ℕ) (x : X) → slice_get xs j ≡ Some x → Contains (enumerate_from n xs) (n + j, x)
numbered n [] j x is = cc
numbered n (y ∷ ys) zero x is =
    let same : y ≡ x = cc in
    let at : n ≡ n + 0 = omega arith in
    subst (Contains (enumerate_from n (y ∷ ys))) (λ i. (at i, same i)) (contains_here (n, y) (enumerate_from (n + 1) ys))
numbered n (y ∷ ys) (suc j) x is =
    let at : n + 1 + j ≡ n + suc j = omega arith in
    contains_there (n, y) (n + suc j, x) (enumerate_from (n + 1) ys) (subst (λ k. Contains (enumerate_from (n + 1) ys) (k, x)) at (numbered (n + 1) ys j x is))

abbrev pub at_place : ℕ → ℕ → Address
at_place site place = record { site = site; place = place }

pub stands : (sites : List Site) (k p : ℕ) (site : Site) (text : List ℕ) → slice_get sites k ≡ Some site → slice_get site.addresses p ≡ Some text
    → Contains (flat_map addresses_at (enumerate_from 0 sites)) (text, at_place k p)
stands sites k p site text hk hp =
    let site_there : Contains (enumerate_from 0 sites) (k, site) = subst (λ j. Contains (enumerate_from 0 sites) (j, site)) (omega arith) (numbered 0 sites k site hk) in
    let text_there : Contains (enumerate_from 0 site.addresses) (p, text) = subst (λ j. Contains (enumerate_from 0 site.addresses) (j, text)) (omega arith) (numbered 0 site.addresses p text hp) in
    contains-flat_map addresses_at (enumerate_from 0 sites) (k, site) (text, at_place k p) site_there (contains-map (address_at k) (enumerate_from 0 site.addresses) (p, text) text_there)

record IsAddressIn (n : ℕ) (texts : List (List ℕ)) (site : ℕ) (text : List ℕ) (a : Address) : Type 0 where
  place : ℕ
  there : slice_get texts place ≡ Some text
  at : a ≡ at_place site (n + place)

address_in : (n : ℕ) (texts : List (List ℕ)) (site : ℕ) (text : List ℕ) (a : Address) → Contains (map (address_at site) (enumerate_from n texts)) (text, a) → IsAddressIn n texts site text a
address_in n [] site text a at = absurd (contains_none (text, a) at)
address_in n (t ∷ texts) site text a at = elim (contains_cases (address_at site (n, t)) (text, a) (map (address_at site) (enumerate_from (n + 1) texts)) at) [
  | inl same ↦
      let first : n ≡ n + 0 = omega arith in record {
        place = 0;
        there = ap (λ (p : List ℕ × Address). Some p.0) same;
        at = sym (ap (λ (p : List ℕ × Address). p.1) same) ∙ ap (at_place site) first;
      }
  | inr later ↦
      let rest = address_in (n + 1) texts site text a later in
      let next : n + 1 + rest.place ≡ n + suc rest.place = omega arith in
      record { place = suc rest.place; there = rest.there; at = rest.at ∙ ap (at_place site) next }
]

pub record IsAddressOf (n : ℕ) (sites : List Site) (text : List ℕ) (a : Address) : Type 0 where
  pub number : ℕ
  pub site : Site
  pub place : ℕ
  pub of_list : slice_get sites number ≡ Some site
  pub there : slice_get site.addresses place ≡ Some text
  pub at : a ≡ at_place (n + number) place

pub address_of : (n : ℕ) (sites : List Site) (text : List ℕ) (a : Address) → Contains (flat_map addresses_at (enumerate_from n sites)) (text, a) → IsAddressOf n sites text a
address_of n [] text a at = absurd (contains_none (text, a) at)
address_of n (s ∷ sites) text a at = elim (Contains-append_cases (addresses_at (n, s)) (flat_map addresses_at (enumerate_from (n + 1) sites)) (text, a) at) [
  | inl here ↦
      let is = address_in 0 s.addresses n text a here in
      let number : n ≡ n + 0 = omega arith in
      let place : 0 + is.place ≡ is.place = omega arith in
      record { number = 0; site = s; place = is.place; of_list = refl; there = is.there; at = is.at ∙ (λ i. at_place (number i) (place i)) }
  | inr later ↦
      let is = address_of (n + 1) sites text a later in
      let number : n + 1 + is.number ≡ n + suc is.number = omega arith in
      record { number = suc is.number; site = is.site; place = is.place; of_list = is.of_list; there = is.there; at = is.at ∙ ap (λ k. at_place k is.place) number }
]

texts_of : (n site : ℕ) (texts : List (List ℕ)) → map (λ (e : List ℕ × Address). e.0) (map (address_at site) (enumerate_from n texts)) ≡ texts
texts_of n site [] = refl
texts_of n site (t ∷ texts) = ap (λ ts. t ∷ ts) (texts_of (n + 1) site texts)

pub all_texts : (n : ℕ) (sites : List Site) → map (λ (e : List ℕ × Address). e.0) (flat_map addresses_at (enumerate_from n sites)) ≡ flat_map (λ (s : Site). s.addresses) sites
all_texts n [] = refl
all_texts n (s ∷ sites) =
    map-append (λ (e : List ℕ × Address). e.0) (addresses_at (n, s)) (flat_map addresses_at (enumerate_from (n + 1) sites))
    ∙ (λ i. texts_of 0 n s.addresses i ++ all_texts (n + 1) sites i)

one_way : (s t : List Site) → AreSites s → addresses_of s ≡ addresses_of t → (k p : ℕ) (a b : Site) (text : List ℕ) → slice_get s k ≡ Some a → slice_get t k ≡ Some b
    → slice_get a.addresses p ≡ Some text → slice_get b.addresses p ≡ Some text
one_way s t are same k p a b text ha hb hp =
    let all = flat_map addresses_at (enumerate_from 0 s) in
    let once : repeats (map (λ (e : List ℕ × Address). e.0) all) ≡ false = ap repeats (all_texts 0 s) ∙ are.addresses_differ in
    let found : get (addresses_of t) text ≡ Some (at_place k p) = ap (λ (m : Addresses). get m text) (sym same) ∙ all_found finite.empty all text (at_place k p) once (stands s k p a text ha hp) in
    elim (found_among finite.empty (flat_map addresses_at (enumerate_from 0 t)) text (at_place k p) found) [
      | inl before ↦ let never : None ≡ Some (at_place k p) = sym (get-empty text_cmp text) ∙ before in cc
      | inr there ↦
          let is = address_of 0 t text (at_place k p) there in
          let number : k ≡ is.number = ap (λ (x : Address). x.site) is.at ∙ omega arith in
          let place : p ≡ is.place = ap (λ (x : Address). x.place) is.at in
          let site : Some b ≡ Some is.site = sym hb ∙ ap (slice_get t) number ∙ is.of_list in
          let one : b ≡ is.site = cc in
          ap (λ (x : Site). slice_get x.addresses p) one ∙ ap (slice_get is.site.addresses) place ∙ is.there
    ]

same_site : (s t : List Site) → AreSites s → AreSites t → addresses_of s ≡ addresses_of t → (k : ℕ) (a b : Site) → slice_get s k ≡ Some a → slice_get t k ≡ Some b → a.addresses ≡ b.addresses
same_site s t hs ht same k a b ha hb = same_places a.addresses b.addresses (λ p.
    elim (slice_get a.addresses p) as (λ o. slice_get a.addresses p ≡ o → o ≡ slice_get b.addresses p) [
      | Some text ↦ λ is. sym (one_way s t hs same k p a b text ha hb is)
      | None ↦ λ is. elim (slice_get b.addresses p) as (λ o. slice_get b.addresses p ≡ o → None ≡ o) [
        | None ↦ λ _. refl
        | Some text ↦ λ there. let wrong : None ≡ Some text = sym is ∙ one_way t s ht (sym same) k p b a text hb ha there in wrong
      ] refl
    ] refl)

pub same_site_lists : (s t : List Site) → AreSites s → AreSites t → map (λ (x : Site). x.name) s ≡ map (λ (x : Site). x.name) t → addresses_of s ≡ addresses_of t → s ≡ t
same_site_lists s t hs ht names addresses = same_places s t (λ k. at k)
  where
    name_of_both : (k : ℕ) (a b : Site) → slice_get s k ≡ Some a → slice_get t k ≡ Some b → a.name ≡ b.name
    name_of_both k a b ha hb =
        let here = slice_get-map (λ (x : Site). x.name) s k ∙ ap (λ (o : Option Site). option_map (λ (x : Site). x.name) o) ha in
        let there = slice_get-map (λ (x : Site). x.name) t k ∙ ap (λ (o : Option Site). option_map (λ (x : Site). x.name) o) hb in
        let both : Some a.name ≡ Some b.name = sym here ∙ ap (λ (xs : List (List ℕ)). slice_get xs k) names ∙ there in cc

    sizes : length s ≡ length t
    sizes = sym (length-map s (λ (x : Site). x.name)) ∙ ap length names ∙ length-map t (λ (x : Site). x.name)

    at : (k : ℕ) → slice_get s k ≡ slice_get t k
    at k = elim (slice_get s k) as (λ o. slice_get s k ≡ o → o ≡ slice_get t k) [
      | None ↦ λ is. sym (slice_get_past t k (subst (λ n. n ≤ k) sizes (nothing_stands s k is)))
      | Some a ↦ λ is.
          let low : k < length t = subst (λ n. k < n) sizes (stands_within s k a is) in
          let b = some_stands t k low in
          let name = name_of_both k a b.0 is b.1 in
          let texts = same_site s t hs ht addresses k a b.0 is b.1 in
          let one : a ≡ b.0 = (λ i. record { name = name i; addresses = texts i }) in
          ap Some one ∙ sym b.1
    ] refl
