-- The rows of the addresses of sites stand in a table that has no bad row.
use Rattle.std.proofs.Common.{◌≡◌, ◌⊎◌, inl, inr, ℕ, zero, suc, ◌+◌, ◌<◌, pos, Bool, true, false, Option, Some, None, List, [], ◌∷◌, length, map, take, refl, sym, ap, subst, ◌∙◌, arith}
use Rattle.std.specs.Prelude.{All, Any, IsUtf8, T, option_map, ◌&&◌, ◌-ℤ◌, nat_le}
use Rattle.std.specs.FinMap as finite
use Rattle.std.specs.FinMap.{entries, entries_sorted, get, get-empty, is_sorted}
use Rattle.std.specs.FinMap.Entries.{below_all}
use Rattle.std.specs.List.{Contains, enumerate_from, flat_map, list_all, slice_get}
use Rattle.std.specs.Ordering.{is_lt}
use Rattle.std.specs.declared.cmp.Ordering.{Ordering}
use Rattle.std.specs.declared.cmp.Ordering.TheVariants.{Less, Equal, Greater}
use Rattle.std.proofs.lemmas.Cmp.{tied_itself}
use Rattle.std.proofs.lemmas.Int.{ints}
use Rattle.std.proofs.lemmas.Option.{get_or_from_slice_get, slice_get-get_or, slice_get-map}
use Rattle.epc_core.specs.Items.{is_plain}
use Rattle.event_json.proofs.Plain.{plain_decides}
use Rattle.event_json.specs.Sites.{Site, AreSites, is_site, is_site_name, repeats}
use Rattle.frame_core.proofs.Ascending.{first, second}
use Rattle.site_core.proofs.EventsAmong.{passes_at}
use Rattle.site_core.proofs.Entries.{entry_found, entry_there}
use Rattle.site_core.proofs.ItemOrder.{item_total, item_exact}
use Rattle.site_core.proofs.Places.{member_there, some_stands, stands_within}
use Rattle.site_core.proofs.Quarantining.{place_of}
use Rattle.site_rows.specs.BadAddresses.{IsAddress, IsAddressTable, Stands}
use Rattle.site_rows.specs.Laws.{HasTexts}
use Rattle.site_rows.specs.RecordRows.{address_row, addresses_at, addresses_of}
use Rattle.site_rows.specs.Texts.{text_cmp}
use Rattle.site_rows.specs.declared.address_rows.Address.{Address}
use Rattle.site_rows.specs.declared.rows.AddressRow.{AddressRow}
use Rattle.site_rows.proofs.AddressesOfSites.{few_addresses, left, right, stands_good}
use Rattle.site_rows.proofs.InTurn.{behind}
use Rattle.site_rows.proofs.SameRecalls.{same_number}
use Rattle.site_rows.proofs.SameSites.{IsAddressOf, address_of, all_found, all_texts, at_place, found_among, stands}

-- ---- places
-- what a row is made of
pub mapped_at : {X R : Type 0} (f : X → R) (xs : List X) (k : ℕ) (r : R) → slice_get (map f xs) k ≡ Some r → (x : X) × (slice_get xs k ≡ Some x) × (f x ≡ r)
mapped_at f xs k r is = let x = behind f (slice_get xs k) r (sym (slice_get-map f xs k) ∙ is) in (x.0, x.1, x.2)

pub numbered_there : {X : Type 0} (n : ℕ) (xs : List X) (k : ℕ) (p : ℕ × X) → slice_get (enumerate_from n xs) k ≡ Some p → (p.0 ≡ n + k) × (slice_get xs k ≡ Some p.1)
numbered_there n [] k p is = cc
numbered_there {X = X} n (x ∷ xs) zero p is =
    let same : ◌≡◌ {A = ℕ × X} (n, x) p = cc in
    let at : n ≡ n + 0 = omega arith in
    (sym (ap (λ (q : ℕ × X). q.0) same) ∙ at, ap (λ (q : ℕ × X). Some q.1) same)
numbered_there n (x ∷ xs) (suc k) p is =
    let rest = numbered_there (n + 1) xs k p is in
    (rest.0 ∙ omega arith, rest.1)

pub taken_there : {X : Type 0} (xs : List X) (k j : ℕ) (x : X) → slice_get (take k xs) j ≡ Some x → (slice_get xs j ≡ Some x) × (j < k)
taken_there [] zero j x is = cc
taken_there [] (suc k) j x is = cc
taken_there (y ∷ xs) zero j x is = cc
taken_there (y ∷ xs) (suc k) zero x is = (is, omega arith)
taken_there (y ∷ xs) (suc k) (suc j) x is = let rest = taken_there xs k j x is in (rest.0, omega (arith, rest.1))

all_pass_there : (p : List ℕ → Bool) (xs : List (List ℕ)) (k : ℕ) (x : List ℕ) → list_all p xs ≡ true → slice_get xs k ≡ Some x → p x ≡ true
all_pass_there p [] k x all is = cc
all_pass_there p (y ∷ xs) zero x all is = let same : y ≡ x = cc in subst (λ z. p z ≡ true) same (left (p y) (list_all p xs) all)
all_pass_there p (y ∷ xs) (suc k) x all is = all_pass_there p xs k x (right (p y) (list_all p xs) all) is

-- some element is so
pub any_there : {X : Type 0} (P : X → Type 0) (xs : List X) (k : ℕ) (x : X) → slice_get xs k ≡ Some x → P x → Any P xs
any_there P xs k x is holds = (k, x, stands_within xs k x is, get_or_from_slice_get xs k x x is, holds)

-- keys that ascend
less : (o : Ordering) → T (is_lt o) → o ≡ Less
less Less p = refl
less Equal p = absurd p
less Greater p = absurd p

module _ {K X : Type 0} (R : K → K → Ordering) where
  above : (k : K) (es : List (K × X)) (j : ℕ) (e : K × X) → T (below_all R k es) → slice_get es j ≡ Some e → R k e.0 ≡ Less
  above k [] j e low is = cc
  above k (d ∷ es) zero e low is = let same : d ≡ e = cc in subst (λ (z : K × X). R k z.0 ≡ Less) same (less _ (first _ _ low))
  above k (d ∷ es) (suc j) e low is = above k es j e (second _ _ low) is

  in_order : (es : List (K × X)) (j k : ℕ) (d e : K × X) → T (is_sorted R es) → j < k → slice_get es j ≡ Some d → slice_get es k ≡ Some e → R d.0 e.0 ≡ Less
  in_order [] j k d e up low hd he = cc
  in_order (x ∷ es) zero zero d e up low hd he = absurd (omega (arith, low))
  in_order (x ∷ es) zero (suc k) d e up low hd he = let same : x ≡ d = cc in subst (λ (z : K × X). R z.0 e.0 ≡ Less) same (above x.0 es k e (first _ _ up) he)
  in_order (x ∷ es) (suc j) zero d e up low hd he = absurd (omega (arith, low))
  in_order (x ∷ es) (suc j) (suc k) d e up low hd he = in_order es j k d e (second _ _ up) (omega (arith, low)) hd he

-- ---- the addresses
-- each is of a site of the list
pub address_told : (sites : List Site) (e : List ℕ × Address) → Contains (entries (addresses_of sites)) e → IsAddressOf 0 sites e.0 e.1
address_told sites e there =
    let found = entry_found item_total (addresses_of sites) e.0 e.1 there in
    elim (found_among finite.empty (flat_map addresses_at (enumerate_from 0 sites)) e.0 e.1 found) [
      | inl before ↦ let never : None ≡ Some e.1 = sym (get-empty text_cmp e.0) ∙ before in cc
      | inr at ↦ address_of 0 sites e.0 e.1 at
    ]

module _ (sites : List Site) (are : AreSites sites) where
  abbrev listed : List (List ℕ × Address)
  listed = entries (addresses_of sites)

  abbrev rows : List AddressRow
  rows = map address_row listed

  -- each address of each site has a row
  pub row_there : (number place : ℕ) (site : Site) (text : List ℕ) → slice_get sites number ≡ Some site → slice_get site.addresses place ≡ Some text → Contains rows (address_row (text, at_place number place))
  row_there number place site text at there =
      let all = flat_map addresses_at (enumerate_from 0 sites) in
      let once : repeats (map (λ (e : List ℕ × Address). e.0) all) ≡ false = ap repeats (all_texts 0 sites) ∙ are.addresses_differ in
      let address = at_place number place in
      let found : get (addresses_of sites) text ≡ Some address = all_found finite.empty all text address once (stands sites number place site text at there) in
      let k = place_of listed (text, address) (entry_there item_total item_exact (addresses_of sites) text address found) in
      let row : slice_get rows k.0 ≡ Some (address_row (text, address)) = slice_get-map address_row listed k.0 ∙ ap (λ (o : Option (List ℕ × Address)). option_map address_row o) k.1 in
      (k.0, stands_within rows k.0 (address_row (text, address)) row, get_or_from_slice_get rows k.0 (address_row (text, address)) (address_row (text, address)) row)

  has_row : (number place : ℕ) (site : Site) (text : List ℕ) → slice_get sites number ≡ Some site → slice_get site.addresses place ≡ Some text → Stands rows (pos number) (pos place)
  has_row number place site text at there =
      let there = row_there number place site text at there in
      (there.0, address_row (text, at_place number place), there.1, there.2, (refl, refl))

  -- no two rows are of one place
  same_place : (d e : List ℕ × Address) → Contains listed d → Contains listed e → d.1.site ≡ e.1.site → d.1.place ≡ e.1.place → d.0 ≡ e.0
  same_place d e hd he site place =
      let one = address_told sites d hd in
      let two = address_told sites e he in
      let number : one.number ≡ two.number = omega (arith, ap (λ (a : Address). a.site) one.at, ap (λ (a : Address). a.site) two.at, site) in
      let at : one.place ≡ two.place = omega (arith, ap (λ (a : Address). a.place) one.at, ap (λ (a : Address). a.place) two.at, place) in
      let sites_same : Some one.site ≡ Some two.site = sym one.of_list ∙ ap (slice_get sites) number ∙ two.of_list in
      let same : one.site ≡ two.site = cc in
      let texts : Some d.0 ≡ Some e.0 = sym one.there ∙ ap (λ (s : Site). slice_get s.addresses one.place) same ∙ ap (slice_get two.site.addresses) at ∙ two.there in
      cc

  no_gap : (number place : ℕ) (site : Site) (text : List ℕ) → slice_get sites number ≡ Some site → slice_get site.addresses place ≡ Some text
      → (pos place ≡ pos 0) ⊎ Stands rows (pos number) (pos place -ℤ pos 1)
  no_gap number zero site text at there = inl refl
  no_gap number (suc place) site text at there =
      let before = some_stands site.addresses place (omega (arith, stands_within site.addresses (suc place) text there)) in
      let one : pos (suc place) -ℤ pos 1 ≡ pos place = omega (arith, ints) in
      inr (subst (Stands rows (pos number)) (sym one) (has_row number place site before.0 at before.1))

  good : All HasTexts sites → (k : ℕ) (e : List ℕ × Address) → slice_get listed k ≡ Some e → IsAddress (length sites) rows k (address_row e)
  good texts k e at =
      let there = member_there listed k e at in
      let is = address_told sites e there in
      let up = entries_sorted (addresses_of sites) in
      let few = few_addresses sites is.number is.site are is.of_list in
      let low = stands_within is.site.addresses is.place e.0 is.there in
      let number : e.1.site ≡ is.number = ap (λ (a : Address). a.site) is.at ∙ omega arith in
      let place : e.1.place ≡ is.place = ap (λ (a : Address). a.place) is.at in
      let plain : is_plain e.0 ≡ true = all_pass_there is_plain is.site.addresses is.place e.0 (right (is_site_name is.site.name && nat_le (length is.site.addresses) 16) (list_all is_plain is.site.addresses) (stands_good is_site sites is.number is.site are.good is.of_list)) is.there in
      record {
        plain = ((plain_decides e.0).0 plain, passes_at IsUtf8 is.site.addresses is.place (passes_at HasTexts sites is.number texts is.site is.of_list) e.0 is.there);
        site = (is.number, record { number = ap pos number; among = stands_within sites is.number is.site is.of_list });
        place = (is.place, record { place_of = ap pos place; small = omega (arith, few, low) });
        once = λ earlier. twice earlier there;
        no_gap = subst (λ n. (pos n ≡ pos 0) ⊎ Stands rows (pos e.1.site) (pos n -ℤ pos 1)) (sym place)
            (subst (λ n. (pos is.place ≡ pos 0) ⊎ Stands rows (pos n) (pos is.place -ℤ pos 1)) (sym number) (no_gap is.number is.place is.site e.0 is.of_list is.there));
        by_text = λ j before next is_before.
            let d = mapped_at address_row listed j before is_before in
            let order = in_order text_cmp listed j k d.0 e up (omega (arith, next)) d.1 at in
            subst (λ (r : AddressRow). text_cmp r.text e.0 ≡ Less) d.2 order;
      }
    where
      twice : Stands (take k rows) (pos e.1.site) (pos e.1.place) → Contains listed e → ⊥
      twice earlier there =
          let j = earlier.0 in
          let r = earlier.1 in
          let in_front = taken_there rows k j r (slice_get-get_or (take k rows) j r earlier.2 ∙ ap Some earlier.3) in
          let d = mapped_at address_row listed j r in_front.0 in
          let site = same_number d.0.1.site e.1.site (ap (λ (q : AddressRow). q.site) d.2 ∙ earlier.4.0) in
          let place = same_number d.0.1.place e.1.place (ap (λ (q : AddressRow). q.place) d.2 ∙ earlier.4.1) in
          let same = same_place d.0 e (member_there listed j d.0 d.1) there site place in
          let order = in_order text_cmp listed j k d.0 e (entries_sorted (addresses_of sites)) in_front.1 d.1 at in
          let tied : text_cmp d.0.0 e.0 ≡ Equal = ap (text_cmp d.0.0) (sym same) ∙ tied_itself item_total d.0.0 in
          let wrong : Less ≡ Equal = sym order ∙ tied in
          cc

  pub good_addresses : All HasTexts sites → IsAddressTable (length sites) (map address_row (entries (addresses_of sites)))
  good_addresses texts k row is =
      let e = mapped_at address_row listed k row is in
      subst (IsAddress (length sites) rows k) e.2 (good texts k e.0 e.1)
