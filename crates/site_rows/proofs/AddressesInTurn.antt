-- Rows of addresses that are good are those of the sites whose addresses they give.
use Rattle.std.proofs.Common.{◌≡◌, ◌⊎◌, inl, inr, ℕ, zero, suc, ◌+◌, ◌<◌, ◌≤◌, ℤ, pos, Bool, true, false, Option, Some, None, List, [], ◌∷◌, ◌++◌, length, map, take, refl, sym, ap, subst, ◌∙◌, arith}
use Rattle.std.specs.Prelude.{All, IsUtf8, T, ◌&&◌, ◌-ℤ◌}
use Rattle.std.specs.FinMap as finite
use Rattle.std.specs.FinMap.{entries, entries-from_sorted, from_sorted, get, get-empty, is_sorted, same_map}
use Rattle.std.specs.FinMap.Entries.{below_all}
use Rattle.std.specs.List.{Contains, enumerate_from, flat_map, slice_get}
use Rattle.std.specs.Ordering.{is_lt}
use Rattle.std.specs.declared.cmp.Ordering.{Ordering}
use Rattle.std.specs.declared.cmp.Ordering.TheVariants.{Less}
use Rattle.std.proofs.Math.IntN.{nat_abs}
use Rattle.std.proofs.lemmas.Bool.{cases_lt}
use Rattle.std.proofs.lemmas.Bool.Decides.{eqb_tells}
use Rattle.std.proofs.lemmas.Int.{ints}
use Rattle.event_json.specs.Sites.{Site, AreSites, repeats}
use Rattle.site_core.proofs.Entries.{entry_found, entry_there}
use Rattle.site_core.proofs.EventsAmong.{all_from_places}
use Rattle.site_core.proofs.ItemOrder.{item_total, item_exact}
use Rattle.site_core.proofs.Places.{member_there, some_stands}
use Rattle.site_core.proofs.Quarantining.{place_of}
use Rattle.trace_core.proofs.Members.{contains-map}
use Rattle.site_rows.specs.AddressesInTurn.{AreTextsOf, HaveAddresses, IsRowAt, row_at}
use Rattle.site_rows.specs.BadAddresses.{IsAddressTable}
use Rattle.site_rows.specs.Laws.{HasTexts}
use Rattle.site_rows.specs.RecordRows.{Addresses, address_row, addresses_at, addresses_of}
use Rattle.site_rows.specs.Texts.{text_cmp}
use Rattle.site_rows.specs.declared.address_rows.Address.{Address}
use Rattle.site_rows.specs.declared.rows.AddressRow.{AddressRow}
use Rattle.site_rows.proofs.GoodAddresses.{any_there, mapped_at}
use Rattle.site_rows.proofs.SameRecalls.{same_number}
use Rattle.site_rows.proofs.SameSites.{address_of, all_found, all_texts, at_place, found_among, stands}

-- ---- the texts of a site
-- what stands in a list that is one longer
last_there : {X : Type 0} (xs : List X) (x : X) (k : ℕ) (y : X) → slice_get (xs ++ x ∷ []) k ≡ Some y → (slice_get xs k ≡ Some y) ⊎ ((k ≡ length xs) × (x ≡ y))
last_there [] x zero y is = let same : x ≡ y = cc in inr (refl, same)
last_there [] x (suc k) y is = cc
last_there (z ∷ xs) x zero y is = inl is
last_there (z ∷ xs) x (suc k) y is = elim (last_there xs x k y is) [
  | inl before ↦ inl before
  | inr last ↦ inr (ap suc last.0, last.1)
]

row_is : (rows : List AddressRow) (site place : ℕ) (row : AddressRow) → IsRowAt rows site place row → Contains rows (row_at site place row.text)
row_is rows site place row is =
    let same : row ≡ row_at site place row.text = (λ i. record { text = row.text; site = is.at_site i; place = is.at_place i }) in
    subst (Contains rows) same is.among

-- the texts of rows of addresses are UTF-8, so those of the sites are
pub texts_in_utf8 : (many : ℕ) (rows : List AddressRow) (sites : List Site) → IsAddressTable many rows → HaveAddresses rows sites → All HasTexts sites
texts_in_utf8 many rows sites table have = all_from_places HasTexts sites (length sites) (omega arith) (λ number site low at.
    all_from_places IsUtf8 site.addresses (length site.addresses) (omega arith) (λ place text within there.
    let row = row_at number place text in
    let k = place_of rows row ((have number site at).told place text there) in
    (table k.0 row k.1).plain.1))

abbrev pub AreTold : List AddressRow → ℕ → List (List ℕ) → Type 0
AreTold rows site texts = (place : ℕ) (text : List ℕ) → slice_get texts place ≡ Some text → Contains rows (row_at site place text)

pub one_more_told : (rows : List AddressRow) (site place : ℕ) (texts after : List (List ℕ)) (row : AddressRow) → length texts ≡ place → after ≡ texts ++ row.text ∷ [] → IsRowAt rows site place row
    → AreTold rows site texts → AreTold rows site after
one_more_told rows site place texts after row counted more is so_far k text at = elim (last_there texts row.text k text (ap (λ xs. slice_get xs k) (sym more) ∙ at)) [
  | inl before ↦ so_far k text before
  | inr last ↦
      let number : place ≡ k = sym counted ∙ sym last.0 in
      subst (λ t. Contains rows (row_at site k t)) last.1 (subst (λ n. Contains rows (row_at site n row.text)) number (row_is rows site place row is))
]

-- the places before one of a row have rows too
module _ (sites : ℕ) (rows : List AddressRow) (table : IsAddressTable sites rows) where
  lower_place : (site p q : ℕ) (row : AddressRow) → Contains rows row → row.site ≡ pos site → row.place ≡ pos p → q ≤ p → (r : AddressRow) × IsRowAt rows site q r
  lower_place site zero q row there here at low =
      let same : zero ≡ q = omega (arith, low) in
      (row, record { among = there; at_site = here; at_place = at ∙ ap pos same })
  lower_place site (suc p) q row there here at low = elim (eqb_tells q (suc p)) [
    | inl is ↦ (row, record { among = there; at_site = here; at_place = at ∙ ap pos (sym is.1) })
    | inr is ↦
        let k = place_of rows row there in
        elim (table k.0 row k.1).no_gap [
          | inl first ↦ let wrong : suc p ≡ 0 = same_number (suc p) 0 (sym at ∙ first) in absurd (omega (arith, wrong))
          | inr before ↦
              let one : pos (suc p) -ℤ pos 1 ≡ pos p = omega (arith, ints) in
              lower_place site p q before.1 (before.0, before.2, before.3) (before.4.0 ∙ here) (before.4.1 ∙ ap (λ z. z -ℤ pos 1) at ∙ one) (omega (arith, low, is.1))
        ]
  ]

  pub texts_end : (site place : ℕ) (texts : List (List ℕ)) → length texts ≡ place → AreTold rows site texts → ((r : AddressRow) → IsRowAt rows site place r → ⊥) → AreTextsOf rows site texts
  texts_end site place texts counted told none = record {
    told = told;
    all = λ row p there here at. elim (cases_lt p (length texts)) [
      | inl low ↦ low
      | inr past ↦ let r = lower_place site p place row there here at (omega (arith, past, counted)) in absurd (none r.0 r.1)
    ];
  }

  pub texts_full : (site place : ℕ) (texts : List (List ℕ)) → length texts ≡ place → 16 ≤ place → AreTold rows site texts → AreTextsOf rows site texts
  texts_full site place texts counted many told = record {
    told = told;
    all = λ row p there here at.
        let k = place_of rows row there in
        let last = (table k.0 row k.1).place in
        let same : last.0 ≡ p = same_number last.0 p (sym last.1.place_of ∙ at) in
        omega (arith, last.1.small, same, counted, many);
  }

  -- no two rows are of one place
  earlier : (j k : ℕ) (r q : AddressRow) → slice_get rows j ≡ Some r → slice_get rows k ≡ Some q → j < k → r.site ≡ q.site → r.place ≡ q.place → ⊥
  earlier j k r q hr hq low site place =
      (table k q hq).once (any_there (λ (x : AddressRow). (x.site ≡ q.site) × (x.place ≡ q.place)) (take k rows) j r (kept_there rows j k r hr low) (site, place))
    where
      kept_there : (xs : List AddressRow) (i m : ℕ) (x : AddressRow) → slice_get xs i ≡ Some x → i < m → slice_get (take m xs) i ≡ Some x
      kept_there [] i m x is lt = cc
      kept_there (y ∷ xs) i zero x is lt = absurd (omega (arith, lt))
      kept_there (y ∷ xs) zero (suc m) x is lt = is
      kept_there (y ∷ xs) (suc i) (suc m) x is lt = kept_there xs i m x is (omega (arith, lt))

  same_row : (r q : AddressRow) → Contains rows r → Contains rows q → r.site ≡ q.site → r.place ≡ q.place → r ≡ q
  same_row r q hr hq site place =
      let j = place_of rows r hr in
      let k = place_of rows q hq in
      elim (cases_lt j.0 k.0) [
        | inl low ↦ absurd (earlier j.0 k.0 r q j.1 k.1 low site place)
        | inr high ↦ elim (cases_lt k.0 j.0) [
          | inl low ↦ absurd (earlier k.0 j.0 q r k.1 j.1 low (sym site) (sym place))
          | inr both ↦
              let at : j.0 ≡ k.0 = omega (arith, high, both) in
              let one : Some r ≡ Some q = sym j.1 ∙ ap (slice_get rows) at ∙ k.1 in
              cc
        ]
      ]

-- ---- the sites
pub one_more_site : (rows : List AddressRow) (number : ℕ) (sites after : List Site) (name : List ℕ) (texts : List (List ℕ)) → length sites ≡ number → after ≡ sites ++ record { name = name; addresses = texts } ∷ []
    → AreTextsOf rows number texts → HaveAddresses rows sites → HaveAddresses rows after
one_more_site rows number sites after name texts counted more told so_far k site at =
    let new : Site = record { name = name; addresses = texts } in
    elim (last_there sites new k site (ap (λ xs. slice_get xs k) (sym more) ∙ at)) [
      | inl before ↦ so_far k site before
      | inr last ↦ subst (λ (s : Site). AreTextsOf rows k s.addresses) last.1 (subst (λ n. AreTextsOf rows n texts) (sym counted ∙ sym last.0) told)
    ]

-- ---- the entry of a row
abbrev entry_of : AddressRow → List ℕ × Address
entry_of r = (r.text, record { site = nat_abs r.site; place = nat_abs r.place })

back : (z : ℤ) (n : ℕ) → z ≡ pos n → z ≡ pos (nat_abs z)
back z n e = e ∙ sym (ap (λ y. pos (nat_abs y)) e)

rows_back : (rows : List AddressRow) → ((k : ℕ) (r : AddressRow) → slice_get rows k ≡ Some r → r ≡ address_row (entry_of r)) → rows ≡ map address_row (map entry_of rows)
rows_back [] each = refl
rows_back (r ∷ rows) each = let one = each 0 r refl in let rest = rows_back rows (λ k q there. each (suc k) q there) in λ i. one i ∷ rest i

-- they ascend where each comes after the one before it
abbrev Chain : List AddressRow → Type 0
Chain rows = (k : ℕ) (a b : AddressRow) → slice_get rows k ≡ Some a → slice_get rows (suc k) ≡ Some b → text_cmp a.text b.text ≡ Less

both_hold : (a b : Bool) → T a → T b → T (a && b)
both_hold true b p q = q
both_hold false b p q = absurd p

is_less : (o : Ordering) → o ≡ Less → T (is_lt o)
is_less o e = subst (λ r. T (is_lt r)) (sym e) tt

below_chain : (x : List ℕ) (r : AddressRow) (rows : List AddressRow) → text_cmp x r.text ≡ Less → Chain (r ∷ rows) → T (below_all text_cmp x (map entry_of (r ∷ rows)))
below_chain x r [] low chain = both_hold _ _ (is_less _ low) tt
below_chain x r (q ∷ rows) low chain = both_hold _ _ (is_less _ low) (below_chain x q rows (item_total.trans x r.text q.text low (chain 0 r q refl refl)) (λ k. chain (suc k)))

ascends : (rows : List AddressRow) → Chain rows → T (is_sorted text_cmp (map entry_of rows))
ascends [] chain = tt
ascends (r ∷ []) chain = tt
ascends (r ∷ q ∷ rows) chain = both_hold _ _ (below_chain r.text q rows (chain 0 r q refl refl) (λ k. chain (suc k))) (ascends (q ∷ rows) (λ k. chain (suc k)))

same_options : {X : Type 0} (o p : Option X) → ((x : X) → o ≡ Some x → p ≡ Some x) → ((x : X) → p ≡ Some x → o ≡ Some x) → o ≡ p
same_options None None there here = refl
same_options None (Some x) there here = here x refl
same_options (Some x) p there here = sym (there x refl)

rows_ascend : (n : ℕ) (rows : List AddressRow) → IsAddressTable n rows → T (is_sorted text_cmp (map entry_of rows))
rows_ascend n rows table = ascends rows (λ k a b ha hb. (table (suc k) b hb).by_text k a (omega arith) ha)

-- one text stands at one place
pub one_text : (n : ℕ) (rows : List AddressRow) → IsAddressTable n rows → (site place other at : ℕ) (text : List ℕ) → Contains rows (row_at site place text) → Contains rows (row_at other at text)
    → at_place site place ≡ at_place other at
one_text n rows table site place other at text one two =
    let told : Addresses = from_sorted (map entry_of rows) in
    let same = sym (entries-from_sorted text_cmp (map entry_of rows) (rows_ascend n rows table)) in
    let found = λ (k p : ℕ) (there : Contains rows (row_at k p text)).
    entry_found item_total told text (at_place k p) (subst (λ es. Contains es (text, at_place k p)) same (contains-map entry_of rows (row_at k p text) there)) in
    let both : Some (at_place site place) ≡ Some (at_place other at) = sym (found site place one) ∙ found other at two in
    cc

-- ---- the rows are those of the sites
module _ (sites : List Site) (rows : List AddressRow) (are : AreSites sites) (table : IsAddressTable (length sites) rows) (have : HaveAddresses rows sites) where
  up : T (is_sorted text_cmp (map entry_of rows))
  up = rows_ascend (length sites) rows table

  abbrev told_map : Addresses
  told_map = from_sorted (map entry_of rows)

  abbrev all : List (List ℕ × Address)
  all = flat_map addresses_at (enumerate_from 0 sites)

  entries_told : entries told_map ≡ map entry_of rows
  entries_told = entries-from_sorted text_cmp (map entry_of rows) up

  told_of_sites : (q : List ℕ) (a : Address) → get (addresses_of sites) q ≡ Some a → get told_map q ≡ Some a
  told_of_sites q a is = elim (found_among finite.empty all q a is) [
    | inl before ↦ let never : None ≡ Some a = sym (get-empty text_cmp q) ∙ before in cc
    | inr among ↦
        let at = address_of 0 sites q a among in
        let row = (have at.number at.site at.of_list).told at.place q at.there in
        let there = contains-map entry_of rows (row_at at.number at.place q) row in
        let found = entry_found item_total told_map q (at_place at.number at.place) (subst (λ es. Contains es (q, at_place at.number at.place)) (sym entries_told) there) in
        let number : at.number ≡ 0 + at.number = omega arith in
        found ∙ ap Some (ap (λ n. at_place n at.place) number ∙ sym at.at)
  ]

  -- the address of a row is that of its text
  text_found : (r : AddressRow) (number place : ℕ) (site : Site) (text : List ℕ) → Contains rows r → r.site ≡ pos number → r.place ≡ pos place → slice_get sites number ≡ Some site
      → slice_get site.addresses place ≡ Some text → text ≡ r.text
  text_found r number place site text among here at site_there text_there =
      let twin = (have number site site_there).told place text text_there in
      ap (λ (x : AddressRow). x.text) (same_row (length sites) rows table (row_at number place text) r twin among (sym here) (sym at))

  row_found : (r : AddressRow) (number place : ℕ) (site : Site) (text : List ℕ) → Contains rows r → r.site ≡ pos number → r.place ≡ pos place → slice_get sites number ≡ Some site
      → slice_get site.addresses place ≡ Some text → get (addresses_of sites) r.text ≡ Some (at_place (nat_abs r.site) (nat_abs r.place))
  row_found r number place site text among here at site_there text_there =
      let same = text_found r number place site text among here at site_there text_there in
      let once : repeats (map (λ (e : List ℕ × Address). e.0) all) ≡ false = ap repeats (all_texts 0 sites) ∙ are.addresses_differ in
      let found = all_found finite.empty all r.text (at_place number place) once (stands sites number place site r.text site_there (text_there ∙ ap Some same)) in
      let address : at_place number place ≡ at_place (nat_abs r.site) (nat_abs r.place) = (λ i. at_place (nat_abs (sym here i)) (nat_abs (sym at i))) in
      found ∙ ap Some address

  good_found : (k : ℕ) (r : AddressRow) → slice_get rows k ≡ Some r → get (addresses_of sites) r.text ≡ Some (at_place (nat_abs r.site) (nat_abs r.place))
  good_found k r there =
      let among = member_there rows k r there in
      let good = table k r there in
      let number = good.site.0 in
      let place = good.place.0 in
      let site = some_stands sites number good.site.1.among in
      let texts = have number site.0 site.1 in
      let low = texts.all r place among good.site.1.number good.place.1.place_of in
      let text = some_stands site.0.addresses place low in
      row_found r number place site.0 text.0 among good.site.1.number good.place.1.place_of site.1 text.1

  sites_of_told : (q : List ℕ) (a : Address) → get told_map q ≡ Some a → get (addresses_of sites) q ≡ Some a
  sites_of_told q a is =
      let k = place_of (map entry_of rows) (q, a) (subst (λ es. Contains es (q, a)) entries_told (entry_there item_total item_exact told_map q a is)) in
      let r = mapped_at entry_of rows k.0 (q, a) k.1 in
      subst (λ (e : List ℕ × Address). get (addresses_of sites) e.0 ≡ Some e.1) r.2 (good_found k.0 r.0 r.1)

  pub rows_of_sites : rows ≡ map address_row (entries (addresses_of sites))
  rows_of_sites =
      let same = same_map item_total item_exact (addresses_of sites) told_map (λ q. same_options (get (addresses_of sites) q) (get told_map q) (told_of_sites q) (sites_of_told q)) in
      let made = rows_back rows (λ k r there.
      let good = table k r there in
      let site = back r.site good.site.0 good.site.1.number in
      let place = back r.place good.place.0 good.place.1.place_of in
      λ i. record { text = r.text; site = site i; place = place i }) in
      made ∙ ap (map address_row) (sym entries_told) ∙ ap (λ (m : Addresses). map address_row (entries m)) (sym same)
