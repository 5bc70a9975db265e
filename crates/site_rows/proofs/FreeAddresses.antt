-- A site can be added with the addresses that good rows give for it.
use Rattle.std.proofs.Common.{◌≡◌, inl, inr, ℕ, suc, ◌<◌, ◌≤◌, Bool, true, false, not, Option, Some, None, List, [], ◌∷◌, ◌++◌, length, map, take, drop, refl, sym, ap, ◌∙◌, arith}
use Rattle.std.specs.Prelude.{bytes_eq, is_some, if◌then◌else◌, nat_le, nat_lt, ◌&&◌, ◌||◌}
use Rattle.std.specs.List.{Contains, list_all, list_any, slice_get}
use Rattle.std.proofs.lemmas.Bool.{cases_lt}
use Rattle.std.proofs.lemmas.List.{take-append-drop}
use Rattle.std.proofs.lemmas.Slice.Eq.{bytes_eq-Decides}
use Rattle.epc_core.specs.Items.{is_plain}
use Rattle.event_json.proofs.Apart.{is_some-position, no_or}
use Rattle.event_json.proofs.Plain.{plain_decides}
use Rattle.event_json.specs.Sites.{Site, AreSites, addressed, is_site, is_site_name, named, repeats, sites_fault}
use Rattle.event_json.specs.declared.site_lists.SitesFault.{SitesFault}
use Rattle.event_json.specs.declared.site_lists.SitesFault.TheVariants.{BadName, NameTaken, TooMany, BadAddress, AddressTaken}
use Rattle.site_core.proofs.Places.{some_stands, stands_within}
use Rattle.site_core.proofs.Quarantining.{place_of}
use Rattle.trace_core.proofs.Members.{list_any_witness}
use Rattle.site_rows.specs.AddressesInTurn.{AreTextsOf, HaveAddresses, row_at}
use Rattle.site_rows.specs.BadAddresses.{IsAddressTable}
use Rattle.site_rows.specs.declared.address_rows.Address.{Address}
use Rattle.site_rows.specs.declared.rows.AddressRow.{AddressRow}
use Rattle.site_rows.proofs.AddressesInTurn.{one_text}
use Rattle.site_rows.proofs.AddressesOfSites.{left, stands_good}
use Rattle.site_rows.proofs.InTurn.{rest_there}
use Rattle.site_rows.proofs.NamesInTurn.{new_there, not_full, not_named}
use Rattle.site_rows.proofs.SameRecalls.{same_number}

none_of : {X : Type 0} (p : X → Bool) (xs : List X) → ((x : X) → Contains xs x → p x ≡ true → ⊥) → list_any p xs ≡ false
none_of p xs none = elim (list_any p xs) as (λ b. list_any p xs ≡ b → b ≡ false) [
  | true ↦ λ some. let x = list_any_witness p xs some in absurd (none x.0 x.1 x.2)
  | false ↦ λ _. refl
] refl

all_of : (p : List ℕ → Bool) (xs : List (List ℕ)) → ((k : ℕ) (x : List ℕ) → slice_get xs k ≡ Some x → p x ≡ true) → list_all p xs ≡ true
all_of p [] each = refl
all_of p (x ∷ xs) each = ap (λ b. b && list_all p xs) (each 0 x refl) ∙ all_of p xs (λ k y at. each (suc k) y at)

once_each : (xs : List (List ℕ)) → ((i j : ℕ) (x : List ℕ) → slice_get xs i ≡ Some x → slice_get xs j ≡ Some x → i ≡ j) → repeats xs ≡ false
once_each [] apart = refl
once_each (x ∷ xs) apart =
    let here = none_of (λ t. bytes_eq t x) xs (λ t among same.
    let k = place_of xs t among in
    let wrong : 0 ≡ suc k.0 = apart 0 (suc k.0) x refl (k.1 ∙ ap Some ((bytes_eq-Decides t x).0 same)) in
    omega (arith, wrong)) in
    no_or (list_any (λ t. bytes_eq t x) xs) (repeats xs) here (once_each xs (λ i j t hi hj. let next : suc i ≡ suc j = apart (suc i) (suc j) t hi hj in omega (arith, next)))

-- the causes, one after the other
no_cause : (name taken full long plain used twice : Bool) → name ≡ true → taken ≡ false → full ≡ false → long ≡ false → plain ≡ true → used ≡ false → twice ≡ false
    → ◌≡◌ {A = Option SitesFault} (if not name then Some BadName else if taken then Some NameTaken else if full || long then Some TooMany else if not plain then Some BadAddress else if used || twice then Some AddressTaken else None) None
no_cause true false false false true false false a b c d e f g = refl
no_cause false taken full long plain used twice a b c d e f g = cc
no_cause true true full long plain used twice a b c d e f g = cc
no_cause true false true long plain used twice a b c d e f g = cc
no_cause true false false true plain used twice a b c d e f g = cc
no_cause true false false false false used twice a b c d e f g = cc
no_cause true false false false true true twice a b c d e f g = cc
no_cause true false false false true false true a b c d e f g = cc

module _ (names sites : List Site) (rows : List AddressRow) (number : ℕ) (site : Site) (texts : List (List ℕ))
    (are : AreSites names) (table : IsAddressTable (length names) rows) (there : slice_get names number ≡ Some site) (counted : length sites ≡ number)
    (so_far : map (λ (s : Site). s.name) sites ≡ map (λ (s : Site). s.name) (take number names)) (have : HaveAddresses rows sites) (told : AreTextsOf rows number texts) where
  new_name : is_some (named sites site.name) ≡ false
  new_name =
      let name = λ (s : Site). s.name in
      let whole : names ≡ take number names ++ site ∷ drop (suc number) names = sym (take-append-drop number names) ∙ ap (λ xs. take number names ++ xs) (rest_there names number site there) in
      let once : repeats (map name (take number names ++ site ∷ drop (suc number) names)) ≡ false = ap (λ xs. repeats (map name xs)) (sym whole) ∙ are.names_differ in
      not_named sites site.name (ap (list_any (λ t. bytes_eq t site.name)) so_far ∙ new_there (take number names) site (drop (suc number) names) once)

  -- each text is plain, and there are few
  texts_plain : list_all is_plain texts ≡ true
  texts_plain = all_of is_plain texts (λ place text at.
      let k = place_of rows (row_at number place text) (told.told place text at) in
      (plain_decides text).1 (table k.0 (row_at number place text) k.1).plain.0)

  texts_few : length texts ≤ 16
  texts_few = elim (cases_lt 16 (length texts)) [
    | inr few ↦ few
    | inl many ↦
        let last = some_stands texts 16 many in
        let k = place_of rows (row_at number 16 last.0) (told.told 16 last.0 last.1) in
        let at = (table k.0 (row_at number 16 last.0) k.1).place in
        let same : at.0 ≡ 16 = same_number at.0 16 (sym at.1.place_of) in
        let low : at.0 < 16 = at.1.small in
        absurd (omega (arith, low, same))
  ]

  -- none is another site's, and none stands twice
  texts_free : list_any (λ a. is_some (addressed sites a)) texts ≡ false
  unfolding addressed
  texts_free = none_of (λ a. is_some (addressed sites a)) texts (λ text among used.
      let place = place_of texts text among in
      let here = told.told place.0 text place.1 in
      let has = λ (s : Site). list_any (λ a. bytes_eq a text) s.addresses in
      let other = list_any_witness has sites (sym (is_some-position has sites) ∙ used) in
      let k = place_of sites other.0 other.1 in
      let twin = list_any_witness (λ a. bytes_eq a text) other.0.addresses other.2 in
      let at = place_of other.0.addresses twin.0 twin.1 in
      let same : twin.0 ≡ text = (bytes_eq-Decides twin.0 text).0 twin.2 in
      let elsewhere = (have k.0 other.0 k.1).told at.0 text (at.1 ∙ ap Some same) in
      let number_same : number ≡ k.0 = ap (λ (a : Address). a.site) (one_text (length names) rows table number place.0 k.0 at.0 text here elsewhere) in
      let low = stands_within sites k.0 other.0 k.1 in
      omega (arith, low, number_same, counted))

  texts_once : repeats texts ≡ false
  texts_once = once_each texts (λ i j text hi hj. ap (λ (a : Address). a.place) (one_text (length names) rows table number i number j text (told.told i text hi) (told.told j text hj)))

  pub free_site : sites_fault sites site.name texts ≡ None
  unfolding sites_fault
  free_site =
      let low : number < length names = stands_within names number site there in
      let few : length names ≤ 16 = are.few in
      let room : length sites < 16 = omega (arith, low, few, counted) in
      let good = left (is_site_name site.name) (nat_le (length site.addresses) 16) (left (is_site_name site.name && nat_le (length site.addresses) 16) (list_all is_plain site.addresses) (stands_good is_site names number site are.good there)) in
      let size : length texts ≤ 16 = texts_few in
      let short : nat_lt 16 (length texts) ≡ false = grind (arith, size) in
      no_cause (is_site_name site.name) (is_some (named sites site.name)) (nat_le 16 (length sites)) (nat_lt 16 (length texts)) (list_all is_plain texts) (list_any (λ a. is_some (addressed sites a)) texts) (repeats texts)
      good new_name (not_full (length sites) room) short texts_plain texts_free texts_once
