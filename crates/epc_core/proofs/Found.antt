-- What `form_of` finds in a text has the text's key, and is an item's form.
use Rattle.std.proofs.Common.{◌≡◌, inl, inr, ℕ, ◌<◌, true, List, Option, Some, None, option_map, refl, sym, ap, ◌∙◌, arith}
use Rattle.std.specs.Option.{option_or}
use Rattle.std.specs.Str.{IsUtf8}
use Rattle.std.proofs.lemmas.Bool.Decides.{nat_tests}
use Rattle.std.proofs.lemmas.List.Sums.{AllPass-from_list_all}
use Rattle.std.proofs.lemmas.Str.{IsUtf8-from_ascii}
use Rattle.std.proofs.lemmas.Str.Ascii.{IsAscii-from_all}
use Rattle.percent_encoding.specs.Percent.{percent_decode}
use Rattle.epc_core.specs.Numbers.{IsChecked}
use Rattle.epc_core.specs.Serials.{IsSerial, is_serial_byte, serial_of}
use Rattle.epc_core.specs.Items.{gtin_of_uri, gtin_of_link, sscc_of_uri, sscc_of_link, sgtin_key, sscc_key, uri_key, sgtin_key_of, number_key_of, key_of}
use Rattle.epc_core.specs.Spellings.{SpellsNumber, IsPlain, Spells}
use Rattle.epc_core.proofs.Spelled.{either_some, not_number, serial_of_some, sgtin_uri_found, sgtin_link_found, sscc_uri_found, sscc_link_found}

pub or_mapped : {A B : Type 0} (f : A → B) (o p q : Option A) (s t : Option B) → o ≡ option_or p q → option_map f p ≡ s → option_map f q ≡ t → option_or s t ≡ option_map f o
or_mapped {A} {B} f o p q s t is one two = (λ i. option_or (sym one i) (sym two i)) ∙ (by p ∙ ap (option_map f) (sym is))
  where
    by : (r : Option A) → option_or (option_map f r) (option_map f q) ≡ option_map f (option_or r q)
    by None = refl
    by (Some x) = refl

found_number : (text gtin escaped : List ℕ) → option_or (gtin_of_uri text) (gtin_of_link text) ≡ Some (gtin, escaped) → IsSerial (percent_decode escaped)
    → SpellsNumber text (sgtin_key gtin (percent_decode escaped)) × IsChecked 14 gtin
found_number text gtin escaped h serial =
    elim (either_some (gtin_of_uri text) (gtin_of_link text) (gtin, escaped) h) [
      | inl e ↦ let found = sgtin_uri_found text gtin escaped e serial in (inl (inl found.0), found.1)
      | inr e ↦ let found = sgtin_link_found text gtin escaped e serial in (inl (inr found.0), found.1)
    ]

pub found_gtin : (text gtin escaped serial : List ℕ) → option_or (gtin_of_uri text) (gtin_of_link text) ≡ Some (gtin, escaped) → serial_of escaped ≡ Some serial
    → (number_key_of text ≡ Some (sgtin_key gtin serial)) × (IsChecked 14 gtin × IsSerial serial)
found_gtin text gtin escaped serial h k =
    let of = serial_of_some escaped serial k in
    let known : IsSerial (percent_decode escaped) = (serial_of_some escaped (percent_decode escaped) (k ∙ ap Some of.1)).0 in
    (rw (h, k) refl, ((found_number text gtin escaped h known).1, of.0))

pub no_gtin : (text : List ℕ) → option_or (gtin_of_uri text) (gtin_of_link text) ≡ None → sgtin_key_of text ≡ None
no_gtin text h = rw h refl

pub no_serial : (text gtin escaped : List ℕ) → option_or (gtin_of_uri text) (gtin_of_link text) ≡ Some (gtin, escaped) → serial_of escaped ≡ None → sgtin_key_of text ≡ None
no_serial text gtin escaped h k = rw (h, k) refl

pub found_sscc : (text sscc : List ℕ) → sgtin_key_of text ≡ None → option_or (sscc_of_uri text) (sscc_of_link text) ≡ Some sscc
    → (number_key_of text ≡ Some (sscc_key sscc)) × IsChecked 18 sscc
found_sscc text sscc none h = (
  rw (none, h) refl,
  elim (either_some (sscc_of_uri text) (sscc_of_link text) sscc h) [
    | inl e ↦ (sscc_uri_found text sscc e).1
    | inr e ↦ (sscc_link_found text sscc e).1
  ],
)

pub found_key : (text key : List ℕ) → number_key_of text ≡ Some key → key_of text ≡ key
unfolding key_of
found_key text key h = rw h refl

pub found_other : (text : List ℕ) → number_key_of text ≡ None → (key_of text ≡ uri_key text) × (IsPlain text → Spells text (uri_key text))
unfolding key_of
found_other text none = (rw none refl, λ plain. record { plain = plain; item = inr (record { other = not_number text none; names = refl }) })

-- ---- a serial number is text

pub serial_byte_small : (b : ℕ) → is_serial_byte b ≡ true → b < 128
serial_byte_small b h = grind (arith, nat_tests)

pub IsUtf8-from_serial : (serial : List ℕ) → IsSerial serial → IsUtf8 serial
IsUtf8-from_serial serial p =
    IsUtf8-from_ascii serial (IsAscii-from_all serial (λ k d l. serial_byte_small _ (AllPass-from_list_all is_serial_byte serial p.allowed k d l)))
