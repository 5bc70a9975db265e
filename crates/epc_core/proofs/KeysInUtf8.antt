-- The key of an item is UTF-8: its words, digits and serial number are ASCII, and any other text is UTF-8 already.
use Rattle.std.proofs.Common.{◌≡◌, ℕ, ◌<◌, Bool, true, List, ◌++◌, refl, arith}
use Rattle.std.specs.Prelude.{IsUtf8, codes, nat_lt}
use Rattle.std.specs.List.{list_all}
use Rattle.std.proofs.lemmas.Bool.Decides.{nat_tests}
use Rattle.std.proofs.lemmas.List.Sums.{AllPass-from_list_all}
use Rattle.std.proofs.lemmas.Str.{IsUtf8-append, IsUtf8-from_ascii}
use Rattle.std.proofs.lemmas.Str.Ascii.{IsAscii-from_all}
use Rattle.epc_core.proofs.Found.{IsUtf8-from_serial}
use Rattle.epc_core.specs.Forms.{IsForm, key_of_form}
use Rattle.epc_core.specs.Numbers.{IsChecked, is_digit}
use Rattle.epc_core.specs.declared.items.EpcForm.{EpcForm}
use Rattle.epc_core.specs.declared.items.EpcForm.TheVariants.{Item, Sscc, Other}

-- bytes of which each passes a test that only ASCII passes
in_ascii : (p : ℕ → Bool) → ((b : ℕ) → p b ≡ true → b < 128) → (bytes : List ℕ) → list_all p bytes ≡ true → IsUtf8 bytes
in_ascii p small bytes all = IsUtf8-from_ascii bytes (IsAscii-from_all bytes (λ k d low. small _ (AllPass-from_list_all p bytes all k d low)))

digit_small : (b : ℕ) → is_digit b ≡ true → b < 128
digit_small b h = grind (arith, nat_tests)

digits_in_utf8 : (count : ℕ) (digits : List ℕ) → IsChecked count digits → IsUtf8 digits
digits_in_utf8 count digits is = in_ascii is_digit digit_small digits is.are_digits

byte_small : (b : ℕ) → nat_lt b 128 ≡ true → b < 128
byte_small b h = grind (arith, nat_tests)

-- a word of a key
word_in_utf8 : (word : List ℕ) → list_all (λ b. nat_lt b 128) word ≡ true → IsUtf8 word
word_in_utf8 = in_ascii (λ b. nat_lt b 128) byte_small

pub form_in_utf8 : (form : EpcForm) → IsForm form → IsUtf8 (key_of_form form)
form_in_utf8 (Item gtin serial) is =
    IsUtf8-append (codes "sgtin ") (gtin ++ (codes " " ++ serial)) (word_in_utf8 (codes "sgtin ") refl)
    (IsUtf8-append gtin (codes " " ++ serial) (digits_in_utf8 14 gtin is.0)
    (IsUtf8-append (codes " ") serial (word_in_utf8 (codes " ") refl) (IsUtf8-from_serial serial is.1)))
form_in_utf8 (Sscc digits) is = IsUtf8-append (codes "sscc ") digits (word_in_utf8 (codes "sscc ") refl) (digits_in_utf8 18 digits is)
form_in_utf8 (Other text) is = IsUtf8-append (codes "uri ") text (word_in_utf8 (codes "uri ") refl) is.1
