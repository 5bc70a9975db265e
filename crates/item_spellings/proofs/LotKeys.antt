-- The key of a lot, and its number within.
use Rattle.std.proofs.Common.{◌≡◌, ◌≢◌, ◌++◌, ◌∷◌, [], ◌<◌, ℕ, Bool, true, false, if◌then◌else◌, List, length, codes, refl, sym, ap, ◌∙◌, subst, arith, length-append}
use Rattle.std.specs.List.{list_all}
use Rattle.std.proofs.lemmas.Bool.{and_parts}
use Rattle.percent_encoding.specs.Percent.{percent_decode, percent_encode_byte}
use Rattle.percent_encoding.proofs.PercentLemmas.{length-percent_decode, percent_decode-nil, percent_decode-percent_encode_byte, percent_decode_not_percent}
use Rattle.epc_core.specs.Items.{is_plain_byte, key_of, uri_key}
use Rattle.epc_core.specs.Numbers.{IsChecked}
use Rattle.epc_core.specs.Serials.{IsSerial, is_serial_byte}
use Rattle.epc_core.specs.Spellings.{IsKey, IsPlain, Spells}
use Rattle.epc_core.proofs.Cuts.{parted-append}
use Rattle.epc_core.proofs.Digits.{all_append}
use Rattle.epc_core.proofs.Found.{serial_byte_small}
use Rattle.epc_core.proofs.Spelled.{not_digit, spells_key}
use Rattle.epc_core.proofs.Told.{escaped_plain}
use Rattle.epc_core.proofs.Words.{digits_plain}
use Rattle.item_spellings.specs.Laws.{LotsAreSpelled}
use Rattle.item_spellings.specs.Lots.{escape, escape_byte, is_kept, lot_text}

-- ---- the number can be read of its spelling

kept_no_percent : (b : ℕ) → is_kept b ≡ true → b ≢ 37
kept_no_percent b kept same = let no : is_kept 37 ≡ true = ap is_kept (sym same) ∙ kept in cc

decoded_byte : (b : ℕ) (rest : List ℕ) → b < 256 → percent_decode (escape_byte b ++ rest) ≡ b ∷ percent_decode rest
decoded_byte b rest small = by (is_kept b) refl
  where
    by : (k : Bool) → is_kept b ≡ k → percent_decode ((if k then b ∷ [] else percent_encode_byte b) ++ rest) ≡ b ∷ percent_decode rest
    by true kept = percent_decode_not_percent b rest (kept_no_percent b kept)
    by false other = percent_decode-percent_encode_byte b rest small

pub decoded : (number : List ℕ) → list_all is_serial_byte number ≡ true → percent_decode (escape number) ≡ number
decoded [] allowed = percent_decode-nil
decoded (b ∷ bs) allowed =
    let parts = and_parts (is_serial_byte b) (list_all is_serial_byte bs) allowed in
    let small : b < 128 = serial_byte_small b parts.0 in
    decoded_byte b (escape bs) (omega arith) ∙ ap (λ rest. b ∷ rest) (decoded bs parts.1)

-- ---- the item of a lot is an opaque one, with this spelling

pub opaque_lot : (gtin number : List ℕ) → IsChecked 14 gtin → key_of (lot_text gtin number) ≡ uri_key (lot_text gtin number)
unfolding key_of
opaque_lot gtin number checked = rw (parted-append 47 gtin (49 ∷ 48 ∷ 47 ∷ escape number) (not_digit gtin 47 refl checked.are_digits)) refl

lot_plain : (gtin number : List ℕ) → IsChecked 14 gtin → IsSerial number → IsPlain (lot_text gtin number)
lot_plain gtin number checked allowed =
    let same = decoded number allowed.allowed in
    let long = (length-percent_decode (escape number)).1 in
    let decoded_long = ap length same in
    let few = allowed.few in
    let counted = checked.counted in
    let one = length-append gtin (codes "/10/" ++ escape number) in
    let plain = all_append is_plain_byte gtin (codes "/10/" ++ escape number) (digits_plain gtin checked.are_digits)
    (escaped_plain (escape number) (subst (λ s. list_all is_serial_byte s ≡ true) (sym same) allowed.allowed)) in
    record { some = omega arith; few = omega arith; allowed = plain }

pub lots_are_spelled : LotsAreSpelled
lots_are_spelled gtin number checked allowed = subst (Spells (lot_text gtin number)) (opaque_lot gtin number checked) (spells_key (lot_text gtin number) (lot_plain gtin number checked allowed))

pub lot_is_key : (gtin number : List ℕ) → IsChecked 14 gtin → IsSerial number → IsKey (uri_key (lot_text gtin number))
lot_is_key gtin number checked allowed = (lot_text gtin number, lots_are_spelled gtin number checked allowed)
