-- Digital Links spell the items of their numbers.
use Rattle.std.proofs.Common.{◌≡◌, ℕ, ◌||◌, true, false, List, [], ◌∷◌, ◌++◌, codes, inl, inr, All, refl, sym, ap, ◌∙◌, subst, arith, length-append}
use Rattle.std.specs.List.{list_all}
use Rattle.std.proofs.lemmas.Bool.{agree_below, agree_below_at}
use Rattle.std.proofs.lemmas.Bool.Decides.{nat_tests}
use Rattle.std.proofs.lemmas.List.Elements.{All-cons, All-nil}
use Rattle.std.proofs.lemmas.List.Sums.{list_all-from_AllPass}
use Rattle.percent_encoding.specs.AsciiSet.{contains, should_percent_encode}
use Rattle.percent_encoding.specs.Percent.{percent_decode, percent_encode}
use Rattle.percent_encoding.proofs.AsciiSetLemmas.{ascii_from_kept, outside_from_kept}
use Rattle.percent_encoding.proofs.PercentLemmas.{All-percent_encode, IsByte, IsEscapeByte, length-percent_decode, round_trip}
use Rattle.epc_core.specs.Items.{is_plain_byte, sgtin_key, sscc_key}
use Rattle.epc_core.specs.Numbers.{IsChecked}
use Rattle.epc_core.specs.Serials.{IsSerial, is_part_byte, is_serial_byte}
use Rattle.epc_core.specs.Spellings.{Spells, sgtin_link, sscc_link}
use Rattle.epc_core.proofs.Digits.{all_append}
use Rattle.epc_core.proofs.Found.{serial_byte_small}
use Rattle.epc_core.proofs.Told.{escaped_plain}
use Rattle.epc_core.proofs.Words.{digits_plain}
use Rattle.std.proofs.lemmas.Bool.{and_parts}
use Rattle.event_writing.specs.declared.item_texts.TheConstants.{RESERVED}

-- each byte that is left as it is may stand in a part of a link
part_bytes : agree_below (λ b. contains RESERVED b || is_part_byte b) (λ b. true) 128 ≡ true
part_bytes = refl

kept_is_part : (b : ℕ) → should_percent_encode RESERVED b ≡ false → is_part_byte b ≡ true
kept_is_part b kept =
    let either = agree_below_at (λ b. contains RESERVED b || is_part_byte b) (λ b. true) 128 b part_bytes (ascii_from_kept RESERVED b kept) in
    sym (ap (λ t. t || is_part_byte b) (outside_from_kept RESERVED b kept)) ∙ either

escape_is_part : (b : ℕ) → IsEscapeByte b → is_part_byte b ≡ true
escape_is_part b h = grind (arith, nat_tests)

-- a serial number's characters are bytes
bytes_of : (serial : List ℕ) → list_all is_serial_byte serial ≡ true → All IsByte serial
bytes_of [] h = All-nil IsByte
bytes_of (b ∷ bs) h =
    let parts = and_parts (is_serial_byte b) (list_all is_serial_byte bs) h in
    let small = serial_byte_small b parts.0 in
    All-cons IsByte b bs (omega arith) (bytes_of bs parts.1)

pub item_spelled : (gtin serial : List ℕ) → IsChecked 14 gtin → IsSerial serial → Spells (sgtin_link gtin (percent_encode RESERVED serial)) (sgtin_key gtin serial)
item_spelled gtin serial checked allowed =
    let escaped = percent_encode RESERVED serial in
    let decodes : percent_decode escaped ≡ serial = round_trip RESERVED serial refl (bytes_of serial allowed.allowed) in
    let again : IsSerial (percent_decode escaped) = subst IsSerial (sym decodes) allowed in
    let each = All-percent_encode (λ b. is_part_byte b ≡ true) RESERVED serial kept_is_part escape_is_part in
    let part : list_all is_part_byte escaped ≡ true = list_all-from_AllPass is_part_byte escaped each in
    let long = (length-percent_decode escaped).1 in
    let few = again.few in
    let counted = checked.counted in
    let tail = codes "/21/" ++ escaped in
    let one = length-append gtin tail in
    let plain = all_append is_plain_byte gtin tail (digits_plain gtin checked.are_digits) (escaped_plain escaped again.allowed) in
    record {
      plain = record { some = omega arith; few = omega arith; allowed = plain };
      item = inl (inl (inr (record { gtin = gtin; escaped = escaped; is = refl; checked = checked; part = part; serial = again; names = ap (sgtin_key gtin) (sym decodes) })));
    }

pub sscc_spelled : (digits : List ℕ) → IsChecked 18 digits → Spells (sscc_link digits) (sscc_key digits)
sscc_spelled digits checked =
    let counted = checked.counted in
    record {
      plain = record { some = omega arith; few = omega arith; allowed = digits_plain digits checked.are_digits };
      item = inl (inr (inr (record { sscc = digits; is = refl; checked = checked; names = refl })));
    }
