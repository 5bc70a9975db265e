-- The laws of the definition.
use Rattle.std.proofs.Common.{◌≡◌, ◌↔◌, inl, inr, ℕ, ◌+◌, ◌*◌, Bool, true, false, ◌&&◌, List, [], ◌∷◌, ◌++◌, codes, Option, Some, None, Ok, Err, refl, sym, ap, ◌∙◌, subst, cond, eqb, arith, length-append}
use Rattle.std.specs.List.{list_all, list_all}
use Rattle.std.specs.Char.{is_digit as is_hex_digit, digit_value}
use Rattle.std.proofs.lemmas.Bool.{and_parts, and_from, eqb-true}
use Rattle.std.proofs.lemmas.Bool.Decides.{nat_tests}
use Rattle.std.proofs.lemmas.List.{append_cancel_left}
use Rattle.std.proofs.lemmas.Option.{some_pair_parts}
use Rattle.percent_encoding.specs.Percent.{percent_decode, is_escape}
use Rattle.percent_encoding.proofs.PercentLemmas.{length-percent_decode}
use Rattle.epc_core.specs.Numbers.{is_digit}
use Rattle.epc_core.specs.Serials.{IsSerial, is_serial_byte}
use Rattle.epc_core.specs.Items.{is_plain_byte, sgtin_key, parted, key_of}
use Rattle.epc_core.specs.Spellings.{IsPlain, whole_number, Spells}
use Rattle.epc_core.specs.Reading.{reading, fault_of}
use Rattle.epc_core.specs.Laws.{GtinsAreSpelledTwice, SsccsAreSpelledTwice}
use Rattle.epc_core.specs.declared.items.EpcFault.{EpcFault}
use Rattle.epc_core.specs.declared.items.EpcForm.{EpcForm}
use Rattle.epc_core.specs.declared.items.EpcForm.TheVariants.{Item, Sscc, Other}
use Rattle.epc_core.specs.Forms.{key_of_form, IsForm, SameForm}
use Rattle.epc_core.proofs.Digits.{all_append, all_parts}
use Rattle.epc_core.proofs.Plain.{plain_from, plain_to, reading_plain, serial_is_plain}
use Rattle.epc_core.proofs.Spelled.{spells_key, key_from, not_digit}
use Rattle.epc_core.proofs.Words.{digits_plain, digit_is_plain, apart}
use Rattle.epc_core.proofs.Cuts.{parted-append}

pub only_key : (text key other : List ℕ) → Spells text key → Spells text other → key ≡ other
only_key text key other s t = sym (key_from text key s) ∙ key_from text other t

pub reading_from : (text key : List ℕ) → reading text ≡ Ok key → Spells text key
unfolding reading
reading_from text key h =
    by (fault_of text) refl
  where
    by : (o : Option EpcFault) → fault_of text ≡ o → Spells text key
    by None e =
        let plain = plain_from text e in
        let same : key_of text ≡ key = let whole = sym (reading_plain text e) ∙ h in cc in
        subst (Spells text) same (spells_key text plain)
    by (Some fault) e = absurd (let refused : reading text ≡ Err fault = rw e refl in let no : ⊥ = cc in no)

pub reading_to : (text key : List ℕ) → Spells text key → reading text ≡ Ok key
reading_to text key s = reading_plain text (plain_to text s.plain) ∙ ap Ok (key_from text key s)

pub equal_keys : (text other : List ℕ) → IsPlain text → IsPlain other → (key_of text ≡ key_of other) ↔ ((key : List ℕ) × Spells text key × Spells other key)
equal_keys text other plain also = (
  λ e. (key_of text, spells_key text plain, subst (Spells other) (sym e) (spells_key other also)),
  λ (key, s, t). key_from text key s ∙ sym (key_from other key t),
)

-- ---- an escaped serial number is plain

hex_is_plain : (b : ℕ) → is_hex_digit b 16 ≡ true → is_plain_byte b ≡ true
hex_is_plain b h = grind (arith, nat_tests)

pub escaped_plain : (bs : List ℕ) → list_all is_serial_byte (percent_decode bs) ≡ true → list_all is_plain_byte bs ≡ true
unfolding percent_decode
escaped_plain [] h = refl
escaped_plain (b ∷ []) h =
    let p = and_parts (is_serial_byte b) true h in
    and_from (is_plain_byte b) true (serial_is_plain b p.0) refl
escaped_plain (b ∷ c ∷ []) h =
    let p = and_parts (is_serial_byte b) (is_serial_byte c && true) h in
    let q = and_parts (is_serial_byte c) true p.1 in
    and_from (is_plain_byte b) (is_plain_byte c && true) (serial_is_plain b p.0) (and_from (is_plain_byte c) true (serial_is_plain c q.0) refl)
escaped_plain (b ∷ high ∷ low ∷ rest) h =
    by (is_escape b high low) refl h (escaped_plain rest) (escaped_plain (high ∷ low ∷ rest))
  where
    by : (t : Bool) → is_escape b high low ≡ t
        → list_all is_serial_byte (cond t ((16 * digit_value high + digit_value low) ∷ percent_decode rest) (b ∷ percent_decode (high ∷ low ∷ rest))) ≡ true
        → (list_all is_serial_byte (percent_decode rest) ≡ true → list_all is_plain_byte rest ≡ true)
        → (list_all is_serial_byte (percent_decode (high ∷ low ∷ rest)) ≡ true → list_all is_plain_byte (high ∷ low ∷ rest) ≡ true)
        → list_all is_plain_byte (b ∷ high ∷ low ∷ rest) ≡ true
    by true e h one two =
        let p = and_parts (eqb b 37 && is_hex_digit high 16) (is_hex_digit low 16) e in
        let q = and_parts (eqb b 37) (is_hex_digit high 16) p.0 in
        let tail = and_parts (is_serial_byte (16 * digit_value high + digit_value low)) (list_all is_serial_byte (percent_decode rest)) h in
        and_from (is_plain_byte b) (list_all is_plain_byte (high ∷ low ∷ rest)) (ap is_plain_byte (eqb-true b 37 q.0))
        (and_from (is_plain_byte high) (list_all is_plain_byte (low ∷ rest)) (hex_is_plain high q.1)
        (and_from (is_plain_byte low) (list_all is_plain_byte rest) (hex_is_plain low p.1) (one tail.1)))
    by false e h one two =
        let p = and_parts (is_serial_byte b) (list_all is_serial_byte (percent_decode (high ∷ low ∷ rest))) h in
        and_from (is_plain_byte b) (list_all is_plain_byte (high ∷ low ∷ rest)) (serial_is_plain b p.0) (two p.1)

-- ---- both spellings of a number

pub gtins : GtinsAreSpelledTwice
gtins company item escaped part indicator check least most checked serial raw same =
    let gtin = whole_number company indicator item check in
    let head = and_parts (is_digit indicator) (list_all is_digit (company ++ (item ++ check ∷ []))) checked.are_digits in
    let parts = all_parts is_digit company (item ++ check ∷ []) head.1 in
    let ends = all_parts is_digit item (check ∷ []) parts.1 in
    let serial_too : IsSerial (percent_decode part) = subst IsSerial (sym same) serial in
    let long = (length-percent_decode escaped).1 in
    let also_long = (length-percent_decode part).1 in
    let few = serial.few in
    let also_few = serial_too.few in
    let counted = checked.counted in
    let one = length-append company (item ++ check ∷ []) in
    let two = length-append item (check ∷ []) in
    let three = length-append company (46 ∷ (indicator ∷ (item ++ 46 ∷ escaped))) in
    let four = length-append item (46 ∷ escaped) in
    let five = length-append gtin (codes "/21/" ++ part) in
    let item_plain = all_append is_plain_byte item (46 ∷ escaped) (digits_plain item ends.0) (escaped_plain escaped serial.allowed) in
    let first_plain = and_from (is_plain_byte indicator) (list_all is_plain_byte (item ++ 46 ∷ escaped)) (digit_is_plain indicator head.0) item_plain in (
      record {
        plain = record { some = omega arith; few = omega arith; allowed = all_append is_plain_byte company (46 ∷ (indicator ∷ (item ++ 46 ∷ escaped))) (digits_plain company parts.0) first_plain };
        item = inl (inl (inl (record { company = company; indicator = indicator; item = item; check = check; escaped = escaped; is = refl; least = least; most = most; gtin = checked; serial = serial; names = refl })));
      },
      record {
        plain = record { some = omega arith; few = omega arith; allowed = all_append is_plain_byte gtin (codes "/21/" ++ part) (digits_plain gtin checked.are_digits) (escaped_plain part serial_too.allowed) };
        item = inl (inl (inr (record { gtin = gtin; escaped = part; is = refl; checked = checked; part = raw; serial = serial_too; names = ap (sgtin_key gtin) (sym same) })));
      },
    )

pub ssccs : SsccsAreSpelledTwice
ssccs company reference extension check least most checked =
    let sscc = whole_number company extension reference check in
    let head = and_parts (is_digit extension) (list_all is_digit (company ++ (reference ++ check ∷ []))) checked.are_digits in
    let parts = all_parts is_digit company (reference ++ check ∷ []) head.1 in
    let ends = all_parts is_digit reference (check ∷ []) parts.1 in
    let counted = checked.counted in
    let one = length-append company (reference ++ check ∷ []) in
    let two = length-append reference (check ∷ []) in
    let three = length-append company (46 ∷ (extension ∷ reference)) in
    let first_plain = and_from (is_plain_byte extension) (list_all is_plain_byte reference) (digit_is_plain extension head.0) (digits_plain reference ends.0) in (
      record {
        plain = record { some = omega arith; few = omega arith; allowed = all_append is_plain_byte company (46 ∷ (extension ∷ reference)) (digits_plain company parts.0) first_plain };
        item = inl (inr (inl (record { company = company; extension = extension; reference = reference; check = check; is = refl; least = least; most = most; sscc = checked; names = refl })));
      },
      record {
        plain = record { some = omega arith; few = omega arith; allowed = digits_plain sscc checked.are_digits };
        item = inl (inr (inr (record { sscc = sscc; is = refl; checked = checked; names = refl })));
      },
    )

-- ---- a key determines its form

pub same_form : (form other : EpcForm) → IsForm form → IsForm other → key_of_form form ≡ key_of_form other → SameForm form other
same_form (Item gtin serial) (Item other_gtin other_serial) h k e =
    let rest = append_cancel_left (codes "sgtin ") (gtin ++ 32 ∷ serial) (other_gtin ++ 32 ∷ other_serial) e in
    let one = parted-append 32 gtin serial (not_digit gtin 32 refl h.0.are_digits) in
    let two = parted-append 32 other_gtin other_serial (not_digit other_gtin 32 refl k.0.are_digits) in
    some_pair_parts gtin other_gtin serial other_serial (sym one ∙ (ap (parted 32) rest ∙ two))
same_form (Item gtin serial) (Sscc other) h k e = apart _ _ 1 refl e
same_form (Item gtin serial) (Other other) h k e = apart _ _ 0 refl e
same_form (Sscc digits) (Item gtin serial) h k e = apart _ _ 1 refl e
same_form (Sscc digits) (Sscc other) h k e = append_cancel_left (codes "sscc ") digits other e
same_form (Sscc digits) (Other other) h k e = apart _ _ 0 refl e
same_form (Other text) (Item gtin serial) h k e = apart _ _ 0 refl e
same_form (Other text) (Sscc other) h k e = apart _ _ 0 refl e
same_form (Other text) (Other other) h k e = append_cancel_left (codes "uri ") text other e
