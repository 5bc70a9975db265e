-- Which keys there are: each has its first word and the parts of that form, and each such key has a text.
use Rattle.std.proofs.Common.{◌≡◌, ◌⊎◌, inl, inr, ℕ, ◌*◌, Bool, true, false, ◌&&◌, List, [], ◌∷◌, ◌++◌, length, get_or, codes, Option, Some, None, is_some, Result, Ok, Err, refl, sym, ap, ◌∙◌, subst, eqb, arith, length-append}
use Rattle.std.specs.List.{list_all, flat_map}
use Rattle.std.specs.Result.{IfErr}
use Rattle.std.proofs.lemmas.Bool.{true≢false, both_ways, and_parts, and_from}
use Rattle.std.proofs.lemmas.Option.{none-some, some_pair_parts}
use Rattle.std.proofs.lemmas.Bool.Decides.{nat_tests}
use Rattle.std.proofs.lemmas.List.{append_cancel_left}
use Rattle.std.proofs.lemmas.List.Sums.{list_all-from_AllPass}
use Rattle.std.proofs.lemmas.List.Elements.{All-weaker}
use Rattle.percent_encoding.specs.Percent.{percent_decode, percent_encode_byte}
use Rattle.percent_encoding.proofs.PercentLemmas.{percent_decode-percent_encode_byte, percent_decode-nil, All-percent_encode_byte, IsEscapeByte}
use Rattle.epc_core.specs.Numbers.{is_digit, IsChecked, is_checked}
use Rattle.epc_core.specs.Serials.{IsSerial, is_serial, is_serial_byte, is_part_byte}
use Rattle.epc_core.specs.Items.{is_plain_byte, parted, sgtin_key, sscc_key, uri_key, number_key_of, key_of}
use Rattle.epc_core.specs.Spellings.{IsPlain, SpellsNumber, Opaque, Spells, IsKey}
use Rattle.epc_core.specs.declared.items.EpcForm.{EpcForm}
use Rattle.epc_core.specs.declared.items.EpcForm.TheVariants.{Item, Sscc, Other}
use Rattle.epc_core.specs.Forms.{key_of_form, IsForm}
use Rattle.epc_core.proofs.Cuts.{parted-append, parted_some}
use Rattle.epc_core.proofs.Digits.{all_append}
use Rattle.epc_core.proofs.Found.{serial_byte_small}
use Rattle.epc_core.proofs.Spelled.{spells_key, number_key_spelled, not_digit, checked_from, checked_to, serial_from, serial_to}

-- ---- the parts of a key

-- two keys that differ in the letter at a place
pub apart : (a b : List ℕ) (i : ℕ) → eqb (get_or a i 0) (get_or b i 0) ≡ false → a ≡ b → ⊥
apart a b i e q = true≢false (sym (ap (λ t. eqb (get_or t i 0) (get_or b i 0)) q ∙ same (get_or b i 0)) ∙ e)
  where
    same : (n : ℕ) → eqb n n ≡ true
    same n = grind (arith, nat_tests)

pub record SgtinParts (rest : List ℕ) : Type 0 where
  pub gtin : List ℕ
  pub serial : List ℕ
  pub is : rest ≡ gtin ++ 32 ∷ serial
  pub checked : IsChecked 14 gtin
  pub allowed : IsSerial serial

pub sgtin_from_key : (text rest : List ℕ) → Spells text (codes "sgtin " ++ rest) → SgtinParts rest
sgtin_from_key text rest s =
    by s.item
  where
    by : SpellsNumber text (codes "sgtin " ++ rest) ⊎ Opaque text (codes "sgtin " ++ rest) → SgtinParts rest
    by (inl (inl (inl n))) = record { gtin = _; serial = _; is = append_cancel_left (codes "sgtin ") _ _ n.names; checked = n.gtin; allowed = n.serial }
    by (inl (inl (inr n))) = record { gtin = _; serial = _; is = append_cancel_left (codes "sgtin ") _ _ n.names; checked = n.checked; allowed = n.serial }
    by (inl (inr (inl n))) = absurd (apart _ _ 1 refl n.names)
    by (inl (inr (inr n))) = absurd (apart _ _ 1 refl n.names)
    by (inr p) = absurd (apart _ _ 0 refl p.names)

pub sscc_from_key : (text digits : List ℕ) → Spells text (codes "sscc " ++ digits) → IsChecked 18 digits
sscc_from_key text digits s =
    by s.item
  where
    by : SpellsNumber text (codes "sscc " ++ digits) ⊎ Opaque text (codes "sscc " ++ digits) → IsChecked 18 digits
    by (inl (inl (inl n))) = absurd (apart _ _ 1 refl n.names)
    by (inl (inl (inr n))) = absurd (apart _ _ 1 refl n.names)
    by (inl (inr (inl n))) = subst (IsChecked 18) (sym (append_cancel_left (codes "sscc ") _ _ n.names)) n.sscc
    by (inl (inr (inr n))) = subst (IsChecked 18) (sym (append_cancel_left (codes "sscc ") _ _ n.names)) n.checked
    by (inr p) = absurd (apart _ _ 0 refl p.names)

pub other_from_key : (text known : List ℕ) → Spells text (codes "uri " ++ known) → Spells known (uri_key known)
other_from_key text known s =
    by s.item
  where
    by : SpellsNumber text (codes "uri " ++ known) ⊎ Opaque text (codes "uri " ++ known) → Spells known (uri_key known)
    by (inl (inl (inl n))) = absurd (apart _ _ 0 refl n.names)
    by (inl (inl (inr n))) = absurd (apart _ _ 0 refl n.names)
    by (inl (inr (inl n))) = absurd (apart _ _ 0 refl n.names)
    by (inl (inr (inr n))) = absurd (apart _ _ 0 refl n.names)
    by (inr p) =
        let same : known ≡ text = append_cancel_left (codes "uri ") _ _ p.names in
        subst (λ t. Spells t (uri_key known)) (sym same) s

-- ---- a text for each key

-- a serial number with each character escaped
abbrev pub escaped : List ℕ → List ℕ
escaped serial = flat_map percent_encode_byte serial

escaped_decodes : (serial : List ℕ) → list_all is_serial_byte serial ≡ true → percent_decode (escaped serial) ≡ serial
escaped_decodes [] h = percent_decode-nil
escaped_decodes (b ∷ bs) h =
    let parts = and_parts (is_serial_byte b) (list_all is_serial_byte bs) h in
    let small = serial_byte_small b parts.0 in
    percent_decode-percent_encode_byte b (escaped bs) (omega arith) ∙ ap (λ t. b ∷ t) (escaped_decodes bs parts.1)

length-percent_encode_byte : (b : ℕ) → length (percent_encode_byte b) ≡ 3
unfolding percent_encode_byte
length-percent_encode_byte b = refl

length-escaped : (serial : List ℕ) → length (escaped serial) ≡ 3 * length serial
length-escaped [] = refl
length-escaped (b ∷ bs) =
    let one = length-append (percent_encode_byte b) (escaped bs) in
    let two = length-percent_encode_byte b in
    let three = length-escaped bs in
    omega arith

escapes_pass : (test : ℕ → Bool) → ((b : ℕ) → IsEscapeByte b → test b ≡ true) → (serial : List ℕ) → list_all test (escaped serial) ≡ true
escapes_pass test each [] = refl
escapes_pass test each (b ∷ bs) =
    all_append test (percent_encode_byte b) (escaped bs)
    (list_all-from_AllPass test _ (All-weaker IsEscapeByte (λ c. test c ≡ true) each (percent_encode_byte b) (All-percent_encode_byte b)))
    (escapes_pass test each bs)

escape_is_part : (b : ℕ) → IsEscapeByte b → is_part_byte b ≡ true
escape_is_part b h = grind (arith, nat_tests)

escape_is_plain : (b : ℕ) → IsEscapeByte b → is_plain_byte b ≡ true
escape_is_plain b h = grind (arith, nat_tests)

pub digit_is_plain : (b : ℕ) → is_digit b ≡ true → is_plain_byte b ≡ true
digit_is_plain b h = grind (arith, nat_tests)

pub digits_plain : (digits : List ℕ) → list_all is_digit digits ≡ true → list_all is_plain_byte digits ≡ true
digits_plain [] h = refl
digits_plain (d ∷ ds) h =
    let parts = and_parts (is_digit d) (list_all is_digit ds) h in
    and_from (is_plain_byte d) (list_all is_plain_byte ds) (digit_is_plain d parts.0) (digits_plain ds parts.1)

pub key_of_item : (gtin serial : List ℕ) → IsChecked 14 gtin → IsSerial serial → IsKey (sgtin_key gtin serial)
key_of_item gtin serial checked allowed =
    let text = codes "https://id.gs1.org/01/" ++ (gtin ++ (codes "/21/" ++ escaped serial)) in
    let decodes = escaped_decodes serial allowed.allowed in
    let tail = codes "/21/" ++ escaped serial in
    let tail_plain : list_all is_plain_byte tail ≡ true = escapes_pass is_plain_byte escape_is_plain serial in
    let plain : list_all is_plain_byte text ≡ true = all_append is_plain_byte gtin tail (digits_plain gtin checked.are_digits) tail_plain in
    let one = length-append gtin tail in
    let two = length-escaped serial in
    let three = checked.counted in
    let four = allowed.few in (
      text,
      record {
        plain = record { some = omega arith; few = omega arith; allowed = plain };
        item = inl (inl (inr (record {
          gtin = gtin;
          escaped = escaped serial;
          is = refl;
          checked = checked;
          part = escapes_pass is_part_byte escape_is_part serial;
          serial = subst IsSerial (sym decodes) allowed;
          names = ap (sgtin_key gtin) (sym decodes);
        })));
      },
    )

pub key_of_sscc : (digits : List ℕ) → IsChecked 18 digits → IsKey (sscc_key digits)
key_of_sscc digits checked =
    let three = checked.counted in (
      codes "https://id.gs1.org/00/" ++ digits,
      record {
        plain = record { some = omega arith; few = omega arith; allowed = digits_plain digits checked.are_digits };
        item = inl (inr (inr (record { sscc = digits; is = refl; checked = checked; names = refl })));
      },
    )

pub key_of_form_is_key : (form : EpcForm) → IsForm form → IsKey (key_of_form form)
key_of_form_is_key (Item gtin serial) h = key_of_item gtin serial h.0 h.1
key_of_form_is_key (Sscc digits) h = key_of_sscc digits h
key_of_form_is_key (Other text) h = (text, h.0)

-- ---- what the code reads of a key

parts_parted : (rest : List ℕ) (p : SgtinParts rest) → parted 32 rest ≡ Some (p.gtin, p.serial)
parts_parted rest p = ap (parted 32) p.is ∙ parted-append 32 p.gtin p.serial (not_digit p.gtin 32 refl p.checked.are_digits)

pub no_parts : (rest : List ℕ) → parted 32 rest ≡ None → IsKey (codes "sgtin " ++ rest) → ⊥
no_parts rest none found = none-some _ (sym none ∙ parts_parted rest (sgtin_from_key found.0 rest found.1))

pub no_item : (rest digits serial : List ℕ) → parted 32 rest ≡ Some (digits, serial) → (is_checked 14 digits && is_serial serial) ≡ false → IsKey (codes "sgtin " ++ rest) → ⊥
no_item rest digits serial cut test found =
    let p = sgtin_from_key found.0 rest found.1 in
    let same = some_pair_parts _ _ _ _ (sym (parts_parted rest p) ∙ cut) in
    both_ways _ test (and_from _ _ (checked_to 14 digits (subst (IsChecked 14) same.0 p.checked)) (serial_to serial (subst IsSerial same.1 p.allowed)))

pub item_found : (rest digits serial gtin kept : List ℕ) → parted 32 rest ≡ Some (digits, serial) → is_checked 14 digits ≡ true → is_serial serial ≡ true
    → gtin ≡ digits → kept ≡ serial → (sgtin_key gtin kept ≡ codes "sgtin " ++ rest) × (IsChecked 14 gtin × IsSerial kept)
item_found rest digits serial gtin kept cut checked allowed same also = (
  (λ i. sgtin_key (same i) (also i)) ∙ ap (λ t. codes "sgtin " ++ t) (sym (parted_some 32 rest digits serial cut)),
  (subst (IsChecked 14) (sym same) (checked_from 14 digits checked), subst IsSerial (sym also) (serial_from serial allowed)),
)

pub no_sscc : (digits : List ℕ) → is_checked 18 digits ≡ false → IsKey (codes "sscc " ++ digits) → ⊥
no_sscc digits test found = both_ways _ test (checked_to 18 digits (sscc_from_key found.0 digits found.1))

-- a plain text that spells no number has the key with the word `uri`
pub other_is_key : (text : List ℕ) → IsPlain text → is_some (number_key_of text) ≡ false → Spells text (uri_key text)
unfolding key_of
other_is_key text plain none =
    by (number_key_of text) refl
  where
    by : (o : Option (List ℕ)) → number_key_of text ≡ o → Spells text (uri_key text)
    by None e =
        let same : key_of text ≡ uri_key text = rw e refl in
        subst (Spells text) same (spells_key text plain)
    by (Some key) e = absurd (let some : is_some (number_key_of text) ≡ true = rw e refl in true≢false (sym some ∙ none))

-- a text that spells a number has no key with the word `uri`
pub number_is_no_other : (text : List ℕ) → is_some (number_key_of text) ≡ true → IsKey (codes "uri " ++ text) → ⊥
number_is_no_other text some found =
    by (number_key_of text) refl (other_from_key found.0 text found.1).item
  where
    by : (o : Option (List ℕ)) → number_key_of text ≡ o → SpellsNumber text (uri_key text) ⊎ Opaque text (uri_key text) → ⊥
    by None e other = absurd (let none : is_some (number_key_of text) ≡ false = rw e refl in true≢false (sym some ∙ none))
    by (Some key) e (inl (inl (inl n))) = absurd (apart _ _ 0 refl n.names)
    by (Some key) e (inl (inl (inr n))) = absurd (apart _ _ 0 refl n.names)
    by (Some key) e (inl (inr (inl n))) = absurd (apart _ _ 0 refl n.names)
    by (Some key) e (inl (inr (inr n))) = absurd (apart _ _ 0 refl n.names)
    by (Some key) e (inr p) = p.other key (number_key_spelled text key e)

pub on_err : {T E P : Type 0} (r : Result T E) → P → IfErr r (λ _. P)
on_err (Ok x) p = tt
on_err (Err e) p = p

pub not_plain : (text : List ℕ) → (IsPlain text → ⊥) → IsKey (codes "uri " ++ text) → ⊥
not_plain text not found = not (other_from_key found.0 text found.1).plain
