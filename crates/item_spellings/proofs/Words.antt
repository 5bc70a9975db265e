-- Keys, and the texts of their parts.
use Rattle.std.proofs.Common.{◌≡◌, ◌⊎◌, inl, inr, ℕ, ◌<◌, Bool, true, false, not, List, ◌++◌, codes, Option, Some, None, is_some, Result, Ok, Err, refl, sym, ap, ◌∙◌, subst, cond, arith}
use Rattle.std.specs.Prelude.{IsUtf8, IfOk, IsSome, IfSome, ◌↔◌}
use Rattle.std.proofs.lemmas.Bool.{true≢false, and_parts, and_from, cond-true, leb-true, le-leb}
use Rattle.std.proofs.lemmas.Bool.Decides.{nat_tests}
use Rattle.std.proofs.lemmas.Option.{same_Some}
use Rattle.std.proofs.lemmas.List.Sums.{AllPass-from_list_all}
use Rattle.std.proofs.lemmas.Str.{IsUtf8-from_ascii}
use Rattle.std.proofs.lemmas.Str.Ascii.{IsAscii-from_all}
use Rattle.epc_core.specs.Items.{behind, parted, sgtin_key, sscc_key, uri_key, is_plain, number_key_of}
use Rattle.epc_core.specs.Numbers.{is_digit, IsChecked, is_checked}
use Rattle.epc_core.specs.Serials.{IsSerial, is_serial}
use Rattle.epc_core.specs.Spellings.{IsKey, IsPlain, Spells, SpellsNumber, Opaque}
use Rattle.epc_core.proofs.Cuts.{behind_some, parted-append, parted_some}
use Rattle.epc_core.proofs.Spelled.{checked_from, checked_to, serial_from, serial_to, not_digit}
use Rattle.epc_core.proofs.Words.{key_of_item, key_of_sscc, other_is_key, number_is_no_other}
use Rattle.item_spellings.specs.Keys.{is_key, is_key_behind, is_sscc_or_other, are_sgtin, is_other, key_reading}
use Rattle.item_spellings.specs.Laws.{KeysAreRead}
use Rattle.item_spellings.specs.Named.{named_key, IsNamed}
use Rattle.item_spellings.specs.declared.lookups.Named.{Named}
use Rattle.item_spellings.specs.declared.lookups.Named.TheVariants.{Lot, Sgtin, Sscc}
use Rattle.item_spellings.proofs.LotKeys.{lot_is_key}

digit_small : (b : ℕ) → is_digit b ≡ true → b < 128
digit_small b h = grind (arith, nat_tests)

pub digits_in_utf8 : (count : ℕ) (digits : List ℕ) → IsChecked count digits → IsUtf8 digits
digits_in_utf8 count digits is =
    IsUtf8-from_ascii digits (IsAscii-from_all digits (λ k d l. digit_small _ (AllPass-from_list_all is_digit digits is.are_digits k d l)))

pub named_is_key : (named : Named) → IsNamed named → IsKey (named_key named)
named_is_key (Sgtin gtin serial) is = key_of_item gtin.now serial.now is.0 is.1
named_is_key (Sscc sscc) is = key_of_sscc sscc.now is
named_is_key (Lot gtin lot) is = lot_is_key gtin.now lot.now is.0 is.1

pub no_item_of_key : (key : List ℕ) (found : Option (List ℕ)) → found ≡ None → (IsSome found ↔ IsKey key) → IsKey key → ⊥
no_item_of_key key found none same is = let some = subst IsSome none (same.1 is) in true≢false (sym some)

not_true : (t : Bool) → not t ≡ true → t ≡ false
not_true true h = absurd (true≢false (sym h))
not_true false h = refl

true_not : (t : Bool) → t ≡ false → not t ≡ true
true_not t h = ap not h

pub plain_of : (text : List ℕ) → is_plain text ≡ true → IsPlain text
unfolding is_plain
plain_of text h =
    let one = and_parts _ _ h in
    let two = and_parts _ _ one.1 in
    record { some = leb-true _ _ one.0; few = leb-true _ _ two.0; allowed = two.1 }

pub plain_for : (text : List ℕ) → IsPlain text → is_plain text ≡ true
unfolding is_plain
plain_for text p = and_from _ _ (le-leb _ _ p.some) (and_from _ _ (le-leb _ _ p.few) p.allowed)

-- ---- a key by its words

pub is_key_of : (text : List ℕ) → is_key text ≡ true → IsKey text
is_key_of text h =
    by_sgtin (behind (codes "sgtin ") text) refl h
  where
    by_other : (o : Option (List ℕ)) → behind (codes "uri ") text ≡ o → is_other o ≡ true → IsKey text
    by_other None e h = absurd (true≢false (sym h))
    by_other (Some rest) e h =
        let two = and_parts (is_plain rest) (not (is_some (number_key_of rest))) h in
        let plain = plain_of rest two.0 in
        (rest, subst (Spells rest) (sym (behind_some (codes "uri ") text rest e)) (other_is_key rest plain (not_true _ two.1)))

    by_sscc : (o : Option (List ℕ)) → behind (codes "sscc ") text ≡ o → is_sscc_or_other text o ≡ true → IsKey text
    by_sscc None e h = by_other (behind (codes "uri ") text) refl h
    by_sscc (Some digits) e h = subst IsKey (sym (behind_some (codes "sscc ") text digits e)) (key_of_sscc digits (checked_from 18 digits h))

    by_parts : (rest : List ℕ) → text ≡ codes "sgtin " ++ rest → (o : Option (List ℕ × List ℕ)) → parted 32 rest ≡ o → are_sgtin o ≡ true → IsKey text
    by_parts rest is None e h = absurd (true≢false (sym h))
    by_parts rest is (Some (gtin, serial)) e h =
        let two = and_parts (is_checked 14 gtin) (is_serial serial) h in
        subst IsKey (sym (is ∙ ap (λ t. codes "sgtin " ++ t) (parted_some 32 rest gtin serial e))) (key_of_item gtin serial (checked_from 14 gtin two.0) (serial_from serial two.1))

    by_sgtin : (o : Option (List ℕ)) → behind (codes "sgtin ") text ≡ o → is_key_behind text o ≡ true → IsKey text
    by_sgtin None e h = by_sscc (behind (codes "sscc ") text) refl h
    by_sgtin (Some rest) e h = by_parts rest (behind_some (codes "sgtin ") text rest e) (parted 32 rest) refl h

-- ---- each key has one of the three words

pub is_key_for : (text : List ℕ) → IsKey text → is_key text ≡ true
is_key_for text (spelling, s) =
    by s.item
  where
    sgtin : (gtin serial : List ℕ) → IsChecked 14 gtin → IsSerial serial → text ≡ sgtin_key gtin serial → is_key text ≡ true
    sgtin gtin serial checked allowed is =
        ap is_key is ∙ rw (parted-append 32 gtin serial (not_digit gtin 32 refl checked.are_digits)) (and_from _ _ (checked_to 14 gtin checked) (serial_to serial allowed))

    sscc : (digits : List ℕ) → IsChecked 18 digits → text ≡ sscc_key digits → is_key text ≡ true
    sscc digits checked is = ap is_key is ∙ checked_to 18 digits checked

    other : (rest : List ℕ) → Spells rest (uri_key rest) → text ≡ uri_key rest → is_key text ≡ true
    other rest spelled is = ap is_key is ∙ and_from _ _ (plain_for rest spelled.plain) (true_not _ (none_of (number_key_of rest) refl))
      where
        none_of : (o : Option (List ℕ)) → number_key_of rest ≡ o → is_some o ≡ false
        none_of None e = refl
        none_of (Some key) e = absurd (number_is_no_other rest (ap is_some e) (rest, spelled))

    by : SpellsNumber spelling text ⊎ Opaque spelling text → is_key text ≡ true
    by (inl (inl (inl n))) = sgtin _ _ n.gtin n.serial n.names
    by (inl (inl (inr n))) = sgtin _ _ n.checked n.serial n.names
    by (inl (inr (inl n))) = sscc _ n.sscc n.names
    by (inl (inr (inr n))) = sscc _ n.checked n.names
    by (inr p) = other spelling (subst (Spells spelling) p.names s) p.names

pub keys_are_read : KeysAreRead
unfolding key_reading
keys_are_read text key = (
  by (is_key text) refl,
  λ (same, is). cond-true (is_key text) (Some text) None (is_key_for text (subst IsKey (sym same) is)) ∙ ap Some same,
)
  where
    by : (t : Bool) → is_key text ≡ t → cond t (Some text) None ≡ Some key → (text ≡ key) × IsKey key
    by true e h = let same = same_Some _ _ h in (same, subst IsKey same (is_key_of text e))
    by false e h = absurd (let no : ⊥ = cc in no)

-- what `from_key` returned
pub read_from_key : (text : List ℕ) (found : Option (List ℕ)) → (IsSome found ↔ IsKey text) → IfSome found (λ e. e ≡ text) → found ≡ key_reading text
unfolding key_reading
read_from_key text (Some e) is same = sym (cond-true (is_key text) (Some text) None (is_key_for text (is.0 refl)) ∙ ap Some (sym same))
read_from_key text None is same = by (is_key text) refl
  where
    by : (t : Bool) → is_key text ≡ t → None ≡ cond t (Some text) None
    by true e = absurd (true≢false (sym (is.1 (is_key_of text e))))
    by false e = refl

pub read_key_gives : {E : Type 0} (text : List ℕ) (r : Result (Option (List ℕ)) E) → IfOk r (λ item. IsSome item ↔ IsKey text) → IfOk r (λ item. IfSome item (λ e. e ≡ text))
    → IfOk r (λ item. item ≡ key_reading text)
read_key_gives text (Ok found) is same = read_from_key text found is same
read_key_gives text (Err e) is same = tt
