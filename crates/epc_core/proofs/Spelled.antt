-- The key that `key_of` computes is the one that the text spells, and the only one.
use Rattle.std.proofs.Common.{◌≡◌, ◌≢◌, ℕ, ◌+◌, ◌<◌, ◌≤◌, ◌⊎◌, inl, inr, Bool, true, false, cond, ◌&&◌, List, [], ◌∷◌, ◌++◌, length, get_or, codes, Option, Some, None, option_map, unwrap_or, refl, sym, ap, ◌∙◌, subst, arith}
use Rattle.std.specs.List.{list_all}
use Rattle.std.specs.Option.{option_or}
use Rattle.std.proofs.lemmas.Bool.{and_parts, and_from, leb-true, le-leb, eqb-true, eq-eqb, cond-true, both_ways}
use Rattle.std.proofs.lemmas.Option.{cond_some, option_and_then_some, same_Some}
use Rattle.std.proofs.lemmas.List.Sums.{AllPass-from_list_all}
use Rattle.percent_encoding.specs.Percent.{percent_decode}
use Rattle.epc_core.specs.Numbers.{is_digit, IsChecked, is_checked, number_of, are_parts}
use Rattle.epc_core.specs.Serials.{IsSerial, is_serial, serial_of, is_part_byte}
use Rattle.epc_core.specs.Items.{behind, parted, number_at, gtin_of_uri, gtin_of_link, sscc_of_uri, sscc_of_link, sgtin_key, sscc_key, uri_key, sgtin_key_of, sscc_key_of, number_key_of, key_of}
use Rattle.epc_core.specs.Spellings.{IsPlain, SgtinUri, SgtinLink, SsccUri, SsccLink, SpellsNumber, Opaque, Spells}
use Rattle.epc_core.proofs.Cuts.{behind-append, behind_some, parted-append, parted_some}
use Rattle.epc_core.proofs.CheckDigits.{number_checked, number_from_checked, number_spelled}

-- ---- tests and what they say

pub checked_from : (count : ℕ) (ds : List ℕ) → is_checked count ds ≡ true → IsChecked count ds
checked_from count ds h =
    let one = and_parts _ _ h in
    let two = and_parts _ _ one.1 in
    record { counted = eqb-true _ _ one.0; are_digits = two.0; sum = eqb-true _ _ two.1 }

pub checked_to : (count : ℕ) (ds : List ℕ) → IsChecked count ds → is_checked count ds ≡ true
checked_to count ds c = and_from _ _ (eq-eqb _ _ c.counted) (and_from _ _ c.are_digits (eq-eqb _ _ c.sum))

pub serial_from : (s : List ℕ) → is_serial s ≡ true → IsSerial s
serial_from s h =
    let one = and_parts _ _ h in
    let two = and_parts _ _ one.1 in
    record { some = leb-true _ _ one.0; few = leb-true _ _ two.0; allowed = two.1 }

pub serial_to : (s : List ℕ) → IsSerial s → is_serial s ≡ true
serial_to s p = and_from _ _ (le-leb _ _ p.some) (and_from _ _ (le-leb _ _ p.few) p.allowed)

pub serial_of_some : (escaped serial : List ℕ) → serial_of escaped ≡ Some serial → IsSerial serial × (serial ≡ percent_decode escaped)
serial_of_some escaped serial h =
    let p = cond_some _ _ _ h in
    (subst IsSerial p.1 (serial_from _ p.0), sym p.1)

pub serial_of_is : (escaped : List ℕ) → IsSerial (percent_decode escaped) → serial_of escaped ≡ Some (percent_decode escaped)
serial_of_is escaped p = cond-true _ _ _ (serial_to _ p)

-- what it says that a serial number was made of bytes, or none
pub kept_serial : (made : Option (List ℕ)) (bytes text : List ℕ) (serial : List ℕ) → made ≡ Some serial → made ≡ cond (is_serial bytes) (Some bytes) None → bytes ≡ text
    → (is_serial text ≡ true) × (serial ≡ text)
kept_serial made bytes text serial some is same =
    let parts = cond_some (is_serial bytes) bytes serial (sym is ∙ some) in
    (ap is_serial (sym same) ∙ parts.0, sym parts.1 ∙ same)

pub no_kept_serial : (made : Option (List ℕ)) (bytes text : List ℕ) → made ≡ None → made ≡ cond (is_serial bytes) (Some bytes) None → bytes ≡ text → is_serial text ≡ false
no_kept_serial made bytes text none is same = ap is_serial (sym same) ∙ by (is_serial bytes) (sym is ∙ none)
  where
    by : (t : Bool) → cond t (Some bytes) None ≡ None → t ≡ false
    by true h = absurd (let no : ⊥ = cc in no)
    by false h = refl

pub not_digit : (xs : List ℕ) (byte : ℕ) → is_digit byte ≡ false → list_all is_digit xs ≡ true → (i : ℕ) → i < length xs → get_or xs i 0 ≢ byte
not_digit xs byte other h i l e = both_ways _ other (ap is_digit (sym e) ∙ AllPass-from_list_all is_digit xs h i 0 l)

pub parts_from : (count : ℕ) (company reference : List ℕ) → are_parts count company reference ≡ true
    → (6 ≤ length company) × (length company ≤ 12) × (length company + length reference ≡ count) × (list_all is_digit company ≡ true) × (list_all is_digit reference ≡ true)
parts_from count company reference h =
    let one = and_parts _ _ h in
    let two = and_parts _ _ one.1 in
    let three = and_parts _ _ two.1 in
    let four = and_parts _ _ three.1 in
    (leb-true _ _ one.0, leb-true _ _ two.0, eqb-true _ _ three.0, four.0, four.1)

pub parts_to : (count : ℕ) (company reference : List ℕ) → 6 ≤ length company → length company ≤ 12 → length company + length reference ≡ count
    → list_all is_digit company ≡ true → list_all is_digit reference ≡ true → are_parts count company reference ≡ true
parts_to count company reference least most counted digits others =
    and_from _ _ (le-leb _ _ least) (and_from _ _ (le-leb _ _ most) (and_from _ _ (eq-eqb _ _ counted) (and_from _ _ digits others)))

pub mapped_some : {A B : Type 0} (f : A → B) (o : Option A) (y : B) → option_map f o ≡ Some y → (x : A) × (o ≡ Some x) × (f x ≡ y)
mapped_some f None y h = cc
mapped_some f (Some x) y h = (x, refl, same_Some _ _ h)

pub either_some : {A : Type 0} (p q : Option A) (x : A) → option_or p q ≡ Some x → (p ≡ Some x) ⊎ (q ≡ Some x)
either_some None q x h = inr h
either_some (Some y) q x h = inl h

-- ---- what the code finds is spelled

uri_parts : (text rest company behind_it reference escaped gtin : List ℕ) → behind (codes "urn:epc:id:sgtin:") text ≡ Some rest → parted 46 rest ≡ Some (company, behind_it)
    → parted 46 behind_it ≡ Some (reference, escaped) → number_at 13 company reference ≡ Some gtin → IsSerial (percent_decode escaped)
    → SgtinUri text (sgtin_key gtin (percent_decode escaped)) × IsChecked 14 gtin
uri_parts text rest company behind_it [] escaped gtin front one two number serial =
    let known = parts_from 13 company [] (cond_some _ _ _ number).0 in
    absurd (omega arith)
uri_parts text rest company behind_it (first ∷ item) escaped gtin front one two number serial =
    let test = cond_some _ _ _ number in
    let known = parts_from 13 company (first ∷ item) test.0 in
    let checked = number_checked 13 company first item refl known.2 known.3 known.4 in
    let is : number_of company (first ∷ item) ≡ gtin = test.1 in
    let spelled = number_spelled company first item _ in (
      record {
        company = company;
        indicator = first;
        item = item;
        check = _;
        escaped = escaped;
        is = behind_some (codes "urn:epc:id:sgtin:") text rest front ∙ ap (λ t. codes "urn:epc:id:sgtin:" ++ t) (parted_some 46 rest company behind_it one ∙ ap (λ t. company ++ 46 ∷ t) (parted_some 46 behind_it (first ∷ item) escaped two));
        least = known.0;
        most = known.1;
        gtin = subst (IsChecked 14) spelled checked;
        serial = serial;
        names = ap (λ g. sgtin_key g (percent_decode escaped)) (sym is ∙ spelled);
      },
      subst (IsChecked 14) is checked,
    )

pub sgtin_uri_found : (text gtin escaped : List ℕ) → gtin_of_uri text ≡ Some (gtin, escaped) → IsSerial (percent_decode escaped) → SgtinUri text (sgtin_key gtin (percent_decode escaped)) × IsChecked 14 gtin
sgtin_uri_found text gtin escaped h serial =
    option_and_then_some _ (behind (codes "urn:epc:id:sgtin:") text) (gtin, escaped) h (λ rest front h2.
    option_and_then_some _ (parted 46 rest) (gtin, escaped) h2 (λ first one h3.
    option_and_then_some _ (parted 46 first.1) (gtin, escaped) h3 (λ second two h4.
    let (number, is, pair) = mapped_some _ _ _ h4 in
    let same : number ≡ gtin = ap (λ p. p.0) pair in
    let rests : second.1 ≡ escaped = ap (λ p. p.1) pair in
    uri_parts text rest first.0 first.1 second.0 escaped gtin front one (two ∙ (λ i. Some (second.0, rests i))) (is ∙ ap Some same) serial)))

link_parts : (text rest gtin behind_it escaped : List ℕ) → behind (codes "https://id.gs1.org/01/") text ≡ Some rest → parted 47 rest ≡ Some (gtin, behind_it)
    → behind (codes "21/") behind_it ≡ Some escaped → (is_checked 14 gtin && list_all is_part_byte escaped) ≡ true → IsSerial (percent_decode escaped)
    → SgtinLink text (sgtin_key gtin (percent_decode escaped)) × IsChecked 14 gtin
link_parts text rest gtin behind_it escaped front one two test serial =
    let tests = and_parts _ _ test in
    let checked = checked_from 14 gtin tests.0 in (
      record {
        gtin = gtin;
        escaped = escaped;
        is = behind_some (codes "https://id.gs1.org/01/") text rest front ∙ ap (λ t. codes "https://id.gs1.org/01/" ++ t) (parted_some 47 rest gtin behind_it one ∙ ap (λ t. gtin ++ 47 ∷ t) (behind_some (codes "21/") behind_it escaped two));
        checked = checked;
        part = tests.1;
        serial = serial;
        names = refl;
      },
      checked,
    )

pub sgtin_link_found : (text gtin escaped : List ℕ) → gtin_of_link text ≡ Some (gtin, escaped) → IsSerial (percent_decode escaped) → SgtinLink text (sgtin_key gtin (percent_decode escaped)) × IsChecked 14 gtin
sgtin_link_found text gtin escaped h serial =
    option_and_then_some _ (behind (codes "https://id.gs1.org/01/") text) (gtin, escaped) h (λ rest front h2.
    option_and_then_some _ (parted 47 rest) (gtin, escaped) h2 (λ first one h3.
    option_and_then_some _ (behind (codes "21/") first.1) (gtin, escaped) h3 (λ part two h4.
    let test = cond_some _ _ _ h4 in
    let same : first.0 ≡ gtin = ap (λ p. p.0) test.1 in
    let rests : part ≡ escaped = ap (λ p. p.1) test.1 in
    link_parts text rest gtin first.1 escaped front (one ∙ (λ i. Some (same i, first.1))) (two ∙ ap Some rests)
    (sym (λ i. is_checked 14 (same i) && list_all is_part_byte (rests i)) ∙ test.0) serial)))

sscc_parts : (text rest company reference sscc : List ℕ) → behind (codes "urn:epc:id:sscc:") text ≡ Some rest → parted 46 rest ≡ Some (company, reference)
    → number_at 17 company reference ≡ Some sscc → SsccUri text (sscc_key sscc) × IsChecked 18 sscc
sscc_parts text rest company [] sscc front one number =
    let known = parts_from 17 company [] (cond_some _ _ _ number).0 in
    absurd (omega arith)
sscc_parts text rest company (first ∷ reference) sscc front one number =
    let test = cond_some _ _ _ number in
    let known = parts_from 17 company (first ∷ reference) test.0 in
    let checked = number_checked 17 company first reference refl known.2 known.3 known.4 in
    let is : number_of company (first ∷ reference) ≡ sscc = test.1 in
    let spelled = number_spelled company first reference _ in (
      record {
        company = company;
        extension = first;
        reference = reference;
        check = _;
        is = behind_some (codes "urn:epc:id:sscc:") text rest front ∙ ap (λ t. codes "urn:epc:id:sscc:" ++ t) (parted_some 46 rest company (first ∷ reference) one);
        least = known.0;
        most = known.1;
        sscc = subst (IsChecked 18) spelled checked;
        names = ap sscc_key (sym is ∙ spelled);
      },
      subst (IsChecked 18) is checked,
    )

pub sscc_uri_found : (text sscc : List ℕ) → sscc_of_uri text ≡ Some sscc → SsccUri text (sscc_key sscc) × IsChecked 18 sscc
sscc_uri_found text sscc h =
    option_and_then_some _ (behind (codes "urn:epc:id:sscc:") text) sscc h (λ rest front h2.
    option_and_then_some _ (parted 46 rest) sscc h2 (λ first one number.
    sscc_parts text rest first.0 first.1 sscc front one number))

pub sscc_link_found : (text sscc : List ℕ) → sscc_of_link text ≡ Some sscc → SsccLink text (sscc_key sscc) × IsChecked 18 sscc
sscc_link_found text sscc h =
    option_and_then_some _ (behind (codes "https://id.gs1.org/00/") text) sscc h (λ digits front h2.
    let test = cond_some _ _ _ h2 in
    let checked = subst (IsChecked 18) test.1 (checked_from 18 digits test.0) in (
      record {
        sscc = sscc;
        is = behind_some (codes "https://id.gs1.org/00/") text digits front ∙ ap (λ t. codes "https://id.gs1.org/00/" ++ t) test.1;
        checked = checked;
        names = refl;
      },
      checked,
    ))

-- ---- what is spelled, the code finds

pub sgtin_uri_finds : (text key : List ℕ) (s : SgtinUri text key) → gtin_of_uri text ≡ Some (s.indicator ∷ (s.company ++ (s.item ++ s.check ∷ [])), s.escaped)
sgtin_uri_finds text key s =
    let known = number_from_checked 13 s.company s.indicator s.item s.check refl s.gtin in
    let front = ap (behind (codes "urn:epc:id:sgtin:")) s.is ∙ behind-append (codes "urn:epc:id:sgtin:") _ in
    let one = parted-append 46 s.company ((s.indicator ∷ s.item) ++ 46 ∷ s.escaped) (not_digit s.company 46 refl known.1) in
    let two = parted-append 46 (s.indicator ∷ s.item) s.escaped (not_digit (s.indicator ∷ s.item) 46 refl known.2) in
    let test = parts_to 13 s.company (s.indicator ∷ s.item) s.least s.most known.0 known.1 known.2 in
    let number : number_at 13 s.company (s.indicator ∷ s.item) ≡ Some (s.indicator ∷ (s.company ++ (s.item ++ s.check ∷ []))) = cond-true _ _ _ test ∙ ap Some known.3 in
    rw (front, one, two, number) refl

pub sgtin_link_finds : (text key : List ℕ) (s : SgtinLink text key) → gtin_of_link text ≡ Some (s.gtin, s.escaped)
sgtin_link_finds text key s =
    let front = ap (behind (codes "https://id.gs1.org/01/")) s.is ∙ behind-append (codes "https://id.gs1.org/01/") _ in
    let one = parted-append 47 s.gtin (codes "21/" ++ s.escaped) (not_digit s.gtin 47 refl s.checked.are_digits) in
    rw (front, one) (cond-true _ _ _ (and_from _ _ (checked_to 14 s.gtin s.checked) s.part))

pub sscc_uri_finds : (text key : List ℕ) (s : SsccUri text key) → sscc_of_uri text ≡ Some (s.extension ∷ (s.company ++ (s.reference ++ s.check ∷ [])))
sscc_uri_finds text key s =
    let known = number_from_checked 17 s.company s.extension s.reference s.check refl s.sscc in
    let front = ap (behind (codes "urn:epc:id:sscc:")) s.is ∙ behind-append (codes "urn:epc:id:sscc:") _ in
    let one = parted-append 46 s.company (s.extension ∷ s.reference) (not_digit s.company 46 refl known.1) in
    let test = parts_to 17 s.company (s.extension ∷ s.reference) s.least s.most known.0 known.1 known.2 in
    rw (front, one) (cond-true _ _ _ test ∙ ap Some known.3)

pub sscc_link_finds : (text key : List ℕ) (s : SsccLink text key) → sscc_of_link text ≡ Some s.sscc
sscc_link_finds text key s =
    let front = ap (behind (codes "https://id.gs1.org/00/")) s.is ∙ behind-append (codes "https://id.gs1.org/00/") _ in
    rw front (cond-true _ _ _ (checked_to 18 s.sscc s.checked))

-- ---- the key of a number

pub number_key_from : (text key : List ℕ) → SpellsNumber text key → number_key_of text ≡ Some key
number_key_from text key (inl (inl s)) =
    rw (sgtin_uri_finds text key s, serial_of_is s.escaped s.serial) (ap Some (sym s.names))
number_key_from text key (inl (inr s)) =
    let none : gtin_of_uri text ≡ None = ap gtin_of_uri s.is in
    rw (none, sgtin_link_finds text key s, serial_of_is s.escaped s.serial) (ap Some (sym s.names))
number_key_from text key (inr (inl s)) =
    let none : option_or (gtin_of_uri text) (gtin_of_link text) ≡ None = ap (λ t. option_or (gtin_of_uri t) (gtin_of_link t)) s.is in
    rw (none, sscc_uri_finds text key s) (ap Some (sym s.names))
number_key_from text key (inr (inr s)) =
    let none : option_or (gtin_of_uri text) (gtin_of_link text) ≡ None = ap (λ t. option_or (gtin_of_uri t) (gtin_of_link t)) s.is in
    let other : sscc_of_uri text ≡ None = ap sscc_of_uri s.is in
    rw (none, other, sscc_link_finds text key s) (ap Some (sym s.names))

sgtin_key_spelled : (text key : List ℕ) → sgtin_key_of text ≡ Some key → SgtinUri text key ⊎ SgtinLink text key
sgtin_key_spelled text key h =
    option_and_then_some _ (option_or (gtin_of_uri text) (gtin_of_link text)) key h (λ parts found h2.
    let (serial, is, names) = mapped_some _ _ _ h2 in
    let of = serial_of_some parts.1 serial is in
    let known : IsSerial (percent_decode parts.1) = subst IsSerial of.1 of.0 in
    let named : sgtin_key parts.0 (percent_decode parts.1) ≡ key = ap (sgtin_key parts.0) (sym of.1) ∙ names in
    elim (either_some (gtin_of_uri text) (gtin_of_link text) parts found) [
      | inl e ↦ inl (subst (SgtinUri text) named (sgtin_uri_found text parts.0 parts.1 e known).0)
      | inr e ↦ inr (subst (SgtinLink text) named (sgtin_link_found text parts.0 parts.1 e known).0)
    ])

sscc_key_spelled : (text key : List ℕ) → sscc_key_of text ≡ Some key → SsccUri text key ⊎ SsccLink text key
sscc_key_spelled text key h =
    let (sscc, found, names) = mapped_some _ _ _ h in
    elim (either_some (sscc_of_uri text) (sscc_of_link text) sscc found) [
      | inl e ↦ inl (subst (SsccUri text) names (sscc_uri_found text sscc e).0)
      | inr e ↦ inr (subst (SsccLink text) names (sscc_link_found text sscc e).0)
    ]

pub number_key_spelled : (text key : List ℕ) → number_key_of text ≡ Some key → SpellsNumber text key
number_key_spelled text key h =
    elim (either_some (sgtin_key_of text) (sscc_key_of text) key h) [
      | inl e ↦ inl (sgtin_key_spelled text key e)
      | inr e ↦ inr (sscc_key_spelled text key e)
    ]

pub not_number : (text : List ℕ) → number_key_of text ≡ None → (k : List ℕ) → ¬ SpellsNumber text k
not_number text none k s = let found = number_key_from text k s in let no : ⊥ = cc in no

-- ---- `key_of` is what the text spells

pub spells_key : (text : List ℕ) → IsPlain text → Spells text (key_of text)
unfolding key_of
spells_key text plain =
    record { plain = plain; item = by (number_key_of text) refl }
  where
    by : (o : Option (List ℕ)) → number_key_of text ≡ o → SpellsNumber text (unwrap_or o (uri_key text)) ⊎ Opaque text (unwrap_or o (uri_key text))
    by None e = inr (record { other = not_number text e; names = refl })
    by (Some key) e = inl (number_key_spelled text key e)

pub key_from : (text key : List ℕ) → Spells text key → key_of text ≡ key
unfolding key_of
key_from text key s =
    by s.item
  where
    opaque : Opaque text key → (o : Option (List ℕ)) → number_key_of text ≡ o → unwrap_or o (uri_key text) ≡ key
    opaque p None e = sym p.names
    opaque p (Some k) e = absurd (p.other k (number_key_spelled text k e))

    by : SpellsNumber text key ⊎ Opaque text key → unwrap_or (number_key_of text) (uri_key text) ≡ key
    by (inl n) = rw (number_key_from text key n) refl
    by (inr p) = opaque p (number_key_of text) refl
