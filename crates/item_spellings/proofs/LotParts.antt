-- The parts of a lot's key.
use Rattle.std.proofs.Common.{◌≡◌, ◌≢◌, ◌↔◌, ◌∙◌, ◌==◌, ◌&&◌, if◌then◌else◌, not, ℕ, ◌<◌, ◌≤◌, ◌+◌, ◌/◌, ◌%◌, Bool, true, false, List, [], ◌∷◌, ◌++◌, Option, None, Some, length, codes, option_map, is_some, ltb, inl, inr, refl, sym, ap, ap₂, subst, arith, Bor}
use mathlib.Core.Bool.{false≢true}
use Rattle.std.specs.Fmt.{digit_glyph}
use Rattle.std.specs.List.{list_all}
use Rattle.std.specs.Option.{option_and_then}
use Rattle.std.specs.Prelude.{IsTrue, MatchOption}
use Rattle.std.specs.Str.Pattern.{FindsTextPrefix, StripsPrefix}
use Rattle.std.proofs.lemmas.Bool.{and_parts, cases_Bool, cond_both, eqb-true, ne_eqb}
use Rattle.std.proofs.lemmas.Bool.Decides.{nat_tests}
use Rattle.std.proofs.lemmas.Option.{some_pair_parts}
use Rattle.std.proofs.lemmas.Str.Pattern.{IsSplitOnceResult}
use Rattle.percent_encoding.specs.Percent.{percent_decode, percent_encode_byte}
use Rattle.percent_encoding.proofs.PercentLemmas.{length-percent_decode}
use Rattle.epc_core.specs.Forms.{key_of_form}
use Rattle.epc_core.specs.Items.{behind, parted, uri_key}
use Rattle.epc_core.specs.Numbers.{is_digit}
use Rattle.epc_core.specs.Serials.{is_part_byte, is_serial_byte}
use Rattle.epc_core.specs.declared.items.EpcForm.{EpcForm}
use Rattle.epc_core.specs.declared.items.EpcForm.TheVariants.{Item, Sscc, Other}
use Rattle.epc_core.proofs.Cuts.{behind-append, behind_some, parted-append, parted_some, splits_none, splits_some, strips_none, strips_some}
use Rattle.epc_core.proofs.Digits.{all_append}
use Rattle.epc_core.proofs.Spelled.{not_digit}
use Rattle.item_spellings.specs.Laws.{LotNumbersAreDecoded, LotsHaveParts}
use Rattle.item_spellings.specs.LotParts.{IsLot, IsLotOf, are_lot_parts, if_lot_parts, is_printable, link_parts, lot_number, lot_of_link, lot_parts_of}
use Rattle.item_spellings.specs.Lots.{escape, escape_byte, is_kept, lot_text}
use Rattle.item_spellings.proofs.LotKeys.{decoded}

-- ---- the link of a lot

-- what `split_once` returns
pub splits : (byte : ℕ) (s : List ℕ) (r : Option (Bor (List ℕ) × Bor (List ℕ))) → byte < 128 → IsSplitOnceResult byte s r → option_map (λ p. (p.0.now, p.1.now)) r ≡ parted byte s
splits byte s None small h = sym (splits_none byte s None refl small h)
splits byte s (Some (x, y)) small h = sym (splits_some byte s (Some (x, y)) x y refl small h)

-- what `strip_prefix` returns
pub strips : (p s : List ℕ) (r : Option (Bor (List ℕ))) → MatchOption r (FindsTextPrefix p s None) (λ y. StripsPrefix (FindsTextPrefix p) s y.now) → option_map (λ t. t.now) r ≡ behind p s
strips p s None h = sym (strips_none p s None refl h)
strips p s (Some x) h = sym (strips_some p s (Some x) x refl h)

-- the parts of a link
abbrev with_front : List ℕ → List ℕ → List ℕ × List ℕ
with_front front number = (front, number)

abbrev third : List ℕ × List ℕ → Option (List ℕ × List ℕ)
third parts = option_map (with_front parts.0) (behind (codes "10/") parts.1)

abbrev second : List ℕ → Option (List ℕ × List ℕ)
second rest = option_and_then third (parted 47 rest)

parts_are : (text gtin number : List ℕ) → link_parts text ≡ Some (gtin, number) → text ≡ codes "https://id.gs1.org/01/" ++ (gtin ++ (codes "/10/" ++ number))
parts_are text gtin number h = by_rest (behind (codes "https://id.gs1.org/01/") text) refl h
  where
    by_number : (rest front back : List ℕ) (o : Option (List ℕ)) → behind (codes "10/") back ≡ o → option_map (with_front front) o ≡ Some (gtin, number)
        → rest ≡ front ++ 47 ∷ back → rest ≡ gtin ++ (codes "/10/" ++ number)
    by_number rest front back None is same whole = absurd (false≢true (ap is_some same))
    by_number rest front back (Some n) is same whole =
        let tail : back ≡ codes "10/" ++ n = behind_some (codes "10/") back n is in
        let (first, last) : (front ≡ gtin) × (n ≡ number) = some_pair_parts front gtin n number same in
        whole ∙ ap (λ (b : List ℕ). front ++ 47 ∷ b) (tail ∙ ap (λ (m : List ℕ). codes "10/" ++ m) last) ∙ ap (λ (f : List ℕ). f ++ (codes "/10/" ++ number)) first

    by_parts : (rest : List ℕ) (o : Option (List ℕ × List ℕ)) → parted 47 rest ≡ o → option_and_then third o ≡ Some (gtin, number) → rest ≡ gtin ++ (codes "/10/" ++ number)
    by_parts rest None is same = absurd (false≢true (ap is_some same))
    by_parts rest (Some (front, back)) is same = by_number rest front back (behind (codes "10/") back) refl same (parted_some 47 rest front back is)

    by_rest : (o : Option (List ℕ)) → behind (codes "https://id.gs1.org/01/") text ≡ o → option_and_then second o ≡ Some (gtin, number)
        → text ≡ codes "https://id.gs1.org/01/" ++ (gtin ++ (codes "/10/" ++ number))
    by_rest None is same = absurd (false≢true (ap is_some same))
    by_rest (Some rest) is same =
        behind_some (codes "https://id.gs1.org/01/") text rest is ∙ ap (λ (r : List ℕ). codes "https://id.gs1.org/01/" ++ r) (by_parts rest (parted 47 rest) refl same)

parts_of : (gtin number : List ℕ) → list_all is_digit gtin ≡ true → link_parts (codes "https://id.gs1.org/01/" ++ (gtin ++ (codes "/10/" ++ number))) ≡ Some (gtin, number)
parts_of gtin number digits =
    ap (option_and_then second) (behind-append (codes "https://id.gs1.org/01/") (gtin ++ (codes "/10/" ++ number)))
    ∙ ap (option_and_then third) (parted-append 47 gtin (codes "10/" ++ number) (not_digit gtin 47 refl digits))
    ∙ ap (option_map (with_front gtin)) (behind-append (codes "10/") number)

-- ---- the parts are those of a lot

none_long : (xs : List ℕ) → not (length xs == 0) ≡ true → xs ≢ []
none_long [] h none = false≢true h
none_long (x ∷ xs) h none = cc

some_long : (xs : List ℕ) → xs ≢ [] → not (length xs == 0) ≡ true
some_long [] h = absurd (h refl)
some_long (x ∷ xs) h = ap not (ne_eqb (length (x ∷ xs)) 0 (λ e. omega (arith, e)))

all_so : (a c d e : Bool) → a ≡ true → c ≡ true → d ≡ true → e ≡ true → ((a && c) && (d && e)) ≡ true
all_so true true true true p q r s = refl
all_so true true true false p q r s = absurd (false≢true s)
all_so true true false e p q r s = absurd (false≢true r)
all_so true false d e p q r s = absurd (false≢true q)
all_so false c d e p q r s = absurd (false≢true p)

are_so : (key gtin number : List ℕ) → IsLotOf key gtin number → are_lot_parts gtin number ≡ true
are_so key gtin number lot =
    all_so (length gtin == 14) (list_all is_digit gtin) (not (length number == 0)) (list_all is_part_byte number) (ap (λ n. n == 14) lot.long) lot.digits (some_long number lot.some) lot.plain

is_so : (text gtin number : List ℕ) → are_lot_parts gtin number ≡ true → link_parts text ≡ Some (gtin, number) → IsLotOf (uri_key text) gtin number
is_so text gtin number so parts =
    let ends = and_parts ((length gtin == 14) && list_all is_digit gtin) (not (length number == 0) && list_all is_part_byte number) so in
    let front = and_parts (length gtin == 14) (list_all is_digit gtin) ends.0 in
    let back = and_parts (not (length number == 0)) (list_all is_part_byte number) ends.1 in
    record {
      spelled = ap uri_key (parts_are text gtin number parts);
      long = eqb-true (length gtin) 14 front.0;
      digits = front.1;
      some = none_long number back.0;
      plain = back.1;
    }

if_so : (gtin number : List ℕ) → are_lot_parts gtin number ≡ true → if_lot_parts (gtin, number) ≡ Some (gtin, number)
if_so gtin number so = rw so refl

abbrev given : Bool → List ℕ × List ℕ → Option (List ℕ × List ℕ)
given so parts = if so then Some parts else None

link_is : (text gtin number : List ℕ) → lot_of_link text ≡ Some (gtin, number) → IsLotOf (uri_key text) gtin number
link_is text gtin number h = by_parts (link_parts text) refl h
  where
    by_kind : (g n : List ℕ) (so : Bool) → are_lot_parts g n ≡ so → link_parts text ≡ Some (g, n) → given so (g, n) ≡ Some (gtin, number) → IsLotOf (uri_key text) gtin number
    by_kind g n false is parts same = absurd (false≢true (ap is_some same))
    by_kind g n true is parts same =
        let (first, last) : (g ≡ gtin) × (n ≡ number) = some_pair_parts g gtin n number same in
        is_so text gtin number (ap₂ are_lot_parts (sym first) (sym last) ∙ is) (parts ∙ same)

    by_parts : (o : Option (List ℕ × List ℕ)) → link_parts text ≡ o → option_and_then if_lot_parts o ≡ Some (gtin, number) → IsLotOf (uri_key text) gtin number
    by_parts None is same = absurd (false≢true (ap is_some same))
    by_parts (Some (g, n)) is same = by_kind g n (are_lot_parts g n) refl is same

key_is : (key gtin number : List ℕ) → lot_parts_of key ≡ Some (gtin, number) → IsLotOf key gtin number
unfolding lot_parts_of
key_is key gtin number h = by_text (behind (codes "uri ") key) refl h
  where
    by_text : (o : Option (List ℕ)) → behind (codes "uri ") key ≡ o → option_and_then lot_of_link o ≡ Some (gtin, number) → IsLotOf key gtin number
    by_text None is same = absurd (false≢true (ap is_some same))
    by_text (Some text) is same = subst (λ k. IsLotOf k gtin number) (sym (behind_some (codes "uri ") key text is)) (link_is text gtin number same)

has_parts : (key gtin number : List ℕ) → IsLotOf key gtin number → lot_parts_of key ≡ Some (gtin, number)
unfolding lot_parts_of
has_parts key gtin number lot =
    ap lot_parts_of lot.spelled
    ∙ ap (option_and_then if_lot_parts) (parts_of gtin number lot.digits)
    ∙ if_so gtin number (are_so key gtin number lot)

pub lots_have_parts : LotsHaveParts
lots_have_parts key gtin number = (key_is key gtin number, has_parts key gtin number)

-- ---- by the form of an item

pub of_unit : (form : EpcForm) (key gtin serial : List ℕ) → form ≡ Item gtin serial → key_of_form form ≡ key → None ≡ lot_parts_of key
unfolding lot_parts_of
of_unit form key gtin serial is same = ap lot_parts_of (ap key_of_form (sym is) ∙ same)

pub of_label : (form : EpcForm) (key digits : List ℕ) → form ≡ Sscc digits → key_of_form form ≡ key → None ≡ lot_parts_of key
unfolding lot_parts_of
of_label form key digits is same = ap lot_parts_of (ap key_of_form (sym is) ∙ same)

pub of_link : (form : EpcForm) (key text : List ℕ) (parts : Option (List ℕ × List ℕ)) → form ≡ Other text → key_of_form form ≡ key → parts ≡ lot_of_link text → parts ≡ lot_parts_of key
unfolding lot_parts_of
of_link form key text parts is same parts_is = parts_is ∙ ap lot_parts_of (ap key_of_form (sym is) ∙ same)

-- an item is a lot where its key has parts
pub is_lot : (key : List ℕ) (parts : Option (Bor (List ℕ) × Bor (List ℕ))) (known : Bool) → option_map (λ p. (p.0.now, p.1.now)) parts ≡ lot_parts_of key → known ≡ is_some parts → IsTrue known ↔ IsLot key
is_lot key None known parts is = (
  λ yes. absurd (false≢true (sym is ∙ yes)),
  λ (gtin, number, lot). absurd (false≢true (ap is_some (parts ∙ has_parts key gtin number lot))),
)
is_lot key (Some (gtin, number)) known parts is = (
  λ yes. (gtin.now, number.now, key_is key gtin.now number.now (sym parts)),
  λ lot. is,
)

-- ---- numbers are read of their spelling

printable : (b : ℕ) → is_serial_byte b ≡ true → is_printable b ≡ true
printable b h = grind (arith, nat_tests)

all_printable : (bs : List ℕ) → list_all is_serial_byte bs ≡ true → list_all is_printable bs ≡ true
all_printable [] h = refl
all_printable (b ∷ bs) h =
    let parts = and_parts (is_serial_byte b) (list_all is_serial_byte bs) h in
    rw (printable b parts.0) (all_printable bs parts.1)

number_is : (spelled number : List ℕ) → percent_decode spelled ≡ number → list_all is_printable number ≡ true → lot_number spelled ≡ number
unfolding lot_number
number_is spelled number same plain = rw (same, plain) refl

kept_plain : (b : ℕ) → is_kept b ≡ true → is_part_byte b ≡ true
kept_plain b h = grind (arith, nat_tests)

glyph_plain : (d : ℕ) → d < 16 → is_part_byte (digit_glyph true d) ≡ true
glyph_plain d small = cond_both (ltb d 10) (48 + d) (55 + d) (λ b. is_part_byte b ≡ true) (λ e. grind (arith, nat_tests)) (λ e. grind (arith, nat_tests))

byte_plain : (b : ℕ) → list_all is_part_byte (percent_encode_byte b) ≡ true
unfolding percent_encode_byte
byte_plain b = rw (glyph_plain (b / 16 % 16) (omega arith), glyph_plain (b % 16) (omega arith)) refl

escaped_plain : (number : List ℕ) → list_all is_part_byte (escape number) ≡ true
escaped_plain [] = refl
escaped_plain (b ∷ bs) = all_append is_part_byte (escape_byte b) (escape bs) (elim (cases_Bool (is_kept b)) [
  | inl kept ↦ rw kept (rw (kept_plain b kept) refl)
  | inr other ↦ rw other (byte_plain b)
]) (escaped_plain bs)

some_left : (number : List ℕ) → list_all is_serial_byte number ≡ true → 1 ≤ length number → escape number ≢ []
some_left number allowed some none =
    let long = (length-percent_decode (escape number)).1 in
    let shorter = (length-percent_decode (escape number)).0 in
    let same = ap length (decoded number allowed) in
    let empty = ap length none in
    absurd (omega (arith, shorter, same, empty, some))

pub numbers_are_decoded : LotNumbersAreDecoded
numbers_are_decoded gtin number checked allowed = (
  has_parts (uri_key (lot_text gtin number)) gtin (escape number) (record {
    spelled = refl;
    long = checked.counted;
    digits = checked.are_digits;
    some = some_left number allowed.allowed allowed.some;
    plain = escaped_plain number;
  }),
  number_is (escape number) number (decoded number allowed.allowed) (all_printable number allowed.allowed),
)
