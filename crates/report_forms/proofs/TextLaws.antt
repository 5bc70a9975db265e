-- the numbers in keys, and texts in quotes
use Rattle.std.proofs.Common.{◌≡◌, ◌==◌, ℕ, false, List, [], ◌∷◌, ◌++◌, Option, None, Some, codes, option_map, refl, sym, ap, ◌∙◌, subst, append_assoc, inl, inr}
use Rattle.std.specs.Option.{option_map_or, option_or}
use Rattle.std.proofs.lemmas.Bool.{cases_Bool, eqb-true}
use Rattle.epc_core.specs.Items.{sgtin_key, sscc_key, uri_key, with_first}
use Rattle.epc_core.specs.Numbers.{IsChecked}
use Rattle.epc_core.specs.Serials.{IsSerial}
use Rattle.epc_core.proofs.Cuts.{parted-append}
use Rattle.epc_core.proofs.Spelled.{not_digit}
use Rattle.item_spellings.specs.LotParts.{IsLot, IsLotOf, lot_number, lot_parts_of}
use Rattle.item_spellings.specs.Lots.{escape, lot_text}
use Rattle.item_spellings.proofs.LotParts.{lots_have_parts, numbers_are_decoded}
use Rattle.report_forms.specs.Csv.{trade_numbers}
use Rattle.report_forms.proofs.Replacing.{escaped_other}
use Rattle.report_forms.specs.Dot.{dot_text, escaped, with_entities}
use Rattle.report_forms.specs.Laws.{HasNumbers, ItemsHaveNumbers, TextsReadBack, first_text, up_to_quote}

-- ---- texts in quotes

-- a byte that stands for itself
plain_read : (b : ℕ) (rest : List ℕ) → (b == 34) ≡ false → (b == 92) ≡ false → up_to_quote false (b ∷ rest) ≡ option_map (with_first b) (up_to_quote false rest)
plain_read b rest no_quote no_slash = rw (no_quote, no_slash) refl

escaped_read : (text rest : List ℕ) → up_to_quote false (escaped text ++ 34 ∷ rest) ≡ Some (text, rest)
unfolding escaped
escaped_read [] rest = refl
escaped_read (b ∷ text) rest = elim (cases_Bool (b == 34)) [
  | inl quote ↦
      subst (λ (c : ℕ). up_to_quote false (escaped (c ∷ text) ++ 34 ∷ rest) ≡ Some (c ∷ text, rest)) (sym (eqb-true b 34 quote))
      (ap (option_map (with_first 34)) (escaped_read text rest))
  | inr no_quote ↦ elim (cases_Bool (b == 92)) [
    | inl slash ↦
        subst (λ (c : ℕ). up_to_quote false (escaped (c ∷ text) ++ 34 ∷ rest) ≡ Some (c ∷ text, rest)) (sym (eqb-true b 92 slash))
        (ap (option_map (with_first 92)) (escaped_read text rest))
    | inr no_slash ↦
        ap (λ (bs : List ℕ). up_to_quote false (bs ++ 34 ∷ rest)) (escaped_other b text no_quote no_slash)
        ∙ plain_read b (escaped text ++ 34 ∷ rest) no_quote no_slash ∙ ap (option_map (with_first b)) (escaped_read text rest)
  ]
]

pub texts_read : TextsReadBack
unfolding dot_text
texts_read text rest =
    let whole : dot_text text ++ rest ≡ 34 ∷ (escaped (with_entities text) ++ 34 ∷ rest) =
    ap (λ (t : List ℕ). 34 ∷ t) (append_assoc (escaped (with_entities text)) (34 ∷ []) rest) in
    ap first_text whole ∙ escaped_read (with_entities text) rest

-- ---- the numbers in keys

-- the GTIN and the rest that a key has by what is found in it
abbrev gtin_in : Option (List ℕ × List ℕ) → Option (List ℕ × List ℕ) → List ℕ
gtin_in trade lot = option_map_or (λ numbers. numbers.0) (option_or trade lot) []

unit_has : (gtin serial : List ℕ) → IsChecked 14 gtin → HasNumbers (sgtin_key gtin serial) gtin serial [] []
unfolding lot_parts_of
unit_has gtin serial checked =
    let cut : trade_numbers (sgtin_key gtin serial) ≡ Some (gtin, serial) = parted-append 32 gtin serial (not_digit gtin 32 refl checked.are_digits) in
    record {
      gtin_is = ap (λ (found : Option (List ℕ × List ℕ)). gtin_in found None) cut;
      serial_is = ap (λ (found : Option (List ℕ × List ℕ)). option_map_or (λ numbers. numbers.1) found []) cut;
      sscc_is = refl;
      lot_is = refl;
    }

label_has : (digits : List ℕ) → HasNumbers (sscc_key digits) [] [] digits []
unfolding lot_parts_of
label_has digits = record { gtin_is = refl; serial_is = refl; sscc_is = refl; lot_is = refl }

-- of a key that is neither, what is found in it as a lot's
text_has : (text : List ℕ) (lot : Option (List ℕ × List ℕ)) → lot_parts_of (uri_key text) ≡ lot
    → HasNumbers (uri_key text) (gtin_in None lot) [] [] (option_map_or (λ parts. lot_number parts.1) lot [])
text_has text lot found = record {
  gtin_is = ap (λ (o : Option (List ℕ × List ℕ)). gtin_in None o) found;
  serial_is = refl;
  sscc_is = refl;
  lot_is = ap (λ (o : Option (List ℕ × List ℕ)). option_map_or (λ parts. lot_number parts.1) o []) found;
}

lot_has : (key gtin number : List ℕ) → IsLotOf key gtin number → HasNumbers key gtin [] [] (lot_number number)
lot_has key gtin number lot =
    let text : List ℕ = codes "https://id.gs1.org/01/" ++ (gtin ++ (codes "/10/" ++ number)) in
    let found : lot_parts_of (uri_key text) ≡ Some (gtin, number) = ap lot_parts_of (sym lot.spelled) ∙ (lots_have_parts key gtin number).1 lot in
    subst (λ (k : List ℕ). HasNumbers k gtin [] [] (lot_number number)) (sym lot.spelled) (text_has text (Some (gtin, number)) found)

made_has : (gtin lot : List ℕ) → IsChecked 14 gtin → IsSerial lot → HasNumbers (uri_key (lot_text gtin lot)) gtin [] [] lot
made_has gtin lot checked allowed =
    let (found, same) = numbers_are_decoded gtin lot checked allowed in
    subst (λ (number : List ℕ). HasNumbers (uri_key (lot_text gtin lot)) gtin [] [] number) same (text_has (lot_text gtin lot) (Some (gtin, escape lot)) found)

no_parts : (key : List ℕ) → (IsLot key → ⊥) → lot_parts_of key ≡ None
no_parts key none = by (lot_parts_of key) refl
  where
    by : (o : Option (List ℕ × List ℕ)) → lot_parts_of key ≡ o → o ≡ None
    by None is = refl
    by (Some (gtin, number)) is = absurd (none (gtin, number, (lots_have_parts key gtin number).0 is))

pub numbers_are : ItemsHaveNumbers
numbers_are = (
  unit_has,
  label_has,
  lot_has,
  made_has,
  λ text none. text_has text None (no_parts (uri_key text) none),
)
