-- The lot of a unit.
use Rattle.std.proofs.Common.{◌≡◌, ◌++◌, ◌∷◌, [], ℕ, suc, List, Some, length, take, drop, refl, sym, ap, ◌∙◌}
use Rattle.std.proofs.Math.Seq.{take-append_seam}
use Rattle.epc_core.specs.declared.items.EpcForm.{EpcForm}
use Rattle.epc_core.specs.declared.items.EpcForm.TheVariants.{Item}
use Rattle.epc_core.specs.Forms.{IsForm, key_of_form}
use Rattle.epc_core.specs.Items.{sgtin_key}
use Rattle.document_convert.specs.Lots.{lot_of_key}
use Rattle.item_spellings.specs.Lots.{lot_text}
use Rattle.document_convert.specs.UnitLots.{gtin_of_key}

pub take_gtin : (gtin rest : List ℕ) → length gtin ≡ 14 → take 14 (gtin ++ rest) ≡ gtin
take_gtin gtin rest is = ap (λ n. take n (gtin ++ rest)) (sym is) ∙ take-append_seam gtin rest

drop_past : (xs : List ℕ) (y : ℕ) (ys : List ℕ) → drop (suc (length xs)) (xs ++ y ∷ ys) ≡ ys
drop_past [] y ys = refl
drop_past (x ∷ xs) y ys = drop_past xs y ys

drop_gtin : (gtin number : List ℕ) → length gtin ≡ 14 → drop 15 (gtin ++ 32 ∷ number) ≡ number
drop_gtin gtin number is = ap (λ n. drop (suc n) (gtin ++ 32 ∷ number)) (sym is) ∙ drop_past gtin 32 number

pub lot_of_item : (gtin number : List ℕ) → length gtin ≡ 14 → lot_of_key (sgtin_key gtin number) ≡ Some (lot_text gtin number)
lot_of_item gtin number is = rw (take_gtin gtin (32 ∷ number) is, drop_gtin gtin number is) refl

pub lot_of_form : (form : EpcForm) (key gtin number spelled : List ℕ) → form ≡ Item gtin number → key_of_form form ≡ key → IsForm form → spelled ≡ lot_text gtin number → Some spelled ≡ lot_of_key key
lot_of_form form key gtin number spelled is same its text =
    let item : IsForm (Item gtin number) = rw is at its in
    let of_key : lot_of_key key ≡ lot_of_key (sgtin_key gtin number) = ap lot_of_key (sym same ∙ ap key_of_form is) in
    ap Some text ∙ sym (of_key ∙ lot_of_item gtin number item.0.counted)

-- ---- its GTIN

pub gtin_of_item : (gtin number : List ℕ) → length gtin ≡ 14 → gtin_of_key (sgtin_key gtin number) ≡ Some gtin
gtin_of_item gtin number is = ap Some (take_gtin gtin (32 ∷ number) is)

pub gtin_of_form : (form : EpcForm) (key gtin number found : List ℕ) → form ≡ Item gtin number → key_of_form form ≡ key → IsForm form → found ≡ gtin → Some found ≡ gtin_of_key key
gtin_of_form form key gtin number found is same its text =
    let item : IsForm (Item gtin number) = rw is at its in
    let of_key : gtin_of_key key ≡ gtin_of_key (sgtin_key gtin number) = ap gtin_of_key (sym same ∙ ap key_of_form is) in
    ap Some text ∙ sym (of_key ∙ gtin_of_item gtin number item.0.counted)
