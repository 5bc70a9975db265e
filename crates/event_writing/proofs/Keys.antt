-- The text of an item in its form.
use Rattle.std.proofs.Common.{◌≡◌, ◌++◌, ◌∷◌, [], ℕ, suc, List, length, take, drop, refl, sym, ap, ◌∙◌}
use Rattle.std.proofs.Math.Seq.{take-append_seam}
use Rattle.percent_encoding.specs.Percent.{percent_encode}
use Rattle.epc_core.specs.declared.items.EpcForm.{EpcForm}
use Rattle.epc_core.specs.declared.items.EpcForm.TheVariants.{Item, Other, Sscc}
use Rattle.epc_core.specs.Forms.{IsForm, key_of_form}
use Rattle.epc_core.specs.Items.{sgtin_key, sscc_key, uri_key}
use Rattle.epc_core.specs.Spellings.{sgtin_link, sscc_link}
use Rattle.event_writing.specs.declared.item_texts.TheConstants.{RESERVED}
use Rattle.event_writing.specs.Texts.{item_text}

take_gtin : (gtin rest : List ℕ) → length gtin ≡ 14 → take 14 (gtin ++ rest) ≡ gtin
take_gtin gtin rest is = ap (λ n. take n (gtin ++ rest)) (sym is) ∙ take-append_seam gtin rest

drop_past : (xs : List ℕ) (y : ℕ) (ys : List ℕ) → drop (suc (length xs)) (xs ++ y ∷ ys) ≡ ys
drop_past [] y ys = refl
drop_past (x ∷ xs) y ys = drop_past xs y ys

drop_gtin : (gtin serial : List ℕ) → length gtin ≡ 14 → drop 15 (gtin ++ 32 ∷ serial) ≡ serial
drop_gtin gtin serial is = ap (λ n. drop (suc n) (gtin ++ 32 ∷ serial)) (sym is) ∙ drop_past gtin 32 serial

pub trade_item : (gtin serial : List ℕ) → length gtin ≡ 14 → item_text (sgtin_key gtin serial) ≡ sgtin_link gtin (percent_encode RESERVED serial)
unfolding item_text
trade_item gtin serial is = rw (take_gtin gtin (32 ∷ serial) is, drop_gtin gtin serial is) refl

pub logistic_unit : (digits : List ℕ) → item_text (sscc_key digits) ≡ sscc_link digits
unfolding item_text
logistic_unit digits = refl

pub any_other : (text : List ℕ) → item_text (uri_key text) ≡ text
unfolding item_text
any_other text = refl

-- the same of a form that is known

pub item_of_form : (form : EpcForm) (key gtin serial text : List ℕ) → form ≡ Item gtin serial → key_of_form form ≡ key → IsForm form
    → text ≡ sgtin_link gtin (percent_encode RESERVED serial) → text ≡ item_text key
item_of_form form key gtin serial text is same its spelled =
    let item : IsForm (Item gtin serial) = rw is at its in
    spelled ∙ sym (ap item_text (sym same ∙ ap key_of_form is) ∙ trade_item gtin serial item.0.counted)

pub sscc_of_form : (form : EpcForm) (key digits text : List ℕ) → form ≡ Sscc digits → key_of_form form ≡ key → text ≡ sscc_link digits → text ≡ item_text key
sscc_of_form form key digits text is same spelled = spelled ∙ sym (ap item_text (sym same ∙ ap key_of_form is) ∙ logistic_unit digits)

pub other_of_form : (form : EpcForm) (key known text : List ℕ) → form ≡ Other known → key_of_form form ≡ key → text ≡ known → text ≡ item_text key
other_of_form form key known text is same spelled = spelled ∙ sym (ap item_text (sym same ∙ ap key_of_form is) ∙ any_other known)
