-- The link of a unit in its form.
use Rattle.std.proofs.Common.{◌≡◌, ℕ, List, Some, None, refl, sym, ap, ◌∙◌}
use Rattle.epc_core.specs.declared.items.EpcForm.{EpcForm}
use Rattle.epc_core.specs.declared.items.EpcForm.TheVariants.{Item, Other, Sscc}
use Rattle.epc_core.specs.Forms.{key_of_form}
use Rattle.event_writing.specs.Texts.{item_text}
use Rattle.document_convert.specs.Links.{link_of_key}

pub link_of_item : (form : EpcForm) (key gtin serial : List ℕ) → form ≡ Item gtin serial → key_of_form form ≡ key → Some (item_text key) ≡ link_of_key key
link_of_item form key gtin serial is same =
    let whole = sym (ap key_of_form is) ∙ same in
    rw (sym whole) refl

pub link_of_sscc : (form : EpcForm) (key digits : List ℕ) → form ≡ Sscc digits → key_of_form form ≡ key → Some (item_text key) ≡ link_of_key key
link_of_sscc form key digits is same =
    let whole = sym (ap key_of_form is) ∙ same in
    rw (sym whole) refl

pub link_of_other : (form : EpcForm) (key known : List ℕ) → form ≡ Other known → key_of_form form ≡ key → None ≡ link_of_key key
link_of_other form key known is same =
    let whole = sym (ap key_of_form is) ∙ same in
    rw (sym whole) refl
