-- A lot has one spelling, and two lots have two.
use Rattle.std.proofs.lemmas.List.{append_cancel_left}
use Rattle.std.proofs.Common.{◌≡◌, ◌++◌, ℕ, List, Option, Some, None, Result, Ok, Err, length, take, drop, codes, refl, sym, ap, ◌∙◌, subst}
use Rattle.std.specs.Prelude.{option_and_then, option_map}
use Rattle.percent_encoding.specs.Percent.{percent_decode}
use Rattle.epc_core.specs.declared.items.EpcFault.{EpcFault}
use Rattle.epc_core.specs.Items.{behind, sgtin_key}
use Rattle.epc_core.specs.Reading.{reading}
use Rattle.epc_core.specs.Spellings.{Spells}
use Rattle.epc_core.proofs.Cuts.{behind_some}
use Rattle.epc_core.proofs.Told.{reading_from, reading_to}
use Rattle.epc_core.proofs.Words.{sgtin_from_key}
use Rattle.document_convert.specs.Lots.{lot_of, lot_of_key, lot_read, unit_of}
use Rattle.item_spellings.specs.Lots.{escape, lot_text}
use Rattle.item_spellings.proofs.LotKeys.{decoded, opaque_lot}
use Rattle.document_convert.specs.LotLaws.{IsLotOf, LotsStayApart, SpelledAreLots, SpellingsBecomeOne}
use Rattle.document_convert.proofs.LotLemmas.{lot_of_item, take_gtin}

-- ---- what is spelled is found

pub become_one : SpellingsBecomeOne
unfolding lot_of
become_one text gtin number s = rw (s.named, reading_to s.unit (sgtin_key gtin number) s.spells) (lot_of_item gtin number s.checked.counted)

-- ---- and what is found is spelled

of_key : (text unit key spelled : List ℕ) → unit_of text ≡ Some unit → Spells unit key → lot_of_key key ≡ Some spelled → IsLotOf text spelled
of_key text unit key spelled named spells is = by (behind (codes "sgtin ") key) refl is
  where
    by : (o : Option (List ℕ)) → behind (codes "sgtin ") key ≡ o → option_map (λ rest. lot_text (take 14 rest) (drop 15 rest)) o ≡ Some spelled → IsLotOf text spelled
    by None e is = cc
    by (Some rest) e is =
        let whole : key ≡ codes "sgtin " ++ rest = behind_some (codes "sgtin ") key rest e in
        let p = sgtin_from_key unit rest (subst (Spells unit) whole spells) in
        let same : key ≡ sgtin_key p.gtin p.serial = whole ∙ ap (λ t. codes "sgtin " ++ t) p.is in
        let text_is : Some spelled ≡ Some (lot_text p.gtin p.serial) = sym is ∙ ap (λ r. Some (lot_text (take 14 r) (drop 15 r))) p.is ∙ lot_of_item p.gtin p.serial p.checked.counted in
        (p.gtin, p.serial, record { checked = p.checked; allowed = p.allowed; unit = unit; named = named; spells = subst (Spells unit) same spells }, cc)

pub are_lots : SpelledAreLots
unfolding lot_of
are_lots text spelled is = of_unit (unit_of text) refl is
  where
    of_read : (unit : List ℕ) (read : Result (List ℕ) EpcFault) → unit_of text ≡ Some unit → reading unit ≡ read → lot_read read ≡ Some spelled → IsLotOf text spelled
    of_read unit (Ok key) named r is = of_key text unit key spelled named (reading_from unit key r) is
    of_read unit (Err e) named r is = cc

    of_unit : (o : Option (List ℕ)) → unit_of text ≡ o → option_and_then (λ unit. lot_read (reading unit)) o ≡ Some spelled → IsLotOf text spelled
    of_unit None named is = cc
    of_unit (Some unit) named is = of_read unit (reading unit) named refl is

-- ---- the item of a lot is an opaque one, with this spelling

same_gtin : (gtin other rest rest_of : List ℕ) → length gtin ≡ 14 → length other ≡ 14 → gtin ++ rest ≡ other ++ rest_of → gtin ≡ other
same_gtin gtin other rest rest_of a b same = sym (take_gtin gtin rest a) ∙ ap (take 14) same ∙ take_gtin other rest_of b

pub stay_apart : LotsStayApart
stay_apart gtin number other another checked allowed also also_allowed keys =
    let texts : lot_text gtin number ≡ lot_text other another =
    append_cancel_left (codes "uri ") _ _ (sym (opaque_lot gtin number checked) ∙ keys ∙ opaque_lot other another also) in
    let rests = append_cancel_left (codes "https://id.gs1.org/01/") _ _ texts in
    let gtins = same_gtin gtin other (codes "/10/" ++ escape number) (codes "/10/" ++ escape another) checked.counted also.counted rests in
    let behind_gtin : other ++ (codes "/10/" ++ escape number) ≡ other ++ (codes "/10/" ++ escape another) =
    ap (λ g. g ++ (codes "/10/" ++ escape number)) (sym gtins) ∙ rests in
    let numbers : escape number ≡ escape another = append_cancel_left (codes "/10/") _ _ (append_cancel_left other _ _ behind_gtin) in
    (gtins, sym (decoded number allowed.allowed) ∙ ap percent_decode numbers ∙ decoded another also_allowed.allowed)
