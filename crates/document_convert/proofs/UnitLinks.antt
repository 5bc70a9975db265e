-- Each unit has one link, and two units have two.
use Rattle.std.proofs.Common.{◌≡◌, ◌⊎◌, inl, inr, ℕ, List, ◌++◌, Option, Some, None, Result, Ok, Err, codes, refl, sym, ap, ◌∙◌, subst}
use Rattle.std.specs.Prelude.{option_and_then, unwrap_or}
use Rattle.std.specs.Option.{option_or}
use Rattle.std.proofs.lemmas.Option.{same_Some}
use Rattle.serde_json.specs.Data.{string}
use Rattle.epc_core.specs.declared.items.EpcFault.{EpcFault}
use Rattle.epc_core.specs.Items.{behind, sgtin_key, sscc_key}
use Rattle.epc_core.specs.Reading.{reading}
use Rattle.epc_core.specs.Spellings.{Opaque, Spells, SpellsNumber}
use Rattle.epc_core.proofs.Cuts.{behind_some}
use Rattle.epc_core.proofs.Told.{only_key, reading_from, reading_to}
use Rattle.event_writing.specs.Texts.{item_text}
use Rattle.event_writing.proofs.Keys.{logistic_unit, trade_item}
use Rattle.event_writing.proofs.Links.{item_spelled, sscc_spelled}
use Rattle.item_spellings.specs.declared.faults.ScanFault.{ScanFault}
use Rattle.item_spellings.specs.Elements.{Element}
use Rattle.item_spellings.specs.Laws.{Names, NamesSgtin, NamesSscc}
use Rattle.item_spellings.specs.Scans.{scan_reading}
use Rattle.item_spellings.specs.Writing.{IsWriting}
use Rattle.item_spellings.proofs.Naming.{scans_spell_items}
use Rattle.document_convert.specs.Links.{link_of, link_of_elements, link_of_key, link_of_link, link_read, path_of, unit_at}
use Rattle.document_convert.specs.LinkLaws.{IsItemPath, IsSsccPath, LinksAreUnits, NamesByElements, NamesByLink, NamesUnit, TextsAreLinked, UnitsBecomeLinks, UnitsStayApart}
use Rattle.document_convert.specs.Respelled.{spelled_item}
use Rattle.document_convert.proofs.LinkPaths.{IsUnitAt, at_from, item_to, path_from, path_to, sscc_to}
use Rattle.document_convert.proofs.UnitKeys.{IsUnitKey}

-- ---- keys

pub unit_spelled : (key : List ℕ) → IsUnitKey key → Spells (item_text key) key
unit_spelled key (inl n) =
    subst (λ k. Spells (item_text k) k) (sym n.is)
    (subst (λ t. Spells t (sgtin_key n.gtin n.serial)) (sym (trade_item n.gtin n.serial n.checked.counted)) (item_spelled n.gtin n.serial n.checked n.allowed))
unit_spelled key (inr n) =
    subst (λ k. Spells (item_text k) k) (sym n.is)
    (subst (λ t. Spells t (sscc_key n.digits)) (sym (logistic_unit n.digits)) (sscc_spelled n.digits n.checked))

pub has_link : (key : List ℕ) → IsUnitKey key → link_of_key key ≡ Some (item_text key)
has_link key (inl n) = subst (λ k. link_of_key k ≡ Some (item_text k)) (sym n.is) refl
has_link key (inr n) = subst (λ k. link_of_key k ≡ Some (item_text k)) (sym n.is) refl

-- an item that has a link is a unit
pub is_unit : (text key link : List ℕ) → Spells text key → link_of_key key ≡ Some link → IsUnitKey key
is_unit text key link s is = by s.item
  where
    by : SpellsNumber text key ⊎ Opaque text key → IsUnitKey key
    by (inl (inl (inl n))) = inl (record { gtin = _; serial = _; checked = n.gtin; allowed = n.serial; is = n.names })
    by (inl (inl (inr n))) = inl (record { gtin = _; serial = _; checked = n.checked; allowed = n.serial; is = n.names })
    by (inl (inr (inl n))) = inr (record { digits = _; checked = n.sscc; is = n.names })
    by (inl (inr (inr n))) = inr (record { digits = _; checked = n.checked; is = n.names })
    by (inr n) = let no = sym (ap link_of_key n.names) ∙ is in cc

its_link : (key link : List ℕ) → IsUnitKey key → link_of_key key ≡ Some link → link ≡ item_text key
its_link key link unit is = same_Some link (item_text key) (sym is ∙ has_link key unit)

unit_of_elements : (es : List Element) (key : List ℕ) → NamesSgtin es key ⊎ NamesSscc es key → IsUnitKey key
unit_of_elements es key (inl n) = inl (record { gtin = n.gtin; serial = n.serial; checked = n.checked; allowed = n.allowed; is = n.names })
unit_of_elements es key (inr n) = inr (record { digits = n.sscc; checked = n.checked; is = n.names })

as_named : (es : List Element) (key : List ℕ) → NamesSgtin es key ⊎ NamesSscc es key → Names es key
as_named es key (inl n) = inl n
as_named es key (inr n) = inr (inl n)

unit_at_path : (path key : List ℕ) → IsItemPath path key ⊎ IsSsccPath path key → IsUnitAt path key
unit_at_path path key (inl p) = item_to path key p
unit_at_path path key (inr p) = sscc_to path key p

unit_named : (text key : List ℕ) → NamesUnit text key → IsUnitKey key
unit_named text key (inl (path, link, names)) = (unit_at_path path key names).is_unit
unit_named text key (inr n) = unit_of_elements n.elements key n.named

-- ---- what is named has its link

by_link : (text key : List ℕ) → NamesByLink text key → link_of_link text ≡ Some (item_text key)
by_link text key (path, link, names) =
    let n = unit_at_path path key names in
    ap (λ (o : Option (List ℕ)). option_and_then (λ unit. link_read (reading unit)) (option_and_then unit_at o)) (path_to path text link)
    ∙ ap (λ (o : Option (List ℕ)). option_and_then (λ unit. link_read (reading unit)) o) n.named
    ∙ ap (λ (r : Result (List ℕ) EpcFault). link_read r) (reading_to n.unit key n.spells)
    ∙ has_link key n.is_unit

no_link : (rest : List ℕ) → link_of_link (codes "(" ++ rest) ≡ None
no_link rest = refl

by_elements : (text key : List ℕ) (n : NamesByElements text key) → link_of_elements (codes "(" ++ n.rest) ≡ Some (item_text key)
by_elements text key n =
    let read : scan_reading text ≡ Ok key = (scans_spell_items text key).1 (n.elements, n.written, as_named n.elements key n.named) in
    ap (λ (r : Result (List ℕ) ScanFault). link_read r) (ap scan_reading (sym n.bracket) ∙ read)
    ∙ has_link key (unit_of_elements n.elements key n.named)

become_link : (text key : List ℕ) → NamesUnit text key → link_of text ≡ Some (item_text key)
unfolding link_of
become_link text key (inl n) = ap (λ (o : Option (List ℕ)). option_or o (link_of_elements text)) (by_link text key n)
become_link text key (inr n) =
    subst (λ t. option_or (link_of_link t) (link_of_elements t) ≡ Some (item_text key)) (sym n.bracket)
    (ap (λ (o : Option (List ℕ)). option_or o (link_of_elements (codes "(" ++ n.rest))) (no_link n.rest) ∙ by_elements text key n)

pub become_links : UnitsBecomeLinks
become_links text key n = (become_link text key n, unit_spelled key (unit_named text key n))

-- ---- and what has a link is named

abbrev IsLinked : List ℕ → List ℕ → Type 0
IsLinked text link = (key : List ℕ) × NamesUnit text key × Spells link key

from_link : (text link : List ℕ) → link_of_link text ≡ Some link → IsLinked text link
from_link text link is = of_path (path_of text) refl is
  where
    of_read : (path unit : List ℕ) (read : Result (List ℕ) EpcFault) → path_of text ≡ Some path → unit_at path ≡ Some unit → reading unit ≡ read → link_read read ≡ Some link
        → IsLinked text link
    of_read path unit (Ok key) there named r is =
        let spells = reading_from unit key r in
        let its = is_unit unit key link spells is in
        (key, inl (path, path_from path text there, at_from path key unit named spells its), subst (λ t. Spells t key) (sym (its_link key link its is)) (unit_spelled key its))
    of_read path unit (Err e) there named r is = cc

    of_unit : (path : List ℕ) (o : Option (List ℕ)) → path_of text ≡ Some path → unit_at path ≡ o → option_and_then (λ unit. link_read (reading unit)) o ≡ Some link
        → IsLinked text link
    of_unit path None there named is = cc
    of_unit path (Some unit) there named is = of_read path unit (reading unit) there named refl is

    of_path : (o : Option (List ℕ)) → path_of text ≡ o → option_and_then (λ unit. link_read (reading unit)) (option_and_then unit_at o) ≡ Some link → IsLinked text link
    of_path None there is = cc
    of_path (Some path) there is = of_unit path (unit_at path) there refl is

from_elements : (text link : List ℕ) → link_of_elements text ≡ Some link → IsLinked text link
from_elements text link is = of_bracket (behind (codes "(") text) refl is
  where
    of_unit : (rest : List ℕ) (es : List Element) (key : List ℕ) → text ≡ codes "(" ++ rest → IsWriting es text → link_of_key key ≡ Some link → NamesSgtin es key ⊎ NamesSscc es key → IsLinked text link
    of_unit rest es key bracket written is named =
        let its = unit_of_elements es key named in (
          key,
          inr (record { rest = rest; bracket = bracket; elements = es; written = written; named = named }),
          subst (λ t. Spells t key) (sym (its_link key link its is)) (unit_spelled key its),
        )

    -- a lot has none
    of_named : (rest : List ℕ) (es : List Element) (key : List ℕ) → text ≡ codes "(" ++ rest → IsWriting es text → link_of_key key ≡ Some link → Names es key → IsLinked text link
    of_named rest es key bracket written is (inl n) = of_unit rest es key bracket written is (inl n)
    of_named rest es key bracket written is (inr (inl n)) = of_unit rest es key bracket written is (inr n)
    of_named rest es key bracket written is (inr (inr n)) = let no = sym (ap link_of_key n.names) ∙ is in cc

    of_read : (rest : List ℕ) (read : Result (List ℕ) ScanFault) → text ≡ codes "(" ++ rest → scan_reading text ≡ read → link_read read ≡ Some link → IsLinked text link
    of_read rest (Ok key) bracket r is =
        let (es, written, named) = (scans_spell_items text key).0 r in
        of_named rest es key bracket written is named
    of_read rest (Err e) bracket r is = cc

    of_bracket : (o : Option (List ℕ)) → behind (codes "(") text ≡ o → option_and_then (λ _. link_read (scan_reading text)) o ≡ Some link → IsLinked text link
    of_bracket None front is = cc
    of_bracket (Some rest) front is = of_read rest (scan_reading text) (behind_some (codes "(") text rest front) refl is

pub are_units : LinksAreUnits
unfolding link_of
are_units text link is = by (link_of_link text) refl is
  where
    by : (o : Option (List ℕ)) → link_of_link text ≡ o → option_or o (link_of_elements text) ≡ Some link → IsLinked text link
    by None first is = from_elements text link is
    by (Some found) first is = from_link text link (first ∙ is)

-- ---- two units have two links

pub stay_apart : UnitsStayApart
stay_apart text other key another link n m is also =
    let one = become_links text key n in
    let two = become_links other another m in
    let same : item_text another ≡ item_text key = same_Some _ _ (sym two.0 ∙ also ∙ sym is ∙ one.0) in
    only_key (item_text key) key another one.1 (subst (λ t. Spells t another) same two.1)

-- ---- texts

units_become : (text key : List ℕ) → NamesUnit text key → spelled_item link_of (string text) ≡ string (item_text key)
units_become text key n = ap (λ (o : Option (List ℕ)). string (unwrap_or o text)) (become_link text key n)

others_stay : (text : List ℕ) → ((key : List ℕ) → NamesUnit text key → ⊥) → spelled_item link_of (string text) ≡ string text
others_stay text none = by (link_of text) refl
  where
    by : (o : Option (List ℕ)) → link_of text ≡ o → string (unwrap_or o text) ≡ string text
    by None is = refl
    by (Some link) is = let unit = are_units text link is in absurd (none unit.0 unit.1)

pub texts_are_linked : TextsAreLinked
texts_are_linked = record { units = units_become; others = others_stay }
