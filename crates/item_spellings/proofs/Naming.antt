-- Which item elements name, by the elements that there are.
use Rattle.std.proofs.Common.{◌≡◌, ◌⊎◌, inl, inr, ℕ, zero, suc, Bool, true, false, not, ◌||◌, cond, List, [], ◌∷◌, codes, Option, Some, None, Result, Ok, Err, refl, sym, ap, ◌∙◌, subst, arith}
use Rattle.std.specs.Prelude.{bytes_eq}
use Rattle.std.specs.List.{Contains}
use Rattle.std.proofs.lemmas.Bool.{true≢false, and_parts, and_from, cond-true}
use Rattle.std.proofs.lemmas.Option.{same_Some, none-some}
use Rattle.std.proofs.lemmas.Slice.Eq.{bytes_eq-Decides}
use Rattle.epc_core.specs.Items.{sgtin_key, sscc_key, uri_key}
use Rattle.epc_core.specs.Numbers.{is_checked}
use Rattle.epc_core.specs.Serials.{is_serial}
use Rattle.epc_core.proofs.Spelled.{checked_from, checked_to, serial_from, serial_to}
use Rattle.item_spellings.specs.Elements.{Element}
use Rattle.item_spellings.specs.Laws.{IsValue, Lacks, Agrees, Names, NamesLot, NamesSgtin, NamesSscc, ElementsNameItems, ScansSpellItems, OtherTextsAreRefused}
use Rattle.item_spellings.specs.Lots.{lot_text}
use Rattle.item_spellings.specs.Reading.{elements_of}
use Rattle.item_spellings.specs.Writing.{IsWriting}
use Rattle.item_spellings.specs.Scans.{look, all_have, only, lot_item, lot_named, sscc_item, sgtin_item, item_named, found_item, item_of, scan_reading}
use Rattle.item_spellings.specs.declared.faults.ScanFault.{ScanFault}
use Rattle.item_spellings.specs.declared.faults.ScanFault.TheVariants.{NoElements, Differing, CheckDigit, BadSerial, BadLot}
use Rattle.item_spellings.proofs.Written.{reads_what_is_written}

-- ---- lists

later : (e x : Element) (es : List Element) → Contains es x → Contains (e ∷ es) x
later e x es (k, low, is) = (suc k, omega (arith, low), is)

first_or_later : (e x : Element) (es : List Element) → Contains (e ∷ es) x → (e ≡ x) ⊎ Contains es x
first_or_later e x es (zero, low, is) = inl is
first_or_later e x es (suc k, low, is) = inr (k, omega (arith, low), is)

nothing_there : (x : Element) → Contains [] x → ⊥
nothing_there x (k, low, is) = omega (arith, low)

-- ---- the value of an AI

look_some : (ai value : List ℕ) (es : List Element) → look ai es ≡ Some value → Contains es (ai, value)
look_some ai value [] h = absurd (none-some value h)
look_some ai value (e ∷ es) h =
    by (bytes_eq e.0 ai) refl h (look_some ai value es)
  where
    by : (t : Bool) → bytes_eq e.0 ai ≡ t → cond t (Some e.1) (look ai es) ≡ Some value → (look ai es ≡ Some value → Contains es (ai, value)) → Contains (e ∷ es) (ai, value)
    by true same h rest = (0, omega arith, (λ i. ((bytes_eq-Decides e.0 ai).0 same i, same_Some _ _ h i)))
    by false other h rest = later e (ai, value) es (rest h)

look_none : (ai value : List ℕ) (es : List Element) → look ai es ≡ None → Contains es (ai, value) → ⊥
look_none ai value [] h there = nothing_there (ai, value) there
look_none ai value (e ∷ es) h there =
    by (bytes_eq e.0 ai) refl h (first_or_later e (ai, value) es there) (look_none ai value es)
  where
    by : (t : Bool) → bytes_eq e.0 ai ≡ t → cond t (Some e.1) (look ai es) ≡ None → (e ≡ (ai, value)) ⊎ Contains es (ai, value)
        → (look ai es ≡ None → Contains es (ai, value) → ⊥) → ⊥
    by true same h there rest = none-some _ (sym h)
    by false other h (inl is) rest = true≢false (sym ((bytes_eq-Decides e.0 ai).1 (ap (λ x. x.0) is)) ∙ other)
    by false other h (inr there) rest = rest h there

all_same : (ai value : List ℕ) (es : List Element) → ((other : List ℕ) → Contains es (ai, other) → other ≡ value) → all_have ai value es ≡ true
all_same ai value [] same = refl
all_same ai value (e ∷ es) same =
    and_from _ _ (by (bytes_eq e.0 ai) refl) (all_same ai value es (λ other there. same other (later e (ai, other) es there)))
  where
    by : (t : Bool) → bytes_eq e.0 ai ≡ t → (not t || bytes_eq e.1 value) ≡ true
    by false other = refl
    by true is = (bytes_eq-Decides e.1 value).1 (same e.1 (0, omega arith, (λ i. ((bytes_eq-Decides e.0 ai).0 is i, e.1))))

same_as_all : (ai value other : List ℕ) (es : List Element) → all_have ai value es ≡ true → Contains es (ai, other) → other ≡ value
same_as_all ai value other [] h there = absurd (nothing_there (ai, other) there)
same_as_all ai value other (e ∷ es) h there =
    let parts = and_parts (not (bytes_eq e.0 ai) || bytes_eq e.1 value) (all_have ai value es) h in
    by parts.0 parts.1 (first_or_later e (ai, other) es there) (same_as_all ai value other es)
  where
    here : (t : Bool) → bytes_eq e.0 ai ≡ t → (not t || bytes_eq e.1 value) ≡ true → e ≡ (ai, other) → other ≡ value
    here true same h is = sym (ap (λ x. x.1) is) ∙ (bytes_eq-Decides e.1 value).0 h
    here false apart h is = absurd (true≢false (sym ((bytes_eq-Decides e.0 ai).1 (ap (λ x. x.0) is)) ∙ apart))

    by : (not (bytes_eq e.0 ai) || bytes_eq e.1 value) ≡ true → all_have ai value es ≡ true → (e ≡ (ai, other)) ⊎ Contains es (ai, other)
        → (all_have ai value es ≡ true → Contains es (ai, other) → other ≡ value) → other ≡ value
    by first rest (inl is) among = here (bytes_eq e.0 ai) refl first is
    by first rest (inr there) among = among rest there

-- what is found under an AI
abbrev IsFound : List ℕ → Option (List ℕ) → List Element → Type 0
IsFound ai None es = Lacks ai es
IsFound ai (Some value) es = IsValue ai value es

only_to : (ai : List ℕ) (o : Option (List ℕ)) (es : List Element) → IsFound ai o es → only ai es ≡ Ok o
only_to ai None es lacks =
    by (look ai es) refl
  where
    by : (o : Option (List ℕ)) → look ai es ≡ o → only ai es ≡ Ok None
    by None e = rw e refl
    by (Some value) e = absurd (lacks value (look_some ai value es e))
only_to ai (Some value) es is =
    by (look ai es) refl
  where
    by : (o : Option (List ℕ)) → look ai es ≡ o → only ai es ≡ Ok (Some value)
    by None e = absurd (look_none ai value es e is.there)
    by (Some first) e =
        let same : first ≡ value = is.same first (look_some ai first es e) in
        let all : all_have ai first es ≡ true = ap (λ v. all_have ai v es) same ∙ all_same ai value es is.same in
        rw (e, all) (ap (λ v. Ok (Some v)) same)

same_Ok : {A E : Type 0} (x y : A) → ◌≡◌ {A = Result A E} (Ok x) (Ok y) → x ≡ y
same_Ok x y e = cc

only_from : (ai : List ℕ) (o : Option (List ℕ)) (es : List Element) → only ai es ≡ Ok o → IsFound ai o es
only_from ai o es h =
    by (look ai es) refl
  where
    found : (value : List ℕ) → look ai es ≡ Some value → (t : Bool) → all_have ai value es ≡ t → IsFound ai o es
    found value e true all =
        let whole : only ai es ≡ Ok (Some value) = rw (e, all) refl in
        subst (λ p. IsFound ai p es) (same_Ok _ _ (sym whole ∙ h)) (record { there = look_some ai value es e; same = λ other there. same_as_all ai value other es all there })
    found value e false all = absurd (let whole : only ai es ≡ Err Differing = rw (e, all) refl in let no : ⊥ = cc in no)

    by : (p : Option (List ℕ)) → look ai es ≡ p → IsFound ai o es
    by None e =
        let whole : only ai es ≡ Ok None = rw e refl in
        subst (λ p. IsFound ai p es) (same_Ok _ _ (sym whole ∙ h)) (λ value there. look_none ai value es e there)
    by (Some value) e = found value e (all_have ai value es) refl

found_agrees : (ai : List ℕ) (o : Option (List ℕ)) (es : List Element) → IsFound ai o es → Agrees ai es
found_agrees ai None es lacks value other there also = absurd (lacks value there)
found_agrees ai (Some first) es is value other there also = is.same value there ∙ sym (is.same other also)

agrees_found : (ai : List ℕ) (es : List Element) → Agrees ai es → (o : Option (List ℕ)) × IsFound ai o es
agrees_found ai es agrees =
    by (look ai es) refl
  where
    by : (o : Option (List ℕ)) → look ai es ≡ o → (p : Option (List ℕ)) × IsFound ai p es
    by None e = (None, λ value there. look_none ai value es e there)
    by (Some value) e = let there = look_some ai value es e in (Some value, record { there = there; same = λ other also. agrees other value also there })

-- ---- the item

sgtin_named : (es : List Element) (key : List ℕ) → NamesSgtin es key → item_of es ≡ Ok key
sgtin_named es key n =
    rw (only_to (codes "00") None es n.no_sscc, only_to (codes "01") (Some n.gtin) es n.gtin_is, only_to (codes "21") (Some n.serial) es n.serial_is)
    (rw (checked_to 14 n.gtin n.checked, serial_to n.serial n.allowed) (ap Ok (sym n.names)))

sscc_named : (es : List Element) (key : List ℕ) → NamesSscc es key → item_of es ≡ Ok key
sscc_named es key n =
    let (gtin, found_gtin) = agrees_found (codes "01") es n.gtin_agrees in
    let (serial, found_serial) = agrees_found (codes "21") es n.serial_agrees in
    rw (only_to (codes "00") (Some n.sscc) es n.sscc_is, only_to (codes "01") gtin es found_gtin, only_to (codes "21") serial es found_serial)
    (by gtin serial found_gtin found_serial ∙ (cond-true _ _ _ (checked_to 18 n.sscc n.checked) ∙ ap Ok (sym n.names)))
  where
    by : (gtin serial : Option (List ℕ)) → IsFound (codes "01") gtin es → IsFound (codes "21") serial es → item_named es (Some n.sscc) gtin serial ≡ sscc_item n.sscc
    by None serial f g = refl
    by (Some gtin) None f g = refl
    by (Some gtin) (Some serial) f g = absurd (elim n.no_other [ inl lacks ↦ lacks gtin f.there | inr lacks ↦ lacks serial g.there ])

lot_names : (es : List Element) (key : List ℕ) → NamesLot es key → item_of es ≡ Ok key
lot_names es key n =
    rw (only_to (codes "00") None es n.no_sscc, only_to (codes "01") (Some n.gtin) es n.gtin_is, only_to (codes "21") None es n.no_serial, only_to (codes "10") (Some n.lot) es n.lot_is)
    (rw (checked_to 14 n.gtin n.checked, serial_to n.lot n.allowed) (ap Ok (sym n.names)))

sscc_of : (sscc key : List ℕ) → sscc_item sscc ≡ Ok key → (is_checked 18 sscc ≡ true) × (key ≡ sscc_key sscc)
sscc_of sscc key h = by (is_checked 18 sscc) h
  where
    by : (t : Bool) → cond t (Ok (sscc_key sscc)) (Err CheckDigit) ≡ Ok key → (t ≡ true) × (key ≡ sscc_key sscc)
    by true e = (refl, sym (same_Ok _ _ e))
    by false e = absurd (let no : ⊥ = cc in no)

sgtin_of : (gtin serial key : List ℕ) → sgtin_item gtin serial ≡ Ok key → (is_checked 14 gtin ≡ true) × (is_serial serial ≡ true) × (key ≡ sgtin_key gtin serial)
sgtin_of gtin serial key h = by (is_checked 14 gtin) (is_serial serial) h
  where
    by : (t u : Bool) → cond t (cond u (Ok (sgtin_key gtin serial)) (Err BadSerial)) (Err CheckDigit) ≡ Ok key → (t ≡ true) × (u ≡ true) × (key ≡ sgtin_key gtin serial)
    by true true e = (refl, refl, sym (same_Ok _ _ e))
    by true false e = absurd (let no : ⊥ = cc in no)
    by false u e = absurd (let no : ⊥ = cc in no)

lot_of : (gtin lot key : List ℕ) → lot_item gtin lot ≡ Ok key → (is_checked 14 gtin ≡ true) × (is_serial lot ≡ true) × (key ≡ uri_key (lot_text gtin lot))
lot_of gtin lot key h = by (is_checked 14 gtin) (is_serial lot) h
  where
    by : (t u : Bool) → cond t (cond u (Ok (uri_key (lot_text gtin lot))) (Err BadLot)) (Err CheckDigit) ≡ Ok key → (t ≡ true) × (u ≡ true) × (key ≡ uri_key (lot_text gtin lot))
    by true true e = (refl, refl, sym (same_Ok _ _ e))
    by true false e = absurd (let no : ⊥ = cc in no)
    by false u e = absurd (let no : ⊥ = cc in no)

lot_found : (es : List Element) (gtin key : List ℕ) → IsFound (codes "00") None es → IsFound (codes "01") (Some gtin) es → IsFound (codes "21") None es → (r : Result (Option (List ℕ)) ScanFault) → only (codes "10") es ≡ r
    → lot_named gtin r ≡ Ok key → Names es key
lot_found es gtin key f g k (Err fault) e h = absurd (let no : ⊥ = cc in no)
lot_found es gtin key f g k (Ok None) e h = absurd (let no : ⊥ = cc in no)
lot_found es gtin key f g k (Ok (Some lot)) e h =
    let is = lot_of gtin lot key h in
    inr (inr (record { gtin = gtin; lot = lot; gtin_is = g; lot_is = only_from (codes "10") (Some lot) es e; no_sscc = f; no_serial = k; checked = checked_from 14 gtin is.0; allowed = serial_from lot is.1; names = is.2 }))

named_by : (es : List Element) (key : List ℕ) (sscc gtin serial : Option (List ℕ)) → IsFound (codes "00") sscc es → IsFound (codes "01") gtin es → IsFound (codes "21") serial es
    → item_named es sscc gtin serial ≡ Ok key → Names es key
named_by es key (Some sscc) (Some gtin) (Some serial) f g k h = absurd (let no : ⊥ = cc in no)
named_by es key (Some sscc) None serial f g k h =
    let is = sscc_of sscc key h in
    inr (inl (record { sscc = sscc; sscc_is = f; gtin_agrees = found_agrees (codes "01") None es g; serial_agrees = found_agrees (codes "21") serial es k; no_other = inl g; checked = checked_from 18 sscc is.0; names = is.1 }))
named_by es key (Some sscc) (Some gtin) None f g k h =
    let is = sscc_of sscc key h in
    inr (inl (record { sscc = sscc; sscc_is = f; gtin_agrees = found_agrees (codes "01") (Some gtin) es g; serial_agrees = found_agrees (codes "21") None es k; no_other = inr k; checked = checked_from 18 sscc is.0; names = is.1 }))
named_by es key None (Some gtin) (Some serial) f g k h =
    let is = sgtin_of gtin serial key h in
    inl (record { gtin = gtin; serial = serial; gtin_is = g; serial_is = k; no_sscc = f; checked = checked_from 14 gtin is.0; allowed = serial_from serial is.1; names = is.2 })
named_by es key None (Some gtin) None f g k h = lot_found es gtin key f g k (only (codes "10") es) refl h
named_by es key None None serial f g k h = absurd (let no : ⊥ = cc in no)

item_is_named : (es : List Element) (key : List ℕ) → item_of es ≡ Ok key → Names es key
item_is_named es key h =
    by (only (codes "00") es) (only (codes "01") es) (only (codes "21") es) refl refl refl h
  where
    by : (a b c : Result (Option (List ℕ)) ScanFault) → only (codes "00") es ≡ a → only (codes "01") es ≡ b → only (codes "21") es ≡ c → found_item es a b c ≡ Ok key
        → Names es key
    by (Err fault) b c x y z h = absurd (let no : ⊥ = cc in no)
    by (Ok sscc) (Err fault) c x y z h = absurd (let no : ⊥ = cc in no)
    by (Ok sscc) (Ok gtin) (Err fault) x y z h = absurd (let no : ⊥ = cc in no)
    by (Ok sscc) (Ok gtin) (Ok serial) x y z h = named_by es key sscc gtin serial (only_from (codes "00") sscc es x) (only_from (codes "01") gtin es y) (only_from (codes "21") serial es z) h

pub elements_name_items : ElementsNameItems
elements_name_items es key = (item_is_named es key, λ how. elim how [ inl n ↦ sgtin_named es key n | inr m ↦ elim m [ inl n ↦ sscc_named es key n | inr n ↦ lot_names es key n ] ])

-- ---- a whole text

pub scans_spell_items : ScansSpellItems
unfolding scan_reading
scans_spell_items text key = (by (elements_of text) refl, λ (es, written, named). let e = (reads_what_is_written es text).1 written in rw e ((elements_name_items es key).1 named))
  where
    by : (o : Option (List Element)) → elements_of text ≡ o → scan_reading text ≡ Ok key → (es : List Element) × IsWriting es text × (Names es key)
    by None e h = absurd (let whole : scan_reading text ≡ Err NoElements = rw e refl in let no : ⊥ = cc in no)
    by (Some es) e h = let whole : scan_reading text ≡ item_of es = rw e refl in (es, (reads_what_is_written es text).0 e, (elements_name_items es key).0 (sym whole ∙ h))

only_differs : (ai : List ℕ) (es : List Element) (fault : ScanFault) → only ai es ≡ Err fault → fault ≡ Differing
only_differs ai es fault h =
    by (look ai es) refl
  where
    found : (value : List ℕ) → look ai es ≡ Some value → (t : Bool) → all_have ai value es ≡ t → fault ≡ Differing
    found value e true all = absurd (let whole : only ai es ≡ Ok (Some value) = rw (e, all) refl in let no : ⊥ = cc in no)
    found value e false all = let whole : only ai es ≡ Err Differing = rw (e, all) refl in cc

    by : (p : Option (List ℕ)) → look ai es ≡ p → fault ≡ Differing
    by None e = absurd (let whole : only ai es ≡ Ok None = rw e refl in let no : ⊥ = cc in no)
    by (Some value) e = found value e (all_have ai value es) refl

sscc_has : (sscc : List ℕ) → sscc_item sscc ≡ Err NoElements → ⊥
sscc_has sscc h = by (is_checked 18 sscc) h
  where
    by : (t : Bool) → cond t (Ok (sscc_key sscc)) (Err CheckDigit) ≡ Err NoElements → ⊥
    by true e = cc
    by false e = cc

sgtin_has : (gtin serial : List ℕ) → sgtin_item gtin serial ≡ Err NoElements → ⊥
sgtin_has gtin serial h = by (is_checked 14 gtin) (is_serial serial) h
  where
    by : (t u : Bool) → cond t (cond u (Ok (sgtin_key gtin serial)) (Err BadSerial)) (Err CheckDigit) ≡ Err NoElements → ⊥
    by true true e = cc
    by true false e = cc
    by false u e = cc

differs_not : (fault : ScanFault) → fault ≡ Differing → ◌≡◌ {A = Result (List ℕ) ScanFault} (Err fault) (Err NoElements) → ⊥
differs_not fault is h = cc

lot_has : (gtin lot : List ℕ) → lot_item gtin lot ≡ Err NoElements → ⊥
lot_has gtin lot h = by (is_checked 14 gtin) (is_serial lot) h
  where
    by : (t u : Bool) → cond t (cond u (Ok (uri_key (lot_text gtin lot))) (Err BadLot)) (Err CheckDigit) ≡ Err NoElements → ⊥
    by true true e = cc
    by true false e = cc
    by false u e = cc

lot_named_has : (es : List Element) (gtin : List ℕ) (r : Result (Option (List ℕ)) ScanFault) → only (codes "10") es ≡ r → lot_named gtin r ≡ Err NoElements → ⊥
lot_named_has es gtin (Err fault) e h = differs_not fault (only_differs (codes "10") es fault e) h
lot_named_has es gtin (Ok None) e h = cc
lot_named_has es gtin (Ok (Some lot)) e h = lot_has gtin lot h

named_has : (es : List Element) (sscc gtin serial : Option (List ℕ)) → item_named es sscc gtin serial ≡ Err NoElements → ⊥
named_has es (Some sscc) (Some gtin) (Some serial) h = cc
named_has es (Some sscc) None serial h = sscc_has sscc h
named_has es (Some sscc) (Some gtin) None h = sscc_has sscc h
named_has es None (Some gtin) (Some serial) h = sgtin_has gtin serial h
named_has es None (Some gtin) None h = lot_named_has es gtin (only (codes "10") es) refl h
named_has es None None serial h = cc

item_has : (es : List Element) → item_of es ≡ Err NoElements → ⊥
item_has es h =
    by (only (codes "00") es) (only (codes "01") es) (only (codes "21") es) refl refl refl h
  where
    by : (a b c : Result (Option (List ℕ)) ScanFault) → only (codes "00") es ≡ a → only (codes "01") es ≡ b → only (codes "21") es ≡ c → found_item es a b c ≡ Err NoElements → ⊥
    by (Err fault) b c x y z h = differs_not fault (only_differs (codes "00") es fault x) h
    by (Ok sscc) (Err fault) c x y z h = differs_not fault (only_differs (codes "01") es fault y) h
    by (Ok sscc) (Ok gtin) (Err fault) x y z h = differs_not fault (only_differs (codes "21") es fault z) h
    by (Ok sscc) (Ok gtin) (Ok serial) x y z h = named_has es sscc gtin serial h

pub other_texts_are_refused : OtherTextsAreRefused
unfolding scan_reading
other_texts_are_refused text = (λ h. from (elements_of text) refl h, to (elements_of text) refl)
  where
    from : (o : Option (List Element)) → elements_of text ≡ o → scan_reading text ≡ Err NoElements → (es : List Element) → IsWriting es text → ⊥
    from None e h es written = none-some es (sym e ∙ (reads_what_is_written es text).1 written)
    from (Some found) e h es written = item_has found (let whole : scan_reading text ≡ item_of found = rw e refl in sym whole ∙ h)

    to : (o : Option (List Element)) → elements_of text ≡ o → ((es : List Element) → IsWriting es text → ⊥) → scan_reading text ≡ Err NoElements
    to None e none = rw e refl
    to (Some es) e none = absurd (none es ((reads_what_is_written es text).0 e))
