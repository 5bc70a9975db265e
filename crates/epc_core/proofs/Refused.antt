-- Which texts are refused, and by which fault.
use Rattle.std.proofs.Common.{◌≡◌, ℕ, ◌+◌, ◌<◌, ◌≤◌, zero, suc, Bool, true, false, not, List, [], ◌∷◌, length, take, Option, Some, None, option_map, Err, refl, sym, ap, ◌∙◌, subst, cond, eqb, ltb, position, arith}
use Rattle.std.specs.List.{list_all, position_from}
use Rattle.std.proofs.lemmas.Bool.{and_parts, and_from, eqb-true, eqb-false, ltb-true, ltb-false, eq-eqb, ne_eqb, lt-ltb, le-ltb}
use Rattle.std.proofs.lemmas.Option.{same_Some}
use Rattle.std.proofs.lemmas.Iterator.Adapters.{position_from-zero}
use Rattle.epc_core.specs.declared.items.EpcFault.{EpcFault}
use Rattle.epc_core.specs.declared.items.EpcFault.TheVariants.{Empty, TooLong, BadByte}
use Rattle.epc_core.specs.Items.{is_plain_byte}
use Rattle.epc_core.specs.Reading.{reading, fault_of}
use Rattle.epc_core.specs.Laws.{IsFirstBad, BadBytesAreRefused}
use Rattle.epc_core.proofs.Plain.{is_bad, reading_plain}

fault_from : (text : List ℕ) (fault : EpcFault) → reading text ≡ Err fault → fault_of text ≡ Some fault
unfolding reading
fault_from text fault h =
    by (fault_of text) refl
  where
    by : (o : Option EpcFault) → fault_of text ≡ o → o ≡ Some fault
    by None e = absurd (let plain = reading_plain text e in let no : ⊥ = cc in no)
    by (Some other) e = let refused : reading text ≡ Err other = rw e refl in let same : other ≡ fault = cc in ap Some same

fault_to : (text : List ℕ) (fault : EpcFault) → fault_of text ≡ Some fault → reading text ≡ Err fault
unfolding reading
fault_to text fault h = rw h refl

-- ---- the first bad byte

first_from : (i : ℕ) (xs : List ℕ) (place : ℕ) → position_from is_bad i xs ≡ Some place → (k : ℕ) × (place ≡ i + k) × IsFirstBad xs k
first_from i [] place h = absurd (let no : ⊥ = cc in no)
first_from i (x ∷ xs) place h =
    by (is_plain_byte x) refl h (first_from (i + 1) xs place)
  where
    by : (t : Bool) → is_plain_byte x ≡ t → cond (not t) (Some i) (position_from is_bad (i + 1) xs) ≡ Some place
        → (position_from is_bad (i + 1) xs ≡ Some place → (k : ℕ) × (place ≡ (i + 1) + k) × IsFirstBad xs k) → (k : ℕ) × (place ≡ i + k) × IsFirstBad (x ∷ xs) k
    by true e h tail =
        let (k, is, first) = tail h in
        let within = first.within in
        (suc k, omega arith, record { within = omega arith; bad = first.bad; before = and_from (is_plain_byte x) (list_all is_plain_byte (take k xs)) e first.before })
    by false e h tail =
        let same = same_Some i place h in
        (0, omega arith, record { within = omega arith; bad = e; before = refl })

first_to : (i : ℕ) (xs : List ℕ) (k : ℕ) → IsFirstBad xs k → position_from is_bad i xs ≡ Some (i + k)
first_to i [] k first = absurd (let within = first.within in let no : ⊥ = omega arith in no)
first_to i (x ∷ xs) zero first = rw first.bad (ap Some (omega arith))
first_to i (x ∷ xs) (suc k) first =
    let within = first.within in
    let parts = and_parts (is_plain_byte x) (list_all is_plain_byte (take k xs)) first.before in
    rw parts.0 (first_to (i + 1) xs k (record { within = omega arith; bad = first.bad; before = parts.1 }) ∙ ap Some (omega arith))

-- ---- the three faults

no_fault_in : (o : Option ℕ) (fault : EpcFault) → ((place : ℕ) → fault ≡ BadByte place → ⊥) → option_map {T = ℕ} {U = EpcFault} BadByte o ≡ Some fault → ⊥
no_fault_in None fault other h = let no : ⊥ = cc in no
no_fault_in (Some place) fault other h = other place (sym (same_Some (BadByte place) fault h))

pub empty_from : (text : List ℕ) → reading text ≡ Err Empty → length text ≡ 0
empty_from text h =
    by (eqb (length text) 0) refl (ltb 512 (length text)) (fault_from text Empty h)
  where
    by : (t : Bool) → eqb (length text) 0 ≡ t → (u : Bool) → cond t (Some Empty) (cond u (Some TooLong) (option_map BadByte (position is_bad text))) ≡ Some Empty → length text ≡ 0
    by true e u h = eqb-true _ _ e
    by false e true h = absurd (let no : ⊥ = cc in no)
    by false e false h = absurd (no_fault_in (position is_bad text) Empty (λ place q. let no : ⊥ = cc in no) h)

pub empty_to : (text : List ℕ) → length text ≡ 0 → reading text ≡ Err Empty
empty_to text e = fault_to text Empty (rw (eq-eqb (length text) 0 e) refl)

pub long_from : (text : List ℕ) → reading text ≡ Err TooLong → 512 < length text
long_from text h =
    by (eqb (length text) 0) (ltb 512 (length text)) refl (fault_from text TooLong h)
  where
    by : (t u : Bool) → ltb 512 (length text) ≡ u → cond t (Some Empty) (cond u (Some TooLong) (option_map BadByte (position is_bad text))) ≡ Some TooLong → 512 < length text
    by true u e h = absurd (let no : ⊥ = cc in no)
    by false true e h = ltb-true _ _ e
    by false false e h = absurd (no_fault_in (position is_bad text) TooLong (λ place q. let no : ⊥ = cc in no) h)

pub long_to : (text : List ℕ) → 512 < length text → reading text ≡ Err TooLong
long_to text h =
    let some : eqb (length text) 0 ≡ false = ne_eqb (length text) 0 (λ e. let no : ⊥ = omega arith in no) in
    fault_to text TooLong (rw (some, lt-ltb 512 (length text) h) refl)

bad_from : (text : List ℕ) (place : ℕ) → reading text ≡ Err (BadByte place) → (1 ≤ length text) × (length text ≤ 512) × IsFirstBad text place
bad_from text place h =
    by (eqb (length text) 0) refl (ltb 512 (length text)) refl (fault_from text (BadByte place) h)
  where
    at : (o : Option ℕ) → option_map {T = ℕ} {U = EpcFault} BadByte o ≡ Some (BadByte place) → o ≡ Some place
    at None h = absurd (let no : ⊥ = cc in no)
    at (Some k) h = let same : k ≡ place = cc in ap Some same

    by : (t : Bool) → eqb (length text) 0 ≡ t → (u : Bool) → ltb 512 (length text) ≡ u
        → cond t (Some Empty) (cond u (Some TooLong) (option_map BadByte (position is_bad text))) ≡ Some (BadByte place)
        → (1 ≤ length text) × (length text ≤ 512) × IsFirstBad text place
    by true e u f h = absurd (let no : ⊥ = cc in no)
    by false e true f h = absurd (let no : ⊥ = cc in no)
    by false e false f h =
        let filled = eqb-false _ _ e in
        let (k, is, first) = first_from 0 text place (sym (position_from-zero is_bad text) ∙ at (position is_bad text) h) in
        let same : k ≡ place = omega arith in
        (omega arith, ltb-false _ _ f, subst (IsFirstBad text) same first)

bad_to : (text : List ℕ) (place : ℕ) → 1 ≤ length text → length text ≤ 512 → IsFirstBad text place → reading text ≡ Err (BadByte place)
bad_to text place filled few first =
    let some : eqb (length text) 0 ≡ false = ne_eqb (length text) 0 (λ e. let no : ⊥ = omega arith in no) in
    let places : position is_bad text ≡ Some place = position_from-zero is_bad text ∙ (first_to 0 text place first ∙ ap Some (omega arith)) in
    fault_to text (BadByte place) (rw (some, le-ltb 512 (length text) few, places) refl)

pub bad_bytes : BadBytesAreRefused
bad_bytes text place = (bad_from text place, λ (filled, few, first). bad_to text place filled few first)
