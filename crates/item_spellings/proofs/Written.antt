-- What is read of a text is what it is written of.
use Rattle.std.proofs.Common.{◌≡◌, ◌⊎◌, inl, inr, ℕ, zero, suc, ◌≤◌, ◌<◌, Bool, true, false, List, [], ◌∷◌, ◌++◌, codes, length, drop, Option, Some, None, unwrap_or, refl, sym, ap, ◌∙◌, subst, cond, eqb, arith, length-append}
use Rattle.std.specs.List.{list_all}
use Rattle.std.proofs.lemmas.Bool.{and_parts}
use Rattle.std.proofs.lemmas.Bool.Decides.{nat_tests}
use Rattle.std.proofs.lemmas.List.{append_assoc}
use Rattle.std.proofs.lemmas.Option.{option_and_then_some, same_Some}
use Rattle.epc_core.specs.Numbers.{is_digit}
use Rattle.epc_core.proofs.Cuts.{behind_some}
use Rattle.epc_core.proofs.Spelled.{mapped_some, either_some}
use Rattle.item_spellings.specs.Elements.{Element, IsElement}
use Rattle.item_spellings.specs.Laws.{ReadsWhatIsWritten}
use Rattle.item_spellings.specs.Reading.{opens, past, first_element, elements_in, all_elements, unidentified, elements_of}
use Rattle.item_spellings.specs.Writing.{Follows, AreElements, IsIdentifier, IsFront, IsRaw, IsWriting}
use Rattle.item_spellings.specs.declared.forms.Form.{Form}
use Rattle.item_spellings.specs.declared.forms.Form.TheVariants.{Bracketed, Carried}
use Rattle.item_spellings.proofs.Cutting.{Begins, found_follows, follows_found, opened, past_other}

-- ---- elements of one form

read_written : (form : Form) (n : ℕ) (text : List ℕ) (es : List Element) → elements_in form n text ≡ Some es → AreElements form es text
read_written form n [] es h = subst (λ xs. AreElements form xs []) (same_Some _ _ h) refl
read_written form zero (b ∷ bs) es h = absurd (let no : ⊥ = cc in no)
read_written form (suc n) (b ∷ bs) es h =
    option_and_then_some _ (first_element form (b ∷ bs)) es h (λ found is h2.
    let (others, read, same) = mapped_some _ (elements_in form n found.1) es h2 in
    let first = found_follows form (b ∷ bs) found.1 found.0 is in
    subst (λ xs. AreElements form xs (b ∷ bs)) same (found.1, first.0, first.1, read_written form n found.1 others read))

digit_opens : (b : ℕ) → is_digit b ≡ true → (eqb b 29 ≡ false) × (eqb b 40 ≡ false) × (eqb b 93 ≡ false)
digit_opens b h = (
  let one : eqb b 29 ≡ false = grind (arith, nat_tests) in one,
  let two : eqb b 40 ≡ false = grind (arith, nat_tests) in two,
  let three : eqb b 93 ≡ false = grind (arith, nat_tests) in three,
)

-- text that begins with a digit, or is empty
abbrev plain_front : List ℕ → Type 0
plain_front text = (opens 29 text ≡ false) × (opens 40 text ≡ false) × (opens 93 text ≡ false)

ai_front : (ai rest : List ℕ) → 0 < length ai → list_all is_digit ai ≡ true → plain_front (ai ++ rest)
ai_front [] rest some digits = absurd (omega (arith, some))
ai_front (b ∷ bs) rest some digits = digit_opens b (and_parts (is_digit b) (list_all is_digit bs) digits).0

carried_front : (es : List Element) (text : List ℕ) → AreElements Carried es text → plain_front text
carried_front [] text is = subst plain_front (sym is) (refl, refl, refl)
carried_front (e ∷ es) text (rest, known, inl whole, others) = subst plain_front (sym whole) (ai_front e.0 _ known.some known.digits)
carried_front (e ∷ es) text (rest, known, inr (whole, how), others) = subst plain_front (sym whole) (ai_front e.0 _ known.some known.digits)

begins : (form : Form) (es : List Element) (text : List ℕ) → AreElements form es text → Begins form text
begins Carried es text is = (carried_front es text is).0
begins Bracketed [] text is = inl is
begins Bracketed (e ∷ es) text (rest, known, (whole, lacking), others) = inr (ap (opens 40) whole)

shorter : (form : Form) (e : Element) (rest text : List ℕ) → IsElement e → Follows form e rest text → length rest < length text
shorter Bracketed e rest text known (whole, lacking) =
    let some = known.some in
    let is = ap length whole in
    let one = length-append e.0 (41 ∷ (e.1 ++ rest)) in
    let two = length-append e.1 rest in
    omega (arith, some, is, one, two)
shorter Carried e rest text known (inl whole) =
    let some = known.some in
    let is = ap length whole in
    let one = length-append e.0 (e.1 ++ (29 ∷ rest)) in
    let two = length-append e.1 (29 ∷ rest) in
    omega (arith, some, is, one, two)
shorter Carried e rest text known (inr (whole, how)) =
    let some = known.some in
    let is = ap length whole in
    let one = length-append e.0 (e.1 ++ rest) in
    let two = length-append e.1 rest in
    omega (arith, some, is, one, two)

next_read : (form : Form) (n : ℕ) (text rest : List ℕ) (e : Element) (es : List Element) → length rest < length text → length text ≤ suc n
    → first_element form text ≡ Some (e, rest) → elements_in form n rest ≡ Some es → elements_in form (suc n) text ≡ Some (e ∷ es)
next_read form n [] rest e es less most is read = absurd (omega (arith, less))
next_read form n (b ∷ bs) rest e es less most is read = rw (is, read) refl

written_read : (form : Form) (n : ℕ) (es : List Element) (text : List ℕ) → length text ≤ n → AreElements form es text → elements_in form n text ≡ Some es
written_read form n [] text most is = ap (elements_in form n) is
written_read form zero (e ∷ es) text most (rest, known, follows, others) = absurd (let less = shorter form e rest text known follows in omega (arith, less, most))
written_read form (suc n) (e ∷ es) text most (rest, known, follows, others) =
    let less = shorter form e rest text known follows in
    next_read form n text rest e es less most (follows_found form text rest e known follows (begins form es rest others))
    (written_read form n es rest (omega (arith, less, most)) others)

-- ---- what stands in front

unidentified_some : (text rest : List ℕ) → unidentified text ≡ Some rest → (name : List ℕ) × IsIdentifier name × (text ≡ name ++ rest)
unidentified_some text rest h =
    elim (either_some _ _ rest h) [
      | inl e ↦ (codes "]d2", inl refl, behind_some (codes "]d2") text rest e)
      | inr g ↦ elim (either_some _ _ rest g) [
        | inl e ↦ (codes "]C1", inr (inl refl), behind_some (codes "]C1") text rest e)
        | inr k ↦ elim (either_some _ _ rest k) [
          | inl e ↦ (codes "]e0", inr (inr (inl refl)), behind_some (codes "]e0") text rest e)
          | inr l ↦ elim (either_some _ _ rest l) [
            | inl e ↦ (codes "]Q3", inr (inr (inr (inl refl))), behind_some (codes "]Q3") text rest e)
            | inr e ↦ (codes "]J1", inr (inr (inr (inr refl))), behind_some (codes "]J1") text rest e)
          ]
        ]
      ]
    ]

identified : (name rest : List ℕ) → IsIdentifier name → (unidentified (name ++ rest) ≡ Some rest) × (opens 40 (name ++ rest) ≡ false)
identified name rest (inl is) = subst (λ n. (unidentified (n ++ rest) ≡ Some rest) × (opens 40 (n ++ rest) ≡ false)) (sym is) (refl, refl)
identified name rest (inr (inl is)) = subst (λ n. (unidentified (n ++ rest) ≡ Some rest) × (opens 40 (n ++ rest) ≡ false)) (sym is) (refl, refl)
identified name rest (inr (inr (inl is))) = subst (λ n. (unidentified (n ++ rest) ≡ Some rest) × (opens 40 (n ++ rest) ≡ false)) (sym is) (refl, refl)
identified name rest (inr (inr (inr (inl is)))) = subst (λ n. (unidentified (n ++ rest) ≡ Some rest) × (opens 40 (n ++ rest) ≡ false)) (sym is) (refl, refl)
identified name rest (inr (inr (inr (inr is)))) = subst (λ n. (unidentified (n ++ rest) ≡ Some rest) × (opens 40 (n ++ rest) ≡ false)) (sym is) (refl, refl)

not_identified : (text : List ℕ) → opens 93 text ≡ false → unidentified text ≡ None
not_identified [] h = refl
not_identified (b ∷ bs) h = rw h refl

-- the text behind identifier and separator
abbrev bare : List ℕ → List ℕ
bare text = past 29 (unwrap_or (unidentified text) text)

separated : (name end rest : List ℕ) → (name ≡ []) ⊎ IsIdentifier name → (end ≡ []) ⊎ (end ≡ 29 ∷ []) → plain_front rest
    → (bare (name ++ (end ++ rest)) ≡ rest) × (opens 40 (name ++ (end ++ rest)) ≡ false)
separated name end rest known ended plain =
    by known
  where
    gone : past 29 (end ++ rest) ≡ rest
    gone = elim ended [
      | inl none ↦ ap (λ t. past 29 (t ++ rest)) none ∙ past_other 29 rest plain.0
      | inr one ↦ ap (λ t. past 29 (t ++ rest)) one
    ]

    apart : (opens 93 (end ++ rest) ≡ false) × (opens 40 (end ++ rest) ≡ false)
    apart = elim ended [
      | inl none ↦ subst (λ t. (opens 93 (t ++ rest) ≡ false) × (opens 40 (t ++ rest) ≡ false)) (sym none) (plain.2, plain.1)
      | inr one ↦ subst (λ t. (opens 93 (t ++ rest) ≡ false) × (opens 40 (t ++ rest) ≡ false)) (sym one) (refl, refl)
    ]

    by : (name ≡ []) ⊎ IsIdentifier name → (bare (name ++ (end ++ rest)) ≡ rest) × (opens 40 (name ++ (end ++ rest)) ≡ false)
    by (inl none) =
        subst (λ n. (bare (n ++ (end ++ rest)) ≡ rest) × (opens 40 (n ++ (end ++ rest)) ≡ false)) (sym none)
        (rw (not_identified (end ++ rest) apart.0) gone, apart.1)
    by (inr is) =
        let found = identified name (end ++ rest) is in
        (ap (λ o. past 29 (unwrap_or o (name ++ (end ++ rest)))) found.0 ∙ gone, found.1)

-- ---- both forms

raw_read : (es : List Element) (text : List ℕ) → IsRaw es text → elements_of text ≡ Some es
unfolding elements_of
raw_read es text raw =
    let plain = carried_front es raw.rest raw.carried in
    let front = raw.is_front in
    let (end, ended, parts) = ends front in
    let whole : text ≡ front.name ++ (end ++ raw.rest) = raw.is ∙ parts in
    let known = separated front.name end raw.rest front.known ended plain in
    let other : opens 40 text ≡ false = ap (opens 40) whole ∙ known.1 in
    let rest : bare text ≡ raw.rest = ap bare whole ∙ known.0 in
    rw other (ap (all_elements Carried) rest ∙ written_read Carried (length raw.rest) es raw.rest (omega arith) raw.carried)
  where
    ends : (front : IsFront raw.front) → (end : List ℕ) × ((end ≡ []) ⊎ (end ≡ 29 ∷ [])) × (raw.front ++ raw.rest ≡ front.name ++ (end ++ raw.rest))
    ends front = elim front.is [
      | inl same ↦ ([], inl refl, ap (λ t. t ++ raw.rest) same)
      | inr more ↦ (29 ∷ [], inr refl, ap (λ t. t ++ raw.rest) more ∙ append_assoc front.name (29 ∷ []) raw.rest)
    ]

bracketed_read : (es : List Element) (text : List ℕ) → AreElements Bracketed es text → elements_of text ≡ Some es
unfolding elements_of
bracketed_read [] text is = ap elements_of is
bracketed_read (e ∷ es) text is =
    let (rest, known, (whole, lacking), others) = is in
    let opening : opens 40 text ≡ true = ap (opens 40) whole in
    rw opening (written_read Bracketed (length text) (e ∷ es) text (omega arith) is)

-- what stands before the rest is a front
front_found : (text : List ℕ) (o : Option (List ℕ)) → unidentified text ≡ o → (front : List ℕ) × IsFront front × (text ≡ front ++ past 29 (unwrap_or o text))
front_found text o h =
    by o h
  where
    behind_name : (name rest : List ℕ) → (name ≡ []) ⊎ IsIdentifier name → text ≡ name ++ rest → (t : Bool) → opens 29 rest ≡ t
        → (front : List ℕ) × IsFront front × (text ≡ front ++ cond t (drop 1 rest) rest)
    behind_name name rest known is true e = (
      name ++ 29 ∷ [],
      record { name = name; known = known; is = inr refl },
      is ∙ (ap (λ t. name ++ t) (opened 29 rest e) ∙ sym (append_assoc name (29 ∷ []) (drop 1 rest))),
    )
    behind_name name rest known is false e = (name, record { name = name; known = known; is = inl refl }, is)

    by : (o : Option (List ℕ)) → unidentified text ≡ o → (front : List ℕ) × IsFront front × (text ≡ front ++ past 29 (unwrap_or o text))
    by None h = behind_name [] text (inl refl) refl (opens 29 text) refl
    by (Some rest) h = let (name, known, is) = unidentified_some text rest h in behind_name name rest (inr known) is (opens 29 rest) refl

read_is_written : (es : List Element) (text : List ℕ) → elements_of text ≡ Some es → IsWriting es text
unfolding elements_of
read_is_written es text h =
    by (opens 40 text) h
  where
    by : (t : Bool) → cond t (all_elements Bracketed text) (all_elements Carried (bare text)) ≡ Some es → IsWriting es text
    by true h = inl (read_written Bracketed (length text) text es h)
    by false h =
        let (front, known, is) = front_found text (unidentified text) refl in
        inr (record { front = front; rest = bare text; is_front = known; carried = read_written Carried (length (bare text)) (bare text) es h; is = is })

pub reads_what_is_written : ReadsWhatIsWritten
reads_what_is_written es text = (read_is_written es text, λ how. elim how [ inl is ↦ bracketed_read es text is | inr is ↦ raw_read es text is ])
