-- The first element of a text, and how it is written.
use Rattle.std.proofs.Common.{◌≡◌, ◌≢◌, ◌⊎◌, inl, inr, ℕ, zero, suc, ◌≤◌, ◌<◌, Bool, true, false, not, ◌&&◌, List, [], ◌∷◌, ◌++◌, length, take, drop, Some, None, refl, sym, ap, ◌∙◌, subst, cond, eqb, leb, arith, length-append}
use Rattle.std.specs.List.{list_all}
use Rattle.std.specs.Option.{option_and_then}
use Rattle.std.proofs.lemmas.Bool.{true≢false, and_parts, and_from, leb-true, le-leb, eqb-true, eqb-false, cond-true}
use Rattle.std.proofs.lemmas.Bool.Decides.{nat_tests}
use Rattle.std.proofs.lemmas.List.{take-append-drop, length-take-le}
use Rattle.std.proofs.Math.Seq.{take-append_seam, drop-append_seam}
use Rattle.std.proofs.lemmas.Option.{cond_some, option_and_then_some}
use Rattle.epc_core.specs.Numbers.{is_digit}
use Rattle.item_spellings.specs.Elements.{Element, IsElement, first_two, ai_length, fixed_length, fits, is_value_byte}
use Rattle.item_spellings.specs.Reading.{opens, past, before, has_ai, ai_of, value_count, unseparated, value_of, closing_value, first_element}
use Rattle.item_spellings.specs.Writing.{lacks, Follows}
use Rattle.item_spellings.specs.declared.forms.Form.{Form}
use Rattle.item_spellings.specs.declared.forms.Form.TheVariants.{Bracketed, Carried}

-- ---- bytes

pub opened : (byte : ℕ) (text : List ℕ) → opens byte text ≡ true → text ≡ byte ∷ drop 1 text
opened byte [] h = absurd (true≢false (sym h))
opened byte (b ∷ bs) h = ap (λ c. c ∷ bs) (eqb-true b byte h)

pub past_other : (byte : ℕ) (text : List ℕ) → opens byte text ≡ false → past byte text ≡ text
past_other byte text h = rw h refl

before_le : (byte : ℕ) (text : List ℕ) → before byte text ≤ length text
before_le byte [] = omega arith
before_le byte (b ∷ bs) = by (eqb b byte) (before_le byte bs)
  where
    by : (t : Bool) → before byte bs ≤ length bs → cond t 0 (suc (before byte bs)) ≤ suc (length bs)
    by true h = omega arith
    by false h = omega (arith, h)

before_lacks : (byte : ℕ) (text : List ℕ) → lacks byte (take (before byte text) text) ≡ true
before_lacks byte [] = refl
before_lacks byte (b ∷ bs) = by (eqb b byte) refl (before_lacks byte bs)
  where
    by : (t : Bool) → eqb b byte ≡ t → lacks byte (take (before byte bs) bs) ≡ true → lacks byte (take (cond t 0 (suc (before byte bs))) (b ∷ bs)) ≡ true
    by true e h = refl
    by false e h = and_from (not (eqb b byte)) _ (ap not e) h

before_stops : (byte : ℕ) (text : List ℕ) → (drop (before byte text) text ≡ []) ⊎ (opens byte (drop (before byte text) text) ≡ true)
before_stops byte [] = inl refl
before_stops byte (b ∷ bs) = by (eqb b byte) refl (before_stops byte bs)
  where
    by : (t : Bool) → eqb b byte ≡ t → (drop (before byte bs) bs ≡ []) ⊎ (opens byte (drop (before byte bs) bs) ≡ true)
        → (drop (cond t 0 (suc (before byte bs))) (b ∷ bs) ≡ []) ⊎ (opens byte (drop (cond t 0 (suc (before byte bs))) (b ∷ bs)) ≡ true)
    by true e h = inr e
    by false e h = h

before_value : (byte : ℕ) (value rest : List ℕ) → lacks byte value ≡ true → before byte rest ≡ 0 → before byte (value ++ rest) ≡ length value
before_value byte [] rest h none = none
before_value byte (b ∷ bs) rest h none =
    let parts = and_parts (not (eqb b byte)) (lacks byte bs) h in
    by (eqb b byte) parts.0 (before_value byte bs rest parts.1 none)
  where
    by : (t : Bool) → not t ≡ true → before byte (bs ++ rest) ≡ length bs → cond t 0 (suc (before byte (bs ++ rest))) ≡ suc (length bs)
    by true gone h = absurd (true≢false (sym gone))
    by false _ h = ap suc h

pub before_opened : (byte : ℕ) (text : List ℕ) → (text ≡ []) ⊎ (opens byte text ≡ true) → before byte text ≡ 0
before_opened byte text (inl none) = ap (before byte) none
before_opened byte [] (inr is) = refl
before_opened byte (b ∷ bs) (inr is) = rw is refl

-- ---- the AI

least_two : (a b c : Bool) → 1 ≤ cond a 2 (cond b 3 (cond c 4 0)) → 2 ≤ cond a 2 (cond b 3 (cond c 4 0))
least_two true b c h = omega arith
least_two false true c h = omega arith
least_two false false true h = omega arith
least_two false false false h = absurd (omega (arith, h))

ai_has_two : (n : ℕ) → 1 ≤ ai_length n → 2 ≤ ai_length n
ai_has_two n h = least_two _ _ _ h

first_two_taken : (n : ℕ) (text : List ℕ) → 2 ≤ n → first_two (take n text) ≡ first_two text
first_two_taken zero text h = absurd (omega (arith, h))
first_two_taken (suc zero) text h = absurd (omega (arith, h))
first_two_taken (suc (suc n)) [] h = refl
first_two_taken (suc (suc n)) (b ∷ []) h = refl
first_two_taken (suc (suc n)) (b ∷ c ∷ bs) h = refl

first_two_more : (ai rest : List ℕ) → 0 < length ai → ai_length (first_two ai) ≡ length ai → first_two (ai ++ rest) ≡ first_two ai
first_two_more [] rest some counted = absurd (omega (arith, some))
first_two_more (b ∷ []) rest some counted = absurd (let no : ⊥ = omega (arith, counted) in no)
first_two_more (b ∷ c ∷ bs) rest some counted = refl

pub record IsAi (ai : List ℕ) : Type 0 where
  pub some : 0 < length ai
  pub counted : ai_length (first_two ai) ≡ length ai
  pub digits : list_all is_digit ai ≡ true

ai_found : (text ai rest : List ℕ) → ai_of text ≡ Some (ai, rest) → (text ≡ ai ++ rest) × IsAi ai
ai_found text ai rest h =
    let n = ai_length (first_two text) in
    let found = cond_some (has_ai n text) (take n text, drop n text) (ai, rest) h in
    let same : take n text ≡ ai = ap (λ p. p.0) found.1 in
    let behind_it : drop n text ≡ rest = ap (λ p. p.1) found.1 in
    let one = and_parts _ _ found.0 in
    let two = and_parts _ _ one.1 in
    let least = leb-true 1 n one.0 in
    let within = leb-true n (length text) two.0 in
    let counted : length ai ≡ n = ap length (sym same) ∙ length-take-le n text within in
    let begins : first_two ai ≡ first_two text = ap first_two (sym same) ∙ first_two_taken n text (ai_has_two (first_two text) least) in (
      sym (take-append-drop n text) ∙ (λ i. same i ++ behind_it i),
      record {
        some = omega (arith, least, counted);
        counted = ap ai_length begins ∙ sym counted;
        digits = subst (λ t. list_all is_digit t ≡ true) same two.1;
      },
    )

ai_finds : (ai rest : List ℕ) → IsAi ai → ai_of (ai ++ rest) ≡ Some (ai, rest)
ai_finds ai rest is =
    let begins = first_two_more ai rest is.some is.counted in
    let n : ai_length (first_two (ai ++ rest)) ≡ length ai = ap ai_length begins ∙ is.counted in
    let front = take-append_seam ai rest in
    let end = drop-append_seam ai rest in
    let long = length-append ai rest in
    let test : has_ai (length ai) (ai ++ rest) ≡ true =
    and_from _ _ (le-leb 1 (length ai) (omega (arith, is.some))) (and_from _ _ (le-leb (length ai) (length (ai ++ rest)) (omega (arith, long))) (ap (list_all is_digit) front ∙ is.digits))
    in
    ap (λ k. cond (has_ai k (ai ++ rest)) (Some (take k (ai ++ rest), drop k (ai ++ rest))) None) n
    ∙ (cond-true _ _ _ test ∙ (λ i. Some (front i, end i)))

-- ---- the value

-- how a value and what is behind it are written
abbrev pub ValueCut : Form → ℕ → List ℕ → List ℕ → List ℕ → Type 0
ValueCut Bracketed fixed value rest text = (text ≡ value ++ rest) × (lacks 40 value ≡ true)
ValueCut Carried fixed value rest text = (text ≡ value ++ (29 ∷ rest)) ⊎ ((text ≡ value ++ rest) × ((fixed ≢ 0) ⊎ (rest ≡ [])))

-- what may be behind it
abbrev pub Begins : Form → List ℕ → Type 0
Begins Bracketed rest = (rest ≡ []) ⊎ (opens 40 rest ≡ true)
Begins Carried rest = opens 29 rest ≡ false

cut_ends : (fixed : ℕ) (value text end : List ℕ) → text ≡ value ++ end → (fixed ≢ 0) ⊎ ((end ≡ []) ⊎ (opens 29 end ≡ true)) → ValueCut Carried fixed value (past 29 end) text
cut_ends fixed value text end is how =
    by (opens 29 end) refl
  where
    by : (t : Bool) → opens 29 end ≡ t → ValueCut Carried fixed value (past 29 end) text
    by true e =
        let gone : past 29 end ≡ drop 1 end = rw e refl in
        inl (is ∙ ap (λ t. value ++ t) (opened 29 end e ∙ ap (λ t. 29 ∷ t) (sym gone)))
    by false e =
        let stays = past_other 29 end e in
        inr (
          is ∙ ap (λ t. value ++ t) (sym stays),
          elim how [
            | inl some ↦ inl some
            | inr (inl none) ↦ inr (stays ∙ none)
            | inr (inr opens_it) ↦ absurd (true≢false (sym opens_it ∙ e))
          ],
        )

cut_here : (form : Form) (fixed : ℕ) (text : List ℕ) → ValueCut form fixed (take (value_count form fixed text) text) (unseparated form (drop (value_count form fixed text) text)) text
cut_here Bracketed fixed text = (sym (take-append-drop (before 40 text) text), before_lacks 40 text)
cut_here Carried fixed text =
    by (eqb fixed 0) refl
  where
    by : (t : Bool) → eqb fixed 0 ≡ t → ValueCut Carried fixed (take (cond t (before 29 text) fixed) text) (past 29 (drop (cond t (before 29 text) fixed) text)) text
    by true e = cut_ends fixed _ text _ (sym (take-append-drop (before 29 text) text)) (inr (before_stops 29 text))
    by false e = cut_ends fixed _ text _ (sym (take-append-drop fixed text)) (inl (eqb-false fixed 0 e))

value_found : (form : Form) (ai text rest : List ℕ) (e : Element) → value_of form ai text ≡ Some (e, rest)
    → (e.0 ≡ ai) × (fits (fixed_length (first_two ai)) e.1 ≡ true) × ValueCut form (fixed_length (first_two ai)) e.1 rest text
value_found form ai text rest e h =
    let n = value_count form (fixed_length (first_two ai)) text in
    let found = cond_some _ _ _ h in
    let test = and_parts _ _ found.0 in
    let same : (ai, take n text) ≡ e = ap (λ p. p.0) found.1 in
    let value : take n text ≡ e.1 = ap (λ p. p.1) same in
    let behind_it : unseparated form (drop n text) ≡ rest = ap (λ p. p.1) found.1 in (
      sym (ap (λ p. p.0) same),
      ap (fits (fixed_length (first_two ai))) (sym value) ∙ test.1,
      subst (λ v. ValueCut form (fixed_length (first_two ai)) v rest text) value
          (subst (λ r. ValueCut form (fixed_length (first_two ai)) (take n text) r text) behind_it (cut_here form (fixed_length (first_two ai)) text)),
    )

value_byte_not : (b : ℕ) → is_value_byte b ≡ true → not (eqb b 29) ≡ true
value_byte_not b h = grind (arith, nat_tests)

no_separator : (value : List ℕ) → list_all is_value_byte value ≡ true → lacks 29 value ≡ true
no_separator [] h = refl
no_separator (b ∷ bs) h = let parts = and_parts (is_value_byte b) (list_all is_value_byte bs) h in and_from _ _ (value_byte_not b parts.0) (no_separator bs parts.1)

carried_count : (fixed : ℕ) (value end : List ℕ) → fits fixed value ≡ true → (fixed ≢ 0) ⊎ ((end ≡ []) ⊎ (opens 29 end ≡ true)) → value_count Carried fixed (value ++ end) ≡ length value
carried_count fixed value end h how =
    by (eqb fixed 0) refl h
  where
    by : (t : Bool) → eqb fixed 0 ≡ t
        → cond t (leb 1 (length value) && (leb (length value) 90 && list_all is_value_byte value)) (eqb (length value) fixed && list_all is_digit value) ≡ true
        → cond t (before 29 (value ++ end)) fixed ≡ length value
    by true e h =
        let one = and_parts _ _ h in
        let two = and_parts _ _ one.1 in
        let none : before 29 end ≡ 0 = elim how [
          | inl some ↦ absurd (some (eqb-true fixed 0 e))
          | inr ends ↦ before_opened 29 end ends
        ] in
        before_value 29 value end (no_separator value two.1) none
    by false e h = sym (eqb-true (length value) fixed (and_parts _ _ h).0)

value_at : (form : Form) (ai value rest end : List ℕ) → fits (fixed_length (first_two ai)) value ≡ true
    → value_count form (fixed_length (first_two ai)) (value ++ end) ≡ length value → unseparated form end ≡ rest
    → value_of form ai (value ++ end) ≡ Some ((ai, value), rest)
value_at form ai value rest end h counted behind_it =
    let front = take-append_seam value end in
    let back = drop-append_seam value end in
    let long = length-append value end in
    let test : (leb (length value) (length (value ++ end)) && fits (fixed_length (first_two ai)) (take (length value) (value ++ end))) ≡ true =
    and_from _ _ (le-leb (length value) (length (value ++ end)) (omega (arith, long))) (ap (fits (fixed_length (first_two ai))) front ∙ h)
    in
    ap (λ k. cond (leb k (length (value ++ end)) && fits (fixed_length (first_two ai)) (take k (value ++ end))) (Some ((ai, take k (value ++ end)), unseparated form (drop k (value ++ end)))) None) counted
    ∙ (cond-true _ _ _ test ∙ ((λ i. Some ((ai, front i), unseparated form (back i))) ∙ ap (λ r. Some ((ai, value), r)) behind_it))

value_finds : (form : Form) (ai value rest text : List ℕ) → fits (fixed_length (first_two ai)) value ≡ true
    → ValueCut form (fixed_length (first_two ai)) value rest text → Begins form rest → value_of form ai text ≡ Some ((ai, value), rest)
value_finds Bracketed ai value rest text h cut begins =
    ap (value_of Bracketed ai) cut.0 ∙ value_at Bracketed ai value rest rest h (before_value 40 value rest cut.1 (before_opened 40 rest begins)) refl
value_finds Carried ai value rest text h (inl is) begins =
    ap (value_of Carried ai) is ∙ value_at Carried ai value rest (29 ∷ rest) h (carried_count (fixed_length (first_two ai)) value (29 ∷ rest) h (inr (inr refl))) refl
value_finds Carried ai value rest text h (inr (is, how)) begins =
    ap (value_of Carried ai) is
    ∙ value_at Carried ai value rest rest h (carried_count (fixed_length (first_two ai)) value rest h (elim how [ inl some ↦ inl some | inr none ↦ inr (inl none) ])) (past_other 29 rest begins)

-- ---- the first element

element_of : (ai : List ℕ) (e : Element) → IsAi ai → e.0 ≡ ai → fits (fixed_length (first_two ai)) e.1 ≡ true → IsElement e
element_of ai e is same fit = record {
  some = subst (λ a. 0 < length a) (sym same) is.some;
  counted = subst (λ a. ai_length (first_two a) ≡ length a) (sym same) is.counted;
  digits = subst (λ a. list_all is_digit a ≡ true) (sym same) is.digits;
  value = subst (λ a. fits (fixed_length (first_two a)) e.1 ≡ true) (sym same) fit;
}

carried_follows : (ai text behind_it rest : List ℕ) (e : Element) → text ≡ ai ++ behind_it → e.0 ≡ ai → ValueCut Carried (fixed_length (first_two ai)) e.1 rest behind_it
    → Follows Carried e rest text
carried_follows ai text behind_it rest e is same (inl cut) = inl (is ∙ (λ i. sym same i ++ cut i))
carried_follows ai text behind_it rest e is same (inr (cut, how)) =
    inr (is ∙ (λ i. sym same i ++ cut i), subst (λ a. (fixed_length (first_two a) ≢ 0) ⊎ (rest ≡ [])) (sym same) how)

pub found_follows : (form : Form) (text rest : List ℕ) (e : Element) → first_element form text ≡ Some (e, rest) → IsElement e × Follows form e rest text
found_follows Carried text rest e h =
    option_and_then_some _ (ai_of text) (e, rest) h (λ parts is h2.
    let ai = ai_found text parts.0 parts.1 is in
    let (same, fit, cut) = value_found Carried parts.0 parts.1 rest e h2 in
    (element_of parts.0 e ai.1 same fit, carried_follows parts.0 text parts.1 rest e ai.0 same cut))
found_follows Bracketed text rest e h =
    by (opens 40 text) refl h
  where
    closed : (ai behind_it : List ℕ) → text ≡ 40 ∷ (ai ++ behind_it) → IsAi ai → (t : Bool) → opens 41 behind_it ≡ t
        → cond t (value_of Bracketed ai (drop 1 behind_it)) None ≡ Some (e, rest) → IsElement e × Follows Bracketed e rest text
    closed ai behind_it is known false o h = absurd (let no : ⊥ = cc in no)
    closed ai behind_it is known true o h =
        let (same, fit, cut) = value_found Bracketed ai (drop 1 behind_it) rest e h in
        let whole : behind_it ≡ 41 ∷ (e.1 ++ rest) = opened 41 behind_it o ∙ ap (λ t. 41 ∷ t) cut.0 in
        (element_of ai e known same fit, (is ∙ (λ i. 40 ∷ (sym same i ++ whole i)), cut.1))

    by : (t : Bool) → opens 40 text ≡ t → cond t (option_and_then closing_value (ai_of (drop 1 text))) None ≡ Some (e, rest) → IsElement e × Follows Bracketed e rest text
    by false o h = absurd (let no : ⊥ = cc in no)
    by true o h =
        option_and_then_some closing_value (ai_of (drop 1 text)) (e, rest) h (λ parts is h2.
        let ai = ai_found (drop 1 text) parts.0 parts.1 is in
        closed parts.0 parts.1 (opened 40 text o ∙ ap (λ t. 40 ∷ t) ai.0) ai.1 (opens 41 parts.1) refl h2)

is_ai : (e : Element) → IsElement e → IsAi e.0
is_ai e is = record { some = is.some; counted = is.counted; digits = is.digits }

pub follows_found : (form : Form) (text rest : List ℕ) (e : Element) → IsElement e → Follows form e rest text → Begins form rest → first_element form text ≡ Some (e, rest)
follows_found Bracketed text rest e is (whole, lacking) begins =
    let ai = ai_finds e.0 (41 ∷ (e.1 ++ rest)) (is_ai e is) in
    ap (first_element Bracketed) whole ∙ rw ai (value_finds Bracketed e.0 e.1 rest (e.1 ++ rest) is.value (refl, lacking) begins)
follows_found Carried text rest e is (inl whole) begins =
    let ai = ai_finds e.0 (e.1 ++ (29 ∷ rest)) (is_ai e is) in
    ap (first_element Carried) whole ∙ rw ai (value_finds Carried e.0 e.1 rest (e.1 ++ (29 ∷ rest)) is.value (inl refl) begins)
follows_found Carried text rest e is (inr (whole, how)) begins =
    let ai = ai_finds e.0 (e.1 ++ rest) (is_ai e is) in
    ap (first_element Carried) whole ∙ rw ai (value_finds Carried e.0 e.1 rest (e.1 ++ rest) is.value (inr (refl, how)) begins)
