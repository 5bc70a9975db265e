-- The offsets of a clock, by their bytes.
use Rattle.std.proofs.Common.{◌≡◌, ◌⊎◌, inl, inr, ℕ, zero, suc, ◌+◌, ◌-◌, ◌*◌, ◌<◌, ◌≤◌, Bool, true, false, cond, ◌||◌, List, [], ◌∷◌, eqb, leb, ltb, length, Ok, Err, Result, refl, sym, ◌∙◌, subst, arith}
use Rattle.std.specs.Prelude.{⊤, slice_index}
use Rattle.std.proofs.lemmas.Bool.{true≢false, and_parts, and_from, or_cases, leb-true, le-leb, ltb-true, lt-ltb, eqb-true}
use Rattle.event_json.specs.declared.doc_faults.DocField.TheVariants as fields
use Rattle.event_json.specs.declared.doc_faults.DocFaultKind.TheVariants as kinds
use Rattle.event_json.specs.declared.doc_faults.Flaw.{Flaw}
use Rattle.event_json.specs.Checks.{is_number_below, is_offset, offset_checked}
use Rattle.event_json.specs.Laws.{IsOffsetText, OffsetsAreThese}

-- two digits, and the number that they stand for
abbrev IsNumber : ℕ → ℕ → ℕ → Type 0
IsNumber limit tens ones = (t : ℕ) × (o : ℕ) × (tens ≡ 48 + t) × (ones ≡ 48 + o) × (t ≤ 9) × (o ≤ 9) × (t * 10 + o < limit)

number_below : (limit tens ones : ℕ) → is_number_below limit tens ones ≡ true → IsNumber limit tens ones
number_below limit tens ones h =
    let a = and_parts _ (ltb ((tens - 48) * 10 + (ones - 48)) limit) h in
    let b = and_parts _ (leb ones 57) a.0 in
    let c = and_parts _ (leb 48 ones) b.0 in
    let d = and_parts (leb 48 tens) (leb tens 57) c.0 in
    let t1 = leb-true 48 tens d.0 in
    let t2 = leb-true tens 57 d.1 in
    let o1 = leb-true 48 ones c.1 in
    let o2 = leb-true ones 57 b.1 in
    let low = ltb-true _ _ a.1 in
    (tens - 48, ones - 48, omega (arith, t1), omega (arith, o1), omega (arith, t2), omega (arith, o2), low)

below_number : (limit t o : ℕ) → t ≤ 9 → o ≤ 9 → t * 10 + o < limit → is_number_below limit (48 + t) (48 + o) ≡ true
below_number limit t o le_t le_o low =
    and_from _ _ (and_from _ _ (and_from _ _ (and_from _ _ (le-leb 48 (48 + t) (omega arith)) (le-leb (48 + t) 57 (omega arith))) (le-leb 48 (48 + o) (omega arith))) (le-leb (48 + o) 57 (omega arith)))
    (lt-ltb ((48 + t - 48) * 10 + (48 + o - 48)) limit (omega (arith, low)))

six : (text : List ℕ) → eqb (length text) 6 ≡ true → (a b c d e f : ℕ) × (text ≡ a ∷ b ∷ c ∷ d ∷ e ∷ f ∷ [])
six [] h = absurd (true≢false (sym h))
six (a ∷ []) h = absurd (true≢false (sym h))
six (a ∷ b ∷ []) h = absurd (true≢false (sym h))
six (a ∷ b ∷ c ∷ []) h = absurd (true≢false (sym h))
six (a ∷ b ∷ c ∷ d ∷ []) h = absurd (true≢false (sym h))
six (a ∷ b ∷ c ∷ d ∷ e ∷ []) h = absurd (true≢false (sym h))
six (a ∷ b ∷ c ∷ d ∷ e ∷ f ∷ []) h = (a, b, c, d, e, f, refl)
six (a ∷ b ∷ c ∷ d ∷ e ∷ f ∷ g ∷ rest) h = absurd (let no : suc (suc (suc (suc (suc (suc (suc (length rest))))))) ≡ 6 = eqb-true _ _ h in omega (arith, no))

sign_of : (a : ℕ) → (eqb a 43 || eqb a 45) ≡ true → (a ≡ 43) ⊎ (a ≡ 45)
sign_of a h = elim (or_cases (eqb a 43) (eqb a 45) h) [
  | inl plus ↦ inl (eqb-true a 43 plus)
  | inr minus ↦ inr (eqb-true a 45 minus)
]

hours_to : (t o : ℕ) → t ≤ 9 → o ≤ 9 → t * 10 + o < 15 → ((t ≡ 0) × (o ≤ 9)) ⊎ ((t ≡ 1) × (o ≤ 4))
hours_to zero o le_t le_o low = inl (refl, le_o)
hours_to (suc zero) o le_t le_o low = inr (refl, omega (arith, low))
hours_to (suc (suc t)) o le_t le_o low = absurd (omega (arith, low))

text_from : (text : List ℕ) → is_offset text ≡ true → IsOffsetText text
unfolding is_offset
text_from text h =
    let m = and_parts _ (is_number_below 60 (slice_index text 4) (slice_index text 5)) h in
    let c = and_parts _ (eqb (slice_index text 3) 58) m.0 in
    let hs = and_parts _ (is_number_below 15 (slice_index text 1) (slice_index text 2)) c.0 in
    let s = and_parts (eqb (length text) 6) (eqb (slice_index text 0) 43 || eqb (slice_index text 0) 45) hs.0 in
    let (a, b, c2, d, e, f, is) = six text s.0 in
    let sign : (a ≡ 43) ⊎ (a ≡ 45) = sign_of a (subst (λ (l : List ℕ). (eqb (slice_index l 0) 43 || eqb (slice_index l 0) 45) ≡ true) is s.1) in
    let colon : d ≡ 58 = eqb-true d 58 (subst (λ (l : List ℕ). eqb (slice_index l 3) 58 ≡ true) is c.1) in
    let hour = number_below 15 b c2 (subst (λ (l : List ℕ). is_number_below 15 (slice_index l 1) (slice_index l 2) ≡ true) is hs.1) in
    let minute = number_below 60 e f (subst (λ (l : List ℕ). is_number_below 60 (slice_index l 4) (slice_index l 5) ≡ true) is m.1) in
    record {
      sign = a;
      tens = hour.0;
      hours = hour.1;
      ten_minutes = minute.0;
      minutes = minute.1;
      bytes = is ∙ all_same a b c2 d e f hour.0 hour.1 minute.0 minute.1 hour.2 hour.3 colon minute.2 minute.3;
      signed = sign;
      to_14 = hours_to hour.0 hour.1 hour.4 hour.5 hour.6;
      to_59 = (let low = minute.6 in omega (arith, low), minute.5);
    }
  where
    all_same : (a b c d e f t o u p : ℕ) → b ≡ 48 + t → c ≡ 48 + o → d ≡ 58 → e ≡ 48 + u → f ≡ 48 + p
        → a ∷ b ∷ c ∷ d ∷ e ∷ f ∷ [] ≡ a ∷ (48 + t) ∷ (48 + o) ∷ 58 ∷ (48 + u) ∷ (48 + p) ∷ []
    all_same a b c d e f t o u p hb hc hd he hf = cc

sign_to : (a : ℕ) → (a ≡ 43) ⊎ (a ≡ 45) → (eqb a 43 || eqb a 45) ≡ true
sign_to a (inl plus) = subst (λ (n : ℕ). (eqb n 43 || eqb n 45) ≡ true) (sym plus) refl
sign_to a (inr minus) = subst (λ (n : ℕ). (eqb n 43 || eqb n 45) ≡ true) (sym minus) refl

hours_from : (t o : ℕ) → ((t ≡ 0) × (o ≤ 9)) ⊎ ((t ≡ 1) × (o ≤ 4)) → is_number_below 15 (48 + t) (48 + o) ≡ true
hours_from t o (inl (is, le)) = below_number 15 t o (omega (arith, is)) le (omega (arith, is, le))
hours_from t o (inr (is, le)) = below_number 15 t o (omega (arith, is)) (omega (arith, le)) (omega (arith, is, le))

text_to : (text : List ℕ) → IsOffsetText text → is_offset text ≡ true
unfolding is_offset
text_to text is = subst (λ (l : List ℕ). is_offset l ≡ true) (sym is.bytes)
    (and_from _ _ (and_from _ _ (and_from _ _ (sign_to is.sign is.signed) (hours_from is.tens is.hours is.to_14)) refl)
    (let few = is.to_59.0 in let one = is.to_59.1 in below_number 60 is.ten_minutes is.minutes (omega (arith, few)) one (omega (arith, few, one))))

pub offsets_are_these : OffsetsAreThese
unfolding offset_checked
offsets_are_these text = by (is_offset text) (text_from text) (text_to text)
  where
    flaw : Flaw
    flaw = record { field = fields.EventTimeZoneOffset; kind = kinds.Offset }

    by : (b : Bool) → (b ≡ true → IsOffsetText text) → (IsOffsetText text → b ≡ true)
        → ((◌≡◌ {A = Result ⊤ Flaw} (cond b (Ok tt) (Err flaw)) (Ok tt) → IsOffsetText text) × (IsOffsetText text → ◌≡◌ {A = Result ⊤ Flaw} (cond b (Ok tt) (Err flaw)) (Ok tt)))
        × ((◌≡◌ {A = Result ⊤ Flaw} (cond b (Ok tt) (Err flaw)) (Err flaw) → ¬ IsOffsetText text) × ((¬ IsOffsetText text) → ◌≡◌ {A = Result ⊤ Flaw} (cond b (Ok tt) (Err flaw)) (Err flaw)))
    by true from to = ((λ h. from refl, λ is. refl), (λ h. absurd (let no : ⊥ = cc in no), λ none. absurd (none (from refl))))
    by false from to = ((λ h. absurd (let no : ⊥ = cc in no), λ is. absurd (true≢false (sym (to is)))), (λ h. λ is. true≢false (sym (to is)), λ none. refl))
