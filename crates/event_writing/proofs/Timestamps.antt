-- What a text of a time is read as lies in the range of timestamps.
use Rattle.std.proofs.Common.{◌≡◌, ℕ, ℤ, pos, neg_ℤ, ◌-ℤ◌, int_lt, ◌||◌, Bool, true, false, cond, List, Result, Ok, Err, refl, sym, ap, ◌∙◌, subst, arith}
use Rattle.std.proofs.lemmas.Int.{ints}
use Rattle.jiff_core.specs.Timestamp.{IsTimestampNanos, nanos_of_seconds}
use Rattle.jiff_core.specs.declared.error.Bound.TheVariants as bounds
use Rattle.jiff_core.specs.declared.error.Error.{Error}
use Rattle.jiff_core.specs.declared.error.Error.TheVariants as errors
use Rattle.jiff_core.specs.declared.error.Part.TheVariants as parts
use Rattle.jiff_fmt.specs.Offset.{to_offset}
use Rattle.jiff_fmt.specs.Reader.{◌>>=◌, or_err}
use Rattle.jiff_fmt.specs.Temporal.{DateTimeParts, full, instant, parse_timestamp, parts_nanos, temporal_datetime, to_timestamp}
use Rattle.event_json.specs.declared.doc_faults.DocField.TheVariants as fields
use Rattle.event_json.specs.declared.doc_faults.DocFaultKind.TheVariants as kinds
use Rattle.event_json.specs.declared.doc_faults.Flaw.{Flaw}
use Rattle.event_json.specs.Checks.{instant_of}

found_same : {A E : Type 0} (x y : A) → ◌≡◌ {A = Result A E} (Ok x) (Ok y) → x ≡ y
found_same x y e = cc

-- what was found before it, where a step was made
before : {A B : Type 0} (first : Result A Error) (rest : A → Result B Error) (y : B) → (first >>= rest) ≡ Ok y → (x : A) × (first ≡ Ok x) × (rest x ≡ Ok y)
before (Ok x) rest y is = (x, refl, is)
before (Err e) rest y is = absurd (let no : ⊥ = cc in no)

within : (z n : ℤ) → instant z ≡ Ok n → IsTimestampNanos n
within z n =
    by (int_lt z (neg_ℤ (pos 377_705_023_201_000_000_000)) || int_lt (pos 253_402_207_200_999_999_999) z) refl
  where
    by : (b : Bool) → (int_lt z (neg_ℤ (pos 377_705_023_201_000_000_000)) || int_lt (pos 253_402_207_200_999_999_999) z) ≡ b
        → cond b (Err (errors.Range bounds.UnixEpochSeconds)) (Ok z) ≡ Ok n → IsTimestampNanos n
    by true outside is = absurd (let no : ⊥ = cc in no)
    by false inside is =
        let range : IsTimestampNanos z = grind (arith, ints, inside) in
        subst IsTimestampNanos (found_same {E = Error} z n is) range

parts_within : (p : DateTimeParts) (n : ℤ) → to_timestamp p ≡ Ok n → IsTimestampNanos n
parts_within p n is =
    let time = before (or_err (errors.Missing parts.Time) p.time) _ n is in
    let offset = before (or_err (errors.Missing parts.Offset) p.offset) _ n time.2 in
    let seconds = before (to_offset offset.0) _ n offset.2 in
    within (parts_nanos p.date time.0 -ℤ nanos_of_seconds seconds.0) n seconds.2

text_within : (text : List ℕ) (n : ℤ) → parse_timestamp text ≡ Ok n → IsTimestampNanos n
text_within text n is = let found = before (full (temporal_datetime text)) to_timestamp n is in parts_within found.0 n found.2

pub instant_within : (text : List ℕ) (n : ℤ) → instant_of text ≡ Ok n → IsTimestampNanos n
unfolding instant_of
instant_within text n is =
    by (parse_timestamp text) refl
  where
    by : (r : Result ℤ Error) → parse_timestamp text ≡ r → IsTimestampNanos n
    by (Ok m) at =
        let same : instant_of text ≡ Ok m = rw at refl in
        text_within text n (at ∙ ap (λ k. Ok k) (found_same {E = Flaw} m n (sym same ∙ is)))
    by (Err e) at =
        let failed : instant_of text ≡ Err (record { field = fields.EventTime; kind = kinds.Time }) = rw at refl in
        absurd (let no : ⊥ = cc in no)
