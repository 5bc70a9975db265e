-- The text of a time is plain, and is read as its instant.
use Rattle.std.proofs.Common.{◌≡◌, inl, inr, ℕ, ℤ, zero, suc, pos, negsuc, ◌+◌, ◌+ℤ◌, ◌-◌, ◌/◌, ◌%◌, ◌<◌, ◌≤◌, ◌==◌, true, false, List, [], ◌∷◌, ◌++◌, length, Option, Some, None, IfSome, IsSome, ◌↔◌, Ok, refl, sym, ap, ◌∙◌, subst, arith, codes, append_assoc, append-nil}
use mathlib.Core.Bool.{false≢true}
use Rattle.std.proofs.lemmas.Bool.{cases_Bool}
use Rattle.std.proofs.lemmas.Bool.Decides.{nat_tests}
use Rattle.std.proofs.lemmas.List.{length-append}
use Rattle.std.proofs.lemmas.List.Folds.{list_all-append}
use Rattle.std.specs.Char.{is_ascii_digit}
use Rattle.std.specs.List.{list_all, prefix_len}
use Rattle.jiff_core.specs.Calendar.{IsYear}
use Rattle.jiff_core.specs.DateTime.{civil_nanos}
use Rattle.jiff_core.specs.Timestamp.{nanos_of_seconds}
use Rattle.jiff_core.specs.declared.civil.date.Date.{Date}
use Rattle.jiff_core.specs.declared.civil.datetime.DateTime.{DateTime}
use Rattle.jiff_core.specs.declared.civil.time.Time.{Time}
use Rattle.jiff_core.specs.declared.timestamp.Timestamp.{Timestamp}
use Rattle.jiff_core.proofs.CalendarLemmas.{days_in_month_bounds}
use Rattle.jiff_core.proofs.SignedLemmas.{signed_arith}
use Rattle.jiff_fmt.specs.Text.{date_text, fraction_part, pad2, pad4, places, significant, time_text, trailing_zeros, year_text}
use Rattle.jiff_fmt.proofs.RoundTrip.{parse_timestamp-text}
use Rattle.jiff_fmt.proofs.TextLemmas.{places-read, significant-not_zero}
use Rattle.jiff.specs.Words.{iso_datetime_text}
use Rattle.epc_core.specs.Items.{is_plain_byte}
use Rattle.epc_core.specs.Spellings.{IsPlain}
use Rattle.event_json.specs.Checks.{instant_of}
use Rattle.report_core.specs.EventTimes.{IsTimeText, TellsTime}

-- at most so many bytes, each of them plain
abbrev AreFew : ℕ → List ℕ → Type 0
AreFew n text = (length text ≤ n) × (list_all is_plain_byte text ≡ true)

plain_byte : (b : ℕ) → 33 ≤ b → b < 127 → is_plain_byte b ≡ true
plain_byte b low high = grind (arith, nat_tests)

-- one text behind another
joined : (n m : ℕ) (xs ys : List ℕ) → AreFew n xs → AreFew m ys → AreFew (n + m) (xs ++ ys)
joined n m xs ys (few, plain) (few', plain') = (omega (arith, length-append xs ys, few, few'), rw (list_all-append is_plain_byte xs ys, plain, plain'))

-- two digits
pair_few : (n : ℕ) → n < 100 → AreFew 2 (pad2 n)
pair_few n small =
    let tens = plain_byte (48 + n / 10) (omega arith) (omega arith) in
    let ones = plain_byte (48 + n % 10) (omega arith) (omega arith) in
    (omega arith, rw (tens, ones))

-- four of them
four_few : (n : ℕ) → n < 10_000 → AreFew 4 (pad4 n)
four_few n small = joined 2 2 (pad2 (n / 100)) (pad2 (n % 100)) (pair_few (n / 100) (omega arith)) (pair_few (n % 100) (omega arith))

year_few : (y : ℤ) → IsYear y → AreFew 7 (year_text y)
year_few (pos n) h =
    let four = four_few n (omega (arith, signed_arith, h.0, h.1)) in
    (omega (arith, four.0), four.1)
year_few (negsuc n) h = joined 3 4 (codes "-00") (pad4 (suc n)) (omega arith, refl) (four_few (suc n) (omega (arith, signed_arith, h.0, h.1)))

-- a text of digits
digits_plain : (xs : List ℕ) → prefix_len is_ascii_digit xs ≡ length xs → list_all is_plain_byte xs ≡ true
digits_plain [] h = refl
digits_plain (x ∷ xs) h = elim (cases_Bool (is_ascii_digit x)) [
  | inl digit ↦
      let count : 1 + prefix_len is_ascii_digit xs ≡ length (x ∷ xs) = rw digit at h in
      let plain : is_plain_byte x ≡ true = grind (arith, nat_tests, digit) in
      rw (plain, digits_plain xs (omega (arith, count)))
  | inr other ↦
      let count : 0 ≡ length (x ∷ xs) = rw other at h in
      absurd (omega (arith, count))
]

-- the decimals of a second
fraction_few : (n : ℕ) → n < 1_000_000_000 → AreFew 10 (fraction_part None n)
fraction_few zero small = (omega arith, refl)
fraction_few (suc n) small =
    let not_zero : suc n ≡ 0 → ⊥ = λ e. omega arith in
    let k = significant (suc n) in
    let is : k ≡ 9 - trailing_zeros 8 (suc n) = significant-not_zero (suc n) not_zero in
    let facts = places-read k 9 (suc n) [] (omega (arith, is)) small in
    let text = places k 1_000_000_000 (suc n) in
    let all : prefix_len is_ascii_digit text ≡ length text = omega (arith, subst (λ xs. prefix_len is_ascii_digit xs ≡ k + 0) (append-nil text) facts.0, facts.1) in
    let few : AreFew 9 text = (omega (arith, facts.1, is), digits_plain text all) in
    let zero_test : (suc n == 0) ≡ false = grind (arith, nat_tests) in
    let part : fraction_part None (suc n) ≡ 46 ∷ text = rw zero_test in
    subst (AreFew 10) (sym part) (joined 1 9 (46 ∷ []) text (omega arith, refl) few)

date_few : (d : Date) → AreFew 13 (date_text d)
date_few d =
    let shape : date_text d ≡ year_text d.year ++ (45 ∷ (pad2 d.month ++ (45 ∷ pad2 d.day))) = simp append_assoc refl in
    let day = pair_few d.day (omega (arith, d.day_in.1, (days_in_month_bounds d.year d.month).0)) in
    let month = pair_few d.month (omega (arith, d.month_in.1)) in
    subst (AreFew 13) (sym shape) (joined 7 6 (year_text d.year) (45 ∷ (pad2 d.month ++ (45 ∷ pad2 d.day))) (year_few d.year d.year_in)
    (joined 1 5 (45 ∷ []) (pad2 d.month ++ (45 ∷ pad2 d.day)) (omega arith, refl)
    (joined 2 3 (pad2 d.month) (45 ∷ pad2 d.day) month (joined 1 2 (45 ∷ []) (pad2 d.day) (omega arith, refl) day))))

time_few : (t : Time) → AreFew 18 (time_text None t)
time_few t =
    let rest = fraction_part None t.subsec_nanosecond in
    let shape : time_text None t ≡ pad2 t.hour ++ (58 ∷ (pad2 t.minute ++ (58 ∷ (pad2 t.second ++ rest)))) = simp append_assoc refl in
    let second = joined 2 10 (pad2 t.second) rest (pair_few t.second (omega (arith, t.second_in))) (fraction_few t.subsec_nanosecond t.subsec_in) in
    let from_minute = joined 2 13 (pad2 t.minute) (58 ∷ (pad2 t.second ++ rest)) (pair_few t.minute (omega (arith, t.minute_in))) (joined 1 12 (58 ∷ []) (pad2 t.second ++ rest) (omega arith, refl) second) in
    subst (AreFew 18) (sym shape) (joined 2 16 (pad2 t.hour) (58 ∷ (pad2 t.minute ++ (58 ∷ (pad2 t.second ++ rest)))) (pair_few t.hour (omega (arith, t.hour_in)))
    (joined 1 15 (58 ∷ []) (pad2 t.minute ++ (58 ∷ (pad2 t.second ++ rest))) (omega arith, refl) from_minute))

clock_few : (dt : DateTime) → AreFew 33 (iso_datetime_text dt ++ codes "Z")
clock_few dt = joined 32 1 (iso_datetime_text dt) (codes "Z")
    (joined 13 19 (date_text dt.date) (84 ∷ time_text None dt.time) (date_few dt.date) (joined 1 18 (84 ∷ []) (time_text None dt.time) (omega arith, refl) (time_few dt.time)))
    (omega arith, refl)

time_plain : (dt : DateTime) (text : List ℕ) → text ≡ iso_datetime_text dt ++ codes "Z" → IsPlain text
time_plain dt text is =
    let few = clock_few dt in
    subst IsPlain (sym is) (record {
      some = omega (arith, length-append (iso_datetime_text dt) (codes "Z"));
      few = omega (arith, few.0);
      allowed = few.1;
    })

time_read : (instant : ℤ) (t : Timestamp) (dt : DateTime) (text : List ℕ) → t.nanosecond ≡ instant → civil_nanos dt ≡ t.nanosecond +ℤ nanos_of_seconds (pos 0)
    → text ≡ iso_datetime_text dt ++ codes "Z" → IsTimeText instant text
unfolding instant_of
time_read instant t dt text at shows is =
    let same : civil_nanos dt ≡ t.nanosecond = omega (arith, signed_arith, shows) in
    let read : instant_of (iso_datetime_text dt ++ codes "Z") ≡ Ok t.nanosecond = rw (parse_timestamp-text dt t same) in
    record {
      clock = dt;
      shows = same ∙ at;
      written = is;
      read = ap instant_of is ∙ read ∙ ap (λ n. Ok n) at;
    }

-- what is read of the text as a plain one
pub time_told : (instant : ℤ) (t : Timestamp) (dt : DateTime) (text : List ℕ) → t.nanosecond ≡ instant → civil_nanos dt ≡ t.nanosecond +ℤ nanos_of_seconds (pos 0)
    → text ≡ iso_datetime_text dt ++ codes "Z" → (own : Option (List ℕ)) → IsSome own ↔ IsPlain text → IfSome own (λ o. o ≡ text) → TellsTime instant own
time_told instant t dt text at shows is None plain value = absurd (false≢true (plain.1 (time_plain dt text is)))
time_told instant t dt text at shows is (Some own) plain value = subst (IsTimeText instant) (sym value) (time_read instant t dt text at shows is)
