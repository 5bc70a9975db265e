-- The text of a clock in UTC is read as its instant.
use Rattle.std.proofs.Common.{◌≡◌, ◌++◌, ◌+ℤ◌, ℤ, List, ℕ, Ok, pos, codes, ap, ◌∙◌, arith}
use Rattle.jiff_core.specs.DateTime.{civil_nanos}
use Rattle.jiff_core.specs.Timestamp.{nanos_of_seconds}
use Rattle.jiff_core.specs.declared.civil.datetime.DateTime.{DateTime}
use Rattle.jiff_core.specs.declared.timestamp.Timestamp.{Timestamp}
use Rattle.jiff_core.proofs.SignedLemmas.{signed_arith}
use Rattle.jiff_fmt.proofs.RoundTrip.{parse_timestamp-text}
use Rattle.jiff.specs.Words.{iso_datetime_text}
use Rattle.event_json.specs.Checks.{instant_of}

pub clock_read : (instant : ℤ) (t : Timestamp) (dt : DateTime) (text : List ℕ) → t.nanosecond ≡ instant → civil_nanos dt ≡ t.nanosecond +ℤ nanos_of_seconds (pos 0)
    → text ≡ iso_datetime_text dt ++ codes "Z" → instant_of text ≡ Ok instant
unfolding instant_of
clock_read instant t dt text at shows is =
    let same : civil_nanos dt ≡ t.nanosecond = omega (arith, signed_arith, shows) in
    let read : instant_of (iso_datetime_text dt ++ codes "Z") ≡ Ok t.nanosecond = rw (parse_timestamp-text dt t same) in
    ap instant_of is ∙ read ∙ ap (λ n. Ok n) at
