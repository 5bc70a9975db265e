use Rattle.std.specs.Prelude.{◌≡◌, ◌↔◌, ℕ, ◌<◌, ◌≤◌, IsTrue, IsFalse, ◌⊎◌, List, length, Err, slice_index, take, codes}
use Rattle.std.specs.List.{list_all, All, Contains}
use Rattle.percent_encoding.specs.Percent.{percent_decode}
use Rattle.epc_core.specs.declared.items.EpcFault.TheVariants.{BadByte}
use Rattle.epc_core.specs.Numbers.{IsChecked}
use Rattle.epc_core.specs.Serials.{IsSerial, is_part_byte}
use Rattle.epc_core.specs.Items.{is_plain_byte, sgtin_key, sscc_key}
use Rattle.epc_core.specs.Spellings.{sgtin_uri, sgtin_link, sscc_uri, sscc_link, whole_number, Spells}
use Rattle.epc_core.specs.Reading.{reading}

-- a GTIN-14 with a serial number has an EPC URI and a Digital Link, however either escapes the serial number, and
-- both spell the item of one key
abbrev pub GtinsAreSpelledTwice : Type 0
GtinsAreSpelledTwice = (company item escaped part : List ℕ) (indicator check : ℕ) → 6 ≤ length company → length company ≤ 12
    → IsChecked 14 (whole_number company indicator item check) → IsSerial (percent_decode escaped)
    → IsTrue (list_all is_part_byte part) → percent_decode part ≡ percent_decode escaped
    → Spells (sgtin_uri company indicator item escaped) (sgtin_key (whole_number company indicator item check) (percent_decode escaped))
    × Spells (sgtin_link (whole_number company indicator item check) part) (sgtin_key (whole_number company indicator item check) (percent_decode escaped))

-- an SSCC-18 has an EPC URI and a Digital Link, and both spell the item of one key
abbrev pub SsccsAreSpelledTwice : Type 0
SsccsAreSpelledTwice = (company reference : List ℕ) (extension check : ℕ) → 6 ≤ length company → length company ≤ 12
    → IsChecked 18 (whole_number company extension reference check)
    → Spells (sscc_uri company extension reference) (sscc_key (whole_number company extension reference check))
    × Spells (sscc_link (whole_number company extension reference check)) (sscc_key (whole_number company extension reference check))

-- the place of the first byte that no plain text has
pub record IsFirstBad (text : List ℕ) (place : ℕ) : Type 0 where
  pub within : place < length text
  pub bad : IsFalse (is_plain_byte (slice_index text place))
  pub before : IsTrue (list_all is_plain_byte (take place text))

-- a text that is neither empty nor too long is refused at its first bad byte
abbrev pub BadBytesAreRefused : Type 0
BadBytesAreRefused = (text : List ℕ) (place : ℕ) → (reading text ≡ Err (BadByte place)) ↔ ((1 ≤ length text) × (length text ≤ 512) × IsFirstBad text place)

-- the bytes that no plain text has, by their numbers: control bytes and the space, up to 32, and DEL, 127; it may have all others
abbrev pub BadBytesAreThese : Type 0
BadBytesAreThese = (b : ℕ) → IsFalse (is_plain_byte b) ↔ ((b ≤ 32) ⊎ (b ≡ 127))

-- the 82 characters that a serial number may have
abbrev pub serial_characters : List ℕ
serial_characters = codes "!\"%&'()*+,-./0123456789:;<=>?ABCDEFGHIJKLMNOPQRSTUVWXYZ_abcdefghijklmnopqrstuvwxyz"

-- a serial number is 1 to 20 of these characters, and each such text is one
abbrev pub SerialNumbersAreThese : Type 0
SerialNumbersAreThese = (serial : List ℕ) → IsSerial serial ↔ ((1 ≤ length serial) × (length serial ≤ 20) × All (Contains serial_characters) serial)
