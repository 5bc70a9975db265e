use Rattle.std.specs.Prelude.{ℕ, ◌≤◌, Bool, ◌&&◌, ◌||◌, ◌==◌, not, nat_le, IsTrue, List, length, if◌then◌else◌, Option, Some, None}
use Rattle.std.specs.List.{list_all}
use Rattle.percent_encoding.specs.Percent.{percent_decode}

-- the 82 characters of a serial number ("GS1 AI encodable character set 82" of the GS1 General Specifications and of
-- the EPC Tag Data Standard): letters, digits, `_`, and ! " % & ' ( ) * + , - . / : ; < = > ?
abbrev pub is_serial_byte : ℕ → Bool
is_serial_byte b = (nat_le 65 b && nat_le b 90) || (nat_le 97 b && nat_le b 122) || b == 95 || b == 33 || b == 34
    || (nat_le 37 b && nat_le b 63)

-- a serial number: 1 to 20 of the 82 characters
pub record IsSerial (serial : List ℕ) : Type 0 where
  pub some : 1 ≤ length serial
  pub few : length serial ≤ 20
  pub allowed : IsTrue (list_all is_serial_byte serial)

-- whether these bytes are so
abbrev pub is_serial : List ℕ → Bool
is_serial serial = nat_le 1 (length serial) && (nat_le (length serial) 20 && list_all is_serial_byte serial)

-- The serial number that an escaped text stands for. percent_decode replaces each `%` with two hexadecimal digits of
-- either letter case by the byte (RFC 3986, section 2.1); any other `%` stands for itself.
abbrev pub serial_of : List ℕ → Option (List ℕ)
serial_of escaped = if is_serial (percent_decode escaped) then Some (percent_decode escaped) else None

-- a byte that may stand raw in a part of a Digital Link: no slash, question mark or number sign
abbrev pub is_part_byte : ℕ → Bool
is_part_byte b = not (b == 47 || b == 63 || b == 35)
