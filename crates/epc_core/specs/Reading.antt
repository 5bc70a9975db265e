use Rattle.std.specs.Prelude.{◌≡◌, ◌==◌, ℕ, not, nat_lt, if◌then◌else◌, List, length, Option, Some, None, option_map, Result, Ok, Err, position}
use Rattle.epc_core.specs.declared.items.EpcFault.{EpcFault}
use Rattle.epc_core.specs.declared.items.EpcFault.TheVariants.{NoMemory, Empty, TooLong, BadByte}
use Rattle.epc_core.specs.Items.{is_plain_byte, key_of}

-- the first reason why a text isn't plain
abbrev pub fault_of : List ℕ → Option EpcFault
fault_of text =
    if length text == 0 then Some Empty else
    if nat_lt 512 (length text) then Some TooLong else
    option_map BadByte (position (λ b. not (is_plain_byte b)) text)

-- what reading a text gives: the key of its item, or the first reason why it isn't plain
unfoldable pub reading : List ℕ → Result (List ℕ) EpcFault
reading text = outcome (fault_of text) where
  outcome : Option EpcFault → Result (List ℕ) EpcFault
  outcome None = Ok (key_of text)
  outcome (Some fault) = Err fault

-- what a call returned is what reading gives, unless memory ran out
abbrev pub Gives : Result (List ℕ) EpcFault → Result (List ℕ) EpcFault → Type 0
Gives (Ok key) read = read ≡ Ok key
Gives (Err NoMemory) read = Unit {0}
Gives (Err Empty) read = read ≡ Err Empty
Gives (Err TooLong) read = read ≡ Err TooLong
Gives (Err (BadByte place)) read = read ≡ Err (BadByte place)
