-- What a JSON value lends of the lists of an event.
use Rattle.std.specs.Prelude.{◌≡◌, ℕ, List, [], codes, Option, Some, option_and_then, unwrap_or}
use Rattle.serde_json.specs.Data.{Data}
use Rattle.serde_json.specs.Find.{as_str}
use Rattle.serde_json.specs.View.{view}
use Rattle.serde_json.specs.declared.value.Value.{Value}
use Rattle.epc_core.specs.Items.{key_of}
use Rattle.epc_core.specs.Spellings.{IsPlain}
use Rattle.event_json.specs.Members.{member_named}

-- the text of a member of a destination list
abbrev pub destination_text : Data → Option (List ℕ)
destination_text d = option_and_then as_str (member_named (codes "destination") d)

-- a value that is a plain text
abbrev pub IsPlainValue : Value → Type 0
IsPlainValue v = (text : List ℕ) × (as_str (view v) ≡ Some text) × IsPlain text

-- a value that is a destination
abbrev pub IsDestination : Value → Type 0
IsDestination v = (text : List ℕ) × (destination_text (view v) ≡ Some text) × IsPlain text

-- the item that such a value names, as an EPC text
abbrev pub key_in : Value → List ℕ
key_in v = key_of (unwrap_or (as_str (view v)) [])

-- the text of such a destination
abbrev pub destination_in : Value → List ℕ
destination_in v = unwrap_or (destination_text (view v)) []
