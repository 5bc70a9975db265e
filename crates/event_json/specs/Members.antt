-- The members of a JSON object, and the checks that several of them share.
use Rattle.std.specs.Prelude.{ℕ, suc, ◌+◌, List, [], ◌∷◌, Option, Some, None, Result, Ok, Err, option_and_then, is_some, if◌then◌else◌}
use Rattle.serde_json.specs.Data.{Data, Items, no_items, item}
use Rattle.serde_json.specs.Find.{get, as_null, as_str, as_array}
use Rattle.event_json.specs.declared.doc_faults.DocField.{DocField}
use Rattle.event_json.specs.declared.doc_faults.DocFaultKind.TheVariants.{Missing, WrongShape}
use Rattle.event_json.specs.declared.doc_faults.Flaw.{Flaw}
use Rattle.event_json.specs.Faults.{◌>>=◌}
use Rattle.event_json.specs.Names.{field_name}
use Rattle.epc_core.specs.Items.{is_plain}

-- null counts as absent
abbrev pub present : Data → Option Data
present d = if is_some (as_null d) then None else Some d

-- the member of this name
abbrev pub member_named : List ℕ → Data → Option Data
member_named name d = option_and_then present (get name d)

-- the member of this field
abbrev pub member_of : DocField → Data → Option Data
member_of field d = member_named (field_name field) d

-- a value, or the flaw where there is none
abbrev pub or_flaw : {A : Type 0} → Flaw → Option A → Result A Flaw
or_flaw flaw None = Err flaw
or_flaw flaw (Some x) = Ok x

-- a text that has to be there
abbrev pub text_of : DocField → Option Data → Result (List ℕ) Flaw
text_of field o = do
  d ← or_flaw (record { field = field; kind = Missing }) o
  or_flaw (record { field = field; kind = WrongShape }) (as_str d)

-- a plain text
abbrev pub plain_of : DocField → Data → Result (List ℕ) Flaw
plain_of field d = do
  text ← or_flaw (record { field = field; kind = WrongShape }) (as_str d)
  if is_plain text then Ok text else Err (record { field = field; kind = WrongShape })

-- a plain text that may be absent
abbrev pub identifier_of : DocField → Option Data → Result (Option (List ℕ)) Flaw
identifier_of field None = Ok None
identifier_of field (Some d) = do
  text ← plain_of field d
  Ok (Some text)

-- an array, which is empty where the member is absent
abbrev pub list_of : DocField → Option Data → Result Items Flaw
list_of field None = Ok no_items
list_of field (Some d) = or_flaw (record { field = field; kind = WrongShape }) (as_array d)

-- how many members an array has
abbrev pub count_of : Items → ℕ
count_of no_items = 0
count_of (item d ds) = suc (count_of ds)

-- what is found of each member, in order, the first of them being number n: the first fault wins
abbrev pub each : {A E : Type 0} → (ℕ → Data → Result A E) → ℕ → Items → Result (List A) E
each f n no_items = Ok []
each f n (item d ds) = do
  first ← f n d
  rest ← each f (n + 1) ds
  Ok (first ∷ rest)
