-- What is written of an outcome to a stream, in each form.
use Rattle.std.specs.Prelude.{◌≡◌, ℕ, Bool, true, false, List, Option, Some, None}
use Rattle.std.specs.Io.KnownBytes.{Appends}
use Rattle.csv.specs.Reading.{default_config, records}
use Rattle.event_json.specs.Sites.{Site}
use Rattle.recall_outcomes.specs.declared.faults.Fault.{Fault}
use Rattle.recall_outcomes.specs.declared.faults.Fault.TheVariants as faults
use Rattle.recall_outcomes.specs.declared.outcomes.Outcome.{Outcome}
use Rattle.recall_outcomes.specs.declared.outcomes.Ways.{Ways}
use Rattle.report_forms.specs.Accounts.{Account}
use Rattle.report_forms.specs.Csv.{account_rows, table_rows}
use Rattle.report_forms.specs.Dot.{IsPicture}
use Rattle.outcome_forms.specs.Accounts.{account_of}
use Rattle.outcome_forms.specs.Json.{json_lines, outcome_json}
use Rattle.outcome_forms.specs.declared.forms.Form.{Form}
use Rattle.outcome_forms.specs.declared.forms.Form.TheVariants.{Text, Json, Csv, GuardedCsv, Dot}

-- what was known stays, and some text follows
abbrev pub AppendsText : Option (List ℕ) → Option (List ℕ) → Type 0
AppendsText old new = (text : List ℕ) × Appends old new text

-- a text of which this is so
abbrev pub AppendsSuch : (List ℕ → Type 0) → Option (List ℕ) → Option (List ℕ) → Type 0
AppendsSuch Is old new = (text : List ℕ) × Appends old new text × Is text

-- the stream failed, or memory ran out
abbrev pub is_of_writing : Fault → Bool
is_of_writing faults.Write = true
is_of_writing faults.NoMemory = true
is_of_writing other = false

-- rows that are read back as those of a report or a trace, guarded or as they are
abbrev pub AreRowsOf : Bool → List Site → Option (Account × Ways) → List ℕ → Type 0
AreRowsOf guard sites None text = text ≡ text
AreRowsOf guard sites (Some (account, ways)) text = records default_config text ≡ table_rows guard (account_rows sites account)

-- a picture of a report or a trace
abbrev pub IsPictureOf : Option (Account × Ways) → List ℕ → Type 0
IsPictureOf None text = text ≡ text
IsPictureOf (Some told) text = IsPicture text

-- All of an outcome is written: as JSON the lines of its values.
abbrev pub Writes : Form → List Site → Outcome → Option (List ℕ) → Option (List ℕ) → Type 0
Writes Text sites outcome old new = AppendsText old new
Writes Json sites outcome old new = Appends old new (json_lines (outcome_json sites outcome))
Writes Csv sites outcome old new = AppendsSuch (AreRowsOf false sites (account_of outcome)) old new
Writes GuardedCsv sites outcome old new = AppendsSuch (AreRowsOf true sites (account_of outcome)) old new
Writes Dot sites outcome old new = AppendsSuch (IsPictureOf (account_of outcome)) old new

-- These lines are written, where it is JSON, and else some text.
abbrev pub WritesLines : Form → List ℕ → Option (List ℕ) → Option (List ℕ) → Type 0
WritesLines Json lines old new = Appends old new lines
WritesLines other lines old new = AppendsText old new
