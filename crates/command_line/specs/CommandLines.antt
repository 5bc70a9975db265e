-- What the words of a command line ask for, as `clap` reads them.
use Rattle.std.specs.Prelude.{◌≡◌, ◌≢◌, ◌⊎◌, ◌≤◌, ◌↔◌, ⊤, ℕ, Bool, true, false, IsTrue, List, [], ◌∷◌, Option, Some, None, codes, is_some, length, map, option_map, string_bytes, unwrap_or}
use mathlib.Core.Logic.{◌⊎◌}
use Rattle.std.specs.Global.{Global}
use Rattle.std.specs.declared.string.String.{String}
use Rattle.std.specs.Str.Parse.{digits_value, without_leading_plus}
use Rattle.clap.specs.Words.{App, Row, Rule, Text, new_app, new_rule, with_rule, with_subcommand, first_of, one_of, subcommand_of, all_of, Kinds, IsAmong, fault_of}
use Rattle.clap.specs.declared.builder.action.ArgAction.TheVariants.{Append, SetTrue}
use Rattle.clap.specs.declared.builder.value_parser.ValueParser.TheVariants.{NonEmptyString, Unsigned}
use Rattle.clap.specs.declared.error.ErrorKind.{ErrorKind}
use Rattle.clap.specs.declared.error.ErrorKind.TheVariants.{DisplayHelp, DisplayVersion, OutOfMemory}
use Rattle.folder_commands.specs.declared.words.WordKind.{WordKind}
use Rattle.folder_commands.specs.declared.words.WordKind.TheVariants as kinds
use Rattle.item_spellings.specs.declared.spellings.Spelled.{Spelled}
use Rattle.item_spellings.specs.declared.spellings.Spelling.{Spelling}
use Rattle.item_spellings.specs.declared.spellings.Spelling.TheVariants as spellings
use Rattle.outcome_forms.specs.declared.forms.Form.{Form}
use Rattle.outcome_forms.specs.declared.forms.Form.TheVariants as forms
use Rattle.recall_outcomes.specs.declared.outcomes.Ways.{Ways}
use Rattle.recall_outcomes.specs.declared.outcomes.Ways.TheVariants.{Trails, Steps}
use Rattle.command_line.specs.declared.asked.Asked.{Asked}
use Rattle.command_line.specs.declared.asked.Asked.TheVariants as asked
use Rattle.command_line.specs.declared.asked.Batch.{Batch}
use Rattle.command_line.specs.declared.asked.FileCommand.{FileCommand}
use Rattle.command_line.specs.declared.asked.Terms.{Terms}
use Rattle.command_line.specs.declared.convert_commands.ConvertFiles.{ConvertFiles}
use Rattle.command_line.specs.declared.lint_commands.LintFiles.{LintFiles}
use Rattle.command_line.specs.declared.pack_commands.PackFiles.{PackFiles}
use Rattle.command_line.specs.declared.plan_commands.Aim.{Aim}
use Rattle.command_line.specs.declared.plan_commands.Aim.TheVariants.{Contents, EachSite, Gaps as Misses, Packs as Packings}
use Rattle.command_line.specs.declared.plan_commands.PlanCommand.{PlanCommand}
use Rattle.command_line.specs.declared.asked.FileCommand.TheVariants.{Init, Copy, Capture, Start, Run, Report, Audit, Trace, TraceContents, Recalls, Recall, Items, Inside, Coverage, Gaps, Missed}

-- the words of a batch
abbrev pub words_of : Batch → List (List ℕ)
words_of batch = map (λ word. word.now) batch.words.items

-- whether one of them may be several inputs: it is a file, of which the lines or the events are the inputs
abbrev pub has_many : WordKind → Bool
has_many kinds.Document = false
has_many kinds.DocumentLines = true
has_many kinds.DocumentEvents = true
has_many (kinds.Epc spelling) = false
has_many (kinds.EpcLines spelling) = true

-- what words are that are EPCs, or files of these
abbrev pub epcs_kind : Bool → Spelling → WordKind
epcs_kind false spelling = kinds.Epc spelling
epcs_kind true spelling = kinds.EpcLines spelling

-- the words as texts
abbrev pub texts_of : List (String Global) → List (List ℕ)
texts_of words = map string_bytes words

-- ---- the commands, with the names of their arguments, each of which has to be there

abbrev pub required : Text → Rule
required name = record (new_rule name) { required = true }

-- the folder, which isn't the empty word
abbrev pub folder : Rule
folder = record (required (codes "dir")) { parser = Some NonEmptyString }

-- `--name`, which has no value
abbrev pub flag : Text → Rule
flag name = record (new_rule name) { long = Some name; action = Some SetTrue }

-- `--wait n`: a number of seconds up to a day, or 0 where it isn't there
abbrev pub wait : Rule
wait =
    record (new_rule (codes "wait")) {
      long = Some (codes "wait");
      value_names = 1;
      parser = Some (Unsigned 0 86400);
      defaults = codes "0" ∷ [];
    }

-- `--max-bytes n`: a number of bytes up to 1 GiB, or 64 MiB where it isn't there
abbrev pub max_bytes : Rule
max_bytes =
    record (new_rule (codes "max-bytes")) {
      long = Some (codes "max-bytes");
      value_names = 1;
      parser = Some (Unsigned 1 1073741824);
      defaults = codes "67108864" ∷ [];
    }

-- each can be asked to print JSON, and to wait for a file that is in use
abbrev pub on_folder : Text → App
on_folder name = with_rule (with_rule (with_rule (new_app name) folder) (flag (codes "json"))) wait

abbrev pub sim : App
sim = new_app (codes "sim")

abbrev pub init : App
init = with_rule (on_folder (codes "init")) (required (codes "sites"))

-- one file or more
abbrev pub files : Rule
files = record (required (codes "file")) { action = Some Append }

abbrev pub capture : App
capture =
    with_rule
    (with_rule (with_rule (with_rule (with_rule (on_folder (codes "capture")) (required (codes "site"))) files) (flag (codes "lines"))) (flag (codes "each")))
    max_bytes

-- one EPC or more
abbrev pub epcs : Rule
epcs = record (required (codes "epc")) { action = Some Append }

-- a command whose items can be given as they are printed, or as a scanner gives them
abbrev pub with_spellings : App → App
with_spellings a = with_rule (with_rule a (flag (codes "key"))) (flag (codes "scan"))

abbrev pub start : App
start =
    with_rule
    (with_spellings
    (with_rule
    (with_rule
    (with_rule (with_rule (with_rule (with_rule (with_rule (on_folder (codes "start")) (required (codes "site"))) epcs) (flag (codes "from"))) (flag (codes "dry-run"))) (flag (codes "contents")))
    (flag (codes "gaps")))
    (flag (codes "each-site"))))
    max_bytes

-- `--turns n`: a number from 1 to 1,000,000, or 2,000 where it isn't there
abbrev pub turns : Rule
turns =
    record (new_rule (codes "turns")) {
      long = Some (codes "turns");
      value_names = 1;
      parser = Some (Unsigned 1 1000000);
      defaults = codes "2000" ∷ [];
    }

abbrev pub run : App
run = with_rule (with_rule (with_rule (with_rule (on_folder (codes "run")) turns) (flag (codes "until-ended"))) (flag (codes "unless-gaps"))) (flag (codes "exit-code"))

-- a command that can also be asked to print rows, or a picture
abbrev pub with_forms : App → App
with_forms a = with_rule (with_rule (with_rule a (flag (codes "csv"))) (flag (codes "csv-guarded"))) (flag (codes "dot"))

-- a command that can also be asked to tell less of each trail, or the events behind it
abbrev pub with_ways : App → App
with_ways a = with_rule (with_rule a (flag (codes "brief"))) (flag (codes "events"))

abbrev pub report : App
report = with_forms (with_ways (with_rule (on_folder (codes "report")) (required (codes "recall"))))

abbrev pub audit : App
audit = with_rule (with_rule (on_folder (codes "audit")) (flag (codes "ended"))) (flag (codes "exit-code"))

abbrev pub trace : App
trace =
    with_spellings
    (with_forms
    (with_ways (with_rule (with_rule (with_rule (with_rule (on_folder (codes "trace")) (required (codes "site"))) (required (codes "epc"))) (flag (codes "back"))) (flag (codes "contents")))))

-- the recall may be left out
abbrev pub status : App
status = with_rule (with_rule (on_folder (codes "status")) (new_rule (codes "recall"))) (flag (codes "exit-code"))

abbrev pub coverage : App
coverage = on_folder (codes "coverage")

abbrev pub gaps : App
gaps = with_rule (with_rule (with_rule (on_folder (codes "gaps")) (new_rule (codes "recall"))) (flag (codes "all"))) (flag (codes "exit-code"))

-- to a folder that is there
abbrev pub copy : App
copy = with_rule (on_folder (codes "copy")) (required (codes "to"))

-- `--in epc`
abbrev pub containing : Rule
containing = record (new_rule (codes "in")) { long = Some (codes "in"); value_names = 1 }

-- the text may be left out
abbrev pub items : App
items = with_spellings (with_rule (with_rule (with_rule (on_folder (codes "items")) (required (codes "site"))) (new_rule (codes "text"))) containing)

-- `--site name`
abbrev pub capturing : Rule
capturing = record (new_rule (codes "site")) { long = Some (codes "site"); value_names = 1 }

-- of all sites, or of the one that is named
abbrev pub packs : App
packs = with_rule (with_rule (on_folder (codes "packs")) capturing) (flag (codes "dry-run"))

-- it needs no folder, but a list of sites
abbrev pub lint : App
lint = with_rule (with_rule (with_rule (with_rule (with_rule (new_app (codes "lint")) (required (codes "sites"))) files) (flag (codes "json"))) capturing) max_bytes

-- `--places sites`
abbrev pub places : Rule
places = record (new_rule (codes "places")) { long = Some (codes "places"); value_names = 1 }

-- it needs neither
abbrev pub convert : App
convert =
    with_rule
    (with_rule
    (with_rule (with_rule (with_rule (with_rule (with_rule (new_app (codes "convert")) files) (flag (codes "json"))) (flag (codes "lots"))) (flag (codes "links"))) (flag (codes "keep-errors")))
    places)
    max_bytes

-- `recall` itself, which has to have one of them
abbrev pub needing : App → App
needing a = record a { top = record a.top { subcommand_required = true } }

abbrev pub with_command : App → App → App
with_command above below = with_subcommand above below.top

-- a command that tells its version
abbrev pub versioned : App → App
versioned a = record a { top = record a.top { has_version = true } }

abbrev pub recall : App
recall = with_command asking copy where
  -- those that came first
  changing : App
  changing =
      with_command (with_command (with_command (with_command (with_command (with_command (with_command (needing (versioned (new_app (codes "recall")))) sim) init) capture) start) run) report) audit

  asking : App
  asking = with_command (with_command (with_command (with_command (with_command (with_command (with_command (with_command changing trace) status) items) lint) gaps) packs) convert) coverage

-- ---- what words ask for

-- what is asked to be shown, in place of something to be done
abbrev pub IsShown : ErrorKind → Type 0
IsShown kind = (kind ≡ DisplayHelp) ⊎ (kind ≡ DisplayVersion)

-- what is wrong with the words, by kind; no kind where nothing is. Help and the version that are asked for are kinds, too.
abbrev pub faults_of : List (List ℕ) → Kinds
faults_of words = fault_of recall words

-- the command that the words name, with its arguments
abbrev pub named : List (List ℕ) → Option (Text × List Row)
named words = subcommand_of recall words

-- the argument of this name
abbrev pub Gives : List Row → Text → Text → Type 0
Gives rows name value = first_of name rows ≡ Some value

-- the argument of this name is this number
abbrev pub GivesNumber : List Row → Text → ℕ → Type 0
GivesNumber rows name n = (text : Text) × (one_of name rows ≡ Some text) × (n ≡ digits_value 10 (without_leading_plus text))

-- the option of this name is there
abbrev pub IsSet : List Row → Text → Type 0
IsSet rows name = Gives rows name (codes "true")

-- the argument of this name, or the empty text where it is left out
abbrev pub GivesOrNone : List Row → Text → Text → Type 0
GivesOrNone rows name value = value ≡ unwrap_or (first_of name rows) []

-- how it is told how each pair is reached
abbrev pub GivesWays : List Row → Ways → Type 0
GivesWays rows Steps = IsSet rows (codes "brief")
GivesWays rows Trails = IsSet rows (codes "brief") → ⊥

-- the option of this name isn't there
abbrev pub IsUnset : List Row → Text → Type 0
IsUnset rows name = IsSet rows name → ⊥

-- what the command comes to is printed in this form, and no other is asked for
abbrev pub GivesForm : List Row → Form → Type 0
GivesForm rows forms.Text = IsUnset rows (codes "json") × IsUnset rows (codes "csv") × IsUnset rows (codes "csv-guarded") × IsUnset rows (codes "dot")
GivesForm rows forms.Json = IsSet rows (codes "json") × IsUnset rows (codes "csv") × IsUnset rows (codes "csv-guarded") × IsUnset rows (codes "dot")
GivesForm rows forms.Csv = IsUnset rows (codes "json") × IsSet rows (codes "csv") × IsUnset rows (codes "csv-guarded") × IsUnset rows (codes "dot")
GivesForm rows forms.GuardedCsv = IsUnset rows (codes "json") × IsUnset rows (codes "csv") × IsSet rows (codes "csv-guarded") × IsUnset rows (codes "dot")
GivesForm rows forms.Dot = IsUnset rows (codes "json") × IsUnset rows (codes "csv") × IsUnset rows (codes "csv-guarded") × IsSet rows (codes "dot")

-- a document has at most so many bytes: those that are given, or 64 MiB where the command isn't asked
abbrev pub GivesMost : List Row → ℕ → Type 0
GivesMost rows most = GivesNumber rows (codes "max-bytes") most ⊎ ((first_of (codes "max-bytes") rows ≡ None) × (most ≡ 67108864))

-- in this form; a file that is in use is waited for so many seconds, and a document has at most so many bytes
abbrev pub GivesTerms : List Row → Terms → Type 0
GivesTerms rows terms = GivesForm rows terms.form × GivesNumber rows (codes "wait") terms.wait × GivesMost rows terms.most

-- two forms are asked for
abbrev pub AsksTwoForms : List Row → Type 0
AsksTwoForms rows =
    (IsSet rows (codes "json") × IsSet rows (codes "csv")) ⊎ (IsSet rows (codes "json") × IsSet rows (codes "csv-guarded")) ⊎ (IsSet rows (codes "json") × IsSet rows (codes "dot"))
    ⊎ (IsSet rows (codes "csv") × IsSet rows (codes "csv-guarded")) ⊎ (IsSet rows (codes "csv") × IsSet rows (codes "dot")) ⊎ (IsSet rows (codes "csv-guarded") × IsSet rows (codes "dot"))

-- the items are spelled in this way, and in no other
abbrev pub GivesSpelling : List Row → Spelling → Type 0
GivesSpelling rows spellings.Epc = IsUnset rows (codes "key") × IsUnset rows (codes "scan")
GivesSpelling rows spellings.Key = IsSet rows (codes "key") × IsUnset rows (codes "scan")
GivesSpelling rows spellings.Scan = IsUnset rows (codes "key") × IsSet rows (codes "scan")

-- two ways to spell them are named
abbrev pub AsksTwoSpellings : List Row → Type 0
AsksTwoSpellings rows = IsSet rows (codes "key") × IsSet rows (codes "scan")

-- events are asked for in a picture, or of what lies in an item, which tell none
abbrev pub AsksUntoldEvents : List Row → Type 0
AsksUntoldEvents rows = IsSet rows (codes "events") × (IsSet rows (codes "dot") ⊎ IsSet rows (codes "contents"))

-- what lies in an item is to be traced back, or all gaps are asked for with what one recall misses
abbrev pub AsksAtOdds : List Row → Type 0
AsksAtOdds rows =
    (IsSet rows (codes "contents") × IsSet rows (codes "back")) ⊎ (IsSet rows (codes "all") × ((first_of (codes "recall") rows ≡ None) → ⊥))

-- it is said how an item is spelled, and none is given: of items without `--in`
abbrev pub AsksIdleSpelling : Text → List Row → Type 0
AsksIdleSpelling name rows = (name ≡ codes "items") × (first_of (codes "in") rows ≡ None) × (IsSet rows (codes "key") ⊎ IsSet rows (codes "scan"))

-- options that exclude each other are there
abbrev pub AsksTwo : List Row → Type 0
AsksTwo rows = AsksTwoForms rows ⊎ AsksTwoSpellings rows ⊎ AsksUntoldEvents rows ⊎ AsksAtOdds rows

-- this item, by its text and its spelling
abbrev pub GivesItem : List Row → Spelled → Type 0
GivesItem rows item = Gives rows (codes "epc") item.text.now × GivesSpelling rows item.spelling

-- the documents are files, or the lines of files, or the events of each are taken on their own
abbrev pub GivesDocuments : List Row → WordKind → Type 0
GivesDocuments rows kinds.Document = IsUnset rows (codes "lines") × IsUnset rows (codes "each")
GivesDocuments rows kinds.DocumentLines = IsSet rows (codes "lines") × IsUnset rows (codes "each")
GivesDocuments rows kinds.DocumentEvents = IsUnset rows (codes "lines") × IsSet rows (codes "each")
GivesDocuments rows other = ⊥

-- both the lines and the events are to be taken on their own
abbrev pub AsksLinesAndEvents : List Row → Type 0
AsksLinesAndEvents rows = IsSet rows (codes "lines") × IsSet rows (codes "each")

-- the files of a capture, which are of this kind
abbrev pub GivesFiles : List Row → List Text → WordKind → Type 0
GivesFiles rows paths kind = (all_of (codes "file") rows ≡ Some paths) × GivesDocuments rows kind

-- the EPCs of a start, or the files of which each line is one
abbrev pub GivesEpcs : List Row → List Text → Bool → Type 0
GivesEpcs rows epcs by_lines = (all_of (codes "epc") rows ≡ Some epcs) × (IsTrue by_lines ↔ IsSet rows (codes "from"))

-- the start isn't planned by what other sites know
abbrev pub IsPlain : List Row → Type 0
IsPlain rows = IsUnset rows (codes "contents") × IsUnset rows (codes "gaps") × IsUnset rows (codes "each-site")

-- the command has this name and these arguments
abbrev pub IsCommand : FileCommand → Text → List Row → Type 0
IsCommand (Init folder list) name rows = (name ≡ codes "init") × Gives rows (codes "dir") folder.now × Gives rows (codes "sites") list.now
IsCommand (Copy folder to) name rows = (name ≡ codes "copy") × Gives rows (codes "dir") folder.now × Gives rows (codes "to") to.now
IsCommand (Capture folder site file) name rows =
    (name ≡ codes "capture") × Gives rows (codes "dir") folder.now × Gives rows (codes "site") site.now × GivesFiles rows (file.now ∷ []) kinds.Document
IsCommand (Start folder site item dry) name rows =
    (name ≡ codes "start") × Gives rows (codes "dir") folder.now × Gives rows (codes "site") site.now × GivesEpcs rows (item.text.now ∷ []) false
    × GivesSpelling rows item.spelling
    × (IsTrue dry ↔ IsSet rows (codes "dry-run"))
    × IsPlain rows
IsCommand (Run folder terms) name rows =
    (name ≡ codes "run") × Gives rows (codes "dir") folder.now × GivesNumber rows (codes "turns") terms.turns × (1 ≤ terms.turns) × (terms.turns ≤ 1000000)
    × (IsTrue terms.until_ended ↔ IsSet rows (codes "until-ended")) × (IsTrue terms.unless_gaps ↔ IsSet rows (codes "unless-gaps")) × (IsTrue terms.coded ↔ IsSet rows (codes "exit-code"))
IsCommand (Report folder recall ways events) name rows =
    (name ≡ codes "report") × Gives rows (codes "dir") folder.now × Gives rows (codes "recall") recall.now × GivesWays rows ways
    × (IsTrue events ↔ IsSet rows (codes "events"))
IsCommand (Audit folder ended coded) name rows =
    (name ≡ codes "audit") × Gives rows (codes "dir") folder.now × (IsTrue ended ↔ IsSet rows (codes "ended")) × (IsTrue coded ↔ IsSet rows (codes "exit-code"))
IsCommand (Trace folder site item back ways events) name rows =
    (name ≡ codes "trace") × Gives rows (codes "dir") folder.now × Gives rows (codes "site") site.now × GivesItem rows item
    × (IsTrue back ↔ IsSet rows (codes "back")) × GivesWays rows ways
    × (IsTrue events ↔ IsSet rows (codes "events"))
    × IsUnset rows (codes "contents")
IsCommand (TraceContents folder site item ways) name rows =
    (name ≡ codes "trace") × Gives rows (codes "dir") folder.now × Gives rows (codes "site") site.now × GivesItem rows item × GivesWays rows ways
    × IsSet rows (codes "contents")
IsCommand (Recalls folder coded) name rows =
    (name ≡ codes "status") × Gives rows (codes "dir") folder.now × (first_of (codes "recall") rows ≡ None) × (IsTrue coded ↔ IsSet rows (codes "exit-code"))
IsCommand (Recall folder recall coded) name rows =
    (name ≡ codes "status") × Gives rows (codes "dir") folder.now × Gives rows (codes "recall") recall.now × (IsTrue coded ↔ IsSet rows (codes "exit-code"))
IsCommand (Items folder site text) name rows =
    (name ≡ codes "items") × Gives rows (codes "dir") folder.now × Gives rows (codes "site") site.now × GivesOrNone rows (codes "text") text.now
    × (first_of (codes "in") rows ≡ None)
    × GivesSpelling rows spellings.Epc
IsCommand (Inside folder site item text) name rows =
    (name ≡ codes "items") × Gives rows (codes "dir") folder.now × Gives rows (codes "site") site.now × GivesOrNone rows (codes "text") text.now
    × Gives rows (codes "in") item.text.now × GivesSpelling rows item.spelling
IsCommand (Coverage folder) name rows = (name ≡ codes "coverage") × Gives rows (codes "dir") folder.now
IsCommand (Gaps folder all coded) name rows =
    (name ≡ codes "gaps") × Gives rows (codes "dir") folder.now × (first_of (codes "recall") rows ≡ None) × (IsTrue all ↔ IsSet rows (codes "all")) × (IsTrue coded ↔ IsSet rows (codes "exit-code"))
IsCommand (Missed folder recall coded) name rows =
    (name ≡ codes "gaps") × Gives rows (codes "dir") folder.now × Gives rows (codes "recall") recall.now × (IsTrue coded ↔ IsSet rows (codes "exit-code"))

-- documents are captured, or recalls started that aren't dry
abbrev pub GivesWords : Text → List Row → WordKind → List Text → Type 0
GivesWords name rows kinds.Document words = (name ≡ codes "capture") × GivesFiles rows words kinds.Document
GivesWords name rows kinds.DocumentLines words = (name ≡ codes "capture") × GivesFiles rows words kinds.DocumentLines
GivesWords name rows kinds.DocumentEvents words = (name ≡ codes "capture") × GivesFiles rows words kinds.DocumentEvents
GivesWords name rows (kinds.Epc spelling) words = (name ≡ codes "start") × GivesEpcs rows words false × IsUnset rows (codes "dry-run") × GivesSpelling rows spelling × IsPlain rows
GivesWords name rows (kinds.EpcLines spelling) words = (name ≡ codes "start") × GivesEpcs rows words true × IsUnset rows (codes "dry-run") × GivesSpelling rows spelling × IsPlain rows

-- There are several inputs: those of several words, or of the lines or the events of files. One word that is one input is no batch.
pub record IsBatch (batch : Batch) (name : Text) (rows : List Row) : Type 0 where
  pub several : (has_many batch.kind ≡ true) ⊎ (length (words_of batch) ≢ 1)
  pub folder : Gives rows (codes "dir") batch.folder.now
  pub site : Gives rows (codes "site") batch.site.now
  pub words : GivesWords name rows batch.kind (words_of batch)
  pub terms : GivesTerms rows batch.terms

-- what several starts would do is asked for, which nobody tells
pub record AsksDryBatch (rows : List Row) : Type 0 where
  pub epcs : List Text
  pub by_lines : Bool
  pub given : GivesEpcs rows epcs by_lines
  pub several : (by_lines ≡ true) ⊎ (length epcs ≢ 1)
  pub dry : IsSet rows (codes "dry-run")
  pub plain : IsPlain rows

-- ---- what is planned

-- one word is given, and what it asks for isn't dry
abbrev pub GivesLone : List Row → Text → Type 0
GivesLone rows text = GivesEpcs rows (text ∷ []) false × IsUnset rows (codes "dry-run")

-- what the plan is for
abbrev pub IsAim : Aim → Text → List Row → Type 0
IsAim (Contents site item) name rows =
    (name ≡ codes "start") × Gives rows (codes "site") site.now × GivesLone rows item.text.now × GivesSpelling rows item.spelling
    × IsSet rows (codes "contents") × IsUnset rows (codes "gaps") × IsUnset rows (codes "each-site")
IsAim (EachSite site item) name rows =
    (name ≡ codes "start") × Gives rows (codes "site") site.now × GivesLone rows item.text.now × GivesSpelling rows item.spelling
    × IsUnset rows (codes "contents") × IsUnset rows (codes "gaps") × IsSet rows (codes "each-site")
IsAim (Misses site recall) name rows =
    (name ≡ codes "start") × Gives rows (codes "site") site.now × GivesLone rows recall.now × GivesSpelling rows spellings.Epc
    × IsUnset rows (codes "contents") × IsSet rows (codes "gaps") × IsUnset rows (codes "each-site")
IsAim (Packings site) name rows = (name ≡ codes "packs") × (option_map (λ t. t.now) site ≡ first_of (codes "site") rows) × IsUnset rows (codes "dry-run")

pub record IsPlan (command : PlanCommand) (name : Text) (rows : List Row) : Type 0 where
  pub folder : Gives rows (codes "dir") command.folder.now
  pub aim : IsAim command.aim name rows
  pub terms : GivesTerms rows command.terms

-- a start is to be planned, and there is no such plan
abbrev pub AsksNoAim : List Row → Type 0
AsksNoAim rows = (aim : Aim) → IsAim aim (codes "start") rows → ⊥

abbrev pub AsksNoPlan : List Row → Type 0
AsksNoPlan rows = (IsSet rows (codes "contents") ⊎ IsSet rows (codes "gaps") ⊎ IsSet rows (codes "each-site")) × AsksNoAim rows

-- documents of files are looked through, by a list of sites
pub record IsLint (asked : LintFiles) (rows : List Row) : Type 0 where
  pub list : Gives rows (codes "sites") asked.list.now
  pub site : option_map (λ t. t.now) asked.site ≡ first_of (codes "site") rows
  pub files : all_of (codes "file") rows ≡ Some (map (λ path. path.now) asked.paths.items)
  pub most : GivesMost rows asked.most
  pub form : GivesForm rows asked.form

-- the events by which the sites of a folder, or the one that is named, close their packed gaps
pub record IsPacks (asked : PackFiles) (rows : List Row) : Type 0 where
  pub folder : Gives rows (codes "dir") asked.folder.now
  pub site : option_map (λ t. t.now) asked.site ≡ first_of (codes "site") rows
  pub dry : IsSet rows (codes "dry-run")
  pub terms : GivesTerms rows asked.terms

-- what `packs` with these arguments asks for
abbrev pub IsPacksCommand : List Row → Asked → Type 0
IsPacksCommand rows (asked.Packs files) = IsPacks files rows
IsPacksCommand rows (asked.Plan command) = IsPlan command (codes "packs") rows
IsPacksCommand rows other = ⊥

-- what `lint` with these arguments asks for
abbrev pub IsLintCommand : List Row → Asked → Type 0
IsLintCommand rows (asked.Lint files) = IsLint files rows
IsLintCommand rows other = ⊥

-- documents of files are converted, by the sites of a list where one is given
pub record IsConvert (asked : ConvertFiles) (rows : List Row) : Type 0 where
  pub files : all_of (codes "file") rows ≡ Some (map (λ path. path.now) asked.paths.items)
  pub places : option_map (λ t. t.now) asked.places ≡ first_of (codes "places") rows
  pub placed : asked.ways.places ≡ is_some asked.places
  pub lots : IsTrue asked.ways.lots ↔ IsSet rows (codes "lots")
  pub links : IsTrue asked.ways.links ↔ IsSet rows (codes "links")
  pub errors : IsTrue asked.ways.errors ↔ IsSet rows (codes "keep-errors")
  pub most : GivesMost rows asked.most
  pub form : GivesForm rows asked.form

-- what `convert` with these arguments asks for
abbrev pub IsConvertCommand : List Row → Asked → Type 0
IsConvertCommand rows (asked.Convert files) = IsConvert files rows
IsConvertCommand rows other = ⊥

-- what `capture` with these arguments asks for
abbrev pub IsCapture : List Row → Asked → Type 0
IsCapture rows (asked.Files command terms) = IsCommand command (codes "capture") rows × GivesTerms rows terms
IsCapture rows (asked.Batch batch) = IsBatch batch (codes "capture") rows
IsCapture rows (asked.Mistake text) = AsksLinesAndEvents rows
IsCapture rows other = ⊥

-- and what `start` with them asks for
abbrev pub IsStart : List Row → Asked → Type 0
IsStart rows (asked.Files command terms) = IsCommand command (codes "start") rows × GivesTerms rows terms
IsStart rows (asked.Batch batch) = IsBatch batch (codes "start") rows
IsStart rows (asked.Plan command) = IsPlan command (codes "start") rows
IsStart rows (asked.Mistake text) = AsksDryBatch rows ⊎ AsksNoPlan rows
IsStart rows other = ⊥

-- no command is asked for, but something is wrong
abbrev pub IsMistake : Asked → Type 0
IsMistake (asked.Mistake text) = ⊤
IsMistake other = ⊥

-- a run is of at most 1,000,000 turns
abbrev pub HasTurns : FileCommand → Type 0
HasTurns (Run dir terms) = terms.turns ≤ 1000000
HasTurns command = ⊤

-- two options exclude each other, a dry start of several recalls is asked for or a plan that there isn't, or an option is there without what it is of
abbrev pub Contradicts : Text → List Row → Type 0
Contradicts name rows =
    AsksTwo rows
    ⊎ (((name ≡ codes "capture") × AsksLinesAndEvents rows) ⊎ (((name ≡ codes "start") × (AsksDryBatch rows ⊎ AsksNoPlan rows)) ⊎ AsksIdleSpelling name rows))

-- the command of this name, with these arguments, is asked for
abbrev pub AsksOf : Text → List Row → Asked → Type 0
AsksOf name rows asked.Sim = name ≡ codes "sim"
AsksOf name rows (asked.Files command terms) = IsCommand command name rows × GivesTerms rows terms
AsksOf name rows (asked.Batch batch) = IsBatch batch name rows
AsksOf name rows (asked.Lint files) = (name ≡ codes "lint") × IsLint files rows
AsksOf name rows (asked.Packs files) = (name ≡ codes "packs") × IsPacks files rows
AsksOf name rows (asked.Plan command) = IsPlan command name rows
AsksOf name rows (asked.Convert files) = (name ≡ codes "convert") × IsConvert files rows
AsksOf name rows (asked.Mistake text) = Contradicts name rows
AsksOf name rows (asked.Help text) = ⊥

-- the named command is asked for
abbrev pub AsksNamed : Option (Text × List Row) → Asked → Type 0
AsksNamed (Some (name, rows)) what = AsksOf name rows what
AsksNamed None what = ⊥

-- nothing is wrong with the words: a script is to be run
abbrev pub AsksSim : List (List ℕ) → Type 0
AsksSim words = (faults_of words ≡ []) × AsksNamed (named words) asked.Sim

-- or a command on files, on these terms
abbrev pub AsksFiles : List (List ℕ) → FileCommand → Terms → Type 0
AsksFiles words command terms = (faults_of words ≡ []) × AsksNamed (named words) (asked.Files command terms)

-- or several inputs are to be taken
abbrev pub AsksBatch : List (List ℕ) → Batch → Type 0
AsksBatch words batch = (faults_of words ≡ []) × AsksNamed (named words) (asked.Batch batch)

-- or documents are to be looked through
abbrev pub AsksLint : List (List ℕ) → LintFiles → Type 0
AsksLint words files = (faults_of words ≡ []) × AsksNamed (named words) (asked.Lint files)

-- or the events by which gaps are closed are asked for
abbrev pub AsksPacks : List (List ℕ) → PackFiles → Type 0
AsksPacks words files = (faults_of words ≡ []) × AsksNamed (named words) (asked.Packs files)

-- or something that is planned
abbrev pub AsksPlan : List (List ℕ) → PlanCommand → Type 0
AsksPlan words command = (faults_of words ≡ []) × AsksNamed (named words) (asked.Plan command)

-- or to be converted
abbrev pub AsksConvert : List (List ℕ) → ConvertFiles → Type 0
AsksConvert words files = (faults_of words ≡ []) × AsksNamed (named words) (asked.Convert files)

abbrev pub AsksHelp : List (List ℕ) → Type 0
AsksHelp words = (kind : ErrorKind) × IsShown kind × IsAmong kind (faults_of words)

-- `clap` finds something else wrong with them
abbrev pub HasFault : List (List ℕ) → Type 0
HasFault words = (kind : ErrorKind) × IsAmong kind (faults_of words) × (¬ IsShown kind)

-- the named command's options contradict one another
abbrev pub IsContradiction : Option (Text × List Row) → Type 0
IsContradiction None = ⊥
IsContradiction (Some (name, rows)) = Contradicts name rows

-- something is wrong with them, and help or the version isn't asked for
abbrev pub IsBad : List (List ℕ) → Type 0
IsBad words = HasFault words ⊎ ((faults_of words ≡ []) × IsContradiction (named words))

-- the words ask for this
abbrev pub AsksFor : List (List ℕ) → Asked → Type 0
AsksFor words asked.Sim = AsksSim words
AsksFor words (asked.Files command terms) = AsksFiles words command terms
AsksFor words (asked.Batch batch) = AsksBatch words batch
AsksFor words (asked.Lint files) = AsksLint words files
AsksFor words (asked.Packs files) = AsksPacks words files
AsksFor words (asked.Plan command) = AsksPlan words command
AsksFor words (asked.Convert files) = AsksConvert words files
AsksFor words (asked.Help text) = AsksHelp words
AsksFor words (asked.Mistake text) = IsBad words

-- what an error of this kind is reported as
abbrev pub IsToldAs : ErrorKind → Asked → Type 0
IsToldAs kind asked.Sim = ⊥
IsToldAs kind (asked.Files command terms) = ⊥
IsToldAs kind (asked.Batch batch) = ⊥
IsToldAs kind (asked.Lint asked_for) = ⊥
IsToldAs kind (asked.Packs asked_for) = ⊥
IsToldAs kind (asked.Plan asked_for) = ⊥
IsToldAs kind (asked.Convert asked_for) = ⊥
IsToldAs kind (asked.Help text) = IsShown kind
IsToldAs kind (asked.Mistake text) = (¬ IsShown kind) × (kind ≢ OutOfMemory)
