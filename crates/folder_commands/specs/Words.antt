-- The inputs that the words of a batch give, and the calls of the files by which they are read.
use Rattle.std.specs.Prelude.{◌≡◌, ◌+◌, ◌-◌, ◌==◌, ◌||◌, ◌⊎◌, ℕ, Bool, List, [], ◌∷◌, ◌++◌, if◌then◌else◌, codes, length, map, take, Some, None}
use Rattle.std.specs.Char.{is_ascii_whitespace}
use Rattle.std.specs.Fmt.{decimal}
use Rattle.std.specs.List.{list_all, suffix_len}
use Rattle.document_lint.specs.Splitting.{AreEventsOf, IsUnlisted}
use Rattle.recall_outcomes.specs.declared.batches.Task.{Task}
use Rattle.recall_outcomes.specs.declared.batches.Task.TheVariants as tasks
use Rattle.recall_outcomes.specs.declared.faults.Fault.{Fault}
use Rattle.recall_outcomes.specs.declared.faults.Fault.TheVariants.{NoMemory}
use Rattle.site_folders.specs.FileCalls.{FileCall, Failed, ReadFile, ReadLine}
use Rattle.folder_commands.specs.Inputs.{Input}
use Rattle.folder_commands.specs.declared.inputs.Doing.{Doing}
use Rattle.folder_commands.specs.declared.inputs.Doing.TheVariants as doings
use Rattle.folder_commands.specs.declared.words.WordKind.{WordKind}
use Rattle.folder_commands.specs.declared.words.WordKind.TheVariants as kinds

-- what is done with the words of this kind
abbrev pub task_of : WordKind → Task
task_of kinds.Document = tasks.Capture
task_of kinds.DocumentLines = tasks.Capture
task_of kinds.DocumentEvents = tasks.Capture
task_of (kinds.Epc spelling) = tasks.Start
task_of (kinds.EpcLines spelling) = tasks.Start

-- ---- the inputs of a word

-- a file as one document
abbrev pub of_file : List ℕ → List ℕ → Input
of_file path bytes = record { doing = doings.Capture; source = path; bytes = bytes }

-- the document of the event of this number of a file
abbrev pub of_event : List ℕ → ℕ → List ℕ → Input
of_event path number document = record { doing = doings.Capture; source = path ++ (codes " event " ++ decimal number); bytes = document }

-- the documents of a file's events from this one on, of which the first has this number
abbrev pub of_events : List ℕ → ℕ → List (List ℕ) → List Input
of_events path number [] = []
of_events path number (document ∷ documents) = of_event path number document ∷ of_events path (number + 1) documents

-- each event of a file is a document of its own; a file without a list of events is one document
abbrev pub AreByEvent : List ℕ → List ℕ → List Input → Type 0
AreByEvent path bytes inputs =
    ((documents : List (List ℕ)) × AreEventsOf bytes documents × (inputs ≡ of_events path 1 documents))
    ⊎ (IsUnlisted bytes × (inputs ≡ of_file path bytes ∷ []))

-- a word that spells an item itself
abbrev pub of_word : Doing → List ℕ → Input
of_word doing text = record { doing = doing; source = text; bytes = text }

-- a line of spaces, tabs and returns alone is no input
abbrev pub is_space : ℕ → Bool
is_space code = (code == 32) || ((code == 9) || (code == 13))

abbrev pub is_blank : List ℕ → Bool
is_blank line = list_all is_space line

-- an EPC ends before the spaces at the end of its line
abbrev pub line_bytes : Doing → List ℕ → List ℕ
line_bytes doings.Capture line = line
line_bytes (doings.Start spelling) line = take (length line - suffix_len is_ascii_whitespace line) line

-- the input of the line of this number
abbrev pub of_line : Doing → List ℕ → ℕ → List ℕ → Input
of_line doing path number line = record { doing = doing; source = path ++ 58 ∷ decimal number; bytes = line_bytes doing line }

-- the inputs of a file's lines from this one on, of which the first has this number
abbrev pub of_lines : Doing → List ℕ → ℕ → List (List ℕ) → List Input
of_lines doing path number [] = []
of_lines doing path number (line ∷ lines) =
    if is_blank line then of_lines doing path (number + 1) lines else of_line doing path number line ∷ of_lines doing path (number + 1) lines

-- ---- how they are read

-- the lines of a file, one after another
abbrev pub reads_lines : {K : Type 0} → List ℕ → List (List ℕ) → List (FileCall K)
reads_lines path texts = map (λ text. ReadLine path (Some text)) texts

-- all its lines to its end: one input for each that isn't blank
abbrev pub ReadsLines : {K : Type 0} → Doing → List ℕ → List Input → List (FileCall K) → Type 0
ReadsLines doing path inputs calls =
    (texts : List (List ℕ)) × (inputs ≡ of_lines doing path 1 texts) × (calls ≡ reads_lines path texts ++ ReadLine path None ∷ [])

-- the inputs of a word: a file is one document, or has one in each line or in each event, or an EPC in each line; or the word is
-- an EPC itself
abbrev pub ReadsWord : {K : Type 0} → WordKind → List ℕ → List Input → List (FileCall K) → Type 0
ReadsWord kinds.Document path inputs calls =
    (bytes : List ℕ) × (inputs ≡ of_file path bytes ∷ []) × (calls ≡ ReadFile path bytes ∷ [])
ReadsWord kinds.DocumentLines path inputs calls = ReadsLines doings.Capture path inputs calls
ReadsWord kinds.DocumentEvents path inputs calls = (bytes : List ℕ) × AreByEvent path bytes inputs × (calls ≡ ReadFile path bytes ∷ [])
ReadsWord (kinds.Epc spelling) text inputs calls = (inputs ≡ of_word (doings.Start spelling) text ∷ []) × (calls ≡ [])
ReadsWord (kinds.EpcLines spelling) path inputs calls = ReadsLines (doings.Start spelling) path inputs calls

-- of these words, one after another
abbrev pub ReadsWords : {K : Type 0} → WordKind → List (List ℕ) → List Input → List (FileCall K) → Type 0
ReadsWords kind [] inputs calls = (inputs ≡ []) × (calls ≡ [])
ReadsWords {K} kind (word ∷ more) inputs calls =
    (first : List Input) × (rest : List Input) × (here : List (FileCall K)) × (there : List (FileCall K))
    × ReadsWord kind word first here × ReadsWords kind more rest there
    × (inputs ≡ first ++ rest) × (calls ≡ here ++ there)

-- ---- up to a fault

-- a call failed for this path, or none was made
abbrev pub IsUnread : {K : Type 0} → List ℕ → List (FileCall K) → Type 0
IsUnread path calls = (calls ≡ []) ⊎ ((fault : Fault) × (calls ≡ Failed path fault ∷ []))

-- some lines of a file, from its first on
abbrev pub BeginsLines : {K : Type 0} → Doing → List ℕ → List Input → List (FileCall K) → Type 0
BeginsLines {K} doing path inputs calls =
    (texts : List (List ℕ)) × (last : List (FileCall K)) × (inputs ≡ of_lines doing path 1 texts)
    × IsUnread path last × (calls ≡ reads_lines path texts ++ last)

-- no input was made of a file: it couldn't be read, or memory ran out
abbrev pub ReadsNone : {K : Type 0} → List ℕ → List (FileCall K) → Type 0
ReadsNone path calls = IsUnread path calls ⊎ ((bytes : List ℕ) × (calls ≡ ReadFile path bytes ∷ []))

-- what was read of a word, and the inputs that this gives: all of it, or some lines, or nothing
abbrev pub BeginsWord : {K : Type 0} → WordKind → List ℕ → List Input → List (FileCall K) → Type 0
BeginsWord kinds.DocumentLines path inputs calls = BeginsLines doings.Capture path inputs calls
BeginsWord (kinds.EpcLines spelling) path inputs calls = BeginsLines (doings.Start spelling) path inputs calls
BeginsWord kind word inputs calls = ReadsWord kind word inputs calls ⊎ ((inputs ≡ []) × ReadsNone word calls)

-- of some words: the first of them were read, and a beginning of the next one
pub record BeginsWords {K : Type 0} (kind : WordKind) (words : List (List ℕ)) (inputs : List Input) (calls : List (FileCall K)) : Type 0 where
  pub first : List (List ℕ)
  pub word : List ℕ
  pub others : List (List ℕ)
  pub words_are : words ≡ first ++ word ∷ others
  pub before : List Input
  pub reads : List (FileCall K)
  pub read : ReadsWords kind first before reads
  pub here : List Input
  pub more : List (FileCall K)
  pub begun : BeginsWord kind word here more
  pub inputs_are : inputs ≡ before ++ here
  pub calls_are : calls ≡ reads ++ more

-- why the inputs of a word can't be read: a call failed, or memory ran out
abbrev pub FailsToRead : {K : Type 0} → List ℕ → Fault → List (FileCall K) → Type 0
FailsToRead path fault calls = (calls ≡ Failed path fault ∷ []) ⊎ ((fault ≡ NoMemory) × ((calls ≡ []) ⊎ ((bytes : List ℕ) × (calls ≡ ReadFile path bytes ∷ []))))

-- ---- where the inputs of a site come from

-- they are those of words; or these, as they are given, which count as those of a task
pub data InputsFrom : Type 0 where
  Words : WordKind → List (List ℕ) → InputsFrom
  Texts : Task → List Input → InputsFrom

abbrev pub task_from : InputsFrom → Task
task_from (Words kind words) = task_of kind
task_from (Texts task inputs) = task

-- they were read, by these calls
abbrev pub ReadsFrom : {K : Type 0} → InputsFrom → List Input → List (FileCall K) → Type 0
ReadsFrom (Words kind words) inputs calls = ReadsWords kind words inputs calls
ReadsFrom (Texts task given) inputs calls = (inputs ≡ given) × (calls ≡ [])

-- up to a fault, some of them were
abbrev pub BeginsFrom : {K : Type 0} → InputsFrom → List Input → List (FileCall K) → Type 0
BeginsFrom (Words kind words) inputs calls = BeginsWords kind words inputs calls
BeginsFrom (Texts task given) inputs calls = (inputs ≡ given) × (calls ≡ [])
