-- How a line is read, field by field. Requests.antt says what is read so.
use Rattle.std.specs.Prelude.{ℕ, ◌≡◌, ◌<◌, Bool, ◌||◌, ◌==◌, nat_le, if◌then◌else◌, List, [], ◌∷◌, codes, length, bytes_eq, drop, Option, Some, None, option_map, option_and_then}
use Rattle.std.specs.List.{prefix_len, before_first, after_first}
use Rattle.keeper_core.specs.declared.faults.Keep.{Keep}
use Rattle.keeper_core.specs.declared.faults.Keep.TheVariants.{Old, New}
use Rattle.recall_text.specs.Fields.{is_space, fields}
use Rattle.recall_text.specs.Numbers.{number_of, recall_of}
use Rattle.recall_text.specs.Requests.{Request, Task, most_rounds}
use Rattle.recall_text.specs.Requests as requests
use Rattle.recall_text.specs.declared.lines.Line.{Line}
use Rattle.recall_text.specs.declared.lines.Line.TheVariants as lines
use Rattle.recall_text.specs.declared.tasks.Task.{Task as LineTask}
use Rattle.recall_text.specs.declared.tasks.Task.TheVariants as tasks
use Rattle.recall_text.specs.declared.fields.Words.{Words}
use Rattle.recall_text.specs.declared.fields.Words.TheVariants as words

-- what follows the spaces at the front
abbrev pub past_spaces : List ℕ → List ℕ
past_spaces text = drop (prefix_len is_space text) text

-- the first field, empty where there is none
abbrev pub first_field : List ℕ → List ℕ
first_field text = before_first is_space (past_spaces text)

-- what follows the first field and one space
abbrev pub after_field : List ℕ → List ℕ
after_field text = after_first is_space (past_spaces text)

abbrev pub is_empty : List ℕ → Bool
is_empty bytes = length bytes == 0

-- these are all the fields, or there are more than three
abbrev pub AreFields : List (List ℕ) → Words → Type 0
AreFields all words.None = all ≡ []
AreFields all (words.One a) = all ≡ a.now ∷ []
AreFields all (words.Two a b) = all ≡ a.now ∷ b.now ∷ []
AreFields all (words.Three a b c) = all ≡ a.now ∷ b.now ∷ c.now ∷ []
AreFields all words.More = 3 < length all

abbrev pub capture_found : List ℕ → List ℕ → Option Request
capture_found name document = if is_empty name || is_empty document then None else Some (requests.task (requests.capture name document))

abbrev pub site_found : List ℕ → List ℕ → Option Request
site_found name rest = if is_empty name then None else Some (requests.site name (fields rest))

-- a number of rounds that isn't too great
abbrev pub rounds_found : ℕ → Option Task
rounds_found n = if nat_le n most_rounds then Some (requests.pump n) else None

abbrev pub keep_found : List ℕ → Option Keep
keep_found word = if bytes_eq word (codes "old") then Some Old else (if bytes_eq word (codes "new") then Some New else None)

-- by the first field and one field behind it
unfoldable pub one_found : List ℕ → List ℕ → Option Task
one_found word a =
    if bytes_eq word (codes "deliver") then option_map requests.deliver (number_of a) else
    if bytes_eq word (codes "reopen") then Some (requests.reopen a) else
    if bytes_eq word (codes "pump") then option_and_then rounds_found (number_of a) else
    if bytes_eq word (codes "quarantine") then option_map (λ r. requests.quarantine r.0 r.1) (recall_of a) else None

-- and two fields
unfoldable pub two_found : List ℕ → List ℕ → List ℕ → Option Task
two_found word a b =
    if bytes_eq word (codes "reach") then Some (requests.reach a b) else
    if bytes_eq word (codes "recall") then Some (requests.recall a b) else
    if bytes_eq word (codes "send") then option_map (requests.send a) (number_of b) else
    if bytes_eq word (codes "stop") then option_map (requests.stop a) (keep_found b) else None

-- and three
unfoldable pub three_found : List ℕ → List ℕ → List ℕ → List ℕ → Option Task
three_found word a b c = if bytes_eq word (codes "signal") then option_map (requests.signal a b) (number_of c) else None

-- by the first field and the others
abbrev pub task_found : List ℕ → List (List ℕ) → Option Task
task_found word (a ∷ []) = one_found word a
task_found word (a ∷ b ∷ []) = two_found word a b
task_found word (a ∷ b ∷ c ∷ []) = three_found word a b c
task_found word other = None

-- the same where the others are counted
abbrev pub worded : List ℕ → Words → Option Task
worded word (words.One a) = one_found word a.now
worded word (words.Two a b) = two_found word a.now b.now
worded word (words.Three a b c) = three_found word a.now b.now c.now
worded word other = None

-- by the first field and what follows it
unfoldable pub found : List ℕ → List ℕ → Option Request
found word rest =
    if is_empty word then Some requests.silent else
    if bytes_eq word (codes "capture") then capture_found (first_field rest) (past_spaces (after_field rest)) else
    if bytes_eq word (codes "site") then site_found (first_field rest) (after_field rest) else option_map requests.task (task_found word (fields rest))

-- a task as it was read
abbrev pub task_of : LineTask → Task
task_of (tasks.Capture name document) = requests.capture name.now document.now
task_of (tasks.Reach name item) = requests.reach name.now item.now
task_of (tasks.Recall name item) = requests.recall name.now item.now
task_of (tasks.Send name number) = requests.send name.now number
task_of (tasks.Signal name sender number) = requests.signal name.now sender.now number
task_of (tasks.Deliver place) = requests.deliver place
task_of (tasks.Stop name keep) = requests.stop name.now keep
task_of (tasks.Reopen name) = requests.reopen name.now
task_of (tasks.Pump rounds) = requests.pump rounds
task_of (tasks.Quarantine name number) = requests.quarantine name.now number

-- a line as it was read
abbrev pub request : Line → Option Request
request lines.Silent = Some requests.silent
request lines.Unreadable = None
request (lines.Site name addresses) = Some (requests.site name.now (fields addresses.now))
request (lines.Task task) = Some (requests.task (task_of task))
