-- What a line asks for, as a grammar of whole lines.
use Rattle.std.specs.Prelude.{◌≡◌, ◌≤◌, ℕ, Bool, true, false, List, [], ◌∷◌, ◌++◌, codes, Option, Some, None}
use Rattle.std.specs.Str.{is_utf8}
use Rattle.keeper_core.specs.declared.faults.Keep.{Keep}
use Rattle.keeper_core.specs.declared.faults.Keep.TheVariants.{Old, New}
use Rattle.recall_text.specs.Comments.{is_comment}
use Rattle.recall_text.specs.Fields.{fields, AreSpaces, IsField, BeginsWithField}
use Rattle.recall_text.specs.Numbers.{number_of, recall_of}

-- what is asked of the world
pub data Task : Type 0 where
  -- a site and a document, which is captured there
  capture : List ℕ → List ℕ → Task
  -- a site and the EPC text of an item: the pairs that the item there reaches
  reach : List ℕ → List ℕ → Task
  -- a site and the EPC text of an item, which is recalled there
  recall : List ℕ → List ℕ → Task
  -- a site and the number of its message that is sent
  send : List ℕ → ℕ → Task
  -- a site, and the sender and the number of the message that it signals
  signal : List ℕ → List ℕ → ℕ → Task
  -- the place of the frame that is delivered, from 1 among those sent
  deliver : ℕ → Task
  -- a site that stops in its next step, and the record that it keeps
  stop : List ℕ → Keep → Task
  -- a site that is opened again
  reopen : List ℕ → Task
  -- so many rounds in which all that stands is sent, delivered and signalled
  pump : ℕ → Task
  -- the site that began a recall, and the recall's number there
  quarantine : List ℕ → ℕ → Task

pub data Request : Type 0 where
  -- nothing
  silent : Request
  -- a site with its addresses is added
  site : List ℕ → List (List ℕ) → Request
  task : Task → Request

-- `capture`, the site and the document, with one or more spaces between them; the document goes to the end of the line
pub record IsCapture (line name document : List ℕ) : Type 0 where
  pub front : List ℕ
  pub between : List ℕ
  pub behind : List ℕ
  pub is : line ≡ front ++ (codes "capture" ++ 32 ∷ (between ++ (name ++ 32 ∷ (behind ++ document))))
  pub are_spaces : AreSpaces front × AreSpaces between × AreSpaces behind
  pub is_name : IsField name
  pub begins : BeginsWithField document

-- the word for the record that a stop keeps
abbrev pub keep_word : Keep → List ℕ
keep_word Old = codes "old"
keep_word New = codes "new"

-- the most rounds of a `pump`
abbrev pub most_rounds : ℕ
most_rounds = 1000

-- the fields of a line that asks for a task, but `capture`
abbrev pub AreWords : List (List ℕ) → Task → Type 0
AreWords words (capture name document) = ⊥
AreWords words (reach name item) = words ≡ codes "reach" ∷ name ∷ item ∷ []
AreWords words (recall name item) = words ≡ codes "recall" ∷ name ∷ item ∷ []
AreWords words (send name number) = (digits : List ℕ) × (words ≡ codes "send" ∷ name ∷ digits ∷ []) × (number_of digits ≡ Some number)
AreWords words (signal name sender number) = (digits : List ℕ) × (words ≡ codes "signal" ∷ name ∷ sender ∷ digits ∷ []) × (number_of digits ≡ Some number)
AreWords words (deliver place) = (digits : List ℕ) × (words ≡ codes "deliver" ∷ digits ∷ []) × (number_of digits ≡ Some place)
AreWords words (stop name keep) = words ≡ codes "stop" ∷ name ∷ keep_word keep ∷ []
AreWords words (reopen name) = words ≡ codes "reopen" ∷ name ∷ []
AreWords words (pump rounds) = (digits : List ℕ) × (words ≡ codes "pump" ∷ digits ∷ []) × (number_of digits ≡ Some rounds) × (rounds ≤ most_rounds)
AreWords words (quarantine name number) = (text : List ℕ) × (words ≡ codes "quarantine" ∷ text ∷ []) × (recall_of text ≡ Some (name, number))

-- the line has the form of this request
abbrev pub HasForm : List ℕ → Request → Type 0
HasForm line silent = fields line ≡ []
HasForm line (site name addresses) = fields line ≡ codes "site" ∷ name ∷ addresses
HasForm line (task (capture name document)) = IsCapture line name document
HasForm line (task other) = AreWords (fields line) other

-- the line has the form of the request, or, where none is given, of no request
abbrev pub IsOfForm : List ℕ → Option Request → Type 0
IsOfForm line (Some request) = HasForm line request
IsOfForm line None = (request : Request) → HasForm line request → ⊥

-- by whether the line is a comment, and whether it is UTF-8
abbrev pub AsksAs : List ℕ → Bool → Bool → Option Request → Type 0
AsksAs line true text asked = asked ≡ Some silent
AsksAs line false false asked = asked ≡ None
AsksAs line false true asked = IsOfForm line asked

-- The line asks for this, or, where none is given, it can't be read. A comment asks for nothing, whatever its bytes are.
abbrev pub Asks : List ℕ → Option Request → Type 0
Asks line asked = AsksAs line (is_comment line) (is_utf8 line) asked
