-- inputs that are read
use Rattle.std.proofs.Common.{◌≡◌, ◌<◌, ◌+◌, ◌-◌, ℕ, Bool, true, false, List, [], ◌∷◌, ◌++◌, length, map, take, inl, inr, refl, sym, ap, ◌∙◌, subst, arith, append_assoc, append-nil, length-append, if◌then◌else◌}
use Rattle.std.specs.Char.{is_ascii_whitespace}
use Rattle.std.specs.List.{suffix_len}
use Rattle.std.specs.Str.{IsTrimAsciiEnd}
use Rattle.std.proofs.lemmas.List.{length-take-le, map-append}
use Rattle.std.proofs.lemmas.Str.Ascii.{trim_ascii_end_is}
use Rattle.recall_outcomes.specs.declared.faults.Fault.{Fault}
use Rattle.recall_outcomes.specs.declared.faults.Fault.TheVariants.{NoMemory}
use Rattle.site_folders.specs.FileCalls.{FileCall, Failed, Led, ReadFile}
use Rattle.folder_commands.specs.Inputs.{Input}
use Rattle.folder_commands.specs.Words.{FailsToRead, ReadsWord, ReadsWords, is_blank, of_event, of_events, of_line, of_lines}
use Rattle.folder_commands.specs.declared.inputs.Doing.{Doing}
use Rattle.folder_commands.specs.declared.words.WordKind.{WordKind}

-- Of a list so many were taken, and one is next.
module _ {A B : Type 0} (f : A → B) (all taken rest after : List A) (x : A) (left : all ≡ taken ++ rest) (next : rest ≡ x ∷ after) where
  whole : all ≡ taken ++ x ∷ after
  whole = left ∙ ap (λ l. taken ++ l) next

  pub left_more : all ≡ (taken ++ x ∷ []) ++ after
  left_more = whole ∙ sym (append_assoc taken (x ∷ []) after)

  pub fewer : length taken < length all
  fewer = let n : length all ≡ length taken + length (x ∷ after) = ap length whole ∙ length-append taken (x ∷ after) in omega arith

  pub parts_of : map f all ≡ map f taken ++ ((f x ∷ []) ++ map f after)
  parts_of = ap (map f) whole ∙ map-append f taken (x ∷ after)

-- a line of an EPC is cut where its last spaces begin
pub trimmed_line : (line slice trimmed : List ℕ) → slice ≡ line → IsTrimAsciiEnd slice trimmed → take (length trimmed) line ≡ take (length line - suffix_len is_ascii_whitespace line) line
trimmed_line line slice trimmed same trims =
    let is = trim_ascii_end_is slice trimmed trims in
    subst (λ s. take (length trimmed) line ≡ take (length s - suffix_len is_ascii_whitespace s) line) same
    (cut slice trimmed trims is)
  where
    cut : (s r : List ℕ) → IsTrimAsciiEnd s r → r ≡ take (length s - suffix_len is_ascii_whitespace s) s → take (length r) line ≡ take (length s - suffix_len is_ascii_whitespace s) line
    cut s r trims is = ap (λ (n : ℕ). take n line) (ap length is ∙ length-take-le (length s - suffix_len is_ascii_whitespace s) s (omega arith))

-- a blank line has no input, and any other is one
pub blank_line : (doing : Doing) (path : List ℕ) (number : ℕ) (line : List ℕ) → is_blank line ≡ true → of_lines doing path number (line ∷ []) ≡ []
blank_line doing path number line blank = ap (λ b. if b then [] else of_line doing path number line ∷ []) blank

pub other_line : (doing : Doing) (path : List ℕ) (number : ℕ) (line : List ℕ) → is_blank line ≡ false
    → of_lines doing path number (line ∷ []) ≡ of_line doing path number line ∷ []
other_line doing path number line other = ap (λ b. if b then [] else of_line doing path number line ∷ []) other

-- the inputs of a line more
pub lines_more : (doing : Doing) (path : List ℕ) (number : ℕ) (texts : List (List ℕ)) (line : List ℕ)
    → of_lines doing path number (texts ++ line ∷ []) ≡ of_lines doing path number texts ++ of_lines doing path (number + length texts) (line ∷ [])
lines_more doing path number [] line =
    let here : number ≡ number + 0 = omega arith in
    ap (λ (n : ℕ). of_lines doing path n (line ∷ [])) here
lines_more doing path number (text ∷ texts) line =
    let later : (number + 1) + length texts ≡ number + length (text ∷ texts) = omega arith in
    let rest = lines_more doing path (number + 1) texts line ∙ ap (λ (n : ℕ). of_lines doing path (number + 1) texts ++ of_lines doing path n (line ∷ [])) later in
    by_kind (is_blank text) (of_line doing path number text) _ _ _ rest
  where
    by_kind : (blank : Bool) (d : Input) (all some last : List Input) → all ≡ some ++ last
        → (if blank then all else d ∷ all) ≡ (if blank then some else d ∷ some) ++ last
    by_kind true d all some last e = e
    by_kind false d all some last e = ap (λ ds. d ∷ ds) e

-- and of an event more
pub events_more : (path : List ℕ) (number : ℕ) (documents : List (List ℕ)) (document : List ℕ)
    → of_events path number (documents ++ document ∷ []) ≡ of_events path number documents ++ of_event path (number + length documents) document ∷ []
events_more path number [] document =
    let here : number ≡ number + 0 = omega arith in
    ap (λ (n : ℕ). of_event path n document ∷ []) here
events_more path number (d ∷ documents) document =
    let later : (number + 1) + length documents ≡ number + length (d ∷ documents) = omega arith in
    ap (λ es. of_event path number d ∷ es)
    (events_more path (number + 1) documents document ∙ ap (λ (n : ℕ). of_events path (number + 1) documents ++ of_event path n document ∷ []) later)

-- a word more is read
pub reads_word : {K : Type 0} (kind : WordKind) (words : List (List ℕ)) (word : List ℕ) (some last : List Input) (calls more : List (FileCall K))
    → ReadsWords kind words some calls → ReadsWord kind word last more → ReadsWords kind (words ++ word ∷ []) (some ++ last) (calls ++ more)
reads_word kind [] word some last calls more (none, uncalled) one = (
  last,
  [],
  more,
  [],
  one,
  (refl, refl),
  (ap (λ ds. ds ++ last) none ∙ sym (append-nil last)),
  (ap (λ cs. cs ++ more) uncalled ∙ sym (append-nil more)),
)
reads_word kind (w ∷ words) word some last calls more (first, rest, here, there, head, tail, is, calls_are) one = (
  first,
  rest ++ last,
  here,
  there ++ more,
  head,
  reads_word kind words word rest last there more tail one,
  (ap (λ ds. ds ++ last) is ∙ append_assoc first rest last),
  (ap (λ cs. cs ++ more) calls_are ∙ append_assoc here there more),
)

-- a file that can't be read
module _ {F K : Type 0} (does : F → FileCall K → F → Type 0) (path : List ℕ) (old new : F) where
  pub unread_file : (fault : Fault) → does old (Failed path fault) new → Led does old new (FailsToRead path fault)
  unread_file fault failed = record { calls = Failed path fault ∷ []; are = inl refl; led = (new, failed, refl) }

  -- or was read in vain
  pub read_in_vain : (bytes : List ℕ) → does old (ReadFile path bytes) new → Led does old new (FailsToRead path NoMemory)
  read_in_vain bytes read = record { calls = ReadFile path bytes ∷ []; are = inr (refl, inr (bytes, refl)); led = (new, read, refl) }
