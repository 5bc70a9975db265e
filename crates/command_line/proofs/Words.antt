-- what some command lines ask for
use Rattle.std.proofs.Common.{◌≡◌, ◌↔◌, ℕ, Bool, Bor, true, false, List, [], ◌∷◌, Option, Some, None, Result, Ok, Err, IfNone, IfOk, IfSome, arith, codes, length, map, get_or, refl, sym, ap, ◌∙◌, subst, ⊎_elim, inl, inr, ◌≢◌}
use mathlib.Core.Bool.{false≢true, true≢false}
use Rattle.std.specs.Prelude.{IsTrue, bytes_eq}
use Rattle.std.specs.Option.{ok_or}
use Rattle.std.specs.Result.{result_ok}
use Rattle.std.proofs.lemmas.List.{length-map}
use Rattle.std.proofs.lemmas.Option.{same_Some}
use Rattle.std.proofs.lemmas.Slice.Eq.{bytes_eq-Decides}
use Rattle.std.specs.declared.alloc.AllocError.{AllocError}
use Rattle.clap.specs.Words.{IsAmong, Row, Text, all_of, first_of, is_simple, is_simple_and_free}
use Rattle.clap.specs.declared.error.ErrorKind.{ErrorKind}
use Rattle.clap.specs.declared.error.ErrorKind.TheVariants.{DisplayHelp, DisplayVersion, OutOfMemory}
use Rattle.clap.proofs.OnLiterals.{clap_on_literals}
use Rattle.command_line.specs.declared.asked.Asked.{Asked}
use Rattle.command_line.specs.declared.asked.Asked.TheVariants as asked
use Rattle.command_line.specs.declared.asked.Batch.{Batch}
use Rattle.command_line.specs.declared.asked.Terms.{Terms}
use Rattle.item_spellings.specs.declared.spellings.Spelled.{Spelled}
use Rattle.item_spellings.specs.declared.spellings.Spelling.{Spelling}
use Rattle.item_spellings.specs.declared.spellings.Spelling.TheVariants as spellings
use Rattle.folder_commands.specs.declared.words.WordKind.{WordKind}
use Rattle.folder_commands.specs.declared.words.WordKind.TheVariants as kinds
use Rattle.command_line.specs.declared.asked.FileCommand.{FileCommand}
use Rattle.command_line.specs.declared.convert_commands.ConvertFiles.{ConvertFiles}
use Rattle.command_line.specs.declared.lint_commands.LintFiles.{LintFiles}
use Rattle.command_line.specs.declared.pack_commands.PackFiles.{PackFiles}
use Rattle.command_line.specs.declared.plan_commands.Aim.{Aim}
use Rattle.command_line.specs.declared.plan_commands.Aim.TheVariants.{Contents, EachSite, Gaps as Misses, Packs as Packings}
use Rattle.command_line.specs.declared.plan_commands.PlanCommand.{PlanCommand}
use Rattle.command_line.specs.declared.asked.FileCommand.TheVariants.{Init, Copy, Capture, Start, Run, Report, Audit, Trace, TraceContents, Recalls, Recall, Items, Inside, Coverage, Gaps, Missed}
use Rattle.command_line.specs.CommandLines.{recall, faults_of, named, AsksBatch, AsksDryBatch, AsksFiles, AsksNoAim, AsksNoPlan, AsksPlan, AsksHelp, AsksLinesAndEvents, AsksLint, AsksNamed, AsksOf, AsksPacks, AsksTwo, AsksTwoForms, Contradicts, GivesDocuments, GivesEpcs, GivesFiles, GivesLone, GivesSpelling, GivesWords, IsBad, IsBatch, IsCapture, IsCommand, IsContradiction, IsLintCommand, IsMistake, IsAim, IsPacksCommand, IsPlain, IsPlan, IsSet, IsShown, IsStart, AsksFor, IsToldAs, IsUnset, epcs_kind, has_many, words_of, AsksConvert, IsConvertCommand}
use mathlib.Core.Logic.{◌⊎◌}

-- `clap`'s contract says which errors the command gives
pub recall_is_told : is_simple_and_free recall ≡ true
unfolding clap_on_literals
recall_is_told = refl

-- and what the words give where there is none
pub recall_is_simple : is_simple recall ≡ true
unfolding clap_on_literals
recall_is_simple = refl

sim_faults : (name : List ℕ) → faults_of (name ∷ codes "sim" ∷ []) ≡ []
unfolding clap_on_literals
sim_faults name = refl

sim_named : (name : List ℕ) → named (name ∷ codes "sim" ∷ []) ≡ Some (codes "sim", [])
unfolding clap_on_literals
sim_named name = refl

-- no command on files has the name `sim`
sim_is_no_command : (command : FileCommand) (rows : List Row) → IsCommand command (codes "sim") rows → ⊥
sim_is_no_command (Init folder list) rows is = let bad = is.0 in cc
sim_is_no_command (Copy folder to) rows is = let bad = is.0 in cc
sim_is_no_command (Capture folder site file) rows is = let bad = is.0 in cc
sim_is_no_command (Start folder site item dry) rows is = let bad = is.0 in cc
sim_is_no_command (Run folder terms) rows is = let bad : ◌≡◌ {A = ℕ} 115 114 = ap (λ (text : List ℕ). get_or text 0 0) is.0 in absurd (omega arith)
sim_is_no_command (Report folder recall ways events) rows is = let bad = is.0 in cc
sim_is_no_command (Audit folder ended coded) rows is = let bad = is.0 in cc
sim_is_no_command (Inside folder site item text) rows is = let bad = is.0 in cc
sim_is_no_command (Coverage folder) rows is = let bad = is.0 in cc
sim_is_no_command (Gaps folder all coded) rows is = let bad = is.0 in cc
sim_is_no_command (Missed folder recall coded) rows is = let bad = is.0 in cc
sim_is_no_command (Trace folder site item back ways events) rows is = let bad = is.0 in cc
sim_is_no_command (TraceContents folder site item ways) rows is = let bad = is.0 in cc
sim_is_no_command (Recalls folder coded) rows is = let bad = is.0 in cc
sim_is_no_command (Recall folder recall coded) rows is = let bad = is.0 in cc
sim_is_no_command (Items folder site text) rows is = let bad = is.0 in cc

-- without arguments no form is asked for
nothing_set : (name : Text) → IsSet [] name → ⊥
nothing_set name is = cc

no_forms : AsksTwoForms [] → ⊥
no_forms (inl both) = nothing_set (codes "json") both.0
no_forms (inr (inl both)) = nothing_set (codes "json") both.0
no_forms (inr (inr (inl both))) = nothing_set (codes "json") both.0
no_forms (inr (inr (inr (inl both)))) = nothing_set (codes "csv") both.0
no_forms (inr (inr (inr (inr (inl both))))) = nothing_set (codes "csv") both.0
no_forms (inr (inr (inr (inr (inr both))))) = nothing_set (codes "csv-guarded") both.0

nothing_twice : AsksTwo [] → ⊥
nothing_twice (inl forms) = no_forms forms
nothing_twice (inr (inl both)) = nothing_set (codes "key") both.0
nothing_twice (inr (inr (inl untold))) = nothing_set (codes "events") untold.0
nothing_twice (inr (inr (inr (inl both)))) = nothing_set (codes "contents") both.0
nothing_twice (inr (inr (inr (inr all)))) = nothing_set (codes "all") all.0

-- `sim` has no options that contradict one another
no_contradiction : Contradicts (codes "sim") [] → ⊥
no_contradiction (inl two) = nothing_twice two
no_contradiction (inr (inl (is, both))) = nothing_set (codes "lines") both.0
no_contradiction (inr (inr (inl (is, other)))) = let bad = is in cc
no_contradiction (inr (inr (inr idle))) = let bad = idle.0 in cc

-- and no inputs
sim_has_no_words : (kind : WordKind) (rows : List Row) (words : List Text) → GivesWords (codes "sim") rows kind words → ⊥
sim_has_no_words kinds.Document rows words is = let bad : ◌≡◌ {A = ℕ} 115 99 = ap (λ (text : List ℕ). get_or text 0 0) is.0 in absurd (omega arith)
sim_has_no_words kinds.DocumentLines rows words is = let bad : ◌≡◌ {A = ℕ} 115 99 = ap (λ (text : List ℕ). get_or text 0 0) is.0 in absurd (omega arith)
sim_has_no_words kinds.DocumentEvents rows words is = let bad : ◌≡◌ {A = ℕ} 115 99 = ap (λ (text : List ℕ). get_or text 0 0) is.0 in absurd (omega arith)
sim_has_no_words (kinds.Epc spelling) rows words is = let bad = is.0 in cc
sim_has_no_words (kinds.EpcLines spelling) rows words is = let bad = is.0 in cc

-- and no plan
sim_has_no_aim : (aim : Aim) (rows : List Row) → IsAim aim (codes "sim") rows → ⊥
sim_has_no_aim (Contents site item) rows is = let bad = is.0 in cc
sim_has_no_aim (EachSite site item) rows is = let bad = is.0 in cc
sim_has_no_aim (Misses site recall) rows is = let bad = is.0 in cc
sim_has_no_aim (Packings site) rows is = let bad : ◌≡◌ {A = ℕ} 115 112 = ap (λ (text : List ℕ). get_or text 0 0) is.0 in absurd (omega arith)

module _ (words : List (List ℕ)) (name : List ℕ) where
  pub sim_is_no_help : AsksHelp words → words ≡ name ∷ codes "sim" ∷ [] → ⊥
  sim_is_no_help (kind, shown, among) e = subst (λ kinds. IsAmong kind kinds) (ap faults_of e ∙ sim_faults name) among

  pub sim_is_not_bad : IsBad words → words ≡ name ∷ codes "sim" ∷ [] → ⊥
  sim_is_not_bad (inl (kind, among, other)) e = subst (λ kinds. IsAmong kind kinds) (ap faults_of e ∙ sim_faults name) among
  sim_is_not_bad (inr (none, two)) e = no_contradiction (subst IsContradiction (ap named e ∙ sim_named name) two)

  pub sim_is_no_files : (command : FileCommand) (terms : Terms) → AsksFiles words command terms → words ≡ name ∷ codes "sim" ∷ [] → ⊥
  sim_is_no_files command terms asks e =
      let is : AsksNamed (Some (codes "sim", [])) (asked.Files command terms) = subst (λ found. AsksNamed found (asked.Files command terms)) (ap named e ∙ sim_named name) asks.1 in
      sim_is_no_command command [] is.0

  pub sim_is_no_batch : (batch : Batch) → AsksBatch words batch → words ≡ name ∷ codes "sim" ∷ [] → ⊥
  sim_is_no_batch batch asks e =
      let is : AsksNamed (Some (codes "sim", [])) (asked.Batch batch) = subst (λ found. AsksNamed found (asked.Batch batch)) (ap named e ∙ sim_named name) asks.1 in
      sim_has_no_words batch.kind [] (words_of batch) is.words

  pub sim_is_no_lint : (files : LintFiles) → AsksLint words files → words ≡ name ∷ codes "sim" ∷ [] → ⊥
  sim_is_no_lint files asks e =
      let is : AsksNamed (Some (codes "sim", [])) (asked.Lint files) = subst (λ found. AsksNamed found (asked.Lint files)) (ap named e ∙ sim_named name) asks.1 in
      let bad : ◌≡◌ {A = ℕ} 115 108 = ap (λ (text : List ℕ). get_or text 0 0) is.0 in absurd (omega arith)

  pub sim_is_no_packs : (files : PackFiles) → AsksPacks words files → words ≡ name ∷ codes "sim" ∷ [] → ⊥
  sim_is_no_packs files asks e =
      let is : AsksNamed (Some (codes "sim", [])) (asked.Packs files) = subst (λ found. AsksNamed found (asked.Packs files)) (ap named e ∙ sim_named name) asks.1 in
      let bad : ◌≡◌ {A = ℕ} 115 112 = ap (λ (text : List ℕ). get_or text 0 0) is.0 in absurd (omega arith)

  pub sim_is_no_plan : (command : PlanCommand) → AsksPlan words command → words ≡ name ∷ codes "sim" ∷ [] → ⊥
  sim_is_no_plan command asks e =
      let is : AsksNamed (Some (codes "sim", [])) (asked.Plan command) = subst (λ found. AsksNamed found (asked.Plan command)) (ap named e ∙ sim_named name) asks.1 in
      sim_has_no_aim command.aim [] is.aim

  pub sim_is_no_convert : (files : ConvertFiles) → AsksConvert words files → words ≡ name ∷ codes "sim" ∷ [] → ⊥
  sim_is_no_convert files asks e =
      let is : AsksNamed (Some (codes "sim", [])) (asked.Convert files) = subst (λ found. AsksNamed found (asked.Convert files)) (ap named e ∙ sim_named name) asks.1 in
      let bad : ◌≡◌ {A = ℕ} 115 99 = ap (λ (text : List ℕ). get_or text 0 0) is.0 in absurd (omega arith)

memory_is_not_shown : IsShown OutOfMemory → ⊥
memory_is_not_shown (inl help) = let bad : OutOfMemory ≡ DisplayHelp = help in let no : true ≡ false = cc in absurd (true≢false no)
memory_is_not_shown (inr version) = let bad : OutOfMemory ≡ DisplayVersion = version in let no : true ≡ false = cc in absurd (true≢false no)

-- an error is reported as what it says of the words
pub asks_told : (words : List (List ℕ)) (kind : ErrorKind) (told_as : Asked) → (kind ≡ OutOfMemory) ⊎ IsAmong kind (faults_of words) → IsToldAs kind told_as → AsksFor words told_as
asks_told words kind asked.Sim has told = absurd told
asks_told words kind (asked.Files command terms) has told = absurd told
asks_told words kind (asked.Batch batch) has told = absurd told
asks_told words kind (asked.Lint files) has told = absurd told
asks_told words kind (asked.Packs files) has told = absurd told
asks_told words kind (asked.Plan command) has told = absurd told
asks_told words kind (asked.Convert files) has told = absurd told
asks_told words kind (asked.Help text) has told =
    ⊎_elim (λ memory. absurd (memory_is_not_shown (subst IsShown memory told))) (λ among. (kind, told, among)) has
asks_told words kind (asked.Mistake text) has told = ⊎_elim (λ memory. absurd (told.1 memory)) (λ among. inl (kind, among, told.0)) has

-- a command that was met is asked for, where nothing is wrong with the words
pub asks_named : (words : List (List ℕ)) (told_as : Asked) → faults_of words ≡ [] → AsksNamed (named words) told_as → AsksFor words told_as
asks_named words asked.Sim none is = (none, is)
asks_named words (asked.Files command terms) none is = (none, is)
asks_named words (asked.Batch batch) none is = (none, is)
asks_named words (asked.Lint files) none is = (none, is)
asks_named words (asked.Packs files) none is = (none, is)
asks_named words (asked.Plan command) none is = (none, is)
asks_named words (asked.Convert files) none is = (none, is)
asks_named words (asked.Help text) none is = absurd (no_help (named words) is)
  where
    no_help : (found : Option (Text × List Row)) → AsksNamed found (asked.Help text) → ⊥
    no_help None is = is
    no_help (Some entry) is = is
asks_named words (asked.Mistake text) none is = inr (none, two (named words) is)
  where
    two : (found : Option (Text × List Row)) → AsksNamed found (asked.Mistake text) → IsContradiction found
    two None is = is
    two (Some entry) is = is

-- and so where a command was met at all, or else memory ran out
pub asks_some : (words : List (List ℕ)) (found : Option Asked) (result : Result Asked AllocError) (error : AllocError) → result ≡ ok_or {E = AllocError} found error
    → faults_of words ≡ [] → IfSome found (AsksNamed (named words)) → IfOk result (AsksFor words)
asks_some words None result error e none is = subst (λ (r : Result Asked AllocError). IfOk r (AsksFor words)) (sym e) tt
asks_some words (Some told_as) result error e none is = subst (λ (r : Result Asked AllocError). IfOk r (AsksFor words)) (sym e) (asks_named words told_as none is)

-- a plan of one name is one of the same name
plan_named : (command : PlanCommand) (name same : Text) (rows : List Row) → name ≡ same → IsPlan command same rows → IsPlan command name rows
plan_named command name same rows e is = subst (λ (n : Text). IsPlan command n rows) (sym e) is

-- what `capture` asks for is asked for by that name
pub capture_named : (name : Text) (rows : List Row) (result : Option Asked) → name ≡ codes "capture" → IfSome result (IsCapture rows) → IfSome result (AsksOf name rows)
capture_named name rows None e is = tt
capture_named name rows (Some asked.Sim) e is = absurd is
capture_named name rows (Some (asked.Files command terms)) e is = (subst (λ (n : Text). IsCommand command n rows) (sym e) is.0, is.1)
capture_named name rows (Some (asked.Batch batch)) e is = subst (λ (n : Text). IsBatch batch n rows) (sym e) is
capture_named name rows (Some (asked.Lint files)) e is = absurd is
capture_named name rows (Some (asked.Packs files)) e is = absurd is
capture_named name rows (Some (asked.Plan command)) e is = absurd is
capture_named name rows (Some (asked.Convert files)) e is = absurd is
capture_named name rows (Some (asked.Help text)) e is = absurd is
capture_named name rows (Some (asked.Mistake text)) e is = inr (inl (e, is))

-- and what `start` asks for, by its name
pub start_named : (name : Text) (rows : List Row) (result : Option Asked) → name ≡ codes "start" → IfSome result (IsStart rows) → IfSome result (AsksOf name rows)
start_named name rows None e is = tt
start_named name rows (Some asked.Sim) e is = absurd is
start_named name rows (Some (asked.Files command terms)) e is = (subst (λ (n : Text). IsCommand command n rows) (sym e) is.0, is.1)
start_named name rows (Some (asked.Batch batch)) e is = subst (λ (n : Text). IsBatch batch n rows) (sym e) is
start_named name rows (Some (asked.Lint files)) e is = absurd is
start_named name rows (Some (asked.Packs files)) e is = absurd is
start_named name rows (Some (asked.Plan command)) e is = plan_named command name (codes "start") rows e is
start_named name rows (Some (asked.Convert files)) e is = absurd is
start_named name rows (Some (asked.Help text)) e is = absurd is
start_named name rows (Some (asked.Mistake text)) e is = inr (inr (inl (e, is)))

-- what `lint` asks for is asked for by that name
pub lint_named : (name : Text) (rows : List Row) (result : Option Asked) → name ≡ codes "lint" → IfSome result (IsLintCommand rows) → IfSome result (AsksOf name rows)
lint_named name rows None e is = tt
lint_named name rows (Some asked.Sim) e is = absurd is
lint_named name rows (Some (asked.Files command terms)) e is = absurd is
lint_named name rows (Some (asked.Batch batch)) e is = absurd is
lint_named name rows (Some (asked.Lint files)) e is = (e, is)
lint_named name rows (Some (asked.Packs files)) e is = absurd is
lint_named name rows (Some (asked.Plan command)) e is = absurd is
lint_named name rows (Some (asked.Convert files)) e is = absurd is
lint_named name rows (Some (asked.Help text)) e is = absurd is
lint_named name rows (Some (asked.Mistake text)) e is = absurd is

-- what `packs` asks for is asked for by that name
pub packs_named : (name : Text) (rows : List Row) (result : Option Asked) → name ≡ codes "packs" → IfSome result (IsPacksCommand rows) → IfSome result (AsksOf name rows)
packs_named name rows None e is = tt
packs_named name rows (Some asked.Sim) e is = absurd is
packs_named name rows (Some (asked.Files command terms)) e is = absurd is
packs_named name rows (Some (asked.Batch batch)) e is = absurd is
packs_named name rows (Some (asked.Lint files)) e is = absurd is
packs_named name rows (Some (asked.Packs files)) e is = (e, is)
packs_named name rows (Some (asked.Plan command)) e is = plan_named command name (codes "packs") rows e is
packs_named name rows (Some (asked.Convert files)) e is = absurd is
packs_named name rows (Some (asked.Help text)) e is = absurd is
packs_named name rows (Some (asked.Mistake text)) e is = absurd is

-- and what `convert` asks for, by its name
pub convert_named : (name : Text) (rows : List Row) (result : Option Asked) → name ≡ codes "convert" → IfSome result (IsConvertCommand rows) → IfSome result (AsksOf name rows)
convert_named name rows None e is = tt
convert_named name rows (Some asked.Sim) e is = absurd is
convert_named name rows (Some (asked.Files command terms)) e is = absurd is
convert_named name rows (Some (asked.Batch batch)) e is = absurd is
convert_named name rows (Some (asked.Lint files)) e is = absurd is
convert_named name rows (Some (asked.Packs files)) e is = absurd is
convert_named name rows (Some (asked.Plan command)) e is = absurd is
convert_named name rows (Some (asked.Convert files)) e is = (e, is)
convert_named name rows (Some (asked.Help text)) e is = absurd is
convert_named name rows (Some (asked.Mistake text)) e is = absurd is

-- what a name and its rows ask for is asked for where they are what was found
pub found_named : (found : Option (Text × List Row)) (name : Text) (rows : List Row) (result : Option Asked) → found ≡ Some (name, rows) → IfSome result (AsksOf name rows) → IfSome result (AsksNamed found)
found_named found name rows None e is = tt
found_named found name rows (Some what) e is = subst (λ (f : Option (Text × List Row)). AsksNamed f what) (sym e) is

-- what holds where there is none
pub where_none : {X : Type 0} (result : Option X) (A : Type 0) → IfNone result A → ((x : X) → result ≡ Some x → ⊥) → A
where_none None A holds none = holds
where_none (Some x) A holds none = absurd (none x refl)

-- where options contradict one another, that is what is wrong
pub mistake_named : (found : Option (Text × List Row)) (result : Option Asked) → IsContradiction found → IfSome result IsMistake → IfSome result (AsksNamed found)
mistake_named found None two is = tt
mistake_named found (Some asked.Sim) two is = absurd is
mistake_named found (Some (asked.Files command terms)) two is = absurd is
mistake_named found (Some (asked.Batch batch)) two is = absurd is
mistake_named found (Some (asked.Lint files)) two is = absurd is
mistake_named found (Some (asked.Packs files)) two is = absurd is
mistake_named found (Some (asked.Plan command)) two is = absurd is
mistake_named found (Some (asked.Convert files)) two is = absurd is
mistake_named found (Some (asked.Help text)) two is = absurd is
mistake_named None (Some (asked.Mistake text)) two is = two
mistake_named (Some entry) (Some (asked.Mistake text)) two is = two

-- the option has a text, or it isn't there
pub set_where : (rows : List Row) (name text : Text) (b : Bool) → first_of name rows ≡ Some text → b ≡ bytes_eq text (codes "true") → IsTrue b ↔ IsSet rows name
set_where rows name text b has is = (
  λ t. has ∙ ap Some ((bytes_eq-Decides text (codes "true")).0 (sym is ∙ t)),
  λ given. is ∙ (bytes_eq-Decides text (codes "true")).1 (same_Some text (codes "true") (sym has ∙ given)),
)

pub unset_where : (rows : List Row) (name : Text) → first_of name rows ≡ None → IsTrue false ↔ IsSet rows name
unset_where rows name none = (
  λ t. absurd (false≢true t),
  λ given. let bad : ◌≡◌ {A = Option Text} None (Some (codes "true")) = sym none ∙ given in cc,
)

-- the argument is there, or it isn't
pub there_where : (rows : List Row) (name text : Text) → first_of name rows ≡ Some text → IsTrue false ↔ (first_of name rows ≡ None)
there_where rows name text has = (
  λ t. absurd (false≢true t),
  λ none. let bad : ◌≡◌ {A = Option Text} None (Some text) = sym none ∙ has in cc,
)

pub absent_where : (rows : List Row) (name : Text) → first_of name rows ≡ None → IsTrue true ↔ (first_of name rows ≡ None)
absent_where rows name none = (λ t. none, λ n. refl)

-- what isn't there
pub not_set : {P : Type 0} (b : Bool) → b ≡ false → IsTrue b ↔ P → IsTrue false ↔ P
not_set b e is = (λ t. absurd (false≢true t), λ p. sym e ∙ is.1 p)

-- inputs that aren't one word's one: there are lines, or not one word
pub are_several : (one by_lines : Bool) (n : ℕ) → IsTrue one ↔ ((by_lines ≡ false) × (n ≡ 1)) → one ≡ false → (by_lines ≡ true) ⊎ (n ≢ 1)
are_several one true n is other = inl refl
are_several one false n is other = inr (λ n_is. false≢true (sym other ∙ is.1 (refl, n_is)))

-- and so of a batch of this kind
pub several_of : (kind : WordKind) (many : Bool) (n m : ℕ) → has_many kind ≡ many → n ≡ m → (many ≡ true) ⊎ (n ≢ 1) → (has_many kind ≡ true) ⊎ (m ≢ 1)
several_of kind many n m of_kind same (inl t) = inl (of_kind ∙ t)
several_of kind many n m of_kind same (inr other) = inr (subst (λ (k : ℕ). k ≢ 1) same other)

pub epcs_have_lines : (by_lines : Bool) (spelling : Spelling) → has_many (epcs_kind by_lines spelling) ≡ by_lines
epcs_have_lines false spelling = refl
epcs_have_lines true spelling = refl

-- documents of which a word is one are whole files
pub whole_files : (rows : List Row) (kind : WordKind) → has_many kind ≡ false → GivesDocuments rows kind → GivesDocuments rows kinds.Document
whole_files rows kinds.Document one given = given
whole_files rows kinds.DocumentLines one given = absurd (false≢true (sym one))
whole_files rows kinds.DocumentEvents one given = absurd (false≢true (sym one))
whole_files rows (kinds.Epc spelling) one given = absurd given
whole_files rows (kinds.EpcLines spelling) one given = absurd given

-- what the words are is given
pub gives_documents : (rows : List Row) (words : List Text) (kind : WordKind) → GivesFiles rows words kind → GivesWords (codes "capture") rows kind words
gives_documents rows words kinds.Document given = (refl, given)
gives_documents rows words kinds.DocumentLines given = (refl, given)
gives_documents rows words kinds.DocumentEvents given = (refl, given)
gives_documents rows words (kinds.Epc spelling) given = absurd given.1
gives_documents rows words (kinds.EpcLines spelling) given = absurd given.1

pub gives_epcs : (rows : List Row) (words : List Text) (by_lines : Bool) (spelling : Spelling) → GivesEpcs rows words by_lines → IsUnset rows (codes "dry-run") → GivesSpelling rows spelling → IsPlain rows
    → GivesWords (codes "start") rows (epcs_kind by_lines spelling) words
gives_epcs rows words false spelling given wet spells plain = (refl, given, wet, spells, plain)
gives_epcs rows words true spelling given wet spells plain = (refl, given, wet, spells, plain)

-- a list of one text
pub one_text_alone : (texts : List (Bor Text)) (d : Bor Text) → length texts ≡ 1 → map (λ t. t.now) texts ≡ (get_or texts 0 d).now ∷ []
one_text_alone [] d one = absurd (omega (arith, one))
one_text_alone (t ∷ []) d one = refl
one_text_alone (t ∷ u ∷ texts) d one = absurd (omega (arith, one))

-- where a dry start of several recalls is asked for, or a plan that there isn't, that is what is wrong
pub mistake_there : (rows : List Row) (result : Result Asked AllocError) (told : Option Asked) → told ≡ result_ok result → IfOk result IsMistake → AsksDryBatch rows ⊎ AsksNoPlan rows → IfSome told (IsStart rows)
mistake_there rows (Err e) told is mistakes dry = subst (λ o. IfSome o (IsStart rows)) (sym is) tt
mistake_there rows (Ok asked.Sim) told is mistakes dry = absurd mistakes
mistake_there rows (Ok (asked.Files command terms)) told is mistakes dry = absurd mistakes
mistake_there rows (Ok (asked.Batch batch)) told is mistakes dry = absurd mistakes
mistake_there rows (Ok (asked.Lint files)) told is mistakes dry = absurd mistakes
mistake_there rows (Ok (asked.Packs files)) told is mistakes dry = absurd mistakes
mistake_there rows (Ok (asked.Plan command)) told is mistakes dry = absurd mistakes
mistake_there rows (Ok (asked.Convert files)) told is mistakes dry = absurd mistakes
mistake_there rows (Ok (asked.Help text)) told is mistakes dry = absurd mistakes
mistake_there rows (Ok (asked.Mistake text)) told is mistakes dry = subst (λ o. IfSome o (IsStart rows)) (sym is) dry

-- where the lines and the events are to be taken on their own, that is
pub lines_and_events : (rows : List Row) (result : Result Asked AllocError) (told : Option Asked) → told ≡ result_ok result → IfOk result IsMistake → AsksLinesAndEvents rows
    → IfSome told (IsCapture rows)
lines_and_events rows (Err e) told is mistakes both = subst (λ o. IfSome o (IsCapture rows)) (sym is) tt
lines_and_events rows (Ok asked.Sim) told is mistakes both = absurd mistakes
lines_and_events rows (Ok (asked.Files command terms)) told is mistakes both = absurd mistakes
lines_and_events rows (Ok (asked.Batch batch)) told is mistakes both = absurd mistakes
lines_and_events rows (Ok (asked.Lint files)) told is mistakes both = absurd mistakes
lines_and_events rows (Ok (asked.Packs files)) told is mistakes both = absurd mistakes
lines_and_events rows (Ok (asked.Plan command)) told is mistakes both = absurd mistakes
lines_and_events rows (Ok (asked.Convert files)) told is mistakes both = absurd mistakes
lines_and_events rows (Ok (asked.Help text)) told is mistakes both = absurd mistakes
lines_and_events rows (Ok (asked.Mistake text)) told is mistakes both = subst (λ o. IfSome o (IsCapture rows)) (sym is) both

-- what is said of a result that is there
pub ok_there : {V E : Type 0} (P : V → Type 0) (r : Result V E) (v : V) → Some v ≡ result_ok r → IfOk r P → P v
ok_there P (Ok x) v is holds = subst P (sym (same_Some v x is)) holds
ok_there {V} P (Err e) v is holds = let bad : ◌≡◌ {A = Option V} (Some v) None = is in cc

-- ---- what is planned

pub plain_start : (b : Bool) (rows : List Row) → IsTrue b ↔ (IsSet rows (codes "contents") ⊎ IsSet rows (codes "gaps") ⊎ IsSet rows (codes "each-site")) → b ≡ false → IsPlain rows
plain_start b rows is not = (λ set. false≢true (sym not ∙ is.1 (inl set)), λ set. false≢true (sym not ∙ is.1 (inr (inl set))), λ set. false≢true (sym not ∙ is.1 (inr (inr set))))

module _ (rows : List Row) where
  -- there is no such plan, where there is none of each kind
  pub no_aim : ((site : Bor Text) (item : Spelled) → IsAim (Contents site item) (codes "start") rows → ⊥) → ((site : Bor Text) (item : Spelled) → IsAim (EachSite site item) (codes "start") rows → ⊥)
      → ((site recall : Bor Text) → IsAim (Misses site recall) (codes "start") rows → ⊥) → AsksNoAim rows
  no_aim none each other (Contents site item) is = none site item is
  no_aim none each other (EachSite site item) is = each site item is
  no_aim none each other (Misses site recall) is = other site recall is
  no_aim none each other (Packings site) is = let bad : ◌≡◌ {A = ℕ} 115 112 = ap (λ (text : List ℕ). get_or text 0 0) is.0 in absurd (omega arith)

  -- an item is spelled in one way
  pub spelled_so : (spelling : Spelling) → GivesSpelling rows spelling → GivesSpelling rows spellings.Epc → spelling ≡ spellings.Epc
  spelled_so spellings.Epc given epc = refl
  spelled_so spellings.Key given epc = absurd (epc.0 given.0)
  spelled_so spellings.Scan given epc = absurd (epc.1 given.1)

  -- one word is given
  pub lone_given : (words : List (Bor Text)) (d : Bor Text) → all_of (codes "epc") rows ≡ Some (map (λ w. w.now) words) → length words ≡ 1 → IsUnset rows (codes "from") → IsUnset rows (codes "dry-run") → GivesLone rows (get_or words 0 d).now
  lone_given words d given one unset wet = ((given ∙ ap Some (one_text_alone words d one), (λ t. absurd (false≢true t), λ set. absurd (unset set))), wet)

  pub one_given : (words : List (Bor Text)) (text : Text) → all_of (codes "epc") rows ≡ Some (map (λ w. w.now) words) → GivesLone rows text → length words ≡ 1
  one_given words text given lone =
      sym (length-map words (λ w. w.now)) ∙ ap length (same_Some (map (λ w. w.now) words) (text ∷ []) (sym given ∙ lone.0.0))

-- what isn't so is answered by no
pub is_unset : {P : Type 0} (b : Bool) → IsTrue b ↔ P → (P → ⊥) → b ≡ false
is_unset false is none = refl
is_unset true is none = absurd (none (is.0 refl))
