-- The documents of the events by which sites close their packed gaps: how they are found, and written.
use Rattle.std.specs.Prelude.{ℕ, List, [], ◌∷◌, ◌++◌, Option, IfErr, IfOk, Result, option_map, string_bytes}
use Rattle.std.specs.List.{flat_map}
use Rattle.std.specs.Option.{option_map_or}
use Rattle.event_json.specs.Sites.{Site}
use Rattle.recall_outcomes.specs.declared.faults.Fault.{Fault}
use Rattle.site_core.specs.Records.{Record}
use Rattle.site_folders.specs.Faults.{EndsInVain}
use Rattle.site_folders.specs.FileCalls.{FileCall, Led}
use Rattle.site_folders.specs.Questions.{AsksAll}
use Rattle.folder_questions.specs.Packs.{AnswersPacks, AsksWhere, RefusesWhere}
use Rattle.folder_questions.specs.declared.packs.PackDocument.{PackDocument}
use Rattle.folder_questions.specs.declared.packs.PacksAnswer.{PacksAnswer}
use Rattle.command_line.specs.declared.pack_commands.PackFiles.{PackFiles}

-- the line of a document; there is none where no time names the event's instant
abbrev pub document_line : PackDocument → List ℕ
document_line d = option_map_or (λ text. string_bytes text ++ 10 ∷ []) d.document []

abbrev pub document_lines : List PackDocument → List ℕ
document_lines documents = flat_map document_line documents

module _ {F K : Type 0} (does : F → FileCall K → F → Type 0) (shown : K → Option Record) (stored : K → Type 0) where
  -- they are those of the folder's records, or a fault broke that off; no site was changed
  abbrev pub Finds : PackFiles → F → F → Result (List Site × PacksAnswer) Fault → Type 0
  Finds asked old new came =
      IfOk came
      (λ told. Led does old new
      (AsksAll {Q = Option ℕ} shown stored asked.folder.now (RefusesWhere (option_map (λ t. t.now) asked.site)) (AsksWhere (option_map (λ t. t.now) asked.site))
      (λ site rs answer. AnswersPacks rs site answer) told.0 told.1))
      × IfErr came (λ fault. Led does old new (EndsInVain shown asked.folder.now fault))
