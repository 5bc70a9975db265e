-- several inputs and several documents, as they end
use Rattle.std.proofs.Common.{◌≡◌, ℕ, List, Option, Result, Ok, Err, Bor, map, option_map, subst}
use Rattle.std.specs.Prelude.{IfErr, IfOk}
use Rattle.folder_commands.specs.Batches.{BatchFails, TakesAll}
use Rattle.folder_commands.specs.Lints.{LintFails, Lints}
use Rattle.folder_commands.specs.Words.{Words, task_of}
use Rattle.folder_commands.specs.declared.batches.BatchOutput.{BatchOutput}
use Rattle.folder_commands.specs.declared.lints.LintOutput.{LintOutput}
use Rattle.recall_outcomes.specs.declared.batches.Task.{Task}
use Rattle.recall_outcomes.specs.declared.faults.Fault.{Fault}
use Rattle.site_core.specs.Records.{Record}
use Rattle.site_folders.specs.FileCalls.{FileCall, Led}
use Rattle.command_line.specs.CommandLines.{words_of}
use Rattle.command_line.specs.Ends.{InputLine, LintLine, LintsFiles, TakesBatch}
use Rattle.command_line.specs.declared.asked.Batch.{Batch}
use Rattle.command_line.specs.declared.lint_commands.LintFiles.{LintFiles}

module _ {F K W : Type 0} (does : F → FileCall K → F → Type 0) (shown : K → Option Record) (may : K → Record → Type 0) (stored : K → Type 0) (contents : W → Option (List ℕ)) (batch : Batch) (old new : F) (before after : W) where
  -- several inputs were taken, or a fault broke that off
  pub batch_taken : (task : Task) (words : List (Bor (List ℕ))) (came : Result BatchOutput Fault) → task ≡ task_of batch.kind → words ≡ batch.words.items
      → IfOk came (λ output. Led does old new (TakesAll shown stored (InputLine contents batch.terms.form task) batch.folder.now batch.site.now (Words batch.kind (map (λ w. w.now) words)) before after output))
      → IfErr came (λ fault. Led does old new (BatchFails shown stored (InputLine contents batch.terms.form task) batch.folder.now batch.site.now (Words batch.kind (map (λ w. w.now) words)) may before after fault))
      → TakesBatch does shown may stored contents batch old new before after came
  batch_taken task words (Ok output) is are ok err =
      subst (λ (t : Task). Led does old new (TakesAll shown stored (InputLine contents batch.terms.form t) batch.folder.now batch.site.now (Words batch.kind (words_of batch)) before after output)) is
      (subst (λ (ws : List (Bor (List ℕ))). Led does old new (TakesAll shown stored (InputLine contents batch.terms.form task) batch.folder.now batch.site.now (Words batch.kind (map (λ w. w.now) ws)) before after output)) are ok)
  batch_taken task words (Err fault) is are ok err =
      subst (λ (t : Task). Led does old new (BatchFails shown stored (InputLine contents batch.terms.form t) batch.folder.now batch.site.now (Words batch.kind (words_of batch)) may before after fault)) is
      (subst (λ (ws : List (Bor (List ℕ))). Led does old new (BatchFails shown stored (InputLine contents batch.terms.form task) batch.folder.now batch.site.now (Words batch.kind (map (λ w. w.now) ws)) may before after fault)) are err)

module _ {F K W : Type 0} (does : F → FileCall K → F → Type 0) (contents : W → Option (List ℕ)) (asked : LintFiles) (old new : F) (before after : W) where
  -- documents were looked through, or a fault broke that off
  pub lint_looked : (paths : List (Bor (List ℕ))) (came : Result LintOutput Fault) → paths ≡ asked.paths.items
      → IfOk came (λ output. Led does old new (Lints (LintLine contents asked.form) asked.list.now (option_map (λ t. t.now) asked.site) (map (λ p. p.now) paths) before after output))
      → IfErr came (λ fault. Led does old new (LintFails fault))
      → LintsFiles does contents asked old new before after came
  lint_looked paths (Ok output) are ok err =
      subst (λ (ps : List (Bor (List ℕ))). Led does old new (Lints (LintLine contents asked.form) asked.list.now (option_map (λ t. t.now) asked.site) (map (λ p. p.now) ps) before after output)) are ok
  lint_looked paths (Err fault) are ok err = err
