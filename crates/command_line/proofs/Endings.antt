-- how a command line ends whose words are bad, or ask for a command on files
use Rattle.std.proofs.Common.{◌≡◌, ℕ, List, Option, Result, IfErr, IfOk, inl, inr, refl}
use Rattle.std.specs.Global.{Global}
use Rattle.std.specs.declared.string.String.{String}
use Rattle.std.specs.Io.KnownBytes.{Keeps}
use Rattle.keeper_core.specs.declared.faults.Unopened.{Unopened}
use Rattle.site_core.specs.Records.{Record}
use Rattle.recall_outcomes.specs.declared.faults.Fault.{Fault}
use Rattle.recall_outcomes.specs.declared.outcomes.Output.{Output}
use Rattle.site_folders.specs.FileCalls.{FileCall, Led}
use Rattle.command_line.specs.CommandLines.{texts_of, AsksBatch, AsksFiles, AsksLint, AsksPacks, AsksPlan, IsBad, AsksConvert}
use Rattle.command_line.specs.Ends.{CommandEnds, Ends, SimRuns, Streams, TellsBatch, TellsLint, TellsPacks, TellsPlan}
use Rattle.command_line.specs.Converting.{TellsConvert}
use Rattle.command_line.specs.Leads.{FailsBy, LeadsTo}
use Rattle.command_line.specs.declared.asked.Batch.{Batch}
use Rattle.command_line.specs.declared.asked.FileCommand.{FileCommand}
use Rattle.command_line.specs.declared.asked.Terms.{Terms}
use Rattle.command_line.specs.declared.convert_commands.ConvertFiles.{ConvertFiles}
use Rattle.command_line.specs.declared.lint_commands.LintFiles.{LintFiles}
use Rattle.command_line.specs.declared.pack_commands.PackFiles.{PackFiles}
use Rattle.command_line.specs.declared.plan_commands.PlanCommand.{PlanCommand}
use Rattle.command_line.proofs.Words.{sim_is_no_batch, sim_is_no_convert, sim_is_no_files, sim_is_no_help, sim_is_no_lint, sim_is_no_packs, sim_is_no_plan, sim_is_not_bad}

module _ {F K G W : Type 0} (does : F → FileCall K → F → Type 0) (waits limits : F → ℕ → F → Type 0) (knows : F → List ℕ → List ℕ → Type 0) (shown : K → Option Record) (failed : K → ℕ) (may : K → Record → Type 0) (reopens : K → Result K (Unopened K) → Type 0) (gives_up : G → ℕ → ℕ → Type 0) (stored : K → Type 0) (contents : W → Option (List ℕ)) where
  pub ends_mistaken : (words : List (String Global)) (old new : F) (before after : Streams W) → IsBad (texts_of words) → new ≡ old
      → Keeps before.input after.input → Keeps (contents before.output) (contents after.output)
      → Ends does waits limits knows shown failed may reopens gives_up stored contents words old new before after 2
  ends_mistaken words old new before after bad uncalled unread unwritten = inr (inr (inr (inr (inl (bad, uncalled, unread, unwritten, refl)))))

  pub ends_files : (words : List (String Global)) (old first mid new : F) (before after : Streams W) (status : ℕ) (command : FileCommand) (terms : Terms) (came : Result Output Fault)
      → AsksFiles (texts_of words) command terms → waits old terms.wait first → limits first terms.most mid
      → IfOk came (λ output. Led does mid new (LeadsTo (knows new) shown failed may stored command output))
      → IfErr came (λ fault. Led does mid new (FailsBy shown failed may reopens gives_up stored command fault))
      → Keeps before.input after.input → CommandEnds terms.form came (contents before.output) (contents after.output) status
      → Ends does waits limits knows shown failed may reopens gives_up stored contents words old new before after status
  ends_files words old first mid new before after status command terms came asked waited limited led broke unread ends =
      inr (inl (record { command = command; terms = terms; asked = asked; first = first; waited = waited; mid = mid; limited = limited; came = came; led = led; broke = broke; unread = unread; ends = ends }))

  pub ends_batch : (words : List (String Global)) (old new : F) (before after : Streams W) (status : ℕ) (batch : Batch) → AsksBatch (texts_of words) batch → Keeps before.input after.input
      → TellsBatch does waits limits shown may stored contents batch old new before.output after.output status
      → Ends does waits limits knows shown failed may reopens gives_up stored contents words old new before after status
  ends_batch words old new before after status batch asked unread ends =
      inr (inr (inl (inl (record { batch = batch; asked = asked; unread = unread; ends = ends }))))

  pub ends_lint : (words : List (String Global)) (old new : F) (before after : Streams W) (status : ℕ) (files : LintFiles) → AsksLint (texts_of words) files → Keeps before.input after.input
      → TellsLint does limits contents files old new before.output after.output status
      → Ends does waits limits knows shown failed may reopens gives_up stored contents words old new before after status
  ends_lint words old new before after status files asked unread ends =
      inr (inr (inl (inr (inl (record { files = files; asked = asked; unread = unread; ends = ends })))))

  pub ends_packs : (words : List (String Global)) (old new : F) (before after : Streams W) (status : ℕ) (files : PackFiles) → AsksPacks (texts_of words) files → Keeps before.input after.input
      → TellsPacks does waits shown stored contents files old new before.output after.output status
      → Ends does waits limits knows shown failed may reopens gives_up stored contents words old new before after status
  ends_packs words old new before after status files asked unread ends =
      inr (inr (inl (inr (inr (inl (record { files = files; asked = asked; unread = unread; ends = ends }))))))

  pub ends_plan : (words : List (String Global)) (old new : F) (before after : Streams W) (status : ℕ) (command : PlanCommand) → AsksPlan (texts_of words) command → Keeps before.input after.input
      → TellsPlan does waits shown may stored contents command old new before.output after.output status
      → Ends does waits limits knows shown failed may reopens gives_up stored contents words old new before after status
  ends_plan words old new before after status command asked unread ends =
      inr (inr (inl (inr (inr (inr (inl (record { command = command; asked = asked; unread = unread; ends = ends })))))))

  pub ends_convert : (words : List (String Global)) (old new : F) (before after : Streams W) (status : ℕ) (files : ConvertFiles) → AsksConvert (texts_of words) files → Keeps before.input after.input
      → TellsConvert does limits contents files old new before.output after.output status
      → Ends does waits limits knows shown failed may reopens gives_up stored contents words old new before after status
  ends_convert words old new before after status files asked unread ends =
      inr (inr (inl (inr (inr (inr (inr (record { files = files; asked = asked; unread = unread; ends = ends })))))))

  -- however it ends, the script was run where `sim` was asked for, or memory ran out before
  pub ends_sim : (words : List (String Global)) (old new : F) (before after : Streams W) (status : ℕ) → Ends does waits limits knows shown failed may reopens gives_up stored contents words old new before after status
      → SimRuns contents old new before after status words
  ends_sim words old new before after status (inl runs) = λ name e. inl runs.1
  ends_sim words old new before after status (inr (inl d)) = λ name e. absurd (sim_is_no_files (texts_of words) name d.command d.terms d.asked e)
  ends_sim words old new before after status (inr (inr (inl (inl d)))) = λ name e. absurd (sim_is_no_batch (texts_of words) name d.batch d.asked e)
  ends_sim words old new before after status (inr (inr (inl (inr (inl d))))) = λ name e. absurd (sim_is_no_lint (texts_of words) name d.files d.asked e)
  ends_sim words old new before after status (inr (inr (inl (inr (inr (inl d)))))) = λ name e. absurd (sim_is_no_packs (texts_of words) name d.files d.asked e)
  ends_sim words old new before after status (inr (inr (inl (inr (inr (inr (inl d))))))) = λ name e. absurd (sim_is_no_plan (texts_of words) name d.command d.asked e)
  ends_sim words old new before after status (inr (inr (inl (inr (inr (inr (inr d))))))) = λ name e. absurd (sim_is_no_convert (texts_of words) name d.files d.asked e)
  ends_sim words old new before after status (inr (inr (inr (inl helps)))) = λ name e. absurd (sim_is_no_help (texts_of words) name helps.0 e)
  ends_sim words old new before after status (inr (inr (inr (inr (inl bad))))) = λ name e. absurd (sim_is_not_bad (texts_of words) name bad.0 e)
  ends_sim words old new before after status (inr (inr (inr (inr (inr lacks))))) = λ name e. inr lacks
