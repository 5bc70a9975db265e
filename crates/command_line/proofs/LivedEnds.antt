-- What the contract of a command line says of its calls is that they are acts of the sites.
use Rattle.std.proofs.Common.{◌≡◌, ℕ, true, false, Option, None, List, [], ◌∷◌, ◌++◌, refl, sym, ◌∙◌, ap, subst, inl, inr}
use Rattle.std.specs.Prelude.{Result, Ok, Err, IfOk, IfErr}
use Rattle.std.specs.Global.{Global}
use Rattle.std.specs.declared.string.String.{String}
use Rattle.event_json.specs.Sites.{Site}
use Rattle.document_lint.specs.declared.findings.Lint.{Lint}
use Rattle.keeper_core.specs.declared.faults.Unopened.{Unopened}
use Rattle.recall_outcomes.specs.declared.faults.Fault.{Fault}
use Rattle.recall_outcomes.specs.declared.outcomes.CommandRefusal.{CommandRefusal}
use Rattle.recall_outcomes.specs.declared.outcomes.Output.{Output}
use Rattle.site_core.specs.Records.{Record}
use Rattle.site_folders.specs.Faults.{OnlyAsks}
use Rattle.site_folders.specs.FileCalls.{FileCall, Led, ReadFile}
use Rattle.site_folders.proofs.CallsInTurn.{led_so}
use Rattle.site_folders.proofs.VainLemmas.{asks_first, none_asks}
use Rattle.folder_commands.specs.Lints.{Lints, LintsWhere, here_of}
use Rattle.folder_commands.specs.declared.batches.BatchOutput.{BatchOutput}
use Rattle.folder_commands.specs.declared.lints.LintOutput.{LintOutput}
use Rattle.folder_commands.proofs.Closings.{CloseNone, CloseOpened, copies_opened, inits_none, no_calls_close, none_closed, some_copies_opened, then_none}
use Rattle.folder_commands.proofs.LintLemmas.{each_asks}
use Rattle.command_line.specs.CommandLines.{words_of}
use Rattle.command_line.specs.Converting.{ConvertEnds}
use Rattle.command_line.specs.Ends.{Ends, LintsFiles, PlanEnds, Progress, Streams, TakesBatch, TakesMore, TakesPart, TakesPlan, TellsPlan, progress}
use Rattle.command_line.specs.Leads.{FailsBy, LeadsTo}
use Rattle.command_line.specs.Packs.{Finds}
use Rattle.command_line.specs.Lives.{AreActsOfSites, LeadByActs, LedInParts}
use Rattle.command_line.specs.Plans.{FindsPlan, inputs_of}
use Rattle.command_line.specs.declared.plan_commands.Aim.{Aim}
use Rattle.command_line.specs.declared.plan_commands.Aim.TheVariants.{Contents, EachSite, Gaps as Misses, Packs as Packings}
use Rattle.command_line.specs.declared.plan_commands.PlanCommand.{PlanCommand}
use Rattle.command_line.specs.declared.asked.Batch.{Batch}
use Rattle.command_line.specs.declared.asked.FileCommand.{FileCommand}
use Rattle.command_line.specs.declared.asked.FileCommand.TheVariants.{Init, Copy, Capture, Start, Run, Report, Audit, Trace, TraceContents, Recalls, Recall as OneRecall, Items, Inside, Coverage, Gaps, Missed}
use Rattle.command_line.specs.declared.convert_commands.ConvertFiles.{ConvertFiles}
use Rattle.command_line.specs.declared.lint_commands.LintFiles.{LintFiles}
use Rattle.command_line.specs.declared.pack_commands.PackFiles.{PackFiles}
use Rattle.folder_questions.specs.declared.packs.PacksAnswer.{PacksAnswer}
use Rattle.folder_questions.specs.declared.plans.Planned.{Planned}
use Rattle.folder_questions.specs.declared.plans.Planned.TheVariants as plans
use Rattle.folder_questions.specs.declared.plans.PlannedBatch.{PlannedBatch}
use Rattle.folder_commands.specs.Words.{Words}
use Rattle.outcome_forms.specs.declared.forms.Form.{Form}
use Rattle.recall_text.specs.Words.{name_at}
use Rattle.world_core.specs.KeptSteps.{StandsAfter}
use Rattle.command_line.proofs.ConvertLemmas.{convert_asks}
use Rattle.command_line.proofs.LivedAnswers.{after_asks, all_told, asks_behind, batch_failed, batch_taken, capture_failed, captured, has_run, refused_or, run_failed, site_told, start_failed, started}
use Rattle.command_line.proofs.LivedCommands.{acted_unchanged, only_asked}

module _ {K : Type 0} (shown : K → Option Record) (may : K → Record → Type 0) (opens : (k : K) → shown k ≡ None → (r : Record) × may k r) (stored : K → Type 0) where
  none_acts : (calls : List (FileCall K)) → CloseNone calls → AreActsOfSites shown may calls
  none_acts calls none sites old new many continued left =
      acted_unchanged shown may opens stored [] sites old new many calls continued left (λ k site stood closed of at. absurd (none_closed calls k none closed))

  -- a site that was opened and closed is as it was
  opened_acts : (calls : List (FileCall K)) → CloseOpened calls → AreActsOfSites shown may calls
  opened_acts calls opened sites old new many continued left =
      acted_unchanged shown may opens stored [] sites old new many calls continued left
      (λ k site stood closed of at. let (path, name, was) = opened k closed in continued.shows path name k site stood was of at)

  asked_acts : (calls : List (FileCall K)) → OnlyAsks calls → AreActsOfSites shown may calls
  asked_acts calls asks sites old new many continued left = only_asked shown may opens stored [] sites old new many calls continued left asks

  module _ {G : Type 0} (knows : List ℕ → List ℕ → Type 0) (failed : K → ℕ) (reopens : K → Result K (Unopened K) → Type 0) (gives_up : G → ℕ → ℕ → Type 0) where
    leads_acts : (command : FileCommand) (output : Output) (calls : List (FileCall K)) → LeadsTo knows shown failed may stored command output calls → AreActsOfSites shown may calls
    leads_acts (Init f list) output calls leads = none_acts calls (inits_none f.now list.now output calls leads)
    leads_acts (Copy f to) output calls leads = opened_acts calls (copies_opened shown stored f.now to.now output calls leads)
    leads_acts (Capture f site file) output calls leads = λ sites old new many continued left. captured shown may opens stored f.now sites old new many calls continued left site.now file.now output leads
    leads_acts (Start f site item false) output calls leads = λ sites old new many continued left. started shown may opens stored f.now sites old new many calls continued left _ site.now item output leads
    leads_acts (Start f site item true) output calls leads =
        asked_acts calls (asks_behind shown stored f.now _ _ (λ first its asks. after_asks shown stored f.now asks (λ ss rest told. refused_or shown stored f.now told.1 (λ t. all_told shown stored f.now t.2))) output calls leads)
    leads_acts (Run f terms) output calls leads = λ sites old new many continued left. has_run shown may opens stored f.now sites old new many calls continued left knows failed terms output leads
    leads_acts (Report f recall ways events) output calls leads = asked_acts calls (after_asks shown stored f.now leads (λ ss rest told. refused_or shown stored f.now told.1 (λ t. all_told shown stored f.now t.2)))
    leads_acts (Audit f ended coded) output calls leads = asked_acts calls (after_asks shown stored f.now leads (λ ss rest told. refused_or shown stored f.now told.1 (λ t. all_told shown stored f.now t.2)))
    leads_acts (Trace f site item back ways events) output calls leads =
        asked_acts calls (asks_behind shown stored f.now _ _ (λ first its asks. after_asks shown stored f.now asks (λ ss rest told. refused_or shown stored f.now told.1 (λ t. all_told shown stored f.now t.2))) output calls leads)
    leads_acts (TraceContents f site item ways) output calls leads =
        asked_acts calls (asks_behind shown stored f.now _ _ (λ first its asks. after_asks shown stored f.now asks (λ ss rest told. refused_or shown stored f.now told.1 (λ t. all_told shown stored f.now t.2))) output calls leads)
    leads_acts (Recalls f coded) output calls leads = asked_acts calls (after_asks shown stored f.now leads (λ ss rest told. refused_or shown stored f.now told.1 (λ t. all_told shown stored f.now t.2)))
    leads_acts (OneRecall f recall coded) output calls leads = asked_acts calls (after_asks shown stored f.now leads (λ ss rest told. refused_or shown stored f.now told.1 (λ t. all_told shown stored f.now t.2)))
    leads_acts (Items f site text) output calls leads = asked_acts calls (after_asks shown stored f.now leads.0 (λ ss rest told. refused_or shown stored f.now told.1 (λ t. site_told shown stored f.now t.3)))
    leads_acts (Inside f site item text) output calls leads =
        asked_acts calls (asks_behind shown stored f.now _ _ (λ first its asks. after_asks shown stored f.now asks.0 (λ ss rest told. refused_or shown stored f.now told.1 (λ t. all_told shown stored f.now t.2))) output calls leads)
    leads_acts (Coverage f) output calls leads = asked_acts calls (after_asks shown stored f.now leads.0 (λ ss rest told. refused_or shown stored f.now told.1 (λ t. all_told shown stored f.now t.2)))
    leads_acts (Gaps f all coded) output calls leads = asked_acts calls (after_asks shown stored f.now leads (λ ss rest told. refused_or shown stored f.now told.1 (λ t. all_told shown stored f.now t.2)))
    leads_acts (Missed f recall coded) output calls leads = asked_acts calls (after_asks shown stored f.now leads.0 (λ ss rest told. refused_or shown stored f.now told.1 (λ t. all_told shown stored f.now t.2)))

    fails_acts : (command : FileCommand) (fault : Fault) (calls : List (FileCall K)) → FailsBy shown failed may reopens gives_up stored command fault calls → AreActsOfSites shown may calls
    fails_acts (Init f list) fault calls (inl vain) = asked_acts calls vain.harmless
    fails_acts (Init f list) fault calls (inr made) = none_acts calls (then_none f.now list.now fault calls made)
    fails_acts (Copy f to) fault calls (inl vain) = asked_acts calls vain.harmless
    fails_acts (Copy f to) fault calls (inr some) = opened_acts calls (some_copies_opened shown stored f.now to.now fault calls some)
    fails_acts (Capture f site file) fault calls fails = λ sites old new many continued left. capture_failed shown may opens stored f.now sites old new many calls continued left failed site.now file.now fault fails
    fails_acts (Start f site item false) fault calls fails = λ sites old new many continued left. start_failed shown may opens stored f.now sites old new many calls continued left failed site.now item fault fails
    fails_acts (Start f site item true) fault calls fails = asked_acts calls fails.harmless
    fails_acts (Run f terms) fault calls fails = λ sites old new many continued left. run_failed shown may opens stored f.now sites old new many calls continued left failed reopens gives_up terms fault fails
    fails_acts (Report f recall ways events) fault calls fails = asked_acts calls fails.harmless
    fails_acts (Audit f ended coded) fault calls fails = asked_acts calls fails.harmless
    fails_acts (Trace f site item back ways events) fault calls fails = asked_acts calls fails.harmless
    fails_acts (TraceContents f site item ways) fault calls fails = asked_acts calls fails.harmless
    fails_acts (Recalls f coded) fault calls fails = asked_acts calls fails.harmless
    fails_acts (OneRecall f recall coded) fault calls fails = asked_acts calls fails.harmless
    fails_acts (Items f site text) fault calls fails = asked_acts calls fails.harmless
    fails_acts (Inside f site item text) fault calls fails = asked_acts calls fails.harmless
    fails_acts (Coverage f) fault calls fails = asked_acts calls fails.harmless
    fails_acts (Gaps f all coded) fault calls fails = asked_acts calls fails.harmless
    fails_acts (Missed f recall coded) fault calls fails = asked_acts calls fails.harmless

  -- documents that are looked through
  lints_ask : {S : Type 0} (takes : S → List ℕ → Lint → S → Type 0) (list : List ℕ) (site : Option (List ℕ)) (paths : List (List ℕ)) (heard hears : S) (output : LintOutput) (calls : List (FileCall K)) → Lints takes list site paths heard hears output calls → OnlyAsks calls
  lints_ask takes list site paths heard hears output calls at =
      subst (λ (cs : List (FileCall K)). OnlyAsks cs) (sym at.calls_are) (asks_first (ReadFile list at.text) at.rest tt (rest_asks at.whys at.done))
    where
      rest_asks : (whys : List CommandRefusal) → LintsWhere takes at.listed (here_of at.listed.sites site) whys paths heard hears output.came at.rest → OnlyAsks at.rest
      rest_asks [] all = each_asks takes at.listed.sites (here_of at.listed.sites site) paths _ all.last at.rest all.each
      rest_asks (why ∷ whys) (refused, same, none) = subst (λ (cs : List (FileCall K)). OnlyAsks cs) (sym none) none_asks

module _ {F K G W : Type 0} (does : F → FileCall K → F → Type 0) (waits limits : F → ℕ → F → Type 0) (knows : F → List ℕ → List ℕ → Type 0) (shown : K → Option Record) (failed : K → ℕ) (may : K → Record → Type 0) (reopens : K → Result K (Unopened K) → Type 0) (gives_up : G → ℕ → ℕ → Type 0) (stored : K → Type 0) (contents : W → Option (List ℕ))
    (opens : (k : K) → shown k ≡ None → (r : Record) × may k r) where
  no_acts : (old new : F) → new ≡ old → Led does old new (AreActsOfSites shown may)
  no_acts old new same = record { calls = []; are = none_acts shown may opens stored [] (no_calls_close K); led = same }

  unasked : (old new : F) → new ≡ old → LeadByActs shown may does old new
  unasked old new same = (old, [], no_acts old new same)

  files_acts : (command : FileCommand) (mid new : F) (came : Result Output Fault) → IfOk came (λ output. Led does mid new (LeadsTo (knows new) shown failed may stored command output)) → IfErr came (λ fault. Led does mid new (FailsBy shown failed may reopens gives_up stored command fault))
      → Led does mid new (AreActsOfSites shown may)
  files_acts command mid new (Ok output) led broke = led_so does mid new (λ calls leads. leads_acts shown may opens stored (knows new) failed reopens gives_up command output calls leads) led
  files_acts command mid new (Err fault) led broke = led_so does mid new (λ calls fails. fails_acts shown may opens stored (knows new) failed reopens gives_up command fault calls fails) broke

  batch_acts : (batch : Batch) (mid new : F) (before lines : W) (came : Result BatchOutput Fault) → TakesBatch does shown may stored contents batch mid new before lines came → Led does mid new (AreActsOfSites shown may)
  batch_acts batch mid new before lines (Ok output) taken =
      led_so does mid new (λ calls t sites old now many continued left. batch_taken shown may opens stored batch.folder.now sites old now many calls continued left _ batch.site.now (Words batch.kind (words_of batch)) before lines output t) taken
  batch_acts batch mid new before lines (Err fault) taken =
      led_so does mid new (λ calls t sites old now many continued left. batch_failed shown may opens stored batch.folder.now sites old now many calls continued left _ batch.site.now (Words batch.kind (words_of batch)) before lines fault t) taken

  lint_acts : (files : LintFiles) (old new : F) (before lines : W) (came : Result LintOutput Fault) → LintsFiles does contents files old new before lines came → Led does old new (AreActsOfSites shown may)
  lint_acts files old new before lines (Ok output) looked = led_so does old new (λ calls l. asked_acts shown may opens stored calls (lints_ask shown may opens stored _ _ _ _ before lines output calls l)) looked
  lint_acts files old new before lines (Err fault) looked = led_so does old new (λ calls l. asked_acts shown may opens stored calls l.harmless) looked

  packs_act : (files : PackFiles) (old new : F) (came : Result (List Site × PacksAnswer) Fault) → Finds does shown stored files old new came → Led does old new (AreActsOfSites shown may)
  packs_act files old new (Ok told) (asked, failed) =
      led_so does old new (λ calls asks. asked_acts shown may opens stored calls (after_asks shown stored files.folder.now asks (λ ss rest t. refused_or shown stored files.folder.now t.1 (λ u. all_told shown stored files.folder.now u.2)))) asked
  packs_act files old new (Err fault) (asked, failed) = led_so does old new (λ calls vain. asked_acts shown may opens stored calls vain.harmless) failed

  -- documents that are converted
  convert_acts : (files : ConvertFiles) (mid new : F) (before after : W) (status : ℕ) → ConvertEnds does contents files mid new before after status → Led does mid new (AreActsOfSites shown may)
  convert_acts files mid new before after status ends = led_so does mid new (λ calls asks. asked_acts shown may opens stored calls asks) (convert_asks does contents files before after status mid new ends)

  -- ---- what is planned

  -- one after another
  in_parts : (between : List F) (old mid new : F) → LedInParts shown may does between old mid → Led does mid new (AreActsOfSites shown may) → LedInParts shown may does (between ++ mid ∷ []) old new
  in_parts [] old mid new first last = (first, last)
  in_parts (m ∷ between) old mid new (first, more) last = (first, in_parts between m mid new more last)

  plan_found : (aim : Aim) (folder : List ℕ) (old new : F) (came : Result (List Site × Planned) Fault) → FindsPlan does shown stored folder aim old new came → Led does old new (AreActsOfSites shown may)
  plan_found (Contents site item) folder old new (Ok told) (found, failed) = led_so does old new (λ calls asks. asked_acts shown may opens stored calls (after_asks shown stored folder asks (λ ss rest t. refused_or shown stored folder t.1 (λ u. all_told shown stored folder u.2)))) found
  plan_found (EachSite site item) folder old new (Ok told) (found, failed) = led_so does old new (λ calls asks. asked_acts shown may opens stored calls (after_asks shown stored folder asks (λ ss rest t. refused_or shown stored folder t.1 (λ u. all_told shown stored folder u.2)))) found
  plan_found (Misses site recall) folder old new (Ok told) (found, failed) = led_so does old new (λ calls asks. asked_acts shown may opens stored calls (after_asks shown stored folder asks (λ ss rest t. refused_or shown stored folder t.1 (λ u. all_told shown stored folder u.2)))) found
  plan_found (Packings site) folder old new (Ok told) (found, failed) = led_so does old new (λ calls asks. asked_acts shown may opens stored calls (after_asks shown stored folder asks (λ ss rest t. refused_or shown stored folder t.1 (λ u. all_told shown stored folder u.2)))) found
  plan_found aim folder old new (Err fault) (found, failed) = led_so does old new (λ calls vain. asked_acts shown may opens stored calls vain.harmless) failed

  module _ (form : Form) (folder : List ℕ) (listed : List Site) where
    part_taken : (part : PlannedBatch) (old new : F) (before lines : W) (came : Result BatchOutput Fault) → TakesPart does shown may stored contents form folder listed part old new before lines came → Led does old new (AreActsOfSites shown may)
    part_taken part old new before lines (Ok output) taken =
        led_so does old new (λ calls t sites was now many continued left. batch_taken shown may opens stored folder sites was now many calls continued left _ (name_at listed part.site) (inputs_of part) before lines output t) taken
    part_taken part old new before lines (Err fault) taken =
        led_so does old new (λ calls t sites was now many continued left. batch_failed shown may opens stored folder sites was now many calls continued left _ (name_at listed part.site) (inputs_of part) before lines fault t) taken

    -- the parts of a plan, behind what came before
    parts_act : (plan : List PlannedBatch) (old mid : F) (start end : Progress F W) → start.files ≡ mid → (between : List F) → LedInParts shown may does between old mid
        → StandsAfter (TakesMore does shown may stored contents form folder listed) start plan end → (more : List F) × LedInParts shown may does more old end.files
    parts_act [] old mid start end at between led same = (between, subst (λ (f : F). LedInParts shown may does between old f) (sym at ∙ ap (λ (p : Progress F W). p.files) (sym same)) led)
    parts_act (part ∷ plan) old mid start end at between led (next, (status, tells, whole, is), rest) =
        let one = part_taken part start.files next.files start.output tells.lines tells.came tells.taken in
        parts_act plan old next.files next end refl (between ++ mid ∷ []) (in_parts between old mid next.files led (subst (λ (f : F). Led does f next.files (AreActsOfSites shown may)) at one)) rest

    plan_taken : (plan : List PlannedBatch) (old first new : F) (before after : W) (status : ℕ) → Led does old first (AreActsOfSites shown may) → TakesPlan does shown may stored contents form folder listed plan first new before after status
        → (between : List F) × LedInParts shown may does between old new
    plan_taken plan old first new before after status found (inl all) = parts_act plan old first (progress first before 0) (progress new after status) refl [] found all
    plan_taken plan old first new before after status found (inr (done, part, more, parts, mid, so_far, last, is)) =
        let (between, led) = parts_act done old first (progress first before 0) mid refl [] found so_far in
        (between ++ mid.files ∷ [], in_parts between old mid.files new led (part_taken part mid.files new mid.output last.lines last.came last.taken))

    planned_acts : (planned : Planned) (old first new : F) (before after : W) (status : ℕ) → Led does old first (AreActsOfSites shown may) → PlanEnds does shown may stored contents form folder listed planned first new before after status
        → (between : List F) × LedInParts shown may does between old new
    planned_acts (plans.Refused outcome) old first new before after status found (same, ends) = ([], subst (λ (f : F). Led does old f (AreActsOfSites shown may)) (sym same) found)
    planned_acts (plans.Batches plan) old first new before after status found ends = plan_taken plan.items old first new before after status found ends

  plan_came : (command : PlanCommand) (old first new : F) (before after : W) (status : ℕ) (came : Result (List Site × Planned) Fault) → Led does old first (AreActsOfSites shown may)
      → IfOk came (λ told. PlanEnds does shown may stored contents command.terms.form command.folder.now told.0 told.1 first new before after status)
      → IfErr came (λ fault. (new ≡ first) × (after ≡ before) × (status ≡ 3)) → (between : List F) × LedInParts shown may does between old new
  plan_came command old first new before after status (Ok told) found ends fails = planned_acts command.terms.form command.folder.now told.0 told.1 old first new before after status found ends
  plan_came command old first new before after status (Err fault) found ends fails = ([], subst (λ (f : F). Led does old f (AreActsOfSites shown may)) (sym fails.0) found)

  plan_acts : (command : PlanCommand) (old new : F) (before after : W) (status : ℕ) → TellsPlan does waits shown may stored contents command old new before after status → LeadByActs shown may does old new
  plan_acts command old new before after status tells =
      let (between, led) = plan_came command tells.mid tells.first new before after status tells.came (plan_found command.aim command.folder.now tells.mid tells.first tells.came tells.found) tells.ends tells.fails in
      (tells.mid, between, led)

  -- however a command line ends
  pub ends_acts : (words : List (String Global)) (old new : F) (before after : Streams W) (status : ℕ) → Ends does waits limits knows shown failed may reopens gives_up stored contents words old new before after status → LeadByActs shown may does old new
  ends_acts words old new before after status (inl runs) = unasked old new runs.2
  ends_acts words old new before after status (inr (inl d)) = (d.mid, [], files_acts d.command d.mid new d.came d.led d.broke)
  ends_acts words old new before after status (inr (inr (inl (inl d)))) = (d.ends.mid, [], batch_acts d.batch d.ends.mid new before.output d.ends.lines d.ends.came d.ends.taken)
  ends_acts words old new before after status (inr (inr (inl (inr (inl d))))) = (d.ends.mid, [], lint_acts d.files d.ends.mid new before.output d.ends.lines d.ends.came d.ends.looked)
  ends_acts words old new before after status (inr (inr (inl (inr (inr (inl d)))))) = (d.ends.mid, [], packs_act d.files d.ends.mid new d.ends.came d.ends.answered)
  ends_acts words old new before after status (inr (inr (inl (inr (inr (inr (inl d))))))) = plan_acts d.command old new before.output after.output status d.ends
  ends_acts words old new before after status (inr (inr (inl (inr (inr (inr (inr d))))))) = (d.ends.mid, [], convert_acts d.files d.ends.mid new before.output after.output status d.ends.ends)
  ends_acts words old new before after status (inr (inr (inr (inl helps)))) = unasked old new helps.1
  ends_acts words old new before after status (inr (inr (inr (inr (inl bad))))) = unasked old new bad.1
  ends_acts words old new before after status (inr (inr (inr (inr (inr lacks))))) = unasked old new lacks.0
