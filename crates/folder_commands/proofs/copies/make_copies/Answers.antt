use Rattle.std.proofs.Common.{◌≡◌, ◌+◌, [], ◌∷◌, ◌++◌, drop, take, refl, sym, ◌∙◌, ap, ap₂, subst, inl, inr}
use Rattle.std.proofs.lemmas.List.{map_push, take_more}
use Rattle.recall_text.specs.Words.{name_at}
use Rattle.site_core.specs.Records.{Record}
use Rattle.site_recovery.specs.Checking.{records_at}
use Rattle.site_folders.specs.FileCalls.{Calls, Failed, MadeSite}
use Rattle.site_folders.specs.Paths.{file_path}
use Rattle.site_folders.proofs.CallsInTurn.{call_more, failed_at, handed_on}
use Rattle.folder_commands.specs.Copying.{makes_copies, makes_copy, path_of}
use Rattle.folder_commands.proofs.CopyLemmas.{left_at, stopped_at}
use Rattle.folder_commands.proofs.copies.make_copies.Goals as goal

pub loop-state-preserved : goal.loop-state-preserved
loop-state-preserved g c =
    let does = g.F.Files.does in
    let to = c.args.to.now in
    let records = c.args.records.now in
    let i = c.loop-state.state-index in
    let state = c.state-item.result in
    let old = c.args.files.now in
    let before = c.loop-state.files in
    let after = c.create_site.new.self in
    let path : c.as_str.result.now ≡ path_of to state.now =
    c.as_str.ensures.value ∙ c.in_ok-path.ensures ∙ ap₂ (λ ss n. file_path to (name_at ss n)) c.sites.ensures c.me.ensures.me in
    let one : does before (makes_copy to state.now) after = subst (λ (r : Record). does before (MadeSite (path_of to state.now) r) after) c.in_ok-copied.ensures
    (subst (λ p. does before (MadeSite p c.in_ok-copied.copied) after) path c.in_ok-create_site.ensures.made) in
    let more : take (i + 1) records ≡ take i records ++ state ∷ [] = take_more records i state c.loop-state-test.true ∙ ap (λ z. take i records ++ z ∷ []) (sym c.state-item.is) in
    let all = ap (λ xs. makes_copies to (records_at xs)) more ∙ ap (λ rs. makes_copies to rs) (map_push (λ s. s.now) (take i records) state)
    ∙ map_push (λ (r : Record). makes_copy to r) (records_at (take i records)) state.now in
    subst (λ cs. Calls does old cs after) (sym all)
    (call_more does old before after (makes_copies to (records_at (take i records))) (makes_copy to state.now) c.loop-state.invariant one)

pub returns-in_err-path-clause-failed : goal.returns-in_err-path-clause-failed
returns-in_err-path-clause-failed g c =
    handed_on c.from_residual.result _ _ c.from_residual.ensures.1
    (stopped_at g.F.Files.does c.args.to.now c.args.records.now c.loop-state.state-index _ _ _ _ [] c.loop-state.invariant (inr (refl, refl)) refl)

pub returns-in_err-copied-clause-failed : goal.returns-in_err-copied-clause-failed
returns-in_err-copied-clause-failed g c =
    handed_on c.from_residual-in_err-copied.result _ _ c.from_residual-in_err-copied.ensures.1
    (stopped_at g.F.Files.does c.args.to.now c.args.records.now c.loop-state.state-index _ _ _ _ [] c.loop-state.invariant (inr (refl, refl)) refl)

pub returns-in_err-create_site-clause-failed : goal.returns-in_err-create_site-clause-failed
returns-in_err-create_site-clause-failed g c =
    let to = c.args.to.now in
    let records = c.args.records.now in
    let i = c.loop-state.state-index in
    let state = c.state-item.result in
    let path : c.as_str.result.now ≡ path_of to state.now =
    c.as_str.ensures.value ∙ c.in_ok-path.ensures ∙ ap₂ (λ ss n. file_path to (name_at ss n)) c.sites.ensures c.me.ensures.me in
    handed_on c.from_residual-in_err-create_site.result _ _ c.from_residual-in_err-create_site.ensures.1
    (stopped_at g.F.Files.does to records i _ _ _ _ (Failed (path_of to state.now) _ ∷ []) c.loop-state.invariant
    (inl (state.now, records_at (drop (i + 1) records), left_at records i state c.loop-state-test.true c.state-item.is, refl))
    (failed_at g.F.Files.does _ _ _ _ _ path c.in_err-create_site.ensures.failed))
