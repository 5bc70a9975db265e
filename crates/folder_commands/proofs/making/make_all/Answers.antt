use Rattle.std.proofs.Common.{◌≡◌, ◌<◌, ◌≤◌, ◌+◌, ℕ, suc, [], ◌∷◌, length, refl, sym, ap, ap₂, ◌∙◌, subst, arith, inl, inr}
use Rattle.recall_text.specs.Words.{name_at}
use Rattle.site_core.specs.Records.{Record, fresh}
use Rattle.site_folders.specs.FileCalls.{Calls, Failed, MadeSite}
use Rattle.site_folders.specs.Paths.{file_path}
use Rattle.folder_commands.specs.Making.{makes_from}
use Rattle.site_folders.proofs.CallsInTurn.{call_more, failed_at, handed_on}
use Rattle.folder_commands.proofs.MakingLemmas.{made_then, makes_more}
use Rattle.folder_commands.proofs.making.make_all.Goals as goal

pub loop-number-preserved : goal.loop-number-preserved
loop-number-preserved g c =
    let does = g.F.Files.does in
    let folder = c.args.folder.now in
    let sites = c.args.sites.now in
    let number = c.loop-number.number in
    let old = c.args.files.now in
    let before = c.loop-number.files in
    let after = c.create_site.new.self in
    let place : c.in-Some.site ≡ 0 + number = let none : number ≡ 0 + number = omega arith in c.in-Some.ensures.value ∙ none in
    let path : c.as_str.result.now ≡ file_path folder (name_at sites (0 + number)) =
    c.as_str.ensures.value ∙ c.in_ok-path.ensures ∙ ap (λ (n : ℕ). file_path folder (name_at sites n)) place in
    let state : c.new-state.result ≡ fresh sites (0 + number) = c.new-state.ensures ∙ ap₂ fresh c.in_ok-copy.ensures place in
    let one = subst (λ (r : Record). does before (MadeSite (file_path folder (name_at sites (0 + number))) r) after) state
    (subst (λ p. does before (MadeSite p c.new-state.result) after) path c.in_ok-create_site.ensures.made) in
    let all = subst (λ cs. Calls does old cs after) (sym (makes_more folder sites 0 number))
    (call_more does old before after (makes_from folder sites 0 number) (MadeSite (file_path folder (name_at sites (0 + number))) (fresh sites (0 + number))) c.loop-number.invariant.0 one) in
    let next : suc number ≡ number + 1 = omega arith in (
      subst (λ (n : ℕ). Calls does old (makes_from folder sites 0 n) after) next all,
      omega (arith, c.loop-number-test.true),
    )

pub returns-in_err-path-clause-failed : goal.returns-in_err-path-clause-failed
returns-in_err-path-clause-failed g c =
    let few : c.loop-number.number ≤ length c.args.sites.now = omega (arith, c.loop-number-test.true, c.len-number-end.ensures.count) in
    handed_on c.from_residual.result _ _ c.from_residual.ensures.1
    (made_then g.F.Files.does c.args.folder.now c.args.sites.now _ _ _ c.loop-number.number _ [] c.loop-number.invariant.0 few (inr (inr (refl, refl))) refl)

pub returns-in_err-copy-clause-failed : goal.returns-in_err-copy-clause-failed
returns-in_err-copy-clause-failed g c =
    let few : c.loop-number.number ≤ length c.args.sites.now = omega (arith, c.loop-number-test.true, c.len-number-end.ensures.count) in
    handed_on c.from_residual-in_err-copy.result _ _ c.from_residual-in_err-copy.ensures.1
    (made_then g.F.Files.does c.args.folder.now c.args.sites.now _ _ _ c.loop-number.number _ [] c.loop-number.invariant.0 few (inr (inr (refl, refl))) refl)

pub returns-in_err-create_site-clause-failed : goal.returns-in_err-create_site-clause-failed
returns-in_err-create_site-clause-failed g c =
    let below : c.loop-number.number < length c.args.sites.now = omega (arith, c.loop-number-test.true, c.len-number-end.ensures.count) in
    let place = ap (λ (n : ℕ). file_path c.args.folder.now (name_at c.args.sites.now n)) c.in-Some.ensures.value in
    let path = c.as_str.ensures.value ∙ c.in_ok-path.ensures ∙ place in
    handed_on c.from_residual-in_err-create_site.result _ _ c.from_residual-in_err-create_site.ensures.1
    (made_then g.F.Files.does c.args.folder.now c.args.sites.now _ _ _ c.loop-number.number _ (Failed (file_path c.args.folder.now (name_at c.args.sites.now c.loop-number.number)) _ ∷ []) c.loop-number.invariant.0 (omega (arith, below)) (inl (below, refl))
    (failed_at g.F.Files.does _ _ _ _ _ path c.in_err-create_site.ensures.failed))
