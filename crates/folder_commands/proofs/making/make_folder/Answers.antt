use Rattle.std.proofs.Common.{◌≤◌, [], ◌∷◌, length, refl, ◌∙◌, subst, arith, inl, inr}
use Rattle.site_folders.specs.FileCalls.{Failed, WroteFile}
use Rattle.site_folders.specs.Paths.{list_path}
use Rattle.folder_commands.specs.Making.{makes_from}
use Rattle.site_folders.proofs.CallsInTurn.{calls_then, err_so, failed_at, handed_on, on_ok_so}
use Rattle.folder_commands.proofs.MakingLemmas.{made_then}
use Rattle.folder_commands.proofs.making.make_folder.Goals as goal

pub returns-clause-made : goal.returns-clause-made
returns-clause-made g c =
    let does = g.F.Files.does in
    let folder = c.args.folder.now in
    let sites = c.args.sites.now in
    let text = c.args.text.now in
    let mid = c.make_all.new.files in
    let new = c.write_new.new.self in
    let path = c.as_str.ensures.value ∙ c.in_ok-path.ensures in
    on_ok_so c.write_new.result
    (λ wrote. calls_then does c.args.files.now mid new (makes_from folder sites 0 (length sites)) (WroteFile (list_path folder) text ∷ []) c.in_ok-make_all.ensures.made
    (new, subst (λ p. does mid (WroteFile p text) new) path wrote, refl))
    c.write_new.ensures.written

pub returns-in_err-path-clause-failed : goal.returns-in_err-path-clause-failed
returns-in_err-path-clause-failed g c =
    let sites = c.args.sites.now in
    let few : length sites ≤ length sites = omega arith in
    handed_on c.from_residual-in_err-path.result _ _ c.from_residual-in_err-path.ensures.1
    (made_then g.F.Files.does c.args.folder.now sites _ _ _ (length sites) _ [] c.in_ok-make_all.ensures.made few (inr (inr (refl, refl))) refl)

pub returns-clause-failed : goal.returns-clause-failed
returns-clause-failed g c =
    let sites = c.args.sites.now in
    let folder = c.args.folder.now in
    let few : length sites ≤ length sites = omega arith in
    let path = c.as_str.ensures.value ∙ c.in_ok-path.ensures in
    err_so c.write_new.result
    (λ f one. made_then g.F.Files.does folder sites _ _ _ (length sites) f (Failed (list_path folder) f ∷ []) c.in_ok-make_all.ensures.made few (inr (inl (refl, refl))) (failed_at g.F.Files.does _ _ _ _ _ path one))
    c.write_new.ensures.failed
