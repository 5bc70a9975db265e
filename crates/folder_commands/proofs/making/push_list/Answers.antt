use Rattle.std.proofs.Common.{◌≡◌, List, [], ◌∷◌, ◌++◌, codes, eqb-true, refl, sym, ap, ◌∙◌, subst, arith}
use Rattle.std.proofs.lemmas.List.{nil_from_length}
use Rattle.std.specs.List.{AllZip}
use Rattle.recall_outcomes.specs.declared.outcomes.CommandRefusal.{CommandRefusal}
use Rattle.site_folders.specs.FileCalls.{Led, LookedFor}
use Rattle.site_folders.specs.Paths.{list_path}
use Rattle.folder_commands.specs.Making.{LooksForList, name_where}
use Rattle.site_folders.specs.Refusals.{IsExists}
use Rattle.site_folders.proofs.VainLemmas.{none_asks}
use Rattle.folder_commands.proofs.MakingLemmas.{out_then}
use Rattle.site_folders.proofs.CallsInTurn.{handed_on}
use Rattle.folder_commands.proofs.making.push_list.Goals as goal

pub returns-in_ok-push_where-clause-looked : goal.returns-in_ok-push_where-clause-looked
returns-in_ok-push_where-clause-looked g c =
    let does = g.F.Files.does in
    let folder = c.args.folder.now in
    let old = c.args.files.now in
    let new = c.push_where.new.files in
    let refusals = c.push_where.new.refusals.items in
    let (found, call, more, named, is) = c.in_ok-push_where.ensures.looked in
    let zero = eqb-true _ 0 (sym c.is_empty.ensures ∙ c.if-is_empty.true) in
    let none = nil_from_length c.args.refusals.now.items (omega (arith, zero)) in
    let all : refusals ≡ more = is ∙ ap (λ (rs : List CommandRefusal). rs ++ more) none in
    let path = c.as_str.ensures.value ∙ c.in_ok-path.ensures in
    subst (λ rs. Led does old new (LooksForList folder rs refusals)) (sym none)
    (record {
      calls = LookedFor (list_path folder) found ∷ [];
      are = (found, subst (λ rs. AllZip IsExists (name_where found (codes "sites")) rs) (sym all) named, refl);
      led = (new, subst (λ p. does old (LookedFor p found) new) path call, refl);
    })

pub returns-in_err-path-clause-failed : goal.returns-in_err-path-clause-failed
returns-in_err-path-clause-failed g c = λ of.
    handed_on c.from_residual.result _ _ c.from_residual.ensures.1 (out_then g.F.Files.does of g.K.SiteKeeper.shown _ _ [] none_asks refl)

pub returns-in_err-push_where-clause-failed : goal.returns-in_err-push_where-clause-failed
returns-in_err-push_where-clause-failed g c = λ of.
    handed_on c.from_residual-in_err-push_where.result _ _ c.from_residual-in_err-push_where.ensures.1 (c.in_err-push_where.ensures.failed of)
