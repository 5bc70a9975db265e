use Rattle.std.proofs.Common.{◌≡◌, ◌+◌, ℕ, [], ◌∷◌, ◌++◌, length, length-append, append_assoc, append-nil, refl, sym, ap, ◌∙◌, subst, arith}
use Rattle.std.specs.List.{AllZip}
use Rattle.recall_text.specs.Words.{name_at}
use Rattle.site_folders.specs.Paths.{file_path}
use Rattle.site_folders.specs.FileCalls.{Calls, LookedFor}
use Rattle.folder_commands.specs.Making.{existing, looks_from, name_where}
use Rattle.site_folders.specs.Refusals.{IsExists}
use Rattle.site_folders.proofs.CallsInTurn.{call_more, handed_on}
use Rattle.folder_commands.proofs.MakingLemmas.{existing_more, looks_ask, looks_more, out_then, vain_then, zip_both}
use Rattle.folder_commands.proofs.making.push_existing.Goals as goal

pub loop-number-init : goal.loop-number-init
loop-number-init g c = (([], refl, refl, [], tt, sym (append-nil c.args.refusals.now.items)), omega arith)

pub loop-number-preserved : goal.loop-number-preserved
loop-number-preserved g c =
    let does = g.F.Files.does in
    let old = c.args.files.now in
    let folder = c.args.folder.now in
    let sites = c.args.sites.now in
    let before = c.loop-number.invariant.0 in
    let found = before.0 in
    let files = c.loop-number.files in
    let after = c.push_where.new.files in
    let one = c.in_ok-push_where.ensures.looked.0 in
    let place : c.in-Some.site ≡ 0 + length found = let none : length found ≡ 0 + length found = omega arith in c.in-Some.ensures.value ∙ sym before.2 ∙ none in
    let path : c.as_str.result.now ≡ file_path folder (name_at sites (0 + length found)) =
    c.as_str.ensures.value ∙ c.in_ok-path.ensures ∙ ap (λ (n : ℕ). file_path folder (name_at sites n)) place in
    let name : c.name_of.result.now ≡ name_at sites (0 + length found) = c.name_of.ensures ∙ ap (λ (n : ℕ). name_at sites n) place in
    let so_far = c.args.refusals.now.items in
    let others = before.3 in
    let more = c.in_ok-push_where.ensures.looked.2 in (
      (
        found ++ one ∷ [],
        subst (λ cs. Calls does old cs after) (sym (looks_more folder sites 0 found one))
            (call_more does old files after (looks_from folder sites 0 found) (LookedFor (file_path folder (name_at sites (0 + length found))) one) before.1
            (subst (λ p. does files (LookedFor p one) after) path c.in_ok-push_where.ensures.looked.1)),
        length-append found (one ∷ []) ∙ ap (λ (n : ℕ). n + 1) before.2,
        others ++ more,
        subst (λ names. AllZip IsExists names (others ++ more)) (sym (existing_more sites 0 found one))
            (zip_both IsExists (existing sites 0 found) (name_where one (name_at sites (0 + length found))) others more before.4
            (subst (λ nm. AllZip IsExists (name_where one nm) more) name c.in_ok-push_where.ensures.looked.3)),
        c.in_ok-push_where.ensures.looked.4 ∙ ap (λ whys. whys ++ more) before.5 ∙ append_assoc so_far others more,
      ),
      omega (arith, c.loop-number-test.true),
    )

pub returns-in_err-path-clause-failed : goal.returns-in_err-path-clause-failed
returns-in_err-path-clause-failed g c = λ of.
    let before = c.loop-number.invariant.0 in
    let looks = looks_from c.args.folder.now c.args.sites.now 0 before.0 in
    handed_on c.from_residual.result _ _ c.from_residual.ensures.1
    (out_then g.F.Files.does of g.K.SiteKeeper.shown _ _ looks (looks_ask c.args.folder.now c.args.sites.now 0 before.0) before.1)

pub returns-in_err-push_where-clause-failed : goal.returns-in_err-push_where-clause-failed
returns-in_err-push_where-clause-failed g c = λ of.
    let before = c.loop-number.invariant.0 in
    let looks = looks_from c.args.folder.now c.args.sites.now 0 before.0 in
    handed_on c.from_residual-in_err-push_where.result _ _ c.from_residual-in_err-push_where.ensures.1
    (vain_then g.F.Files.does of g.K.SiteKeeper.shown _ _ _ _ looks (looks_ask c.args.folder.now c.args.sites.now 0 before.0) before.1 (c.in_err-push_where.ensures.failed of))
