use Rattle.std.proofs.Common.{◌≡◌, inl, inr, List, [], ◌++◌, length, map, eqb-true, refl, sym, ap, ap₂, ◌∙◌, ◌<◌, false-eqb, arith}
use Rattle.recall_outcomes.specs.declared.outcomes.CommandRefusal.{CommandRefusal}
use Rattle.recall_outcomes.specs.declared.outcomes.CommandRefusal.TheVariants.{Line}
use Rattle.std.proofs.lemmas.List.{nil_from_length}
use Rattle.folder_commands.specs.Making.{looks_from, makes_all, too_few}
use Rattle.site_folders.proofs.CallsInTurn.{handed_on, led_so}
use Rattle.site_folders.proofs.VainLemmas.{none_asks}
use Rattle.folder_commands.proofs.MakingLemmas.{all_made, listed_calls, looks_ask, making_failed, out_then, refuses, vain_then}
use Rattle.folder_commands.proofs.making.make_listed.Goals as goal

pub returns-in_ok-make_folder-clause-calls : goal.returns-in_ok-make_folder-clause-calls
returns-in_ok-make_folder-clause-calls g c =
    let folder = c.args.folder.now in
    let list = c.args.list.now in
    let text = c.args.text.now in
    let (found, looked, number, exist, named, is) = c.in_ok-push_existing.ensures.looked in
    let refused = c.push_list.new.refusals.items in
    let zero = eqb-true _ 0 (sym c.is_empty.ensures ∙ c.if-is_empty.true) in
    let none : length refused ≡ 0 = omega (arith, zero) in
    let before = is ∙ ap (λ whys. whys ++ exist) (c.in_ok-push_few.ensures ∙ ap (λ whys. whys ++ too_few list.sites)
    (c.in_ok-push_lines.ensures ∙ ap₂ (λ (whys : List CommandRefusal) lines. whys ++ map Line lines) c.new-refusals.ensures.items c.as_slice.ensures.value)) in
    listed_calls g.F.Files.does folder list text c.args.files.now c.push_existing.new.files c.push_list.new.files c.make_folder.new.files _ found exist c.push_existing.new.refusals.items refused (makes_all folder list.sites text) number named looked before c.in_ok-push_list.ensures.looked
    (all_made _ folder refused list.sites text _ none refl) c.in_ok-make_folder.ensures.made

pub returns-else-is_empty-clause-calls : goal.returns-else-is_empty-clause-calls
returns-else-is_empty-clause-calls g c =
    let folder = c.args.folder.now in
    let list = c.args.list.now in
    let text = c.args.text.now in
    let (found, looked, number, exist, named, is) = c.in_ok-push_existing.ensures.looked in
    let refused = c.push_list.new.refusals.items in
    let before = is ∙ ap (λ whys. whys ++ exist) (c.in_ok-push_few.ensures ∙ ap (λ whys. whys ++ too_few list.sites)
    (c.in_ok-push_lines.ensures ∙ ap₂ (λ (whys : List CommandRefusal) lines. whys ++ map Line lines) c.new-refusals.ensures.items c.as_slice.ensures.value)) in
    let isnt = false-eqb _ 0 (sym c.if-is_empty.false ∙ c.is_empty.ensures) in
    let some : 0 < length refused = omega (arith, isnt) in
    listed_calls g.F.Files.does folder list text c.args.files.now c.push_existing.new.files c.push_list.new.files c.push_list.new.files _ found exist c.push_existing.new.refusals.items refused [] number named looked before c.in_ok-push_list.ensures.looked
    (refuses _ folder refused list.sites text _ some refl) refl

pub returns-in_err-push_lines-clause-failed : goal.returns-in_err-push_lines-clause-failed
returns-in_err-push_lines-clause-failed g c = handed_on c.from_residual.result _ _ c.from_residual.ensures.1 (led_so g.F.Files.does _ _ (λ calls vain. inl vain) (out_then g.F.Files.does c.args.folder.now g.K.SiteKeeper.shown _ _ [] none_asks refl))

pub returns-in_err-push_few-clause-failed : goal.returns-in_err-push_few-clause-failed
returns-in_err-push_few-clause-failed g c =
    handed_on c.from_residual-in_err-push_few.result _ _ c.from_residual-in_err-push_few.ensures.1 (led_so g.F.Files.does _ _ (λ calls vain. inl vain) (out_then g.F.Files.does c.args.folder.now g.K.SiteKeeper.shown _ _ [] none_asks refl))

pub returns-in_err-push_existing-clause-failed : goal.returns-in_err-push_existing-clause-failed
returns-in_err-push_existing-clause-failed g c =
    handed_on c.from_residual-in_err-push_existing.result _ _ c.from_residual-in_err-push_existing.ensures.1
    (led_so g.F.Files.does _ _ (λ calls vain. inl vain) (c.in_err-push_existing.ensures.failed c.args.folder.now))

pub returns-in_err-push_list-clause-failed : goal.returns-in_err-push_list-clause-failed
returns-in_err-push_list-clause-failed g c =
    let (found, looked, number, exist, named, is) = c.in_ok-push_existing.ensures.looked in
    let sites = c.args.list.now.sites in
    handed_on c.from_residual-in_err-push_list.result _ _ c.from_residual-in_err-push_list.ensures.1
    (led_so g.F.Files.does _ _ (λ calls vain. inl vain)
    (vain_then g.F.Files.does c.args.folder.now g.K.SiteKeeper.shown _ _ _ _ (looks_from c.args.folder.now sites 0 found) (looks_ask c.args.folder.now sites 0 found) looked (c.in_err-push_list.ensures.failed c.args.folder.now)))

pub returns-in_err-make_folder-clause-failed : goal.returns-in_err-make_folder-clause-failed
returns-in_err-make_folder-clause-failed g c =
    let list = c.args.list.now in
    let (found, looked, number, exist, named, is) = c.in_ok-push_existing.ensures.looked in
    let refused = c.push_list.new.refusals.items in
    let zero = eqb-true _ 0 (sym c.is_empty.ensures ∙ c.if-is_empty.true) in
    let before = is ∙ ap (λ whys. whys ++ exist) (c.in_ok-push_few.ensures ∙ ap (λ whys. whys ++ too_few list.sites)
    (c.in_ok-push_lines.ensures ∙ ap₂ (λ (whys : List CommandRefusal) lines. whys ++ map Line lines) c.new-refusals.ensures.items c.as_slice.ensures.value)) in
    handed_on c.from_residual-in_err-make_folder.result _ _ c.from_residual-in_err-make_folder.ensures.1
    (led_so g.F.Files.does _ _ (λ calls made. inr made)
    (making_failed g.F.Files.does c.args.folder.now list _ _ _ _ found exist _ refused _ looked number named before (nil_from_length refused (omega (arith, zero))) c.in_ok-push_list.ensures.looked c.in_err-make_folder.ensures.failed))
