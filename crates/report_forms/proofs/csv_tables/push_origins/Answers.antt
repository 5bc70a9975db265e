use Rattle.std.proofs.Common.{◌≡◌, ◌∙◌, ◌++◌, Some, ap, arith, slice_get, string_bytes, sym}
use Rattle.std.proofs.lemmas.Option.{slice_get-get_or}
use Rattle.report_forms.specs.Csv.{cell_line, origin_row}
use Rattle.report_forms.proofs.Parts.{one_row}
use Rattle.report_forms.proofs.csv_tables.push_origins.Goals as goal

pub loop-origin-preserved : goal.loop-origin-preserved
loop-origin-preserved c =
    let place = c.loop-origin.origin-index in
    let x = c.origin-item.result in
    let a = c.args.account.now in
    let origins = c.origins-origin-items.result.now in
    let at : slice_get origins place ≡ Some x = slice_get-get_or origins place x (omega (arith, c.loop-origin-test.true)) ∙ ap Some (sym c.origin-item.is) in
    one_row c.args.guard (origin_row c.args.sites.now c.args.recall.now a.told) a.origins place x _ _ _ (ap (λ xs. slice_get xs place) (sym c.origins-origin-items.ensures) ∙ at) c.loop-origin.invariant
    (c.in_ok-push_origin.ensures ∙ ap (λ t. string_bytes c.loop-origin.text ++ cell_line c.args.guard (origin_row c.args.sites.now c.args.recall.now t x)) c.tells_events-told.ensures)
