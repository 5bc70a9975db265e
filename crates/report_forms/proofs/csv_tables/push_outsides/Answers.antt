use Rattle.std.proofs.Common.{◌∙◌, ◌++◌, ap, string_bytes, sym}
use Rattle.report_forms.specs.Accounts.{outside_part_of}
use Rattle.report_forms.specs.Csv.{cell_line, outside_row}
use Rattle.report_forms.proofs.Parts.{one_row}
use Rattle.report_forms.proofs.csv_tables.push_outsides.Goals as goal

pub loop-place-preserved : goal.loop-place-preserved
loop-place-preserved c =
    let sites = c.args.sites.now in
    let recall = c.args.recall.now in
    let a = c.args.account.now in
    let part = outside_part_of c.in-Some.part in
    one_row c.args.guard (outside_row sites recall a.told) a.outside c.loop-place.place part _ _ _ (sym c.in-Some.ensures) c.loop-place.invariant
    (c.in_ok-push_outside.ensures ∙ ap (λ t. string_bytes c.loop-place.text ++ cell_line c.args.guard (outside_row sites recall t part)) c.tells_events-told.ensures)
