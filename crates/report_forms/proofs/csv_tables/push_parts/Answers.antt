use Rattle.std.proofs.Common.{◌∙◌, ◌++◌, ap, ap₂, string_bytes, sym}
use Rattle.report_forms.specs.Accounts.{part_of}
use Rattle.report_forms.specs.Csv.{cell_line, kind_of, part_row}
use Rattle.report_forms.proofs.Parts.{one_row}
use Rattle.report_forms.proofs.csv_tables.push_parts.Goals as goal

pub loop-place-preserved : goal.loop-place-preserved
loop-place-preserved c =
    let sites = c.args.sites.now in
    let recall = c.args.recall.now in
    let a = c.args.account.now in
    let part = part_of c.in-Some.part in
    let kind = c.kind_of-kind.ensures ∙ ap kind_of c.title.ensures in
    one_row c.args.guard (part_row sites recall (kind_of a.title) a.told) a.parts c.loop-place.place part _ _ _ (sym c.in-Some.ensures) c.loop-place.invariant
    (c.in_ok-push_part.ensures ∙ ap₂ (λ k t. string_bytes c.loop-place.text ++ cell_line c.args.guard (part_row sites recall k t part)) kind c.tells_events-told.ensures)
