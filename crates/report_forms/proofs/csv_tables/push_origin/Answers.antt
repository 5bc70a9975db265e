use Rattle.std.proofs.Common.{◌∙◌, ◌++◌, [], None, ap, codes, string_bytes}
use Rattle.std.proofs.lemmas.Result.{on_ok_weaker}
use Rattle.report_forms.specs.Csv.{Fields, cell_line, row_of}
use Rattle.report_forms.proofs.csv_tables.push_origin.Goals as goal

pub returns : goal.returns
returns c =
    let p = c.args.origin.now in
    on_ok_weaker c.push_row.result
    (λ written. written
    ∙ ap (λ (evidence : Fields). string_bytes c.args.text.now ++ cell_line c.args.guard (row_of c.args.sites.now c.args.recall.now p.site p.item None (codes "origin") [] evidence)) c.if_told.ensures)
    c.push_row.ensures
