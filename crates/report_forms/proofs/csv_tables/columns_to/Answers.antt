use Rattle.std.proofs.Common.{ap, codes, sym}
use Rattle.report_forms.specs.Csv.{cell_line, columns, csv_field, csv_line}
use Rattle.report_forms.proofs.csv_tables.columns_to.Goals as goal

pub returns-then-told : goal.returns-then-told
unfolding cell_line csv_line csv_field
returns-then-told c = λ guard. ap (λ told. cell_line guard (columns (codes "to_site") (codes "to_item") told)) (sym c.if-told.true)
