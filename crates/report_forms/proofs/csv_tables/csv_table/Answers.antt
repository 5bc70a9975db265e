use Rattle.std.proofs.Common.{◌≡◌, ◌∙◌, ap, string_bytes}
use Rattle.std.proofs.lemmas.Result.{IfOk-weaker}
use Rattle.csv.specs.Reading.{default_config, records}
use Rattle.report_forms.specs.Csv.{account_rows, cell_lines, table_rows}
use Rattle.report_forms.proofs.TableLaws.{account_read}
use Rattle.report_forms.proofs.csv_tables.csv_table.Goals as goal

pub returns : goal.returns
returns c =
    let rows = account_rows c.args.sites.now c.args.account.now in
    IfOk-weaker c.table_text.result (λ t. string_bytes t ≡ cell_lines c.args.guard rows) (λ t. records default_config (string_bytes t) ≡ table_rows c.args.guard rows)
    (λ t is. ap (records default_config) is ∙ account_read c.args.guard c.args.sites.now c.args.account.now) c.table_text.ensures
