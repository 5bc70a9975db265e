use Rattle.std.proofs.Common.{◌≡◌, subst, rules}
use Rattle.site_rows.specs.declared.rows.Rows.{Rows}
use Rattle.site_rows.specs.RecordRows.{HasTables, rows_under}
use Rattle.site_store.specs.Opened.{IsRefused}
use Rattle.site_store.specs.declared.opening.OpenFault.TheVariants.{NoMemory}
use Rattle.site_store.proofs.Findings.{not_refused}
use Rattle.site_store.proofs.Named.{named_so}
use Rattle.site_store.proofs.opening.record_of.Goals as goal

pub returns-in-Ok-clause-named : goal.returns-in-Ok-clause-named
returns-in-Ok-clause-named c = named_so c.args.rows.now.version c.in-Ok.state c.args.rows.now c.args.name.now c.in-Ok.ensures.read c.in-Ok.ensures.kept c.in_ok-check_name.ensures.named

pub returns-in_err-check_name-clause-same : goal.returns-in_err-check_name-clause-same
returns-in_err-check_name-clause-same c tables r kept items named same =
    let v = c.args.rows.now.version in
    let fault = c.in_err-check_name.field-0.0 in
    let refused : IsRefused c.args.name.now (rows_under v r) fault = subst (λ (rows : Rows). IsRefused c.args.name.now rows fault) same c.in_err-check_name.ensures.refused in
    let told : fault ≡ NoMemory = not_refused v r c.args.name.now fault kept items (subst HasTables same tables) named refused in
    search rules
