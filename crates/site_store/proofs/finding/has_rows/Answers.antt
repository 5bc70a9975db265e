use Rattle.std.proofs.Common.{◌≡◌, refl, sym, ap, ◌∙◌}
use Rattle.site_rows.specs.declared.rows.Rows.{Rows}
use Rattle.site_rows.specs.declared.tables.Version.TheVariants.{First, Second}
use Rattle.site_store.proofs.SameRows.{same_rows, rows_decides}
use Rattle.site_store.proofs.finding.has_rows.Goals as goal

pub returns-clause-same : goal.returns-clause-same
returns-clause-same c =
    let made : Rows = c.in_ok-rows_of.field-0 in
    let rows : Rows = c.args.rows.now in
    let is = c.in_ok-rows_of.ensures.rows in
    let newest : made.version ≡ Second = ap (λ (x : Rows). x.version) is in
    let tells : c.eq.result ≡ same_rows made rows = elim rows.version as (λ v. rows.version ≡ v → c.eq.result ≡ same_rows made rows) [
      | First ↦ λ old. rw (newest, old) (rw (newest, old) at c.eq.ensures)
      | Second ↦ λ old. rw (newest, old) (rw (newest, old) at c.eq.ensures)
    ] refl in
    let decides = rows_decides made rows in
    (λ yes. sym (decides.0 (sym tells ∙ yes)) ∙ is, λ same. tells ∙ decides.1 (is ∙ sym same))
