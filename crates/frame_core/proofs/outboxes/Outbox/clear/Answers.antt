use Rattle.std.proofs.Common.{◌≡◌, None, is_some, sym, ap, ◌∙◌}
use Rattle.std.specs.Ordering.{nat_cmp}
use Rattle.std.specs.Cmp.{nat_cmp_total}
use Rattle.std.specs.FinMap.{FinMap, nat_cmp-IsAntisymmetric, get}
use Rattle.frame_core.specs.declared.rows.Row.{Row}
use Rattle.frame_core.specs.Unsignalled.{Unsignalled}
use Rattle.frame_core.proofs.Maps.{remove_none, none_found}
use Rattle.frame_core.proofs.outboxes.Outbox.clear.Goals as goal

pub returns-clause-kept : goal.returns-clause-kept
returns-clause-kept c missing =
    let none : get c.self.inside.rows.rows c.args.number ≡ None = none_found _ (ap is_some (sym c.take.ensures.value) ∙ sym c.is_some.ensures ∙ missing) in
    let same = c.take.ensures.rows ∙ remove_none nat_cmp_total nat_cmp-IsAntisymmetric c.self.inside.rows.rows c.args.number none in
    ap (λ (m : FinMap nat_cmp Row). let u : Unsignalled = record { rows = m; next = c.self.inside.next } in u) same ∙ c.self.view_is
