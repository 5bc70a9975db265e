use Rattle.std.proofs.Common.{ℕ, List, All, OnOk, subst}
use Rattle.site_rows.specs.Texts.{IsItemText}
use Rattle.site_rows.proofs.event_rows.push_packed.Goals as goal

pub returns-in-Pack-clause-children : goal.returns-in-Pack-clause-children
returns-in-Pack-clause-children c = rw c.in-Pack.is (subst (λ (items : List (List ℕ)). OnOk c.push_children.result (All IsItemText items)) c.as_slice.ensures c.push_children.ensures.items)
