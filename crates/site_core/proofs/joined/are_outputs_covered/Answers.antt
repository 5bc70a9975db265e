use Rattle.std.proofs.Common.{◌≡◌, ℕ, List, Option, Some, sym, subst, ◌∙◌}
use Rattle.std.specs.Borrow.{Bor}
use Rattle.std.specs.Prelude.{Any, IfSome}
use Rattle.std.specs.List.{Contains}
use Rattle.trace_core.specs.Pairs.{GivesOut, make_id}
use Rattle.site_core.proofs.JoinedParts.{covers_output}
use Rattle.site_core.proofs.joined.are_outputs_covered.Goals as goal

pub returns-in_ok-recalls-in-Some : goal.returns-in_ok-recalls-in-Some
returns-in_ok-recalls-in-Some c = λ yes.
    let gives = subst (λ (x : Option (Bor (List ℕ))). IfSome x (λ o. Any (λ e. (make_id e.body ≡ Some c.args.id.now) × GivesOut o.now e.body) c.args.captured.now.events)) c.in-Some.is c.in_ok-item.ensures in
    covers_output c.args.captured.now.events c.args.quarantine.now c.args.id.now c.in-Some.item.now c.args.own.now _ gives
    (λ r h. subst (λ rs. Contains rs r) (sym c.deref.ensures.value) ((c.in_ok-recalls-in-Some.ensures.exact r).1 h)) (sym c.has_each.ensures ∙ yes)
