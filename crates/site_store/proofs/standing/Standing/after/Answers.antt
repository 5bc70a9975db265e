use Rattle.std.proofs.Common.{sym, ap, subst, ◌∙◌}
use Rattle.site_core.specs.Records.{Record}
use Rattle.site_core.specs.Steps.{Does}
use Rattle.site_store.specs.Standing.{Standing}
use Rattle.site_store.proofs.Standings.{next_done}
use Rattle.site_store.proofs.standing.Standing.after.Goals as goal

pub returns-in-Ok : goal.returns-in-Ok
returns-in-Ok c =
    let asked = sym (ap (λ (s : Standing). s.pending) c.self.view_is) ∙ c.in-Some.is in
    let same = c.in_ok-next.ensures ∙ ap (λ (s : Standing). s.state) c.self.view_is in
    next_done c.an_input_has_one_outcome.ensures.effects c.args.self.now _ _ c.apply.new.self asked
    (subst (λ (x : Record). Does x c.in-Some.input c.in-Ok.field-0 c.apply.new.self) same c.in-Ok.ensures.done)
