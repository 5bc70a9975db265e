use Rattle.std.proofs.Common.{◌∙◌, sym, ap, subst}
use Rattle.std.specs.Option.{option_map}
use Rattle.event_json.specs.Events.{Content}
use Rattle.event_json.specs.declared.bodies.Body.{Body}
use Rattle.trace_core.proofs.NumberLists.{some_is}
use Rattle.gap_core.specs.Shipments.{GoesToSite}
use Rattle.gap_core.proofs.batches.read_event.Goals as goal

pub returns-in-Some : goal.returns-in-Some
returns-in-Some c t (e, so, goes) =
    let stands = sym (sym (ap (option_map (λ e. e.now)) c.in-Some.is) ∙ c.event.ensures) in
    c.read_body.ensures t (subst (λ (b : Body). GoesToSite t b) (sym c.body.ensures.value) (subst (λ (f : Content). GoesToSite t f.body) (some_is e c.in-Some.event.now (sym so ∙ stands)) goes))
