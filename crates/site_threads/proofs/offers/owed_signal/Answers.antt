use Rattle.std.proofs.Common.{sym, ap, ◌∙◌}
use Rattle.std.proofs.lemmas.Bool.{eqb-true}
use Rattle.frame_core.specs.Numbers.{Message}
use Rattle.frame_core.specs.Rows.{frame_of}
use Rattle.std.specs.Prelude.{option_and_then}
use Rattle.site_threads.specs.Offers.{signal_of}
use Rattle.site_threads.proofs.Offering.{signal_is_for, signal_to}
use Rattle.site_threads.proofs.offers.owed_signal.Goals as goal

pub returns-then-eq-clause-fits : goal.returns-then-eq-clause-fits
returns-then-eq-clause-fits c =
    signal_is_for frame_of c.args.state.now.engagement c.args.to c.frame_named.result c.in-Some.message c.frame_named.ensures
    (ap (λ (z : Message). z.site) (sym c.message.view_is) ∙ eqb-true _ _ (sym c.eq.ensures ∙ c.if-eq.true))

pub returns-then-eq-clause-frame : goal.returns-then-eq-clause-frame
returns-then-eq-clause-frame c =
    let e = c.args.state.now.engagement in
    let m = c.in-Some.message in
    c.frame_named.ensures ∙ signal_to e c.args.to m (ap (λ (z : Message). z.site) (sym c.message.view_is) ∙ eqb-true _ _ (sym c.eq.ensures ∙ c.if-eq.true)) ∙ ap (option_and_then (signal_of e c.args.to)) (sym c.in-Some.is)
