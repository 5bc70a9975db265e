use Rattle.std.proofs.Common.{sym, ◌∙◌}
use Rattle.std.proofs.lemmas.Bool.{eqb-true}
use Rattle.frame_core.specs.Rows.{frame_of, row_of}
use Rattle.site_threads.proofs.Offering.{message_is_for, named_to}
use Rattle.site_threads.proofs.offers.message_to.Goals as goal

pub returns-then-eq-clause-fits : goal.returns-then-eq-clause-fits
returns-then-eq-clause-fits c = message_is_for frame_of c.args.state.now.engagement c.args.to c.frame_named.result c.args.number (row_of c.in-Some.row) c.frame_named.ensures (sym c.in-Some.ensures) (eqb-true _ _ (sym c.eq.ensures ∙ c.if-eq.true))

pub returns-then-eq-clause-frame : goal.returns-then-eq-clause-frame
returns-then-eq-clause-frame c = c.frame_named.ensures ∙ named_to c.args.state.now.engagement c.args.to c.args.number (row_of c.in-Some.row) (sym c.in-Some.ensures) (eqb-true _ _ (sym c.eq.ensures ∙ c.if-eq.true))
