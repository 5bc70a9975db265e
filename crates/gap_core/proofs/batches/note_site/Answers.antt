use Rattle.std.proofs.Common.{◌∙◌, sym}
use mathlib.Core.Bool.{false≢true}
use Rattle.gap_core.proofs.BatchSteps.{batch_added, own_batch}
use Rattle.gap_core.proofs.batches.note_site.Goals as goal

pub returns-then-is_own : goal.returns-then-is_own
returns-then-is_own c = own_batch c.args.site.now c.args.to c.args.batches.now.items (c.is_own.ensures.0 c.if-is_own.true)

pub returns : goal.returns
returns c = batch_added c.args.site.now c.args.to c.args.batches.now.items c.push.new.self.items c.in_ok-places_to.field-0 (λ own. false≢true (sym c.if-is_own.false ∙ c.is_own.ensures.1 own)) c.in_ok-places_to.ensures c.in_ok-push.ensures.items
