use Rattle.std.proofs.Common.{◌↔◌, ℕ, List, arith}
use Rattle.std.specs.List.{Contains}
use Rattle.std.proofs.lemmas.Result.{IfOk-weaker}
use Rattle.gap_core.specs.Batches.{AreAllBatches}
use Rattle.gap_core.proofs.BatchSteps.{all_batches, no_batches, one_more_batch}
use Rattle.gap_core.proofs.SourceLists.{item_exact}
use Rattle.gap_core.proofs.batches.batches_of.Goals as goal

pub loop-number-init : goal.loop-number-init
loop-number-init c = no_batches c.args.site.now c.new-batches.result.items c.new-batches.ensures.items

pub loop-number-preserved : goal.loop-number-preserved
loop-number-preserved c = one_more_batch c.args.site.now c.loop-number.number c.loop-number.batches.items c.note_number.new.batches.items c.loop-number.invariant c.in_ok-note_number.ensures

pub returns : goal.returns
returns c = IfOk-weaker c.in_order.result
    (λ ordered. ((a b : List ℕ) → _ → _) → (places : List ℕ) → Contains ordered.items places ↔ Contains c.note_outside.new.batches.items places)
    (λ ordered. AreAllBatches c.args.site.now ordered.items)
    (λ ordered same. all_batches c.args.site.now c.loop-number.number c.loop-number.batches.items c.note_outside.new.batches.items ordered.items (omega (arith, c.loop-number-test.false)) c.read_sites.ensures
    c.loop-number.invariant c.in_ok-note_outside.ensures (same item_exact))
    c.in_order.ensures.same
