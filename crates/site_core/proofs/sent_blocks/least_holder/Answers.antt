use Rattle.std.proofs.Common.{◌∙◌, slice_get, ap, sym}
use Rattle.site_core.proofs.SentBlocks.{first_holder}
use Rattle.site_core.proofs.sent_blocks.least_holder.Goals as goal

pub returns-in-Some : goal.returns-in-Some
returns-in-Some c =
    first_holder c.args.quarantine.now c.args.item.now c.in_ok-copy-in-Some.field-0 c.in-Some.recall.now c.in_ok-recalls.recalls.items c.in_ok-recalls.ensures.ascending c.in_ok-recalls.ensures.exact
    (ap (λ xs. slice_get xs 0) (sym c.deref.ensures.value) ∙ sym c.in-Some.ensures.value) c.in_ok-copy-in-Some.ensures
