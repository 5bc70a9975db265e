use Rattle.std.proofs.Common.{sym, subst}
use Rattle.site_core.specs.Blocks.{HasAllParts}
use Rattle.site_core.specs.Joined.{AreParts}
use Rattle.site_core.proofs.Blocks.{has_all_parts}
use Rattle.site_core.proofs.covering.covering_parts.Goals as goal

pub loop-recall-preserved : goal.loop-recall-preserved
loop-recall-preserved c = c.in_ok-add_if_held_at.ensures
    (subst (HasAllParts c.args.captured.now.events c.args.body.now) (sym c.deref.ensures.value) (has_all_parts c.args.captured.now.events c.args.body.now c.args.id.now c.in_ok-places.places.items c.requires.named c.in_ok-places.ensures.exact))
    (subst (AreParts c.args.captured.now.events) (sym c.deref.ensures.value) (c.args.id.now, λ k there. (c.in_ok-places.ensures.exact k).0 there))
    c.loop-recall.invariant
