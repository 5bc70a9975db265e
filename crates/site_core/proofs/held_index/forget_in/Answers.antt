use Rattle.std.proofs.Common.{rules, false, Some, sym}
use Rattle.site_core.proofs.HeldIndex.{set_at, others_stay}
use Rattle.site_core.proofs.held_index.forget_in.Goals as goal

pub returns-in-Some-clause-left : goal.returns-in-Some-clause-left
returns-in-Some-clause-left c = set_at c.args.index.now (c.get_mut.follows.lender c.remove.new.self) c.args.item.now (Some c.remove.new.self) ((c.get_mut.follows.holds c.remove.new.self).3 (search rules)) (Some c.in-Some.recalls.now) c.args.recall false
    (sym c.in-Some.ensures.value) c.remove.ensures.updates.1 (others_stay c.in-Some.recalls.now c.remove.new.self c.args.recall false c.remove.ensures.updates)
