use Rattle.std.proofs.Common.{None, refl}
use Rattle.site_core.specs.HeldIndex.{notes}
use Rattle.site_core.proofs.HeldIndex.{emptied_at}
use Rattle.site_core.proofs.held_index.forget.Goals as goal

pub returns-then-forget_in : goal.returns-then-forget_in
returns-then-forget_in c = emptied_at c.forget_in.new.index c.remove.new.self c.args.item.now None c.remove.ensures.updates (notes c.args.index.now) c.args.recall refl c.forget_in.ensures.left (c.forget_in.ensures.emptied c.if-forget_in.true)
