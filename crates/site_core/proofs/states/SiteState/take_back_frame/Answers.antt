use Rattle.std.proofs.Common.{subst}
use Rattle.site_core.specs.Undoing.{TookFrame}
use Rattle.site_core.proofs.states.SiteState.take_back_frame.Goals as goal

pub take_back_message-requires : goal.take_back_message-requires
take_back_message-requires c =
    let (old, took) = c.requires in
    (old, subst (λ f. TookFrame old c.args.self.now f c.args.effects.now c.args.next_message c.args.held.items) c.in-Recall.is took)
