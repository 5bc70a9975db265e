use Rattle.std.proofs.Common.{ap, ◌∙◌}
use Rattle.std.specs.Ordering.{nat_cmp}
use Rattle.frame_core.specs.Identifiers.{recall_cmp}
use Rattle.frame_core.specs.Tables.{as_map}
use Rattle.scholten_core.specs.Engagement.{Engagement}
use Rattle.scholten_core.specs.declared.outcomes.Received.{Received}
use Rattle.scholten_core.proofs.TakingBack.{has_engaged, parent_back}
use Rattle.scholten_core.proofs.diffusions.Diffusion.take_back_receive.Goals as goal

pub returns-in-Owe : goal.returns-in-Owe
returns-in-Owe c old out free next is =
    let now : Engagement = record { me = c.self.inside.me; outbox = c.self.inside.outbox.rows; seen = c.self.inside.seen; parents = as_map recall_cmp c.self.inside.parents; own = as_map nat_cmp c.self.inside.own; next_message = c.self.inside.outbox.next; next_recall = c.self.inside.next_recall } in
    let was = has_engaged old c.args.self.now c.args.message c.args.recall out c.in-Owe.numbered (is ∙ ap (λ (a : Received). (c.args.self.now, a)) c.in-Owe.is) in
    c.take_back_note.ensures old c.args.recall out free next was.unseen
    (parent_back old now c.args.message c.args.recall out (as_map recall_cmp c.take.new.map) was.no_parent (c.self.view_is ∙ was.is) c.take.ensures.left)
