use Rattle.std.proofs.Common.{◌≡◌, ◌+◌, length, sym, ap, subst, ◌∙◌}
use Rattle.std.specs.Ordering.{nat_cmp}
use Rattle.frame_core.specs.Identifiers.{recall_cmp}
use Rattle.frame_core.specs.Outboxes.{numbered}
use Rattle.frame_core.specs.Tables.{as_map, AreBelow}
use Rattle.scholten_core.specs.Changes.{noted}
use Rattle.scholten_core.specs.Engagement.{Engagement}
use Rattle.scholten_core.proofs.TakingBack.{noted_back}
use Rattle.scholten_core.proofs.diffusions.Diffusion.take_back_note.Goals as goal

pub returns : goal.returns
returns c old r out free next unseen is =
    let now : Engagement = record { me = c.self.inside.me; outbox = c.self.inside.outbox.rows; seen = c.self.inside.seen; parents = as_map recall_cmp c.self.inside.parents; own = as_map nat_cmp c.self.inside.own; next_message = c.self.inside.outbox.next; next_recall = c.self.inside.next_recall } in
    let was : now ≡ noted old c.args.message r out = c.self.view_is ∙ is in
    let rows : c.take_back.new.self.rows ≡ old.outbox =
    c.take_back.ensures.rows old.outbox r out (subst (AreBelow old.outbox) next free.rows)
    (ap (λ (e : Engagement). e.outbox) was ∙ ap (λ k. numbered old.outbox k r out) next)
    (ap (λ (e : Engagement). e.next_message) was ∙ ap (λ k. k + length out) next) in
    noted_back old now c.args.message r out c.take_back.new.self.rows c.forget.new.self c.take_back.new.self.next unseen was rows c.forget.ensures (c.take_back.ensures.next ∙ sym next)
