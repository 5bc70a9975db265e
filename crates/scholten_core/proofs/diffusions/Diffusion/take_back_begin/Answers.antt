use Rattle.std.proofs.Common.{◌≡◌, ◌+◌, ◌-◌, length, sym, ap, subst, ◌∙◌, arith}
use Rattle.std.specs.Ordering.{nat_cmp}
use Rattle.frame_core.specs.Identifiers.{recall_cmp}
use Rattle.frame_core.specs.Outboxes.{numbered}
use Rattle.frame_core.specs.Tables.{as_map, AreBelow}
use Rattle.scholten_core.specs.Changes.{begun, next_own}
use Rattle.scholten_core.specs.Engagement.{Engagement}
use Rattle.scholten_core.proofs.TakingBack.{begun_back}
use Rattle.scholten_core.proofs.diffusions.Diffusion.take_back_begin.Goals as goal

pub returns : goal.returns
returns c old root out free next is =
    let now : Engagement = record { me = c.self.inside.me; outbox = c.self.inside.outbox.rows; seen = c.self.inside.seen; parents = as_map recall_cmp c.self.inside.parents; own = as_map nat_cmp c.self.inside.own; next_message = c.self.inside.outbox.next; next_recall = c.self.inside.next_recall } in
    let was : now ≡ begun old root out = c.self.view_is ∙ is in
    let rows : c.take_back.new.self.rows ≡ old.outbox =
    c.take_back.ensures.rows old.outbox (next_own old) out (subst (AreBelow old.outbox) next free.rows)
    (ap (λ (e : Engagement). e.outbox) was ∙ ap (λ k. numbered old.outbox k (next_own old) out) next)
    (ap (λ (e : Engagement). e.next_message) was ∙ ap (λ k. k + length out) next) in
    begun_back old now root out c.take_back.new.self.rows (as_map nat_cmp c.take.new.map) c.take_back.new.self.next (c.self.inside.next_recall - 1)
    free was rows c.take.ensures.left (c.take_back.ensures.next ∙ sym next) (omega (arith, c.requires.began, ap (λ (e : Engagement). e.next_recall) c.self.view_is))
