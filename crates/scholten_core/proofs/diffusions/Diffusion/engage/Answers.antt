use Rattle.std.proofs.Common.{◌≡◌, None, ap, ◌∙◌}
use Rattle.std.specs.Ordering.{nat_cmp}
use Rattle.std.specs.FinMap.{FinMap, get, remove}
use Rattle.frame_core.specs.Identifiers.{recall_cmp}
use Rattle.frame_core.specs.Numbers.{Message}
use Rattle.frame_core.specs.Orders.{recall_total, recall_exact}
use Rattle.frame_core.specs.Tables.{as_map}
use Rattle.frame_core.proofs.Maps.{removed_again}
use Rattle.scholten_core.specs.Changes.{noted, with_parent}
use Rattle.scholten_core.specs.Engagement.{Engagement}
use Rattle.scholten_core.proofs.diffusions.Diffusion.engage.Goals as goal

pub returns-in-Ok-clause-ok : goal.returns-in-Ok-clause-ok
returns-in-Ok-clause-ok c =
    let given : FinMap recall_cmp Message → Engagement = λ m. record { me = c.self.inside.me; outbox = c.self.inside.outbox.rows; seen = c.self.inside.seen; parents = m; own = as_map nat_cmp c.self.inside.own; next_message = c.self.inside.outbox.next; next_recall = c.self.inside.next_recall } in
    c.in-Ok.ensures.ok
    ∙ ap (λ m. noted (given m) c.args.message c.args.recall c.args.out.now) c.in_ok-put.ensures.ok
    ∙ ap (λ e. with_parent (noted e c.args.message c.args.recall c.args.out.now) c.args.recall c.args.message) c.self.view_is

pub returns-in-Err-clause-err : goal.returns-in-Err-clause-err
returns-in-Err-clause-err c =
    let given : FinMap recall_cmp Message → Engagement = λ m. record { me = c.self.inside.me; outbox = c.self.inside.outbox.rows; seen = c.self.inside.seen; parents = m; own = as_map nat_cmp c.self.inside.own; next_message = c.self.inside.outbox.next; next_recall = c.self.inside.next_recall } in
    let left : FinMap recall_cmp Message → Engagement = λ m. record { me = c.self-2.inside.me; outbox = c.self-2.inside.outbox.rows; seen = c.self-2.inside.seen; parents = m; own = as_map nat_cmp c.self-2.inside.own; next_message = c.self-2.inside.outbox.next; next_recall = c.self-2.inside.next_recall } in
    let parents = as_map recall_cmp c.self.inside.parents in
    let none : get parents c.args.recall ≡ None = ap (λ e. get e.parents c.args.recall) c.self.view_is ∙ c.requires.no_parent in
    ap left c.take.ensures.left
    ∙ ap (λ (e : Engagement). let f : Engagement = record e { parents = remove e.parents c.args.recall } in f) (c.self-2.view_is ∙ c.in-Err.ensures.err)
    ∙ ap (λ m. given (remove m c.args.recall)) c.in_ok-put.ensures.ok
    ∙ ap given (removed_again recall_total recall_exact parents c.args.recall c.args.message none)
    ∙ c.self.view_is
