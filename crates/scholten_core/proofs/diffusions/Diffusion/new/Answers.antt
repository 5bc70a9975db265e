use Rattle.std.proofs.Common.{ap, ◌∙◌}
use Rattle.std.specs.Ordering.{nat_cmp}
use Rattle.std.specs.FinMap.{FinMap, empty}
use Rattle.frame_core.specs.Identifiers.{recall_cmp}
use Rattle.frame_core.specs.Numbers.{Message}
use Rattle.frame_core.specs.Tables.{as_map}
use Rattle.frame_core.proofs.Maps.{no_entries}
use Rattle.scholten_core.specs.Engagement.{Engagement}
use Rattle.scholten_core.specs.declared.own_recalls.Own.{Own}
use Rattle.scholten_core.proofs.diffusions.Diffusion.new.Goals as goal

pub returns : goal.returns
returns c =
    ap (λ (m : FinMap recall_cmp Message). let e : Engagement = record { me = c.args.me; outbox = c.new.result.rows; seen = c.new-2.result; parents = m; own = as_map nat_cmp c.new-4.result; next_message = c.new.result.next; next_recall = 1 } in e) (no_entries c.new-3.result c.new-3.ensures.empty)
    ∙ ap (λ (m : FinMap nat_cmp Own). let e : Engagement = record { me = c.args.me; outbox = c.new.result.rows; seen = c.new-2.result; parents = empty; own = m; next_message = c.new.result.next; next_recall = 1 } in e) (no_entries c.new-4.result c.new-4.ensures.empty)
    ∙ (λ i. record { me = c.args.me; outbox = (c.new.ensures i).rows; seen = c.new-2.ensures i; parents = empty; own = empty; next_message = (c.new.ensures i).next; next_recall = 1 })
