use Rattle.std.proofs.Common.{◌≡◌, None, ap, ◌∙◌}
use Rattle.std.specs.FinMap.{FinMap, get, remove}
use Rattle.frame_core.specs.Identifiers.{message_cmp}
use Rattle.frame_core.specs.Numbers.{Recall}
use Rattle.frame_core.specs.Orders.{message_total, message_exact}
use Rattle.frame_core.specs.Tables.{as_map}
use Rattle.frame_core.specs.Unsignalled.{Unsignalled}
use Rattle.frame_core.proofs.Maps.{removed_again}
use Rattle.frame_core.proofs.Noting.{noted_fresh}
use Rattle.scholten_core.specs.Engagement.{Engagement}
use Rattle.scholten_core.proofs.diffusions.Diffusion.note.Goals as goal

pub returns-in-Err-clause-err : goal.returns-in-Err-clause-err
returns-in-Err-clause-err c =
    let unseen : get c.self.inside.seen c.args.message ≡ None = ap (λ e. get e.seen c.args.message) c.self.view_is ∙ c.requires.unseen in
    let seen : c.forget.new.self ≡ c.self.inside.seen =
    c.forget.ensures ∙ ap (λ m. remove m c.args.message) (noted_fresh c.in_ok-note.field-0 c.in_ok-note.ensures.repeat c.in_ok-note.ensures.fresh unseen)
    ∙ removed_again message_total message_exact c.self.inside.seen c.args.message c.args.recall unseen in
    ap (λ (m : FinMap message_cmp Recall). let e : Engagement = record { me = c.self.inside.me; outbox = c.number_all.new.self.rows; seen = m; parents = as_map _ c.self.inside.parents; own = as_map _ c.self.inside.own; next_message = c.number_all.new.self.next; next_recall = c.self.inside.next_recall } in e) seen
    ∙ ap (λ (u : Unsignalled). let e : Engagement = record { me = c.self.inside.me; outbox = u.rows; seen = c.self.inside.seen; parents = as_map _ c.self.inside.parents; own = as_map _ c.self.inside.own; next_message = u.next; next_recall = c.self.inside.next_recall } in e) c.in-Err.ensures.err
    ∙ c.self.view_is
