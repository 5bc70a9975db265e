use Rattle.std.proofs.Common.{◌<◌, sym, ◌∙◌, subst}
use Rattle.wire_core.proofs.AtSeat.{marks_at}
use Rattle.wire_core.proofs.steps.mark.Goals as goal

pub fetch_add-requires : goal.fetch_add-requires
fetch_add-requires g c =
    let q = c.requires in
    let r = q.step in
    let m = q.marking in
    let word = c.number.ensures.value ∙ c.me.ensures.me in
    (q.seat.0, subst (λ k. k < c.args.hub.now.table_id.words) (sym word) q.seat.2, marks_at _ _ _ _ _ _ _ _ _ _ r.log (m.0 ∙ sym word) m.1 q.seat.1 r.held (r.site ∙ sym word) r.room r.after r.noted)
