use Rattle.std.proofs.Common.{◌≡◌, ◌+◌, ◌*◌, ◌≤◌, All, sym, subst}
use Rattle.wire_core.specs.declared.views.Doing.TheVariants.{Nothing}
use Rattle.wire_core.proofs.Changes.{after_post}
use Rattle.wire_core.proofs.wires.Wire.post.Goals as goal

pub invariant_of-seat : goal.invariant_of-seat
invariant_of-seat c =
    let s = c.seat.inside in
    let t = c.post_on.ensures in record {
      rests = after_post (λ e. e.doing ≡ Nothing) c.post_on.result c.args.frame s.token.me.0 c.post_on.new.token.me.0 t.answer (λ e p. p) (λ e p. p) c.seat.invariant.rests;
      hands = t.seat.1;
      placed = subst (λ i. All (λ e. 16 * e.site + 16 ≤ i.slots) c.post_on.new.token.me.0.sites) (sym t.seat.0)
          (after_post (λ e. 16 * e.site + 16 ≤ s.token.table_id.slots) c.post_on.result c.args.frame s.token.me.0 c.post_on.new.token.me.0 t.answer (λ e p. p) (λ e p. p) c.seat.invariant.placed);
    }
