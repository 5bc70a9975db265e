use Rattle.std.proofs.Common.{◌≡◌, ◌+◌, ◌*◌, ◌≤◌, All, sym, subst}
use Rattle.wire_core.specs.declared.views.Doing.TheVariants.{Nothing}
use Rattle.wire_core.specs.Changes.{marks}
use Rattle.wire_core.proofs.Changes.{kept_by}
use Rattle.wire_core.proofs.wires.Wire.mark.Goals as goal

pub invariant_of-seat : goal.invariant_of-seat
invariant_of-seat c =
    let s = c.seat.inside in
    let t = c.mark_on.ensures in
    let g = marks c.args.input.now.value c.args.new.now in record {
      rests = kept_by (λ e. e.doing ≡ Nothing) c.args.new.now.engagement.me g s.token.me.0.sites c.mark_on.new.token.me.0.sites t.marked (λ e p. p) c.seat.invariant.rests;
      hands = t.seat.1;
      placed = subst (λ i. All (λ e. 16 * e.site + 16 ≤ i.slots) c.mark_on.new.token.me.0.sites) (sym t.seat.0)
          (kept_by (λ e. 16 * e.site + 16 ≤ s.token.table_id.slots) c.args.new.now.engagement.me g s.token.me.0.sites c.mark_on.new.token.me.0.sites t.marked (λ e p. p) c.seat.invariant.placed);
    }
