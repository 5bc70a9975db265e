use Rattle.std.proofs.Common.{◌≡◌, ◌+◌, ◌*◌, ◌≤◌, All, sym, subst}
use Rattle.wire_core.specs.declared.views.Doing.TheVariants.{Nothing}
use Rattle.wire_core.proofs.Changes.{after_take}
use Rattle.wire_core.proofs.wires.Wire.take.Goals as goal

pub invariant_of-seat : goal.invariant_of-seat
invariant_of-seat c =
    let s = c.seat.inside in
    let t = c.take_on.ensures in record {
      rests = after_take (λ e. e.doing ≡ Nothing) c.take_on.result c.args.other c.args.me s.token.me.0 c.take_on.new.token.me.0 t.answer (λ f e p. p) (λ e p. p) c.seat.invariant.rests;
      hands = t.seat.1;
      placed = subst (λ i. All (λ e. 16 * e.site + 16 ≤ i.slots) c.take_on.new.token.me.0.sites) (sym t.seat.0)
          (after_take (λ e. 16 * e.site + 16 ≤ s.token.table_id.slots) c.take_on.result c.args.other c.args.me s.token.me.0 c.take_on.new.token.me.0 t.answer (λ f e p. p) (λ e p. p) c.seat.invariant.placed);
    }
