use Rattle.std.proofs.Common.{◌≡◌, ◌+◌, ◌*◌, ◌≤◌, not, nat_lt, All, sym, subst}
use Rattle.std.proofs.lemmas.List.Elements.{All-filter}
use Rattle.wire_core.specs.declared.views.Doing.TheVariants.{Nothing}
use Rattle.wire_core.specs.declared.views.Log.{Log}
use Rattle.wire_core.proofs.wires.Wire.split.Goals as goal

pub invariant_of-result : goal.invariant_of-result
invariant_of-result c =
    let s = c.seat.inside in
    let t = c.split_on-other.ensures in
    let p = λ (e : Log). nat_lt e.site c.args.at in record {
      rests = subst (All (λ e. e.doing ≡ Nothing)) (sym t.parts.0) (All-filter p (λ e. e.doing ≡ Nothing) s.token.me.0.sites c.seat.invariant.rests);
      hands = t.seats.1;
      placed = subst (λ i. All (λ e. 16 * e.site + 16 ≤ i.slots) c.split_on-other.new.token.me.0.sites) (sym t.seats.0)
          (subst (All (λ e. 16 * e.site + 16 ≤ s.token.table_id.slots)) (sym t.parts.0) (All-filter p (λ e. 16 * e.site + 16 ≤ s.token.table_id.slots) s.token.me.0.sites c.seat.invariant.placed));
    }

pub invariant_of-result-2 : goal.invariant_of-result-2
invariant_of-result-2 c =
    let s = c.seat.inside in
    let t = c.split_on-other.ensures in
    let p = λ (e : Log). not (nat_lt e.site c.args.at) in record {
      rests = subst (All (λ e. e.doing ≡ Nothing)) (sym t.parts.1) (All-filter p (λ e. e.doing ≡ Nothing) s.token.me.0.sites c.seat.invariant.rests);
      hands = t.seats.3;
      placed = subst (λ i. All (λ e. 16 * e.site + 16 ≤ i.slots) c.split_on-other.result.me.0.sites) (sym t.seats.2)
          (subst (All (λ e. 16 * e.site + 16 ≤ s.token.table_id.slots)) (sym t.parts.1) (All-filter p (λ e. 16 * e.site + 16 ≤ s.token.table_id.slots) s.token.me.0.sites c.seat.invariant.placed));
    }
