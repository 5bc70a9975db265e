use Rattle.std.proofs.Common.{◌≡◌, ◌+◌, ◌*◌, ◌≤◌, [], map, length, All, sym, subst, ap, ◌∙◌, arith}
use Rattle.std.proofs.lemmas.List.{length-map}
use Rattle.wire_core.specs.declared.views.Doing.TheVariants.{Nothing}
use Rattle.wire_core.specs.Changes.{Hands}
use Rattle.wire_core.specs.Rule.{first_view}
use Rattle.wire_core.proofs.Begins.{begins_as}
use Rattle.wire_core.proofs.Changes.{starts_at_rest, starts_placed}
use Rattle.wire_core.proofs.wires.Wire.new.Goals as goal

pub vacant-requires : goal.vacant-requires
vacant-requires c =
    let zeros = c.as_slice.ensures.value ∙ c.in_ok-words.ensures.items_if_clones_equal (λ y e. e) in
    begins_as (λ s. s.value) c.in_ok-opening.opening.items c.args.records.now (λ r. r.now) c.as_slice.result.now c.in_ok-opening.ensures c.requires.count.1 c.requires.fit zeros

pub invariant_of-result-2 : goal.invariant_of-result-2
invariant_of-result-2 c =
    let t = c.in_ok-table.ensures in
    let rs = map (λ r. r.now) c.args.records.now in
    let count = length-map c.args.records.now (λ r. r.now) in
    let me = t.4 ∙ (λ k. (first_view (c.in_ok-opening.ensures k), [])) in
    record {
      rests = subst (λ (m : Hands). All (λ e. e.doing ≡ Nothing) m.0.sites) (sym me) (starts_at_rest rs 0);
      hands = ap (λ (m : Hands). m.1) me;
      placed = subst (λ i. All (λ e. 16 * e.site + 16 ≤ i) c.in_ok-table.token.me.0.sites) (sym (ap (λ i. i.slots) t.2 ∙ t.1))
          (subst (λ (m : Hands). All (λ e. 16 * e.site + 16 ≤ 16 * length c.args.records.now) m.0.sites) (sym me) (starts_placed rs 0 (length c.args.records.now) (let n = count in omega arith)));
    }
