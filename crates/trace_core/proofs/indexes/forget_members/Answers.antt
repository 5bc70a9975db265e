use Rattle.std.proofs.Common.{List, ◌∷◌, [], subst, ◌++◌, arith}
use Rattle.trace_core.specs.Numbers.{HasMembers}
use Rattle.trace_core.specs.declared.event_items.Members.{Members}
use Rattle.trace_core.proofs.IndexSteps.{items_gone, names_gone, known_before, members_less, some_members}
use Rattle.trace_core.proofs.indexes.forget_members.Goals as goal

pub returns-in-Some : goal.returns-in-Some
returns-in-Some c events last has =
    let members : HasMembers (events ++ c.args.event.now ∷ []) (c.pop.new.self.items ++ c.in-Some.own ∷ []) = subst (λ (ms : List Members). HasMembers (events ++ c.args.event.now ∷ []) ms) c.in-Some.ensures.items has.members in
    let before = known_before events c.args.event.now c.pop.new.self.items c.in-Some.own members in
    record {
      places = items_gone c.args.items.now c.forget_items_of.new.known events c.args.event.now c.body.result.now c.body.ensures.value c.args.place c.in-Some.own.known last before has.names has.places c.forget_items_of.ensures;
      names = names_gone c.args.items.now c.forget_items_of.new.known events c.args.event.now c.body.result.now c.body.ensures.value c.args.place c.in-Some.own.known last before has.names has.places c.forget_items_of.ensures;
      members = members_less events c.args.event.now c.pop.new.self.items c.in-Some.own members;
    }

pub returns-in_default : goal.returns-in_default
returns-in_default c events last has = absurd (some_members events c.args.event.now c.args.members.now.items (omega (arith, c.in_default.ensures.cases.0, c.args.members.now.ok)) has.members)
