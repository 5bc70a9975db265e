use Rattle.std.proofs.Common.{ap, sym, ◌∙◌, subst, length}
use Rattle.world_core.specs.Worlds.{WorldState}
use Rattle.script_core.specs.Events.{Turns}
use Rattle.script_core.proofs.KeeperLemmas.{kept, seen_as}
use Rattle.script_core.proofs.worlds.MemoryWorld.turn.Goals as goal

pub invariant_of-self : goal.invariant_of-self
invariant_of-self c =
    let w = c.self.inside.world in
    let new = c.turn-answer.new.self in
    let k = kept w.keepers new.keepers w.sent new.sent c.args.event c.turn-answer.result c.self.invariant.0 c.turn-answer.ensures.kind in
    (k.unarmed, k.placed c.in-Sent.place c.in-Sent.is)

pub returns-in-Sent : goal.returns-in-Sent
returns-in-Sent c =
    let w = c.self.inside.world in
    let new = c.turn-answer.new.self in
    let k = kept w.keepers new.keepers w.sent new.sent c.args.event c.turn-answer.result c.self.invariant.0 c.turn-answer.ensures.kind in
    record {
      turns = subst (λ (v : WorldState). Turns v c.args.event c.turn-answer.result (seen_as new.keepers new.sent)) c.self.view_is k.turns;
      count = k.count ∙ ap (λ (v : WorldState). length v.sites) c.self.view_is;
    }

pub invariant_of-self-in_default : goal.invariant_of-self-in_default
invariant_of-self-in_default c =
    let w = c.self.inside.world in
    let new = c.turn-answer.new.self in
    let k = kept w.keepers new.keepers w.sent new.sent c.args.event c.turn-answer.result c.self.invariant.0 c.turn-answer.ensures.kind in
    (k.unarmed, c.self.invariant.1 ∙ sym (ap length (k.stays c.in_default.not-Sent)))

pub returns-in_default : goal.returns-in_default
returns-in_default c =
    let w = c.self.inside.world in
    let new = c.turn-answer.new.self in
    let k = kept w.keepers new.keepers w.sent new.sent c.args.event c.turn-answer.result c.self.invariant.0 c.turn-answer.ensures.kind in
    record {
      turns = subst (λ (v : WorldState). Turns v c.args.event c.turn-answer.result (seen_as new.keepers new.sent)) c.self.view_is k.turns;
      count = k.count ∙ ap (λ (v : WorldState). length v.sites) c.self.view_is;
    }
