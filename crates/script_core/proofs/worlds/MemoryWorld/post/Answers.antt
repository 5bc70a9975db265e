use Rattle.std.proofs.Common.{ap, sym, ◌∙◌, subst, length}
use Rattle.world_core.specs.Posting.{IsPlaceOf}
use Rattle.world_core.specs.Worlds.{WorldState}
use Rattle.world_core.specs.declared.events.WorldEvent.TheVariants.{Send}
use Rattle.script_core.specs.Events.{Turns}
use Rattle.script_core.specs.State.{up_in}
use Rattle.script_core.proofs.KeeperLemmas.{kept, seen_as, up_is}
use Rattle.script_core.proofs.worlds.MemoryWorld.post.Goals as goal

pub invariant_of-self : goal.invariant_of-self
invariant_of-self c =
    let w = c.self.inside.world in
    let new = c.post-answer.new.self in
    let (place, is, comes, kind) = c.post-answer.ensures in
    let k = kept w.keepers new.keepers w.sent new.sent (Send c.args.site place) c.post-answer.result c.self.invariant.0 kind in
    (k.unarmed, k.placed c.in-Sent.place c.in-Sent.is)

pub returns-in-Sent : goal.returns-in-Sent
returns-in-Sent c =
    let w = c.self.inside.world in
    let new = c.post-answer.new.self in
    let (place, is, comes, kind) = c.post-answer.ensures in
    let k = kept w.keepers new.keepers w.sent new.sent (Send c.args.site place) c.post-answer.result c.self.invariant.0 kind in (
      place,
      subst (λ (v : WorldState). IsPlaceOf (up_in v.sites c.args.site) c.args.name place) c.self.view_is (subst (λ o. IsPlaceOf o c.args.name place) (up_is w.keepers c.args.site) is),
      subst (λ (v : WorldState). Turns v (Send c.args.site place) c.post-answer.result (seen_as new.keepers new.sent)) c.self.view_is k.turns,
      k.count ∙ ap (λ (v : WorldState). length v.sites) c.self.view_is,
    )

pub invariant_of-self-in_default : goal.invariant_of-self-in_default
invariant_of-self-in_default c =
    let w = c.self.inside.world in
    let new = c.post-answer.new.self in
    let (place, is, comes, kind) = c.post-answer.ensures in
    let k = kept w.keepers new.keepers w.sent new.sent (Send c.args.site place) c.post-answer.result c.self.invariant.0 kind in
    (k.unarmed, c.self.invariant.1 ∙ sym (ap length (k.stays c.in_default.not-Sent)))

pub returns-in_default : goal.returns-in_default
returns-in_default c =
    let w = c.self.inside.world in
    let new = c.post-answer.new.self in
    let (place, is, comes, kind) = c.post-answer.ensures in
    let k = kept w.keepers new.keepers w.sent new.sent (Send c.args.site place) c.post-answer.result c.self.invariant.0 kind in (
      place,
      subst (λ (v : WorldState). IsPlaceOf (up_in v.sites c.args.site) c.args.name place) c.self.view_is (subst (λ o. IsPlaceOf o c.args.name place) (up_is w.keepers c.args.site) is),
      subst (λ (v : WorldState). Turns v (Send c.args.site place) c.post-answer.result (seen_as new.keepers new.sent)) c.self.view_is k.turns,
      k.count ∙ ap (λ (v : WorldState). length v.sites) c.self.view_is,
    )
