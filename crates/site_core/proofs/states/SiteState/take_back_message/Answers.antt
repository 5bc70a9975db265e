use Rattle.std.proofs.Common.{sym, ap, subst, ◌∙◌}
use Rattle.scholten_core.specs.declared.outcomes.Received.{Received}
use Rattle.site_core.specs.declared.outcomes.Effects.{Effects}
use Rattle.site_core.specs.Records.{Record, IsSound}
use Rattle.site_core.specs.Undoing.{TookFrom}
use Rattle.site_core.proofs.TakenBack.{received_back}
use Rattle.site_core.proofs.states.SiteState.take_back_message.Goals as goal

pub invariant_of-self : goal.invariant_of-self
invariant_of-self c =
    let now : Record = record { sites = c.self.inside.sites; captured = c.self.inside.captured; quarantine = c.self.inside.quarantine; engagement = c.self.inside.diffusion } in
    let (old, given) = c.requires in
    let took = subst (λ s. TookFrom old s c.args.message c.args.recall c.args.effects.now c.args.next_message c.args.held.items) (sym c.self.view_is) given in
    let from = subst (λ (t : Effects). TookFrom old now c.args.message c.args.recall t c.args.next_message c.args.held.items) c.in-Received.is took in
    let back = received_back old now c.args.message c.args.recall _ c.args.next_message c.args.held.items c.release_items.new.self c.take_back_receive.new.self from c.release_items.ensures
    (c.take_back_receive.ensures old.engagement from.out from.free from.next (from.engaged ∙ ap (λ (a : Received). (now.engagement, a)) (sym c.reply-answer.ensures))) in
    (subst IsSound (sym back) from.sound, c.found.ensures)

pub returns-in-Received : goal.returns-in-Received
returns-in-Received c old given =
    let now : Record = record { sites = c.self.inside.sites; captured = c.self.inside.captured; quarantine = c.self.inside.quarantine; engagement = c.self.inside.diffusion } in
    let took = subst (λ s. TookFrom old s c.args.message c.args.recall c.args.effects.now c.args.next_message c.args.held.items) (sym c.self.view_is) given in
    let from = subst (λ (t : Effects). TookFrom old now c.args.message c.args.recall t c.args.next_message c.args.held.items) c.in-Received.is took in
    received_back old now c.args.message c.args.recall _ c.args.next_message c.args.held.items c.release_items.new.self c.take_back_receive.new.self from c.release_items.ensures
    (c.take_back_receive.ensures old.engagement from.out from.free from.next (from.engaged ∙ ap (λ (a : Received). (now.engagement, a)) (sym c.reply-answer.ensures)))
