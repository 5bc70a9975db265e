use Rattle.std.proofs.Common.{◌-◌, sym, ap, subst}
use Rattle.frame_core.specs.Numbers.{Recall}
use Rattle.site_core.specs.Records.{Record, IsSound}
use Rattle.site_core.specs.Undoing.{StartedFrom}
use Rattle.site_core.proofs.TakenBack.{started_back}
use Rattle.site_core.proofs.states.SiteState.take_back_start.Goals as goal

pub invariant_of-self : goal.invariant_of-self
invariant_of-self c =
    let now : Record = record { sites = c.self.inside.sites; captured = c.self.inside.captured; quarantine = c.self.inside.quarantine; engagement = c.self.inside.diffusion } in
    let r : Recall = record { site = c.me.result; number = c.next_recall.result - 1 } in
    let (old, given) = c.requires in
    let from = subst (λ s. StartedFrom old s c.args.next_message c.args.held.items) (sym c.self.view_is) given in
    let back = started_back old now c.args.next_message c.args.held.items r c.release_items.new.self c.take_back_begin.new.self from
    (λ i. record { site = c.me.ensures i; number = c.next_recall.ensures.next i - 1 }) c.release_items.ensures
    (c.take_back_begin.ensures old.engagement from.root from.out from.free from.next (ap (λ (s : Record). s.engagement) from.after)) in
    (subst IsSound (sym back) from.sound, c.found.ensures)

pub returns : goal.returns
returns c old given =
    let now : Record = record { sites = c.self.inside.sites; captured = c.self.inside.captured; quarantine = c.self.inside.quarantine; engagement = c.self.inside.diffusion } in
    let r : Recall = record { site = c.me.result; number = c.next_recall.result - 1 } in
    let from = subst (λ s. StartedFrom old s c.args.next_message c.args.held.items) (sym c.self.view_is) given in
    started_back old now c.args.next_message c.args.held.items r c.release_items.new.self c.take_back_begin.new.self from
    (λ i. record { site = c.me.ensures i; number = c.next_recall.ensures.next i - 1 }) c.release_items.ensures
    (c.take_back_begin.ensures old.engagement from.root from.out from.free from.next (ap (λ (s : Record). s.engagement) from.after))
