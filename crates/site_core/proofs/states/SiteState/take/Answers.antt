use Rattle.std.proofs.Common.{◌≡◌, None, sym, subst, ◌∙◌}
use Rattle.std.specs.FinMap.{get}
use Rattle.site_core.specs.Records.{Record}
use Rattle.site_core.specs.Steps.{IsForSite}
use Rattle.site_core.specs.Quarantines.{Quarantine}
use Rattle.site_core.specs.Shortcuts.{TakeHeld}
use Rattle.site_core.proofs.Closed.{shortcuts_with}
use Rattle.site_core.proofs.Soundness.{takes_sound}
use Rattle.site_core.proofs.Taking.{taken}
use Rattle.site_core.proofs.states.SiteState.take.Goals as goal

pub invariant_of-self-2 : goal.invariant_of-self-2
invariant_of-self-2 c =
    let s : Record = record { sites = c.self.inside.sites; captured = c.self.inside.captured; quarantine = c.self.inside.quarantine; engagement = c.self.inside.diffusion } in
    let q = c.receive_planned.new.quarantine in
    let e = c.receive_planned.new.diffusion in
    let sound = takes_sound s c.args.message c.args.dest c.args.recall c.args.item.now c.len.result c.len-2.result c.in_ok-owed.owed (record s { quarantine = q; engagement = e }) c.self.invariant.0
    (taken s c.args.message c.args.dest c.args.recall c.args.item.now c.in_ok-plan.plan.new.items c.in_ok-plan.plan.out.items q e c.len.result c.len-2.result c.in_ok-owed.owed
    (subst (λ s. IsForSite s c.args.message c.args.dest c.args.recall × (get s.engagement.seen c.args.message ≡ None)) (sym c.self.view_is) c.requires.unseen)
    c.in_ok-plan.ensures.newly c.in_ok-plan.ensures.shipped c.in_ok-owed.ensures.held c.in_ok-owed.ensures.answer c.in_ok-owed.ensures.enough (c.len.ensures ∙ c.in_ok-plan.plan.new.ok.0) (c.len-2.ensures ∙ c.in_ok-plan.plan.out.ok.0)) in
    let taken = c.take_seen-seen.ensures s.captured s.quarantine c.self.invariant.1 in (
      sound,
      c.keep_seen.ensures s.captured q
          (shortcuts_with s.captured s.quarantine c.take_seen-seen.new.self taken.0 c.args.recall c.args.item.now c.in_ok-plan.plan.new.items q c.in_ok-owed.ensures.held c.in_ok-plan.ensures.newly)
          (subst (λ (p : Quarantine). TakeHeld s.captured p c.args.recall c.plan_message.new.seen) (sym c.in_ok-owed.ensures.held) c.in_ok-plan.ensures.seen),
    )
