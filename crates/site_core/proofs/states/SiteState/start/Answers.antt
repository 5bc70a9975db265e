use Rattle.std.proofs.Common.{◌≡◌, ap, sym, subst, ◌∙◌}
use Rattle.std.specs.Prelude.{Err}
use Rattle.frame_core.specs.Numbers.{Recall}
use Rattle.scholten_core.specs.Changes.{next_own}
use Rattle.site_core.specs.declared.inputs.SiteInput.TheVariants.{Start}
use Rattle.site_core.specs.Records.{Record}
use Rattle.site_core.specs.Spreading.{IsKnownItem}
use Rattle.site_core.specs.Steps.{Starts, Refuses}
use Rattle.site_core.specs.Told.{told_numbers}
use Rattle.site_core.proofs.Closed.{shortcuts_with}
use Rattle.site_core.proofs.Results.{of_fault}
use Rattle.site_core.proofs.Soundness.{starts_sound}
use Rattle.site_core.proofs.Starting.{started, started_past, refused}
use Rattle.site_core.proofs.states.SiteState.start.Goals as goal

started_inside : (c : goal.After-drop-plan-2) → Starts (record { sites = c.self.inside.sites; captured = c.self.inside.captured; quarantine = c.self.inside.quarantine; engagement = c.self.inside.diffusion }) c.args.root.now (record { site = c.me.result; number = c.next_recall.result }) c.len.result c.in_ok-began.began.numbered c.in_ok-began.began.ended (record { sites = c.self.inside.sites; captured = c.self.inside.captured; quarantine = c.begin_planned.new.quarantine; engagement = c.begin_planned.new.diffusion })
started_inside c =
    let s : Record = record { sites = c.self.inside.sites; captured = c.self.inside.captured; quarantine = c.self.inside.quarantine; engagement = c.self.inside.diffusion } in
    let r : Recall = record { site = c.me.result; number = c.next_recall.result } in
    let next : r ≡ next_own c.self.inside.diffusion = ap (λ m. record { site = m; number = c.next_recall.result }) c.me.ensures ∙ ap (λ n. record { site = c.self.inside.diffusion.me; number = n }) c.next_recall.ensures.next in
    started s c.args.root.now c.in_ok-root.root r c.in_ok-plan.plan.new.items c.in_ok-plan.plan.out.items c.begin_planned.new.quarantine c.begin_planned.new.diffusion c.len.result c.in_ok-began.began
    (subst (λ s. IsKnownItem s.captured s.quarantine c.args.root.now) (sym c.self.view_is) c.requires.known)
    next c.in_ok-root.ensures c.in_ok-plan.ensures c.in_ok-began.ensures.held c.in_ok-began.ensures.begun c.in_ok-began.ensures.enough (c.len.ensures ∙ c.in_ok-plan.plan.new.ok.0) c.in_ok-began.ensures.answer

pub invariant_of-self-2 : goal.invariant_of-self-2
invariant_of-self-2 c =
    let s : Record = record { sites = c.self.inside.sites; captured = c.self.inside.captured; quarantine = c.self.inside.quarantine; engagement = c.self.inside.diffusion } in
    let sound = starts_sound s c.args.root.now (record { site = c.me.result; number = c.next_recall.result }) c.len.result c.in_ok-began.began.numbered c.in_ok-began.began.ended (record s { quarantine = c.begin_planned.new.quarantine; engagement = c.begin_planned.new.diffusion }) c.self.invariant.0 (started_inside c) in
    (sound, shortcuts_with s.captured s.quarantine c.self.inside.shortcuts c.self.invariant.1 (record { site = c.me.result; number = c.next_recall.result }) c.args.root.now c.in_ok-plan.plan.new.items c.begin_planned.new.quarantine c.in_ok-began.ensures.held c.in_ok-plan.ensures.newly)

pub returns-clause-done : goal.returns-clause-done
returns-clause-done c = subst (λ s. Starts s c.args.root.now (record { site = c.me.result; number = c.next_recall.result }) c.len.result c.in_ok-began.began.numbered c.in_ok-began.began.ended (record { sites = c.self.inside.sites; captured = c.self.inside.captured; quarantine = c.begin_planned.new.quarantine; engagement = c.begin_planned.new.diffusion })) c.self.view_is (started_inside c)

pub returns-in_err-began-clause-refused : goal.returns-in_err-began-clause-refused
returns-in_err-began-clause-refused c =
    let s : Record = record { sites = c.self.inside.sites; captured = c.self.inside.captured; quarantine = c.self.inside.quarantine; engagement = c.self.inside.diffusion } in
    let r : Recall = record { site = c.me.result; number = c.next_recall.result } in
    let next : r ≡ next_own c.self.inside.diffusion = ap (λ m. record { site = m; number = c.next_recall.result }) c.me.ensures ∙ ap (λ n. record { site = c.self.inside.diffusion.me; number = n }) c.next_recall.ensures.next in
    let known : IsKnownItem s.captured s.quarantine c.args.root.now = subst (λ s. IsKnownItem s.captured s.quarantine c.args.root.now) (sym c.self.view_is) c.requires.known in
    of_fault (λ why. Refuses c.args.self.now (Start c.args.root.now) why) c.from_residual-in_err-began.result (told_numbers c.in_err-began.field-0.0) c.from_residual-in_err-began.ensures.1
    (subst (λ s. Refuses s (Start c.args.root.now) (told_numbers c.in_err-began.field-0.0)) c.self.view_is
    (refused s c.args.root.now c.in_err-began.field-0.0 (λ is. started_past s c.args.root.now r c.in_ok-plan.plan.new.items c.in_ok-plan.plan.out.items known next c.in_ok-plan.ensures (c.in_err-began.ensures.spent (ap Err is)))))
