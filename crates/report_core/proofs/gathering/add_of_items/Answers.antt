use Rattle.std.proofs.Common.{inl, inr, ⊎_elim}
use Rattle.site_recovery.proofs.Gathering.{all_gathered, none_gathered, one_gathered}
use Rattle.report_core.specs.Gathering.{IsIn, ItemTells}
use Rattle.report_core.proofs.gathering.add_of_items.Goals as goal

pub loop-item-init : goal.loop-item-init
loop-item-init c =
    none_gathered (ItemTells c.args.containers.now.site.now.events c.args.site) c.args.items.now.keys c.into_iter-item-iterator.result (IsIn c.args.found.now) c.into_iter-item-iterator.ensures.into_iter_gives.0

pub loop-item-preserved : goal.loop-item-preserved
loop-item-preserved c =
    one_gathered (ItemTells c.args.containers.now.site.now.events c.args.site) c.args.items.now.keys c.loop-item.item-iterator c.next.new.self c.in-Some.item.now (IsIn c.args.found.now) (IsIn c.loop-item.found) (IsIn c.add_of_item.new.found)
    c.in-Some.ensures.steps (λ x. let adds = c.in_ok-add_of_item.ensures x in (λ h. ⊎_elim (λ was. inr was) (λ tells. inl tells) (adds.0 h), λ h. adds.1 (⊎_elim (λ tells. inr tells) (λ was. inl was) h))) c.loop-item.invariant

pub returns : goal.returns
returns c x =
    let all = all_gathered (ItemTells c.args.containers.now.site.now.events c.args.site) c.args.items.now.keys c.loop-item.item-iterator (IsIn c.args.found.now) (IsIn c.loop-item.found) c.in-None.ensures.steps.0 c.loop-item.invariant x in
    (λ h. ⊎_elim (λ tells. inr tells) (λ was. inl was) (all.0 h), λ h. all.1 (⊎_elim (λ was. inr was) (λ tells. inl tells) h))
