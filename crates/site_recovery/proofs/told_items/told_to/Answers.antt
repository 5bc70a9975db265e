use Rattle.std.proofs.Common.{◌≡◌, inl, inr, None, sym, ◌∙◌, subst}
use mathlib.Core.Bool.{false≢true}
use Rattle.std.specs.FinMap.{entries, get, get-empty}
use Rattle.frame_core.specs.Identifiers.{recall_cmp}
use Rattle.site_core.proofs.Held.{none_held}
use Rattle.site_recovery.proofs.Gathering.{all_gathered, none_gathered, one_gathered}
use Rattle.site_recovery.proofs.ToldItems.{IsHeldIn, RowTells, tells_found}
use Rattle.site_recovery.proofs.told_items.told_to.Goals as goal

pub loop-row-init : goal.loop-row-init
loop-row-init c = none_gathered (RowTells c.args.dest) (entries c.args.state.now.engagement.outbox) c.into_iter-row-iterator.result (IsHeldIn c.new-told.result) (c.into_iter-row-iterator.ensures.into_iter_gives.0 ∙ c.outbox-row-items.ensures.entries)

pub loop-row-preserved : goal.loop-row-preserved
loop-row-preserved c =
    one_gathered (RowTells c.args.dest) (entries c.args.state.now.engagement.outbox) c.loop-row.row-iterator c.next.new.self (c.in-Some.field-0-0.now, c.in-Some.row.now) (IsHeldIn c.new-told.result) (IsHeldIn c.loop-row.told) (IsHeldIn c.hold_row.new.told)
    c.in-Some.ensures.steps (λ f. c.in_ok-hold_row.ensures f.0 f.1) c.loop-row.invariant

pub returns : goal.returns
returns c = λ r i.
    let rows = entries c.args.state.now.engagement.outbox in
    let all = all_gathered (RowTells c.args.dest) rows c.loop-row.row-iterator (IsHeldIn c.new-told.result) (IsHeldIn c.loop-row.told) c.in-None.ensures.steps.0 c.loop-row.invariant (r, i) in
    let found = tells_found c.args.state.now.engagement.outbox rows (λ i. rows) (record { dest = c.args.dest; recall = r; item = i }) in
    let none = none_held c.new-told.result r i (subst (λ q. get q r ≡ None) (sym c.new-told.ensures) (get-empty recall_cmp r)) in (
      λ h. elim (all.0 h) [ inl told ↦ found.0 told | inr was ↦ absurd (false≢true (sym none ∙ was)) ],
      λ h. all.1 (inl (found.1 h)),
    )
