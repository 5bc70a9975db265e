use Rattle.std.proofs.Common.{refl, ◌∙◌}
use mathlib.Core.Bool.{false≢true}
use Rattle.std.specs.FinMap.{entries}
use Rattle.site_core.proofs.ClosedSets.{EntryIsClosed, closed_entries, entries_closed}
use Rattle.site_core.proofs.OneAfterAnother.{none_passed, one_passed, all_passed, one_fails}
use Rattle.site_core.proofs.closing.is_closed_inside.Goals as goal

pub loop-items-init : goal.loop-items-init
loop-items-init c = none_passed (EntryIsClosed c.args.captured.now) (entries c.args.quarantine.now) c.into_iter-items-iterator.result (c.into_iter-items-iterator.ensures.into_iter_gives.0 ∙ c.by_recall-items-items.ensures.entries)

pub returns-then-not-branch : goal.returns-then-not-branch
returns-then-not-branch c = (
  λ e. absurd (false≢true e),
  λ closed. one_fails (EntryIsClosed c.args.captured.now) (entries c.args.quarantine.now) c.loop-items.items-iterator c.next.new.self (c.in-Some.field-0-0.now, c.in-Some.items.now) c.in_ok-is_closed_set.field-0
      c.in-Some.ensures.steps c.if-not-branch.true c.in_ok-is_closed_set.ensures c.loop-items.invariant (entries_closed c.args.captured.now c.args.quarantine.now closed),
)

pub loop-items-preserved : goal.loop-items-preserved
loop-items-preserved c =
    one_passed (EntryIsClosed c.args.captured.now) (entries c.args.quarantine.now) c.loop-items.items-iterator c.next.new.self (c.in-Some.field-0-0.now, c.in-Some.items.now)
    c.in-Some.ensures.steps (c.in_ok-is_closed_set.ensures.0 c.if-not-branch.false) c.loop-items.invariant

pub returns : goal.returns
returns c = (
  λ _. closed_entries c.args.captured.now c.args.quarantine.now (all_passed (EntryIsClosed c.args.captured.now) (entries c.args.quarantine.now) c.loop-items.items-iterator c.in-None.ensures.steps.0 c.loop-items.invariant),
  λ _. refl,
)
