use Rattle.std.proofs.Common.{◌∙◌, sym, subst, Contains}
use Rattle.std.specs.FinMap.{entries}
use Rattle.std.specs.Prelude.{IsTrue}
use Rattle.frame_core.specs.Numbers.{Recall}
use Rattle.site_core.specs.ItemSets as set
use Rattle.site_core.specs.Quarantines.{held}
use Rattle.query_core.proofs.Keeping.{InSets, first_set, keeping_begins, keeping_ends, keeping_goes_on, no_set_left, quarantined_sets}
use Rattle.query_core.proofs.mentions.keep_quarantined.Goals as goal

pub loop-items-init : goal.loop-items-init
loop-items-init c =
    let same = c.into_iter-items-iterator.ensures.into_iter_gives.0 ∙ c.by_recall-items-items.ensures.entries in
    keeping_begins c.args.counts.now (InSets c.into_iter-items-iterator.result) (InSets (entries c.args.quarantine.now))
    (λ i. (λ at. subst (λ es. InSets es i) same at, λ at. subst (λ es. InSets es i) (sym same) at))

pub loop-items-preserved : goal.loop-items-preserved
loop-items-preserved c =
    keeping_goes_on c.args.counts.now c.loop-items.counts c.keep_all.new.counts (InSets c.loop-items.items-iterator) (λ i. Contains (set.items c.in-Some.items.now) i) (InSets c.next.new.self) (InSets (entries c.args.quarantine.now))
    (first_set c.loop-items.items-iterator c.next.new.self (c.in-Some.field-0-0.now, c.in-Some.items.now) c.in-Some.ensures.steps) c.loop-items.invariant c.in_ok-keep_all.ensures

pub returns : goal.returns
returns c =
    keeping_ends c.args.counts.now c.loop-items.counts (InSets c.loop-items.items-iterator) (InSets (entries c.args.quarantine.now)) (λ i. (r : Recall) × IsTrue (held c.args.quarantine.now r i))
    (no_set_left c.loop-items.items-iterator c.in-None.ensures.steps.0) (quarantined_sets c.args.quarantine.now) c.loop-items.invariant
