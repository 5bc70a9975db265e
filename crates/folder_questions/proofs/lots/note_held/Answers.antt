use Rattle.std.proofs.Common.{◌∙◌, sym, subst}
use Rattle.std.specs.FinMap.{entries}
use Rattle.std.specs.List.{Contains}
use Rattle.query_core.proofs.Keeping.{InSets, first_set, no_set_left, quarantined_sets}
use Rattle.site_core.specs.ItemSets as set
use Rattle.item_spellings.specs.LotParts.{IsLot}
use Rattle.folder_questions.specs.Lots.{HoldsLot}
use Rattle.folder_questions.proofs.LotLemmas.{left_begins, left_ends, left_goes_on, lots_parted}
use Rattle.folder_questions.proofs.lots.note_held.Goals as goal

pub loop-items-init : goal.loop-items-init
loop-items-init c =
    let same = c.into_iter-items-iterator.ensures.into_iter_gives.0 ∙ c.by_recall-items-items.ensures.entries in
    left_begins (Contains c.args.lots.now.items) (λ i. InSets c.into_iter-items-iterator.result i × IsLot i) (λ i. InSets (entries c.args.quarantine.now) i × IsLot i)
    (λ i. (λ (at, lot). (subst (λ es. InSets es i) same at, lot), λ (at, lot). (subst (λ es. InSets es i) (sym same) at, lot)))

pub loop-items-preserved : goal.loop-items-preserved
loop-items-preserved c =
    left_goes_on (Contains c.args.lots.now.items) (Contains c.loop-items.lots.items) (Contains c.note_all.new.lots.items) (λ i. InSets c.loop-items.items-iterator i × IsLot i)
    (λ i. Contains (set.items c.in-Some.items.now) i × IsLot i) (λ i. InSets c.next.new.self i × IsLot i) (λ i. InSets (entries c.args.quarantine.now) i × IsLot i)
    (lots_parted (InSets c.loop-items.items-iterator) (λ i. Contains (set.items c.in-Some.items.now) i) (InSets c.next.new.self)
    (first_set c.loop-items.items-iterator c.next.new.self (c.in-Some.field-0-0.now, c.in-Some.items.now) c.in-Some.ensures.steps))
    c.loop-items.invariant c.in_ok-note_all.ensures

pub returns : goal.returns
returns c =
    left_ends (Contains c.args.lots.now.items) (Contains c.loop-items.lots.items) (λ i. InSets c.loop-items.items-iterator i × IsLot i) (λ i. InSets (entries c.args.quarantine.now) i × IsLot i)
    (HoldsLot c.args.quarantine.now) (λ i (at, lot). no_set_left c.loop-items.items-iterator c.in-None.ensures.steps.0 i at)
    (λ i. (λ (at, lot). let h = (quarantined_sets c.args.quarantine.now i).0 at in (lot, h.0, h.1), λ (lot, r, held). ((quarantined_sets c.args.quarantine.now i).1 (r, held), lot)))
    c.loop-items.invariant
