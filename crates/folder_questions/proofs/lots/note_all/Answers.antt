use Rattle.std.proofs.Common.{◌≡◌}
use Rattle.std.specs.List.{Contains}
use Rattle.query_core.proofs.Keeping.{InList, first_item, no_item_left}
use Rattle.site_core.specs.ItemSets as set
use Rattle.item_spellings.specs.LotParts.{IsLot}
use Rattle.folder_questions.proofs.LotLemmas.{left_ends, left_goes_on, lots_parted}
use Rattle.folder_questions.proofs.lots.note_all.Goals as goal

pub loop-item-preserved : goal.loop-item-preserved
loop-item-preserved c =
    left_goes_on (Contains c.args.lots.now.items) (Contains c.loop-item.lots.items) (Contains c.note_item.new.lots.items) (λ i. InList c.loop-item.item-iterator i × IsLot i)
    (λ i. (c.in-Some.item.now ≡ i) × IsLot i) (λ i. InList c.next.new.self i × IsLot i) (λ i. InList (set.items c.args.items.now) i × IsLot i)
    (lots_parted (InList c.loop-item.item-iterator) (λ i. c.in-Some.item.now ≡ i) (InList c.next.new.self)
    (first_item c.loop-item.item-iterator c.next.new.self c.in-Some.item.now c.in-Some.ensures.steps))
    c.loop-item.invariant c.in_ok-note_item.ensures

pub returns : goal.returns
returns c =
    left_ends (Contains c.args.lots.now.items) (Contains c.loop-item.lots.items) (λ i. InList c.loop-item.item-iterator i × IsLot i) (λ i. InList (set.items c.args.items.now) i × IsLot i)
    (λ i. Contains (set.items c.args.items.now) i × IsLot i) (λ i (at, lot). no_item_left c.loop-item.item-iterator c.in-None.ensures.steps.0 i at) (λ i. (λ h. h, λ h. h)) c.loop-item.invariant
