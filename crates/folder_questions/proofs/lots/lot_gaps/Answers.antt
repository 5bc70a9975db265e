use Rattle.std.proofs.Common.{◌↔◌, List, ℕ, [], Bor, subst}
use Rattle.std.specs.List.{Contains}
use Rattle.std.proofs.lemmas.Map.Lookups.{CmpEqualImpliesEq, exact_bytes}
use Rattle.std.proofs.lemmas.Result.{IfOk-weaker}
use Rattle.gap_core.specs.Adding.{AddsToList, ByOne}
use Rattle.gap_core.proofs.Additions.{adds_alike, all_added, one_more}
use Rattle.site_core.specs.Quarantines.{Quarantine}
use Rattle.site_core.specs.Records.{Record}
use Rattle.site_recovery.specs.Checking.{records_at}
use Rattle.trace_core.specs.Pairs.{pair_cmp}
use Rattle.trace_core.specs.declared.pairs.Pair.{Pair}
use Rattle.trace_core.proofs.PairOrder.{pairs_exact}
use Rattle.folder_questions.specs.Lots.{HoldsLot, IsFreeAt, IsLotGap}
use Rattle.folder_questions.proofs.LotLemmas.{by_records, lot_gaps_are}
use Rattle.folder_questions.proofs.lots.lot_gaps.Goals as goal

pub loop-state-preserved : goal.loop-state-preserved
loop-state-preserved c =
    one_more (λ (r : Bor Record). HoldsLot r.now.quarantine) c.args.records.now c.loop-state.state-index (Contains []) (Contains c.loop-state.lots.items) (Contains c.note_held.new.lots.items)
    c.state-item.result c.loop-state-test.true c.state-item.is c.loop-state.invariant
    (subst (λ (q : Quarantine). AddsToList c.loop-state.lots.items c.note_held.new.lots.items (HoldsLot q)) c.quarantine.ensures c.in_ok-note_held.ensures)

pub loop-lot-preserved : goal.loop-lot-preserved
loop-lot-preserved c =
    one_more (λ (lot : List ℕ). ByOne (records_at c.args.records.now) (IsFreeAt lot)) c.as_slice-lot-items.result.now c.loop-lot.lot-index (Contains []) (Contains c.loop-lot.found.items) (Contains c.note_lot.new.found.items)
    c.lot-item.result c.loop-lot-test.true c.lot-item.is c.loop-lot.invariant c.in_ok-note_lot.ensures

pub returns-clause-exact : goal.returns-clause-exact
returns-clause-exact c =
    let records = records_at c.args.records.now in
    let holds : Bor Record → List ℕ → Type 0 = λ r. HoldsLot r.now.quarantine in
    let held = adds_alike (Contains []) (Contains c.loop-state.lots.items) (ByOne c.args.records.now holds) (ByOne records (λ r. HoldsLot r.quarantine)) (by_records c.args.records.now (λ r. HoldsLot r.quarantine))
    (all_added holds c.args.records.now c.loop-state.state-index (Contains []) (Contains c.loop-state.lots.items) c.loop-state-test.false c.loop-state.invariant) in
    let lots = c.in_ok-lots.lots.items in
    let ordered : AddsToList [] lots (ByOne records (λ r. HoldsLot r.quarantine)) = λ i. let (to, from) = c.in_ok-lots.ensures.same exact_bytes i in let (there, back) = held i in (λ at. there (to at), λ all. from (back all)) in
    let free = subst (λ (ls : List (List ℕ)). AddsToList [] c.loop-lot.found.items (ByOne ls (λ lot. ByOne records (IsFreeAt lot)))) c.as_slice-lot-items.ensures.value
    (all_added (λ (lot : List ℕ). ByOne records (IsFreeAt lot)) c.as_slice-lot-items.result.now c.loop-lot.lot-index (Contains []) (Contains c.loop-lot.found.items) c.loop-lot-test.false c.loop-lot.invariant) in
    let all = lot_gaps_are records lots c.loop-lot.found.items ordered free in
    IfOk-weaker c.in_order-2.result
    (λ found. CmpEqualImpliesEq pair_cmp → (p : Pair) → Contains found.items p ↔ Contains c.loop-lot.found.items p)
    (λ found. (p : Pair) → Contains found.items p ↔ IsLotGap records p)
    (λ found same p. let (to, from) = same pairs_exact p in let (there, back) = all p in (λ at. there (to at), λ gap. from (back gap)))
    c.in_order-2.ensures.same
