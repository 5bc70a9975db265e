use Rattle.std.proofs.Common.{[], take, sym, subst, ap, ◌∙◌, ◌≡◌, length, arith}
use Rattle.std.proofs.Math.Seq.{take-length}
use Rattle.site_core.proofs.Places.{taken_more}
use Rattle.site_rows.specs.Appending.{IsAdded}
use Rattle.site_rows.specs.BadRows.{Match, IsHeldEntry}
use Rattle.site_rows.specs.HeldItems.{held_cmp, all_held}
use Rattle.site_rows.proofs.AtTheEnd.{stands_at}
use Rattle.site_rows.proofs.HeldInTurn.{all_ascend, items_held, nothing_held, rows_held, recalls_among}
use Rattle.site_rows.proofs.OneEntry.{one_held_entry}
use Rattle.site_rows.proofs.RowsOfMaps.{one_match_more, first_bad}
use Rattle.site_rows.proofs.reading_held.quarantine_of.Goals as goal

pub returns-then-not-branch-clause-bad : goal.returns-then-not-branch-clause-bad
returns-then-not-branch-clause-bad c =
    let at = stands_at c.args.rows.now c.loop-place.place c.index-rows-place.result c.loop-place-test.true c.index-rows-place.is in
    let refused = subst (IsAdded held_cmp (IsHeldEntry c.args.sites c.index-rows-place.result) (all_held c.loop-place.quarantine) (all_held c.add_held.new.quarantine)) c.if-not-branch.true c.in_ok-add_held.ensures in
    first_bad (IsHeldEntry c.args.sites) (one_held_entry c.args.sites) held_cmp c.args.rows.now c.loop-place.place c.index-rows-place.result (all_held c.loop-place.quarantine)
    at c.loop-place-test.true c.loop-place.invariant (all_ascend c.loop-place.quarantine) refused

pub loop-place-init : goal.loop-place-init
loop-place-init c = subst (λ hs. Match (IsHeldEntry c.args.sites) [] hs) (sym (ap all_held c.new-quarantine.ensures ∙ nothing_held)) tt

pub loop-place-preserved : goal.loop-place-preserved
loop-place-preserved c =
    let Is = IsHeldEntry c.args.sites in
    let at = stands_at c.args.rows.now c.loop-place.place c.index-rows-place.result c.loop-place-test.true c.index-rows-place.is in
    let more = subst (IsAdded held_cmp (Is c.index-rows-place.result) (all_held c.loop-place.quarantine) (all_held c.add_held.new.quarantine)) c.if-not-branch.false c.in_ok-add_held.ensures in
    let made = one_match_more Is (take c.loop-place.place c.args.rows.now) (all_held c.loop-place.quarantine) c.index-rows-place.result more.key more.value c.loop-place.invariant more.is in
    rw (taken_more c.args.rows.now c.loop-place.place c.index-rows-place.result at) (rw more.last made)

pub returns : goal.returns
returns c =
    let at_end : c.loop-place.place ≡ length c.args.rows.now = omega (arith, c.loop-place-test.false, c.loop-place.auto.place-end) in
    let all = subst (λ rs. Match (IsHeldEntry c.args.sites) rs (all_held c.loop-place.quarantine)) (ap (λ n. take n c.args.rows.now) at_end ∙ take-length c.args.rows.now) c.loop-place.invariant in
    record {
      rows = rows_held c.args.sites c.args.rows.now c.loop-place.quarantine all;
      among = recalls_among c.args.sites c.args.rows.now c.loop-place.quarantine c.by_recall.ensures.no_empty all;
      no_empty_set = c.by_recall.ensures.no_empty;
      items = items_held c.args.sites c.args.rows.now c.loop-place.quarantine all;
      bad = tt;
    }
