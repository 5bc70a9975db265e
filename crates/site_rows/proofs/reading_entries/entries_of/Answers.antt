use Rattle.std.proofs.Common.{false, take, subst}
use Rattle.std.proofs.lemmas.List.{nil_from_length}
use Rattle.site_core.proofs.Places.{taken_more}
use Rattle.site_rows.specs.Appending.{IsAdded, IsMore}
use Rattle.site_rows.proofs.AtTheEnd.{stands_at}
use Rattle.site_rows.proofs.RowsOfMaps.{one_match_more, first_bad}
use Rattle.site_rows.proofs.reading_entries.entries_of.Goals as goal

pub returns-then-not-branch-clause-bad : goal.returns-then-not-branch-clause-bad
returns-then-not-branch-clause-bad g c =
    let at = stands_at c.args.rows.now c.loop-place.place c.index-rows-place.result c.loop-place-test.true c.index-rows-place.is in
    let refused : IsAdded g.K.Ord.cmp (g.R.EntryRow.is c.args.sites c.index-rows-place.result) c.loop-place.entries.entries c.add.new.entries.entries false =
    subst (IsAdded g.K.Ord.cmp (g.R.EntryRow.is c.args.sites c.index-rows-place.result) c.loop-place.entries.entries c.add.new.entries.entries) c.if-not-branch.true c.in_ok-add.ensures in
    first_bad (g.R.EntryRow.is c.args.sites) c.requires.one g.K.Ord.cmp c.args.rows.now c.loop-place.place c.index-rows-place.result c.loop-place.entries.entries
    at c.loop-place-test.true c.loop-place.invariant.match c.loop-place.invariant.ascending refused

pub loop-place-init : goal.loop-place-init
loop-place-init g c =
    let none = nil_from_length c.new-entries.result.entries c.new-entries.ensures.len in
    rw none (record { match = tt; ascending = tt })

pub loop-place-preserved : goal.loop-place-preserved
loop-place-preserved g c =
    let Is = g.R.EntryRow.is c.args.sites in
    let at = stands_at c.args.rows.now c.loop-place.place c.index-rows-place.result c.loop-place-test.true c.index-rows-place.is in
    let more : IsMore g.K.Ord.cmp (Is c.index-rows-place.result) c.loop-place.entries.entries c.add.new.entries.entries =
    subst (IsAdded g.K.Ord.cmp (Is c.index-rows-place.result) c.loop-place.entries.entries c.add.new.entries.entries) c.if-not-branch.false c.in_ok-add.ensures in
    let made = one_match_more Is (take c.loop-place.place c.args.rows.now) c.loop-place.entries.entries c.index-rows-place.result more.key more.value c.loop-place.invariant.match more.is in
    record {
      match = rw (taken_more c.args.rows.now c.loop-place.place c.index-rows-place.result at) (rw more.last made);
      ascending = more.ascending;
    }
