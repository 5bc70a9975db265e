use Rattle.std.proofs.Common.{subst}
use Rattle.site_rows.specs.Appending.{IsNamed}
use Rattle.site_rows.proofs.AtTheEnd.{stands_at}
use Rattle.site_rows.proofs.NamesInTurn.{first_bad_site, one_more_name}
use Rattle.site_rows.proofs.reading_sites.names_of.Goals as goal

pub returns-then-not-branch-clause-bad : goal.returns-then-not-branch-clause-bad
returns-then-not-branch-clause-bad c =
    let at = stands_at c.args.rows.now c.loop-place.place c.index-rows-place.result c.loop-place-test.true c.index-rows-place.is in
    let refused = subst (IsNamed c.loop-place.names c.index-rows-place.result c.add_name.new.names) c.if-not-branch.true c.in_ok-add_name.ensures in
    first_bad_site c.args.rows.now c.loop-place.place c.index-rows-place.result c.loop-place.names c.len-count.ensures.in_order at c.loop-place-test.true c.loop-place.invariant refused

pub loop-place-preserved : goal.loop-place-preserved
loop-place-preserved c =
    let at = stands_at c.args.rows.now c.loop-place.place c.index-rows-place.result c.loop-place-test.true c.index-rows-place.is in
    let added = subst (IsNamed c.loop-place.names c.index-rows-place.result c.add_name.new.names) c.if-not-branch.false c.in_ok-add_name.ensures in
    one_more_name c.args.rows.now c.loop-place.place c.index-rows-place.result c.loop-place.names c.add_name.new.names at c.loop-place.invariant added.0 added.1
