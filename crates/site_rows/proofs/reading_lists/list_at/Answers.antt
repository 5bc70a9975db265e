use Rattle.std.proofs.Common.{◌+◌, [], ◌∷◌, ap, ◌∙◌, arith}
use Rattle.std.proofs.lemmas.List.{length-append}
use Rattle.std.proofs.lemmas.List.Elements.{All-append, All-cons, All-nil}
use Rattle.site_core.proofs.Places.{stands_within}
use Rattle.site_rows.proofs.ListsInTurn.{member_more}
use Rattle.site_rows.proofs.reading_lists.list_at.Goals as goal

pub loop-place-preserved : goal.loop-place-preserved
loop-place-preserved g c =
    let written = g.M.Member.written c.args.sites.now in
    let is = g.M.Member.is c.args.sites.now in
    let row_of = g.R.ListRow.row_of c.args.list.event c.args.list.role in
    let rows = c.args.rows.now in
    let at = c.loop-place.at in
    let members = c.loop-place.members.items in
    let read = rw c.in-Some.is at c.in_ok-member.ensures in
    let there = read.there in
    let low = stands_within rows at (row_of (c.loop-place.place, written c.in-Some.member)) there in
    let more = member_more row_of written rows c.args.at.now at c.loop-place.place members c.in-Some.member c.loop-place.invariant.counted there c.loop-place.invariant.rows in
    record {
      within = omega (arith, low);
      counted = rw c.in_ok-push-in-Some.ensures.items (length-append members (c.in-Some.member ∷ []) ∙ ap (λ n. n + 1) c.loop-place.invariant.counted);
      rows = rw c.in_ok-push-in-Some.ensures.items more;
      all = rw c.in_ok-push-in-Some.ensures.items (All-append is members (c.in-Some.member ∷ []) c.loop-place.invariant.all (All-cons is c.in-Some.member [] read.is (All-nil is)));
    }
