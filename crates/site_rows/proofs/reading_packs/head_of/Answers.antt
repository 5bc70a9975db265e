use Rattle.site_rows.proofs.AtTheEnd.{stands_at}
use Rattle.site_rows.proofs.PacksInTurn.{is_head, no_head}
use Rattle.site_rows.proofs.reading_packs.head_of.Goals as goal

pub returns-in-Some-2 : goal.returns-in-Some-2
returns-in-Some-2 c =
    let there = stands_at c.args.rows.now c.args.at c.in-Some.row.now c.in-Some.ensures.lookup.3.0 c.in-Some.ensures.lookup.1 in
    is_head c.args.event c.in-Some.row.now _ c.in-Some-action_of.action c.in-Some-2.parent there (c.is_of.ensures.0 c.if-not-is_of.false) c.in-Some-action_of.ensures
    (rw c.in-Some-2.is at c.in_ok-parent.ensures)

pub returns-in-None : goal.returns-in-None
returns-in-None c = λ x is.
    let there = stands_at c.args.rows.now c.args.at c.in-Some.row.now c.in-Some.ensures.lookup.3.0 c.in-Some.ensures.lookup.1 in
    no_head c.args.event c.in-Some.row.now _ c.in-Some-action_of.action there c.in-Some-action_of.ensures (rw c.in-None.is at c.in_ok-parent.ensures) x.action x.parent is
