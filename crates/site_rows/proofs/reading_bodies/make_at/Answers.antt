use Rattle.std.proofs.Common.{◌≡◌, ◌<◌, length, None}
use Rattle.site_rows.proofs.PartsInTurn.{none_there, no_id, some_there, some_id, make_read, make_without_input, make_without_output}
use Rattle.site_rows.proofs.reading_bodies.make_at.Goals as goal
use Rattle.site_rows.proofs.reading_bodies.make_at.Goals.{else-is_none-via-then-is_none+else-is_empty, else-is_none-via-else-is_none, else-is_none-2-via-then-is_none-2+else-is_empty-2, else-is_none-2-via-else-is_none-2}

pub returns-then-is_empty : goal.returns-then-is_empty
returns-then-is_empty c =
    make_without_input c.args.sites.now c.args.event c.args.rows.now c.args.at.now c.list_at.new.at c.args.id c.in_ok-ins.ins (rw c.list.ensures at c.in_ok-ins.ensures)
    c.requires.plain (no_id c.args.id c.is_none.result c.is_none.ensures c.if-is_none.true) (none_there (length c.in_ok-ins.ins) c.is_empty.result c.is_empty.ensures c.if-is_empty.true)

pub returns-then-is_empty-2 : goal.returns-then-is_empty-2
returns-then-is_empty-2 c =
    let none = no_id c.args.id c.is_none-2.result c.is_none-2.ensures c.if-is_none-2.true in
    let some : 0 < length c.in_ok-ins.ins = elim c.else-is_none.branch [
      | else-is_none-via-then-is_none+else-is_empty w ↦ some_there (length c.in_ok-ins.ins) w.is_empty.result w.is_empty.ensures w.if-is_empty.false
      | else-is_none-via-else-is_none w ↦ absurd (some_id c.args.id c.is_none.result c.is_none.ensures w.if-is_none.false none)
    ] in
    make_without_output c.args.sites.now c.args.event c.args.rows.now c.args.at.now c.list_at.new.at c.list_at-2.new.at c.args.id c.in_ok-ins.ins c.in_ok-outs.outs
    (rw c.list.ensures at c.in_ok-ins.ensures) (rw c.list-2.ensures at c.in_ok-outs.ensures) c.requires.plain none some
    (none_there (length c.in_ok-outs.outs) c.is_empty-then-is_none-2.result c.is_empty-then-is_none-2.ensures c.if-is_empty-2.true)

pub returns : goal.returns
returns c =
    let ins : c.args.id ≡ None → 0 < length c.in_ok-ins.ins = λ none. elim c.else-is_none.branch [
      | else-is_none-via-then-is_none+else-is_empty w ↦ some_there (length c.in_ok-ins.ins) w.is_empty.result w.is_empty.ensures w.if-is_empty.false
      | else-is_none-via-else-is_none w ↦ absurd (some_id c.args.id c.is_none.result c.is_none.ensures w.if-is_none.false none)
    ] in
    let outs : c.args.id ≡ None → 0 < length c.in_ok-outs.outs = λ none. elim c.else-is_none-2.branch [
      | else-is_none-2-via-then-is_none-2+else-is_empty-2 w ↦ some_there (length c.in_ok-outs.outs) w.is_empty-then-is_none-2.result w.is_empty-then-is_none-2.ensures w.if-is_empty-2.false
      | else-is_none-2-via-else-is_none-2 w ↦ absurd (some_id c.args.id c.is_none-2.result c.is_none-2.ensures w.if-is_none-2.false none)
    ] in
    make_read c.args.sites.now c.args.event c.args.rows.now c.args.at.now c.list_at.new.at c.list_at-2.new.at c.args.id c.in_ok-ins.ins c.in_ok-outs.outs
    (rw c.list.ensures at c.in_ok-ins.ensures) (rw c.list-2.ensures at c.in_ok-outs.ensures) c.requires.plain (λ none. (ins none, outs none))
