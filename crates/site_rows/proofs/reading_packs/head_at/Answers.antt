use Rattle.std.proofs.Common.{◌+◌}
use Rattle.site_rows.proofs.PacksInTurn.{head_bad, head_read, pack_read, pack_stuck}
use Rattle.site_rows.proofs.reading_packs.head_at.Goals as goal

pub returns-in-Some-clause-read : goal.returns-in-Some-clause-read
returns-in-Some-clause-read c = λ sites children few all.
    let head = c.in-Some.head in
    let is = rw c.in-Some.is at c.in_ok-head.ensures in
    head_read sites c.args.event c.args.rows.now c.args.read.now.at (c.args.read.now.at + 1) c.args.read.now.is_bad _ c.if-read.false
    (pack_read sites c.args.event c.args.rows.now c.args.read.now.at head.action head.parent children is few all)

pub returns-in-None-clause-read : goal.returns-in-None-clause-read
returns-in-None-clause-read c = λ sites children few all.
    let none = rw c.in-None.is at c.in_ok-head.ensures in
    head_bad sites c.args.event c.args.rows.now c.args.read.now.at c.args.read.now.at c.args.read.now.is_bad _ c.if-read.false
    (pack_stuck sites c.args.event c.args.rows.now c.args.read.now.at c.requires.within (λ action parent is. none (record { action = action; parent = parent }) is))
