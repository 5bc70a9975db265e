use Rattle.std.proofs.Common.{length}
use Rattle.site_rows.proofs.PacksInTurn.{children_read}
use Rattle.site_rows.proofs.reading_packs.pack_at.Goals as goal

pub returns-clause-packed : goal.returns-clause-packed
returns-clause-packed c =
    let head = c.in_ok-head.head in
    children_read (length c.args.sites.now) c.args.event c.args.packed.now c.args.at.now c.list_at.new.at head.action head.parent c.in_ok-children.children c.in_ok-head.ensures.head c.in_ok-children.ensures
