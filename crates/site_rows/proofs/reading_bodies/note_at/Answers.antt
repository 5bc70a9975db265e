use Rattle.site_rows.proofs.PartsInTurn.{note_read}
use Rattle.site_rows.proofs.reading_bodies.note_at.Goals as goal

pub returns : goal.returns
returns c = note_read c.args.sites.now c.args.event c.args.rows.now c.args.at.now c.list_at.new.at c.in_ok-items.items (rw c.list.ensures at c.in_ok-items.ensures)
