use Rattle.site_rows.proofs.HeldInTurn.{held_more}
use Rattle.site_rows.proofs.reading_held.hold_last.Goals as goal

pub returns : goal.returns
returns c = held_more c.args.quarantine.now c.hold.new.self c.args.recall c.args.item c.by_recall.ensures.no_empty c.in_ok-hold.ensures.ok (c.comes_last.ensures.0 c.if-not-comes_last.false)
