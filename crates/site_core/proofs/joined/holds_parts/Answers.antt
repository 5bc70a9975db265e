use Rattle.site_core.proofs.JoinedParts.{parts_held_by}
use Rattle.site_core.proofs.joined.holds_parts.Goals as goal

pub returns-then-takes_held_last : goal.returns-then-takes_held_last
returns-then-takes_held_last c = λ _ parts. parts_held_by c.args.captured.now c.args.quarantine.now c.args.recall c.args.places.now (c.requires.closed c.if-closed.true) (c.takes_held_last.ensures c.if-takes_held_last.true) parts
