use Rattle.std.proofs.Common.{sym}
use Rattle.trace_core.proofs.SentSteps.{no_site, one_site, site_missing}
use Rattle.trace_core.proofs.sendings.Sent.note_at_each.Goals as goal
use Rattle.trace_core.proofs.sendings.Sent.note_at_each.Goals.{in-Some+in_ok-note_at, in_default}

pub loop-number-init : goal.loop-number-init
loop-number-init c = no_site c.args.self.now c.args.self.now c.args.self.now c.args.items.now c.args.sites 0

pub loop-number-preserved : goal.loop-number-preserved
loop-number-preserved c =
    elim c.match-at.branch [
      | in-Some+in_ok-note_at w ↦ rw w.self-is (one_site c.args.self.now c.loop-number.self w.note_at.new.self c.args.items.now c.args.sites c.loop-number.number w.in-Some.site (sym w.in-Some.ensures.some) w.in-Some.ensures.value c.loop-number.invariant w.in_ok-note_at.ensures.ok)
      | in_default w ↦ rw w.self-is (site_missing c.args.self.now c.loop-number.self c.loop-number.self c.args.items.now c.args.sites c.loop-number.number (sym w.in_default.ensures.some) c.loop-number.invariant)
    ]
