use Rattle.std.proofs.Common.{◌≡◌}
use Rattle.std.proofs.lemmas.Int.{to_z-of_z}
use Rattle.event_writing.proofs.Clocks.{clock_read}
use Rattle.event_writing.proofs.times.time_of.Goals as goal

pub returns : goal.returns
returns c =
    let at : c.in-Ok.timestamp.nanosecond ≡ c.args.instant = simp (to_z-of_z, c.ranges.instant) at c.in-Ok.ensures.value in
    clock_read c.args.instant c.in-Ok.timestamp c.to_datetime-clock.result _ at c.to_datetime-clock.ensures c.in_ok-format.ensures.ok
