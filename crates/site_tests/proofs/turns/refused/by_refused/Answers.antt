use Rattle.std.proofs.Common.{◌∙◌}
use Rattle.site_tests.proofs.Playing.{first_marked, second_marked, first_unmarked, second_unmarked}
use Rattle.site_tests.proofs.turns.refused.by_refused.Goals as goal

pub begin-requires-clause-first : goal.begin-requires-clause-first
begin-requires-clause-first c =
    let made = c.in_ok-wire.ensures.wire in
    let numbers = c.in_ok-wire.ensures.numbers in
    let cut = c.me-b.ensures.me ∙ numbers.1 in
    let part = c.split-mine.ensures.parts.0 in (
      first_marked c.args.first c.args.second c.in_ok-wire.seat.logs c.split-mine.result.0.logs c.me-b.result _ made.2 cut part numbers.0 numbers.0,
      first_unmarked c.args.first c.args.second c.in_ok-wire.seat.logs c.split-mine.result.0.logs c.me-b.result 0 made.2 cut part,
    )

pub begin-requires-2-clause-first : goal.begin-requires-2-clause-first
begin-requires-2-clause-first c =
    let made = c.in_ok-wire.ensures.wire in
    let numbers = c.in_ok-wire.ensures.numbers in
    let cut = c.me-b.ensures.me ∙ numbers.1 in
    let part = c.split-mine.ensures.parts.1 in (
      second_marked c.args.first c.args.second c.in_ok-wire.seat.logs c.split-mine.result.1.logs c.me-b.result _ made.2 cut part numbers.1 numbers.1,
      second_unmarked c.args.first c.args.second c.in_ok-wire.seat.logs c.split-mine.result.1.logs c.me-b.result 0 made.2 cut part,
    )
