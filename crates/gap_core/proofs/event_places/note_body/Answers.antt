use Rattle.std.proofs.Common.{ap}
use Rattle.std.specs.Option.{option_map}
use Rattle.std.proofs.lemmas.Result.{on_ok_weaker}
use Rattle.gap_core.proofs.LineEventSteps.{body_noted, no_body}
use Rattle.gap_core.proofs.event_places.note_body.Goals as goal

pub returns-in-Some : goal.returns-in-Some
returns-in-Some c = on_ok_weaker c.note_wanted.result
    (body_noted c.args.index.now c.note_wanted.new.index c.args.me c.args.wanted.now c.args.place c.args.body.now (option_map (λ i. i.now) c.packed_in.result) c.in-Some.container.now c.packed_in.ensures (ap (option_map (λ i. i.now)) c.in-Some.is))
    c.note_wanted.ensures

pub returns-in-None : goal.returns-in-None
returns-in-None c =
    no_body c.args.index.now c.args.index.now c.args.me c.args.wanted.now c.args.place c.args.body.now (option_map (λ i. i.now) c.packed_in.result) c.packed_in.ensures (ap (option_map (λ i. i.now)) c.in-None.is)
