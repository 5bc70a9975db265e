use Rattle.std.proofs.Common.{subst}
use Rattle.std.specs.List.{Contains}
use Rattle.trace_core.proofs.GroupSteps.{first_gives, first_among}
use Rattle.trace_core.proofs.RelatedPlaces.{parts_found}
use Rattle.trace_core.proofs.groups.first_part.Goals as goal

pub returns-in-Some-clause-outputs : goal.returns-in-Some-clause-outputs
returns-in-Some-clause-outputs c e j stands is = first_gives c.args.book.now j c.args.place c.in-Some.first.now e c.args.body.now stands is
    (subst (λ ps. Contains ps c.in-Some.first.now) (parts_found c.args.book.now c.args.body.now c.parts_of.result.now _ c.parts_of.ensures c.make_id.ensures) (first_among c.parts_of.result.now c.in-Some.first.now c.in-Some.ensures.value))
