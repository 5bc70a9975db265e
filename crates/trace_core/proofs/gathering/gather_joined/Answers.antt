use Rattle.std.proofs.Common.{◌==◌, ◌&&◌, ◌||◌, ℕ, List, slice_get, sum_by, ap, subst, ◌∙◌, arith}
use Rattle.trace_core.specs.Gathering.{is_in}
use Rattle.trace_core.specs.Groups.{outputs_at}
use Rattle.trace_core.specs.Looks.{LooksAtMost}
use Rattle.trace_core.proofs.LookSteps.{looks_of_all}
use Rattle.trace_core.proofs.RelatedPlaces.{parts_found, joined_at_places}
use Rattle.trace_core.proofs.gathering.gather_joined.Goals as goal

pub returns-clause-added : goal.returns-clause-added
returns-clause-added c = λ p. c.loop-place.invariant.added p ∙ ap (λ b. is_in c.args.pairs.now p || (p.site == c.args.me && b))
    (joined_at_places c.args.book.now c.args.body.now p.item _ c.loop-place.place-index (omega arith) (parts_found c.args.book.now c.args.body.now _ _ c.parts_of-place-items.ensures c.make_id.ensures))

pub returns-clause-looks : goal.returns-clause-looks
returns-clause-looks c = subst (λ (ps : List ℕ). LooksAtMost (sum_by (λ k. outputs_at (slice_get c.args.book.now k)) ps) c.args.looks.now c.loop-place.looks)
    (parts_found c.args.book.now c.args.body.now _ _ c.parts_of-place-items.ensures c.make_id.ensures)
    (looks_of_all (λ k. outputs_at (slice_get c.args.book.now k)) c.parts_of-place-items.result.now c.loop-place.place-index _ _ c.loop-place.invariant.looks)
