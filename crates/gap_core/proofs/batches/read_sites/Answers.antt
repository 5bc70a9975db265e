use Rattle.std.proofs.Common.{◌≡◌, subst, ⊎_elim, arith}
use mathlib.Core.Logic.{inl}
use Rattle.std.proofs.lemmas.Bool.{cases_lt}
use Rattle.std.proofs.lemmas.Option.{slice_get_within}
use Rattle.gap_core.specs.Shipments.{GoesAt}
use Rattle.gap_core.proofs.batches.read_sites.Goals as goal

pub loop-place-preserved : goal.loop-place-preserved
loop-place-preserved c k t below goes = ⊎_elim
    (λ sooner. c.loop-place.invariant k t sooner goes)
    (λ past. let here : k ≡ c.loop-place.place = omega (arith, below, past) in c.read_event.ensures t (subst (GoesAt c.args.site.now.events (inl t)) here goes))
    (cases_lt k c.loop-place.place)

pub returns : goal.returns
returns c k t goes =
    let below = slice_get_within c.args.site.now.events k goes.0 goes.1 in
    c.loop-place.invariant k t (omega (arith, below, c.loop-place-test.false, c.len-place-end.ensures)) goes
