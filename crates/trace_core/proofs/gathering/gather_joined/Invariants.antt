use Rattle.std.proofs.Common.{◌≡◌, ◌==◌, ◌&&◌, ◌||◌, take, slice_get, sum_by}
use Rattle.std.specs.List.{list_any}
use Rattle.trace_core.specs.declared.pairs.Pair.{Pair}
use Rattle.trace_core.specs.Gathering.{is_in}
use Rattle.trace_core.specs.Groups.{outputs_at}
use Rattle.trace_core.specs.Looks.{LooksAtMost}
use Rattle.trace_core.specs.PairTests.{gives_out}
use Rattle.trace_core.specs.Places.{at_place}
use Rattle.trace_core.proofs.gathering.gather_joined.Given as goal

-- the outputs of the joined transformations so far, each looked at once
abbrev pub invariant-loop-place : goal.invariant-loop-place
invariant-loop-place l = record {
  added : (p : Pair) → is_in l.pairs p ≡ (is_in l.initial.pairs p || (p.site == l.me && list_any (λ k. at_place (λ e. gives_out p.item e.body) (slice_get l.book k)) (take l.place-index l.place-items)));
  looks : LooksAtMost (sum_by (λ k. outputs_at (slice_get l.book k)) (take l.place-index l.place-items)) l.initial.looks l.looks;
}
