use Rattle.std.proofs.Common.{◌≡◌, ◌∙◌, length, sym, subst, arith}
use Rattle.gap_core.specs.Adding.{AddsTo}
use Rattle.gap_core.specs.Searches.{IsPassedAt}
use Rattle.gap_core.specs.Sources.{Keeps}
use Rattle.gap_core.proofs.Additions.{Before, neither, nothing_then}
use Rattle.gap_core.proofs.TellingSteps.{passed_later}
use Rattle.gap_core.proofs.searches.pass_all.Goals as goal

pub loop-place-preserved : goal.loop-place-preserved
loop-place-preserved c = record {
  added = passed_later c.args.sent.now c.args.index.now c.args.at c.args.to c.requires c.loop-place.place c.loop-place.index c.pass_at.new.index c.loop-place.invariant.added c.in_ok-new.ensures.added;
  new = λ none.
      let (a, b) = neither c.loop-place.some c.in_ok-new.new (sym c.either-some.ensures ∙ none) in
      nothing_then (Keeps c.args.index.now) (Keeps c.loop-place.index) (Keeps c.pass_at.new.index) (c.loop-place.invariant.new a) (c.in_ok-new.ensures.new b);
}

pub returns-clause-added : goal.returns-clause-added
returns-clause-added c =
    let all : c.loop-place.place ≡ length c.args.sent.now = omega (arith, c.loop-place-test.false, c.loop-place.auto.place-end, c.len-place-end.ensures) in
    subst (λ n. AddsTo (Keeps c.args.index.now) (Keeps c.loop-place.index) (Before n (IsPassedAt c.args.sent.now c.args.index.now c.args.at c.args.to))) all c.loop-place.invariant.added
