use Rattle.std.proofs.Common.{◌∙◌, sym, arith}
use Rattle.std.specs.List.{Contains}
use Rattle.std.proofs.lemmas.List.{get_or_default}
use Rattle.gap_core.specs.Sources.{IsPassedBy}
use Rattle.gap_core.proofs.Additions.{all_added, neither, nothing_then, one_more}
use Rattle.gap_core.proofs.sources.Sources.pass_each.Goals as goal

pub loop-source-preserved : goal.loop-source-preserved
loop-source-preserved c = record {
  added = one_more (IsPassedBy c.args.at c.args.to) c.args.known.now c.loop-source.source-index (Contains c.args.self.now) (Contains c.loop-source.self) (Contains c.pass_one.new.self)
      _ c.loop-source-test.true (get_or_default c.args.known.now c.loop-source.source-index _ _ (omega (arith, c.loop-source-test.true))) c.loop-source.invariant.added c.in_ok-new.ensures.added;
  new = λ none.
      let (a, b) = neither c.loop-source.some c.in_ok-new.new (sym c.either-some.ensures ∙ none) in
      nothing_then (Contains c.args.self.now) (Contains c.loop-source.self) (Contains c.pass_one.new.self) (c.loop-source.invariant.new a) (c.in_ok-new.ensures.new b);
}

pub returns-clause-added : goal.returns-clause-added
returns-clause-added c =
    all_added (IsPassedBy c.args.at c.args.to) c.args.known.now c.loop-source.source-index (Contains c.args.self.now) (Contains c.loop-source.self) c.loop-source-test.false c.loop-source.invariant.added
