use Rattle.std.proofs.Common.{◌≡◌, inl, inr, ⊎_elim, arith}
use Rattle.trace_core.specs.Chains.{sites_at}
use Rattle.gap_core.proofs.TellingSteps.{told_itself, waits_already}
use Rattle.gap_core.proofs.searches.tell_one.Goals as goal

pub returns-then-to-at : goal.returns-then-to-at
returns-then-to-at c =
    let same : c.args.to ≡ c.args.at = omega (arith, c.if-to-at.true) in
    record {
      told = told_itself (sites_at c.args.sites.now) c.args.index.now c.args.at c.args.to same;
      waits = inl (λ m h. h);
      lets = waits_already c.args.to c.args.turn c.args.waiting.now.items;
    }

pub returns : goal.returns
returns c = record {
  told = c.in_ok-new.ensures.added;
  waits = ⊎_elim (λ none. inl (c.in_ok-new.ensures.new none)) (λ waits. inr waits) c.in_ok-wait_if.ensures.waits;
  lets = c.in_ok-wait_if.ensures.kept;
}
