use Rattle.gap_core.proofs.misses.reached_from.Goals as goal

pub returns : goal.returns
returns c = record {
  wide = λ p. (
    λ found. (c.in_ok-wide_reach.ensures.reached p).0 ((c.in_ok-set_of.ensures p).0 found),
    λ reached. (c.in_ok-set_of.ensures p).1 ((c.in_ok-wide_reach.ensures.reached p).1 reached),
  );
  told = λ p. (
    λ found. (c.in_ok-reach.ensures.reached p).0 ((c.in_ok-set_of-2.ensures p).0 found),
    λ reached. (c.in_ok-set_of-2.ensures p).1 ((c.in_ok-reach.ensures.reached p).1 reached),
  );
}
