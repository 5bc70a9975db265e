use Rattle.std.proofs.Common.{◌≡◌, true, ⊎_elim, inr, subst}
use mathlib.Core.Bool.{false≢true}
use Rattle.std.specs.BTreeMap.{is_at}
use Rattle.std.specs.List.{list_any}
use Rattle.trace_core.specs.Pairs.{pair_cmp}
use Rattle.gap_core.proofs.missed_reach.set_of.Goals as goal

pub returns : goal.returns
returns c p = (
  λ found. ⊎_elim
      (λ before. absurd (false≢true (subst (λ ks. list_any (is_at (pair_cmp p)) ks ≡ true) c.new-set.ensures.empty before)))
      (λ there. there)
      ((c.in_ok-add_pairs.ensures p).0 found),
  λ there. (c.in_ok-add_pairs.ensures p).1 (inr there),
)
