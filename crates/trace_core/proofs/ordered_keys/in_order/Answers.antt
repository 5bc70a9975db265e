use Rattle.std.proofs.Common.{subst}
use Rattle.std.specs.List.Sorted.{IsStrictlySortedBy}
use Rattle.trace_core.proofs.KeyOrder.{kept_ascend, kept_same}
use Rattle.trace_core.proofs.ordered_keys.in_order.Goals as goal
use Rattle.trace_core.proofs.ordered_keys.in_order.Goals.{then-not-is_ascending+in_ok-sort, else-not-is_ascending}

pub returns-clause-ascending : goal.returns-clause-ascending
returns-clause-ascending g c =
    elim c.if-not-is_ascending.branch [
      | then-not-is_ascending+in_ok-sort w ↦ rw w.ordered-is (kept_ascend g.K.Ord.cmp g.met.K.Ord.total g.K.PartialEq.eq g.met.K.Eq.laws g.met.K.Ord.matches_eq c.args.keys.items w.sort.new.self.items w.dedup.new.self.items w.in_ok-sort.ensures.permutation w.dedup.ensures.filtered w.in_ok-sort.ensures.sorted)
      | else-not-is_ascending w ↦ rw w.ordered-is (subst (IsStrictlySortedBy g.K.Ord.cmp) c.deref.ensures.value (c.is_ascending.ensures w.if-not-is_ascending.false))
    ]

pub returns-clause-same : goal.returns-clause-same
returns-clause-same g c exact k =
    elim c.if-not-is_ascending.branch [
      | then-not-is_ascending+in_ok-sort w ↦ rw w.ordered-is (kept_same g.K.Ord.cmp g.met.K.Ord.total g.K.PartialEq.eq g.met.K.Eq.laws g.met.K.Ord.matches_eq c.args.keys.items w.sort.new.self.items w.dedup.new.self.items w.in_ok-sort.ensures.permutation w.dedup.ensures.filtered exact k)
      | else-not-is_ascending w ↦ rw w.ordered-is (λ h. h, λ h. h)
    ]
