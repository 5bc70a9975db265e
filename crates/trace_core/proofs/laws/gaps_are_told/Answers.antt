use Rattle.trace_core.proofs.GapSteps.{own_is_narrow, wide_is_between, gaps_are_misses, wide_reach_is_told, no_gap_misses_nothing}
use Rattle.trace_core.proofs.laws.gaps_are_told.Goals as goal

pub returns-clause-own : goal.returns-clause-own
returns-clause-own c = own_is_narrow

pub returns-clause-between : goal.returns-clause-between
returns-clause-between c = wide_is_between

pub returns-clause-misses : goal.returns-clause-misses
returns-clause-misses c = gaps_are_misses

pub returns-clause-told : goal.returns-clause-told
returns-clause-told c = wide_reach_is_told

pub returns-clause-nothing : goal.returns-clause-nothing
returns-clause-nothing c = no_gap_misses_nothing
