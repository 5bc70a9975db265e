use Rattle.std.proofs.Common.{take, Bor}
use Rattle.site_core.specs.Records.{Record}
use Rattle.report_core.specs.Gathering.{Adds, OneTells, RecordTells}
use Rattle.report_core.proofs.outside.shipped_out.Given as goal

-- those of the sites so far
abbrev pub invariant-loop-state : goal.invariant-loop-state
invariant-loop-state l = Adds l.initial.found l.found (OneTells (take l.state-index l.sites) (λ (s : Bor Record). RecordTells l.recall s.now))
