use Rattle.std.proofs.Common.{◌≡◌, take, Bor}
use Rattle.std.specs.List.{flat_map}
use Rattle.site_core.specs.Records.{Record}
use Rattle.folder_questions.specs.EachSitePlans.{started_at}
use Rattle.folder_questions.specs.Plans.{outlines}
use Rattle.folder_questions.proofs.each_site_plans.starts.Given as goal

-- those of the sites so far
abbrev pub invariant-loop-state : goal.invariant-loop-state
invariant-loop-state l = outlines l.plan.items ≡ flat_map (λ (r : Bor Record). started_at l.site l.item r.now) (take l.state-index l.records)
