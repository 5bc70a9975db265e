use Rattle.std.specs.Prelude.{⊤}
use Rattle.site_core.proofs.joined.an_output.Given as goal

abbrev pub invariant-loop-place : goal.invariant-loop-place
invariant-loop-place l = ⊤
