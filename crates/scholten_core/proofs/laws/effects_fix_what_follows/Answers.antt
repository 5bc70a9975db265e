use Rattle.scholten_core.proofs.Fixing.{begins_fixes, takes_fixes, clears_fixes}
use Rattle.scholten_core.proofs.Telling.{begun_answer_is_fixed, taken_answer_is_fixed, cleared_answer_is_fixed}
use Rattle.scholten_core.proofs.laws.effects_fix_what_follows.Goals as goal

pub returns : goal.returns
returns c = record {
  begins = begins_fixes;
  takes = takes_fixes;
  clears = clears_fixes;
  begun = begun_answer_is_fixed;
  taken = taken_answer_is_fixed;
  cleared = cleared_answer_is_fixed;
}
