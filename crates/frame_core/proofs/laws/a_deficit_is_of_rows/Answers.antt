use Rattle.frame_core.proofs.Deficits.{rows_are_found, found_rows, no_deficit, no_rows_left}
use Rattle.frame_core.proofs.laws.a_deficit_is_of_rows.Goals as goal

pub returns : goal.returns
returns c = record {
  found = λ rows r. (rows_are_found rows r, found_rows rows r);
  none = λ rows r. (no_rows_left rows r, no_deficit rows r);
}
