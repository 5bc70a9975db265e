use Rattle.std.proofs.Common.{subst}
use Rattle.std.specs.Prelude.{◌↔◌, IsTrue}
use Rattle.frame_core.specs.Tables.{AreBelow}
use Rattle.frame_core.proofs.counted_rows.CountedRows.are_below.Goals as goal

pub returns : goal.returns
returns c = subst (λ u. IsTrue c.are_below.result ↔ AreBelow u.rows c.args.number) c.self.view_is c.are_below.ensures
