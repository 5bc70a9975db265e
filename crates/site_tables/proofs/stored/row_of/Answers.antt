use Rattle.std.proofs.Common.{inr, IsFalse, refl, rules}
use Rattle.site_tables.proofs.stored.row_of.Goals as goal

pub returns-else-is_of_memory-clause-err : goal.returns-else-is_of_memory-clause-err
returns-else-is_of_memory-clause-err g c =
    let other : IsFalse c.is_of_memory.result = search rules in
    inr (refl, c.in-Err.ensures.err (c.is_of_memory.ensures.other other))
