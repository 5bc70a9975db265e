use Rattle.std.proofs.Common.{refl, rules}
use Rattle.site_tables.proofs.Parts.{in_parts}
use Rattle.site_tables.proofs.Whole.{all_same, all_then, both_then, then_fails}
use Rattle.site_tables.proofs.step.write_changes.Goals as goal

pub returns-clause-wrote : goal.returns-clause-wrote
returns-clause-wrote g c =
    let recalled = both_then _ _ _ refl c.in_ok-write_captured.was c.write_captured.ensures.wrote c.write_recalled.ensures.wrote in
    let signalled = all_then c.in_ok-write_recalled.was recalled c.write_signalled.ensures.wrote in
    all_same (in_parts c.args.changes.now) (all_then c.in_ok-write_signalled.was signalled c.write_numbers.ensures.wrote)

pub returns-in_err-write_recalled-clause-wrote : goal.returns-in_err-write_recalled-clause-wrote
returns-in_err-write_recalled-clause-wrote g c = then_fails c.in_ok-write_captured.was c.in_err-write_recalled.was (search rules) c.write_captured.ensures.wrote c.write_recalled.ensures.wrote

pub returns-in_err-write_signalled-clause-wrote : goal.returns-in_err-write_signalled-clause-wrote
returns-in_err-write_signalled-clause-wrote g c =
    let recalled = both_then _ _ _ refl c.in_ok-write_captured.was c.write_captured.ensures.wrote c.write_recalled.ensures.wrote in
    then_fails c.in_ok-write_recalled.was c.in_err-write_signalled.was (search rules) recalled c.write_signalled.ensures.wrote
