use Rattle.std.proofs.Common.{◌∙◌, ap}
use Rattle.std.specs.Prelude.{◌==◌}
use Rattle.std.specs.Ordering.{ordering_index}
use Rattle.frame_core.proofs.Ascending.{ascending_keys}
use Rattle.site_rows.proofs.AtTheEnd.{comes_last}
use Rattle.site_rows.proofs.reading_entries.is_after.Goals as goal

pub returns-in-Some : goal.returns-in-Some
returns-in-Some g c =
    comes_last g.K.Ord.cmp g.met.K.Ord.total c.args.entries.now.entries _ c.in-Some.last.now c.in-Some.field-0-1.now c.args.key c.eq.result
    (ascending_keys g.K.Ord.cmp c.args.entries.now.entries c.len-length.ensures.ordered) c.in-Some.ensures.last c.in-Some.ensures.all_up_to (c.eq.ensures ∙ ap (λ r. ordering_index r == 0) c.cmp.ensures)
