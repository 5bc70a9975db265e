use Rattle.std.proofs.Common.{◌∙◌, ap, map}
use Rattle.std.specs.FinMap.{entries}
use Rattle.frame_core.proofs.Maps.{map_entries}
use Rattle.site_rows.specs.RecordRows.{address_row, Addresses}
use Rattle.site_rows.specs.Texts.{text_cmp}
use Rattle.site_rows.proofs.address_rows.address_rows.Goals as goal

pub returns-clause-rows : goal.returns-clause-rows
returns-clause-rows c =
    c.from_vec.ensures ∙ c.in_ok-listed.ensures
    ∙ ap (map address_row) (map_entries text_cmp c.in_ok-addresses.addresses c.len-length.ensures.ordered)
    ∙ ap (λ (m : Addresses). map address_row (entries m)) c.in_ok-addresses.ensures.all
