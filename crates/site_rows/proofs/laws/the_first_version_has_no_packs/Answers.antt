use Rattle.site_rows.proofs.GoodRows.{first_version}
use Rattle.site_rows.proofs.laws.the_first_version_has_no_packs.Goals as goal

pub returns : goal.returns
returns c = first_version
