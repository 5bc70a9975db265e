use Rattle.frame_lines.proofs.NameLemmas.{name_found}
use Rattle.frame_lines.proofs.identifiers.site_named.Goals as goal

pub returns : goal.returns
returns c = name_found c.args.sites.now c.args.name.now c.find.result c.find.ensures
