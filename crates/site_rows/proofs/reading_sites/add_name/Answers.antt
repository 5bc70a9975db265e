use Rattle.site_rows.proofs.NamesOfSites.{other_name}
use Rattle.site_rows.proofs.reading_sites.add_name.Goals as goal

pub returns-in_default-as_str : goal.returns-in_default-as_str
returns-in_default-as_str c = λ number. other_name c.args.names.now c.args.row.now.name c.in_default-as_str.ensures
