use Rattle.site_rows.proofs.ReadBack.{read_back}
use Rattle.site_rows.proofs.reading.state_of.Goals as goal

pub returns-clause-same : goal.returns-clause-same
returns-clause-same c = read_back c.args.rows.now c.read_state.result c.read_state.ensures.read c.read_state.ensures.kept c.read_state.ensures.bad
