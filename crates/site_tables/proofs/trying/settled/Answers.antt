use Rattle.site_tables.proofs.trying.settled.Goals as goal

pub returns : goal.returns
returns g c db up may = g.met.S.Store.settled c.args.conn.now.store db up may
