use Rattle.site_rows.proofs.AtTheEnd.{stands_last}
use Rattle.site_rows.proofs.reading_entries.append.Goals as goal

pub returns : goal.returns
returns g c = stands_last g.K.Ord.cmp g.met.K.Ord.total c.args.entries.now.entries c.put.new.map.entries c.args.key c.args.value c.in_ok-put.ensures.entries ((c.is_after.ensures c.args.value).0 c.if-not-is_after.false)
