use Rattle.std.specs.Cmp.Lexicographic.{nat_list_cmp_total}
use Rattle.frame_core.proofs.Maps.{map_inserted}
use Rattle.site_rows.proofs.address_rows.put_address.Goals as goal
use Rattle.site_rows.proofs.address_rows.put_address.Goals.{in-Ok, in-Err}

pub returns : goal.returns
returns c = elim c.match-insert.branch [
  | in-Ok w ↦ rw w.result-is (map_inserted nat_list_cmp_total c.args.addresses.now c.insert.new.self c.args.text c.args.address c.insert.ensures.was_ordered w.in-Ok.ensures.entries)
  | in-Err w ↦ rw w.result-is tt
]
