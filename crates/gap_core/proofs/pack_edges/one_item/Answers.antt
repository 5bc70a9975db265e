use Rattle.std.proofs.Common.{◌≡◌}
use Rattle.gap_core.proofs.Notings.{noted_alone}
use Rattle.gap_core.proofs.pack_edges.one_item.Goals as goal

pub returns : goal.returns
returns c = noted_alone (λ i. c.args.item.now ≡ i) c.new-items.result c.note.new.self c.new-items.ensures c.in_ok-note.ensures
