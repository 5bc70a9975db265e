use Rattle.gap_core.specs.Used.{IsTakenAt}
use Rattle.gap_core.proofs.Notings.{noted_alone}
use Rattle.gap_core.proofs.inputs.inputs_with.Goals as goal

pub returns : goal.returns
returns c = noted_alone (IsTakenAt c.args.site.now.events c.args.place) c.new-inputs.result c.note_group.new.inputs c.new-inputs.ensures c.in_ok-note_group.ensures
