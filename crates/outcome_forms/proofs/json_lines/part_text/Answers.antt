use Rattle.std.proofs.Common.{◌∙◌, ap}
use Rattle.report_forms.specs.Accounts.{part_of}
use Rattle.serde_json.specs.Written.{has_float}
use Rattle.outcome_forms.proofs.Trees.{part_free}
use Rattle.outcome_forms.proofs.json_lines.part_text.Goals as goal

pub value_text-requires : goal.value_text-requires
value_text-requires c = ap has_float c.in_ok-value.ensures ∙ part_free c.args.sites.now c.args.ways (part_of c.args.part.now)
