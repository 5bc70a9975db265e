use Rattle.epc_core.specs.Items.{is_plain}
use Rattle.event_json.proofs.Lists.{all_at}
use Rattle.event_json.proofs.Plain.{plain_decides}
use Rattle.event_json.proofs.site_entries.addresses_of.Goals as goal

pub of-requires : goal.of-requires
of-requires c = (plain_decides _).0 (all_at is_plain (λ t. t.now) c.args.texts.now c.loop-text.text-index _ c.loop-text-test.true c.requires)
