use Rattle.std.proofs.Common.{rules}
use Rattle.serde_json.specs.declared.value.Value.{Null}
use Rattle.document_lint.proofs.Apart.{all_apart, less_deep, one_more}
use Rattle.document_lint.proofs.splitting.documents_of.Goals as goal

pub loop-value-preserved : goal.loop-value-preserved
loop-value-preserved c = (
  one_more c.args.list.now c.loop-value.value-index c.value-item.result c.loop-value.documents.items c.push.new.self.items c.in_ok-document_of.field-0 c.loop-value-test.true c.in_ok-push.ensures.items c.loop-value.invariant.0 (search rules),
  less_deep c.args.list.now c.loop-value.value-index Null c.loop-value-test.true c.loop-value.invariant.1,
)

pub returns : goal.returns
returns c = all_apart c.args.list.now c.loop-value.value-index _ c.loop-value-test.false c.loop-value.invariant.0
