use Rattle.serde_json.specs.View.{view}
use Rattle.document_lint.proofs.Apart.{by_both, is_alone}
use Rattle.document_lint.proofs.splitting.document_of.Goals as goal

pub returns : goal.returns
returns c =
    by_both _ _ _ c.to_vec.result
    (λ document utf8 reads. is_alone (view c.args.value.now) (view c.in_ok-alone.field-0) document.items c.in_ok-alone.ensures c.requires utf8 reads)
    c.to_vec.ensures.utf8 c.to_vec.ensures.reads_back
