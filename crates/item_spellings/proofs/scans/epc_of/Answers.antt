use Rattle.std.proofs.Common.{sym, ◌∙◌, subst}
use Rattle.epc_core.specs.Spellings.{IsKey}
use Rattle.item_spellings.proofs.Words.{named_is_key, no_item_of_key}
use Rattle.item_spellings.proofs.scans.epc_of.Goals as goal

pub unreachable-requires : goal.unreachable-requires
unreachable-requires c = no_item_of_key _ _ c.in-None.is c.in_ok-item.ensures.found (subst IsKey (sym (c.as_str.ensures.value ∙ c.in_ok-key.ensures)) (named_is_key c.args.named.now c.requires))
