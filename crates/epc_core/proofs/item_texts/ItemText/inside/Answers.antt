use Rattle.std.proofs.Common.{refl, sym, ◌∙◌, subst}
use Rattle.std.specs.Prelude.{IsUtf8}
use Rattle.epc_core.specs.Spellings.{IsPlain}
use Rattle.epc_core.proofs.Held.{written}
use Rattle.epc_core.proofs.item_texts.ItemText.inside.Goals as goal

pub invariant_of-result : goal.invariant_of-result
invariant_of-result c =
    let held = written 30 _ c.args.text.now _ (c.copy_from_slice.ensures.after ∙ c.as_bytes.ensures.value) refl c.requires.short in
    (held.0, subst IsUtf8 (sym held.1) c.utf8.text, subst IsPlain (sym held.1) c.requires.plain)
