use Rattle.std.proofs.Common.{◌↔◌, ◌∙◌, IsTrue, sym, subst}
use Rattle.std.specs.List.{Contains}
use Rattle.gap_core.proofs.Notings.{keys_have}
use Rattle.gap_core.proofs.item_lists.ItemList.has.Goals as goal

pub returns : goal.returns
returns c = subst (λ ks. IsTrue c.contains.result ↔ Contains ks c.args.item.now) c.self.view_is (
  λ h. (keys_have c.self.inside.items.keys c.args.item.now).0 (sym c.contains.ensures ∙ h),
  λ there. c.contains.ensures ∙ (keys_have c.self.inside.items.keys c.args.item.now).1 there,
)
