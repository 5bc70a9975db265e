use Rattle.std.proofs.Common.{refl, sym, subst, ◌∙◌, option_map}
use Rattle.site_core.specs.SentBlocks.{IsLesser}
use Rattle.site_core.proofs.SentBlocks.{item_lesser, other_lesser}
use Rattle.site_core.proofs.sent_blocks.lesser.Goals as goal

pub returns-in-Greater : goal.returns-in-Greater
returns-in-Greater c = subst (λ o. IsLesser (option_map (λ i. i.now) o) c.args.item.now c.args.item.now) (sym c.in-Some.is)
    (item_lesser c.in-Some.other.now c.args.item.now c.args.item.now refl (sym c.cmp.ensures ∙ c.in-Greater.is))

pub returns-in_default : goal.returns-in_default
returns-in_default c = subst (λ o. IsLesser (option_map (λ i. i.now) o) c.args.item.now c.in-Some.other.now) (sym c.in-Some.is)
    (other_lesser c.in-Some.other.now c.args.item.now c.in-Some.other.now refl (λ above. c.in_default.not-Greater (c.cmp.ensures ∙ above)))
