use Rattle.std.proofs.Common.{◌≡◌, ◌∙◌, ap, subst}
use Rattle.std.specs.Cmp.Lexicographic.{pointwise}
use Rattle.std.specs.List.{Contains}
use Rattle.std.specs.Prelude.{nat_eq}
use Rattle.indexmap.specs.IndexSet.{insert_key}
use Rattle.gap_core.proofs.Notings.{key_noted, notes_had}
use Rattle.gap_core.proofs.item_lists.ItemList.note.Goals as goal

pub returns-then-has : goal.returns-then-has
returns-then-has c = notes_had c.args.self.now (λ x. c.args.item.now ≡ x) (λ x same. subst (Contains c.args.self.now) same (c.has.ensures.0 c.if-has.true))

pub returns : goal.returns
returns c = key_noted c.args.self.now c.insert.new.self.keys c.args.item.now c.in_ok-copy.field-0 c.in_ok-copy.ensures
    (c.in_ok-insert.ensures.keys ∙ ap (λ ks. insert_key (pointwise nat_eq) ks c.in_ok-copy.field-0) c.self.view_is)
