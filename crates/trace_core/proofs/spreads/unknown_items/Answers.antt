use Rattle.std.proofs.Common.{◌≡◌, ◌↔◌, None, is_some, not, sym, ap, subst, ◌∷◌, [], length, length-append, ◌∙◌, arith}
use mathlib.Core.Bool.{false≢true}
use Rattle.std.specs.List.{Contains}
use Rattle.std.proofs.lemmas.List.{take_all}
use Rattle.trace_core.specs.Numbers.{number_in, numbered}
use Rattle.trace_core.proofs.NumberLists.{none_of}
use Rattle.trace_core.proofs.SpreadSteps.{unknown_pushed, unknown_passed, look_counted, look_within}
use Rattle.trace_core.proofs.spreads.unknown_items.Goals as goal
use Rattle.trace_core.proofs.spreads.unknown_items.Goals.{then-is_none+in_ok-copy+in_ok-push, else-is_none}

pub loop-item-preserved : goal.loop-item-preserved
loop-item-preserved c =
    elim c.if-is_none.branch [
      | then-is_none+in_ok-copy+in_ok-push w ↦ record {
        unknown = λ j. rw w.found-is (unknown_pushed c.args.book.now c.args.items.now c.loop-item.found.items c.loop-item.item-index c.item-item.result (omega arith) c.item-item.is c.loop-item.invariant.unknown
            w.push.new.self.items _ (none_of _ (ap is_some (sym c.number_of.ensures) ∙ c.is_none.ensures ∙ ap not w.if-is_none.true)) w.in_ok-copy.ensures w.in_ok-push.ensures.items j);
        least = rw (w.looks-is, w.found-is) (look_counted c.args.looks.now c.loop-item.looks w.count_look.new.looks _ _ c.loop-item.invariant.least w.count_look.ensures (ap length w.in_ok-push.ensures.items ∙ length-append c.loop-item.found.items (w.in_ok-copy.field-0 ∷ [])));
        most = rw w.looks-is (look_within c.args.looks.now c.loop-item.looks w.count_look.new.looks c.loop-item.item-index c.loop-item.invariant.most w.count_look.ensures);
      }
      | else-is_none w ↦ record {
        unknown = λ j. rw w.found-is (unknown_passed c.args.book.now c.args.items.now c.loop-item.found.items c.loop-item.item-index c.item-item.result (omega arith) c.item-item.is c.loop-item.invariant.unknown
            (λ none. false≢true (sym (ap is_some none) ∙ ap is_some (sym c.number_of.ensures) ∙ c.is_none.ensures ∙ ap not w.if-is_none.false)) j);
        least = rw (w.looks-is, w.found-is) c.loop-item.invariant.least;
        most = rw w.looks-is (omega (arith, c.loop-item.invariant.most));
      }
    ]

pub returns-clause-unknown : goal.returns-clause-unknown
returns-clause-unknown c i = subst (λ xs. Contains c.loop-item.found.items i ↔ (Contains xs i × (number_in (numbered c.args.book.now) i ≡ None))) (take_all c.loop-item.item-index c.args.items.now (omega arith)) (c.loop-item.invariant.unknown i)
