use Rattle.std.proofs.Common.{◌≡◌, ap, sym, subst, ◌∙◌, flat_map, map-id, string_bytes}
use Rattle.std.proofs.lemmas.Iterator.{YieldsList-from_chars}
use Rattle.std.proofs.lemmas.Iterator.Consumers.{YieldsList-end}
use Rattle.std.specs.Str.{NoCharPasses}
use Rattle.outcome_forms.specs.Shown.{is_hidden, shown, shown_char}
use Rattle.outcome_forms.proofs.ShownLemmas.{seen_all}
use Rattle.outcome_forms.proofs.shown_texts.shown.Goals as goal

told : (c : goal.In-None) → string_bytes c.loop-c.shown ≡ shown c.args.text.now
told c =
    let end = YieldsList-end (YieldsList-from_chars c.args.text.now c.utf8.text cc) c.loop-c.yielded _ c.loop-c.yielded_by _ _ c.in-None.is c.next.ensures.steps in
    c.loop-c.invariant ∙ ap (flat_map shown_char) (sym (map-id c.loop-c.yielded) ∙ end.0)

pub returns-clause-exact : goal.returns-clause-exact
returns-clause-exact c = told c

pub returns-clause-seen : goal.returns-clause-seen
returns-clause-seen c = subst (NoCharPasses is_hidden) (sym (told c)) (seen_all _)
