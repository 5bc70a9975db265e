use Rattle.std.proofs.Common.{ℕ, List, sym, ap, subst, ◌∙◌}
use Rattle.std.specs.Option.{option_map}
use Rattle.std.proofs.lemmas.Result.{on_ok_weaker}
use Rattle.trace_core.specs.Pairs.{make_id}
use Rattle.report_core.specs.Sources.{AddsToList, ByOne, IsInputAt}
use Rattle.report_core.proofs.SourcesFound.{parts_taken, alone_taken}
use Rattle.report_core.proofs.sources.push_group.Goals as goal

pub returns-in_ok-parts-in-Some-id_of : goal.returns-in_ok-parts-in-Some-id_of
returns-in_ok-parts-in-Some-id_of c =
    let s = c.args.site.now in
    let there = sym (sym (ap (option_map (λ e. e.now)) c.in-Some.is) ∙ c.event.ensures) in
    let own = sym (ap make_id c.body.ensures.value) ∙ sym (sym (ap (option_map (λ t. t.now)) c.in-Some-id_of.is) ∙ c.id_of.ensures) in
    on_ok_weaker c.push_parts.result
    (λ adds. parts_taken s c.args.found.now.items c.push_parts.new.found.items c.args.place c.in-Some.event.now c.in-Some-id_of.id.now c.in_ok-parts-in-Some-id_of.parts.items there own c.in_ok-parts-in-Some-id_of.ensures.exact
    (subst (λ (ps : List ℕ). AddsToList c.args.found.now.items c.push_parts.new.found.items (ByOne ps (IsInputAt s))) c.as_slice.ensures.value adds))
    c.push_parts.ensures

pub returns-in-None : goal.returns-in-None
returns-in-None c =
    let there = sym (sym (ap (option_map (λ e. e.now)) c.in-Some.is) ∙ c.event.ensures) in
    let none = ap make_id (c.body-in-None.ensures.value ∙ sym c.body.ensures.value) ∙ sym (sym (ap (option_map (λ t. t.now)) c.in-None.is) ∙ c.id_of.ensures) in
    on_ok_weaker c.push_taken.result
    (alone_taken c.args.site.now c.args.found.now.items c.push_taken.new.found.items c.args.place c.in-Some.event.now c.me.result c.body-in-None.result.now there c.me.ensures c.body-in-None.ensures.value none)
    c.push_taken.ensures
