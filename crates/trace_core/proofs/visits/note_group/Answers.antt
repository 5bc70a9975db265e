use Rattle.std.proofs.Common.{sym, ap, subst, option_map, ◌∙◌}
use Rattle.std.proofs.lemmas.Result.{on_ok_weaker}
use Rattle.trace_core.specs.Looks.{LooksAtEach}
use Rattle.trace_core.specs.Nodes.{made_nodes}
use Rattle.trace_core.proofs.LookSteps.{parts_outputs}
use Rattle.trace_core.proofs.NodeSteps.{same_nodes}
use Rattle.trace_core.proofs.RelatedPlaces.{parts_found}
use Rattle.trace_core.proofs.VisitSteps.{parts_of_group, group_alone}
use Rattle.trace_core.proofs.visits.note_group.Goals as goal

pub returns-in-Some-clause-noted : goal.returns-in-Some-clause-noted
returns-in-Some-clause-noted c = on_ok_weaker c.note_parts.result
    (λ noted. same_nodes c.args.nodes.now c.note_parts.new.nodes _ _
    (parts_of_group c.args.me c.args.book.now c.args.number c.args.place c.args.body.now c.in-Some.field-0.now c.parts_of.result.now (sym c.make_id.ensures ∙ ap (option_map (λ t. t.now)) c.in-Some.is)
    (parts_found c.args.book.now c.args.body.now c.parts_of.result.now _ c.parts_of.ensures c.make_id-in-Some.ensures)) noted)
    c.note_parts.ensures.noted

pub returns-in-Some-clause-looks : goal.returns-in-Some-clause-looks
returns-in-Some-clause-looks c = on_ok_weaker c.note_parts.result
    (λ looks e stands is. subst (λ n. LooksAtEach n c.args.looks.now c.note_parts.new.looks)
    (parts_outputs c.args.book.now c.args.body.now c.in-Some.field-0.now c.parts_of.result.now (sym c.make_id.ensures ∙ ap (option_map (λ t. t.now)) c.in-Some.is)
    (parts_found c.args.book.now c.args.body.now c.parts_of.result.now _ c.parts_of.ensures c.make_id-in-Some.ensures)) looks)
    c.note_parts.ensures.looks

pub returns-in-None-clause-noted : goal.returns-in-None-clause-noted
returns-in-None-clause-noted c = on_ok_weaker c.note_outputs.result
    (λ noted. same_nodes c.args.nodes.now c.note_outputs.new.self _ _
    (ap (made_nodes c.args.me c.args.number) c.outs_at-outs.ensures.outs ∙ group_alone c.args.me c.args.book.now c.args.number c.args.place c.args.body.now (sym c.make_id.ensures ∙ ap (option_map (λ t. t.now)) c.in-None.is)) noted)
    c.note_outputs.ensures
