use Rattle.std.proofs.Common.{◌≡◌, [], codes, map, sym, ap, ◌∙◌, arith}
use Rattle.std.proofs.lemmas.List.{length-map}
use Rattle.serde_json.specs.View.{view}
use Rattle.document_convert.specs.Documents.{body_of}
use Rattle.document_convert.specs.Parted.{of_each, thousand, thousands}
use Rattle.document_convert.specs.Types.{with_member}
use Rattle.document_convert.proofs.ByThousands.{more_behind}
use Rattle.document_convert.proofs.document_parts.documents_of.Goals as goal

pub loop-number-preserved : goal.loop-number-preserved
loop-number-preserved c =
    let events = map view c.args.events.now in
    more_behind [] (λ k. with_member (codes "epcisBody") (body_of (thousand k events)) (view c.args.beside.now)) c.loop-number.found.items c.push.new.self.items c.loop-number.number
    c.in_ok-document.document c.loop-number.invariant c.in_ok-push.ensures.items c.in_ok-document.ensures

pub returns : goal.returns
returns c =
    let events = map view c.args.events.now in
    let all : c.loop-number.number ≡ c.thousands-count.result = omega (arith, c.loop-number-test.false, c.loop-number.auto.number-end) in
    c.loop-number.invariant
    ∙ ap (of_each (λ k. with_member (codes "epcisBody") (body_of (thousand k events)) (view c.args.beside.now)))
    (all ∙ c.thousands-count.ensures ∙ ap thousands (sym (length-map c.args.events.now view)))
