use Rattle.std.proofs.Common.{ap, ◌∙◌, subst, string_bytes}
use Rattle.event_json.specs.Checks.{instant_of}
use Rattle.event_writing.specs.Packings.{IsPackingText}
use Rattle.event_writing.specs.Times.{NamesInstant}
use Rattle.event_writing.proofs.ReadBack.{text_told, text_read}
use Rattle.event_writing.proofs.packings.packing_document.Goals as goal

told : (c : goal.After-drop-time-2) → IsPackingText c.args.event.now (string_bytes c.in_ok-to_string.field-0)
told c =
    let tells = ap instant_of c.as_str.ensures.value ∙ subst (NamesInstant c.args.event.now.instant) c.in-Some-2.is c.in_ok-time.ensures in
    text_told c.args.event.now c.body.result.now _ c.as_str.result.now c.in-Some.parent.now c.in-Some.children.now _ _
    c.body.ensures.value c.in-Some.ensures.some c.id.ensures.value tells
    c.in_ok-value.ensures c.in_ok-to_string.ensures.reads_back

pub returns-clause-is : goal.returns-clause-is
returns-clause-is c = told c

pub returns-clause-read : goal.returns-clause-read
returns-clause-read c = text_read c.args.event.now _ c.id.ensures.plain c.body.ensures.within_limits (told c)
