use Rattle.std.proofs.Common.{◌∙◌, sym}
use mathlib.Core.Bool.{false≢true}
use Rattle.std.proofs.lemmas.Result.{on_ok_weaker}
use Rattle.report_core.specs.Sources.{IsWanted}
use Rattle.report_core.proofs.PlacesKept.{wanted_noted, unwanted_noted}
use Rattle.report_core.proofs.makers.note_wanted.Goals as goal

pub returns-then-is_wanted : goal.returns-then-is_wanted
returns-then-is_wanted c = on_ok_weaker c.note.result
    (wanted_noted c.args.index.now c.note.new.index (IsWanted c.args.wanted c.args.item.now) c.args.item.now c.args.place (c.is_wanted.ensures.0 c.if-is_wanted.true))
    c.note.ensures

pub returns-else-is_wanted : goal.returns-else-is_wanted
returns-else-is_wanted c = unwanted_noted c.args.index.now (IsWanted c.args.wanted c.args.item.now) c.args.item.now c.args.place (λ wanted. false≢true (sym c.if-is_wanted.false ∙ c.is_wanted.ensures.1 wanted))
