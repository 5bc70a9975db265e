use Rattle.std.proofs.Common.{◌≡◌, ◌∙◌, Option, Some, List, ap, ap₂, arith, slice_get, sym}
use Rattle.std.proofs.lemmas.Option.{slice_get-get_or, slice_get_past}
use Rattle.report_core.specs.declared.trail_events.StepEvents.{StepEvents}
use Rattle.report_forms.specs.Accounts.{Account, ways_in}
use Rattle.report_forms.specs.declared.accounts.Way.{Way}
use Rattle.report_forms.proofs.Parts.{no_part, part_at, part_with}
use Rattle.report_forms.proofs.accounts.Account.part.Goals as goal

pub returns-in-None : goal.returns-in-None
returns-in-None c =
    let self = c.self.inside in
    let none = slice_get_past self.pairs.now c.args.place c.in-None.ensures.lookup.3 in
    sym (ap (λ (a : Account). slice_get a.parts c.args.place) (sym c.self.view_is) ∙ no_part self.pairs.now (ways_in self.trails) self.events.now c.args.place none)

pub returns-in-Some : goal.returns-in-Some
unfolding part_with
returns-in-Some c =
    let self = c.self.inside in
    let pair = c.in-Some.pair.now in
    let found = c.in-Some.ensures.lookup in
    let at : slice_get self.pairs.now c.args.place ≡ Some pair = slice_get-get_or self.pairs.now c.args.place pair found.3.0 ∙ ap Some (sym (found.4 (omega arith) pair)) in
    ap₂ (λ (w : Way) (e : Option (List StepEvents)). Some (part_with pair w e)) c.way.ensures c.events_at.ensures
    ∙ sym (ap (λ (a : Account). slice_get a.parts c.args.place) (sym c.self.view_is) ∙ part_at self.pairs.now (ways_in self.trails) self.events.now c.args.place pair at)
