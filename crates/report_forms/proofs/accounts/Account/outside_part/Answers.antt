use Rattle.std.proofs.Common.{◌≡◌, ◌∙◌, Option, Some, ap, arith, slice_get, sym}
use Rattle.std.proofs.lemmas.Option.{slice_get-get_or, slice_get_past}
use Rattle.report_core.specs.declared.outside_events.OutsideEvent.{OutsideEvent}
use Rattle.report_forms.specs.Accounts.{Account}
use Rattle.report_forms.proofs.Parts.{no_outside, outside_at, outside_with}
use Rattle.report_forms.proofs.accounts.Account.outside_part.Goals as goal

pub returns-in-None : goal.returns-in-None
returns-in-None c =
    let self = c.self.inside in
    let none = slice_get_past self.outside.now c.args.place c.in-None.ensures.lookup.3 in
    sym (ap (λ (a : Account). slice_get a.outside c.args.place) (sym c.self.view_is) ∙ no_outside self.outside.now self.outside_events.now c.args.place none)

pub returns-in-Some : goal.returns-in-Some
unfolding outside_with
returns-in-Some c =
    let self = c.self.inside in
    let shipment = c.in-Some.shipment.now in
    let found = c.in-Some.ensures.lookup in
    let at : slice_get self.outside.now c.args.place ≡ Some shipment = slice_get-get_or self.outside.now c.args.place shipment found.3.0 ∙ ap Some (sym (found.4 (omega arith) shipment)) in
    ap (λ (e : Option OutsideEvent). Some (outside_with shipment e)) c.shown_at.ensures
    ∙ sym (ap (λ (a : Account). slice_get a.outside c.args.place) (sym c.self.view_is) ∙ outside_at self.outside.now self.outside_events.now c.args.place shipment at)
