use Rattle.std.proofs.Common.{◌∙◌, ap, sym}
use Rattle.report_forms.specs.Accounts.{shipments_of}
use Rattle.report_forms.proofs.Parts.{same_shipments}
use Rattle.report_forms.proofs.accounts.Account.outside.Goals as goal

pub returns : goal.returns
returns c =
    let self = c.self.inside in
    sym (same_shipments self.outside.now self.outside_events.now) ∙ ap shipments_of c.self.view_is
