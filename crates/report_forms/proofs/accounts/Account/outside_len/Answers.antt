use Rattle.std.proofs.Common.{◌∙◌, ap, length, sym}
use Rattle.report_forms.specs.Accounts.{Account}
use Rattle.report_forms.proofs.Parts.{length-outside_parts}
use Rattle.report_forms.proofs.accounts.Account.outside_len.Goals as goal

pub returns : goal.returns
returns c =
    let self = c.self.inside in
    sym (length-outside_parts self.outside.now self.outside_events.now) ∙ ap (λ (a : Account). length a.outside) c.self.view_is
