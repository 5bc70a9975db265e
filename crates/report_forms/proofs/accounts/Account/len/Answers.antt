use Rattle.std.proofs.Common.{◌∙◌, ap, length, sym}
use Rattle.report_forms.specs.Accounts.{Account, ways_in}
use Rattle.report_forms.proofs.Parts.{length-parts_of}
use Rattle.report_forms.proofs.accounts.Account.len.Goals as goal

pub returns : goal.returns
returns c =
    let self = c.self.inside in
    sym (length-parts_of self.pairs.now (ways_in self.trails) self.events.now) ∙ ap (λ (a : Account). length a.parts) c.self.view_is
