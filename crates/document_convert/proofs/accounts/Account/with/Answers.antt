use Rattle.std.proofs.Common.{ap, ◌∙◌, ◌-◌, count_by}
use Rattle.document_convert.specs.Accounts.{up}
use Rattle.document_convert.specs.Quantities.{has_quantities}
use Rattle.document_convert.proofs.accounts.Account.with.Goals as goal

pub returns : goal.returns
returns c =
    let events = c.events_of-events.ensures in
    λ i. record {
      written = c.args.self.written;
      events = c.args.self.events;
      links = c.saturating_add.ensures i;
      lots = (c.saturating_add-2.ensures ∙ ap (up c.args.self.lots) (c.saturating_sub-moved.ensures ∙ ap (λ n. c.args.counts.had - n) c.quantities.ensures)) i;
      derived = (c.saturating_add-3.ensures ∙ ap (up c.args.self.derived) (c.saturating_sub-added.ensures ∙ ap (λ n. n - c.args.counts.came) c.event_count.ensures)) i;
      untied = c.saturating_add-4.ensures i;
      parted = c.saturating_add-5.ensures i;
      errors = c.saturating_add-6.ensures i;
      places = c.saturating_add-7.ensures i;
      places_of_several = c.saturating_add-8.ensures i;
      left = (c.saturating_add-9.ensures ∙ ap (up c.args.self.left) (c.left.ensures ∙ ap (count_by has_quantities) events)) i;
    }
