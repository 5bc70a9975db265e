use Rattle.std.proofs.Common.{ap, ◌∙◌}
use Rattle.document_convert.specs.Accounts.{up}
use Rattle.document_convert.proofs.accounts.Account.with_line.Goals as goal

pub returns : goal.returns
returns c =
    λ i. record {
      written = c.saturating_add.ensures i;
      events = (c.saturating_add-2.ensures ∙ ap (up c.args.self.events) c.event_count.ensures) i;
      links = c.args.self.links;
      lots = c.args.self.lots;
      derived = c.args.self.derived;
      untied = c.args.self.untied;
      parted = c.args.self.parted;
      errors = c.args.self.errors;
      places = c.args.self.places;
      places_of_several = c.args.self.places_of_several;
      left = c.args.self.left;
    }
