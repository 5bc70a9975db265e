-- no outcome but a refusal tells why something was refused
use Rattle.std.proofs.Common.{◌≡◌, refl}
use Rattle.recall_outcomes.specs.declared.outcomes.CommandRefusal.{CommandRefusal}
use Rattle.recall_outcomes.specs.declared.outcomes.Outcome.{Outcome}
use Rattle.recall_outcomes.specs.declared.outcomes.Outcome.TheVariants as outcomes
use Rattle.site_folders.specs.Refusals.{IsRefusal}

pub only_refused : (why : CommandRefusal) (o : Outcome) → IsRefusal why o → (whys : _) × (o ≡ outcomes.Refused whys) × IsRefusal why (outcomes.Refused whys)
only_refused why (outcomes.Refused whys) is = (whys, refl, is)
only_refused why outcomes.Created is = absurd is
only_refused why (outcomes.Stepped effects) is = absurd is
only_refused why (outcomes.Ran recalls coded) is = absurd is
only_refused why outcomes.Withheld is = absurd is
only_refused why (outcomes.Reported recall report ways events) is = absurd is
only_refused why (outcomes.Traced trace ways events) is = absurd is
only_refused why (outcomes.TracedBack trace ways events) is = absurd is
only_refused why (outcomes.Standing recalls coded) is = absurd is
only_refused why (outcomes.Waiting detail coded) is = absurd is
only_refused why (outcomes.Known at items) is = absurd is
only_refused why (outcomes.WouldStart quarantined messages) is = absurd is
only_refused why (outcomes.Audited recalls ended coded) is = absurd is
only_refused why (outcomes.Inconsistent misfit) is = absurd is
only_refused why (outcomes.Covered sites) is = absurd is
only_refused why (outcomes.Gaps gaps coded) is = absurd is
only_refused why (outcomes.Missed recall missed coded) is = absurd is
