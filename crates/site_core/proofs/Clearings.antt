-- A signal whose row stands clears it.
use Rattle.std.proofs.Common.{ℕ, ap, subst}
use Rattle.frame_core.specs.Numbers.{Message}
use Rattle.scholten_core.specs.declared.outcomes.Signalled.{Signalled}
use Rattle.scholten_core.specs.Engagement.{Engagement}
use Rattle.scholten_core.specs.Effects as effects
use Rattle.scholten_core.specs.Replies.{TellsCleared}
use Rattle.scholten_core.proofs.Clearing.{standing_is_cleared}
use Rattle.site_core.specs.Records.{Record}
use Rattle.site_core.specs.Steps.{Clears}
use Rattle.site_core.specs.StepLaws.{ClearsFor, SignalsClear}

pub clears_for : (s t : Record) (m : Message) (by : ℕ) (answer : Signalled) → Clears s m by answer t → ClearsFor s t m by answer
clears_for s t m by answer c =
    let what = subst (λ (p : Engagement × Signalled). effects.Clears s.engagement p.0 m.number c.row × TellsCleared s.engagement p.0 c.row.recall p.1) c.engaged
    (standing_is_cleared s.engagement m.number c.row c.has.stands) in
    record {
      own = c.has.mine;
      row = c.row;
      signer = c.signer;
      clears = record {
        sites = ap (λ (u : Record). u.sites) c.after;
        captured = ap (λ (u : Record). u.captured) c.after;
        quarantine = ap (λ (u : Record). u.quarantine) c.after;
        clears = what.0;
      };
      tells = what.1;
    }

pub signals_clear : SignalsClear
signals_clear s t m by = (λ c. clears_for s t m by _ c, λ parent c. clears_for s t m by _ c, λ recall c. clears_for s t m by _ c)
