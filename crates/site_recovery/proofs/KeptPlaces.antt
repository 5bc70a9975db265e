-- A step leaves each record in its place.
use Rattle.std.proofs.Common.{◌≡◌, inl, inr, ℕ, zero, suc, ◌<◌, List, length, set, sym, ap, ◌∙◌, subst}
use Rattle.std.proofs.lemmas.List.{length-set}
use Rattle.frame_core.specs.Numbers.{Message}
use Rattle.frame_core.specs.declared.frames.Frame.TheVariants as frames
use Rattle.scholten_core.specs.declared.outcomes.Signalled.{Signalled}
use Rattle.scholten_core.specs.declared.outcomes.Signalled.TheVariants as signals
use Rattle.site_core.specs.Records.{Record}
use Rattle.site_core.specs.StepLaws.{ClearsFor}
use Rattle.site_core.specs.Steps.{Does}
use Rattle.site_core.specs.Ways as ways
use Rattle.site_core.specs.declared.inputs.SiteInput.{SiteInput}
use Rattle.site_core.specs.declared.inputs.SiteInput.TheVariants.{Capture, Start, Deliver}
use Rattle.site_core.specs.declared.outcomes.Effects.{Effects}
use Rattle.site_core.specs.declared.outcomes.Effects.TheVariants as effects
use Rattle.site_core.proofs.Clearings.{signals_clear}
use Rattle.site_core.proofs.Growths.{captures_grow}
use Rattle.site_core.proofs.Openings.{starts_open}
use Rattle.site_core.proofs.Takings.{messages_are_taken}
use Rattle.site_recovery.specs.Laws.{IsInPlace, AreInPlace}
use Rattle.site_recovery.specs.Looks.{world_of}
use Rattle.site_recovery.proofs.OneSite.{one_place, set_here, set_elsewhere}

-- the record names the site that it named
record KeepsNumber (old new : Record) : Type 0 where
  pub captured : new.captured.me ≡ old.captured.me
  pub engagement : new.engagement.me ≡ old.engagement.me

same_number : (old new : Record) → new ≡ old → KeepsNumber old new
same_number old new same = record { captured = ap (λ z. z.captured.me) same; engagement = ap (λ z. z.engagement.me) same }

grown_number : (k : ℕ) (old new : Record) → ways.GrowsBy old k new → KeepsNumber old new
grown_number zero old new same = same_number old new (sym same)
grown_number (suc k) old new (u, first, last) =
    let before = grown_number k old u first in
    record { captured = last.me ∙ before.captured; engagement = ap (λ e. e.me) last.engagement ∙ before.engagement }

cleared_number : (old new : Record) (m : Message) (by : ℕ) (x : Signalled) → ClearsFor old new m by x → KeepsNumber old new
cleared_number old new m by x c = record { captured = ap (λ z. z.me) c.clears.captured; engagement = c.clears.clears.me }

step_keeps_number : (old new : Record) (input : SiteInput) (e : Effects) → Does old input e new → KeepsNumber old new
step_keeps_number old new (Capture bytes) (effects.Captured fresh known skipped) does = grown_number fresh old new (captures_grow old new bytes fresh known skipped does)
step_keeps_number old new (Start root) (effects.Started recall quarantined numbered ended) does =
    let w = (starts_open old new root recall quarantined numbered ended does).0 in
    record { captured = ap (λ z. z.me) w.quarantines.captured; engagement = w.begins.me }
step_keeps_number old new (Deliver (frames.Recall m dest r i)) (effects.Received quarantined numbered owed) does =
    let w = (messages_are_taken old new m dest r i quarantined numbered owed does).1 in
    record { captured = ap (λ z. z.me) w.quarantines.captured; engagement = w.takes.me }
step_keeps_number old new (Deliver (frames.Recall m dest r i)) effects.Repeat does = same_number old new does.1
step_keeps_number old new (Deliver (frames.Signal m by)) effects.Stale does = same_number old new does.1
step_keeps_number old new (Deliver (frames.Signal m by)) effects.Cleared does = cleared_number old new m by signals.Cleared ((signals_clear old new m by).0 does)
step_keeps_number old new (Deliver (frames.Signal m by)) (effects.ParentDue parent) does = cleared_number old new m by (signals.ParentDue parent) ((signals_clear old new m by).1 parent does)
step_keeps_number old new (Deliver (frames.Signal m by)) (effects.Ended recall) does = cleared_number old new m by (signals.Ended recall) ((signals_clear old new m by).2 recall does)
step_keeps_number old new input other does = absurd does

pub step_keeps_places : (records : List Record) (s : ℕ) (input : SiteInput) (e : Effects) (next : Record) → AreInPlace records → s < length records → Does (world_of records s) input e next → AreInPlace (set records s next)
step_keeps_places records s input e next places below does t within =
    elim (one_place t s) as (λ _. IsInPlace (world_of (set records s next) t) t) [
      | inl here ↦
          let keeps = step_keeps_number (world_of records s) next input e does in
          let place = places s below in
          let new : IsInPlace next s = record { captured = keeps.captured ∙ place.captured; engagement = keeps.engagement ∙ place.engagement } in
          subst (λ z. IsInPlace (world_of (set records s next) z) z) (sym here) (subst (λ z. IsInPlace z s) (sym (set_here records s next below)) new)
      | inr away ↦ subst (λ z. IsInPlace z t) (sym (set_elsewhere records s next t away)) (places t (subst (λ n. t < n) (length-set records s next) within))
    ]
