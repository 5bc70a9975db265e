-- The laws over the records of a list.
use Rattle.std.proofs.Common.{inl, inr, [], ◌∷◌, set, sym, subst}
use Rattle.std.proofs.lemmas.List.Elements.{Contains-append_cases}
use Rattle.site_core.specs.Steps.{Does}
use Rattle.site_recovery.specs.Fit.{FrameFits}
use Rattle.site_recovery.specs.Laws.{EndsAreExact, StepsKeepTheFit, SendsKeepTheFit, FewerFramesFit, EmptySitesFit}
use Rattle.site_recovery.specs.Looks.{world_of}
use Rattle.site_recovery.proofs.Emitted.{frame_emitted}
use Rattle.site_recovery.proofs.EmptySites.{empty_sites_fit}
use Rattle.site_recovery.proofs.Exact.{ends_exactly}
use Rattle.site_recovery.proofs.OneSite.{set_here, set_elsewhere}
use Rattle.site_recovery.proofs.OneStep.{still_steps}
use Rattle.site_recovery.proofs.KeptPlaces.{step_keeps_places}
use Rattle.trace_core.proofs.Members.{contains_cases, contains_none}

pub ends_are_exact : EndsAreExact
ends_are_exact = ends_exactly

pub steps_keep_the_fit : StepsKeepTheFit
steps_keep_the_fit records sent s input e next places fits below was_sent does = (
  still_steps (world_of records) (world_of (set records s next)) s sent fits (set_elsewhere records s next) (places s below).engagement input e was_sent
      (subst (λ z. Does (world_of records s) input e z) (sym (set_here records s next below)) does),
  step_keeps_places records s input e next places below does,
)

pub sends_keep_the_fit : SendsKeepTheFit
sends_keep_the_fit records sent s f places fits below may = record {
  records_fit = fits.records_fit;
  frames_fit = λ g at. elim (Contains-append_cases sent (f ∷ []) g at) as (λ _. FrameFits (world_of records) g) [
    | inl before ↦ fits.frames_fit g before
    | inr last ↦ elim (contains_cases f g [] last) as (λ _. FrameFits (world_of records) g) [
      | inl same ↦ subst (FrameFits (world_of records)) same (frame_emitted (world_of records) s (places s below).engagement f may)
      | inr other ↦ absurd (contains_none g other)
    ]
  ];
}

pub fewer_frames_fit : FewerFramesFit
fewer_frames_fit records sent some fits among = record { records_fit = fits.records_fit; frames_fit = λ f at. fits.frames_fit f (among f at) }

pub empty_fits : EmptySitesFit
empty_fits = empty_sites_fit
