-- What pins the words that a run's contract speaks in, and that what a run leaves is a world again.
use Rattle.std.proofs.Common.{◌≡◌, ◌<◌, ◌⊎◌, ◌↔◌, inl, inr, ⊎_elim, true, Some, List, [], ◌∷◌, length, refl, sym, ◌∙◌, ap, subst, slice_get}
use Rattle.std.specs.FinMap.{get}
use Rattle.std.specs.Option.{option_map}
use Rattle.std.proofs.lemmas.List.{length-map}
use Rattle.std.proofs.lemmas.Option.{same_Some, slice_get-get_or, slice_get_within, get_or_from_slice_get}
use Rattle.frame_core.specs.declared.frames.Frame.TheVariants as frames
use Rattle.site_core.specs.Records.{Record, fresh}
use Rattle.site_core.specs.Steps.{Does}
use Rattle.site_core.specs.declared.inputs.SiteInput.{SiteInput}
use Rattle.site_core.specs.declared.inputs.SiteInput.TheVariants.{Capture, Start, Deliver}
use Rattle.site_core.specs.declared.outcomes.Effects.{Effects}
use Rattle.site_core.specs.declared.outcomes.Effects.TheVariants as effects
use Rattle.site_recovery.specs.Looks.{world_of}
use Rattle.site_recovery.proofs.Worlds.{fewer_frames_fit}
use Rattle.trace_core.proofs.Members.{contains_none}
use Rattle.keeper_core.specs.Keeping.{IsAfter}
use Rattle.world_core.specs.Faults.{AreOneWorld, MakeAWorld}
use Rattle.world_core.specs.KeptSteps.{LeadsOn, Handed, Answered, Broken, StandsAfter, handed_to}
use Rattle.world_core.specs.PinLaws.{AnsweredStepsAreWhole, BrokenStepsAreEither, EndsAreTold, OthersAreAbsent, RunsMakeAWorldAgain}
use Rattle.world_core.specs.Recalls.{ended_in}
use Rattle.world_core.specs.Turns.{Turns}
use Rattle.world_core.specs.Worlds.{WorldState, WorldFits, records, record_of}
use Rattle.world_core.specs.declared.events.Answer.{Answer}
use Rattle.world_core.specs.declared.events.WorldEvent.{WorldEvent}
use Rattle.world_core.proofs.Ends.{told}
use Rattle.world_core.proofs.Fitting.{runs_keep_the_fit}
use Rattle.world_core.proofs.KeptSteps.{sites_stand}

pub ends_are_told : EndsAreTold
ends_are_told rs recall initiator at = (
  λ e. let t = told (get initiator.engagement.own recall.number) e in
      (t.0.root, record { initiator = initiator; there = at; own = t.0; begun = t.1; from = refl; ended = t.2 }),
  λ h.
      let same : h.1.initiator ≡ initiator = same_Some h.1.initiator initiator (sym h.1.there ∙ at) in
      subst (λ (r : Record). ended_in recall r ≡ Some true) same (ap (option_map (λ own. own.ended)) h.1.begun ∙ ap Some h.1.ended),
)

-- What one step that a site was handed leaves.

pub answered_steps_are_whole : AnsweredStepsAreWhole
answered_steps_are_whole old new input effects = (
  λ h. subst (λ (r : Record). Does old input effects r) (sym h.2) h.1,
  λ does. (new, does, refl),
)

pub whole_or_absent : (old new : Record) (input : SiteInput) → StandsAfter LeadsOn old (Broken input ∷ []) new ↔ ((new ≡ old) ⊎ IsAfter old input new)
whole_or_absent old new input = (forth, back) where
  forth : StandsAfter LeadsOn old (Broken input ∷ []) new → (new ≡ old) ⊎ IsAfter old input new
  forth (mid, went, same) = subst (λ (r : Record). (r ≡ old) ⊎ IsAfter old input r) (sym same) went

  back : (new ≡ old) ⊎ IsAfter old input new → StandsAfter LeadsOn old (Broken input ∷ []) new
  back went = (new, went, refl)

pub broken_steps_are_either : BrokenStepsAreEither
broken_steps_are_either = (whole_or_absent, whole_or_absent, whole_or_absent)

pub others_are_absent : OthersAreAbsent
others_are_absent = ((λ why old new input. (λ same. same, λ same. same)), (λ old new input. (λ same. same, λ same. same)))

-- A step leaves the list of sites.

pub does_sites : (s t : Record) (input : SiteInput) (e : Effects) → Does s input e t → t.sites ≡ s.sites
does_sites s t (Capture bytes) (effects.Captured fresh known skipped) h = ap (λ (r : Record). r.sites) h.rest
does_sites s t (Start root) (effects.Started recall quarantined numbered ended) h = ap (λ (r : Record). r.sites) h.after
does_sites s t (Deliver (frames.Recall m dest r i)) (effects.Received quarantined numbered owed) h = ap (λ (r : Record). r.sites) h.after
does_sites s t (Deliver (frames.Recall m dest r i)) effects.Repeat h = ap (λ (r : Record). r.sites) h.1
does_sites s t (Deliver (frames.Signal m by)) effects.Stale h = ap (λ (r : Record). r.sites) h.1
does_sites s t (Deliver (frames.Signal m by)) effects.Cleared h = ap (λ (r : Record). r.sites) h.after
does_sites s t (Deliver (frames.Signal m by)) (effects.ParentDue parent) h = ap (λ (r : Record). r.sites) h.after
does_sites s t (Deliver (frames.Signal m by)) (effects.Ended recall) h = ap (λ (r : Record). r.sites) h.after
does_sites s t input e h = absurd h

goes_sites : (old : Record) (handed : Handed) (new : Record) → LeadsOn old handed new → new.sites ≡ old.sites
goes_sites old (Answered input e) new h = does_sites old new input e h
goes_sites old (Broken input) new h = ⊎_elim (λ same. ap (λ (r : Record). r.sites) same) (λ after. does_sites old new input after.0 after.1) h

stands_sites : (old : Record) (hs : List Handed) (new : Record) → StandsAfter LeadsOn old hs new → new.sites ≡ old.sites
stands_sites old [] new h = ap (λ (r : Record). r.sites) h
stands_sites old (x ∷ xs) new h = stands_sites h.0 xs new h.2 ∙ goes_sites old x h.0 h.1

pub runs_make_a_world_again : RunsMakeAWorldAgain
runs_make_a_world_again old new events answers fits one run =
    let rs = records old in
    let now = records new in
    let fit = runs_keep_the_fit old new events answers fits run in
    let stand = sites_stand old new events answers run in
    let first = one.0 in
    let stands = stand.each 0 first one.1 in
    let count : length now ≡ length rs = length-map new.sites record_of ∙ (stand.count ∙ sym (length-map old.sites record_of)) in
    let same_first : stands.now.sites ≡ first.sites = stands_sites first (handed_to 0 new.sent events answers) stands.now stands.kept in
    record {
      one = (
        stands.now,
        stands.there,
        record {
          number = count ∙ (one.2.number ∙ ap length (sym same_first));
          each = λ place r at.
              let below : place < length now = slice_get_within now place r at in
              let was = world_of rs place in
              let there : slice_get rs place ≡ Some was = slice_get-get_or rs place (fresh [] place) (subst (λ n. place < n) count below) in
              let k = stand.each place was there in
              let same : k.now ≡ r = same_Some k.now r (sym k.there ∙ at) in
              let right = one.2.each place was there in
              let sites : k.now.sites ≡ stands.now.sites = stands_sites was (handed_to place new.sent events answers) k.now k.kept ∙ (right.0 ∙ sym same_first) in
              (ap (λ (x : Record). x.sites) (sym same) ∙ sites, ap (λ (x : Record). x.engagement.me) (sym (get_or_from_slice_get now place r (fresh [] place) at)) ∙ (fit.places place below).engagement);
        },
      );
      places = fit.places;
      fit = fewer_frames_fit now new.sent [] fit.fits (λ f c. absurd (contains_none f c));
    }

-- ---- one event

pub turns_stay_one : (old new : WorldState) (event : WorldEvent) (answer : Answer) → WorldFits old → AreOneWorld (records old) → Turns old event answer new → AreOneWorld (records new)
turns_stay_one old new event answer fits one turn = (runs_make_a_world_again old new (event ∷ []) (answer ∷ []) fits one (new, turn, refl)).one

-- records that are consistent with frames are so without them
pub made_again : (world : WorldState) → WorldFits world → AreOneWorld (records world) → MakeAWorld (records world)
made_again world fits one = record { one = one; places = fits.places; fit = fewer_frames_fit (records world) world.sent [] fits.fits (λ f c. absurd (contains_none f c)) }
