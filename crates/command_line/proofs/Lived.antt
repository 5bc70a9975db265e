-- What a command did whose contract is known, by its rows: of one site, of a run, and of none.
use Rattle.std.proofs.Common.{◌≡◌, ◌⊎◌, ℕ, Option, Some, None, List, [], ◌∷◌, refl, sym, ◌∙◌, ap, subst, inl, inr, ⊎_elim}
use Rattle.std.specs.Prelude.{Result, Ok, Err}
use Rattle.std.proofs.lemmas.Option.{same_Some}
use Rattle.event_json.specs.Sites.{Site}
use Rattle.keeper_core.specs.declared.faults.KeepFault.TheVariants as keeping
use Rattle.recall_outcomes.specs.declared.batches.InputOutcome.{InputOutcome}
use Rattle.recall_outcomes.specs.declared.faults.Fault.{Fault}
use Rattle.recall_outcomes.specs.declared.faults.Fault.TheVariants as faults
use Rattle.site_core.specs.Records.{Record}
use Rattle.site_core.specs.declared.inputs.SiteInput.{SiteInput}
use Rattle.site_core.specs.declared.outcomes.Effects.{Effects}
use Rattle.site_core.specs.declared.outcomes.Refusal.{Refusal}
use Rattle.keeper_core.specs.Keeping.{IsAfter}
use Rattle.world_core.specs.Keepers.{StandsAs}
use Rattle.world_core.specs.Turns.{GoesDown}
use Rattle.world_core.specs.Worlds.{Standing, Up, Down, record_of}
use Rattle.world_core.specs.declared.events.Answer.TheVariants.{Done, Fault as StepFault}
use Rattle.site_threads.proofs.Steps.{next_me}
use Rattle.site_folders.specs.FileCalls.{FileCall}
use Rattle.folder_commands.specs.Batches as several
use Rattle.folder_commands.specs.Inputs.{ComesTo, FailsInput, Input}
use Rattle.folder_commands.specs.Steps.{FailsStep, Steps}
use Rattle.folder_commands.proofs.InputLemmas.{asked_is_own}
use Rattle.command_line.specs.Lives.{IsOwn}
use Rattle.command_line.proofs.Acts.{ComesBy, and_then, is_given, own_carried, stays_as}

-- ---- one site, by its record

module _ (site : ℕ) where
  -- from this record it came to stand so
  pub record CameTo (before : Record) (stands : Standing) : Type 0 where
    pub by : ComesBy [] site (Up before) stands
    pub me : (record_of stands).engagement.me ≡ site

  pub came_same : (before : Record) → before.engagement.me ≡ site → (stands : Standing) → stands ≡ Up before → CameTo before stands
  came_same before me stands same = record { by = stays_as [] site (Up before) stands same; me = ap (λ (s : Standing). (record_of s).engagement.me) same ∙ me }

  pub came_on : (before mid : Record) (stands : Standing) → CameTo before (Up mid) → CameTo mid stands → CameTo before stands
  came_on before mid stands first more = record { by = and_then [] site (Up before) (Up mid) stands first.by more.by; me = more.me }

  module _ (before : Record) (me : before.engagement.me ≡ site) (input : SiteInput) (own : IsOwn input) where
    -- by a step that was answered
    pub stepped : (new : Record) (done : Result Effects Refusal) → Steps before input (Some new) done → CameTo before (Up new)
    stepped new (Ok effects) does = record {
      by = is_given [] site before input (Done effects) (Up new) (new, does, refl) (own_carried [] site input own);
      me = next_me before new input (inr (effects, does)) ∙ me;
    }
    stepped new (Err why) (refused, same) = record {
      by = is_given [] site before input (StepFault (keeping.Refused why)) (Up new) (refused, ap Up same) (own_carried [] site input own);
      me = ap (λ (r : Record). r.engagement.me) same ∙ me;
    }

    pub stepped_to : (o : Option Record) (may : Record → Type 0) (done : Result Effects Refusal) (stands : Standing) → Steps before input o done → StandsAs o may stands → CameTo before stands
    stepped_to (Some new) may done (Up r) steps is = subst (λ (x : Record). CameTo before (Up x)) (same_Some new r is) (stepped new done steps)
    stepped_to (Some new) may done (Down r) steps is = absurd (let z : Some new ≡ None = is.0 in cc)
    stepped_to None may done stands steps is = absurd steps

    -- by a step that failed
    went_down : (may : Record → Type 0) (stands : Standing) → ((r : Record) → may r → (r ≡ before) ⊎ IsAfter before input r) → StandsAs None may stands → CameTo before stands
    went_down may (Up r) either is = absurd (let z : None ≡ Some r = is in cc)
    went_down may (Down r) either is =
        let down : GoesDown before input (Down r) = ⊎_elim (λ (e : r ≡ before). inl (ap Down e)) (λ (a : IsAfter before input r). inr (r, a, refl)) (either r is.1) in
        record {
          by = is_given [] site before input (StepFault keeping.Device) (Down r) down (own_carried [] site input own);
          me = next_me before r input (either r is.1) ∙ me;
        }

    shows_still : (new : Record) (may : Record → Type 0) (stands : Standing) → new ≡ before → StandsAs (Some new) may stands → CameTo before stands
    shows_still new may (Up r) same is = came_same before me (Up r) (ap Up (sym (same_Some new r is) ∙ same))
    shows_still new may (Down r) same is = absurd (let z : Some new ≡ None = is.0 in cc)

    pub failed_to : (o : Option Record) (may : Record → Type 0) (fault : Fault) (stands : Standing) → FailsStep before input o may fault → StandsAs o may stands → CameTo before stands
    failed_to (Some new) may faults.NoMemory stands fails is = shows_still new may stands fails is
    failed_to None may faults.Device stands fails is = went_down may stands fails is
    failed_to None may faults.Store stands fails is = went_down may stands fails is
    failed_to None may faults.NoMemory stands fails is = absurd fails
    failed_to (Some new) may faults.Device stands fails is = absurd fails
    failed_to (Some new) may faults.Store stands fails is = absurd fails
    failed_to (Some new) may faults.Read stands fails is = absurd fails
    failed_to None may faults.Read stands fails is = absurd fails
    failed_to (Some new) may faults.Write stands fails is = absurd fails
    failed_to None may faults.Write stands fails is = absurd fails
    failed_to (Some new) may faults.BadSites stands fails is = absurd fails
    failed_to None may faults.BadSites stands fails is = absurd fails
    failed_to (Some new) may faults.OtherSites stands fails is = absurd fails
    failed_to None may faults.OtherSites stands fails is = absurd fails
    failed_to (Some new) may faults.NotAStore stands fails is = absurd fails
    failed_to None may faults.NotAStore stands fails is = absurd fails
    failed_to (Some new) may faults.Version stands fails is = absurd fails
    failed_to None may faults.Version stands fails is = absurd fails
    failed_to (Some new) may faults.OtherSite stands fails is = absurd fails
    failed_to None may faults.OtherSite stands fails is = absurd fails
    failed_to (Some new) may faults.BadRow stands fails is = absurd fails
    failed_to None may faults.BadRow stands fails is = absurd fails
    failed_to (Some new) may faults.Closed stands fails is = absurd fails
    failed_to None may faults.Closed stands fails is = absurd fails
    failed_to (Some new) may faults.SiteLost stands fails is = absurd fails
    failed_to None may faults.SiteLost stands fails is = absurd fails
    failed_to (Some new) may faults.GaveUp stands fails is = absurd fails
    failed_to None may faults.GaveUp stands fails is = absurd fails

  -- ---- several inputs

  pub came_by_input : (doing : _) (before : Record) (bytes : List ℕ) (came : InputOutcome) (new : Record) → before.engagement.me ≡ site → ComesTo doing before bytes came new → CameTo before (Up new)
  came_by_input doing before bytes came new me (inl by) = stepped before me by.input (asked_is_own doing bytes by.input by.asks) new by.done by.stepped
  came_by_input doing before bytes came new me (inr (fault, none, told, same)) = came_same before me (Up new) (ap Up same)

  pub failed_by_input : (doing : _) (before : Record) (bytes : List ℕ) (o : Option Record) (may : Record → Type 0) (fault : Fault) (stands : Standing) → before.engagement.me ≡ site → FailsInput doing before bytes o may fault → StandsAs o may stands → CameTo before stands
  failed_by_input doing before bytes o may fault (Up r) me (inl (is, shows)) stands = came_same before me (Up r) (ap Up (same_Some r before (sym stands ∙ shows)))
  failed_by_input doing before bytes o may fault (Down r) me (inl (is, shows)) stands = absurd (let z : None ≡ Some before = sym stands.0 ∙ shows in cc)
  failed_by_input doing before bytes o may fault stands me (inr (input, asks, fails)) is = failed_to before me input (asked_is_own doing bytes input asks) o may fault stands fails is

  module _ {S : Type 0} (takes : S → List Site → List ℕ → InputOutcome → S → Type 0) (sites : List Site) where
    pub taken_all : (old : several.Standing S) (given : List Input) (new : several.Standing S) → old.site.engagement.me ≡ site → several.Takes takes sites old given new → CameTo old.site (Up new.site)
    taken_all old [] new me same = came_same old.site me (Up new.site) (ap (λ (s : several.Standing S). Up s.site) same)
    taken_all old (input ∷ more) new me (mid, one, rest) =
        let first = came_by_input input.doing old.site input.bytes one.came mid.site me one.comes in
        came_on old.site mid.site (Up new.site) first (taken_all mid more new first.me rest)

    module _ {K : Type 0} (shown : K → Option Record) (may : K → Record → Type 0) where
      kept_as : (r : Record) (kept : K) (stands : Standing) → r.engagement.me ≡ site → shown kept ≡ Some r → StandsAs (shown kept) (may kept) stands → CameTo r stands
      kept_as r kept (Up x) me shows is = came_same r me (Up x) (ap Up (same_Some x r (sym is ∙ shows)))
      kept_as r kept (Down x) me shows is = absurd (let z : None ≡ Some r = sym is.0 ∙ shows in cc)

      broke_by : (last : several.Standing S) (input : Input) (kept : K) (sink : S) (fault : Fault) (stands : Standing) → last.site.engagement.me ≡ site → several.BreaksInput takes sites shown may last input kept sink fault
          → StandsAs (shown kept) (may kept) stands → CameTo last.site stands
      broke_by last input kept sink fault stands me (inl (fails, same)) is = failed_by_input input.doing last.site input.bytes (shown kept) (may kept) fault stands me fails is
      broke_by last input kept sink fault stands me (inr vain) is =
          let first = came_by_input input.doing last.site input.bytes vain.came vain.new me vain.comes in
          came_on last.site vain.new stands first (kept_as vain.new kept stands first.me vain.shows is)

      behind_by : (last : several.Standing S) (rest : List Input) (kept : K) (sink : S) (fault : Fault) (calls : List (FileCall K)) (stands : Standing) → last.site.engagement.me ≡ site
          → several.BreaksBehind takes sites shown may last rest kept sink fault calls → StandsAs (shown kept) (may kept) stands → CameTo last.site stands
      behind_by last rest kept sink fault calls stands me (inl (shows, hears, cause)) is = kept_as last.site kept stands me shows is
      behind_by last rest kept sink fault calls stands me (inr (input, more, parts, broke)) is = broke_by last input kept sink fault stands me broke is

      pub broke_off : (Begins : List Input → List (FileCall K) → Type 0) (old : several.Standing S) (kept : K) (sink : S) (fault : Fault) (calls : List (FileCall K)) (stands : Standing) → old.site.engagement.me ≡ site
          → several.BreaksOff takes sites shown may Begins old kept sink fault calls → StandsAs (shown kept) (may kept) stands → CameTo old.site stands
      broke_off Begins old kept sink fault calls stands me broke is =
          let first = taken_all old broke.first broke.last me broke.taken in
          came_on old.site broke.last.site stands first (behind_by broke.last broke.rest kept sink fault calls stands first.me broke.broke is)
