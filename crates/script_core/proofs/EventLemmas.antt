-- What the answer to an event says of the site.
use Rattle.std.proofs.Common.{◌≡◌, ℕ, ◌+◌, List, [], ◌∷◌, length, Option, Some, None, refl, sym, ap, ◌∙◌, subst, inl, inr, length-append}
use Rattle.std.specs.Prelude.{slice_get, slice_set, option_and_then}
use Rattle.std.proofs.lemmas.List.{set-get_or}
use Rattle.std.proofs.lemmas.Option.{get_or_from_slice_get}
use Rattle.frame_core.specs.declared.frames.Frame.{Frame}
use Rattle.keeper_core.specs.declared.faults.Keep.{Keep}
use Rattle.site_core.specs.Emitting.{frame_at}
use Rattle.site_core.specs.Records.{Record}
use Rattle.site_core.specs.declared.inputs.SiteInput.{SiteInput}
use Rattle.world_core.specs.Turns.{Sends, input_at}
use Rattle.world_core.specs.Worlds.{Standing, Up, Down, WorldState}
use Rattle.world_core.specs.declared.events.Answer.TheVariants.{NoMemory, Sent, Reopened}
use Rattle.world_core.specs.declared.events.WorldEvent.TheVariants.{Step, Send, Stop, Reopen}
use Rattle.world_core.specs.declared.events.WorldInput.{WorldInput}
use Rattle.script_core.specs.Events.{answer_for, IsHanded, TurnsFrom, Turns}
use Rattle.script_core.specs.Happening.{Happens, with_site, with_sent}
use Rattle.script_core.specs.State.{shown_by, up_in}
use Rattle.script_core.specs.declared.worlds.Outcome.{Outcome}
use Rattle.script_core.specs.declared.worlds.Outcome.TheVariants.{Did, Refused, Stopped}

answer_one : (a b : Outcome) → answer_for a ≡ answer_for b → a ≡ b
answer_one (Did e) (Did f) h = let same : e ≡ f = cc in ap Did same
answer_one (Refused e) (Refused f) h = let same : e ≡ f = cc in ap Refused same
answer_one Stopped Stopped h = refl
answer_one (Did e) (Refused f) h = cc
answer_one (Did e) Stopped h = cc
answer_one (Refused e) (Did f) h = cc
answer_one (Refused e) Stopped h = cc
answer_one Stopped (Did f) h = cc
answer_one Stopped (Refused f) h = cc

no_memory : (o : Outcome) → answer_for o ≡ NoMemory → ⊥
no_memory (Did e) h = cc
no_memory (Refused e) h = cc
no_memory Stopped h = cc

handed : (old : Record) (armed : Option Keep) (given : SiteInput) (o : Outcome) (changed : Standing) → IsHanded old armed (Some given) (answer_for o) changed → Happens old armed given o changed
handed old armed given o changed (inl a) = subst (λ x. Happens old armed given x changed) (sym (answer_one o a.outcome a.told)) a.happens
handed old armed given o changed (inr (told, _)) = absurd (no_memory o told)

-- what an input made of a site
abbrev Came : WorldState → ℕ → Record → Option Keep → SiteInput → Outcome → WorldState → Type 0
Came w site old armed given o after = (standing : Standing) × Happens old armed given o standing × (after ≡ with_site w site standing)

module _ (w after : WorldState) (site : ℕ) (old : Record) where
  same_up : (r : Record) → Some r ≡ Some old → r ≡ old
  same_up r e = cc

  pub stepped : (input : WorldInput) (given : SiteInput) (o : Outcome) → up_in w.sites site ≡ Some old → input_at w.sent site input ≡ Some given
      → Turns w (Step site input) (answer_for o) after → Came w site old None given o after
  stepped input given o up there h = by (slice_get w.sites site) up h where
    by : (s : Option Standing) → option_and_then shown_by s ≡ Some old → TurnsFrom s w (Step site input) (answer_for o) after → Came w site old None given o after
    by None e turns = cc
    by (Some (Down r)) e turns = cc
    by (Some (Up r)) e (changed, (hands, same), set) = (
      changed,
      handed old None given o changed (subst (λ i. IsHanded old None i (answer_for o) changed) there (subst (λ q. IsHanded q None (input_at w.sent site input) (answer_for o) changed) (same_up r e) hands)),
      ap (λ (sites : List Standing). let x : WorldState = record { sites = sites; sent = after.sent } in x) set ∙ ap (λ (sent : List Frame). let x : WorldState = record { sites = slice_set w.sites site changed; sent = sent } in x) same,
    )

  pub was_stopped : (input : WorldInput) (keep : Keep) (given : SiteInput) (o : Outcome) → up_in w.sites site ≡ Some old → input_at w.sent site input ≡ Some given
      → Turns w (Stop site input keep) (answer_for o) after → Came w site old (Some keep) given o after
  was_stopped input keep given o up there h = by (slice_get w.sites site) up h where
    by : (s : Option Standing) → option_and_then shown_by s ≡ Some old → TurnsFrom s w (Stop site input keep) (answer_for o) after → Came w site old (Some keep) given o after
    by None e turns = cc
    by (Some (Down r)) e turns = cc
    by (Some (Up r)) e (changed, (hands, same), set) = (
      changed,
      handed old (Some keep) given o changed (subst (λ i. IsHanded old (Some keep) i (answer_for o) changed) there (subst (λ q. IsHanded q (Some keep) (input_at w.sent site input) (answer_for o) changed) (same_up r e) hands)),
      ap (λ (sites : List Standing). let x : WorldState = record { sites = sites; sent = after.sent } in x) set ∙ ap (λ (sent : List Frame). let x : WorldState = record { sites = slice_set w.sites site changed; sent = sent } in x) same,
    )

  same_sites : (r : Record) → slice_get w.sites site ≡ Some (Up r) → slice_set w.sites site (Up r) ≡ w.sites
  same_sites r at = ap (λ s. slice_set w.sites site s) (sym (get_or_from_slice_get w.sites site (Up r) (Up r) at)) ∙ set-get_or w.sites site (Up r)

  pub frame_sent : (place at : ℕ) (frame : Frame) → up_in w.sites site ≡ Some old → frame_at old.engagement place ≡ Some frame
      → Turns w (Send site place) (Sent at) after → (at ≡ length w.sent + 1) × (after ≡ with_sent w frame)
  frame_sent place at frame up emits h = by (slice_get w.sites site) refl up h where
    by : (s : Option Standing) → slice_get w.sites site ≡ s → option_and_then shown_by s ≡ Some old → TurnsFrom s w (Send site place) (Sent at) after → (at ≡ length w.sent + 1) × (after ≡ with_sent w frame)
    by None is e turns = cc
    by (Some (Down r)) is e turns = cc
    by (Some (Up r)) is e (changed, (sends, same), set) =
        let (sent, told) = subst (λ f. Sends f w.sent (Sent at) after.sent) emits (subst (λ (q : Record). Sends (frame_at q.engagement place) w.sent (Sent at) after.sent) (same_up r e) sends) in
        let sites : after.sites ≡ w.sites = set ∙ ap (λ s. slice_set w.sites site s) same ∙ same_sites r is in (
          told ∙ ap length sent ∙ length-append w.sent (frame ∷ []),
          ap (λ (x : List Standing). let v : WorldState = record { sites = x; sent = after.sent } in v) sites ∙ ap (λ (x : List Frame). let v : WorldState = record { sites = w.sites; sent = x } in v) sent,
        )

  pub was_opened : slice_get w.sites site ≡ Some (Down old) → Turns w (Reopen site) Reopened after → after ≡ with_site w site (Up old)
  was_opened there h = by (subst (λ s. TurnsFrom s w (Reopen site) Reopened after) there h) where
    by : TurnsFrom (Some (Down old)) w (Reopen site) Reopened after → after ≡ with_site w site (Up old)
    by (changed, (told, is, same), set) =
        ap (λ (x : List Standing). let v : WorldState = record { sites = x; sent = after.sent } in v) (set ∙ ap (λ s. slice_set w.sites site s) is)
        ∙ ap (λ (x : List Frame). let v : WorldState = record { sites = slice_set w.sites site (Up old); sent = x } in v) same
