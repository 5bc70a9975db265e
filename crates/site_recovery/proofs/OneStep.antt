-- A step of one site keeps the records consistent, and what has ended.
use Rattle.std.proofs.Common.{◌≡◌, inl, inr, ℕ, zero, suc, cond, List, Some, None, refl, sym, ap, ◌∙◌, subst, eqb, eq-eqb, ne_eqb}
use Rattle.std.specs.FinMap.{get}
use Rattle.std.specs.List.{Contains}
use Rattle.frame_core.specs.Numbers.{Recall, Message}
use Rattle.frame_core.specs.declared.frames.Frame.{Frame}
use Rattle.frame_core.specs.declared.frames.Frame.TheVariants as frames
use Rattle.frame_core.specs.declared.rows.Row.{Row}
use Rattle.scholten_core.specs.declared.own_recalls.Own.{Own}
use Rattle.scholten_core.specs.declared.outcomes.Signalled.{Signalled}
use Rattle.scholten_core.specs.declared.outcomes.Signalled.TheVariants as signals
use Rattle.site_core.specs.Quarantines.{held}
use Rattle.site_core.specs.Records.{Record}
use Rattle.site_core.specs.StepLaws.{ClearsFor}
use Rattle.site_core.specs.Steps.{Does, IsForSite}
use Rattle.site_core.specs.Ways as ways
use Rattle.site_core.specs.declared.inputs.SiteInput.{SiteInput}
use Rattle.site_core.specs.declared.inputs.SiteInput.TheVariants.{Capture, Start, Deliver}
use Rattle.site_core.specs.declared.outcomes.Effects.{Effects}
use Rattle.site_core.specs.declared.outcomes.Effects.TheVariants as effects
use Rattle.site_core.proofs.Clearings.{signals_clear}
use Rattle.site_core.proofs.Growths.{captures_grow}
use Rattle.site_core.proofs.Openings.{starts_open}
use Rattle.site_core.proofs.Takings.{messages_are_taken}
use Rattle.site_recovery.specs.Fit.{Fit, Fits, IsAnswered, IsEnded}
use Rattle.site_recovery.specs.Laws.{StaysAs, FitsStill, WasSent}
use Rattle.site_recovery.specs.Looks.{World, row}
use Rattle.site_recovery.proofs.Changes.{Grows, Takes, Opens, Clears}
use Rattle.site_recovery.proofs.Clearing.{fit_clears, frame_clears}
use Rattle.site_recovery.proofs.EndedStays.{ended_takes, begun_opens, ended_clears}
use Rattle.site_recovery.proofs.Growing.{fit_grows, frame_grows}
use Rattle.site_recovery.proofs.Lifting.{grows_everywhere, takes_everywhere, clears_everywhere, opens_everywhere}
use Rattle.site_recovery.proofs.OneSite.{SameElsewhere, one_place}
use Rattle.site_recovery.proofs.Opening.{fit_opens, frame_opens}
use Rattle.site_recovery.proofs.Taking.{fit_takes, frame_takes}

-- An ended recall is as it was.

same_entry : (o p : Own) → p.root ≡ o.root → p.ended ≡ o.ended → p ≡ o
same_entry o p root ended = λ i. record { root = root i; ended = ended i }

pub stays_itself : (W : World) (r : Recall) → StaysAs W W r
stays_itself W r = record { entry = refl; quarantine = λ s i. (λ h. h, λ h. h) }

pub stays_after : (U V W : World) (r : Recall) → StaysAs U V r → StaysAs V W r → StaysAs U W r
stays_after U V W r a b = record {
  entry = b.entry ∙ a.entry;
  quarantine = λ s i. (λ h. (a.quarantine s i).0 ((b.quarantine s i).0 h), λ h. (b.quarantine s i).1 ((a.quarantine s i).1 h));
}

ended_grows : (V W : World) (s : ℕ) → Grows V W s → (r : Recall) → StaysAs V W r
ended_grows V W s c r = record {
  entry = ap (λ e. get e.own r.number) (c.engagement r.site);
  quarantine = λ t i. (λ h. sym (ap (λ q. held q r i) (c.quarantine t)) ∙ h, λ h. ap (λ q. held q r i) (c.quarantine t) ∙ h);
}

takes_stays : (V W : World) (s : ℕ) (m : Message) (r : Recall) (item : List ℕ) → Fit V → Takes V W s m r item → row V m.site m.number ≡ Some (record { dest = s; recall = r; item = item }) → (q : Recall) → IsEnded V q → StaysAs V W q
takes_stays V W s m r item f c stands q is = record { entry = c.own q.site q.number; quarantine = λ t i. (ended_takes V W s m r item f c stands q is t i, c.spreads.held_kept t q i) }

opens_stays : (V W : World) (s : ℕ) (item : List ℕ) (o : Own) → Fit V → Opens V W s item o → (q : Recall) → IsEnded V q → StaysAs V W q
opens_stays V W s item o f c q is = record {
  entry = c.own_kept q.site q.number is.0 ((f.numbers_are_below q.site).own q.number is.0 is.1) is.1 ∙ sym is.1;
  quarantine = λ t i. (begun_opens V W s item o f c q is.0 is.1 t i, c.spreads.held_kept t q i);
}

clears_stays : (V W : World) (s n : ℕ) (x : Row) → Fit V → Clears V W s n x → (q : Recall) → IsEnded V q → StaysAs V W q
clears_stays V W s n x f c q is =
    let p = ended_clears V W s n x f c q is is.0 is.1 in
    record {
      entry = p.1 ∙ ap Some (same_entry is.0 p.0 p.2 p.3) ∙ sym is.1;
      quarantine = λ t i. (λ h. sym (ap (λ z. held z q i) (c.quarantine t)) ∙ h, λ h. ap (λ z. held z q i) (c.quarantine t) ∙ h);
    }

-- Each way keeps the records consistent.

pub still_itself : (V : World) (sent : List Frame) → Fits V sent → FitsStill V V sent
still_itself V sent f = record { fits = f; ended_stay = λ r _. stays_itself V r }

pub still_after : (U V W : World) (sent : List Frame) → FitsStill U V sent → FitsStill V W sent → FitsStill U W sent
still_after U V W sent a b = record {
  fits = b.fits;
  ended_stay = λ r is.
      let first = a.ended_stay r is in
      stays_after U V W r first (b.ended_stay r (is.0, first.entry ∙ is.1, is.2));
}

still_grows : (V W : World) (s : ℕ) (sent : List Frame) → Fits V sent → Grows V W s → FitsStill V W sent
still_grows V W s sent f c = record {
  fits = record { records_fit = fit_grows V W s f.records_fit c; frames_fit = λ x at. frame_grows V W s f.records_fit c x (f.frames_fit x at) };
  ended_stay = λ r _. ended_grows V W s c r;
}

still_opens : (V W : World) (s : ℕ) (item : List ℕ) (o : Own) (sent : List Frame) → Fits V sent → Opens V W s item o → FitsStill V W sent
still_opens V W s item o sent f c = record {
  fits = record { records_fit = fit_opens V W s item o f.records_fit c; frames_fit = λ x at. frame_opens V W s item o f.records_fit c x (f.frames_fit x at) };
  ended_stay = opens_stays V W s item o f.records_fit c;
}

still_takes : (V W : World) (s : ℕ) (m : Message) (r : Recall) (item : List ℕ) (sent : List Frame) → Fits V sent → Takes V W s m r item → Contains sent (frames.Recall m s r item) → FitsStill V W sent
still_takes V W s m r item sent f c at =
    let stands : row V m.site m.number ≡ Some (record { dest = s; recall = r; item = item }) =
    elim (f.frames_fit (frames.Recall m s r item) at) as (λ _. row V m.site m.number ≡ Some (record { dest = s; recall = r; item = item })) [
      | inl stands ↦ stands
      | inr answered ↦ let twice : None ≡ Some answered.0.0 = sym c.unseen ∙ answered.0.1 in cc
    ]
    in
    record {
      fits = record { records_fit = fit_takes V W s m r item f.records_fit c stands; frames_fit = λ x among. frame_takes V W s m r item f.records_fit c x (f.frames_fit x among) };
      ended_stay = takes_stays V W s m r item f.records_fit c stands;
    }

still_clears : (V W : World) (s n : ℕ) (x : Row) (sent : List Frame) → Fits V sent → Clears V W s n x → Contains sent (frames.Signal (record { site = s; number = n }) x.dest) → FitsStill V W sent
still_clears V W s n x sent f c at =
    let done : IsAnswered V x.dest (record { site = s; number = n }) = f.frames_fit (frames.Signal (record { site = s; number = n }) x.dest) at in
    record {
      fits = record { records_fit = fit_clears V W s n x f.records_fit c done; frames_fit = λ y among. frame_clears V W s n x f.records_fit c done y (f.frames_fit y among) };
      ended_stay = clears_stays V W s n x f.records_fit c;
    }

-- The record of one site is put in another's place.

abbrev pub put : World → ℕ → Record → World
put V s new t = cond (eqb t s) new (V t)

pub put_here : (V : World) (s : ℕ) (new : Record) → put V s new s ≡ new
put_here V s new = ap (λ b. cond b new (V s)) (eq-eqb s s refl)

pub put_elsewhere : (V : World) (s : ℕ) (new : Record) → SameElsewhere V (put V s new) s
put_elsewhere V s new t away = ap (λ b. cond b new (V t)) (ne_eqb t s away)

-- worlds that are the same at the site and elsewhere are one
pub one_world : (V W : World) (s : ℕ) → W s ≡ V s → SameElsewhere V W s → W ≡ V
one_world V W s here elsewhere =
    let each : (t : ℕ) → W t ≡ V t = λ t. elim (one_place t s) as (λ _. W t ≡ V t) [
      | inl at ↦ ap W at ∙ here ∙ ap V (sym at)
      | inr away ↦ elsewhere t away
    ] in
    λ i t. each t i

still_same : (V W : World) (s : ℕ) (sent : List Frame) → Fits V sent → SameElsewhere V W s → W s ≡ V s → FitsStill V W sent
still_same V W s sent f elsewhere same = subst (λ z. FitsStill V z sent) (sym (one_world V W s same elsewhere)) (still_itself V sent f)

still_grows_by : (V : World) (s : ℕ) (sent : List Frame) → Fits V sent → (k : ℕ) (W : World) → SameElsewhere V W s → ways.GrowsBy (V s) k (W s) → FitsStill V W sent
still_grows_by V s sent f zero W elsewhere same = still_same V W s sent f elsewhere (sym same)
still_grows_by V s sent f (suc k) W elsewhere (u, first, last) =
    let middle = put V s u in
    let before = still_grows_by V s sent f k middle (put_elsewhere V s u) (subst (ways.GrowsBy (V s) k) (sym (put_here V s u)) first) in
    let apart : SameElsewhere middle W s = λ t away. elsewhere t away ∙ sym (put_elsewhere V s u t away) in
    still_after V middle W sent before (still_grows middle W s sent before.fits (grows_everywhere middle W s apart (subst (λ z. ways.Grows z (W s)) (sym (put_here V s u)) last)))

-- A step is one of the ways.

module _ (V W : World) (s : ℕ) (sent : List Frame) (f : Fits V sent) (elsewhere : SameElsewhere V W s) (me : (V s).engagement.me ≡ s) where
  still_taken : (m : Message) (dest : ℕ) (r : Recall) (i : List ℕ) → IsForSite (V s) m dest r → ways.TakesMessage (V s) (W s) m r i → Contains sent (frames.Recall m dest r i) → FitsStill V W sent
  still_taken m dest r i mine w at =
      let here : dest ≡ s = mine.here ∙ me in
      still_takes V W s m r i sent f (takes_everywhere V W s elsewhere me m r i w) (subst (λ z. Contains sent (frames.Recall m z r i)) here at)

  still_cleared : (m : Message) (by : ℕ) (answer : Signalled) → ClearsFor (V s) (W s) m by answer → Contains sent (frames.Signal m by) → FitsStill V W sent
  still_cleared m by answer c at =
      let here : m.site ≡ s = c.own.site ∙ me in
      let name : m ≡ record { site = s; number = m.number } = (λ i. record { site = here i; number = m.number }) in
      still_clears V W s m.number c.row sent f (clears_everywhere V W s elsewhere me m.number c.row c.clears)
      (subst (λ z. Contains sent (frames.Signal z c.row.dest)) name (subst (λ z. Contains sent (frames.Signal m z)) (sym c.signer) at))

  pub still_steps : (input : SiteInput) (e : Effects) → WasSent sent input → Does (V s) input e (W s) → FitsStill V W sent
  still_steps (Capture bytes) (effects.Captured fresh known skipped) at does = still_grows_by V s sent f fresh W elsewhere (captures_grow (V s) (W s) bytes fresh known skipped does)
  still_steps (Start root) (effects.Started recall quarantined numbered ended) at does =
      let w = (starts_open (V s) (W s) root recall quarantined numbered ended does).0 in
      still_opens V W s root w.begins.own_new.0 sent f (opens_everywhere V W s elsewhere me root w)
  still_steps (Deliver (frames.Recall m dest r i)) (effects.Received quarantined numbered owed) at does =
      let w = messages_are_taken (V s) (W s) m dest r i quarantined numbered owed does in
      still_taken m dest r i w.0 w.1 (at (frames.Recall m dest r i) refl)
  still_steps (Deliver (frames.Recall m dest r i)) effects.Repeat at does = still_same V W s sent f elsewhere does.1
  still_steps (Deliver (frames.Signal m by)) effects.Stale at does = still_same V W s sent f elsewhere does.1
  still_steps (Deliver (frames.Signal m by)) effects.Cleared at does = still_cleared m by signals.Cleared ((signals_clear (V s) (W s) m by).0 does) (at (frames.Signal m by) refl)
  still_steps (Deliver (frames.Signal m by)) (effects.ParentDue parent) at does = still_cleared m by (signals.ParentDue parent) ((signals_clear (V s) (W s) m by).1 parent does) (at (frames.Signal m by) refl)
  still_steps (Deliver (frames.Signal m by)) (effects.Ended recall) at does = still_cleared m by (signals.Ended recall) ((signals_clear (V s) (W s) m by).2 recall does) (at (frames.Signal m by) refl)
  still_steps input other at does = absurd does
