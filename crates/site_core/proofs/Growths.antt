-- A document that is captured is one fresh event after another, none of which leads an item out of its quarantine.
use Rattle.std.proofs.Common.{◌≡◌, ◌⊎◌, ◌↔◌, inl, inr, ℕ, zero, suc, ◌+◌, ◌<◌, ◌≤◌, ◌==◌, ◌&&◌, true, false, List, [], ◌∷◌, ◌++◌, take, length, Ok, refl, sym, ap, subst, ◌∙◌, arith}
use Rattle.std.specs.Prelude.{IsTrue}
use mathlib.Core.Bool.{false≢true}
use Rattle.std.proofs.lemmas.Bool.Decides.{Decides-and, Decides-eqb}
use Rattle.std.specs.List.{Contains}
use Rattle.std.proofs.lemmas.List.{take_all}
use Rattle.std.proofs.lemmas.List.Elements.{Contains-append_left, Contains-append_right, Contains-append_cases}
use Rattle.event_json.specs.Events.{Content}
use Rattle.frame_core.specs.Numbers.{Recall}
use Rattle.trace_core.specs.Adding.{Addition, adding, standing_among}
use Rattle.trace_core.specs.PairTests.{is_related}
use Rattle.trace_core.specs.Pairs.{IsRelated}
use Rattle.trace_core.specs.Sites.{SiteEvents}
use Rattle.trace_core.specs.Spreads.{with_event}
use Rattle.trace_core.specs.declared.adding.Standing.TheVariants.{Fresh}
use Rattle.trace_core.specs.declared.pairs.Pair.{Pair}
use Rattle.trace_core.proofs.AddingSteps.{counted-none, none_left, stepwise}
use Rattle.trace_core.proofs.Growing.{stays_related}
use Rattle.trace_core.proofs.PairTestsDecide.{related_decides}
use Rattle.trace_core.proofs.Standings.{adding-stepwise, adding_members}
use Rattle.site_core.specs.Capturing.{IsFree, IsHeldHere, IsPassed, IsCaptured, site_before}
use Rattle.site_core.specs.CapturingLaws.{CapturesLeadNoFurther}
use Rattle.site_core.specs.Quarantines.{Quarantine, held}
use Rattle.site_core.specs.Records.{Record, fresh_engagement}
use Rattle.site_core.specs.StepLaws.{CapturesGrow, CapturesKeepTheDocument}
use Rattle.site_core.specs.Ways.{Holds, Grows, GrowsBy}
use Rattle.site_core.proofs.Captures.{kept_is, adds_fresh, adds_known}
use Rattle.site_core.proofs.Places.{some_stands, taken_more}

-- a pair that isn't out is quarantined here
here_or_out : (s : SiteEvents) (q : Quarantine) (r : Recall) (p : Pair) → ((IsHeldHere s q r p → ⊥) → ⊥) → IsHeldHere s q r p
here_or_out s q r p not_out =
    let decides = Decides-and (p.site == s.me) (held q r p.item) (Decides-eqb p.site s.me) (λ h. h, λ h. h) in
    elim (p.site == s.me && held q r p.item) as (λ b. (p.site == s.me && held q r p.item) ≡ b → IsHeldHere s q r p) [
      | true ↦ λ is. decides.0 is
      | false ↦ λ is. absurd (not_out (λ here. false≢true (sym is ∙ decides.1 here)))
    ] refl

-- the record with these events
abbrev pub with_events : Record → List Content → Record
with_events s events = record s { captured = record s.captured { events = events } }

-- a fresh event that nothing blocks
pub grows : (s : Record) (e : Content) → standing_among s.captured.events e ≡ Fresh → IsFree s.captured s.quarantine e → Grows s (with_events s (s.captured.events ++ e ∷ []))
grows s e fresh free = record {
  event = e;
  fresh = fresh;
  captured = refl;
  sites = refl;
  me = refl;
  quarantine = refl;
  engagement = refl;
  related_kept = stays_related s.captured (with_event s.captured e) (e ∷ [], refl, refl);
  related_origin = λ i p is. elim (is_related s.captured i p) as (λ b. is_related s.captured i p ≡ b → IsRelated s.captured i p ⊎ ((r : Recall) → Holds s r i → IsHeldHere s.captured s.quarantine r p)) [
    | true ↦ λ before. inl ((related_decides s.captured i p).0 before)
    | false ↦ λ new. inr (λ r source. here_or_out s.captured s.quarantine r p (λ out.
        free i r (record { source = source; target = p; new = (is, λ before. false≢true (sym new ∙ (related_decides s.captured i p).1 before)); leaves = out })))
  ] refl;
}

-- the record once so many events of a document were captured
record GrownAt (s : Record) (given : List Content) (place : ℕ) : Type 0 where
  pub addition : Addition
  pub adds : adding s.captured.events (take place given) ≡ Ok addition
  pub counts : addition.fresh + addition.known ≡ place
  pub grown : GrowsBy s addition.fresh (with_events s addition.events)

module _ (s : Record) (given : List Content) (a : Addition) (captured : IsCaptured s.captured s.quarantine given a) where
  none_yet : GrownAt s given 0
  none_yet = record {
    addition = record { events = s.captured.events; fresh = 0; known = 0 };
    adds = adding-stepwise s.captured.events [] ∙ sym (counted-none (stepwise s.captured.events [])) ∙ none_left 0 0 s.captured.events;
    counts = refl;
    grown = refl;
  }

  one_more : (place : ℕ) → place < length given → GrownAt s given place → GrownAt s given (place + 1)
  one_more place below so_far =
      let (e, at) = some_stands given place below in
      let b = so_far.addition in
      let now : site_before s.captured given place ≡ record s.captured { events = b.events } = ap (λ (x : Addition). record s.captured { events = x.events }) (kept_is s.captured.events (take place given) b so_far.adds) in
      let more = ap (λ es. adding s.captured.events es) (taken_more given place e at) in
      elim (subst (λ z. IsPassed z s.quarantine e) now (captured.all_pass place e below at)) [
        | inl known ↦ record {
          addition = record { events = b.events; fresh = b.fresh; known = b.known + 1 };
          adds = more ∙ adds_known s.captured.events (take place given) e b so_far.adds known;
          counts = omega (arith, so_far.counts);
          grown = so_far.grown;
        }
        | inr free ↦ record {
          addition = record { events = b.events ++ e ∷ []; fresh = b.fresh + 1; known = b.known };
          adds = more ∙ adds_fresh s.captured.events (take place given) e b so_far.adds free.0;
          counts = omega (arith, so_far.counts);
          grown =
              let next : suc b.fresh ≡ b.fresh + 1 = omega arith in
              subst (λ k. GrowsBy s k (with_events s (b.events ++ e ∷ []))) next (with_events s b.events, so_far.grown, grows (with_events s b.events) e free.0 free.1);
        }
      ]

  grown_at : (place : ℕ) → place ≤ length given → GrownAt s given place
  grown_at zero within = none_yet
  grown_at (suc place) within =
      let next : place + 1 ≡ suc place = omega arith in
      subst (GrownAt s given) next (one_more place (omega (arith, within)) (grown_at place (omega (arith, within))))

  all_captured : GrownAt s given (length given)
  all_captured = grown_at (length given) (omega arith)

  adds_all : adding s.captured.events given ≡ Ok all_captured.addition
  adds_all = ap (adding s.captured.events) (sym (take_all (length given) given (omega arith))) ∙ all_captured.adds

  is_kept : all_captured.addition ≡ a
  is_kept = sym (kept_is s.captured.events given all_captured.addition adds_all) ∙ sym captured.kept

  pub captured_grows : GrowsBy s a.fresh (with_events s a.events)
  captured_grows = subst (λ (x : Addition). GrowsBy s x.fresh (with_events s x.events)) is_kept all_captured.grown

  pub captured_counts : a.fresh + a.known ≡ length given
  captured_counts = subst (λ (x : Addition). x.fresh + x.known ≡ length given) is_kept all_captured.counts

  pub captured_events : (e : Content) → Contains a.events e ↔ (Contains s.captured.events e ⊎ Contains given e)
  captured_events e =
      let same = adding_members s.captured.events given a (adds_all ∙ ap Ok is_kept) e in (
        λ there. Contains-append_cases s.captured.events given e (same.0 there),
        λ either. same.1 (elim either [
          | inl before ↦ Contains-append_left s.captured.events given e before
          | inr new ↦ Contains-append_right s.captured.events given e new
        ]),
      )

pub captures_keep : CapturesKeepTheDocument
captures_keep s t bytes fresh known skipped c = record {
  doc = c.doc;
  read = c.read;
  events = captured_events s c.doc.events _ c.captured;
  counts = captured_counts s c.doc.events _ c.captured;
  skips = c.skips;
}

pub captures_grow : CapturesGrow
captures_grow s t bytes fresh known skipped c = subst (GrowsBy s fresh) (sym c.rest) (captured_grows s c.doc.events _ c.captured)

-- What growing leaves as it was, and where it leads.

pub same_me : (k : ℕ) (s t : Record) → GrowsBy s k t → t.captured.me ≡ s.captured.me
same_me zero s t g = ap (λ (u : Record). u.captured.me) (sym g)
same_me (suc k) s t (u, before, last) = last.me ∙ same_me k s u before

pub same_quarantine : (k : ℕ) (s t : Record) → GrowsBy s k t → t.quarantine ≡ s.quarantine
same_quarantine zero s t g = ap (λ (u : Record). u.quarantine) (sym g)
same_quarantine (suc k) s t (u, before, last) = last.quarantine ∙ same_quarantine k s u before

-- what a quarantined item is related to afterwards
leads_no_further : (k : ℕ) (s t : Record) → GrowsBy s k t → (r : Recall) (i : List ℕ) (p : Pair) → Holds s r i → IsRelated t.captured i p → IsRelated s.captured i p ⊎ IsHeldHere s.captured s.quarantine r p
leads_no_further zero s t g r i p source is = inl (subst (λ (u : Record). IsRelated u.captured i p) (sym g) is)
leads_no_further (suc k) s t (u, before, last) r i p source is = elim (last.related_origin i p is) [
  | inl related ↦ leads_no_further k s u before r i p source related
  | inr new ↦
      let quarantine = same_quarantine k s u before in
      let (here, held_there) = new r (subst (λ q. IsTrue (held q r i)) (sym quarantine) source) in
      inr (here ∙ same_me k s u before, subst (λ q. IsTrue (held q r p.item)) quarantine held_there)
]

pub captures_lead_no_further : CapturesLeadNoFurther
captures_lead_no_further s q given a captured r i p source is =
    let site : Record = record { sites = []; captured = s; quarantine = q; engagement = fresh_engagement s.me } in
    leads_no_further a.fresh site (with_events site a.events) (captured_grows site given a captured) r i p source is
