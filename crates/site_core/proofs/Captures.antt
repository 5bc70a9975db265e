-- The events of a document, captured one after another.
use Rattle.std.proofs.Common.{◌≡◌, ◌⊎◌, inl, inr, ℕ, zero, suc, ◌+◌, ◌<◌, ◌≤◌, List, [], ◌∷◌, ◌++◌, take, drop, length, Option, Some, None, Result, Ok, Err, refl, sym, ap, subst, ◌∙◌, ⊎_elim, arith}
use Rattle.std.specs.List.{slice_get, position}
use Rattle.std.specs.Result.{IfErr, IsErrAnd}
use Rattle.std.proofs.lemmas.Bool.{cases_lt}
use Rattle.std.proofs.lemmas.List.{take_all}
use Rattle.event_json.specs.Events.{Content}
use Rattle.trace_core.specs.declared.adding.Standing.{Standing}
use Rattle.trace_core.specs.declared.adding.Standing.TheVariants.{Fresh, Known, Taken}
use Rattle.trace_core.specs.Adding.{standing_among, is_taken, judged, Addition, kept_with, with_fresh, outcome_at, adding}
use Rattle.trace_core.specs.Sites.{SiteEvents}
use Rattle.trace_core.proofs.AddingSteps.{after_fresh, after_known, then_with, stepwise, stepwise-fresh, stepwise-known, stepwise-taken, counted_on, counted-none, fresh_step, known_step, none_left, front_more}
use Rattle.trace_core.proofs.Standings.{adding-stepwise}
use Rattle.site_core.specs.Capturing.{IsFree, IsReason, Reason, taken, blocked, site_before, NoneIsRefusedBefore, IsPassed, EachPassesBefore, IsCaptured, IsRefusedFirst, TellsRefusal}
use Rattle.site_core.specs.Blocks.{Passes, Refuses}
use Rattle.site_core.specs.Quarantines.{Quarantine}
use Rattle.site_core.specs.declared.capturing.CaptureFault.{CaptureFault}
use Rattle.site_core.specs.declared.capturing.CaptureFault.TheVariants as faults
use Rattle.site_core.proofs.Places.{taken_more, stands_next, rest_next}

same_addition : (a b : Addition) (r : Result Addition ℕ) → r ≡ Ok a → r ≡ Ok b → a ≡ b
same_addition a b r h k = cc

refused : (n : ℕ) (a : Addition) (r : Result Addition ℕ) → r ≡ Err n → r ≡ Ok a → ⊥
refused n a r h k = cc

-- a fault that is passed on
pub handed_on : {T E : Type 0} (r : Result T E) (x : E) (Q : E → Type 0) → IsErrAnd r (λ y. y ≡ x) → Q x → IfErr r Q
handed_on (Ok a) x Q h q = absurd h
handed_on (Err e) x Q h q = subst Q (sym h) q

-- what is added is what is kept
pub kept_is : (before given : List Content) (a : Addition) → adding before given ≡ Ok a → kept_with before (judged before given) ≡ a
unfolding adding
kept_is before given a h = by_outcome (position is_taken (judged before given)) h
  where
    by_outcome : (o : Option ℕ) → outcome_at before (judged before given) o ≡ Ok a → kept_with before (judged before given) ≡ a
    by_outcome None e = same_addition (kept_with before (judged before given)) a (Ok (kept_with before (judged before given))) refl e
    by_outcome (Some place) e = absurd (refused (suc place) a (Err (suc place)) refl e)

taken_back : (f : Addition → Addition) (r : Result Addition ℕ) (a : Addition) → then_with f r ≡ Ok a → (b : Addition) × (r ≡ Ok b) × (f b ≡ a)
taken_back f (Ok b) a h = (b, refl, same_addition (f b) a (Ok (f b)) refl h)
taken_back f (Err n) a h = absurd (refused (suc n) a (Err (suc n)) refl h)

fresh_more : (f k : ℕ) (r : Result Addition ℕ) → then_with after_fresh (counted_on f k r) ≡ counted_on (suc f) k r
fresh_more f k (Ok a) = let e : suc (f + a.fresh) ≡ suc f + a.fresh = omega arith in ap (λ (n : ℕ). Ok (record { events = a.events; fresh = n; known = k + a.known })) e
fresh_more f k (Err n) = let e : suc (f + k + n) ≡ suc f + k + n = omega arith in ap Err e

known_more : (f k : ℕ) (r : Result Addition ℕ) → then_with after_known (counted_on f k r) ≡ counted_on f (suc k) r
known_more f k (Ok a) = let e : suc (k + a.known) ≡ suc k + a.known = omega arith in ap (λ (n : ℕ). Ok (record { events = a.events; fresh = f + a.fresh; known = n })) e
known_more f k (Err n) = let e : suc (f + k + n) ≡ f + suc k + n = omega arith in ap Err e

none_before : (ys kept : List Content) (a : Addition) → stepwise kept [] ≡ Ok a → stepwise kept ys ≡ counted_on a.fresh a.known (stepwise a.events ys)
none_before ys kept a h =
    let same : record { events = kept; fresh = 0; known = 0 } ≡ a = same_addition (record { events = kept; fresh = 0; known = 0 }) a (counted_on 0 0 (stepwise kept [])) (none_left 0 0 kept) (counted-none (stepwise kept []) ∙ h) in
    subst (λ (b : Addition). stepwise kept ys ≡ counted_on b.fresh b.known (stepwise b.events ys)) same (sym (counted-none (stepwise kept ys)))

-- what some events make, and then some more
stepwise_more : (xs ys kept : List Content) (a : Addition) → stepwise kept xs ≡ Ok a → stepwise kept (xs ++ ys) ≡ counted_on a.fresh a.known (stepwise a.events ys)
stepwise_more [] ys kept a h = none_before ys kept a h
stepwise_more (e ∷ es) ys kept a h = by_standing (standing_among kept e) refl (λ k b r. stepwise_more es ys k b r)
  where
    by_standing : (st : Standing) → standing_among kept e ≡ st → ((k : List Content) (b : Addition) → stepwise k es ≡ Ok b → stepwise k (es ++ ys) ≡ counted_on b.fresh b.known (stepwise b.events ys))
        → stepwise kept (e ∷ (es ++ ys)) ≡ counted_on a.fresh a.known (stepwise a.events ys)
    by_standing Fresh stands rest =
        let (b, is, same) = taken_back after_fresh (stepwise (kept ++ e ∷ []) es) a (sym (stepwise-fresh kept e es stands) ∙ h) in
        stepwise-fresh kept e (es ++ ys) stands ∙ ap (then_with after_fresh) (rest (kept ++ e ∷ []) b is) ∙ fresh_more b.fresh b.known (stepwise b.events ys)
        ∙ ap (λ (x : Addition). counted_on x.fresh x.known (stepwise x.events ys)) same
    by_standing Known stands rest =
        let (b, is, same) = taken_back after_known (stepwise kept es) a (sym (stepwise-known kept e es stands) ∙ h) in
        stepwise-known kept e (es ++ ys) stands ∙ ap (then_with after_known) (rest kept b is) ∙ known_more b.fresh b.known (stepwise b.events ys)
        ∙ ap (λ (x : Addition). counted_on x.fresh x.known (stepwise x.events ys)) same
    by_standing Taken stands rest = absurd (refused 1 a (stepwise kept (e ∷ es)) (stepwise-taken kept e es stands) h)

module _ (before xs : List Content) (e : Content) (a : Addition) (so_far : adding before xs ≡ Ok a) where
  adds_last : adding before (xs ++ e ∷ []) ≡ counted_on a.fresh a.known (stepwise a.events (e ∷ []))
  adds_last = adding-stepwise before (xs ++ e ∷ []) ∙ stepwise_more xs (e ∷ []) before a (sym (adding-stepwise before xs) ∙ so_far)

  pub adds_fresh : standing_among a.events e ≡ Fresh → adding before (xs ++ e ∷ []) ≡ Ok (record { events = a.events ++ e ∷ []; fresh = a.fresh + 1; known = a.known })
  adds_fresh stands = adds_last ∙ fresh_step a.fresh a.known a.events e [] stands ∙ none_left (a.fresh + 1) a.known (a.events ++ e ∷ [])

  pub adds_known : standing_among a.events e ≡ Known → adding before (xs ++ e ∷ []) ≡ Ok (record { events = a.events; fresh = a.fresh; known = a.known + 1 })
  adds_known stands = adds_last ∙ known_step a.fresh a.known a.events e [] stands ∙ none_left a.fresh (a.known + 1) a.events

-- nothing refuses a known event, nor a fresh one that nothing blocks
free_passes : (s : SiteEvents) (q : Quarantine) (e : Content) → standing_among s.events e ≡ Fresh → IsFree s q e → (reason : Reason) → IsReason s q e reason → ⊥
free_passes s q e stands free taken h = let both : Fresh ≡ Taken = sym stands ∙ h in cc
free_passes s q e stands free (blocked r i) (fresh, first) = free i r first.blocked

known_passes : (s : SiteEvents) (q : Quarantine) (e : Content) → standing_among s.events e ≡ Known → (reason : Reason) → IsReason s q e reason → ⊥
known_passes s q e stands taken h = let both : Known ≡ Taken = sym stands ∙ h in cc
known_passes s q e stands (blocked r i) (fresh, first) = let both : Known ≡ Fresh = sym stands ∙ fresh in cc

same_event : (x e : Content) (o : Option Content) → o ≡ Some x → o ≡ Some e → x ≡ e
same_event x e o h k = cc

-- so none is refused where each passes
pub none_refused : (s : SiteEvents) (q : Quarantine) (given : List Content) (place : ℕ) → EachPassesBefore s q given place → NoneIsRefusedBefore s q given place
none_refused s q given place pass earlier reason below r = elim (pass earlier r.event below r.stands) [
  | inl known ↦ known_passes (site_before s given earlier) q r.event known reason r.refused
  | inr free ↦ free_passes (site_before s given earlier) q r.event free.0 free.1 reason r.refused
]

ended : {X : Type 0} (xs : List X) (k : ℕ) → drop k xs ≡ [] → length xs ≤ k
ended [] k is = omega arith
ended (x ∷ xs) zero is = cc
ended (x ∷ xs) (suc k) is = omega (arith, ended xs k is)

earlier_or_same : (n k : ℕ) → n < k + 1 → (n < k) ⊎ (n ≡ k)
earlier_or_same n k lt = ⊎_elim (λ below. inl below) (λ past. inr (omega (arith, lt, past))) (cases_lt n k)

module _ (s : SiteEvents) (q : Quarantine) (given : List Content) where
  -- the site now, after so many fresh and known events of the document, and the events that are left
  pub record SoFar (now : SiteEvents) (fresh known : ℕ) (rest : List Content) : Type 0 where
    pub same_site : now.me ≡ s.me
    pub front : take (length s.events) now.events ≡ s.events
    pub left : drop (fresh + known) given ≡ rest
    pub adds : adding s.events (take (fresh + known) given) ≡ Ok (record { events = now.events; fresh = fresh; known = known })
    pub passed : EachPassesBefore s q given (fresh + known)

  pub begun : SoFar s 0 0 given
  begun = record {
    same_site = refl;
    front = take_all (length s.events) s.events (omega arith);
    left = refl;
    adds = adding-stepwise s.events [] ∙ sym (counted-none (stepwise s.events [])) ∙ none_left 0 0 s.events;
    passed = λ earlier e below at. absurd (omega (arith, below));
  }

  module _ (now : SiteEvents) (f k : ℕ) (rest : List Content) (so_far : SoFar now f k rest) where
    here : site_before s given (f + k) ≡ now
    here = ap (λ (a : Addition). record s { events = a.events }) (kept_is s.events (take (f + k) given) _ so_far.adds) ∙ ap (λ (n : ℕ). record { me = n; events = now.events }) (sym so_far.same_site)

    -- when all events are captured
    pub all_captured : rest ≡ [] → IsCaptured s q given (record { events = now.events; fresh = f; known = k })
    all_captured none =
        let past : length given ≤ f + k = ended given (f + k) (so_far.left ∙ none) in
        record {
          all_pass = λ earlier e below at. so_far.passed earlier e (omega (arith, past, below)) at;
          kept = sym (kept_is s.events given _ (subst (λ es. adding s.events es ≡ Ok (record { events = now.events; fresh = f; known = k })) (take_all (f + k) given past) so_far.adds));
        }

    module _ (e : Content) (es : List Content) (next : rest ≡ e ∷ es) where
      stands : slice_get given (f + k) ≡ Some e
      stands = stands_next given (f + k) e es (so_far.left ∙ next)

      longer : (n : ℕ) → n ≡ f + k + 1 → take n given ≡ take (f + k) given ++ e ∷ []
      longer n is = ap (λ m. take m given) is ∙ taken_more given (f + k) e stands

      left_next : (n : ℕ) → n ≡ f + k + 1 → drop n given ≡ es
      left_next n is = ap (λ m. drop m given) is ∙ rest_next given (f + k) e es (so_far.left ∙ next)

      passes : (n : ℕ) → n ≡ f + k + 1 → IsPassed now q e → EachPassesBefore s q given n
      passes n is passed = λ earlier x below at. ⊎_elim
          (λ before. so_far.passed earlier x before at)
          (λ same.
          let one : e ≡ x = same_event e x (slice_get given (f + k)) stands (subst (λ m. slice_get given m ≡ Some x) same at) in
          subst (λ m. IsPassed (site_before s given m) q x) (sym same) (subst (λ y. IsPassed (site_before s given (f + k)) q y) one (subst (λ z. IsPassed z q e) (sym here) passed)))
          (earlier_or_same earlier (f + k) (omega (arith, below, is)))

      pub kept_next : (new : SiteEvents) → new ≡ record now { events = now.events ++ e ∷ [] } → standing_among now.events e ≡ Fresh → IsFree now q e → SoFar new (f + 1) k es
      kept_next new is fresh free =
          let one_more : f + 1 + k ≡ f + k + 1 = omega arith in
          subst (λ z. SoFar z (f + 1) k es) (sym is) (record {
            same_site = so_far.same_site;
            front = front_more s.events now.events e so_far.front;
            left = left_next (f + 1 + k) one_more;
            adds = ap (λ xs. adding s.events xs) (longer (f + 1 + k) one_more) ∙ adds_fresh s.events (take (f + k) given) e _ so_far.adds fresh;
            passed = passes (f + 1 + k) one_more (inr (fresh, free));
          })

      pub known_next : (new : SiteEvents) → new ≡ now → standing_among now.events e ≡ Known → SoFar new f (k + 1) es
      known_next new is known =
          let one_more : f + (k + 1) ≡ f + k + 1 = omega arith in
          subst (λ z. SoFar z f (k + 1) es) (sym is) (record {
            same_site = so_far.same_site;
            front = so_far.front;
            left = left_next (f + (k + 1)) one_more;
            adds = ap (λ xs. adding s.events xs) (longer (f + (k + 1)) one_more) ∙ adds_known s.events (take (f + k) given) e _ so_far.adds known;
            passed = passes (f + (k + 1)) one_more (inl known);
          })

      pub refused_next : (reason : Reason) → IsReason now q e reason → (n : ℕ) → n ≡ f + k + 1 → IsRefusedFirst s q given n reason
      refused_next reason h n is = (
        f + k,
        omega (arith, is),
        record {
          refused = record { event = e; stands = stands; refused = subst (λ z. IsReason z q e reason) (sym here) h };
          first = none_refused s q given (f + k) so_far.passed;
        },
      )

      pub told_refusal : (n : ℕ) → n ≡ f + k + 1 → (fault : CaptureFault) → Refuses now q e n fault → TellsRefusal s q given fault
      told_refusal n is faults.NoMemory h = tt
      told_refusal n is (faults.IdTaken event) (same, h) = refused_next taken h event (same ∙ is)
      told_refusal n is (faults.Blocked r i event) (same, h) = refused_next (blocked r i) h event (same ∙ is)

      -- an event that passes and isn't fresh is known
      pub other_next : (new : SiteEvents) (st : Standing) → Passes now q e st → (st ≡ Fresh → ⊥) → new ≡ record now { events = with_fresh now.events e st } → SoFar new f (k + 1) es
      other_next new Fresh passes other is = absurd (other refl)
      other_next new Known passes other is = known_next new is passes
      other_next new Taken passes other is = absurd passes
