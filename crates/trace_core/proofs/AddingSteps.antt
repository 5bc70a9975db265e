-- One event of a document after another.
use Rattle.std.proofs.Common.{◌≡◌, ℕ, suc, ◌+◌, List, [], ◌∷◌, ◌++◌, Result, Ok, Err, length, take, ◌≤◌, refl, sym, ap, ◌∙◌, zero-add, arith}
use Rattle.std.proofs.lemmas.List.{take-append-le, length-take}
use Rattle.event_json.specs.Events.{Content}
use Rattle.trace_core.specs.declared.adding.Standing.TheVariants.{Fresh, Known, Taken}
use Rattle.trace_core.specs.declared.adding.Standing.{Standing}
use Rattle.trace_core.specs.Adding.{standing_among, Addition}

-- what follows a fresh event, a known event, and an event that isn't refused
abbrev pub after_fresh : Addition → Addition
after_fresh a = record a { fresh = suc a.fresh }

abbrev pub after_known : Addition → Addition
after_known a = record a { known = suc a.known }

abbrev pub then_with : (Addition → Addition) → Result Addition ℕ → Result Addition ℕ
then_with f (Ok a) = Ok (f a)
then_with f (Err place) = Err (suc place)

-- adding a document event by event, each judged by those that were kept so far
unfoldable pub stepwise : List Content → List Content → Result Addition ℕ
stepwise so_far [] = Ok (record { events = so_far; fresh = 0; known = 0 })
stepwise so_far (e ∷ es) = decided (standing_among so_far e) (stepwise (so_far ++ e ∷ []) es) (stepwise so_far es) where
  decided : Standing → Result Addition ℕ → Result Addition ℕ → Result Addition ℕ
  decided Fresh kept passed = then_with after_fresh kept
  decided Known kept passed = then_with after_known passed
  decided Taken kept passed = Err 1

-- what stepwise the rest makes, after so many fresh and known events
abbrev pub counted_on : ℕ → ℕ → Result Addition ℕ → Result Addition ℕ
counted_on f k (Ok a) = Ok (record { events = a.events; fresh = f + a.fresh; known = k + a.known })
counted_on f k (Err place) = Err (f + k + place)

on_fresh : (f k : ℕ) (r : Result Addition ℕ) → counted_on f k (then_with after_fresh r) ≡ counted_on (f + 1) k r
on_fresh f k (Ok a) = let e : f + suc a.fresh ≡ f + 1 + a.fresh = omega arith in rw e
on_fresh f k (Err n) = let e : f + k + suc n ≡ f + 1 + k + n = omega arith in rw e

on_known : (f k : ℕ) (r : Result Addition ℕ) → counted_on f k (then_with after_known r) ≡ counted_on f (k + 1) r
on_known f k (Ok a) = let e : k + suc a.known ≡ k + 1 + a.known = omega arith in rw e
on_known f k (Err n) = let e : f + k + suc n ≡ f + (k + 1) + n = omega arith in rw e

module _ (events : List Content) (e : Content) (es : List Content) where
  pub stepwise-fresh : standing_among events e ≡ Fresh → stepwise events (e ∷ es) ≡ then_with after_fresh (stepwise (events ++ e ∷ []) es)
  unfolding stepwise
  stepwise-fresh h = rw h

  pub stepwise-known : standing_among events e ≡ Known → stepwise events (e ∷ es) ≡ then_with after_known (stepwise events es)
  unfolding stepwise
  stepwise-known h = rw h

  pub stepwise-taken : standing_among events e ≡ Taken → stepwise events (e ∷ es) ≡ Err 1
  unfolding stepwise
  stepwise-taken h = rw h

module _ (f k : ℕ) (events : List Content) (e : Content) (es : List Content) where
  pub fresh_step : standing_among events e ≡ Fresh → counted_on f k (stepwise events (e ∷ es)) ≡ counted_on (f + 1) k (stepwise (events ++ e ∷ []) es)
  unfolding stepwise
  fresh_step h = rw h (on_fresh f k (stepwise (events ++ e ∷ []) es))

  pub known_step : standing_among events e ≡ Known → counted_on f k (stepwise events (e ∷ es)) ≡ counted_on f (k + 1) (stepwise events es)
  unfolding stepwise
  known_step h = rw h (on_known f k (stepwise events es))

  pub taken_step : standing_among events e ≡ Taken → counted_on f k (stepwise events (e ∷ es)) ≡ Err (f + k + 1)
  unfolding stepwise
  taken_step h = rw h refl

pub none_left : (f k : ℕ) (events : List Content) → counted_on f k (stepwise events []) ≡ Ok (record { events = events; fresh = f; known = k })
unfolding stepwise
none_left f k events = let e : f + 0 ≡ f = omega arith in let d : k + 0 ≡ k = omega arith in rw (e, d)

-- from nothing counted
pub counted-none : (r : Result Addition ℕ) → counted_on 0 0 r ≡ r
counted-none (Ok a) = rw (zero-add a.fresh, zero-add a.known) refl
counted-none (Err n) = rw (zero-add n) refl

module _ (f k : ℕ) (events items : List Content) (e : Content) (es : List Content) (total : Result Addition ℕ)
    (next : items ≡ e ∷ es) (so_far : counted_on f k (stepwise events items) ≡ total) where
  pub told_fresh : (new : List Content) → new ≡ events ++ e ∷ [] → standing_among events e ≡ Fresh → counted_on (f + 1) k (stepwise new es) ≡ total
  told_fresh new pushed h = rw pushed (sym (fresh_step f k events e es h) ∙ ap (λ xs. counted_on f k (stepwise events xs)) (sym next) ∙ so_far)

  pub told_known : standing_among events e ≡ Known → counted_on f (k + 1) (stepwise events es) ≡ total
  told_known h = sym (known_step f k events e es h) ∙ ap (λ xs. counted_on f k (stepwise events xs)) (sym next) ∙ so_far

  pub told_taken : standing_among events e ≡ Taken → total ≡ Err (f + k + 1)
  told_taken h = sym so_far ∙ ap (λ xs. counted_on f k (stepwise events xs)) next ∙ taken_step f k events e es h

-- at the end of the document
pub told_end : (f k : ℕ) (events items : List Content) (total : Result Addition ℕ) → items ≡ [] → counted_on f k (stepwise events items) ≡ total → total ≡ Ok (record { events = events; fresh = f; known = k })
told_end f k events items total none so_far = sym so_far ∙ ap (λ xs. counted_on f k (stepwise events xs)) none ∙ none_left f k events

-- what stood in front stays there
pub front_more : {X : Type 0} (old xs : List X) (x : X) → take (length old) xs ≡ old → take (length old) (xs ++ x ∷ []) ≡ old
front_more old xs x h = let enough : length old ≤ length xs = omega (arith, ap length h, length-take (length old) xs) in rw (take-append-le (length old) xs (x ∷ []) enough) h
