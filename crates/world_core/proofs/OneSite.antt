-- What a keeper's clauses say of the standing of its site.
use Rattle.std.proofs.Common.{◌≡◌, ℕ, ◌⊎◌, Bool, true, false, not, Option, Some, None, IsSome, Result, Ok, Err, List, refl, sym, ◌∙◌, ap, subst, inl, inr, ⊎_elim}
use mathlib.Core.Bool.{false≢true}
use Rattle.std.specs.Option.{option_map, is_some}
use Rattle.site_core.specs.Records.{Record}
use Rattle.site_core.specs.declared.inputs.SiteInput.{SiteInput}
use Rattle.site_core.specs.declared.outcomes.Effects.{Effects}
use Rattle.site_core.specs.declared.outcomes.Refusal.{Refusal}
use Rattle.keeper_core.specs.Keeping.{Applies, IsAfter, IsRefusedFor, Stops, StaysClosed, HindersOpening}
use Rattle.keeper_core.specs.declared.faults.Keep.{Keep}
use Rattle.keeper_core.specs.declared.faults.Keep.TheVariants.{Old, New}
use Rattle.keeper_core.specs.declared.faults.KeepFault.{KeepFault}
use Rattle.keeper_core.specs.declared.faults.KeepFault.TheVariants.{NoMemory, Refused, Device, Closed, Store}
use Rattle.world_core.specs.declared.events.Answer.{Answer}
use Rattle.world_core.specs.Worlds.{Standing, Up, Down}
use Rattle.world_core.specs.declared.events.Answer.TheVariants.{Stopped, Reopened, NotClosed, NoFrame, NoMemory as NoMemoryAnswer}
use Rattle.world_core.specs.declared.events.WorldEvent.TheVariants.{Reopen}
use Rattle.frame_core.specs.declared.frames.Frame.{Frame}
use Rattle.world_core.specs.Turns.{Stops as TurnStops, Steps, GoesDown, Reopens, ReopensTo, TurnsAt}
use Rattle.world_core.specs.Keepers.{StandsAs, ComesFrom}
use Rattle.world_core.specs.Answers.{answer_of, hindrance}

pub is_up : (shown : Option Record) → (shown ≡ None → ⊥) → (r : Record) × (shown ≡ Some r)
is_up None h = absurd (h refl)
is_up (Some r) h = (r, refl)

-- a keeper that shows a record is up with it, and with no other
up_alone : (n r : Record) (may : Record → Type 0) (new : Standing) → n ≡ r → StandsAs (Some n) may new → new ≡ Up r
up_alone n r may (Up q) e s = let s' : Some n ≡ Some q = s in ap Up (cc)
up_alone n r may (Down q) e s = let s' : Some n ≡ None = s.0 in cc

down_alone : (old : Record) (input : SiteInput) (may : Record → Type 0) (new : Standing) → ((r : Record) → may r → (r ≡ old) ⊎ IsAfter old input r) → StandsAs None may new → GoesDown old input new
down_alone old input may (Up q) h s = let s' : None ≡ Some q = s in cc
down_alone old input may (Down q) h s = ⊎_elim (λ e. inl (ap Down e)) (λ a. inr (q, a, refl)) (h q s.1)

pub steps_back : (old : Record) (input : SiteInput) (answer : Result Effects KeepFault) (shown : Option Record) (may : Record → Type 0) → Applies old input answer shown may → (new : Standing) → StandsAs shown may new → Steps old (Some input) (answer_of answer) new
steps_back old input (Ok effects) (Some n) may h new s = (n, h, up_alone n n may new refl s)
steps_back old input (Err (Refused why)) (Some n) may h new s = (h.0, up_alone n _ may new h.1 s)
steps_back old input (Err NoMemory) (Some n) may h new s = up_alone n _ may new h s
steps_back old input (Err Device) None may h new s = down_alone old input may new h s
steps_back old input (Err Store) None may h new s = down_alone old input may new h s
steps_back old input (Ok effects) None may h new s = absurd h
steps_back old input (Err (Refused why)) None may h new s = absurd h
steps_back old input (Err NoMemory) None may h new s = absurd h
steps_back old input (Err Device) (Some n) may h new s = absurd h
steps_back old input (Err Store) (Some n) may h new s = absurd h
steps_back old input (Err Closed) (Some n) may h new s = absurd h
steps_back old input (Err Closed) None may h new s = absurd h

-- the record that an open keeper shows, from what looking at it showed
pub shown_up : {X : Type 0} (f : X → Record) (lent : Option X) (shown : Option Record) (closed : Bool) → option_map f lent ≡ shown → is_some lent ≡ not closed → closed ≡ false → (r : Record) × (shown ≡ Some r)
shown_up f None shown closed e n c = absurd (false≢true (n ∙ ap not c))
shown_up f (Some x) shown closed e n c = (f x, sym e)

pub steps_found : (old : Record) (found : Option SiteInput) (input : SiteInput) (applied : Result Effects KeepFault) (answer : Answer) (shown : Option Record) (may : Record → Type 0) → found ≡ Some input → answer ≡ answer_of applied → Applies old input applied shown may → (new : Standing) → StandsAs shown may new → Steps old found answer new
steps_found old found input applied answer shown may f a h new s =
    subst (λ i. Steps old i answer new) (sym f) (subst (λ x. Steps old (Some input) x new) (sym a) (steps_back old input applied shown may h new s))

-- the same of a stop
stopped_back : (old : Record) (input : SiteInput) (keep : Keep) (failed : Type 0) (shown : Option Record) (may : Record → Type 0) → Stops old input keep failed true shown may → (new : Standing) → StandsAs shown may new → TurnStops old (Some input) keep Stopped new
stopped_back old input Old failed None may h (Up q) s = let s' : None ≡ Some q = s in cc
stopped_back old input Old failed None may h (Down q) s = ap Down (h q s.1)
stopped_back old input New failed None may h new s = down_alone old input may new (λ r m. ⊎_elim (λ a. inr a) (λ (b : (r ≡ old) × (((why : Refusal) × IsRefusedFor old input why) ⊎ failed)). inl b.0) (h r m)) s
stopped_back old input Old failed (Some n) may h new s = absurd h
stopped_back old input New failed (Some n) may h new s = absurd h

unstopped_back : (old : Record) (input : SiteInput) (keep : Keep) (failed : Type 0) (shown : Option Record) (may : Record → Type 0) → Stops old input keep failed false shown may → (new : Standing) → StandsAs shown may new → new ≡ Up old
unstopped_back old input Old failed (Some n) may h new s = up_alone n _ may new h s
unstopped_back old input New failed (Some n) may h new s = up_alone n _ may new h s
unstopped_back old input Old failed None may h new s = absurd h
unstopped_back old input New failed None may h new s = absurd h

pub stops_found : (old : Record) (found : Option SiteInput) (input : SiteInput) (keep : Keep) (failed : Type 0) (done : Bool) (shown : Option Record) (may : Record → Type 0) → found ≡ Some input → done ≡ true → Stops old input keep failed done shown may → (new : Standing) → StandsAs shown may new → TurnStops old found keep Stopped new
stops_found old found input keep failed done shown may f d h new s =
    subst (λ i. TurnStops old i keep Stopped new) (sym f) (stopped_back old input keep failed shown may (subst (λ b. Stops old input keep failed b shown may) d h) new s)

pub stop_unfound : (old : Record) (found : Option SiteInput) (input : SiteInput) (keep : Keep) (failed : Type 0) (done : Bool) (shown : Option Record) (may : Record → Type 0) → found ≡ Some input → done ≡ false → Stops old input keep failed done shown may → (new : Standing) → StandsAs shown may new → TurnStops old found keep NoMemoryAnswer new
stop_unfound old found input keep failed done shown may f d h new s =
    let e = unstopped_back old input keep failed shown may (subst (λ b. Stops old input keep failed b shown may) d h) new s in
    subst (λ i. TurnStops old i keep NoMemoryAnswer new) (sym f) (elim keep as (λ k. TurnStops old (Some input) k NoMemoryAnswer new) [ Old ↦ e | New ↦ e ])

-- a keeper that was opened
pub opened_back : (was : Option Record) (may_was : Record → Type 0) (shown : Option Record) (may : Record → Type 0) → was ≡ None → (r : Record) × may_was r × (shown ≡ Some r) → (new : Standing) → StandsAs shown may new → (old : Standing) × StandsAs was may_was old × ReopensTo old Reopened new
opened_back was may_was shown may closed h new s = (Down h.0, (closed, h.1), up_alone h.0 h.0 may new refl (subst (λ o. StandsAs o may new) h.2 s))

-- to open an open keeper changes nothing
pub not_closed : {X : Type 0} (f : X → Record) (lent : Option X) (shown : Option Record) (may : Record → Type 0) (found : Bool) (sent : List Frame) (site : ℕ) → option_map f lent ≡ shown → found ≡ is_some lent → found ≡ true
    → ComesFrom (StandsAs shown may) (StandsAs shown may) (λ old new. TurnsAt old sent (Reopen site) NotClosed new sent)
not_closed f None shown may found sent site e n t new s = absurd (false≢true (sym n ∙ t))
not_closed f (Some x) shown may found sent site e n t (Up q) s = (Up q, s, (refl, refl, refl))
not_closed f (Some x) shown may found sent site e n t (Down q) s = let o : Some (f x) ≡ None = e ∙ s.0 in cc

-- a closed keeper is down
pub was_closed : {X : Type 0} (f : X → Record) (lent : Option X) (shown : Option Record) (found : Bool) → option_map f lent ≡ shown → found ≡ is_some lent → found ≡ false → shown ≡ None
was_closed f None shown found e n t = sym e
was_closed f (Some x) shown found e n t = absurd (false≢true (sym t ∙ n))

-- the turn of a site that is opened
pub reopens_turn : (was : Option Record) (may_was : Record → Type 0) (shown : Option Record) (may : Record → Type 0) (sent : List Frame) (site : ℕ) (answer : Answer) → ComesFrom (StandsAs was may_was) (StandsAs shown may) (λ old new. ReopensTo old answer new)
    → ComesFrom (StandsAs was may_was) (StandsAs shown may) (λ old new. TurnsAt old sent (Reopen site) answer new sent)
reopens_turn was may_was shown may sent site answer h new s =
    let c = h new s in
    let P : Standing → Type 0 = λ old. StandsAs was may_was old → ReopensTo old answer new → (o : Standing) × StandsAs was may_was o × TurnsAt o sent (Reopen site) answer new sent in
    (elim c.0 as P [ Up q ↦ λ _ r. absurd r | Down q ↦ λ b r. (Down q, b, (r, refl)) ]) c.1 c.2

-- a keeper that was not opened
stays_down : (fault : KeepFault) (q : Record) → HindersOpening fault → Reopens q (hindrance fault) (Down q)
stays_down NoMemory q h = refl
stays_down Device q h = refl
stays_down Store q h = refl
stays_down (Refused why) q h = absurd h
stays_down Closed q h = absurd h

pub unopened_back : (was : Option Record) (may_was : Record → Type 0) (shown : Option Record) (may : Record → Type 0) (fault : KeepFault) (answer : Answer) → was ≡ None → answer ≡ hindrance fault → HindersOpening fault × StaysClosed may_was shown may
    → ComesFrom (StandsAs was may_was) (StandsAs shown may) (λ old new. ReopensTo old answer new)
unopened_back was may_was shown may fault answer closed a h (Up q) s = let n : None ≡ Some q = sym h.1.0 ∙ s in cc
unopened_back was may_was shown may fault answer closed a h (Down q) s =
    (Down q, (closed, h.1.1 q s.1), subst (λ x. Reopens q x (Down q)) (sym a) (stays_down fault q h.0))

-- ---- a keeper that stays as it is

pub stays_up : (shown : Option Record) (may : Record → Type 0) (P : Standing → Standing → Type 0) (r : Record) → shown ≡ Some r → P (Up r) (Up r) → ComesFrom (StandsAs shown may) (StandsAs shown may) P
stays_up shown may P r e p (Up q) s =
    let o : Some r ≡ Some q = sym e ∙ s in
    let same : r ≡ q = cc in
    (Up r, e, subst (λ x. P (Up r) (Up x)) same p)
stays_up shown may P r e p (Down q) s = let o : Some r ≡ None = sym e ∙ s.0 in cc

pub stays_closed : (shown : Option Record) (may : Record → Type 0) (P : Standing → Standing → Type 0) → shown ≡ None → ((q : Record) → P (Down q) (Down q)) → ComesFrom (StandsAs shown may) (StandsAs shown may) P
stays_closed shown may P e p (Up q) s = let o : None ≡ Some q = sym e ∙ s in cc
stays_closed shown may P e p (Down q) s = (Down q, s, p q)

-- a keeper that shows none, from what looking at it showed
pub shown_none : {X : Type 0} (f : X → Record) (lent : Option X) (shown : Option Record) (closed : Bool) → option_map f lent ≡ shown → is_some lent ≡ not closed → closed ≡ true → shown ≡ None
shown_none f None shown closed e n c = sym e
shown_none f (Some x) shown closed e n c = absurd (false≢true (sym (n ∙ ap not c)))

pub step_without_memory : (old : Record) (found : Option SiteInput) → IsSome found → Steps old found NoMemoryAnswer (Up old)
step_without_memory old None some = absurd (false≢true some)
step_without_memory old (Some input) some = refl

pub stop_without_memory : (old : Record) (found : Option SiteInput) (keep : Keep) → IsSome found → TurnStops old found keep NoMemoryAnswer (Up old)
stop_without_memory old None keep some = absurd (false≢true some)
stop_without_memory old (Some input) Old some = refl
stop_without_memory old (Some input) New some = refl

pub step_without_frame : (old : Record) (found : Option SiteInput) → found ≡ None → Steps old found NoFrame (Up old)
step_without_frame old found e = subst (λ f. Steps old f NoFrame (Up old)) (sym e) refl

pub stop_without_frame : (old : Record) (found : Option SiteInput) (keep : Keep) → found ≡ None → TurnStops old found keep NoFrame (Up old)
stop_without_frame old found keep e = subst (λ f. TurnStops old f keep NoFrame (Up old)) (sym e) (elim keep as (λ k. TurnStops old None k NoFrame (Up old)) [ Old ↦ refl | New ↦ refl ])
