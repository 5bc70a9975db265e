-- A record that a step changes in place, and the record after a step that failed.
use Rattle.std.proofs.Common.{◌≡◌, ℕ, ◌+◌, ◌-◌, ◌^◌, Bool, true, false, None, Some, Result, Ok, Err, IfOk, IfErr, inl, inr, refl, sym, ap, subst, ◌∙◌, ⊎_elim}
use Rattle.std.specs.Prelude.{IsTrue, min, if◌then◌else◌, ◌↔◌}
use Rattle.std.proofs.lemmas.Option.{same_Some}
use Rattle.sqlite.specs.State.{State}
use Rattle.sqlite.specs.declared.error.Error.{Error}
use Rattle.frame_core.specs.declared.frames.Frame.TheVariants as frames
use Rattle.frame_core.specs.declared.rows.Row.{Row}
use Rattle.frame_core.specs.Numbers.{Message}
use Rattle.site_core.specs.Records.{Record}
use Rattle.site_core.specs.StepLaws.{DoneIsNotRefused, EffectsAreFixed}
use Rattle.site_core.specs.Steps.{Does, Refuses, TakesMemory, CopiesRecord, HasRow, changes}
use Rattle.site_core.specs.declared.inputs.SiteInput.{SiteInput}
use Rattle.site_core.specs.declared.inputs.SiteInput.TheVariants.{Deliver}
use Rattle.site_core.specs.declared.outcomes.Effects.{Effects}
use Rattle.site_core.specs.declared.outcomes.Effects.TheVariants as effects
use Rattle.site_core.specs.declared.outcomes.Refusal.{Refusal}
use Rattle.site_core.specs.declared.outcomes.Refusal.TheVariants as refusals
use Rattle.keeper_core.specs.Keeping.{IsAfter}
use Rattle.site_rows.specs.Laws.{HoldsItems, IsKept, SignalsKeepItems}
use Rattle.site_rows.specs.RecordRows.{rows_of}
use Rattle.site_rows.specs.declared.rows.Rows.{Rows}
use Rattle.site_store.specs.Findable.{MayBeFound}
use Rattle.site_store.specs.Standing.{Standing, alone, AreFound, StandsIn, IsNextOf}
use Rattle.site_store.specs.StepTried.{StepsTo}
use Rattle.site_store.specs.StepWritten.{LeavesAny, LeavesOneOf, AreStatements, IsCounted}
use Rattle.site_store.specs.declared.writing.Unwritten.{Unwritten}
use Rattle.site_store.specs.declared.writing.Unwritten.TheVariants.{NoMemory, Failed}

-- ---- the record after a step that failed

pub next_done : EffectsAreFixed → (s : Standing) (input : SiteInput) (told : Effects) (next : Record) → s.pending ≡ Some input → Does s.state input told next → IsNextOf s (Some next)
next_done fixed s input told next is does = (
  (input, is, (told, does)),
  λ r w.
      let same : w.0 ≡ input = same_Some w.0 input (sym w.1 ∙ is) in
      (fixed s.state r next input w.2.0 told (subst (λ i. Does s.state i w.2.0 r) same w.2.1) does).1,
)

-- ---- what an opening finds

pub found_alone : (r : Record) → MayBeFound r → AreFound (alone r)
found_alone r found s (inl is) = subst MayBeFound (sym is) found
found_alone r found s (inr w) = absurd (let none : None ≡ Some w.0 = w.1 in cc)

pub found_pending : (r : Record) (input : SiteInput) → MayBeFound r → ((next : Record) → IsAfter r input next → MayBeFound next) → AreFound (record { state = r; pending = Some input })
found_pending r input found after s (inl is) = subst MayBeFound (sym is) found
found_pending r input found after s (inr w) = after s (subst (λ i. IsAfter r i s) (sym (same_Some input w.0 w.1)) w.2)

-- an input leads to one record
pub found_after : EffectsAreFixed → (r next : Record) (input : SiteInput) (told : Effects) → Does r input told next → MayBeFound next → (s : Record) → IsAfter r input s → MayBeFound s
found_after fixed r next input told does found s after = subst MayBeFound (fixed r next s input told after.0 does after.1).1 found

-- a signal leads to one that is found
pub found_signalled : SignalsKeepItems → (r : Record) (input : SiteInput) (m : Message) → ((by : ℕ) × (input ≡ Deliver (frames.Signal m by))) → MayBeFound r → (next : Record) → IsAfter r input next → MayBeFound next
found_signalled keep r input m signal found next after =
    let it = keep r next m signal.0 after.0 (subst (λ i. Does r i after.0 next) signal.1 after.1) found.kept found.items in
    record { kept = it.0; items = it.1 }

-- so does a step whose changes were made, as they were unless there was no memory for them
pub found_made : {X E : Type 0} (changes : Result X E) (written : Result ℕ Unwritten) (new : Record) → IfErr changes (λ _. written ≡ Err NoMemory) → (written ≡ Err NoMemory → ⊥)
    → IfOk changes (λ _. IsKept new × HoldsItems new) → MayBeFound new
found_made (Ok made) written new none some it = record { kept = it.0; items = it.1 }
found_made (Err why) written new none some it = absurd (some none)

-- what is written, or fails for another reason, isn't for want of memory
pub written_is_not : (written : Result ℕ Unwritten) (rows : ℕ) → written ≡ Ok rows → written ≡ Err NoMemory → ⊥
written_is_not written rows is none = absurd (let e : Ok rows ≡ Err NoMemory = sym is ∙ none in cc)

pub failed_is_not : (written : Result ℕ Unwritten) (error : Error) → written ≡ Err (Failed error) → written ≡ Err NoMemory → ⊥
failed_is_not written error is none = absurd (let e : Err (Failed error) ≡ Err NoMemory = sym is ∙ none in cc)

-- ---- what a step leaves

-- one whose rows are written
pub written_steps : (old new : Standing) (input : SiteInput) (told : Effects) (written statements : ℕ) → changes told ≡ true → Does old.state input told new.state → IsCounted old.state told new.state written
    → statements ≡ min (written + 2) (2 ^ 64 - 1) → StepsTo old input (Ok (told, statements)) new
written_steps old new input told written statements is does counted sum = (does, subst (λ b. AreStatements b old.state told new.state statements) (sym is) (written, counted, sum))

-- one that failed
pub leaves_pending : (old new : Standing) (input : SiteInput) (next : Record) (s : State) → IsAfter old.state input next → new ≡ record old { pending = Some input } → LeavesOneOf old.state next s → LeavesAny (StandsIn new) s
leaves_pending old new input next s after is leaves db may =
    let state : new.state ≡ old.state = ap (λ (x : Standing). x.state) is in
    ⊎_elim (λ h. (old.state, inl (sym state), h))
    (λ h. (next, inr (input, ap (λ (x : Standing). x.pending) is, subst (λ x. IsAfter x input next) (sym state) after), h)) (leaves db may)

-- ---- a signal that was foreseen

signal_done : EffectsAreFixed → DoneIsNotRefused → (old next new : Record) (input : SiteInput) (told : Effects) (m : Message) → ((by : ℕ) × (input ≡ Deliver (frames.Signal m by))) → Does old input told next
    → (result : Result Effects Refusal) → IfOk result (λ e. Does old input e new) → IfErr result (Refuses old input) → (result ≡ Err refusals.NoMemory → TakesMemory old input) → Does old input told new
signal_done fixed not_both old next new input told m signal does (Ok e) done refused memory = subst (λ x. Does old input x new) (fixed old new next input e told done does).0 done
signal_done fixed not_both old next new input told m signal does (Err why) done refused memory =
    let is : why ≡ refusals.NoMemory = not_both old next input told why does refused in
    absurd (subst (TakesMemory old) signal.1 (memory (ap (λ w. Err w) is)))

-- what it was foreseen to do
pub foreseen : (s : Record) (input : SiteInput) (m : Message) (told : Effects) → ((by : ℕ) × (input ≡ Deliver (frames.Signal m by))) → CopiesRecord s input
    → ((by : ℕ) (row : Row) → HasRow s m row → row.dest ≡ by → (t : Record) × Does s (Deliver (frames.Signal m by)) told t) → (t : Record) × Does s input told t
foreseen s input m told signal copies finds =
    let row = subst (CopiesRecord s) signal.1 copies in
    let it = finds signal.0 row.0 row.1 row.2 in
    (it.0, subst (λ i. Does s i told it.0) (sym signal.1) it.1)

-- the signal of a message that stands changes the record
clearing_changes : (s t : Record) (m : Message) (by : ℕ) (row : Row) (told : Effects) → HasRow s m row → Does s (Deliver (frames.Signal m by)) told t → changes told ≡ true
clearing_changes s t m by row effects.Cleared has does = refl
clearing_changes s t m by row (effects.ParentDue parent) has does = refl
clearing_changes s t m by row (effects.Ended recall) has does = refl
clearing_changes s t m by row effects.Stale has does = absurd (let e : None ≡ Some row = sym does.0.gone ∙ has.stands in cc)
clearing_changes s t m by row effects.Repeat has does = absurd does
clearing_changes s t m by row (effects.Captured fresh known skipped) has does = absurd does
clearing_changes s t m by row (effects.Started recall quarantined numbered ended) has does = absurd does
clearing_changes s t m by row (effects.Received quarantined numbered owed) has does = absurd does

module _ (s : Record) (input : SiteInput) (m : Message) (told : Effects) (signal : (by : ℕ) × (input ≡ Deliver (frames.Signal m by))) (copies : CopiesRecord s input)
    (finds : (by : ℕ) (row : Row) → HasRow s m row → row.dest ≡ by → (t : Record) × Does s (Deliver (frames.Signal m by)) told t) where
  -- the record that it leads to
  abbrev pub next_of : Record
  next_of = (foreseen s input m told signal copies finds).0

  pub next_does : Does s input told next_of
  next_does = (foreseen s input m told signal copies finds).1

  pub as_signal : (t : Record) → Does s input told t → Does s (Deliver (frames.Signal m signal.0)) told t
  as_signal t does = subst (λ i. Does s i told t) signal.1 does

  pub does_change : changes told ≡ true
  does_change =
      let row = subst (CopiesRecord s) signal.1 copies in
      clearing_changes s next_of m signal.0 row.0 told row.1 (as_signal next_of next_does)

  -- and that it leads to once its rows are written
  pub done_as_foreseen : EffectsAreFixed → DoneIsNotRefused → (new : Record) (result : Result Effects Refusal) → IfOk result (λ e. Does s input e new) → IfErr result (Refuses s input) → (result ≡ Err refusals.NoMemory → TakesMemory s input)
      → Does s input told new
  done_as_foreseen fixed not_both new result done refused memory = signal_done fixed not_both s next_of new input told m signal next_does result done refused memory

pub not_idle : (b : Bool) → b ≡ true → IsTrue (if b then false else true) → ⊥
not_idle true is idle = absurd (let e : false ≡ true = idle in cc)
not_idle false is idle = absurd (let e : false ≡ true = is in cc)

-- ---- which record has the rows of the tables

old_has_others : (rows : Rows) (s : Standing) (same : Bool) (seen : Record) → seen ≡ s.state → same ≡ false → (IsTrue same ↔ (rows ≡ rows_of seen)) → (r : Record) → r ≡ s.state → rows ≡ rows_of r → ⊥
old_has_others rows s same seen seen_is other tells r is are =
    let yes : same ≡ true = tells.1 (are ∙ ap rows_of (is ∙ sym seen_is)) in
    absurd (let e : false ≡ true = sym other ∙ yes in cc)

pub none_has : (rows : Rows) (s : Standing) (same : Bool) (seen : Record) → seen ≡ s.state → same ≡ false → (IsTrue same ↔ (rows ≡ rows_of seen)) → IsNextOf s None → (r : Record) → StandsIn s r → rows ≡ rows_of r → ⊥
none_has rows s same seen seen_is other tells none r (inl is) are = old_has_others rows s same seen seen_is other tells r is are
none_has rows s same seen seen_is other tells none r (inr w) are = none r w

pub neither_has : (rows : Rows) (s : Standing) (same : Bool) (seen next : Record) → seen ≡ s.state → same ≡ false → (IsTrue same ↔ (rows ≡ rows_of seen)) → IsNextOf s (Some next) → (rows ≡ rows_of next → ⊥) → (r : Record) → StandsIn s r → rows ≡ rows_of r → ⊥
neither_has rows s same seen next seen_is other tells is_next not r (inl is) are = old_has_others rows s same seen seen_is other tells r is are
neither_has rows s same seen next seen_is other tells is_next not r (inr w) are = not (are ∙ ap rows_of (is_next.1 r w))
