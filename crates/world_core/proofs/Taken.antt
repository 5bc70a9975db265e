-- A message that is for a site, wasn't seen and finds numbers is taken; a signal whose row stands clears it.
use Rattle.std.proofs.Common.{◌≡◌, ◌≢◌, inl, inr, ℕ, List, Some, None, refl, sym, ap, ◌∙◌, subst, true≢false, not-le_of_lt}
use Rattle.std.specs.Prelude.{is_some}
use Rattle.std.specs.FinMap.{get}
use Rattle.frame_core.specs.Numbers.{Recall, Message}
use Rattle.frame_core.specs.declared.frames.Frame.TheVariants as frames
use Rattle.frame_core.specs.declared.rows.Row.{Row}
use Rattle.scholten_core.specs.declared.outcomes.Signalled.{Signalled}
use Rattle.site_core.specs.Records.{Record}
use Rattle.site_core.specs.StepLaws.{ClearsFor}
use Rattle.site_core.specs.Steps.{Does, Refuses, IsForSite, IsOwnMessage}
use Rattle.site_core.specs.Ways.{ClearsRow, TakesMessage}
use Rattle.site_core.specs.declared.inputs.SiteInput.TheVariants.{Deliver}
use Rattle.site_core.specs.declared.outcomes.Effects.{Effects}
use Rattle.site_core.specs.declared.outcomes.Effects.TheVariants as effects
use Rattle.site_core.specs.declared.outcomes.Refusal.{Refusal}
use Rattle.site_core.specs.declared.outcomes.Refusal.TheVariants as refusals
use Rattle.site_core.proofs.Clearings.{signals_clear}
use Rattle.site_core.proofs.InputOutcomes.{inputs_have_an_outcome}
use Rattle.site_core.proofs.Takings.{messages_are_taken}
use Rattle.world_core.specs.EndingLaws.{HasNumbersFor}
use Rattle.world_core.proofs.FreeNumbers.{enough_to_take}

pub record IsTaken (s : Record) (m : Message) (dest : ℕ) (r : Recall) (i : List ℕ) : Type 0 where
  pub effects_told : Effects
  pub after : Record
  pub does : Does s (Deliver (frames.Recall m dest r i)) effects_told after
  pub takes : TakesMessage s after m r i

module _ (s : Record) (m : Message) (dest : ℕ) (r : Recall) (i : List ℕ) (mine : IsForSite s m dest r) (unseen : get s.engagement.seen m ≡ None) (numbers : HasNumbersFor r s) where
  message_done : (e : Effects) (t : Record) → Does s (Deliver (frames.Recall m dest r i)) e t → IsTaken s m dest r i
  message_done (effects.Received quarantined numbered owed) t does =
      record { effects_told = effects.Received quarantined numbered owed; after = t; does = does; takes = (messages_are_taken s t m dest r i quarantined numbered owed does).1 }
  message_done effects.Repeat t does = absurd (true≢false (sym does.0.seen ∙ ap is_some unseen))
  message_done other t does = absurd does

  message_refused : (why : Refusal) → why ≢ refusals.NoMemory → Refuses s (Deliver (frames.Recall m dest r i)) why → ⊥
  message_refused refusals.NoMemory other h = other refl
  message_refused refusals.NotMine other h = h mine
  message_refused refusals.NumbersSpent other h = not-le_of_lt h.spent (enough_to_take s m dest r i h.new h.out h.may numbers)
  message_refused why other h = h

  pub message_taken : IsTaken s m dest r i
  message_taken = elim (inputs_have_an_outcome s (Deliver (frames.Recall m dest r i))) as (λ _. IsTaken s m dest r i) [
    | inl done ↦ message_done done.0 done.1 done.2
    | inr refused ↦ absurd (message_refused refused.0 refused.1 refused.2)
  ]

pub record IsCleared (s : Record) (m : Message) (by : ℕ) (x : Row) : Type 0 where
  pub effects_told : Effects
  pub after : Record
  pub does : Does s (Deliver (frames.Signal m by)) effects_told after
  pub clears : ClearsRow s after m.number x

module _ (s : Record) (m : Message) (by : ℕ) (x : Row) (mine : IsOwnMessage s m) (stands : get s.engagement.outbox m.number ≡ Some x) (signer : x.dest ≡ by) where
  the_row : (t : Record) (answer : Signalled) → ClearsFor s t m by answer → ClearsRow s t m.number x
  the_row t answer c =
      let same : Some c.row ≡ Some x = sym c.clears.clears.was ∙ stands in
      let row : c.row ≡ x = cc in
      subst (ClearsRow s t m.number) row c.clears

  signal_done : (e : Effects) (t : Record) → Does s (Deliver (frames.Signal m by)) e t → IsCleared s m by x
  signal_done effects.Stale t does = absurd (let twice : None ≡ Some x = sym does.0.gone ∙ stands in cc)
  signal_done effects.Cleared t does = record { effects_told = effects.Cleared; after = t; does = does; clears = the_row t _ ((signals_clear s t m by).0 does) }
  signal_done (effects.ParentDue parent) t does = record { effects_told = effects.ParentDue parent; after = t; does = does; clears = the_row t _ ((signals_clear s t m by).1 parent does) }
  signal_done (effects.Ended recall) t does = record { effects_told = effects.Ended recall; after = t; does = does; clears = the_row t _ ((signals_clear s t m by).2 recall does) }
  signal_done other t does = absurd does

  signal_refused : (why : Refusal) → why ≢ refusals.NoMemory → Refuses s (Deliver (frames.Signal m by)) why → ⊥
  signal_refused refusals.NoMemory other h = other refl
  signal_refused refusals.NotMine other h = elim h as (λ _. ⊥) [
    | inl foreign ↦ foreign mine
    | inr differs ↦
        let same : Some differs.0 ≡ Some x = sym differs.1.stands ∙ stands in
        let row : differs.0 ≡ x = cc in
        differs.2 (ap (λ (y : Row). y.dest) row ∙ signer)
  ]
  signal_refused why other h = h

  pub signal_clears : IsCleared s m by x
  signal_clears = elim (inputs_have_an_outcome s (Deliver (frames.Signal m by))) as (λ _. IsCleared s m by x) [
    | inl done ↦ signal_done done.0 done.1 done.2
    | inr refused ↦ absurd (signal_refused refused.0 refused.1 refused.2)
  ]
