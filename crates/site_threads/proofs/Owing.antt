-- The messages that were taken in a turn, by the sites that they came from.
use Rattle.std.proofs.Common.{◌≡◌, ◌≢◌, ℕ, ◌<◌, Bool, true, false, cond, nat_eq, Option, None, List, [], ◌∷◌, ◌++◌, filter, fold, length, get_or, set, refl, sym, ap, ◌∙◌, true≢false, append_assoc, append-nil, eq-eqb, ne_eqb}
use Rattle.std.proofs.lemmas.Bool.{eqb-true}
use Rattle.std.proofs.lemmas.List.{append_cancel_left, get_or-set_same, get_or-set_other}
use Rattle.std.specs.List.{last_or}
use Rattle.std.specs.Prelude.{option_and_then, slice_index_or}
use Rattle.frame_core.specs.Numbers.{Message}
use Rattle.frame_core.specs.declared.frames.Frame.{Frame}
use Rattle.wire_core.specs.Frames.{sender}
use Rattle.site_threads.specs.Offers.{message_of, owed_by, owes}
use Rattle.site_threads.specs.Passing.{OwesFor}
use Rattle.site_threads.proofs.Posting.{fold_append}

-- what is added to a list is what was added to it
pub same_added : (old new fs took : List Frame) → new ≡ old ++ fs → new ≡ old ++ took → took ≡ fs
same_added old new fs took is as' = append_cancel_left old took fs (sym as' ∙ is)

pub owes_none : (old new : List Frame) (owed : List (Option Message)) → new ≡ old → OwesFor old new owed owed
owes_none old new owed is took as' to = ap (fold (owes to) (slice_index_or owed to None)) (sym (same_added old new [] took (is ∙ sym (append-nil old)) as'))

pub owes_one : (old new : List Frame) (owed : List (Option Message)) (f : Frame) (other : ℕ) → new ≡ old ++ f ∷ [] → sender f ≡ other → other < length owed → OwesFor old new owed (set owed other (message_of f))
owes_one old new owed f other is from there took as' to =
    here ∙ ap (fold (owes to) (slice_index_or owed to None)) (sym (same_added old new (f ∷ []) took is as'))
  where
    here : slice_index_or (set owed other (message_of f)) to None ≡ owes to (slice_index_or owed to None) f
    here = elim (nat_eq to other) as (λ b. nat_eq to other ≡ b → slice_index_or (set owed other (message_of f)) to None ≡ owes to (slice_index_or owed to None) f) [
      | true ↦ λ same. let e = eqb-true to other same in
          ap (λ k. slice_index_or (set owed other (message_of f)) k None) e ∙ get_or-set_same owed other (message_of f) None there
          ∙ ap (λ (b : Bool). cond b (message_of f) (slice_index_or owed to None)) (sym (eq-eqb (sender f) to (from ∙ sym e)))
      | false ↦ λ fails. let apart : to ≢ other = λ e. true≢false (sym (eq-eqb to other e) ∙ fails) in
          get_or-set_other owed other to (message_of f) None apart
          ∙ ap (λ (b : Bool). cond b (message_of f) (slice_index_or owed to None)) (sym (ne_eqb (sender f) to (λ e. apart (sym e ∙ from))))
    ] refl

-- the last of those from a site, as they are taken one after another
owed_so_far : (to : ℕ) (last : Option Frame) (took : List Frame) → fold (owes to) (option_and_then message_of last) took ≡ option_and_then message_of (last_or last (filter (λ f. nat_eq (sender f) to) took))
owed_so_far to last [] = refl
owed_so_far to last (f ∷ fs) = elim (nat_eq (sender f) to) as (λ b. fold (owes to) (cond b (message_of f) (option_and_then message_of last)) fs ≡ option_and_then message_of (last_or last (cond b (f ∷ filter (λ g. nat_eq (sender g) to) fs) (filter (λ g. nat_eq (sender g) to) fs)))) [
  | true ↦ owed_so_far to (Rattle.std.proofs.Common.Some f) fs
  | false ↦ owed_so_far to last fs
]

pub owed_begins : (old new : List Frame) (owed : List (Option Message)) → new ≡ old → ((to : ℕ) → slice_index_or owed to None ≡ None) → (took : List Frame) → new ≡ old ++ took → (to : ℕ) → slice_index_or owed to None ≡ owed_by took to
owed_begins old new owed is none took as' to = none to ∙ ap (λ l. owed_by l to) (sym (same_added old new [] took (is ∙ sym (append-nil old)) as'))

pub owed_goes_on : (old mid new fs gs : List Frame) (owed owed' : List (Option Message)) → mid ≡ old ++ fs → new ≡ mid ++ gs → ((took : List Frame) → mid ≡ old ++ took → (to : ℕ) → slice_index_or owed to None ≡ owed_by took to) → OwesFor mid new owed owed'
    → (took : List Frame) → new ≡ old ++ took → (to : ℕ) → slice_index_or owed' to None ≡ owed_by took to
owed_goes_on old mid new fs gs owed owed' first then so_far owes' took as' to =
    owes' gs then to ∙ ap (λ o. fold (owes to) o gs) (so_far fs first to ∙ sym (owed_so_far to None fs)) ∙ sym (fold_append (owes to) None fs gs) ∙ owed_so_far to None (fs ++ gs)
    ∙ ap (λ l. owed_by l to) (sym (same_added old new (fs ++ gs) took (then ∙ ap (λ l. l ++ gs) first ∙ append_assoc old fs gs) as'))
