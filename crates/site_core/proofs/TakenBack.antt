-- A step that is taken back leaves the record before it.
use Rattle.std.proofs.Common.{◌≡◌, inl, inr, ℕ, ◌-◌, Bool, false, take, length, List, [], ◌∷◌, Option, Some, None, refl, sym, ap, subst, ◌∙◌, arith}
use Rattle.std.specs.Prelude.{⊤, IsTrue, IsSome}
use Rattle.std.specs.FinMap.{get}
use Rattle.std.specs.List.{Contains}
use Rattle.std.specs.List.Sorted.{IsStrictlySortedBy}
use Rattle.std.specs.declared.cmp.Ordering.TheVariants.{Less, Equal}
use Rattle.std.proofs.lemmas.Bool.{false_from_ne_true}
use Rattle.std.proofs.lemmas.Cmp.{tied_itself}
use Rattle.std.proofs.Math.Seq.{take-append_seam}
use Rattle.event_json.specs.Events.{Content}
use Rattle.frame_core.specs.declared.frames.Frame.{Frame}
use Rattle.frame_core.specs.declared.frames.Frame.TheVariants as frames
use Rattle.frame_core.specs.declared.rows.Row.{Row}
use Rattle.frame_core.specs.Numbers.{Recall, Message}
use Rattle.scholten_core.specs.Changes.{next_own, begun, signalled}
use Rattle.scholten_core.specs.Engagement.{Engagement}
use Rattle.scholten_core.specs.Replies.{TellsCleared}
use Rattle.scholten_core.specs.declared.outcomes.Received.{Received}
use Rattle.scholten_core.specs.declared.outcomes.Signalled.{Signalled}
use Rattle.scholten_core.specs.declared.outcomes.Signalled.TheVariants as signals
use Rattle.scholten_core.proofs.Clearing.{standing_is_cleared}
use Rattle.trace_core.specs.Adding.{Addition}
use Rattle.trace_core.specs.Sites.{SiteEvents}
use Rattle.trace_core.proofs.Members.{contains_here, contains_there}
use Rattle.site_core.specs.declared.inputs.SiteInput.{SiteInput}
use Rattle.site_core.specs.declared.inputs.SiteInput.TheVariants.{Capture, Start, Deliver}
use Rattle.site_core.specs.declared.outcomes.Effects.{Effects}
use Rattle.site_core.specs.declared.outcomes.Effects.TheVariants as effects
use Rattle.site_core.specs.declared.undoing.StepUndo.{StepUndo}
use Rattle.site_core.specs.Capturing.{IsCaptured}
use Rattle.site_core.specs.Holding.{without_item, without_items}
use Rattle.site_core.specs.Quarantines.{Quarantine, item_cmp, held, with_item, with_items, HasNoEmptySet}
use Rattle.site_core.specs.Records.{Record}
use Rattle.site_core.specs.Spreading.{AreNewlyHeld}
use Rattle.site_core.specs.Steps.{Does, HasRow, changes}
use Rattle.site_core.specs.Told.{told_signal}
use Rattle.site_core.specs.Undoing.{IsSignal, MayNumber, NewlyHeldBy, NewlyHeldOnce, IsUndoOf, CapturedFrom, StartedFrom, ReceivedFrom, TookFrom, TookFrame}
use Rattle.site_core.proofs.Ascending.{head_below, tail_ascends}
use Rattle.site_core.proofs.Held.{no_empty_with, released_again}
use Rattle.site_core.proofs.HeldLaws.{held_one}
use Rattle.site_core.proofs.ItemOrder.{item_total}
use Rattle.site_core.proofs.SameLists.{same_newly}
use Rattle.site_core.proofs.Taking.{cleared}

-- New items that come under a recall are taken away again.

-- each of the items is new where those before it are held
Fresh : Quarantine → Recall → List (List ℕ) → Type 0
Fresh q r [] = ⊤
Fresh q r (i ∷ items) = (held q r i ≡ false) × Fresh (with_item q r i) r items

released : (q : Quarantine) (r : Recall) (items : List (List ℕ)) → HasNoEmptySet q → Fresh q r items → without_items (with_items q r items) r items ≡ q
unfolding Fresh
released q r [] full fresh = refl
released q r (i ∷ items) full fresh =
    ap (λ p. without_item p r i) (released (with_item q r i) r items (no_empty_with q r i full) fresh.1) ∙ released_again q r i full fresh.0

ascending_fresh : (q : Quarantine) (r : Recall) (items : List (List ℕ)) → IsStrictlySortedBy item_cmp items
    → ((j : List ℕ) → Contains items j → IsTrue (held q r j) → ⊥) → Fresh q r items
unfolding Fresh
ascending_fresh q r [] up none = tt
ascending_fresh q r (i ∷ items) up none = (
  false_from_ne_true (held q r i) (none i (contains_here i items)),
  ascending_fresh (with_item q r i) r items (tail_ascends item_cmp i items up) (λ j there is. elim ((held_one q r i r j).0 is) [
    | inl at ↦
        let below : item_cmp i j ≡ Less = head_below item_cmp i items up j there in
        let tie : item_cmp i j ≡ Equal = subst (λ k. item_cmp i k ≡ Equal) (sym at.1) (tied_itself item_total i) in
        cc
    | inr before ↦ none j (contains_there i j items there) before
  ]),
)

pub newly_released : (s : SiteEvents) (q : Quarantine) (r : Recall) (i : List ℕ) (items : List (List ℕ)) → HasNoEmptySet q → AreNewlyHeld s q r i items
    → without_items (with_items q r items) r items ≡ q
newly_released s q r i items full newly = released q r items full (ascending_fresh q r items newly.ascending (λ j there is. ((newly.exact j).0 there).1 is))

-- What is left is the record before.

pub captured_back : (old now : Record) (n : ℕ) (events : SiteEvents) → CapturedFrom old now n → events ≡ record now.captured { events = take n now.captured.events }
    → record now { captured = events } ≡ old
captured_back old now n events from is =
    let me : now.captured.me ≡ old.captured.me = ap (λ (s : Record). s.captured.me) from.rest in
    let same : events ≡ old.captured = is ∙ (λ i. record { me = me i; events = from.front i }) in
    λ i. record { sites = (from.rest i).sites; captured = same i; quarantine = (from.rest i).quarantine; engagement = (from.rest i).engagement }

pub started_back : (old now : Record) (first : ℕ) (items : List (List ℕ)) (r : Recall) (q : Quarantine) (e : Engagement)
    → StartedFrom old now first items → r ≡ record { site = now.engagement.me; number = now.engagement.next_recall - 1 }
    → q ≡ without_items now.quarantine r items → e ≡ old.engagement → record now { quarantine = q; engagement = e } ≡ old
started_back old now first items r q e from recall is engagement =
    let me : now.engagement.me ≡ old.engagement.me = ap (λ (s : Record). s.engagement.me) from.after in
    let number : now.engagement.next_recall - 1 ≡ old.engagement.next_recall = omega (arith, ap (λ (s : Record). s.engagement.next_recall) from.after) in
    let own : r ≡ next_own old.engagement = recall ∙ (λ i. record { site = me i; number = number i }) in
    let same : q ≡ old.quarantine =
    is ∙ ap (λ (s : Record). without_items s.quarantine r items) from.after
    ∙ ap (λ p. without_items (with_items old.quarantine (next_own old.engagement) items) p items) own
    ∙ newly_released old.captured old.quarantine (next_own old.engagement) from.root items from.sound.no_empty_set from.newly in
    λ i. record { sites = (from.after i).sites; captured = (from.after i).captured; quarantine = same i; engagement = engagement i }

pub received_back : (old now : Record) (m : Message) (r : Recall) (answer : Received) (first : ℕ) (items : List (List ℕ)) (q : Quarantine) (e : Engagement)
    → ReceivedFrom old now m r answer first items → q ≡ without_items now.quarantine r items → e ≡ old.engagement → record now { quarantine = q; engagement = e } ≡ old
received_back old now m r answer first items q e from is engagement =
    let same : q ≡ old.quarantine =
    is ∙ ap (λ (s : Record). without_items s.quarantine r items) from.after
    ∙ newly_released old.captured old.quarantine r from.item items from.sound.no_empty_set from.newly in
    λ i. record { sites = (from.after i).sites; captured = (from.after i).captured; quarantine = same i; engagement = engagement i }

-- A message that isn't received was a repeat.
pub repeated : (old now : Record) (m : Message) (r : Recall) (told : Effects) (first : ℕ) (items : List (List ℕ))
    → ((quarantined numbered : ℕ) (owed : Bool) → told ≡ effects.Received quarantined numbered owed → ⊥) → TookFrom old now m r told first items → now ≡ old
repeated old now m r (effects.Received a b c) first items other took = absurd (other a b c refl)
repeated old now m r effects.Repeat first items other took = took
repeated old now m r told first items other took = absurd took

-- What a step and what takes it back say of the record before it.

-- what is captured comes behind what was
captured_behind : (s : SiteEvents) (q : Quarantine) (given : List Content) (a : Addition) → IsCaptured s q given a → take (length s.events) a.events ≡ s.events
captured_behind s q given a c = ap (λ (x : Addition). take (length s.events) x.events) c.kept ∙ take-append_seam s.events _

captured_of : (old now : Record) (bytes : List ℕ) (told : Effects) (u : StepUndo) → Does old (Capture bytes) told now → IsUndoOf u old (Capture bytes) → CapturedFrom old now u.captured
captured_of old now bytes (effects.Captured fresh known skipped) u does undo = record {
  sound = undo.sound;
  front = ap (λ n. take n now.captured.events) undo.events ∙ captured_behind old.captured old.quarantine does.doc.events _ does.captured;
  rest = does.rest;
}
captured_of old now bytes other u does undo = absurd does

pub captured_from : (old now : Record) (bytes : List ℕ) (told : Effects) (u : StepUndo) (input : SiteInput) → input ≡ Capture bytes
    → Does old input told now → IsUndoOf u old input → CapturedFrom old now u.captured
captured_from old now bytes told u input is does undo =
    captured_of old now bytes told u (subst (λ i. Does old i told now) is does) (subst (IsUndoOf u old) is undo)

started_of : (old now : Record) (root : List ℕ) (told : Effects) (u : StepUndo) → u.whole ≡ None → Does old (Start root) told now → IsUndoOf u old (Start root) → StartedFrom old now u.next_message u.held.items
started_of old now root (effects.Started r a b c) u none does undo =
    let new : does.new ≡ u.held.items = same_newly old.captured old.quarantine (next_own old.engagement) root does.new u.held.items does.may.newly undo.held in
    record {
      sound = undo.sound;
      free = elim undo.whole [
        | inl some ↦ let both = sym some ∙ none in absurd cc
        | inr free ↦ free.1 tt
      ];
      next = sym undo.next;
      root = root;
      out = does.out;
      newly = undo.held;
      after = does.after
          ∙ ap (λ p. record old { quarantine = with_items old.quarantine p does.new; engagement = begun old.engagement root does.out }) does.next
          ∙ ap (λ items. record old { quarantine = with_items old.quarantine (next_own old.engagement) items; engagement = begun old.engagement root does.out }) new;
    }
started_of old now root other u none does undo = absurd does

pub started_from : (old now : Record) (root : List ℕ) (told : Effects) (u : StepUndo) (input : SiteInput) → input ≡ Start root → u.whole ≡ None
    → Does old input told now → IsUndoOf u old input → StartedFrom old now u.next_message u.held.items
started_from old now root told u input is none does undo =
    started_of old now root told u none (subst (λ i. Does old i told now) is does) (subst (IsUndoOf u old) is undo)

took_of : (old now : Record) (m : Message) (dest : ℕ) (r : Recall) (i : List ℕ) (told : Effects) (u : StepUndo) → u.whole ≡ None
    → Does old (Deliver (frames.Recall m dest r i)) told now → IsUndoOf u old (Deliver (frames.Recall m dest r i)) → TookFrom old now m r told u.next_message u.held.items
took_of old now m dest r i (effects.Received a b c) u none does undo =
    let newly : AreNewlyHeld old.captured old.quarantine r i u.held.items = subst (λ seen. NewlyHeldOnce old seen r i u.held.items) does.may.unseen undo.held in
    let new : does.new ≡ u.held.items = same_newly old.captured old.quarantine r i does.new u.held.items does.may.newly newly in
    record {
      sound = undo.sound;
      free = elim undo.whole [
        | inl some ↦ let both = sym some ∙ none in absurd cc
        | inr free ↦ free.1 does.may.unseen
      ];
      next = sym undo.next;
      item = i;
      out = does.out;
      newly = newly;
      engaged = does.engaged;
      after = does.after ∙ ap (λ items. record old { quarantine = with_items old.quarantine r items; engagement = now.engagement }) new;
    }
took_of old now m dest r i effects.Repeat u none does undo = does.1
took_of old now m dest r i other u none does undo = absurd does

took_frame_of : (old now : Record) (frame : Frame) (told : Effects) (u : StepUndo) → u.whole ≡ None → (IsSignal (Deliver frame) → ⊥)
    → Does old (Deliver frame) told now → IsUndoOf u old (Deliver frame) → TookFrame old now frame told u.next_message u.held.items
took_frame_of old now (frames.Recall m dest r i) told u none no_signal does undo = took_of old now m dest r i told u none does undo
took_frame_of old now (frames.Signal m by) told u none no_signal does undo = absurd (no_signal tt)

pub took_from : (old now : Record) (frame : Frame) (told : Effects) (u : StepUndo) (input : SiteInput) → input ≡ Deliver frame → u.whole ≡ None → (IsSignal input → ⊥)
    → Does old input told now → IsUndoOf u old input → TookFrame old now frame told u.next_message u.held.items
took_from old now frame told u input is none no_signal does undo =
    took_frame_of old now frame told u none (subst (λ i. IsSignal i → ⊥) is no_signal) (subst (λ i. Does old i told now) is does) (subst (IsUndoOf u old) is undo)

-- A signal's effects are those that are foreseen.

told_by : (s : Record) (m : Message) (by : ℕ) (row : Row) (e : Engagement) (answer : Signalled) → HasRow s m row → row.dest ≡ by → e ≡ (signalled s.engagement m.number).0
    → answer ≡ (signalled s.engagement m.number).1 → Does s (Deliver (frames.Signal m by)) (told_signal answer) (record s { engagement = e })
told_by s m by row e signals.Stale has signer after same =
    absurd (subst (TellsCleared s.engagement (signalled s.engagement m.number).0 row.recall) (sym same) (standing_is_cleared s.engagement m.number row has.stands).1)
told_by s m by row e signals.Cleared has signer after same = cleared s m by e signals.Cleared (row, has, signer) after same
told_by s m by row e (signals.ParentDue parent) has signer after same = cleared s m by e (signals.ParentDue parent) (row, has, signer) after same
told_by s m by row e (signals.Ended recall) has signer after same = cleared s m by e (signals.Ended recall) (row, has, signer) after same

pub foreseen : (s : Record) (m : Message) (by : ℕ) (row : Row) (told : Effects) → HasRow s m row → row.dest ≡ by → told ≡ told_signal (signalled s.engagement m.number).1
    → (t : Record) × Does s (Deliver (frames.Signal m by)) told t
foreseen s m by row told has signer is =
    let t : Record = record s { engagement = (signalled s.engagement m.number).0 } in
    (t, subst (λ e. Does s (Deliver (frames.Signal m by)) e t) (sym is) (told_by s m by row (signalled s.engagement m.number).0 (signalled s.engagement m.number).1 has signer refl refl))

-- A record that takes the place of another one is the one before.
pub whole_back : (old whole : Record) (u : StepUndo) (input : SiteInput) → u.whole ≡ Some whole → IsUndoOf u old input → whole ≡ old
whole_back old whole u input is undo = elim undo.whole [
  | inl some ↦ let both : Some whole ≡ Some old = sym is ∙ some in cc
  | inr none ↦ let both : Some whole ≡ None = sym is ∙ none.0 in absurd cc
]

-- A look changes nothing: then nothing comes under a recall, and no message is numbered.
pub none_newly : (s t : Record) (input : SiteInput) (told : Effects) → Does s input told t → changes told ≡ false → NewlyHeldBy s input []
none_newly s t (Capture bytes) told does is = refl
none_newly s t (Start root) (effects.Started r a b c) does is = absurd cc
none_newly s t (Start root) other does is = absurd does
none_newly s t (Deliver (frames.Recall m dest r i)) (effects.Received a b c) does is = absurd cc
none_newly s t (Deliver (frames.Recall m dest r i)) effects.Repeat does is = by_seen (get s.engagement.seen m) does.0.seen
  where
    by_seen : (seen : Option Recall) → IsSome seen → NewlyHeldOnce s seen r i []
    by_seen None some = absurd cc
    by_seen (Some under) some = refl
none_newly s t (Deliver (frames.Recall m dest r i)) other does is = absurd does
none_newly s t (Deliver (frames.Signal m by)) told does is = refl

pub none_numbered : (s t : Record) (input : SiteInput) (told : Effects) → Does s input told t → changes told ≡ false → MayNumber s input → ⊥
none_numbered s t (Capture bytes) told does is may = may
none_numbered s t (Start root) (effects.Started r a b c) does is may = cc
none_numbered s t (Start root) other does is may = does
none_numbered s t (Deliver (frames.Recall m dest r i)) (effects.Received a b c) does is may = cc
none_numbered s t (Deliver (frames.Recall m dest r i)) effects.Repeat does is may = unseen (get s.engagement.seen m) does.0.seen may
  where
    unseen : (seen : Option Recall) → IsSome seen → seen ≡ None → ⊥
    unseen None some none = cc
    unseen (Some under) some none = cc
none_numbered s t (Deliver (frames.Recall m dest r i)) other does is may = does
none_numbered s t (Deliver (frames.Signal m by)) told does is may = may

pub nothing_else : {X : Type 0} (found : Option X) → ((x : X) → found ≡ Some x → ⊥) → found ≡ None
nothing_else None none = refl
nothing_else (Some x) none = absurd (none x refl)
