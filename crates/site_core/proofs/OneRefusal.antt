-- Unless memory runs out, an input that has an effect isn't refused, and one that is refused is so for one reason.
use Rattle.std.proofs.Common.{◌≡◌, ◌≢◌, ◌≤◌, ◌^◌, inl, inr, ℕ, suc, arith, Bool, List, Ok, Err, Some, None, refl, sym, ap, subst, ◌∙◌}
use Rattle.event_json.specs.declared.doc_faults.DocFault.{DocFault}
use Rattle.event_json.specs.declared.documents.Doc.{Doc}
use Rattle.frame_core.specs.declared.frames.Frame.TheVariants as frames
use Rattle.frame_core.specs.declared.rows.Row.{Row}
use Rattle.frame_core.specs.Numbers.{Recall, Message}
use Rattle.scholten_core.specs.declared.outcomes.Signalled.{Signalled}
use Rattle.scholten_core.specs.Engagement.{Engagement}
use Rattle.site_core.specs.declared.inputs.SiteInput.TheVariants.{Capture, Start, Deliver}
use Rattle.site_core.specs.declared.outcomes.Effects.{Effects}
use Rattle.site_core.specs.declared.outcomes.Effects.TheVariants as effects
use Rattle.site_core.specs.declared.outcomes.Refusal.{Refusal}
use Rattle.site_core.specs.declared.outcomes.Refusal.TheVariants as refusals
use Rattle.site_core.specs.Capturing.{Reason, taken, blocked, IsFirstRefused}
use Rattle.site_core.specs.Records.{Record}
use Rattle.site_core.specs.Steps.{Does, Refuses, Captures, CapturesUpTo, HaveNumbers, HasNoNumbers, Takes, TakesPastNumbers, AreTooMany, IsStale, Clears, IsNotForSignal}
use Rattle.site_core.specs.StepLaws.{DoneIsNotRefused, RefusalsAreFixed}
use Rattle.site_core.proofs.OneEffect.{one_reading, one_doc}
use Rattle.site_core.proofs.OneOutcome.{one_outcome}
use Rattle.site_core.proofs.Records.{none_there}
use Rattle.site_core.proofs.SameLists.{same_newly, same_shipments, same_out}

-- An effect, and a refusal.

-- what has numbers isn't past them
message_numbered : (e : Engagement) (out : List (ℕ × List ℕ)) → HaveNumbers e out → AreTooMany e out → ⊥
message_numbered e out enough past = omega (arith, enough, past)

start_numbered : (e : Engagement) (out : List (ℕ × List ℕ)) → (e.next_recall ≤ 2 ^ 62) × HaveNumbers e out → HasNoNumbers e out → ⊥
start_numbered e out enough (inl spent) = omega (arith, enough.0, spent)
start_numbered e out enough (inr past) = message_numbered e out enough.1 past

module _ (s : Record) (bytes : List ℕ) where
  document_or_fault : (doc : Doc) (fault : DocFault) → Ok doc ≡ Err fault → ⊥
  document_or_fault doc fault h = cc

  captured_or_refused : (t : Record) (a b c number : ℕ) (reason : Reason) → Captures s bytes a b c t → CapturesUpTo s bytes number reason → ⊥
  captured_or_refused t a b c number reason h k =
      let (place, is, first) = k.refused in
      let refused = subst (λ (d : Doc). IsFirstRefused s.captured s.quarantine d.events place reason) (one_doc s.sites bytes k.doc h.doc k.read h.read) first in
      (one_outcome s.captured s.quarantine h.doc.events).not_both _ place reason h.captured refused

  captured_not_refused : (t : Record) (a b c : ℕ) (why : Refusal) → Captures s bytes a b c t → Refuses s (Capture bytes) why → why ≡ refusals.NoMemory
  captured_not_refused t a b c refusals.NoMemory h k = refl
  captured_not_refused t a b c (refusals.Doc fault) h k = absurd (document_or_fault h.doc fault (one_reading s.sites bytes (Ok h.doc) (Err fault) h.read k))
  captured_not_refused t a b c (refusals.Blocked r i number) h k = absurd (captured_or_refused t a b c number (blocked r i) h k)
  captured_not_refused t a b c (refusals.IdTaken number) h k = absurd (captured_or_refused t a b c number taken h k)
  captured_not_refused t a b c other h k = absurd k

module _ (s t : Record) (root : List ℕ) where
  started_not_refused : (e : Effects) (why : Refusal) → Does s (Start root) e t → Refuses s (Start root) why → why ≡ refusals.NoMemory
  started_not_refused (effects.Started r a b c) refusals.NoMemory h k = refl
  started_not_refused (effects.Started r a b c) refusals.UnknownItem h k = absurd (k h.may.known)
  started_not_refused (effects.Started r a b c) refusals.NumbersSpent h k =
      absurd (start_numbered s.engagement h.out h.enough (subst (HasNoNumbers s.engagement) (same_out s root k.spread h.spread k.new h.new k.out h.out k.may h.may) k.spent))
  started_not_refused (effects.Started r a b c) other h k = absurd k
  started_not_refused other why h k = absurd h

module _ (s t : Record) (m : Message) (dest : ℕ) (r : Recall) (i : List ℕ) where
  taken_has_numbers : (a b : ℕ) (c : Bool) → Takes s m dest r i a b c t → TakesPastNumbers s m dest r i → ⊥
  taken_has_numbers a b c h k =
      let new = same_newly s.captured s.quarantine r i k.new h.new k.may.newly h.may.newly in
      message_numbered s.engagement h.out h.enough (subst (AreTooMany s.engagement) (same_shipments s.captured k.new h.new k.out h.out new k.may.shipped h.may.shipped) k.spent)

  received_not_refused : (e : Effects) (why : Refusal) → Does s (Deliver (frames.Recall m dest r i)) e t → Refuses s (Deliver (frames.Recall m dest r i)) why → why ≡ refusals.NoMemory
  received_not_refused (effects.Received a b c) refusals.NoMemory h k = refl
  received_not_refused (effects.Received a b c) refusals.NotMine h k = absurd (k h.may.mine)
  received_not_refused (effects.Received a b c) refusals.NumbersSpent h k = absurd (taken_has_numbers a b c h k)
  received_not_refused (effects.Received a b c) other h k = absurd k
  received_not_refused effects.Repeat refusals.NoMemory h k = refl
  received_not_refused effects.Repeat refusals.NotMine h k = absurd (k h.0.mine)
  received_not_refused effects.Repeat refusals.NumbersSpent h k = absurd (none_there k.may.unseen h.0.seen)
  received_not_refused effects.Repeat other h k = absurd k
  received_not_refused other why h k = absurd h

module _ (s t : Record) (m : Message) (by : ℕ) where
  cleared_is_for_signal : (answer : Signalled) → Clears s m by answer t → IsNotForSignal s m by → ⊥
  cleared_is_for_signal answer c (inl foreign) = foreign c.has.mine
  cleared_is_for_signal answer c (inr (row, has, other)) =
      let same : Some row ≡ Some c.row = sym has.stands ∙ c.has.stands in
      let one : row ≡ c.row = cc in
      other (ap (λ (x : Row). x.dest) one ∙ c.signer)

  stale_is_for_signal : IsStale s m → IsNotForSignal s m by → ⊥
  stale_is_for_signal h (inl foreign) = foreign h.mine
  stale_is_for_signal h (inr (row, has, other)) = let both : None ≡ Some row = sym h.gone ∙ has.stands in cc

  not_refused_by : (why : Refusal) → (IsNotForSignal s m by → ⊥) → Refuses s (Deliver (frames.Signal m by)) why → why ≡ refusals.NoMemory
  not_refused_by refusals.NoMemory mine k = refl
  not_refused_by refusals.NotMine mine k = absurd (mine k)
  not_refused_by other mine k = absurd k

  signalled_not_refused : (e : Effects) (why : Refusal) → Does s (Deliver (frames.Signal m by)) e t → Refuses s (Deliver (frames.Signal m by)) why → why ≡ refusals.NoMemory
  signalled_not_refused effects.Stale why h k = not_refused_by why (stale_is_for_signal h.0) k
  signalled_not_refused effects.Cleared why h k = not_refused_by why (cleared_is_for_signal _ h) k
  signalled_not_refused (effects.ParentDue parent) why h k = not_refused_by why (cleared_is_for_signal _ h) k
  signalled_not_refused (effects.Ended recall) why h k = not_refused_by why (cleared_is_for_signal _ h) k
  signalled_not_refused other why h k = absurd h

capture_not_refused : (s t : Record) (bytes : List ℕ) (e : Effects) (why : Refusal) → Does s (Capture bytes) e t → Refuses s (Capture bytes) why → why ≡ refusals.NoMemory
capture_not_refused s t bytes (effects.Captured a b c) why h k = captured_not_refused s bytes t a b c why h k
capture_not_refused s t bytes other why h k = absurd h

pub done_is_not_refused : DoneIsNotRefused
done_is_not_refused s t (Capture bytes) e why h k = capture_not_refused s t bytes e why h k
done_is_not_refused s t (Start root) e why h k = started_not_refused s t root e why h k
done_is_not_refused s t (Deliver (frames.Recall m dest r i)) e why h k = received_not_refused s t m dest r i e why h k
done_is_not_refused s t (Deliver (frames.Signal m by)) e why h k = signalled_not_refused s t m by e why h k

-- Two refusals.

module _ (s : Record) (bytes : List ℕ) where
  one_place : (a b : ℕ) (reason why : Reason) → CapturesUpTo s bytes a reason → CapturesUpTo s bytes b why → (a ≡ b) × (reason ≡ why)
  one_place a b reason why h k =
      let (place, is, first) = h.refused in
      let (other, also, second) = k.refused in
      let moved = subst (λ (d : Doc). IsFirstRefused s.captured s.quarantine d.events other why) (one_doc s.sites bytes k.doc h.doc k.read h.read) second in
      let same = (one_outcome s.captured s.quarantine h.doc.events).one_refusal place other reason why first moved in
      (is ∙ ap (λ (n : ℕ). suc n) same.0 ∙ sym also, same.1)

  read_or_refused : (fault : DocFault) (n : ℕ) (reason : Reason) → Refuses s (Capture bytes) (refusals.Doc fault) → CapturesUpTo s bytes n reason → ⊥
  read_or_refused fault n reason h k = document_or_fault s bytes k.doc fault (one_reading s.sites bytes (Ok k.doc) (Err fault) k.read h)

  same_block : (r q : Recall) (i j : List ℕ) → blocked r i ≡ blocked q j → (r ≡ q) × (i ≡ j)
  same_block r q i j h = (cc, cc)

  block_or_taken : (r : Recall) (i : List ℕ) → blocked r i ≡ taken → ⊥
  block_or_taken r i h = cc

  capture_refused_once : (a b : Refusal) → a ≢ refusals.NoMemory → b ≢ refusals.NoMemory → Refuses s (Capture bytes) a → Refuses s (Capture bytes) b → a ≡ b
  capture_refused_once refusals.NoMemory b p q h k = absurd (p refl)
  capture_refused_once a refusals.NoMemory p q h k = absurd (q refl)
  capture_refused_once (refusals.Doc f) (refusals.Doc g) p q h k = let same : Err f ≡ Err g = one_reading s.sites bytes (Err f) (Err g) h k in let one : f ≡ g = cc in ap refusals.Doc one
  capture_refused_once (refusals.Doc f) (refusals.Blocked r i n) p q h k = absurd (read_or_refused f n (blocked r i) h k)
  capture_refused_once (refusals.Doc f) (refusals.IdTaken n) p q h k = absurd (read_or_refused f n taken h k)
  capture_refused_once (refusals.Blocked r i n) (refusals.Doc f) p q h k = absurd (read_or_refused f n (blocked r i) k h)
  capture_refused_once (refusals.Blocked r i n) (refusals.Blocked o j l) p q h k =
      let same = one_place n l (blocked r i) (blocked o j) h k in
      let (recall, item) = same_block r o i j same.1 in
      λ x. refusals.Blocked (recall x) (item x) (same.0 x)
  capture_refused_once (refusals.Blocked r i n) (refusals.IdTaken l) p q h k = absurd (block_or_taken r i (one_place n l (blocked r i) taken h k).1)
  capture_refused_once (refusals.IdTaken n) (refusals.Doc f) p q h k = absurd (read_or_refused f n taken k h)
  capture_refused_once (refusals.IdTaken n) (refusals.Blocked o j l) p q h k = absurd (block_or_taken o j (one_place l n (blocked o j) taken k h).1)
  capture_refused_once (refusals.IdTaken n) (refusals.IdTaken l) p q h k = ap refusals.IdTaken (one_place n l taken taken h k).0
  capture_refused_once (refusals.Doc f) other p q h k = absurd k
  capture_refused_once (refusals.Blocked r i n) other p q h k = absurd k
  capture_refused_once (refusals.IdTaken n) other p q h k = absurd k
  capture_refused_once other b p q h k = absurd h

start_refused_once : (s : Record) (root : List ℕ) (a b : Refusal) → a ≢ refusals.NoMemory → b ≢ refusals.NoMemory → Refuses s (Start root) a → Refuses s (Start root) b → a ≡ b
start_refused_once s root refusals.NoMemory b p q h k = absurd (p refl)
start_refused_once s root a refusals.NoMemory p q h k = absurd (q refl)
start_refused_once s root refusals.UnknownItem refusals.UnknownItem p q h k = refl
start_refused_once s root refusals.UnknownItem refusals.NumbersSpent p q h k = absurd (h k.may.known)
start_refused_once s root refusals.NumbersSpent refusals.UnknownItem p q h k = absurd (k h.may.known)
start_refused_once s root refusals.NumbersSpent refusals.NumbersSpent p q h k = refl
start_refused_once s root refusals.UnknownItem other p q h k = absurd k
start_refused_once s root refusals.NumbersSpent other p q h k = absurd k
start_refused_once s root other b p q h k = absurd h

module _ (s : Record) (m : Message) (dest : ℕ) (r : Recall) (i : List ℕ) where
  message_refused_once : (a b : Refusal) → a ≢ refusals.NoMemory → b ≢ refusals.NoMemory → Refuses s (Deliver (frames.Recall m dest r i)) a → Refuses s (Deliver (frames.Recall m dest r i)) b → a ≡ b
  message_refused_once refusals.NoMemory b p q h k = absurd (p refl)
  message_refused_once a refusals.NoMemory p q h k = absurd (q refl)
  message_refused_once refusals.NotMine refusals.NotMine p q h k = refl
  message_refused_once refusals.NotMine refusals.NumbersSpent p q h k = absurd (h k.may.mine)
  message_refused_once refusals.NumbersSpent refusals.NotMine p q h k = absurd (k h.may.mine)
  message_refused_once refusals.NumbersSpent refusals.NumbersSpent p q h k = refl
  message_refused_once refusals.NotMine other p q h k = absurd k
  message_refused_once refusals.NumbersSpent other p q h k = absurd k
  message_refused_once other b p q h k = absurd h

module _ (s : Record) (m : Message) (by : ℕ) where
  signal_refused_once : (a b : Refusal) → a ≢ refusals.NoMemory → b ≢ refusals.NoMemory → Refuses s (Deliver (frames.Signal m by)) a → Refuses s (Deliver (frames.Signal m by)) b → a ≡ b
  signal_refused_once refusals.NoMemory b p q h k = absurd (p refl)
  signal_refused_once a refusals.NoMemory p q h k = absurd (q refl)
  signal_refused_once refusals.NotMine refusals.NotMine p q h k = refl
  signal_refused_once refusals.NotMine other p q h k = absurd k
  signal_refused_once other b p q h k = absurd h

pub refusals_are_fixed : RefusalsAreFixed
refusals_are_fixed s (Capture bytes) a b p q h k = capture_refused_once s bytes a b p q h k
refusals_are_fixed s (Start root) a b p q h k = start_refused_once s root a b p q h k
refusals_are_fixed s (Deliver (frames.Recall m dest r i)) a b p q h k = message_refused_once s m dest r i a b p q h k
refusals_are_fixed s (Deliver (frames.Signal m by)) a b p q h k = signal_refused_once s m by a b p q h k
