-- An answer says whether the record changed.
use Rattle.std.proofs.Common.{◌≡◌, ◌≢◌, ◌↔◌, ℕ, zero, suc, ◌+◌, Bool, true, List, [], ◌∷◌, length, Some, None, refl, sym, ap, ◌∙◌, arith, lt-ltb}
use Rattle.std.specs.Prelude.{IsFalse}
use mathlib.Core.Bool.{false≢true}
use Rattle.std.specs.FinMap.{get}
use Rattle.std.proofs.lemmas.List.{length-append}
use Rattle.frame_core.specs.declared.frames.Frame.TheVariants as frames
use Rattle.frame_core.specs.Numbers.{Recall, Message}
use Rattle.scholten_core.specs.declared.outcomes.Signalled.{Signalled}
use Rattle.trace_core.specs.Sites.{SiteEvents}
use Rattle.site_core.specs.declared.inputs.SiteInput.{SiteInput}
use Rattle.site_core.specs.declared.inputs.SiteInput.TheVariants.{Capture, Start, Deliver}
use Rattle.site_core.specs.declared.outcomes.Effects.{Effects}
use Rattle.site_core.specs.declared.outcomes.Effects.TheVariants as effects
use Rattle.site_core.specs.Records.{Record}
use Rattle.site_core.specs.Steps.{Does, Clears, changes}
use Rattle.site_core.specs.StepLaws.{AnswersTellChanges, IdleFramesChangeNothing}
use Rattle.site_core.specs.Ways.{GrowsBy}
use Rattle.site_core.proofs.Clearings.{clears_for}
use Rattle.site_core.proofs.Growths.{captures_grow}
use Rattle.site_core.proofs.Openings.{starts_open}
use Rattle.site_core.proofs.Takings.{messages_are_taken}

pub idle_frames_change_nothing : IdleFramesChangeNothing
idle_frames_change_nothing s t m = (λ dest r i h. (h.0.seen, h.1), λ by h. (h.0.gone, h.1))

-- where the answer is one of a change, and the records differ
differs : (e : Effects) (s t : Record) → changes e ≡ true → s ≢ t → IsFalse (changes e) ↔ (s ≡ t)
differs e s t is other = (λ told. absurd (false≢true (sym told ∙ is)), λ same. absurd (other same))

-- and where it is none, and they are equal
stays : (e : Effects) (s t : Record) → IsFalse (changes e) → s ≡ t → IsFalse (changes e) ↔ (s ≡ t)
stays e s t is same = (λ told. same, λ again. is)

-- a site that grew has as many events more
grown_count : (k : ℕ) (s t : Record) → GrowsBy s k t → length t.captured.events ≡ length s.captured.events + k
grown_count zero s t g = let same : length t.captured.events ≡ length s.captured.events = ap (λ (u : Record). length u.captured.events) (sym g) in omega (arith, same)
grown_count (suc k) s t (u, before, last) =
    let longer : length t.captured.events ≡ length u.captured.events + 1 = ap (λ (c : SiteEvents). length c.events) last.captured ∙ length-append u.captured.events (last.event ∷ []) in
    omega (arith, longer, grown_count k s u before)

capture_told : (s t : Record) (bytes : List ℕ) (fresh known skipped : ℕ) → GrowsBy s fresh t → IsFalse (changes (effects.Captured fresh known skipped)) ↔ (s ≡ t)
capture_told s t bytes zero known skipped g = stays (effects.Captured zero known skipped) s t refl g
capture_told s t bytes (suc k) known skipped g =
    differs (effects.Captured (suc k) known skipped) s t (lt-ltb 0 (suc k) (omega arith))
    (λ same. let count : length s.captured.events ≡ length t.captured.events = ap (λ (u : Record). length u.captured.events) same in omega (arith, count, grown_count (suc k) s t g))

start_told : (s t : Record) (root : List ℕ) (r : Recall) (a b : ℕ) (c : Bool) → Does s (Start root) (effects.Started r a b c) t → s ≢ t
start_told s t root r a b c h same =
    let next = (starts_open s t root r a b c h).0.begins.next_recall in
    let kept : s.engagement.next_recall ≡ t.engagement.next_recall = ap (λ (u : Record). u.engagement.next_recall) same in
    omega (arith, next, kept)

message_told : (s t : Record) (m : Message) (dest : ℕ) (r : Recall) (i : List ℕ) (a b : ℕ) (c : Bool) → Does s (Deliver (frames.Recall m dest r i)) (effects.Received a b c) t → s ≢ t
message_told s t m dest r i a b c h same =
    let takes = (messages_are_taken s t m dest r i a b c h).1.takes in
    let both : None ≡ Some r = sym takes.unseen ∙ ap (λ (u : Record). get u.engagement.seen m) same ∙ takes.seen_new in
    cc

signal_told : (s t : Record) (m : Message) (by : ℕ) (answer : Signalled) → Clears s m by answer t → s ≢ t
signal_told s t m by answer c same =
    let cleared = clears_for s t m by answer c in
    let both : None ≡ Some cleared.row = sym cleared.clears.clears.row_gone ∙ ap (λ (u : Record). get u.engagement.outbox m.number) (sym same) ∙ cleared.clears.clears.was in
    cc

capture_tells : (s t : Record) (bytes : List ℕ) (e : Effects) → Does s (Capture bytes) e t → IsFalse (changes e) ↔ (s ≡ t)
capture_tells s t bytes (effects.Captured fresh known skipped) h = capture_told s t bytes fresh known skipped (captures_grow s t bytes fresh known skipped h)
capture_tells s t bytes other h = absurd h

start_tells : (s t : Record) (root : List ℕ) (e : Effects) → Does s (Start root) e t → IsFalse (changes e) ↔ (s ≡ t)
start_tells s t root (effects.Started r a b c) h = differs (effects.Started r a b c) s t refl (start_told s t root r a b c h)
start_tells s t root other h = absurd h

message_tells : (s t : Record) (m : Message) (dest : ℕ) (r : Recall) (i : List ℕ) (e : Effects) → Does s (Deliver (frames.Recall m dest r i)) e t → IsFalse (changes e) ↔ (s ≡ t)
message_tells s t m dest r i (effects.Received a b c) h = differs (effects.Received a b c) s t refl (message_told s t m dest r i a b c h)
message_tells s t m dest r i effects.Repeat h = stays effects.Repeat s t refl (sym h.1)
message_tells s t m dest r i other h = absurd h

signal_tells : (s t : Record) (m : Message) (by : ℕ) (e : Effects) → Does s (Deliver (frames.Signal m by)) e t → IsFalse (changes e) ↔ (s ≡ t)
signal_tells s t m by effects.Stale h = stays effects.Stale s t refl (sym h.1)
signal_tells s t m by effects.Cleared h = differs effects.Cleared s t refl (signal_told s t m by _ h)
signal_tells s t m by (effects.ParentDue parent) h = differs (effects.ParentDue parent) s t refl (signal_told s t m by _ h)
signal_tells s t m by (effects.Ended recall) h = differs (effects.Ended recall) s t refl (signal_told s t m by _ h)
signal_tells s t m by other h = absurd h

pub answers_tell_changes : AnswersTellChanges
answers_tell_changes s t (Capture bytes) e h = capture_tells s t bytes e h
answers_tell_changes s t (Start root) e h = start_tells s t root e h
answers_tell_changes s t (Deliver (frames.Recall m dest r i)) e h = message_tells s t m dest r i e h
answers_tell_changes s t (Deliver (frames.Signal m by)) e h = signal_tells s t m by e h

-- effects that change nothing leave the record
pub unchanged : (s t : Record) (input : SiteInput) (e : Effects) → Does s input e t → IsFalse (changes e) → s ≡ t
unchanged s t input e h = (answers_tell_changes s t input e h).0
