-- An input has one effect, and leaves one record.
use Rattle.std.proofs.Common.{◌≡◌, ◌==◌, inl, inr, ℕ, Bool, true, false, List, length, Result, Ok, refl, sym, ap, subst, ◌∙◌}
use Rattle.event_json.specs.Sites.{Site}
use Rattle.event_json.specs.declared.doc_faults.DocFault.{DocFault}
use Rattle.event_json.specs.declared.documents.Doc.{Doc}
use Rattle.frame_core.specs.declared.frames.Frame.TheVariants as frames
use Rattle.frame_core.specs.Numbers.{Recall, Message}
use Rattle.scholten_core.specs.Changes.{begun, received, signalled}
use Rattle.scholten_core.specs.Engagement.{Engagement}
use Rattle.scholten_core.specs.declared.outcomes.Received.{Received}
use Rattle.scholten_core.specs.declared.outcomes.Received.TheVariants.{Owe, SignalNow}
use Rattle.scholten_core.specs.declared.outcomes.Signalled.{Signalled}
use Rattle.scholten_core.specs.declared.outcomes.Signalled.TheVariants as signals
use Rattle.scholten_core.proofs.Clearing.{no_row_is_stale}
use Rattle.trace_core.specs.Adding.{Addition, judged, kept_with}
use Rattle.site_core.specs.declared.inputs.SiteInput.TheVariants.{Capture, Start, Deliver}
use Rattle.site_core.specs.declared.outcomes.Effects.{Effects}
use Rattle.site_core.specs.declared.outcomes.Effects.TheVariants as effects
use Rattle.site_core.specs.Records.{Record}
use Rattle.site_core.specs.Steps.{Does, IsReadAs, Captures, Starts, Takes, Clears, reply}
use Rattle.site_core.specs.StepLaws.{EffectsAreFixed}
use Rattle.site_core.proofs.Growths.{with_events}
use Rattle.site_core.proofs.Quarantining.{with_new_items}
use Rattle.site_core.proofs.Records.{none_there}
use Rattle.site_core.proofs.SameLists.{same_newly, same_shipments, same_new, same_out}

-- bytes are read in one way
pub one_reading : (sites : List Site) (bytes : List ℕ) (a b : Result Doc DocFault) → IsReadAs sites bytes a → IsReadAs sites bytes b → a ≡ b
one_reading sites bytes a b (inl h) (inl k) = h.1 ∙ sym k.1
one_reading sites bytes a b (inl h) (inr k) = absurd (k.0 h.0)
one_reading sites bytes a b (inr h) (inl k) = absurd (h.0 k.0)
one_reading sites bytes a b (inr h) (inr k) = h.1 ∙ sym k.1

pub one_doc : (sites : List Site) (bytes : List ℕ) (a b : Doc) → IsReadAs sites bytes (Ok a) → IsReadAs sites bytes (Ok b) → a ≡ b
one_doc sites bytes a b h k = let same : Ok a ≡ Ok b = one_reading sites bytes (Ok a) (Ok b) h k in cc

captures_fixed : (s t u : Record) (bytes : List ℕ) (a b c d e f : ℕ) → Captures s bytes a b c t → Captures s bytes d e f u → (effects.Captured a b c ≡ effects.Captured d e f) × (t ≡ u)
captures_fixed s t u bytes a b c d e f h k =
    let doc = one_doc s.sites bytes h.doc k.doc h.read k.read in
    let same = h.captured.kept ∙ ap (λ (x : Doc). kept_with s.captured.events (judged s.captured.events x.events)) doc ∙ sym k.captured.kept in
    let fresh : a ≡ d = ap (λ (x : Addition). x.fresh) same in
    let known : b ≡ e = ap (λ (x : Addition). x.known) same in
    let skipped : c ≡ f = h.skips ∙ ap (λ (x : Doc). x.skipped) doc ∙ sym k.skips in
    (λ i. effects.Captured (fresh i) (known i) (skipped i), h.rest ∙ ap (λ (x : Addition). with_events s x.events) same ∙ sym k.rest)

capture_fixed : (s t u : Record) (bytes : List ℕ) (e f : Effects) → Does s (Capture bytes) e t → Does s (Capture bytes) f u → (e ≡ f) × (t ≡ u)
capture_fixed s t u bytes (effects.Captured a b c) (effects.Captured d e f) h k = captures_fixed s t u bytes a b c d e f h k
capture_fixed s t u bytes (effects.Captured a b c) other h k = absurd k
capture_fixed s t u bytes other f h k = absurd h

starts_fixed : (s t u : Record) (root : List ℕ) (r q : Recall) (a b c d : ℕ) (e f : Bool) → Starts s root r a b e t → Starts s root q c d f u → (effects.Started r a b e ≡ effects.Started q c d f) × (t ≡ u)
starts_fixed s t u root r q a b c d e f h k =
    let new = same_new s root h.spread k.spread h.new k.new h.out k.out h.may k.may in
    let out = same_out s root h.spread k.spread h.new k.new h.out k.out h.may k.may in
    let recall : r ≡ q = h.next ∙ sym k.next in
    let quarantined : a ≡ c = h.held ∙ ap length new ∙ sym k.held in
    let numbered : b ≡ d = h.told ∙ ap length out ∙ sym k.told in
    let ended : e ≡ f = h.at_once ∙ ap (λ (xs : List (ℕ × List ℕ)). length xs == 0) out ∙ sym k.at_once in
    (λ i. effects.Started (recall i) (quarantined i) (numbered i) (ended i), h.after ∙ (λ i. with_new_items s (recall i) (new i) (begun s.engagement root (out i))) ∙ sym k.after)

start_fixed : (s t u : Record) (root : List ℕ) (e f : Effects) → Does s (Start root) e t → Does s (Start root) f u → (e ≡ f) × (t ≡ u)
start_fixed s t u root (effects.Started r a b c) (effects.Started q d e f) h k = starts_fixed s t u root r q a b d e c f h k
start_fixed s t u root (effects.Started r a b c) other h k = absurd k
start_fixed s t u root other f h k = absurd h

reply_fixed : (n k : ℕ) (a b : Bool) → reply n a ≡ reply k b → (n ≡ k) × (a ≡ b)
reply_fixed n k true true h = let same : Owe n ≡ Owe k = h in (cc, refl)
reply_fixed n k true false h = let same : Owe n ≡ SignalNow k = h in absurd cc
reply_fixed n k false true h = let same : SignalNow n ≡ Owe k = h in absurd cc
reply_fixed n k false false h = let same : SignalNow n ≡ SignalNow k = h in (cc, refl)

module _ (s t u : Record) (m : Message) (dest : ℕ) (r : Recall) (i : List ℕ) where
  takes_fixed : (a b c d : ℕ) (e f : Bool) → Takes s m dest r i a b e t → Takes s m dest r i c d f u → (effects.Received a b e ≡ effects.Received c d f) × (t ≡ u)
  takes_fixed a b c d e f h k =
      let new = same_newly s.captured s.quarantine r i h.new k.new h.may.newly k.may.newly in
      let out = same_shipments s.captured h.new k.new h.out k.out new h.may.shipped k.may.shipped in
      let same = sym h.engaged ∙ ap (received s.engagement m r) out ∙ k.engaged in
      let engagement : t.engagement ≡ u.engagement = ap (λ (p : Engagement × Received). p.0) same in
      let answer = reply_fixed b d e f (ap (λ (p : Engagement × Received). p.1) same) in
      let quarantined : a ≡ c = h.held ∙ ap length new ∙ sym k.held in
      (λ n. effects.Received (quarantined n) (answer.0 n) (answer.1 n), h.after ∙ (λ n. with_new_items s r (new n) (engagement n)) ∙ sym k.after)

  message_fixed : (e f : Effects) → Does s (Deliver (frames.Recall m dest r i)) e t → Does s (Deliver (frames.Recall m dest r i)) f u → (e ≡ f) × (t ≡ u)
  message_fixed (effects.Received a b c) (effects.Received d e f) h k = takes_fixed a b d e c f h k
  message_fixed (effects.Received a b c) effects.Repeat h k = absurd (none_there h.may.unseen k.0.seen)
  message_fixed (effects.Received a b c) other h k = absurd k
  message_fixed effects.Repeat (effects.Received a b c) h k = absurd (none_there k.may.unseen h.0.seen)
  message_fixed effects.Repeat effects.Repeat h k = (refl, h.1 ∙ sym k.1)
  message_fixed effects.Repeat other h k = absurd k
  message_fixed other f h k = absurd h

-- the effect of an answer to a signal
abbrev effect_of : Signalled → Effects
effect_of signals.Stale = effects.Stale
effect_of signals.Cleared = effects.Cleared
effect_of (signals.ParentDue parent) = effects.ParentDue parent
effect_of (signals.Ended recall) = effects.Ended recall

-- a signal does what it does to the engagement
record IsSignalled (s : Record) (m : Message) (e : Effects) (t : Record) : Type 0 where
  pub answer : Signalled
  pub is : e ≡ effect_of answer
  pub engaged : signalled s.engagement m.number ≡ (t.engagement, answer)
  pub after : t ≡ record s { engagement = t.engagement }

module _ (s : Record) (m : Message) (by : ℕ) where
  clears_signalled : (t : Record) (answer : Signalled) → Clears s m by answer t → IsSignalled s m (effect_of answer) t
  clears_signalled t answer c = record { answer = answer; is = refl; engaged = c.engaged; after = c.after }

  is_signalled : (t : Record) (e : Effects) → Does s (Deliver (frames.Signal m by)) e t → IsSignalled s m e t
  is_signalled t effects.Stale h = record {
    answer = signals.Stale;
    is = refl;
    engaged = no_row_is_stale s.engagement m.number h.0.gone ∙ ap (λ (x : Record). (x.engagement, signals.Stale)) (sym h.1);
    after = subst (λ (x : Record). x ≡ record s { engagement = x.engagement }) (sym h.1) refl;
  }
  is_signalled t effects.Cleared h = clears_signalled t signals.Cleared h
  is_signalled t (effects.ParentDue parent) h = clears_signalled t (signals.ParentDue parent) h
  is_signalled t (effects.Ended recall) h = clears_signalled t (signals.Ended recall) h
  is_signalled t other h = absurd h

  signal_fixed : (t u : Record) (e f : Effects) → Does s (Deliver (frames.Signal m by)) e t → Does s (Deliver (frames.Signal m by)) f u → (e ≡ f) × (t ≡ u)
  signal_fixed t u e f h k =
      let a = is_signalled t e h in
      let b = is_signalled u f k in
      let same = sym a.engaged ∙ b.engaged in
      let answer : a.answer ≡ b.answer = ap (λ (p : Engagement × Signalled). p.1) same in
      let engagement : t.engagement ≡ u.engagement = ap (λ (p : Engagement × Signalled). p.0) same in
      (a.is ∙ ap effect_of answer ∙ sym b.is, a.after ∙ ap (λ (x : Engagement). record s { engagement = x }) engagement ∙ sym b.after)

pub effects_are_fixed : EffectsAreFixed
effects_are_fixed s t u (Capture bytes) e f h k = capture_fixed s t u bytes e f h k
effects_are_fixed s t u (Start root) e f h k = start_fixed s t u root e f h k
effects_are_fixed s t u (Deliver (frames.Recall m dest r i)) e f h k = message_fixed s t u m dest r i e f h k
effects_are_fixed s t u (Deliver (frames.Signal m by)) e f h k = signal_fixed s m by t u e f h k
