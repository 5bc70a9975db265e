-- Every frame of a run was emittable by the record of an open site, at a moment of the run.
use Rattle.std.proofs.Common.{◌≡◌, ◌⊎◌, ℕ, Option, Some, None, List, [], ◌∷◌, ◌++◌, Contains, refl, sym, ap, append-nil, subst, inl, inr, ⊎_elim, slice_get}
use Rattle.frame_core.specs.declared.frames.Frame.{Frame}
use Rattle.site_core.specs.Emitting as emitting
use Rattle.trace_core.proofs.Members.{contains_here, contains_there, contains_cases, contains_none}
use Rattle.world_core.specs.declared.events.WorldEvent.{WorldEvent}
use Rattle.world_core.specs.declared.events.WorldEvent.TheVariants.{Step, Send, Stop, Reopen}
use Rattle.world_core.specs.declared.events.Answer.{Answer}
use Rattle.world_core.specs.declared.events.Answer.TheVariants.{Sent, NoFrame, NoMemory}
use Rattle.world_core.specs.SendingLaws.{IsEmittable, WasEmittable}
use Rattle.world_core.specs.Worlds.{Standing, Up, Down, WorldState}
use Rattle.world_core.specs.Turns.{GoesBy, Runs, Sends, Turns, TurnsAt, TurnsFrom, site_of}

pushed : (sent : List Frame) (x y : Frame) → Contains (sent ++ x ∷ []) y → Contains sent y ⊎ (x ≡ y)
pushed [] x y h = ⊎_elim (λ e. inr e) (λ none. absurd (contains_none y none)) (contains_cases x y [] h)
pushed (z ∷ zs) x y h = ⊎_elim
    (λ e. inl (subst (λ w. Contains (z ∷ zs) w) e (contains_here z zs)))
    (λ later. ⊎_elim (λ k. inl (contains_there z y zs k)) (λ e. inr e) (pushed zs x y later))
    (contains_cases z y (zs ++ x ∷ []) h)

sent_by : (found : Option Frame) (sent : List Frame) (answer : Answer) (now : List Frame) (frame : Frame) → Sends found sent answer now → Contains now frame → Contains sent frame ⊎ (found ≡ Some frame)
sent_by (Some x) sent (Sent place) now frame h c = ⊎_elim (λ k. inl k) (λ e. inr (ap Some e)) (pushed sent x frame (subst (λ l. Contains l frame) h.0 c))
sent_by (Some x) sent NoMemory now frame h c = inl (subst (λ l. Contains l frame) h c)
sent_by None sent NoFrame now frame h c = inl (subst (λ l. Contains l frame) h c)
sent_by found sent answer now frame h c = absurd h

-- the site is up, and its record emits the frame
abbrev Emits : Standing → Frame → Type 0
Emits (Up r) frame = (place : ℕ) × (emitting.frame_at r.engagement place ≡ Some frame)
Emits (Down r) frame = ⊥

sent_at_site : (old : Standing) (sent : List Frame) (event : WorldEvent) (answer : Answer) (new : Standing) (now : List Frame) (frame : Frame) → TurnsAt old sent event answer new now → Contains now frame → Contains sent frame ⊎ Emits old frame
sent_at_site (Up r) sent (Step at told) answer new now frame h c = inl (subst (λ l. Contains l frame) h.1 c)
sent_at_site (Up r) sent (Stop at told keep) answer new now frame h c = inl (subst (λ l. Contains l frame) h.1 c)
sent_at_site (Up r) sent (Send at place) answer new now frame h c = ⊎_elim (λ k. inl k) (λ e. inr (place, e)) (sent_by (emitting.frame_at r.engagement place) sent answer now frame h.0 c)
sent_at_site (Up r) sent (Reopen at) answer new now frame h c = inl (subst (λ l. Contains l frame) h.2 c)
sent_at_site (Down r) sent (Reopen at) answer new now frame h c = inl (subst (λ l. Contains l frame) h.1 c)
sent_at_site (Down r) sent (Step at told) answer new now frame h c = inl (subst (λ l. Contains l frame) h.2 c)
sent_at_site (Down r) sent (Stop at told keep) answer new now frame h c = inl (subst (λ l. Contains l frame) h.2 c)
sent_at_site (Down r) sent (Send at place) answer new now frame h c = inl (subst (λ l. Contains l frame) h.2 c)

emits_there : (world : WorldState) (site : ℕ) (standing : Standing) (frame : Frame) → slice_get world.sites site ≡ Some standing → Emits standing frame → IsEmittable world frame
emits_there world site (Up r) frame at h = record { site = site; record_there = r; up = at; place = h.0; emits = h.1 }
emits_there world site (Down r) frame at h = absurd h

sent_from : (found : Option Standing) (old new : WorldState) (event : WorldEvent) (answer : Answer) (frame : Frame) → slice_get old.sites (site_of event) ≡ found → TurnsFrom found old event answer new → Contains new.sent frame → Contains old.sent frame ⊎ IsEmittable old frame
sent_from None old new event answer frame e h c = inl (subst (λ w. Contains w.sent frame) h.1 c)
sent_from (Some standing) old new event answer frame e (changed, turns, is) c =
    ⊎_elim (λ k. inl k) (λ emits. inr (emits_there old (site_of event) standing frame e emits)) (sent_at_site standing old.sent event answer changed new.sent frame turns c)

-- the world before a run is one that it goes by
pub at_first : (old new : WorldState) (events : List WorldEvent) (answers : List Answer) → Runs old events answers new → GoesBy old events answers new old
at_first old new events answers runs = record { before = []; told = []; after = events; later = answers; all_events = refl; all_answers = refl; runs_to = refl; runs_on = runs }

-- so is the world after it
pub at_last : (old new : WorldState) (events : List WorldEvent) (answers : List Answer) → Runs old events answers new → GoesBy old events answers new new
at_last old new events answers runs = record { before = events; told = answers; after = []; later = []; all_events = sym (append-nil events); all_answers = sym (append-nil answers); runs_to = runs; runs_on = refl }

-- and what the run goes by behind its first event
one_later : (old next new : WorldState) (event : WorldEvent) (answer : Answer) (events : List WorldEvent) (answers : List Answer) (mid : WorldState) → Turns old event answer next → GoesBy next events answers new mid → GoesBy old (event ∷ events) (answer ∷ answers) new mid
one_later old next new event answer events answers mid turns m = record {
  before = event ∷ m.before;
  told = answer ∷ m.told;
  after = m.after;
  later = m.later;
  all_events = ap (λ es. event ∷ es) m.all_events;
  all_answers = ap (λ as'. answer ∷ as') m.all_answers;
  runs_to = (next, turns, m.runs_to);
  runs_on = m.runs_on;
}

pub frames_were_emittable : (old new : WorldState) (events : List WorldEvent) (answers : List Answer) → Runs old events answers new → (frame : Frame) → Contains new.sent frame → Contains old.sent frame ⊎ WasEmittable old events answers new frame
frames_were_emittable old new [] [] h frame c = inl (subst (λ w. Contains w.sent frame) h c)
frames_were_emittable old new (event ∷ events) (answer ∷ answers) h frame c =
    ⊎_elim
    (λ sent. ⊎_elim
    (λ k. inl k)
    (λ emits. inr (record { mid = old; moment = at_first old new (event ∷ events) (answer ∷ answers) h; emittable = emits }))
    (sent_from (slice_get old.sites (site_of event)) old h.0 event answer frame refl h.1 sent))
    (λ w. inr (record { mid = w.mid; moment = one_later old h.0 new event answer events answers w.mid h.1 w.moment; emittable = w.emittable }))
    (frames_were_emittable h.0 new events answers h.2 frame c)
frames_were_emittable old new [] (answer ∷ answers) h frame c = absurd h
frames_were_emittable old new (event ∷ events) [] h frame c = absurd h
