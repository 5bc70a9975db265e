-- A frame that a site may send by its name, and for whom it is.
use Rattle.std.proofs.Common.{◌≡◌, ◌≢◌, ℕ, Bool, true, false, cond, is_some, not, ◌&&◌, ◌==◌, Option, Some, None, refl, sym, ap, ◌∙◌, eq-eqb, ne_eqb}
use Rattle.std.specs.Prelude.{IfSome, option_and_then, option_map, if◌then◌else◌}
use Rattle.std.specs.FinMap.{get}
use Rattle.std.proofs.lemmas.Option.{same_Some}
use Rattle.frame_core.specs.Numbers.{Message}
use Rattle.frame_core.specs.declared.frames.Frame.{Frame}
use Rattle.frame_core.specs.declared.rows.Row.{Row}
use Rattle.scholten_core.specs.Engagement.{Engagement}
use Rattle.site_core.specs.Emitting.{message_frame, signal_frame, is_parent}
use Rattle.site_core.specs.Naming.{frame_named}
use Rattle.site_core.specs.Records.{Record}
use Rattle.site_core.specs.declared.naming.FrameName.{FrameName}
use Rattle.site_core.specs.declared.naming.FrameName.TheVariants as names
use Rattle.site_core.proofs.NamedFrames.{frames_have_names}
use Rattle.world_core.specs.Turns.{addressee}
use Rattle.wire_core.specs.Frames.{sender}
use Rattle.site_threads.specs.Offers.{IsFor, message_to, next_to, offer_of, signal_of, wish}

chosen : {A : Type 0} (b : Bool) (x y : A) → Some y ≡ (if b then Some x else None) → y ≡ x
chosen true x y e = same_Some y x e
chosen false x y e = cc

module _ {V : Type 0} (frame : V → Frame) (e : Engagement) (to : ℕ) where
  is_for : (v : V) (name : FrameName) (f : Frame) → Some (frame v) ≡ frame_named e name → frame v ≡ f → sender f ≡ e.me → addressee f ≡ to → IsFor e to (frame v)
  is_for v name f named same from there = record { emitted = (frames_have_names e (frame v)).1 (name, sym named); from = ap sender same ∙ from; there = ap addressee same ∙ there }

  pub message_is_for : (o : Option V) (number : ℕ) (row : Row) → option_map frame o ≡ frame_named e (names.Message number) → get e.outbox number ≡ Some row → row.dest ≡ to → IfSome o (λ v. IsFor e to (frame v))
  message_is_for None number row named stands dest = tt
  message_is_for (Some v) number row named stands dest =
      is_for v (names.Message number) (message_frame e.me (number, row)) named (same_Some (frame v) (message_frame e.me (number, row)) (named ∙ ap (λ r. option_map (λ (x : Row). message_frame e.me (number, x)) r) stands)) refl dest

  pub signal_is_for : (o : Option V) (m : Message) → option_map frame o ≡ frame_named e (names.Signal m) → m.site ≡ to → IfSome o (λ v. IsFor e to (frame v))
  signal_is_for None m named at = tt
  signal_is_for (Some v) m named at = is_for v (names.Signal m) (signal_frame e.me m) named (chosen (is_some (get e.seen m) && not (is_parent e m)) (signal_frame e.me m) (frame v) named) refl at

-- The message of a number.
module _ (e : Engagement) (to number : ℕ) where
  abbrev for_it : Frame → Option Frame
  for_it f = if addressee f == to then Some f else None

  pub named_to : (row : Row) → get e.outbox number ≡ Some row → row.dest ≡ to → frame_named e (names.Message number) ≡ message_to e to number
  named_to row stands dest =
      let f = message_frame e.me (number, row) in
      let named : frame_named e (names.Message number) ≡ Some f = ap (option_map (λ (x : Row). message_frame e.me (number, x))) stands in
      named ∙ sym (ap (option_and_then for_it) named ∙ ap (λ (b : Bool). cond b (Some f) None) (eq-eqb row.dest to dest))

  pub named_elsewhere : (row : Row) → get e.outbox number ≡ Some row → row.dest ≢ to → None ≡ message_to e to number
  named_elsewhere row stands apart =
      let f = message_frame e.me (number, row) in
      let named : frame_named e (names.Message number) ≡ Some f = ap (option_map (λ (x : Row). message_frame e.me (number, x))) stands in
      sym (ap (option_and_then for_it) named ∙ ap (λ (b : Bool). cond b (Some f) None) (ne_eqb row.dest to apart))

  pub unnamed : get e.outbox number ≡ None → None ≡ message_to e to number
  unnamed none = sym (ap (λ o. option_and_then for_it (option_map (λ (x : Row). message_frame e.me (number, x)) o)) none)

-- The signal of a message.
pub signal_to : (e : Engagement) (to : ℕ) (m : Message) → m.site ≡ to → frame_named e (names.Signal m) ≡ signal_of e to m
signal_to e to m at = ap (λ (b : Bool). cond b (frame_named e (names.Signal m)) None) (sym (eq-eqb m.site to at))

-- What is offered, by what was found.
pub wish_found : (e : Engagement) (to : ℕ) (owed owed' : Option Message) (place : ℕ) (next : Option ℕ) → owed ≡ owed' → next ≡ next_to e to place → offer_of e to owed next ≡ wish e to owed' place
wish_found e to owed owed' place next same is = (λ i. offer_of e to (same i) (is i))

pub next_shown : (shown : Option Record) (r : Record) (to : ℕ) (place place' : ℕ) (next : Option ℕ) → next ≡ option_and_then (λ (z : Record). next_to z.engagement to place) shown → shown ≡ Some r → place ≡ place' → next ≡ next_to r.engagement to place'
next_shown shown r to place place' next is stands same = is ∙ ap (option_and_then (λ (z : Record). next_to z.engagement to place)) stands ∙ ap (next_to r.engagement to) same
