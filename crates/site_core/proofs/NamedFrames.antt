-- The frames that a site may send are those that have a name.
use Rattle.std.proofs.Common.{◌≡◌, inl, inr, ℕ, Bool, true, false, not, cond, List, [], ◌∷◌, Option, Some, None, filter, refl, sym, ap, ◌∙◌, subst}
use mathlib.Core.Bool.{false≢true}
use Rattle.std.specs.Prelude.{◌&&◌, option_map, is_some}
use Rattle.std.specs.Cmp.{nat_cmp_total}
use Rattle.std.specs.List.{Contains}
use Rattle.std.specs.FinMap.{get, entries, nat_cmp-IsAntisymmetric}
use Rattle.std.proofs.lemmas.List.Elements.{Contains-append_cases, Contains-append_left, Contains-append_right}
use Rattle.frame_core.specs.Orders.{message_total, message_exact}
use Rattle.frame_core.specs.Numbers.{Recall, Message as MessageId}
use Rattle.frame_core.specs.declared.frames.Frame.{Frame}
use Rattle.frame_core.specs.declared.rows.Row.{Row}
use Rattle.scholten_core.specs.Engagement.{Engagement}
use Rattle.trace_core.proofs.Members.{contains_here, contains_there, contains_cases, contains_none}
use Rattle.trace_core.proofs.SetMembers.{contains-from_map}
use Rattle.trace_core.proofs.Members.{contains-map}
use Rattle.site_core.specs.declared.naming.FrameName.{FrameName}
use Rattle.site_core.specs.declared.naming.FrameName.TheVariants.{Message, Signal}
use Rattle.site_core.specs.Emitting.{emittable, message_frame, message_frames, signal_frame, signal_frames, is_parent}
use Rattle.site_core.specs.Naming.{frame_named, FramesHaveNames}
use Rattle.site_core.proofs.Entries.{entry_found, entry_there}

-- what a filter leaves passes
pub passing : {X : Type 0} (p : X → Bool) (xs : List X) (y : X) → Contains (filter p xs) y → Contains xs y × (p y ≡ true)
passing p [] y at = absurd (contains_none y at)
passing p (x ∷ xs) y at = elim (p x) as (λ b. p x ≡ b → Contains (cond b (x ∷ filter p xs) (filter p xs)) y → Contains (x ∷ xs) y × (p y ≡ true)) [
  | true ↦ λ is c. elim (contains_cases x y (filter p xs) c) as (λ _. Contains (x ∷ xs) y × (p y ≡ true)) [
    | inl same ↦ (subst (Contains (x ∷ xs)) same (contains_here x xs), subst (λ z. p z ≡ true) same is)
    | inr later ↦ let rest = passing p xs y later in (contains_there x y xs rest.0, rest.1)
  ]
  | false ↦ λ is c. let rest = passing p xs y c in (contains_there x y xs rest.0, rest.1)
] refl at

-- and what passes is left
passed : {X : Type 0} (p : X → Bool) (xs : List X) (y : X) → Contains xs y → p y ≡ true → Contains (filter p xs) y
passed p [] y at is = absurd (contains_none y at)
passed p (x ∷ xs) y at is = elim (p x) as (λ b. p x ≡ b → Contains (cond b (x ∷ filter p xs) (filter p xs)) y) [
  | true ↦ λ _. elim (contains_cases x y xs at) as (λ _. Contains (x ∷ filter p xs) y) [
    | inl same ↦ subst (Contains (x ∷ filter p xs)) same (contains_here x (filter p xs))
    | inr later ↦ contains_there x y (filter p xs) (passed p xs y later is)
  ]
  | false ↦ λ fails. elim (contains_cases x y xs at) as (λ _. Contains (filter p xs) y) [
    | inl same ↦ absurd (false≢true (sym fails ∙ ap p same ∙ is))
    | inr later ↦ passed p xs y later is
  ]
] refl

module _ (e : Engagement) where
  abbrev free : (MessageId × Recall) → Bool
  free s = not (is_parent e s.0)

  message_has_name : (f : Frame) → Contains (message_frames e) f → (name : FrameName) × (frame_named e name ≡ Some f)
  message_has_name f at =
      let (entry, among, is) = contains-from_map (message_frame e.me) (entries e.outbox) f at in
      (Message entry.0, ap (option_map (λ row. message_frame e.me (entry.0, row))) (entry_found nat_cmp_total e.outbox entry.0 entry.1 among) ∙ ap Some is)

  signal_has_name : (f : Frame) → Contains (signal_frames e) f → (name : FrameName) × (frame_named e name ≡ Some f)
  signal_has_name f at =
      let (entry, among, is) = contains-from_map (λ s. signal_frame e.me s.0) (filter free (entries e.seen)) f at in
      let (stands, unbound) = passing free (entries e.seen) entry among in
      let seen : get e.seen entry.0 ≡ Some entry.1 = entry_found message_total e.seen entry.0 entry.1 stands in (
        Signal entry.0,
        ap (λ o. cond (is_some o && not (is_parent e entry.0)) (Some (signal_frame e.me entry.0)) None) seen
            ∙ ap (λ b. cond b (Some (signal_frame e.me entry.0)) None) unbound ∙ ap Some is,
      )

  has_name : (f : Frame) → Contains (emittable e) f → (name : FrameName) × (frame_named e name ≡ Some f)
  has_name f at = elim (Contains-append_cases (message_frames e) (signal_frames e) f at) as (λ _. (name : FrameName) × (frame_named e name ≡ Some f)) [
    | inl told ↦ message_has_name f told
    | inr signalled ↦ signal_has_name f signalled
  ]

  named_message : (f : Frame) (number : ℕ) (found : Option Row) → get e.outbox number ≡ found → option_map (λ row. message_frame e.me (number, row)) found ≡ Some f → Contains (emittable e) f
  named_message f number None at is = cc
  named_message f number (Some row) at is =
      let frame : message_frame e.me (number, row) ≡ f = cc in
      subst (Contains (emittable e)) frame
      (Contains-append_left (message_frames e) (signal_frames e) (message_frame e.me (number, row))
      (contains-map (message_frame e.me) (entries e.outbox) (number, row) (entry_there nat_cmp_total nat_cmp-IsAntisymmetric e.outbox number row at)))

  named_signal : (f : Frame) (m : MessageId) (found : Option Recall) (parent : Bool) → get e.seen m ≡ found → is_parent e m ≡ parent
      → cond (is_some found && not parent) (Some (signal_frame e.me m)) None ≡ Some f → Contains (emittable e) f
  named_signal f m None parent at bound is = cc
  named_signal f m (Some r) true at bound is = cc
  named_signal f m (Some r) false at bound is =
      let frame : signal_frame e.me m ≡ f = cc in
      subst (Contains (emittable e)) frame
      (Contains-append_right (message_frames e) (signal_frames e) (signal_frame e.me m)
      (contains-map (λ s. signal_frame e.me s.0) (filter free (entries e.seen)) (m, r)
      (passed free (entries e.seen) (m, r) (entry_there message_total message_exact e.seen m r at) (ap not bound))))

  named : (f : Frame) (name : FrameName) → frame_named e name ≡ Some f → Contains (emittable e) f
  named f (Message number) is = named_message f number (get e.outbox number) refl is
  named f (Signal m) is = named_signal f m (get e.seen m) (is_parent e m) refl refl is

pub frames_have_names : FramesHaveNames
frames_have_names e f = (has_name e f, λ n. named e f n.0 n.1)
