-- A frame that a site may send is sent, and delivered at once.
use Rattle.std.proofs.Common.{◌≡◌, ℕ, suc, cond, List, [], ◌∷◌, ◌++◌, length, Some, None, refl, sym, ap, ◌∙◌, subst, Contains, slice_get, slice_set, eq-eqb, length-append, arith}
use Rattle.std.proofs.lemmas.List.{set-get_or}
use Rattle.std.proofs.lemmas.Option.{slice_get-get_or, get_or_from_slice_get}
use Rattle.frame_core.specs.declared.frames.Frame.{Frame}
use Rattle.site_core.specs.Emitting.{emittable}
use Rattle.site_core.specs.Emitting as emitting
use Rattle.site_core.specs.Records.{Record}
use Rattle.site_core.specs.Steps.{Does}
use Rattle.site_core.specs.declared.inputs.SiteInput.TheVariants as inputs
use Rattle.site_core.specs.declared.outcomes.Effects.{Effects}
use Rattle.world_core.specs.Turns.{Runs, Sends, Steps, Turns, TurnsFrom, addressee, frame_at, input_of_frame}
use Rattle.world_core.specs.Worlds.{Up, WorldState}
use Rattle.world_core.specs.declared.events.Answer.{Answer}
use Rattle.world_core.specs.declared.events.Answer.TheVariants.{Done, Sent}
use Rattle.world_core.specs.declared.events.WorldEvent.{WorldEvent}
use Rattle.world_core.specs.declared.events.WorldEvent.TheVariants.{Step, Send}
use Rattle.world_core.specs.declared.events.WorldInput.TheVariants.{Deliver}

-- the last of a list
pub last_there : {X : Type 0} (xs : List X) (x : X) → slice_get (xs ++ x ∷ []) (length xs) ≡ Some x
last_there [] x = refl
last_there (y ∷ ys) x = last_there ys x

-- a list with an entry set to what it was
pub set_same : {X : Type 0} (xs : List X) (i : ℕ) (x : X) → slice_get xs i ≡ Some x → slice_set xs i x ≡ xs
set_same xs i x at = ap (λ z. slice_set xs i z) (sym (get_or_from_slice_get xs i x x at)) ∙ set-get_or xs i x

module _ (world : WorldState) (f : Frame) (sender : ℕ) (s : Record) (up : slice_get world.sites sender ≡ Some (Up s)) (among : Contains (emittable s.engagement) f)
    (t : Record) (there : slice_get world.sites (addressee f) ≡ Some (Up t)) (e : Effects) (after : Record) (does : Does t (inputs.Deliver f) e after) where
  abbrev sent_world : WorldState
  sent_world = record { sites = world.sites; sent = world.sent ++ f ∷ [] }

  abbrev pub passed_world : WorldState
  passed_world = record { sites = slice_set world.sites (addressee f) (Up after); sent = world.sent ++ f ∷ [] }

  abbrev pub send_event : WorldEvent
  send_event = Send sender (suc among.0)

  abbrev pub send_answer : Answer
  send_answer = Sent (suc (length world.sent))

  abbrev pub deliver_event : WorldEvent
  deliver_event = Step (addressee f) (Deliver (suc (length world.sent)))

  emitted : emitting.frame_at s.engagement (suc among.0) ≡ Some f
  emitted = slice_get-get_or (emittable s.engagement) among.0 f among.1 ∙ ap Some among.2

  pub sends : Turns world send_event send_answer sent_world
  sends =
      let place : suc (length world.sent) ≡ length (world.sent ++ f ∷ []) = let n = length-append world.sent (f ∷ []) in omega (arith, n) in
      subst (λ found. TurnsFrom found world send_event send_answer sent_world) (sym up) (
        Up s,
        (
          subst (λ o. Sends o world.sent send_answer (world.sent ++ f ∷ [])) (sym emitted) (refl, place),
          refl,
        ),
        sym (set_same world.sites sender (Up s) up),
      )

  delivered : input_of_frame (addressee f) (frame_at (world.sent ++ f ∷ []) (suc (length world.sent))) ≡ Some (inputs.Deliver f)
  delivered =
      ap (input_of_frame (addressee f)) (last_there world.sent f)
      ∙ ap (λ b. cond b (Some (inputs.Deliver f)) None) (eq-eqb (addressee f) (addressee f) refl)

  pub delivers : Turns sent_world deliver_event (Done e) passed_world
  delivers =
      subst (λ found. TurnsFrom found sent_world deliver_event (Done e) passed_world) (sym there) (
        Up after,
        (subst (λ o. Steps t o (Done e) (Up after)) (sym delivered) (after, does, refl), refl),
        refl,
      )

  pub passes : (events : List WorldEvent) (answers : List Answer) (new : WorldState) → Runs passed_world events answers new → Runs world (send_event ∷ deliver_event ∷ events) (send_answer ∷ Done e ∷ answers) new
  passes events answers new runs = (sent_world, sends, (passed_world, delivers, runs))
