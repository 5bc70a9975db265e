-- What rounds do is one thing.
use Rattle.std.proofs.Common.{◌≡◌, ℕ, List, [], ◌∷◌, ◌++◌, Option, Some, None, refl, sym, ap, ◌∙◌, subst, length}
use Rattle.std.specs.Prelude.{◌-◌}
use Rattle.std.specs.List.{range_with_len}
use Rattle.frame_core.specs.declared.frames.Frame.{Frame}
use Rattle.site_core.specs.Records.{Record}
use Rattle.site_core.specs.declared.inputs.SiteInput.TheVariants.{Deliver}
use Rattle.world_core.specs.Turns.{addressee}
use Rattle.recall_text.specs.Answer.{done}
use Rattle.recall_text.specs.State.{World}
use Rattle.recall_text.specs.Words.{pumped_text}
use Rattle.script_core.specs.Happening.{with_standing, with_frame}
use Rattle.script_core.specs.Pumping.{Arrives, Comes, Carries, Exchanges, Each, TakesPart, TakesRound, Pumps, all_opened, answer_to, message_from, numbers_at, pump_text}
use Rattle.script_core.specs.State.{up_at, armed_at}
use Rattle.script_core.proofs.OneHappening.{one_happening, some_happening}

-- a relation to an answer and a world that has one pair
abbrev pub One : {A : Type 0} → (A → World → Type 0) → Type 0
One {A} P = (a b : A) (t u : World) → P a t → P b u → (a ≡ b) × (t ≡ u)

-- and one that has some
abbrev pub Some_of : {A : Type 0} → (A → World → Type 0) → Type 0
Some_of {A} P = (a : A) × (t : World) × P a t

one_arrival : (frame : Frame) (old : Record) (w : World) → One (Arrives frame old w)
one_arrival frame old w a b t u p q =
    let (same, stands) = one_happening old (armed_at w (addressee frame)) (Deliver frame) p.outcome q.outcome p.standing q.standing p.happens q.happens in
    (p.told ∙ ap (pump_text w.sites (addressee frame)) same ∙ sym q.told, p.changed ∙ ap (with_standing w (addressee frame)) stands ∙ sym q.changed)

some_arrival : (frame : Frame) (old : Record) (w : World) → Some_of (Arrives frame old w)
some_arrival frame old w =
    let (outcome, standing, happens) = some_happening old (armed_at w (addressee frame)) (Deliver frame) in
    (_, _, record { outcome = outcome; standing = standing; happens = happens; told = refl; changed = refl })

one_coming : (frame : Frame) (old : Option Record) (w : World) → One (Comes frame old w)
one_coming frame None w a b t u p q = (p.0 ∙ sym q.0, p.1 ∙ sym q.1)
one_coming frame (Some old) w a b t u p q = one_arrival frame old w a b t u p q

some_coming : (frame : Frame) (old : Option Record) (w : World) → Some_of (Comes frame old w)
some_coming frame None w = ([], w, (refl, refl))
some_coming frame (Some old) w = some_arrival frame old w

one_carriage : (frame : Option Frame) (w : World) → One (Carries frame w)
one_carriage None w a b t u p q = (p.0 ∙ sym q.0, p.1 ∙ sym q.1)
one_carriage (Some frame) w a b t u p q = one_coming frame (up_at w (addressee frame)) (with_frame w frame) a b t u p q

some_carriage : (frame : Option Frame) (w : World) → Some_of (Carries frame w)
some_carriage None w = ([], w, (refl, refl))
some_carriage (Some frame) w = some_coming frame (up_at w (addressee frame)) (with_frame w frame)

one_exchange : (site number : ℕ) (w : World) → One (Exchanges site number w)
one_exchange site number w a b t u p q =
    let (front, mid) = one_carriage (message_from w site number) w p.front q.front p.mid q.mid p.goes q.goes in
    let (back, end) = one_carriage (answer_to p.mid (message_from w site number)) p.mid p.back q.back t u p.comes
    (subst (λ m. Carries (answer_to m (message_from w site number)) m q.back u) (sym mid) q.comes) in
    (p.told ∙ ap (λ x. x ++ p.back) front ∙ ap (λ x. q.front ++ x) back ∙ sym q.told, end)

some_exchange : (site number : ℕ) (w : World) → Some_of (Exchanges site number w)
some_exchange site number w =
    let (front, mid, goes) = some_carriage (message_from w site number) w in
    let (back, end, comes) = some_carriage (answer_to mid (message_from w site number)) mid in
    (front ++ back, end, record { mid = mid; front = front; back = back; goes = goes; comes = comes; told = refl })

module _ (Do : ℕ → World → List ℕ → World → Type 0) where
  one_each : ((x : ℕ) (w : World) → One (Do x w)) → (xs : List ℕ) (w : World) → One (Each Do xs w)
  one_each one [] w a b t u p q = (p.0 ∙ sym q.0, p.1 ∙ sym q.1)
  one_each one (x ∷ xs) w a b t u (mid, front, back, does, more, is) (mid_too, front_too, back_too, does_too, more_too, is_too) =
      let (same, next) = one x w front front_too mid mid_too does does_too in
      let (rest, end) = one_each one xs mid back back_too t u more (subst (λ m. Each Do xs m back_too u) (sym next) more_too) in
      (is ∙ ap (λ x. x ++ back) same ∙ ap (λ x. front_too ++ x) rest ∙ sym is_too, end)

  some_each : ((x : ℕ) (w : World) → Some_of (Do x w)) → (xs : List ℕ) (w : World) → Some_of (Each Do xs w)
  some_each some [] w = ([], w, (refl, refl))
  some_each some (x ∷ xs) w =
      let (front, mid, does) = some x w in
      let (back, end, more) = some_each some xs mid in
      (front ++ back, end, (mid, front, back, does, more, refl))

one_part : (site : ℕ) (w : World) → One (TakesPart site w)
one_part site w = one_each (Exchanges site) (one_exchange site) (numbers_at w site) w

some_part : (site : ℕ) (w : World) → Some_of (TakesPart site w)
some_part site w = some_each (Exchanges site) (some_exchange site) (numbers_at w site) w

one_round : (round : ℕ) (w : World) → One (TakesRound w)
one_round round w = one_each TakesPart one_part (range_with_len 0 (length w.sites)) (all_opened w)

some_round : (round : ℕ) (w : World) → Some_of (TakesRound w)
some_round round w = some_each TakesPart some_part (range_with_len 0 (length w.sites)) (all_opened w)

pub one_pump : (rounds : ℕ) (w : World) → One (Pumps rounds w)
one_pump rounds w a b t u p q =
    let (text, end) = one_each (λ round. TakesRound) one_round (range_with_len 0 rounds) w p.text q.text t u p.run q.run in (
      p.told ∙ ap (λ x. done (x ++ pumped_text rounds (length t.world.sent - length w.world.sent))) text
          ∙ ap (λ (x : World). done (q.text ++ pumped_text rounds (length x.world.sent - length w.world.sent))) end ∙ sym q.told,
      end,
    )

pub some_pump : (rounds : ℕ) (w : World) → Some_of (Pumps rounds w)
some_pump rounds w =
    let (text, end, run) = some_each (λ round. TakesRound) some_round (range_with_len 0 rounds) w in
    (_, end, record { text = text; run = run; told = refl })
