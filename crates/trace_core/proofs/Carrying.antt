-- What one event more carries and sends.
use Rattle.std.proofs.Common.{◌≡◌, ℕ, List, [], ◌∷◌, ◌++◌, Some, None, refl, sym, subst, inl, inr, ⊎_elim}
use mathlib.Core.Logic.{◌⊎◌}
use Rattle.std.specs.List.{Any, Contains}
use Rattle.std.proofs.lemmas.List.Elements.{Contains-append_left, Contains-append_right, Contains-push, Contains-push_cases}
use Rattle.event_json.specs.Events.{Content}
use Rattle.event_json.specs.declared.bodies.Action.TheVariants.{Add, Observe, Delete}
use Rattle.event_json.specs.declared.bodies.Body.{Body}
use Rattle.event_json.specs.declared.bodies.Body.TheVariants.{Note, Ship, Make, Pack}
use Rattle.trace_core.specs.Carried.{SendsBy}
use Rattle.trace_core.specs.Pairs.{Ships, Packs, Carries, IsCarriedWith, IsSentTo}
use Rattle.trace_core.specs.Relations.{IsChain, last_of, Reaches}
use Rattle.trace_core.specs.Spreads.{items_of, parents}
use Rattle.trace_core.proofs.ChainLaws.{reaches_itself, reaches_step, reached_holds, reach_widens}

-- a chain with one more step at its front
pub reaches_front : {X : Type 0} (R : X → X → Type 0) (x y z : X) → R x y → Reaches R y z → Reaches R x z
reaches_front R x y z r (rest, chain, ends) = (y ∷ rest, (r, chain), ends)

pub reaches_then : {X : Type 0} (R : X → X → Type 0) (x y z : X) → Reaches R x y → Reaches R y z → Reaches R x z
reaches_then R x y z to (rest, chain, ends) = subst (Reaches R x) ends (on x y rest to chain)
  where
    on : (x y : _) (rest : List _) → Reaches R x y → IsChain R (y ∷ rest) → Reaches R x (last_of y rest)
    on x y [] to chain = to
    on x y (w ∷ rest) to (r, chain) = on x w rest (reaches_step R x y w to r) chain

-- ---- chains of a relation that has edges more, all from one element

module _ {X : Type 0} (R S : X → X → Type 0) (p : X) (C : X → Type 0) (edge : (x y : X) → S x y → R x y ⊎ ((p ≡ x) × C y)) where
  -- a chain of the old edges alone, or one to p, and one from where a new edge leads
  abbrev pub Goes : X → X → Type 0
  Goes x y = Reaches R x y ⊎ (Reaches R x p × (c : X) × C c × Reaches R c y)

  step_before : (x y z : X) → S x y → Goes y z → Goes x z
  step_before x y z s goes = ⊎_elim
      (λ r. ⊎_elim
      (λ old. inl (reaches_front R x y z r old))
      (λ (to, c, is, from). inr (reaches_front R x y p r to, c, is, from))
      goes)
      (λ (at, is). ⊎_elim
      (λ old. inr (subst (λ a. Reaches R a p) at (reaches_itself R p), y, is, old))
      (λ (to, c, new, from). inr (subst (λ a. Reaches R a p) at (reaches_itself R p), c, new, from))
      goes)
      (edge x y s)

  goes_list : (x : X) (rest : List X) → IsChain S (x ∷ rest) → Goes x (last_of x rest)
  goes_list x [] chain = inl (reaches_itself R x)
  goes_list x (y ∷ rest) (s, chain) = step_before x y (last_of y rest) s (goes_list y rest chain)

  pub reaches_with : (x y : X) → Reaches S x y → Goes x y
  reaches_with x y (rest, chain, ends) = subst (Goes x) ends (goes_list x rest chain)

-- ---- one event more

module _ (events : List Content) (e : Content) where
  abbrev all : List Content
  all = events ++ e ∷ []

  pub earlier : (P : Content → Type 0) → Any P (events ++ e ∷ []) → Any P events ⊎ P e
  earlier P (k, f, lt, at, h) = ⊎_elim
      (λ (l, lt', at'). inl (l, f, lt', at', h))
      (λ last. inr (subst P (sym last) h))
      (Contains-push_cases events e f (k, lt, at))

  pub still : (P : Content → Type 0) → Any P events → Any P (events ++ e ∷ [])
  still P (k, f, lt, at, h) = let there = Contains-append_left events (e ∷ []) f (k, lt, at) in (there.0, f, there.1, there.2, h)

  pub the_last : (P : Content → Type 0) → P e → Any P (events ++ e ∷ [])
  the_last P h = let there = Contains-push events e in (there.0, e, there.1, there.2, h)

  pub carries_still : (x y : List ℕ) → Carries events x y → Carries all x y
  carries_still x y = still (λ f. Packs x y f.body)

  pub carried_still : (x y : List ℕ) → IsCarriedWith events x y → IsCarriedWith all x y
  carried_still = reach_widens (Carries events) (Carries all) carries_still

  -- what was sent stays sent
  pub sent_stays : (i : List ℕ) (t : ℕ) → IsSentTo events i t → IsSentTo all i t
  sent_stays i t (carrier, ships, carried) = (carrier, still (λ f. Ships carrier t f.body) ships, carried_still carrier i carried)

-- what lies in something was sent wherever that was
pub sent_on : (events : List Content) (i j : List ℕ) (t : ℕ) → IsSentTo events i t → Carries events i j → IsSentTo events j t
sent_on events i j t (carrier, ships, carried) step = (carrier, ships, reaches_step (Carries events) carrier i j carried step)

pub sent_along : (events : List Content) (i j : List ℕ) (t : ℕ) → IsSentTo events i t → IsCarriedWith events i j → IsSentTo events j t
sent_along events i j t (carrier, ships, carried) more = (carrier, ships, reaches_then (Carries events) carrier i j carried more)

-- what is shipped is sent
pub sent_itself : (events : List Content) (i : List ℕ) (t : ℕ) → Any (λ e. Ships i t e.body) events → IsSentTo events i t
sent_itself events i t ships = (i, ships, reaches_itself (Carries events) i)

-- ---- what is sent is named

ships_named : (i : List ℕ) (t : ℕ) (b : Body) → Ships i t b → Contains (items_of b) i
ships_named i t (Note items) none = absurd none
ships_named i t (Ship items sites outside) ships = ships.0
ships_named i t (Make id ins outs) none = absurd none
ships_named i t (Pack action parent children) none = absurd none

put_named : (x y : List ℕ) (b : Body) → Packs x y b → Contains (items_of b) y
put_named x y (Note items) none = absurd none
put_named x y (Ship items sites outside) none = absurd none
put_named x y (Make id ins outs) none = absurd none
put_named x y (Pack action parent children) (add, is, put) = Contains-append_right (parents parent) children y put

-- an event names what was sent
pub sent_named : (events : List Content) (i : List ℕ) (t : ℕ) → IsSentTo events i t → Any (λ e. Contains (items_of e.body) i) events
sent_named events i t (carrier, (k, e, lt, at, ships), carried) =
    reached_holds (Carries events) (λ j. Any (λ f. Contains (items_of f.body) j) events)
    (λ x y named (l, f, lt', at', packs). (l, f, lt', at', put_named x y f.body packs))
    carrier i carried (k, e, lt, at, ships_named carrier t e.body ships)

-- ---- exactly what one event more sends

-- an event that puts nothing into anything
abbrev pub PutsNothing : Body → Type 0
PutsNothing b = (x y : List ℕ) → Packs x y b → ⊥

module _ (events : List Content) (e : Content) where
  -- it leaves the chains as they are
  pub carried_before : PutsNothing e.body → (c i : List ℕ) → IsCarriedWith (events ++ e ∷ []) c i → IsCarriedWith events c i
  carried_before none =
      reach_widens (Carries (events ++ e ∷ [])) (Carries events)
      (λ x y h. ⊎_elim (λ before. before) (λ now. absurd (none x y now)) (earlier events e (λ f. Packs x y f.body) h))

  -- it ships nothing there, either
  pub idle_sends : (i : List ℕ) (t : ℕ) → PutsNothing e.body → ((c : List ℕ) → Ships c t e.body → ⊥)
      → IsSentTo (events ++ e ∷ []) i t → IsSentTo events i t
  idle_sends i t none idle (c, ships, carried) =
      (c, ⊎_elim (λ before. before) (λ now. absurd (idle c now)) (earlier events e (λ f. Ships c t f.body) ships), carried_before none c i carried)

pub same_parent : (p x : List ℕ) → Some p ≡ Some x → p ≡ x
same_parent p x h = cc

pub no_parent : (x : List ℕ) → None ≡ Some x → ⊥
no_parent x h = cc

pub observes : Observe ≡ Add → ⊥
observes h = cc

pub deletes : Delete ≡ Add → ⊥
deletes h = cc

module _ (events : List Content) (e : Content) (i : List ℕ) (t : ℕ) where
  abbrev Sent : Type 0
  Sent = IsSentTo (events ++ e ∷ []) i t

  idle : (b : Body) → e.body ≡ b → PutsNothing b → ((c : List ℕ) → Ships c t b → ⊥) → Sent → IsSentTo events i t ⊎ SendsBy events b i t
  idle b is none ships sent = inl (idle_sends events e i t (subst PutsNothing (sym is) none) (λ c h. ships c (subst (Ships c t) is h)) sent)

  with_body : (b : Body) → e.body ≡ b → Sent → IsSentTo events i t ⊎ SendsBy events b i t
  with_body (Note items) is sent = idle (Note items) is (λ x y h. h) (λ c h. h) sent
  with_body (Make id ins outs) is sent = idle (Make id ins outs) is (λ x y h. h) (λ c h. h) sent
  with_body (Ship items sites outside) is (c, ships, carried) =
      let old = carried_before events e (subst PutsNothing (sym is) (λ x y h. h)) c i carried in
      ⊎_elim
      (λ before. inl (c, before, old))
      (λ now. let (listed, goes) = subst (Ships c t) is now in inr (goes, (c, listed, old)))
      (earlier events e (λ f. Ships c t f.body) ships)
  with_body (Pack Add None children) is sent = idle (Pack Add None children) is (λ x y h. no_parent x h.1) (λ c h. h) sent
  with_body (Pack Observe parent children) is sent = idle (Pack Observe parent children) is (λ x y h. observes h.0) (λ c h. h) sent
  with_body (Pack Delete parent children) is sent = idle (Pack Delete parent children) is (λ x y h. deletes h.0) (λ c h. h) sent
  with_body (Pack Add (Some p) children) is (c, ships, carried) =
      let before : Any (λ f. Ships c t f.body) events =
      ⊎_elim (λ there. there) (λ now. absurd (subst (Ships c t) is now)) (earlier events e (λ f. Ships c t f.body) ships) in
      ⊎_elim
      (λ old. inl (c, before, old))
      (λ (to, child, put, from). inr ((c, before, to), (child, put, from)))
      (reaches_with (Carries events) (Carries (events ++ e ∷ [])) p (λ y. Contains children y)
      (λ x y h. ⊎_elim
      (λ there. inl there)
      (λ now. let (add, parent, put) = subst (Packs x y) is now in inr (same_parent p x parent, put))
      (earlier events e (λ f. Packs x y f.body) h))
      c i carried)

  sends_with : (b : Body) → e.body ≡ b → SendsBy events b i t → Sent
  sends_with (Note items) is h = absurd h.0
  sends_with (Make id ins outs) is h = absurd h.0
  sends_with (Ship items sites outside) is (goes, (c, listed, carried)) =
      (c, the_last events e (λ f. Ships c t f.body) (subst (Ships c t) (sym is) (listed, goes)), carried_still events e c i carried)
  sends_with (Pack Add None children) is h = absurd h.0
  sends_with (Pack Observe parent children) is h = absurd h.0
  sends_with (Pack Delete parent children) is h = absurd h.0
  sends_with (Pack Add (Some p) children) is (sent, (c, put, carried)) =
      sent_along (events ++ e ∷ []) c i t
      (sent_on (events ++ e ∷ []) p c t (sent_stays events e p t sent)
      (the_last events e (λ f. Packs p c f.body) (subst (Packs p c) (sym is) (refl, refl, put))))
      (carried_still events e c i carried)

  -- what was sent was sent before, or the event sends it
  pub sent_with : Sent → IsSentTo events i t ⊎ SendsBy events e.body i t
  sent_with = with_body e.body refl

  -- what the event sends was sent
  pub sends_sent : SendsBy events e.body i t → IsSentTo (events ++ e ∷ []) i t
  sends_sent = sends_with e.body refl
