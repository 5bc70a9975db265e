-- What an event at one site does to all keepers of a kind.
use Rattle.std.proofs.Common.{◌≡◌, ◌<◌, ℕ, zero, suc, arith, get_or, length, [], ◌∷◌, Bool, List, Option, Some, None, Result, true, false, refl, sym, subst, ◌∙◌, slice_get, slice_set}
use Rattle.std.specs.Prelude.{option_map, is_some}
use Rattle.frame_core.specs.declared.frames.Frame.{Frame}
use Rattle.site_core.specs.Records.{Record}
use Rattle.site_core.specs.declared.inputs.SiteInput.{SiteInput}
use Rattle.site_core.specs.declared.outcomes.Effects.{Effects}
use Rattle.keeper_core.specs.declared.faults.Keep.{Keep}
use Rattle.keeper_core.specs.declared.faults.KeepFault.{KeepFault}
use Rattle.keeper_core.specs.declared.faults.Unopened.{Unopened}
use Rattle.world_core.specs.declared.events.Answer.{Answer}
use Rattle.world_core.specs.declared.events.Answer.TheVariants.{NotClosed}
use Rattle.world_core.specs.declared.events.WorldEvent.{WorldEvent}
use Rattle.world_core.specs.declared.events.WorldEvent.TheVariants.{Reopen}
use Rattle.world_core.specs.Kinds.{KeeperReopens, KeeperTurns, KeepersTurn, KeepersTurnFrom}
use Rattle.world_core.specs.Turns.{site_of}

module _ {K : Type 0} (shown : K → Option Record) (applies : K → SiteInput → Result Effects KeepFault → K → Type 0) (stops : K → SiteInput → Keep → Bool → K → Type 0) (reopens : K → Result K (Unopened K) → Type 0) where
  pub kind_at : (keepers changed : List K) (sent lent now_sent : List Frame) (event told : WorldEvent) (answer : Answer) (was now : K)
      → event ≡ told → lent ≡ sent → slice_get keepers (site_of told) ≡ Some was → changed ≡ slice_set keepers (site_of told) now
      → KeeperTurns applies stops reopens (shown was) was lent told answer now now_sent
      → KeepersTurn shown applies stops reopens (record { keepers = keepers; sent = sent }) event answer (record { keepers = changed; sent = now_sent })
  kind_at keepers changed sent lent now_sent event told answer was now is same at set turns =
      subst (λ e. KeepersTurn shown applies stops reopens (record { keepers = keepers; sent = sent }) e answer (record { keepers = changed; sent = now_sent })) (sym is)
      (subst (λ o. KeepersTurnFrom shown applies stops reopens o (record { keepers = keepers; sent = sent }) told answer (record { keepers = changed; sent = now_sent })) (sym at)
      (now, subst (λ s. KeeperTurns applies stops reopens (shown was) was s told answer now now_sent) same turns, set))

  -- a keeper that shows a record isn't opened, and one that shows none is
  pub still_open : {V : Type 0} (view : Option V) (read : V → Record) (was : K) (sent : List Frame) (site : ℕ) (is : Bool)
      → option_map read view ≡ shown was → is ≡ is_some view → is ≡ true → KeeperTurns applies stops reopens (shown was) was sent (Reopen site) NotClosed was sent
  still_open None read was sent site is seen e t = let twice : false ≡ true = sym e ∙ t in cc
  still_open (Some v) read was sent site is seen e t = subst (λ o. KeeperTurns applies stops reopens o was sent (Reopen site) NotClosed was sent) seen (refl, refl, refl)

  pub opened_anew : {V : Type 0} (view : Option V) (read : V → Record) (was now : K) (sent : List Frame) (site : ℕ) (is : Bool) (answer : Answer)
      → option_map read view ≡ shown was → is ≡ is_some view → is ≡ false → KeeperReopens reopens was answer now → KeeperTurns applies stops reopens (shown was) was sent (Reopen site) answer now sent
  opened_anew None read was now sent site is answer seen e f opens = subst (λ o. KeeperTurns applies stops reopens o was sent (Reopen site) answer now sent) seen (opens, refl)
  opened_anew (Some v) read was now sent site is answer seen e f opens = let twice : true ≡ false = sym e ∙ f in cc

none_below : (place : ℕ) → place < 0 → ⊥
none_below place below = omega (arith, below)

-- what is read at a place twice is one
pub the_same : {X : Type 0} (xs : List X) (place : ℕ) (x y : X) → place < length xs → x ≡ get_or xs place x → y ≡ get_or xs place y → x ≡ y
the_same [] place x y below a b = absurd (none_below place below)
the_same (z ∷ zs) zero x y below a b = a ∙ sym b
the_same (z ∷ zs) (suc place) x y below a b = the_same zs place x y (omega (arith, below)) a b
