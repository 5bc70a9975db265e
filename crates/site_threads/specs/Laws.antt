-- Laws of the words by which it is said whom a site asks in a turn, and what it posts.
use Rattle.std.specs.Prelude.{◌≡◌, ◌≢◌, ◌↔◌, ◌≤◌, ◌<◌, ◌-◌, ◌^◌, ℕ, zero, suc, not, nat_le, List, [], ◌∷◌, ◌++◌, Contains, filter, length, map, Some, None}
use Rattle.std.specs.Option.{option_map_or}
use Rattle.frame_core.specs.Numbers.{Message}
use Rattle.frame_core.specs.declared.frames.Frame.{Frame}
use Rattle.frame_core.specs.declared.frames.Frame.TheVariants as frames
use Rattle.scholten_core.specs.Engagement.{Engagement}
use Rattle.site_core.specs.Naming.{frame_named}
use Rattle.site_core.specs.declared.naming.FrameName.TheVariants as names
use Rattle.site_threads.specs.Offers.{behind, from_on, waiting, wish}
use Rattle.site_threads.specs.Passing.{others}

-- The other sites are all of the range but this one.
abbrev pub OthersAreAll : Type 0
OthersAreAll = (me low high s : ℕ) → Contains (others me low high) s ↔ ((low ≤ s) × (s < high) × (s ≢ me))

-- The signal of the message that was taken from a site comes first, where the record makes it emittable.
abbrev pub SignalsComeFirst : Type 0
SignalsComeFirst = (e : Engagement) (to place : ℕ) (m : Message) (f : Frame) → m.site ≡ to → frame_named e (names.Signal m) ≡ Some f → wish e to (Some m) place ≡ Some f

-- what a site posts to another one from a place on, in so many turns in which it takes nothing from it, and its record stays
abbrev pub posts : Engagement → ℕ → ℕ → ℕ → List Frame
posts e to zero place = []
posts e to (suc turns) place = option_map_or (λ f. f ∷ posts e to turns (behind to place f)) (wish e to None place) []

-- the number of the message that a frame is, or answers
abbrev pub number_in : Frame → ℕ
number_in (frames.Recall m dest r i) = m.number
number_in (frames.Signal m by) = m.number

-- the numbers before a place
abbrev pub before : ℕ → List ℕ → List ℕ
before place numbers = filter (λ n. not (nat_le place n)) numbers

-- In as many such turns as messages wait for the site's signal, each of them is posted once: those from the place on, in the order of
-- their numbers, and then those before it.
abbrev pub MessagesComeRound : Type 0
MessagesComeRound =
    (e : Engagement) (to place : ℕ) → ((n : ℕ) → Contains (waiting e to) n → n < 2 ^ 64 - 1)
    → map number_in (posts e to (length (waiting e to)) place) ≡ from_on place (waiting e to) ++ before place (waiting e to)
