-- Closed sites are opened, one after another, each in the record in which it went down.
use Rattle.std.proofs.Common.{◌≡◌, inl, inr, ℕ, zero, suc, ◌<◌, Option, Some, None, List, [], ◌∷◌, ◌++◌, length, map, refl, sym, ap, ◌∙◌, subst, slice_get, slice_set, arith}
use Rattle.std.specs.List.{AllByRecursion}
use Rattle.std.specs.Option.{option_map}
use Rattle.std.proofs.lemmas.List.{length-map, map-set}
use Rattle.std.proofs.lemmas.Option.{same_Some, slice_get-map, slice_get_within}
use Rattle.site_core.specs.Records.{Record}
use Rattle.site_recovery.proofs.OneSite.{one_place}
use Rattle.world_core.specs.EndingLaws.{CarriesOn}
use Rattle.world_core.specs.Turns.{Runs, Turns, TurnsFrom}
use Rattle.world_core.specs.Worlds.{Standing, Up, Down, WorldState, record_of, records}
use Rattle.world_core.specs.declared.events.Answer.{Answer}
use Rattle.world_core.specs.declared.events.Answer.TheVariants.{Reopened}
use Rattle.world_core.specs.declared.events.WorldEvent.{WorldEvent}
use Rattle.world_core.specs.declared.events.WorldEvent.TheVariants.{Reopen}
use Rattle.world_core.proofs.EachRun.{set_or_stood}
use Rattle.world_core.proofs.Passing.{set_same}
use Rattle.world_core.proofs.Running.{run_more}

-- no site is closed
abbrev pub AllAreUp : WorldState → Type 0
AllAreUp world = (site : ℕ) (standing : Standing) → slice_get world.sites site ≡ Some standing → (r : Record) × (standing ≡ Up r)

-- one run after another
pub runs_on : (old mid new : WorldState) (events later : List WorldEvent) (answers more : List Answer) → Runs old events answers mid → Runs mid later more new → Runs old (events ++ later) (answers ++ more) new
runs_on old mid new [] later [] more run next = subst (λ w. Runs w later more new) run next
runs_on old mid new (event ∷ events) later (answer ∷ answers) more run next = (run.0, run.1, runs_on run.0 mid new events later answers more run.2 next)
runs_on old mid new [] later (answer ∷ answers) more run next = absurd run
runs_on old mid new (event ∷ events) later [] more run next = absurd run

pub all_both : {X : Type 0} (P : X → Type 0) (xs ys : List X) → AllByRecursion P xs → AllByRecursion P ys → AllByRecursion P (xs ++ ys)
all_both P [] ys a b = b
all_both P (x ∷ xs) ys a b = (a.0, all_both P xs ys a.1 b)

set_there : {X : Type 0} (xs : List X) (i : ℕ) (x y : X) → slice_get xs i ≡ Some y → slice_get (slice_set xs i x) i ≡ Some x
set_there [] i x y at = let none : None ≡ Some y = at in cc
set_there (z ∷ zs) zero x y at = refl
set_there (z ∷ zs) (suc i) x y at = set_there zs i x y at

-- the first so many sites are up, and nothing else happened
pub record IsOpened (world : WorldState) (sites : ℕ) : Type 0 where
  pub events : List WorldEvent
  pub answers : List Answer
  pub new : WorldState
  pub runs : Runs world events answers new
  pub carries : AllByRecursion CarriesOn events
  pub same : records new ≡ records world
  pub up : (site : ℕ) (standing : Standing) → site < sites → slice_get new.sites site ≡ Some standing → (r : Record) × (standing ≡ Up r)

module _ (world : WorldState) (n : ℕ) (o : IsOpened world n) where
  -- one more is up already
  still_up : ((standing : Standing) → slice_get o.new.sites n ≡ Some standing → (r : Record) × (standing ≡ Up r)) → IsOpened world (suc n)
  still_up last = record {
    events = o.events;
    answers = o.answers;
    new = o.new;
    runs = o.runs;
    carries = o.carries;
    same = o.same;
    up = λ site standing below at. elim (one_place site n) as (λ _. (r : Record) × (standing ≡ Up r)) [
      | inl here ↦ last standing (subst (λ z. slice_get o.new.sites z ≡ Some standing) here at)
      | inr away ↦ o.up site standing (omega (arith, below, away)) at
    ];
  }

  -- or it is opened
  module _ (r : Record) (down : slice_get o.new.sites n ≡ Some (Down r)) where
    abbrev after : WorldState
    after = record { sites = slice_set o.new.sites n (Up r); sent = o.new.sent }

    reopens : Turns o.new (Reopen n) Reopened after
    reopens = subst (λ found. TurnsFrom found o.new (Reopen n) Reopened after) (sym down) (Up r, (refl, refl), refl)

    same_records : records after ≡ records o.new
    same_records =
        let there : slice_get (map record_of o.new.sites) n ≡ Some r = slice_get-map record_of o.new.sites n ∙ ap (option_map record_of) down in
        map-set record_of o.new.sites n (Up r) ∙ set_same (map record_of o.new.sites) n r there

    opens : IsOpened world (suc n)
    opens = record {
      events = o.events ++ Reopen n ∷ [];
      answers = o.answers ++ Reopened ∷ [];
      new = after;
      runs = run_more world o.new after o.events o.answers (Reopen n) Reopened o.runs reopens;
      carries = all_both CarriesOn o.events (Reopen n ∷ []) o.carries (tt, tt);
      same = same_records ∙ o.same;
      up = λ site standing below at. elim (one_place site n) as (λ _. (x : Record) × (standing ≡ Up x)) [
        | inl here ↦
            let there : slice_get after.sites n ≡ Some standing = subst (λ z. slice_get after.sites z ≡ Some standing) here at in
            let set : slice_get after.sites n ≡ Some (Up r) = set_there o.new.sites n (Up r) (Down r) down in
            (r, same_Some standing (Up r) (sym there ∙ set))
        | inr away ↦ elim (set_or_stood o.new.sites n (Up r) site standing at) as (λ _. (x : Record) × (standing ≡ Up x)) [
          | inl set ↦ (r, sym set)
          | inr stood ↦ o.up site standing (omega (arith, below, away)) stood
        ]
      ];
    }

  next_open : (found : Option Standing) → slice_get o.new.sites n ≡ found → IsOpened world (suc n)
  next_open None at = still_up (λ standing there. absurd (let none : None ≡ Some standing = sym at ∙ there in cc))
  next_open (Some (Up r)) at = still_up (λ standing there. (r, same_Some standing (Up r) (sym there ∙ at)))
  next_open (Some (Down r)) at = opens r at

opened : (world : WorldState) (n : ℕ) → IsOpened world n
opened world zero = record {
  events = [];
  answers = [];
  new = world;
  runs = refl;
  carries = tt;
  same = refl;
  up = λ site standing below at. absurd (omega (arith, below));
}
opened world (suc n) = let o = opened world n in next_open world n o (slice_get o.new.sites n) refl

-- so can all
pub all_opened : (world : WorldState) → (o : IsOpened world (length world.sites)) × AllAreUp o.new
all_opened world =
    let o = opened world (length world.sites) in
    let count : length o.new.sites ≡ length world.sites = sym (length-map o.new.sites record_of) ∙ (ap length o.same ∙ length-map world.sites record_of) in
    (o, λ site standing at. o.up site standing (subst (λ n. site < n) count (slice_get_within o.new.sites site standing at)) at)
