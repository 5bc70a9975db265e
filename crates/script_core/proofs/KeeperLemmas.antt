-- What an event does to keepers in memory at which no stop is armed.
use Rattle.std.proofs.Common.{◌≡◌, ℕ, Bool, true, false, List, [], ◌∷◌, length, All, Option, Some, None, Result, Ok, Err, refl, sym, ap, ◌∙◌, subst, inl, inr, map}
use Rattle.std.specs.Prelude.{option_map, option_and_then, slice_get}
use Rattle.std.proofs.lemmas.List.{map-set, length-set}
use Rattle.std.proofs.lemmas.List.Elements.{All-set, All-get_or}
use Rattle.std.proofs.lemmas.Option.{slice_get-map, slice_get_within, get_or_from_slice_get}
use Rattle.frame_core.specs.declared.frames.Frame.{Frame}
use Rattle.keeper_core.specs.Memory.{InMemory, shown_in, AppliesIn, StepsIn, StopsIn, StopsWhereOpen, ReopensIn}
use Rattle.keeper_core.specs.declared.faults.Keep.{Keep}
use Rattle.keeper_core.specs.declared.faults.Keep.TheVariants.{Old, New}
use Rattle.keeper_core.specs.declared.faults.KeepFault.{KeepFault}
use Rattle.keeper_core.specs.declared.faults.KeepFault.TheVariants as faults
use Rattle.site_core.specs.Records.{Record}
use Rattle.site_core.specs.declared.inputs.SiteInput.{SiteInput}
use Rattle.site_core.specs.declared.outcomes.Effects.{Effects}
use Rattle.world_core.specs.Answers.{answer_of}
use Rattle.world_core.specs.Keepers.{AllShow, Sites}
use Rattle.world_core.specs.Kinds.{KeepersTurn, KeepersTurnFrom, KeeperTurns, KeeperSteps, KeeperStops, stop_answer, opened, opening_answer}
use Rattle.world_core.specs.Turns.{Sends, input_at, site_of}
use Rattle.world_core.specs.Worlds.{Standing, Up, Down, WorldState, record_of}
use Rattle.world_core.specs.declared.events.Answer.{Answer}
use Rattle.world_core.specs.declared.events.Answer.TheVariants.{Done, Fault, Sent, NoFrame, NoSite, Stopped, Reopened, NotReopened, NotClosed, NoMemory}
use Rattle.world_core.specs.declared.events.WorldEvent.{WorldEvent}
use Rattle.world_core.specs.declared.events.WorldEvent.TheVariants.{Step, Send, Stop, Reopen}
use Rattle.script_core.specs.Events.{answer_for, IsHanded, TurnsAt, TurnsFrom, Turns}
use Rattle.script_core.specs.Keepers.{standing_by, standing_of}
use Rattle.script_core.specs.State.{shown_by, up_in}
use Rattle.script_core.specs.declared.worlds.Outcome.{Outcome}
use Rattle.script_core.specs.declared.worlds.Outcome.TheVariants as outcomes

-- ---- how keepers are seen

shown_same : (k : InMemory) → shown_in k ≡ shown_by (standing_of k)
shown_same k = by k.is_open where
  by : (o : Bool) → shown_in (record k { is_open = o }) ≡ shown_by (standing_by o k.state)
  by true = refl
  by false = refl

pub up_is : (keepers : List InMemory) (n : ℕ) → option_and_then shown_in (slice_get keepers n) ≡ up_in (map standing_of keepers) n
up_is keepers n = by (slice_get keepers n) ∙ sym (ap (option_and_then shown_by) (slice_get-map standing_of keepers n)) where
  by : (o : Option InMemory) → option_and_then shown_in o ≡ option_and_then shown_by (option_map standing_of o)
  by None = refl
  by (Some k) = shown_same k

-- ---- one keeper, at which no stop is armed

abbrev plain : Record → Bool → ℕ → InMemory
plain r o f = record { state = r; is_open = o; armed = None; failures = f }

is_plain : (k : InMemory) → k.armed ≡ None → k ≡ plain k.state k.is_open k.failures
is_plain k e = ap (λ (a : Option Keep). let w : InMemory = record { state = k.state; is_open = k.is_open; armed = a; failures = k.failures } in w) e

abbrev Stays : Record → Option Keep → Option SiteInput → Answer → InMemory → Type 0
Stays r armed input answer changed = IsHanded r armed input answer (standing_of changed) × (changed.armed ≡ None)

stepped : (r : Record) (f : ℕ) (input : SiteInput) (result : Result Effects KeepFault) (changed : InMemory) (answer : Answer)
    → StepsIn (plain r true f) input result changed → answer ≡ answer_of result → Stays r None (Some input) answer changed
stepped r f input (Ok e) changed answer (does, is) told = (inl (record { outcome = outcomes.Did e; happens = (changed.state, does, ap standing_of is); told = told }), ap (λ k. k.armed) is)
stepped r f input (Err (faults.Refused why)) changed answer (refused, is) told = (inl (record { outcome = outcomes.Refused why; happens = (refused, ap standing_of is); told = told }), ap (λ k. k.armed) is)
stepped r f input (Err faults.NoMemory) changed answer (takes, is) told = (inr (told, ap standing_of is), ap (λ k. k.armed) is)
stepped r f input (Err faults.Device) changed answer h told = absurd h
stepped r f input (Err faults.Closed) changed answer h told = absurd h
stepped r f input (Err faults.Store) changed answer h told = absurd h

steps : (r : Record) (f : ℕ) (input : Option SiteInput) (changed : InMemory) (answer : Answer)
    → KeeperSteps (λ k. AppliesIn k.is_open k.armed k) (plain r true f) input answer changed → Stays r None input answer changed
steps r f None changed answer (told, is) = ((told, ap standing_of is), ap (λ k. k.armed) is)
steps r f (Some input) changed answer (inl (result, does, told)) = stepped r f input result changed answer does told
steps r f (Some input) changed answer (inr (told, is)) = (inr (told, ap standing_of is), ap (λ k. k.armed) is)

stopped : (r : Record) (f : ℕ) (input : SiteInput) (keep : Keep) (done : Bool) (changed : InMemory) (answer : Answer)
    → StopsIn (plain r true f) input keep done changed → answer ≡ stop_answer done → Stays r (Some keep) (Some input) answer changed
stopped r f input Old true changed answer (leaves, is) told = (inl (record { outcome = outcomes.Stopped; happens = (changed.state, leaves, ap standing_of is); told = told }), ap (λ k. k.armed) is)
stopped r f input New true changed answer (leaves, is) told = (inl (record { outcome = outcomes.Stopped; happens = (changed.state, leaves, ap standing_of is); told = told }), ap (λ k. k.armed) is)
stopped r f input New false changed answer (takes, is) told = (inr (told, ap standing_of is), ap (λ k. k.armed) is)
stopped r f input Old false changed answer h told = absurd h

stops : (r : Record) (f : ℕ) (input : Option SiteInput) (keep : Keep) (changed : InMemory) (answer : Answer)
    → KeeperStops (λ k. StopsWhereOpen k.is_open k) (plain r true f) input keep answer changed → Stays r (Some keep) input answer changed
stops r f None keep changed answer (told, is) = ((told, ap standing_of is), ap (λ k. k.armed) is)
stops r f (Some input) keep changed answer (inl (done, does, told)) = stopped r f input keep done changed answer does told
stops r f (Some input) keep changed answer (inr (told, is)) = (inr (told, ap standing_of is), ap (λ k. k.armed) is)

abbrev Turned : InMemory → List Frame → WorldEvent → Answer → InMemory → List Frame → Type 0
Turned k sent event answer changed now =
    KeeperTurns (λ k. AppliesIn k.is_open k.armed k) (λ k. StopsWhereOpen k.is_open k) ReopensIn (shown_in k) k sent event answer changed now

turned_plain : (r : Record) (o : Bool) (f : ℕ) (sent now : List Frame) (event : WorldEvent) (answer : Answer) (changed : InMemory)
    → Turned (plain r o f) sent event answer changed now → TurnsAt (standing_by o r) sent event answer (standing_of changed) now × (changed.armed ≡ None)
turned_plain r true f sent now (Step at input) answer changed (h, same) = let (handed, armed) = steps r f (input_at sent at input) changed answer h in ((handed, same), armed)
turned_plain r true f sent now (Stop at input keep) answer changed (h, same) = let (handed, armed) = stops r f (input_at sent at input) keep changed answer h in ((handed, same), armed)
turned_plain r true f sent now (Send at place) answer changed (h, is) = ((h, ap standing_of is), ap (λ k. k.armed) is)
turned_plain r true f sent now (Reopen at) answer changed (told, is, same) = ((told, ap standing_of is, same), ap (λ k. k.armed) is)
turned_plain r false f sent now (Step at input) answer changed (told, is, same) = ((told, ap standing_of is, same), ap (λ k. k.armed) is)
turned_plain r false f sent now (Stop at input keep) answer changed (told, is, same) = ((told, ap standing_of is, same), ap (λ k. k.armed) is)
turned_plain r false f sent now (Send at place) answer changed (told, is, same) = ((told, ap standing_of is, same), ap (λ k. k.armed) is)
turned_plain r false f sent now (Reopen at) answer changed ((result, opens, is, told), same) =
    let new : changed ≡ plain r true f = is ∙ ap opened opens in ((told ∙ ap opening_answer opens, ap standing_of new, same), ap (λ k. k.armed) new)

turned_one : (k : InMemory) (sent now : List Frame) (event : WorldEvent) (answer : Answer) (changed : InMemory)
    → k.armed ≡ None → Turned k sent event answer changed now → TurnsAt (standing_of k) sent event answer (standing_of changed) now × (changed.armed ≡ None)
turned_one k sent now event answer changed unarmed h =
    turned_plain k.state k.is_open k.failures sent now event answer changed (subst (λ j. Turned j sent event answer changed now) (is_plain k unarmed) h)

-- ---- all keepers

abbrev pub AreUnarmed : List InMemory → Type 0
AreUnarmed keepers = All (λ k. k.armed ≡ None) keepers

abbrev pub AllTurned : List InMemory → List Frame → WorldEvent → Answer → List InMemory → List Frame → Type 0
AllTurned keepers sent event answer after now =
    KeepersTurn shown_in (λ k. AppliesIn k.is_open k.armed k) (λ k. StopsWhereOpen k.is_open k) ReopensIn (record { keepers = keepers; sent = sent }) event answer (record { keepers = after; sent = now })

abbrev pub seen_as : List InMemory → List Frame → WorldState
seen_as keepers sent = record { sites = map standing_of keepers; sent = sent }

unarmed_at : (keepers : List InMemory) (n : ℕ) (k : InMemory) → AreUnarmed keepers → slice_get keepers n ≡ Some k → k.armed ≡ None
unarmed_at keepers n k all at =
    subst (λ (j : InMemory). j.armed ≡ None) (get_or_from_slice_get keepers n k k at) (All-get_or (λ j. j.armed ≡ None) keepers n k (slice_get_within keepers n k at) all)

pub all_turned : (keepers after : List InMemory) (sent now : List Frame) (event : WorldEvent) (answer : Answer)
    → AreUnarmed keepers → AllTurned keepers sent event answer after now → Turns (seen_as keepers sent) event answer (seen_as after now) × AreUnarmed after
all_turned keepers after sent now event answer all h =
    by (slice_get keepers (site_of event)) refl h where
      by : (o : Option InMemory) → slice_get keepers (site_of event) ≡ o
          → KeepersTurnFrom shown_in (λ k. AppliesIn k.is_open k.armed k) (λ k. StopsWhereOpen k.is_open k) ReopensIn o (record { keepers = keepers; sent = sent }) event answer (record { keepers = after; sent = now })
          → Turns (seen_as keepers sent) event answer (seen_as after now) × AreUnarmed after
      by None at (told, same) =
          let there : slice_get (map standing_of keepers) (site_of event) ≡ None = slice_get-map standing_of keepers (site_of event) ∙ ap (option_map standing_of) at in (
            subst (λ s. TurnsFrom s (seen_as keepers sent) event answer (seen_as after now)) (sym there) (told, ap (λ (s : Sites InMemory). seen_as s.keepers s.sent) same),
            subst AreUnarmed (sym (ap (λ (s : Sites InMemory). s.keepers) same)) all,
          )
      by (Some k) at (changed, turns, set) =
          let there : slice_get (map standing_of keepers) (site_of event) ≡ Some (standing_of k) = slice_get-map standing_of keepers (site_of event) ∙ ap (option_map standing_of) at in
          let (does, unarmed) = turned_one k sent now event answer changed (unarmed_at keepers (site_of event) k all at) turns in (
            subst (λ s. TurnsFrom s (seen_as keepers sent) event answer (seen_as after now)) (sym there)
                (standing_of changed, does, ap (map standing_of) set ∙ map-set standing_of keepers (site_of event) changed),
            subst AreUnarmed (sym set) (All-set (λ k. k.armed ≡ None) keepers (site_of event) changed unarmed all),
          )

-- ---- the frames sent

still_sent : (frame : Option Frame) (sent : List Frame) (answer : Answer) (now : List Frame) → Sends frame sent answer now → ((place : ℕ) → answer ≡ Sent place → ⊥) → now ≡ sent
still_sent None sent (Done e) now h never = absurd h
still_sent None sent (Fault f) now h never = absurd h
still_sent None sent (Sent p) now h never = absurd h
still_sent None sent NoFrame now h never = h
still_sent None sent NoSite now h never = absurd h
still_sent None sent Stopped now h never = absurd h
still_sent None sent Reopened now h never = absurd h
still_sent None sent (NotReopened f) now h never = absurd h
still_sent None sent NotClosed now h never = absurd h
still_sent None sent NoMemory now h never = absurd h
still_sent (Some frame) sent (Done e) now h never = absurd h
still_sent (Some frame) sent (Fault f) now h never = absurd h
still_sent (Some frame) sent (Sent p) now h never = absurd (never p refl)
still_sent (Some frame) sent NoFrame now h never = absurd h
still_sent (Some frame) sent NoSite now h never = absurd h
still_sent (Some frame) sent Stopped now h never = absurd h
still_sent (Some frame) sent Reopened now h never = absurd h
still_sent (Some frame) sent (NotReopened f) now h never = absurd h
still_sent (Some frame) sent NotClosed now h never = absurd h
still_sent (Some frame) sent NoMemory now h never = h

place_told : (frame : Option Frame) (sent : List Frame) (place : ℕ) (now : List Frame) → Sends frame sent (Sent place) now → place ≡ length now
place_told None sent place now h = absurd h
place_told (Some frame) sent place now h = h.1

kept_at : (standing changed : Standing) (sent now : List Frame) (event : WorldEvent) (answer : Answer) → TurnsAt standing sent event answer changed now → ((place : ℕ) → answer ≡ Sent place → ⊥) → now ≡ sent
kept_at (Up old) changed sent now (Step at input) answer h never = h.1
kept_at (Up old) changed sent now (Stop at input keep) answer h never = h.1
kept_at (Up old) changed sent now (Send at place) answer h never = still_sent _ sent answer now h.0 never
kept_at (Up old) changed sent now (Reopen at) answer h never = h.2
kept_at (Down old) changed sent now (Step at input) answer h never = h.2
kept_at (Down old) changed sent now (Stop at input keep) answer h never = h.2
kept_at (Down old) changed sent now (Send at place) answer h never = h.2
kept_at (Down old) changed sent now (Reopen at) answer h never = h.2

-- an event that sends no frame leaves those that were sent
pub kept_sent : (old new : WorldState) (event : WorldEvent) (answer : Answer) → Turns old event answer new → ((place : ℕ) → answer ≡ Sent place → ⊥) → new.sent ≡ old.sent
kept_sent old new event answer h never = by (slice_get old.sites (site_of event)) h where
  by : (o : Option Standing) → TurnsFrom o old event answer new → new.sent ≡ old.sent
  by None (told, same) = ap (λ (w : WorldState). w.sent) same
  by (Some standing) (changed, does, set) = kept_at standing changed old.sent new.sent event answer does never

told_other : (outcome : Outcome) (place : ℕ) → Sent place ≡ answer_for outcome → ⊥
told_other (outcomes.Did e) place e2 = cc
told_other (outcomes.Refused why) place e2 = cc
told_other outcomes.Stopped place e2 = cc

handed_no_frame : (r : Record) (armed : Option Keep) (input : Option SiteInput) (place : ℕ) (new : Standing) → IsHanded r armed input (Sent place) new → ⊥
handed_no_frame r armed None place new (told, _) = cc
handed_no_frame r armed (Some input) place new (inl answered) = told_other answered.outcome place answered.told
handed_no_frame r armed (Some input) place new (inr (told, _)) = cc

place_at : (standing changed : Standing) (sent now : List Frame) (event : WorldEvent) (place : ℕ) → TurnsAt standing sent event (Sent place) changed now → place ≡ length now
place_at (Up old) changed sent now (Step at input) place h = absurd (handed_no_frame old None (input_at sent at input) place changed h.0)
place_at (Up old) changed sent now (Stop at input keep) place h = absurd (handed_no_frame old (Some keep) (input_at sent at input) place changed h.0)
place_at (Up old) changed sent now (Send at from) place h = place_told _ sent place now h.0
place_at (Up old) changed sent now (Reopen at) place h = let told = h.0 in cc
place_at (Down old) changed sent now (Step at input) place h = let told = h.0 in cc
place_at (Down old) changed sent now (Stop at input keep) place h = let told = h.0 in cc
place_at (Down old) changed sent now (Send at from) place h = let told = h.0 in cc
place_at (Down old) changed sent now (Reopen at) place h = let told = h.0 in cc

-- a frame that is sent is reported by its place
pub told_place : (old new : WorldState) (event : WorldEvent) (place : ℕ) → Turns old event (Sent place) new → place ≡ length new.sent
told_place old new event place h = by (slice_get old.sites (site_of event)) h where
  by : (o : Option Standing) → TurnsFrom o old event (Sent place) new → place ≡ length new.sent
  by None (told, same) = cc
  by (Some standing) (changed, does, set) = place_at standing changed old.sent new.sent event place does

-- no site comes or goes
pub turns_count : (old new : WorldState) (event : WorldEvent) (answer : Answer) → Turns old event answer new → length new.sites ≡ length old.sites
turns_count old new event answer h = by (slice_get old.sites (site_of event)) h where
  by : (o : Option Standing) → TurnsFrom o old event answer new → length new.sites ≡ length old.sites
  by None (told, same) = ap (λ (w : WorldState). length w.sites) same
  by (Some standing) (changed, does, set) = ap length set ∙ length-set old.sites (site_of event) changed

-- where all keepers show their records, these are those of the sites
pub shown_records : (keepers : List InMemory) (rs : List Record) → AllShow shown_in keepers rs → map record_of (map standing_of keepers) ≡ rs
shown_records [] [] all = refl
shown_records (k ∷ ks) (r ∷ rs) all =
    let one : record_of (standing_of k) ≡ r = by k.is_open all.0 in
    ap (λ x. x ∷ map record_of (map standing_of ks)) one ∙ ap (λ xs. r ∷ xs) (shown_records ks rs all.1) where
      by : (o : Bool) → shown_in (record k { is_open = o }) ≡ Some r → record_of (standing_by o k.state) ≡ r
      by true e = cc
      by false e = cc
shown_records [] (r ∷ rs) all = absurd all
shown_records (k ∷ ks) [] all = absurd all

-- what `World::turn` says of keepers in memory
pub record Kept (keepers after : List InMemory) (sent now : List Frame) (event : WorldEvent) (answer : Answer) : Type 0 where
  pub turns : Turns (seen_as keepers sent) event answer (seen_as after now)
  pub unarmed : AreUnarmed after
  pub count : length (map standing_of after) ≡ length (map standing_of keepers)
  pub stays : ((place : ℕ) → answer ≡ Sent place → ⊥) → now ≡ sent
  pub placed : (place : ℕ) → answer ≡ Sent place → place ≡ length now

pub kept : (keepers after : List InMemory) (sent now : List Frame) (event : WorldEvent) (answer : Answer) → AreUnarmed keepers → AllTurned keepers sent event answer after now → Kept keepers after sent now event answer
kept keepers after sent now event answer all h =
    let (turns, unarmed) = all_turned keepers after sent now event answer all h in
    record {
      turns = turns;
      unarmed = unarmed;
      count = turns_count (seen_as keepers sent) (seen_as after now) event answer turns;
      stays = λ never. kept_sent (seen_as keepers sent) (seen_as after now) event answer turns never;
      placed = λ place is. told_place (seen_as keepers sent) (seen_as after now) event place (subst (λ a. Turns (seen_as keepers sent) event a (seen_as after now)) is turns);
    }
