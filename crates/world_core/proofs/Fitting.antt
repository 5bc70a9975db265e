-- Each turn keeps the records of all sites and the frames sent consistent, and leaves each ended recall as it
-- was: one of the laws of the records for each way in which a turn changes them.
use Rattle.std.proofs.Common.{◌≡◌, ℕ, zero, suc, ◌<◌, Option, Some, None, List, [], ◌∷◌, ◌++◌, length, map, refl, sym, ◌∙◌, ap, subst, ⊎_elim, Contains, slice_get, slice_set}
use Rattle.std.proofs.lemmas.List.{map-set, set-get_or}
use Rattle.std.specs.Option.{option_map}
use Rattle.std.proofs.lemmas.Option.{cond_some, same_Some, slice_get_within, get_or_from_slice_get, slice_get-map}
use Rattle.frame_core.specs.declared.frames.Frame.{Frame}
use Rattle.site_core.specs.Emitting as emitting
use Rattle.site_core.specs.Records.{Record, fresh}
use Rattle.site_core.specs.declared.inputs.SiteInput.{SiteInput}
use Rattle.site_core.specs.declared.inputs.SiteInput.TheVariants as inputs
use Rattle.site_recovery.specs.Fit.{Fits, IsEnded}
use Rattle.site_recovery.specs.Laws.{AreInPlace, FitsStill, WasSent}
use Rattle.site_recovery.specs.Looks.{world_of}
use Rattle.site_recovery.proofs.Worlds.{steps_keep_the_fit, sends_keep_the_fit}
use Rattle.keeper_core.specs.Keeping.{IsAfter}
use Rattle.keeper_core.specs.declared.faults.Keep.{Keep}
use Rattle.keeper_core.specs.declared.faults.Keep.TheVariants.{Old, New}
use Rattle.keeper_core.specs.declared.faults.KeepFault.TheVariants.{Refused, Device, Store}
use Rattle.world_core.specs.declared.events.WorldInput.{WorldInput}
use Rattle.world_core.specs.declared.events.WorldInput.TheVariants.{Capture, Start, Deliver}
use Rattle.world_core.specs.declared.events.WorldEvent.{WorldEvent}
use Rattle.world_core.specs.declared.events.WorldEvent.TheVariants.{Step, Send, Stop, Reopen}
use Rattle.world_core.specs.declared.events.Answer.{Answer}
use Rattle.world_core.specs.declared.events.Answer.TheVariants.{Done, Fault, Sent, NoFrame, Stopped, Reopened, NotReopened, NoMemory}
use Rattle.world_core.specs.Laws.{TurnsKeepTheFit, RunsKeepTheFit}
use Rattle.world_core.specs.Turns.{GoesDown, Reopens, Runs, Sends, Steps, Stops, Turns, TurnsAt, TurnsFrom, frame_at, input_at, input_of_frame, site_of}
use Rattle.world_core.specs.Worlds.{Standing, Up, Down, WorldState, WorldFits, record_of, records}

-- The ways in which a turn changes the record of its site, and the frames sent.
pub data Way (old : Record) (sent : List Frame) (new : Record) (now : List Frame) : Type 0 where
  stays : new ≡ old → now ≡ sent → Way old sent new now
  goes_on : (input : SiteInput) → WasSent sent input → IsAfter old input new → now ≡ sent → Way old sent new now
  tells : (frame : Frame) → Contains (emitting.emittable old.engagement) frame → new ≡ old → now ≡ sent ++ frame ∷ [] → Way old sent new now

-- What a turn does is one of them.

got_among : {X : Type 0} (xs : List X) (place : ℕ) (x : X) → slice_get xs place ≡ Some x → Contains xs x
got_among xs place x e = (place, slice_get_within xs place x e, get_or_from_slice_get xs place x x e)

sent_at : (sent : List Frame) (place : ℕ) (frame : Frame) → frame_at sent place ≡ Some frame → Contains sent frame
sent_at sent zero frame e = let n : None ≡ Some frame = e in cc
sent_at sent (suc place) frame e = got_among sent place frame e

emitted_at : (r : Record) (place : ℕ) (frame : Frame) → emitting.frame_at r.engagement place ≡ Some frame → Contains (emitting.emittable r.engagement) frame
emitted_at r zero frame e = let n : None ≡ Some frame = e in cc
emitted_at r (suc place) frame e = got_among (emitting.emittable r.engagement) place frame e

frame_sent : (sent : List Frame) (site place : ℕ) (found : Option Frame) (input : SiteInput) → frame_at sent place ≡ found → input_of_frame site found ≡ Some input → WasSent sent input
frame_sent sent site place None input f e = let n : None ≡ Some input = e in cc
frame_sent sent site place (Some frame) input f e = λ g is.
    let delivered : inputs.Deliver frame ≡ inputs.Deliver g = (cond_some _ (inputs.Deliver frame) input e).1 ∙ is in
    let same : frame ≡ g = cc in
    subst (Contains sent) same (sent_at sent place frame f)

input_sent : (sent : List Frame) (site : ℕ) (told : WorldInput) (input : SiteInput) → input_at sent site told ≡ Some input → WasSent sent input
input_sent sent site (Capture bytes) input e = λ g is. let other : inputs.Capture bytes ≡ inputs.Deliver g = same_Some (inputs.Capture bytes) input e ∙ is in cc
input_sent sent site (Start root) input e = λ g is. let other : inputs.Start root ≡ inputs.Deliver g = same_Some (inputs.Start root) input e ∙ is in cc
input_sent sent site (Deliver place) input e = frame_sent sent site place (frame_at sent place) input refl e

module _ (old : Record) (sent now : List Frame) (same : now ≡ sent) where
  down_way : (input : SiteInput) (new : Standing) → WasSent sent input → GoesDown old input new → Way old sent (record_of new) now
  down_way input new was h = ⊎_elim
      (λ e. stays (ap record_of e) same)
      (λ a. goes_on input was (subst (IsAfter old input) (sym (ap record_of a.2)) a.1) same)
      h

  step_way : (found : Option SiteInput) (answer : Answer) (new : Standing) → ((input : SiteInput) → found ≡ Some input → WasSent sent input) → Steps old found answer new → Way old sent (record_of new) now
  step_way (Some input) (Done effects) new was h = goes_on input (was input refl) (subst (IsAfter old input) (sym (ap record_of h.2)) (effects, h.1)) same
  step_way (Some input) (Fault (Refused why)) new was h = stays (ap record_of h.1) same
  step_way (Some input) (Fault Device) new was h = down_way input new (was input refl) h
  step_way (Some input) (Fault Store) new was h = down_way input new (was input refl) h
  step_way (Some input) NoMemory new was h = stays (ap record_of h) same
  step_way None NoFrame new was h = stays (ap record_of h) same
  step_way found answer new was h = absurd h

  stop_way : (found : Option SiteInput) (keep : Keep) (answer : Answer) (new : Standing) → ((input : SiteInput) → found ≡ Some input → WasSent sent input) → Stops old found keep answer new → Way old sent (record_of new) now
  stop_way (Some input) Old Stopped new was h = stays (ap record_of h) same
  stop_way (Some input) New Stopped new was h = down_way input new (was input refl) h
  stop_way (Some input) Old NoMemory new was h = stays (ap record_of h) same
  stop_way (Some input) New NoMemory new was h = stays (ap record_of h) same
  stop_way None Old NoFrame new was h = stays (ap record_of h) same
  stop_way None New NoFrame new was h = stays (ap record_of h) same
  stop_way found keep answer new was h = absurd h

  reopen_way : (answer : Answer) (new : Standing) → Reopens old answer new → Way old sent (record_of new) now
  reopen_way Reopened new h = stays (ap record_of h) same
  reopen_way (NotReopened Device) new h = stays (ap record_of h) same
  reopen_way (NotReopened Store) new h = stays (ap record_of h) same
  reopen_way NoMemory new h = stays (ap record_of h) same
  reopen_way answer new h = absurd h

send_way : (old : Record) (sent now : List Frame) (place : ℕ) (found : Option Frame) (answer : Answer) (new : Record) → emitting.frame_at old.engagement place ≡ found → Sends found sent answer now → new ≡ old → Way old sent new now
send_way old sent now place (Some frame) (Sent n) new e h same = tells frame (emitted_at old place frame e) same h.0
send_way old sent now place (Some frame) NoMemory new e h same = stays same h
send_way old sent now place None NoFrame new e h same = stays same h
send_way old sent now place found answer new e h same = absurd h

pub turn_way : (old : Standing) (sent : List Frame) (event : WorldEvent) (answer : Answer) (new : Standing) (now : List Frame) → TurnsAt old sent event answer new now → Way (record_of old) sent (record_of new) now
turn_way (Up r) sent (Step site told) answer new now h = step_way r sent now h.1 (input_at sent site told) answer new (input_sent sent site told) h.0
turn_way (Up r) sent (Stop site told keep) answer new now h = stop_way r sent now h.1 (input_at sent site told) keep answer new (input_sent sent site told) h.0
turn_way (Up r) sent (Send site place) answer new now h = send_way r sent now place (emitting.frame_at r.engagement place) answer (record_of new) refl h.0 (ap record_of h.1)
turn_way (Up r) sent (Reopen site) answer new now h = stays (ap record_of h.1) h.2
turn_way (Down r) sent (Reopen site) answer new now h = reopen_way r sent now h.1 answer new h.0
turn_way (Down r) sent (Step site told) answer new now h = stays (ap record_of h.1) h.2
turn_way (Down r) sent (Stop site told keep) answer new now h = stays (ap record_of h.1) h.2
turn_way (Down r) sent (Send site place) answer new now h = stays (ap record_of h.1) h.2

-- Each of them keeps all fitting.

-- all fits still, each record is in its place, and each ended recall is as it was
pub record KeepsAll (old new : List Record) (now : List Frame) : Type 0 where
  pub places : AreInPlace new
  pub still : FitsStill (world_of old) (world_of new) now

same_ended : (rs : List Record) (now : List Frame) → AreInPlace rs → Fits (world_of rs) now → KeepsAll rs rs now
same_ended rs now places fits = record {
  places = places;
  still = record {
    fits = fits;
    ended_stay = λ r is. record { entry = refl; quarantine = λ s i. (λ h. h, λ h. h) };
  };
}

way_keeps : (rs : List Record) (sent : List Frame) (site : ℕ) (new : Record) (now : List Frame) → AreInPlace rs → Fits (world_of rs) sent → site < length rs → Way (world_of rs site) sent new now → KeepsAll rs (slice_set rs site new) now
way_keeps rs sent site new now places fits below (stays same same_sent) =
    subst (KeepsAll rs (slice_set rs site new)) (sym same_sent)
    (subst (λ r. KeepsAll rs (slice_set rs site r) sent) (sym same)
    (subst (λ l. KeepsAll rs l sent) (sym (set-get_or rs site (fresh [] site))) (same_ended rs sent places fits)))
way_keeps rs sent site new now places fits below (goes_on input was after same_sent) =
    let k = steps_keep_the_fit rs sent site input after.0 new places fits below was after.1 in
    subst (KeepsAll rs (slice_set rs site new)) (sym same_sent) (record { places = k.1; still = k.0 })
way_keeps rs sent site new now places fits below (tells frame among same more) =
    subst (KeepsAll rs (slice_set rs site new)) (sym more)
    (subst (λ r. KeepsAll rs (slice_set rs site r) (sent ++ frame ∷ [])) (sym same)
    (subst (λ l. KeepsAll rs l (sent ++ frame ∷ [])) (sym (set-get_or rs site (fresh [] site))) (same_ended rs (sent ++ frame ∷ []) places (sends_keep_the_fit rs sent site frame places fits below among))))

-- the record of a site that stands so
pub record_at : (sites : List Standing) (site : ℕ) (standing : Standing) → slice_get sites site ≡ Some standing → (site < length (map record_of sites)) × (world_of (map record_of sites) site ≡ record_of standing)
record_at sites site standing e =
    let there : slice_get (map record_of sites) site ≡ Some (record_of standing) = slice_get-map record_of sites site ∙ ap (option_map record_of) e in
    (slice_get_within _ site (record_of standing) there, get_or_from_slice_get _ site (record_of standing) (fresh [] site) there)

turn_keeps_from : (found : Option Standing) (old new : WorldState) (event : WorldEvent) (answer : Answer) → slice_get old.sites (site_of event) ≡ found → WorldFits old → TurnsFrom found old event answer new → KeepsAll (records old) (records new) new.sent
turn_keeps_from None old new event answer e fits h =
    subst (λ w. KeepsAll (records old) (records w) w.sent) (sym h.1) (same_ended (records old) old.sent fits.places fits.fits)
turn_keeps_from (Some standing) old new event answer e fits (changed, turns, is) =
    let site = site_of event in
    let there = record_at old.sites site standing e in
    let way = subst (λ r. Way r old.sent (record_of changed) new.sent) (sym there.1) (turn_way standing old.sent event answer changed new.sent turns) in
    subst (λ rs. KeepsAll (records old) rs new.sent) (sym (ap (map record_of) is ∙ map-set record_of old.sites site changed)) (way_keeps (records old) old.sent site (record_of changed) new.sent fits.places fits.fits there.0 way)

turn_keeps : (old new : WorldState) (event : WorldEvent) (answer : Answer) → WorldFits old → Turns old event answer new → KeepsAll (records old) (records new) new.sent
turn_keeps old new event answer fits h = turn_keeps_from (slice_get old.sites (site_of event)) old new event answer refl fits h

pub fit_from : (old : List Record) (new : WorldState) → KeepsAll old (records new) new.sent → WorldFits new
fit_from old new k = record { places = k.places; fits = k.still.fits }

pub turns_keep_the_fit : TurnsKeepTheFit
turns_keep_the_fit old new event answer fits h = fit_from (records old) new (turn_keeps old new event answer fits h)

-- A run.

-- what was ended before two changes is as it was after both
ended_on : (a b c : List Record) (sent now : List Frame) → KeepsAll a b sent → KeepsAll b c now → KeepsAll a c now
ended_on a b c sent now k l = record {
  places = l.places;
  still = record {
    fits = l.still.fits;
    ended_stay = λ r is.
        let first = k.still.ended_stay r is in
        let still : IsEnded (world_of b) r = (is.0, first.entry ∙ is.1, is.2) in
        let next = l.still.ended_stay r still in
        record {
          entry = next.entry ∙ first.entry;
          quarantine = λ s i. (λ h. (first.quarantine s i).0 ((next.quarantine s i).0 h), λ h. (next.quarantine s i).1 ((first.quarantine s i).1 h));
        };
  };
}

pub run_keeps : (old new : WorldState) (events : List WorldEvent) (answers : List Answer) → WorldFits old → Runs old events answers new → KeepsAll (records old) (records new) new.sent
run_keeps old new [] [] fits h = subst (λ w. KeepsAll (records old) (records w) w.sent) (sym h) (same_ended (records old) old.sent fits.places fits.fits)
run_keeps old new (event ∷ events) (answer ∷ answers) fits h =
    let k = turn_keeps old h.0 event answer fits h.1 in
    ended_on (records old) (records h.0) (records new) h.0.sent new.sent k (run_keeps h.0 new events answers (fit_from (records old) h.0 k) h.2)
run_keeps old new [] (answer ∷ answers) fits h = absurd h
run_keeps old new (event ∷ events) [] fits h = absurd h

pub runs_keep_the_fit : RunsKeepTheFit
runs_keep_the_fit old new events answers fits h = fit_from (records old) new (run_keeps old new events answers fits h)
