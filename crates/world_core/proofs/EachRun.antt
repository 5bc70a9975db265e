-- What each turn keeps of consistent records and the frames sent, whichever way it changes them, every run keeps.
use Rattle.std.proofs.Common.{◌≡◌, ◌⊎◌, inl, inr, ℕ, zero, suc, ◌<◌, Option, Some, None, List, [], ◌∷◌, length, map, refl, sym, ap, ◌∙◌, subst, slice_get, slice_set}
use Rattle.std.proofs.lemmas.List.{map-set}
use Rattle.std.proofs.lemmas.Option.{same_Some}
use Rattle.frame_core.specs.declared.frames.Frame.{Frame}
use Rattle.site_core.specs.Records.{Record}
use Rattle.site_recovery.specs.Fit.{Fits}
use Rattle.site_recovery.specs.Laws.{AreInPlace}
use Rattle.site_recovery.specs.Looks.{world_of}
use Rattle.world_core.specs.declared.events.Answer.{Answer}
use Rattle.world_core.specs.declared.events.WorldEvent.{WorldEvent}
use Rattle.world_core.specs.Turns.{Runs, TurnsFrom, site_of}
use Rattle.world_core.specs.Worlds.{Standing, WorldFits, WorldState, record_of, records}
use Rattle.world_core.proofs.Fitting.{Way, record_at, turn_way, turns_keep_the_fit}

-- what stands in a list with an entry set is the new entry or stood there before
pub set_or_stood : {X : Type 0} (xs : List X) (i : ℕ) (x : X) (j : ℕ) (y : X) → slice_get (slice_set xs i x) j ≡ Some y → (x ≡ y) ⊎ (slice_get xs j ≡ Some y)
set_or_stood [] i x j y e = inr e
set_or_stood (z ∷ zs) zero x zero y e = inl (same_Some x y e)
set_or_stood (z ∷ zs) zero x (suc j) y e = inr e
set_or_stood (z ∷ zs) (suc i) x zero y e = inr e
set_or_stood (z ∷ zs) (suc i) x (suc j) y e = set_or_stood zs i x j y e

module _ (P : List Record → List Frame → Type 0)
    (keeps : (rs : List Record) (sent : List Frame) (site : ℕ) (new : Record) (now : List Frame) → AreInPlace rs → Fits (world_of rs) sent → site < length rs → Way (world_of rs site) sent new now
    → P rs sent → P (slice_set rs site new) now) where
  turn_keeps_it : (found : Option Standing) (old new : WorldState) (event : WorldEvent) (answer : Answer) → slice_get old.sites (site_of event) ≡ found → WorldFits old → TurnsFrom found old event answer new
      → P (records old) old.sent → P (records new) new.sent
  turn_keeps_it None old new event answer e fits turns h = subst (λ w. P (records w) w.sent) (sym turns.1) h
  turn_keeps_it (Some standing) old new event answer e fits (changed, turns, is) h =
      let site = site_of event in
      let there = record_at old.sites site standing e in
      let way = subst (λ r. Way r old.sent (record_of changed) new.sent) (sym there.1) (turn_way standing old.sent event answer changed new.sent turns) in
      subst (λ rs. P rs new.sent) (sym (ap (map record_of) is ∙ map-set record_of old.sites site changed)) (keeps (records old) old.sent site (record_of changed) new.sent fits.places fits.fits there.0 way h)

  pub run_keeps_it : (old new : WorldState) (events : List WorldEvent) (answers : List Answer) → WorldFits old → Runs old events answers new → P (records old) old.sent → P (records new) new.sent
  run_keeps_it old new [] [] fits run h = subst (λ w. P (records w) w.sent) (sym run) h
  run_keeps_it old new (event ∷ events) (answer ∷ answers) fits (mid, turns, rest) h =
      run_keeps_it mid new events answers (turns_keep_the_fit old mid event answer fits turns) rest (turn_keeps_it (slice_get old.sites (site_of event)) old mid event answer refl fits turns h)
  run_keeps_it old new [] (answer ∷ answers) fits run h = absurd run
  run_keeps_it old new (event ∷ events) [] fits run h = absurd run
