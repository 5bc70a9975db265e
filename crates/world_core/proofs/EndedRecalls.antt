-- What is quarantined under an ended recall, and that it stays so.
use Rattle.std.proofs.Common.{◌≡◌, ◌↔◌, ℕ, ◌<◌, Some, List, [], length, sym, ◌∙◌, ap, subst, Contains}
use Rattle.std.specs.FinMap.{get}
use Rattle.std.proofs.lemmas.List.{length-map}
use Rattle.std.proofs.lemmas.Option.{slice_get-get_or, slice_get_within, get_or_from_slice_get}
use Rattle.frame_core.specs.Numbers.{Recall}
use Rattle.site_core.specs.Records.{Record, fresh}
use Rattle.site_recovery.specs.Laws.{captured_of}
use Rattle.site_recovery.specs.Looks.{world_of, own}
use Rattle.site_recovery.proofs.Worlds.{ends_are_exact}
use Rattle.trace_core.specs.Chains.{Related}
use Rattle.trace_core.specs.Relations.{Reaches}
use Rattle.trace_core.proofs.PairOrder.{one_ascending}
use Rattle.world_core.specs.Faults.{AreOneWorld}
use Rattle.world_core.specs.Laws.{ComesOut, WorldEndsAreExact, EndedStays, QuarantinesAscend, RunsComeOut, RunsFromTheStartComeOut}
use Rattle.world_core.specs.Recalls.{HasEnded, quarantined}
use Rattle.world_core.specs.Turns.{AtEachMoment, Runs}
use Rattle.world_core.specs.Keepers.{ComesFrom}
use Rattle.world_core.specs.declared.events.Answer.{Answer}
use Rattle.world_core.specs.declared.events.WorldEvent.{WorldEvent}
use Rattle.world_core.specs.Worlds.{WorldFits, WorldState, record_of, records}
use Rattle.world_core.proofs.Emitted.{at_first, at_last, frames_were_emittable}
use Rattle.world_core.proofs.Fitting.{run_keeps, runs_keep_the_fit}
use Rattle.world_core.proofs.FreshSites.{fresh_sites_fit}
use Rattle.site_recovery.proofs.HeldPairs.{pairs_ascend, pairs_held}
use Rattle.world_core.proofs.KeptSteps.{sites_stand}
use Rattle.world_core.proofs.Pins.{runs_make_a_world_again}

begun_at : (recall : Recall) (root : List ℕ) (rs : List Record) (h : HasEnded recall root rs) → own (world_of rs) recall.site recall.number ≡ Some h.own
begun_at recall root rs h = ap (λ (r : Record). get r.engagement.own recall.number) (get_or_from_slice_get rs recall.site h.initiator (fresh [] recall.site) h.there) ∙ h.begun

pub quarantines_ascend : QuarantinesAscend
quarantines_ascend world recall fits = pairs_ascend recall (records world) fits.places

pub ended_is_exact : WorldEndsAreExact
ended_is_exact world recall fits root h p =
    let rs = records world in
    let held = pairs_held recall rs fits.places p in
    let exact = ends_are_exact rs fits.places fits.fits.records_fit recall h.own (begun_at recall root rs h) h.ended p.site p.item in
    subst (λ i. Contains (quarantined recall rs) p ↔ Reaches (Related (captured_of rs)) (record { site = recall.site; item = i }) p) h.from
    (λ at. exact.0 (held.0 at), λ reach. held.1 (exact.1 reach))

pub ended_stays : EndedStays
ended_stays old new events answers recall root fits run h =
    let k = run_keeps old new events answers fits run in
    let was = begun_at recall root (records old) h in
    let stays = k.still.ended_stay recall (h.own, was, h.ended) in
    let count : length (records new) ≡ length (records old) = length-map new.sites record_of ∙ (sites_stand old new events answers run).count ∙ sym (length-map old.sites record_of) in
    let below : recall.site < length (records new) = subst (λ n. recall.site < n) (sym count) (slice_get_within (records old) recall.site h.initiator h.there) in
    record {
      still = record {
        initiator = world_of (records new) recall.site;
        there = slice_get-get_or (records new) recall.site (fresh [] recall.site) below;
        own = h.own;
        begun = stays.entry ∙ was;
        from = h.from;
        ended = h.ended;
      };
      same = one_ascending (quarantined recall (records new)) (quarantined recall (records old)) (pairs_ascend recall (records new) k.places) (pairs_ascend recall (records old) fits.places)
          (λ p.
          let now = pairs_held recall (records new) k.places p in
          let then' = pairs_held recall (records old) fits.places p in
          let same = stays.quarantine p.site p.item in
          (λ at. then'.1 (same.0 (now.0 at)), λ at. now.1 (same.1 (then'.0 at))));
    }

-- All of it together.

pub runs_come_out : RunsComeOut
runs_come_out old new events answers fits one run =
    let fit_at : AtEachMoment old events answers new WorldFits = λ mid m. runs_keep_the_fit old mid m.before m.told fits m.runs_to in
    record {
      run = run;
      moments = (at_first old new events answers run, at_last old new events answers run);
      stand = sites_stand old new events answers run;
      emittable = frames_were_emittable old new events answers run;
      exact = λ mid m recall. ended_is_exact mid recall (fit_at mid m);
      ascend = λ mid m recall. quarantines_ascend mid recall (fit_at mid m);
      stay = λ mid m recall root. ended_stays mid new m.after m.later recall root (fit_at mid m) m.runs_on;
      again = λ mid m. runs_make_a_world_again old mid m.before m.told fits one m.runs_to;
    }

pub runs_from_the_start_come_out : RunsFromTheStartComeOut
runs_from_the_start_come_out old new events answers one fresh none run = runs_come_out old new events answers (fresh_sites_fit old one fresh none) one run

-- whatever world comes by a run from one of those that fit comes out so
pub comes_out : (was now : WorldState → Type 0) (events : List WorldEvent) (answers : List Answer)
    → ((old : WorldState) → was old → WorldFits old) → ((old : WorldState) → was old → AreOneWorld (records old))
    → ComesFrom was now (λ old new. Runs old events answers new) → ComesFrom was now (λ old new. ComesOut old events answers new)
comes_out was now events answers fit one runs new may = let r = runs new may in (r.0, r.1, runs_come_out r.0 new events answers (fit r.0 r.1) (one r.0 r.1) r.2)
