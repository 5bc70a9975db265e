-- Every run keeps each record sound, and that its site awaits the signals that it is there for.
use Rattle.std.proofs.Common.{◌≡◌, inl, inr, ℕ, ◌<◌, List, [], length, Some, None, sym, ap, ◌∙◌, subst, slice_get, slice_set}
use Rattle.std.proofs.lemmas.Option.{slice_get-get_or, slice_get_within, get_or_from_slice_get}
use Rattle.std.specs.Ordering.{nat_cmp}
use Rattle.std.specs.FinMap as finite
use Rattle.frame_core.specs.Identifiers.{recall_cmp}
use Rattle.frame_core.specs.declared.frames.Frame.{Frame}
use Rattle.site_core.specs.Records.{Record, IsSound, fresh}
use Rattle.site_core.proofs.Records.{fresh_is_sound}
use Rattle.site_core.proofs.Soundness.{does_sound}
use Rattle.site_recovery.specs.Fit.{Fits}
use Rattle.site_recovery.specs.Laws.{AreInPlace}
use Rattle.site_recovery.specs.Looks.{world_of}
use Rattle.world_core.specs.EndingLaws.{AwaitsSignals, FreshSitesAreGoing, RunsKeepGoing}
use Rattle.world_core.proofs.Awaiting.{await_steps}
use Rattle.world_core.proofs.EachRun.{run_keeps_it, set_or_stood}
use Rattle.world_core.proofs.Fitting.{Way, goes_on, stays, tells}
use Rattle.world_core.proofs.FreshSites.{fresh_at}
use Rattle.world_core.proofs.Pins.{runs_make_a_world_again}

record IsGoing (r : Record) : Type 0 where
  sound : IsSound r
  await : AwaitsSignals r.engagement

abbrev AllGoing : List Record → Type 0
AllGoing rs = (place : ℕ) (r : Record) → slice_get rs place ≡ Some r → IsGoing r

-- the record of a site is one of them
pub record_there : (rs : List Record) (site : ℕ) → site < length rs → slice_get rs site ≡ Some (world_of rs site)
record_there rs site below = slice_get-get_or rs site (fresh [] site) below

way_goes : (rs : List Record) (sent : List Frame) (site : ℕ) (new : Record) (now : List Frame) → AreInPlace rs → Fits (world_of rs) sent → site < length rs → Way (world_of rs site) sent new now → AllGoing rs → IsGoing new
way_goes rs sent site new now places fits below (stays same same_sent) all = subst IsGoing (sym same) (all site (world_of rs site) (record_there rs site below))
way_goes rs sent site new now places fits below (tells frame among same more) all = subst IsGoing (sym same) (all site (world_of rs site) (record_there rs site below))
way_goes rs sent site new now places fits below (goes_on input was after same_sent) all =
    let old = world_of rs site in
    let going = all site old (record_there rs site below) in
    record {
      sound = does_sound old input after.0 new going.sound after.1;
      await = await_steps old new input after.0 (λ n x e. (fits.records_fit.numbers_are_below site).rows n x e)
          (λ r m mine e. (fits.records_fit.parents_lead_home site r m e).0 (sym (mine ∙ (places site below).engagement)))
          after.1 going.await;
    }

way_keeps_going : (rs : List Record) (sent : List Frame) (site : ℕ) (new : Record) (now : List Frame) → AreInPlace rs → Fits (world_of rs) sent → site < length rs → Way (world_of rs site) sent new now → AllGoing rs → AllGoing (slice_set rs site new)
way_keeps_going rs sent site new now places fits below way all place r e = elim (set_or_stood rs site new place r e) as (λ _. IsGoing r) [
  | inl set ↦ subst IsGoing set (way_goes rs sent site new now places fits below way all)
  | inr stood ↦ all place r stood
]

pub runs_keep_going : RunsKeepGoing
runs_keep_going old new events answers fits going run =
    let all = run_keeps_it (λ rs sent. AllGoing rs) way_keeps_going old new events answers fits run (λ place r e. record { sound = going.sound place r e; await = going.await place r e }) in
    record {
      one = (runs_make_a_world_again old new events answers fits going.one run).one;
      sound = λ place r e. (all place r e).sound;
      await = λ place r e. (all place r e).await;
    }

-- a site at which nothing happened awaits nothing
fresh_awaits : (r : Record) → r ≡ fresh r.sites r.engagement.me → AwaitsSignals r.engagement
fresh_awaits r new q (inl (p, e)) = absurd (let none : None ≡ Some p = sym (ap (λ (z : Record). finite.get z.engagement.parents q) new ∙ finite.get-empty recall_cmp q) ∙ e in cc)
fresh_awaits r new q (inr live) = absurd (let none : None ≡ Some live.own = sym (ap (λ (z : Record). finite.get z.engagement.own q.number) new ∙ finite.get-empty nat_cmp q.number) ∙ live.known in cc)

pub fresh_sites_are_going : FreshSitesAreGoing
fresh_sites_are_going rs one new = record {
  one = one;
  sound = λ place r e.
      let below = slice_get_within rs place r e in
      let is : world_of rs place ≡ r = get_or_from_slice_get rs place r (fresh [] place) e in
      subst IsSound (sym (fresh_at rs one new place below) ∙ is) (fresh_is_sound one.0.sites place (subst (λ n. place < n) one.2.number below));
  await = λ place r e. fresh_awaits r (new place r e);
}
