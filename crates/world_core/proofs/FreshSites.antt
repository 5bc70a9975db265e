-- Sites at which nothing happened yet are consistent.
use Rattle.std.proofs.Common.{◌≡◌, refl, ℕ, ◌<◌, Some, List, [], length, sym, ap, ◌∙◌, subst, slice_get}
use Rattle.std.proofs.lemmas.Option.{slice_get-get_or}
use Rattle.event_json.specs.Sites.{Site}
use Rattle.site_core.specs.Records.{Record, fresh}
use Rattle.site_recovery.specs.Fit.{Fits}
use Rattle.site_recovery.specs.Laws.{AreInPlace}
use Rattle.site_recovery.specs.Looks.{world_of}
use Rattle.site_recovery.proofs.Worlds.{empty_fits}
use Rattle.site_recovery.proofs.Joined.{conditions_from_fit}
use Rattle.world_core.specs.Faults.{AreFresh, AreOneWorld}
use Rattle.world_core.specs.Laws.{FreshSitesFit}
use Rattle.world_core.specs.FormingLaws.{FreshSitesMakeAWorld, OnlyMemoryHindersAWorld}
use Rattle.world_core.specs.declared.faults.WorldFault.TheVariants as worlds
use Rattle.world_core.proofs.InPlace.{none_other}
use Rattle.world_core.specs.Worlds.{records}

module _ (rs : List Record) (one : AreOneWorld rs) (new : AreFresh rs) where
  pub fresh_at : (s : ℕ) → s < length rs → world_of rs s ≡ fresh one.0.sites s
  fresh_at s below =
      let r = world_of rs s in
      let at : slice_get rs s ≡ Some r = slice_get-get_or rs s (fresh [] s) below in
      let right = one.2.each s r at in
      new s r at ∙ ap (λ (l : List Site). fresh l r.engagement.me) right.0 ∙ ap (fresh one.0.sites) right.1

  in_places : AreInPlace rs
  in_places s below = record { captured = ap (λ r. r.captured.me) (fresh_at s below); engagement = ap (λ r. r.engagement.me) (fresh_at s below) }

pub fresh_sites_make_a_world : FreshSitesMakeAWorld
fresh_sites_make_a_world rs one new = record {
  one = one;
  places = in_places rs one new;
  fit = empty_fits one.0.sites rs (fresh_at rs one new);
}

pub memory_alone : OnlyMemoryHindersAWorld
memory_alone rs make worlds.NoMemory h = refl
memory_alone rs make (worlds.OtherSites place) h = absurd (none_other rs make.one place h)
memory_alone rs make (worlds.Misfit misfit) h = absurd (h.1.fails (conditions_from_fit (world_of rs) make.fit.records_fit h.1.condition misfit.site))
memory_alone rs make (worlds.Closed place) h = absurd h

pub fresh_sites_fit : FreshSitesFit
fresh_sites_fit world one new none = record {
  places = in_places (records world) one new;
  fits = subst (Fits (world_of (records world))) (sym none) (empty_fits one.0.sites (records world) (fresh_at (records world) one new));
}
