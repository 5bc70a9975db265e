use Rattle.std.proofs.Common.{◌≡◌, ◌<◌, inl, inr, length, sym, ◌∙◌, subst}
use mathlib.Core.Bool.{false≢true}
use Rattle.std.proofs.lemmas.List.{length-map}
use Rattle.site_recovery.specs.Checking.{records_at, world_at}
use Rattle.site_recovery.specs.FittingAt.{IsOneOf}
use Rattle.site_core.proofs.OneAfterAnother.{lower_or_last}
use Rattle.site_recovery.proofs.SitesInTurn.{site_of}
use Rattle.site_recovery.proofs.places.are_all_sites.Goals as goal

pub returns-then-not-is_one_of : goal.returns-then-not-is_one_of
returns-then-not-is_one_of c =
    let refs = c.args.sites.now in
    let place = c.loop-place.place in
    let counted : length (records_at refs) ≡ length refs = length-map refs (λ r. r.now) in
    let stands = site_of refs place c.index-sites-place.result c.loop-place-test.true (sym c.index-sites-place.is) in (
      λ h. absurd (false≢true h),
      λ all. absurd (false≢true (sym c.if-not-is_one_of.true
          ∙ c.is_one_of.ensures.1 (subst (IsOneOf (length refs) place) stands (subst (λ n. IsOneOf n place (world_at refs place)) counted (all place (subst (λ n. place < n) (sym counted) c.loop-place-test.true)))))),
    )

pub loop-place-preserved : goal.loop-place-preserved
loop-place-preserved c =
    let refs = c.args.sites.now in
    let place = c.loop-place.place in
    let stands = site_of refs place c.index-sites-place.result c.loop-place-test.true (sym c.index-sites-place.is) in
    λ s low. elim (lower_or_last s place low) as (λ _. IsOneOf (length refs) s (world_at refs s)) [
      | inl lower ↦ c.loop-place.invariant s lower
      | inr last ↦ subst (λ z. IsOneOf (length refs) z (world_at refs z)) (sym last) (subst (IsOneOf (length refs) place) (sym stands) (c.is_one_of.ensures.0 c.if-not-is_one_of.false))
    ]
