use Rattle.std.proofs.Common.{◌≡◌, Some, refl, sym, ap, ◌∙◌}
use Rattle.std.specs.Option.{option_map}
use Rattle.frame_core.specs.Numbers.{Recall}
use Rattle.site_recovery.specs.Checking.{world_at}
use Rattle.site_recovery.specs.Looks.{own}
use Rattle.site_recovery.proofs.reaching.is_begun.Goals as goal

pub returns-in-Some : goal.returns-in-Some
returns-in-Some c =
    let W = world_at c.args.sites.now in
    let is : own W c.recall.inside.site c.recall.inside.number ≡ Some c.in-Some.field-0.now = sym c.own.ensures ∙ ap (option_map (λ o. o.now)) c.in-Some.is in
    let at : own W c.args.recall.site c.args.recall.number ≡ Some c.in-Some.field-0.now = ap (λ (z : Recall). own W z.site z.number) (sym c.recall.view_is) ∙ is in
    (λ _. (c.in-Some.field-0.now, at), λ _. refl)
