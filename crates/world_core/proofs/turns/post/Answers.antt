use Rattle.std.proofs.Common.{◌≡◌, ◌≤◌, ◌∙◌, inl, inr, ℕ, List, Some, None, length, slice_get, refl, sym, ap, subst}
use Rattle.std.specs.Option.{option_map, option_and_then}
use Rattle.std.proofs.lemmas.Option.{slice_get_cases}
use Rattle.world_core.specs.Kinds.{KeepersTurnFrom}
use Rattle.world_core.specs.Posting.{IsPlaceOf}
use Rattle.world_core.specs.declared.events.Answer.TheVariants.{NoSite}
use Rattle.world_core.specs.declared.events.WorldEvent.TheVariants.{Send}
use Rattle.world_core.proofs.Lifting.{turn_at, no_site, kept_at}
use Rattle.world_core.proofs.KeeperKinds.{kind_at}
use Rattle.world_core.proofs.turns.post.Goals as goal

past : {X : Type 0} (xs : List X) (n : ℕ) → slice_get xs n ≡ None → length xs ≤ n
past xs n none = elim ((slice_get_cases xs n).1) as (λ _. length xs ≤ n) [
  | inl (x, within, is, at) ↦ let twice : None ≡ Some x = sym none ∙ is in cc
  | inr (over, is) ↦ over
]

pub returns-in-None : goal.returns-in-None
returns-in-None g c =
    let keepers = c.args.keepers.now.items in
    let sent = c.args.sent.now.items in
    let shown = g.K.SiteKeeper.shown in
    let none : slice_get keepers c.args.site ≡ None = ap (λ xs. slice_get xs c.args.site) (sym c.deref.ensures.value) ∙ sym c.keeper_at.ensures ∙ ap (option_map (λ k. k.now)) c.in-None.is in (
      0,
      subst (λ o. IsPlaceOf (option_and_then shown o) c.args.name 0) (sym none) tt,
      no_site shown g.K.SiteKeeper.may keepers sent (Send c.args.site 0) (past keepers c.args.site none),
      subst (λ o. KeepersTurnFrom shown g.K.SiteKeeper.applies g.K.SiteKeeper.stops g.K.SiteKeeper.reopens o (record { keepers = keepers; sent = sent }) (Send c.args.site 0) NoSite (record { keepers = keepers; sent = sent })) (sym none) (refl, refl),
    )

pub returns-in-Some : goal.returns-in-Some
returns-in-Some g c =
    let keepers = c.args.keepers.now.items in
    let sent = c.args.sent.now.items in
    let now = c.send_named_from.new.sent.items in
    let shown = g.K.SiteKeeper.shown in
    let keeper = c.in-Some.keeper.now in
    let at : slice_get keepers c.args.site ≡ Some keeper = ap (λ xs. slice_get xs c.args.site) (sym c.deref.ensures.value) ∙ sym c.keeper_at.ensures ∙ ap (option_map (λ k. k.now)) c.in-Some.is in
    let (place, is, world, kind) = c.send_named_from.ensures in
    let told = Send c.args.site place in (
      place,
      subst (λ o. IsPlaceOf (option_and_then shown o) c.args.name place) (sym at) is,
      turn_at shown g.K.SiteKeeper.may keepers keepers sent now told told c.send_named_from.result keeper keeper refl at (kept_at keepers c.args.site keeper at) world,
      kind_at shown g.K.SiteKeeper.applies g.K.SiteKeeper.stops g.K.SiteKeeper.reopens keepers keepers sent sent now told told c.send_named_from.result keeper keeper refl refl at (kept_at keepers c.args.site keeper at) kind,
    )
