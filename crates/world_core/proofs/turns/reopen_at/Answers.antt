use Rattle.std.proofs.Common.{◌≡◌, ◌∙◌, ◌<◌, Some, vec_len, vec_capacity, sym, ap, subst, arith, slice_get, slice_set}
use Rattle.std.specs.List.{insert}
use Rattle.std.proofs.lemmas.Bool.{cond-true}
use Rattle.std.proofs.lemmas.Option.{slice_get_read}
use Rattle.world_core.proofs.OneSite.{not_closed, reopens_turn}
use Rattle.world_core.proofs.Lifting.{kept_at, put_back}
use Rattle.std.specs.Prelude.{option_map}
use Rattle.world_core.proofs.KeeperKinds.{still_open, opened_anew, the_same}
use Rattle.world_core.proofs.turns.reopen_at.Goals as goal

pub returns-then-is_some-clause-world : goal.returns-then-is_some-clause-world
returns-then-is_some-clause-world g c =
    let keepers = c.args.keepers.now in
    let k = c.index.result.now in
    let same = c.number-place.ensures.value in
    let below = subst (λ n. n < vec_len keepers) (sym same) c.requires in
    let at = subst (λ n. slice_get keepers.items n ≡ Some k) same (slice_get_read keepers.items (vec_len keepers) c.number-place.result k keepers.ok.0 below c.index.ensures) in
    (k, k, at, kept_at keepers.items c.args.site k at, not_closed _ c.view.result _ (g.K.SiteKeeper.may k) c.is_some.result c.args.sent.now c.args.site c.view.ensures c.is_some.ensures c.if-is_some.true)

pub returns-clause-world : goal.returns-clause-world
returns-clause-world g c =
    let keepers = c.args.keepers.now in
    let was = c.remove.result in
    let now = c.reopened-keeper.result.0 in
    let place = c.number-place.result in
    let same = c.number-place.ensures.value in
    let below = subst (λ n. n < vec_len keepers) (sym same) c.requires in
    let at = subst (λ n. slice_get keepers.items n ≡ Some was) same (slice_get_read keepers.items (vec_len keepers) place was keepers.ok.0 below c.remove.ensures.value) in
    let room : vec_len c.remove.new.self < vec_capacity c.remove.new.self = omega (arith, c.remove.ensures.len, c.remove.ensures.capacity, keepers.ok.1) in
    let put = c.insert.ensures.items ∙ (cond-true _ _ _ (c.insert.ensures.succeeds room) ∙ (ap (λ xs. insert xs place now) c.remove.ensures.items ∙ put_back keepers.items place now (subst (λ n. place < n) keepers.ok.0 below))) in
    (was, now, at, put ∙ ap (λ n. slice_set keepers.items n now) same, reopens_turn _ (g.K.SiteKeeper.may was) _ (g.K.SiteKeeper.may now) c.args.sent.now c.args.site _ c.reopened-keeper.ensures.world)

pub returns-then-is_some-clause-kind : goal.returns-then-is_some-clause-kind
returns-then-is_some-clause-kind g c =
    let keepers = c.args.keepers.now in
    let k = c.index.result.now in
    let same = c.number-place.ensures.value in
    let below = subst (λ n. n < vec_len keepers) (sym same) c.requires in
    let at = subst (λ n. slice_get keepers.items n ≡ Some k) same (slice_get_read keepers.items (vec_len keepers) c.number-place.result k keepers.ok.0 below c.index.ensures) in
    (k, k, at, kept_at keepers.items c.args.site k at, still_open g.K.SiteKeeper.shown g.K.SiteKeeper.applies g.K.SiteKeeper.stops g.K.SiteKeeper.reopens c.view.result (λ s. s.now) k c.args.sent.now c.args.site c.is_some.result c.view.ensures c.is_some.ensures c.if-is_some.true)

pub returns-clause-kind : goal.returns-clause-kind
returns-clause-kind g c =
    let keepers = c.args.keepers.now in
    let was = c.remove.result in
    let now = c.reopened-keeper.result.0 in
    let place = c.number-place.result in
    let same = c.number-place.ensures.value in
    let below = subst (λ n. n < vec_len keepers) (sym same) c.requires in
    let at = subst (λ n. slice_get keepers.items n ≡ Some was) same (slice_get_read keepers.items (vec_len keepers) place was keepers.ok.0 below c.remove.ensures.value) in
    let room : vec_len c.remove.new.self < vec_capacity c.remove.new.self = omega (arith, c.remove.ensures.len, c.remove.ensures.capacity, keepers.ok.1) in
    let put = c.insert.ensures.items ∙ (cond-true _ _ _ (c.insert.ensures.succeeds room) ∙ (ap (λ xs. insert xs place now) c.remove.ensures.items ∙ put_back keepers.items place now (subst (λ n. place < n) keepers.ok.0 below))) in
    let shows = subst (λ k. option_map (λ s. s.now) c.view.result ≡ g.K.SiteKeeper.shown k) (the_same keepers.items place c.index.result.now was (subst (λ n. place < n) keepers.ok.0 below) c.index.ensures c.remove.ensures.value) c.view.ensures in
    (was, now, at, put ∙ ap (λ n. slice_set keepers.items n now) same, opened_anew g.K.SiteKeeper.shown g.K.SiteKeeper.applies g.K.SiteKeeper.stops g.K.SiteKeeper.reopens c.view.result (λ s. s.now) was now c.args.sent.now c.args.site c.is_some.result c.reopened-keeper.result.1 shows c.is_some.ensures c.if-is_some.false c.reopened-keeper.ensures.kind)

pub returns-then-is_some-clause-stored : goal.returns-then-is_some-clause-stored
returns-then-is_some-clause-stored g c =
    let keepers = c.args.keepers.now in
    let k = c.index.result.now in
    let same = c.number-place.ensures.value in
    let below = subst (λ n. n < vec_len keepers) (sym same) c.requires in
    let at = subst (λ n. slice_get keepers.items n ≡ Some k) same (slice_get_read keepers.items (vec_len keepers) c.number-place.result k keepers.ok.0 below c.index.ensures) in
    (k, k, at, kept_at keepers.items c.args.site k at, λ h. h)

pub returns-clause-stored : goal.returns-clause-stored
returns-clause-stored g c =
    let keepers = c.args.keepers.now in
    let was = c.remove.result in
    let now = c.reopened-keeper.result.0 in
    let place = c.number-place.result in
    let same = c.number-place.ensures.value in
    let below = subst (λ n. n < vec_len keepers) (sym same) c.requires in
    let at = subst (λ n. slice_get keepers.items n ≡ Some was) same (slice_get_read keepers.items (vec_len keepers) place was keepers.ok.0 below c.remove.ensures.value) in
    let room : vec_len c.remove.new.self < vec_capacity c.remove.new.self = omega (arith, c.remove.ensures.len, c.remove.ensures.capacity, keepers.ok.1) in
    let put = c.insert.ensures.items ∙ (cond-true _ _ _ (c.insert.ensures.succeeds room) ∙ (ap (λ xs. insert xs place now) c.remove.ensures.items ∙ put_back keepers.items place now (subst (λ n. place < n) keepers.ok.0 below))) in
    (was, now, at, put ∙ ap (λ n. slice_set keepers.items n now) same, c.reopened-keeper.ensures.stored)
