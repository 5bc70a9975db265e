use Rattle.std.proofs.Common.{◌≡◌, ℕ, ◌∷◌, Some, Contains, refl, sym, ap, ◌∙◌, subst}
use Rattle.std.proofs.lemmas.List.Elements.{All-contains}
use Rattle.atomic_table.specs.Table.{rest}
use Rattle.wire_core.specs.declared.views.Doing.TheVariants.{Nothing}
use Rattle.wire_core.specs.declared.views.View.{View}
use Rattle.wire_core.specs.Frames.{sender}
use Rattle.world_core.specs.Turns.{addressee}
use Rattle.wire_core.specs.Changes.{Hands, on, offers, does_posts, does_writes, published, in_hand, Claimed}
use Rattle.wire_core.proofs.Changes.{posted, changed_there}
use Rattle.wire_core.proofs.calls.post_on.Goals as goal

pub claim-requires-clause-rests : goal.claim-requires-clause-rests
claim-requires-clause-rests c =
    let may = c.requires.may in
    (may.log, may.held, may.site ∙ sym c.sender-from.ensures, All-contains (λ e. e.doing ≡ Nothing) c.args.token.now.me.0.sites may.log c.requires.seat.2 may.held)

pub publish-requires-clause-frame : goal.publish-requires-clause-frame
publish-requires-clause-frame c =
    let f = c.args.frame in
    let from = c.sender-from.ensures in
    let may = c.requires.may in
    let e' = does_writes c.addressee-to.result (offers f) may.log in
    let hit = (c.claim.ensures.told.0 c.if-claim-ne-EMPTY.false).0 in
    let moved = c.exchange.ensures.3 in
    let hands = ap (λ (m : Hands). m.1) moved ∙ (λ k. (c.slot_index.ensures k, Some f) ∷ rest (hit k).1) in
    let view = ap (λ (m : Hands). m.0) moved ∙ ap (λ (m : Hands). m.0) hit in (
      f,
      hands,
      sym from,
      sym c.addressee-to.ensures,
      e',
      subst (λ (v : View). Contains v.sites e') (sym view) (changed_there c.sender-from.result (does_writes c.addressee-to.result (offers f)) c.args.token.now.me.0.sites may.log may.held (may.site ∙ sym from)),
      may.site ∙ sym from,
      refl,
      may.emitted,
    )

pub returns-clause-answer : goal.returns-clause-answer
returns-clause-answer c =
    let f = c.args.frame in
    let told = subst (λ (t : ℕ × ℕ). Claimed t.0 t.1 (offers f) c.args.token.now.me c.claim.result c.claim.new.token.me) (λ k. (c.sender-from.ensures k, c.addressee-to.ensures k)) c.claim.ensures.told in
    let hit = told.0 c.if-claim-ne-EMPTY.false in (
      ap (λ (m : Hands). m.0.sites) c.publish.ensures.told ∙ ap (λ (m : Hands). (published (in_hand m.1) m.0).sites) c.exchange.ensures.3 ∙ ap (λ (m : Hands). on (sender f) (does_posts f) m.0.sites) hit.0
          ∙ posted (sender f) (addressee f) f c.args.token.now.me.0.sites c.requires.seat.2,
      hit.1 c.requires.seat.2,
    )
