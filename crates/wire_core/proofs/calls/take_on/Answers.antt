use Rattle.std.proofs.Common.{◌≡◌, ◌∷◌, Option, Some, Contains, MatchOption, sym, ap, ◌∙◌, subst}
use Rattle.std.proofs.lemmas.List.Elements.{All-contains}
use Rattle.atomic_table.specs.Table.{rest}
use Rattle.frame_core.specs.declared.frames.Frame.{Frame}
use Rattle.wire_core.specs.declared.views.Doing.TheVariants.{Nothing, Reads}
use Rattle.wire_core.specs.declared.views.View.{View}
use Rattle.wire_core.specs.Frames.{sender}
use Rattle.world_core.specs.Turns.{addressee}
use Rattle.wire_core.specs.Changes.{Hands, on, asks, receives, does, does_receives, in_hand, Level, AllBut}
use Rattle.wire_core.proofs.Changes.{taken, changed_there}
use Rattle.wire_core.proofs.calls.take_on.Goals as goal

pub note-requires-clause-rests : goal.note-requires-clause-rests
note-requires-clause-rests c =
    let may = c.requires.may.held in
    (may.0, may.1, may.2, All-contains (λ e. e.doing ≡ Nothing) c.args.token.now.me.0.sites may.0 c.requires.seat.2 may.1)

pub exchange-frame-requires : goal.exchange-frame-requires
exchange-frame-requires c =
    let hit = c.note.ensures.told.0 c.if-note-ne-FULL.false in
    (c.note.ensures.seat ∙ c.requires.seat.0, (Some hit.0, ap (λ (m : Hands). m.1) hit.1 ∙ (λ k. (sym c.slot_index.ensures k, Some hit.0) ∷ sym (ap (λ (m : Hands). rest m.1) hit.1) k)))

pub release-requires-clause-reads : goal.release-requires-clause-reads
release-requires-clause-reads c =
    let hit = c.note.ensures.told.0 c.if-note-ne-FULL.false in
    let may = c.requires.may.held in
    let e' = does_receives c.args.from hit.0 may.0 in
    let view = ap (λ (m : Hands). m.0) c.exchange-frame.ensures.3 ∙ ap (λ (m : Hands). m.0) hit.1 in
    (e', subst (λ (v : View). Contains v.sites e') (sym view) (changed_there c.args.to (does_receives c.args.from hit.0) c.args.token.now.me.0.sites may.0 may.1 may.2), may.2, ap Reads hit.2)

pub returns-clause-answer : goal.returns-clause-answer
returns-clause-answer c =
    let hit = c.note.ensures.told.0 c.if-note-ne-FULL.false in
    let f = hit.0 in
    let is = ap in_hand (sym c.exchange-frame.ensures.2) ∙ ap (λ (m : Hands). in_hand m.1) hit.1 in
    let sites = ap (λ (m : Hands). m.0.sites) c.release.ensures.told ∙ ap (λ (m : Hands). on c.args.to (does Nothing) m.0.sites) c.exchange-frame.ensures.3 ∙ ap (λ (m : Hands). on c.args.to (does Nothing) m.0.sites) hit.1 ∙ taken c.args.to c.args.from f c.args.token.now.me.0.sites c.requires.seat.2 in
    subst (λ (r : Option Frame). MatchOption r ((c.release.new.token.me.0.sites ≡ on c.args.to (asks c.args.from) c.args.token.now.me.0.sites) × Level c.args.from c.args.to c.args.token.now.me.0.sites)
    (λ x. (c.release.new.token.me.0.sites ≡ on c.args.to (receives c.args.from x) c.args.token.now.me.0.sites) × (sender x ≡ c.args.from) × (addressee x ≡ c.args.to) × AllBut c.args.from c.args.to x c.args.token.now.me.0.sites))
    (sym is) (sites, hit.2, hit.3, hit.4 c.requires.seat.2)
