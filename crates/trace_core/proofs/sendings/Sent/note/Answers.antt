use Rattle.std.proofs.Common.{◌==◌, ◌&&◌, ◌||◌, ◌∷◌, [], ◌++◌, refl, sym, ap, ◌∙◌}
use Rattle.trace_core.proofs.SentSteps.{notes_had, sending_new, not_there}
use Rattle.trace_core.proofs.sendings.Sent.note.Goals as goal

-- it was sent there before
pub returns-then-has-clause-ok : goal.returns-then-has-clause-ok
returns-then-has-clause-ok c = notes_had c.args.self.now c.args.self.now (record { item = c.args.item; site = c.args.site }) refl ((c.sites_of.ensures c.args.site).0 (sym c.has.ensures ∙ c.if-has.true))

pub invariant_of-self-2 : goal.invariant_of-self-2
invariant_of-self-2 c = sending_new c.self.inside.log.items c.push_reserved.new.self.items c.self.inside.sites.items c.add_site.new.sites.items (record { item = c.args.item; site = c.args.site }) c.self.invariant
    (not_there c.self.inside.log.items c.args.self.now c.self.inside.sites.items c.args.item c.args.site c.sites_of.result c.self.view_is c.self.invariant (c.sites_of.ensures c.args.site) (sym c.has.ensures ∙ c.if-has.false))
    (c.push_reserved.ensures.items ∙ ap (λ xs. xs ++ record { item = c.args.item; site = c.args.site } ∷ []) c.in_ok-reserve.ensures.items)
    (λ n t. c.add_site.ensures n t ∙ ap (λ b. ((c.args.item == n) && (c.args.site == t)) || b) (c.make_room.ensures.same n t))
