use Rattle.std.proofs.Common.{List, ◌≤◌, length, sym, subst, ltb-false}
use Rattle.trace_core.specs.declared.sendings.Sending.{Sending}
use Rattle.trace_core.specs.Sendings.{HasSites}
use Rattle.trace_core.proofs.SentSteps.{none_of_item}
use Rattle.trace_core.proofs.sendings.Sent.sites_of.Goals as goal

pub returns-in-None : goal.returns-in-None
returns-in-None c = none_of_item c.args.self.now c.self.inside.sites.items c.args.item c.new.result
    (subst (λ xs. length xs ≤ c.args.item) c.deref.ensures.value (ltb-false c.args.item (length c.deref.result.now) (sym c.in-None.ensures.lookup.0)))
    c.new.ensures (subst (λ (log : List Sending). HasSites log c.self.inside.sites.items) c.self.view_is c.self.invariant)
