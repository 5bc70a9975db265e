use Rattle.std.proofs.Common.{◌∙◌, sym}
use mathlib.Core.Bool.{false≢true}
use Rattle.gap_core.proofs.MissedReach.{pair_found, pair_not_found}
use Rattle.gap_core.proofs.missed_reach.note_if.Goals as goal

pub returns-in_ok-push : goal.returns-in_ok-push
returns-in_ok-push c =
    pair_found c.args.set.now c.args.pair.now c.in_ok-copy.field-0 c.args.found.now.items c.push.new.self.items (sym c.contains.ensures ∙ c.if-contains.true) c.in_ok-copy.ensures c.in_ok-push.ensures.items

pub returns-else-contains : goal.returns-else-contains
returns-else-contains c = pair_not_found c.args.set.now c.args.pair.now c.args.found.now.items (λ found. false≢true (sym c.if-contains.false ∙ c.contains.ensures ∙ found))
