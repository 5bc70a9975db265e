use Rattle.std.proofs.Common.{◌∙◌, ap, arith}
use Rattle.std.specs.BTreeSet.{BTreeSet, contains}
use Rattle.trace_core.specs.declared.groups.Group.{Group}
use Rattle.trace_core.specs.Groups.{group_cmp}
use Rattle.trace_core.proofs.SeenSteps.{has_seen, none_seen_at}
use Rattle.trace_core.proofs.seen.Seen.has.Goals as goal

pub returns-then-site-len : goal.returns-then-site-len
returns-then-site-len c = has_seen c.self.inside.sites.items c.args.site c.args.first c.index.result.now c.has.result (omega (arith, c.if-site-len.true, c.len.ensures, c.self.inside.sites.ok)) c.index.ensures c.has.ensures
    ∙ ap (λ (seen : BTreeSet Group). contains group_cmp seen (record { site = c.args.site; first = c.args.first })) c.self.view_is

pub returns : goal.returns
returns c = none_seen_at c.self.inside.sites.items c.args.site c.args.first (omega (arith, c.if-site-len.false, c.len.ensures, c.self.inside.sites.ok))
    ∙ ap (λ (seen : BTreeSet Group). contains group_cmp seen (record { site = c.args.site; first = c.args.first })) c.self.view_is
