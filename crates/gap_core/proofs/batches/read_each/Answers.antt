use Rattle.std.proofs.Common.{◌<◌, ℕ, List, subst, sym, ⊎_elim, arith}
use Rattle.std.specs.List.{Contains}
use Rattle.std.proofs.lemmas.List.{take_all}
use Rattle.trace_core.proofs.SetMembers.{contains_more}
use Rattle.gap_core.proofs.batches.read_each.Goals as goal

pub loop-site-preserved : goal.loop-site-preserved
loop-site-preserved c t h = ⊎_elim
    (λ was. c.loop-site.invariant t was)
    (λ same. subst (λ n. n < 16) same c.read_number.ensures)
    ((contains_more c.args.sites.now c.loop-site.site-index c.site-item.result (omega (arith, c.loop-site-test.true)) c.site-item.is t).0 h)

pub returns : goal.returns
returns c t h = c.loop-site.invariant t (subst (λ (xs : List ℕ). Contains xs t) (sym (take_all c.loop-site.site-index c.args.sites.now (omega (arith, c.loop-site-test.false)))) h)
