use Rattle.std.proofs.Common.{◌≡◌, ◌∙◌, ◌<◌, Some, sym, ap, subst, append-nil, arith}
use Rattle.std.specs.Prelude.{slice_get}
use Rattle.sha2.specs.Hashers.{Holds256}
use Rattle.frame_lines.specs.Sums.{site_text}
use Rattle.frame_lines.proofs.SumLemmas.{all_taken, one_more, stands}
use Rattle.frame_lines.proofs.sums.add_sites.Goals as goal

pub loop-number-init : goal.loop-number-init
loop-number-init c = λ m held. subst (Holds256 c.args.hasher.now) (sym (append-nil m)) held

pub loop-number-preserved : goal.loop-number-preserved
loop-number-preserved c = λ m held.
    let sites = c.args.sites.now in
    let number = c.loop-number.number in
    let site = stands sites number (subst (λ n. number < n) c.len-number-end.ensures.count c.loop-number-test.true) in
    let there : slice_get sites c.in-Some.site ≡ Some site.0 = ap (slice_get sites) c.in-Some.ensures.value ∙ site.1 in
    subst (Holds256 c.add_site.new.hasher) (one_more site_text m sites number site.0 site.1) (c.add_site.ensures _ site.0 there (c.loop-number.invariant m held))

pub returns : goal.returns
returns c = λ m held.
    subst (Holds256 c.loop-number.hasher) (all_taken site_text m c.args.sites.now c.loop-number.number (omega (arith, c.len-number-end.ensures.count, c.loop-number-test.false))) (c.loop-number.invariant m held)
