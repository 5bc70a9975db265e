use Rattle.std.proofs.Common.{◌∙◌, arith, sym}
use Rattle.document_lint.proofs.SiteLists.{named_here, none_here, none_left, passed_next}
use Rattle.document_lint.proofs.unlisted.has_location.Goals as goal

pub returns-in_default : goal.returns-in_default
returns-in_default c =
    none_here c.args.location.now c.args.sites.now c.args.site c.loop-place.place _ c.in_default.is c.address.ensures c.loop-place.invariant.passed

pub returns-then-branch : goal.returns-then-branch
returns-then-branch c =
    named_here c.args.location.now c.args.sites.now c.args.site c.loop-place.place _ c.in-Some.address c.in-Some.is c.address.ensures
    (sym c.in_ok-is_named.ensures ∙ c.if-branch.true) c.loop-place.invariant.passed

pub loop-place-preserved : goal.loop-place-preserved
loop-place-preserved c = record {
  passed =
      passed_next c.args.location.now c.args.sites.now c.args.site c.loop-place.place _ c.in-Some.address c.in-Some.is c.address.ensures
      (sym c.in_ok-is_named.ensures ∙ c.if-branch.false) c.loop-place.invariant.passed;
  within = omega arith;
}

pub returns : goal.returns
returns c =
    none_left c.args.location.now c.args.sites.now c.args.site c.loop-place.place c.requires (omega arith) c.loop-place.invariant.passed
