use Rattle.std.proofs.Common.{◌∙◌, arith, sym}
use Rattle.document_convert.specs.Places.{are_same}
use Rattle.document_convert.proofs.PlaceLemmas.{looked_here, looked_next, looked_none, none_left, none_there}
use Rattle.document_convert.proofs.places.first_address.Goals as goal

pub loop-place-init : goal.loop-place-init
loop-place-init c = record {
  looked = looked_none (are_same c.args.by c.args.text.now) c.args.sites.now c.args.site;
  within = omega arith;
}

pub returns-in_default : goal.returns-in_default
returns-in_default c =
    none_there (are_same c.args.by c.args.text.now) c.args.sites.now c.args.site c.loop-place.place _ c.in_default.is c.address.ensures
    c.loop-place.invariant.looked

pub returns-then-branch : goal.returns-then-branch
returns-then-branch c =
    looked_here (are_same c.args.by c.args.text.now) c.args.sites.now c.args.site c.loop-place.place _ c.in-Some.address c.in-Some.is c.address.ensures
    (sym c.in_ok-are_same.ensures ∙ c.if-branch.true) c.loop-place.invariant.looked

pub loop-place-preserved : goal.loop-place-preserved
loop-place-preserved c = record {
  looked =
      looked_next (are_same c.args.by c.args.text.now) c.args.sites.now c.args.site c.loop-place.place _ c.in-Some.address c.in-Some.is c.address.ensures
      (sym c.in_ok-are_same.ensures ∙ c.if-branch.false) c.loop-place.invariant.looked;
  within = omega arith;
}

pub returns : goal.returns
returns c =
    none_left (are_same c.args.by c.args.text.now) c.args.sites.now c.args.site c.loop-place.place c.requires (omega arith) c.loop-place.invariant.looked
