use Rattle.std.proofs.Common.{ap, arith, map}
use Rattle.std.specs.List.{find}
use Rattle.event_json.specs.Sites.{Site}
use Rattle.document_convert.specs.Places.{are_same}
use Rattle.document_convert.proofs.PlaceLemmas.{gathered_all, gathered_next, gathered_none}
use Rattle.document_convert.proofs.places.first_addresses.Goals as goal

pub loop-number-init : goal.loop-number-init
loop-number-init c = record {
  gathered =
      gathered_none (λ (s : Site). find (are_same c.args.by c.args.text.now) s.addresses) c.args.sites.now _ (ap (map (λ t. t.now)) c.new-found.ensures.items);
  within = omega arith;
}

pub loop-number-preserved : goal.loop-number-preserved
loop-number-preserved c = record {
  gathered =
      gathered_next (λ (s : Site). find (are_same c.args.by c.args.text.now) s.addresses) c.args.sites.now c.in-Some.site c.loop-number.number _ _
      c.in-Some.ensures.value c.in_ok-push_first.ensures c.loop-number.invariant.gathered;
  within = omega arith;
}

pub returns : goal.returns
returns c =
    gathered_all (λ (s : Site). find (are_same c.args.by c.args.text.now) s.addresses) c.args.sites.now c.loop-number.number _
    (omega arith) c.loop-number.invariant.gathered
