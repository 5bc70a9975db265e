use Rattle.std.proofs.Common.{◌≡◌, ◌∙◌, ◌++◌, [], ◌∷◌, arith, rules, sym}
use Rattle.document_lint.specs.Locations.{has_location, spelling}
use Rattle.document_lint.proofs.SiteLists.{kept_all, kept_as, kept_next, kept_none, kept_one}
use Rattle.document_lint.proofs.unlisted.spellings_at.Goals as goal
use Rattle.document_lint.proofs.unlisted.spellings_at.Goals.{then-branch+in_ok-spelling+in_ok-push, else-branch}

pub loop-number-init : goal.loop-number-init
loop-number-init c = record {
  kept = kept_none (has_location c.args.location.now) (spelling c.args.place.now) c.args.sites.now _ c.new-spellings.ensures.items;
  within = omega arith;
}

pub loop-number-preserved : goal.loop-number-preserved
loop-number-preserved c = record {
  kept =
      elim c.if-branch.branch [
        | then-branch+in_ok-spelling+in_ok-push w ↦
            (let more : c.if-branch.spellings.items ≡ c.loop-number.spellings.items ++ w.in_ok-spelling.field-0 ∷ [] = search rules in
            kept_one (has_location c.args.location.now) (spelling c.args.place.now) c.args.sites.now c.in-Some.site c.loop-number.number
            c.loop-number.spellings.items c.if-branch.spellings.items w.in_ok-spelling.field-0 c.in-Some.ensures.value
            (sym c.in_ok-has_location.ensures ∙ w.if-branch.true) w.in_ok-spelling.ensures more c.loop-number.invariant.kept)
        | else-branch w ↦
            (let same : c.loop-number.spellings.items ≡ c.if-branch.spellings.items = search rules in
            let left = kept_next (has_location c.args.location.now) (spelling c.args.place.now) c.args.sites.now c.in-Some.site c.loop-number.number
            c.loop-number.spellings.items c.in-Some.ensures.value (sym c.in_ok-has_location.ensures ∙ w.if-branch.false) c.loop-number.invariant.kept in
            kept_as _ _ c.args.sites.now _ _ _ same left)
      ];
  within = omega arith;
}

pub returns : goal.returns
returns c =
    kept_all (has_location c.args.location.now) (spelling c.args.place.now) c.args.sites.now c.loop-number.number _
    (omega arith) c.loop-number.invariant.kept
