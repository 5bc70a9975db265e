use Rattle.std.proofs.Common.{◌≡◌, true, false, drop, ap, sym, ◌∙◌, nat_cmp}
use Rattle.std.specs.Ordering.{is_ne, ordering_then}
use Rattle.std.specs.Cmp.Lexicographic.{slice_cmp}
use Rattle.epc_core.proofs.Compared.{fronts_then_rests, then_ne, not_ne}
use Rattle.epc_core.proofs.item_texts.ItemText.compare.Goals as goal

pub returns-then-is_ne : goal.returns-then-is_ne
returns-then-is_ne c =
    let fronts = c.compare_blocks-fronts.ensures ∙ (λ i. slice_cmp nat_cmp (c.front.ensures.bytes i) (c.front-2.ensures.bytes i)) in
    let differ : is_ne c.compare_blocks-fronts.result ≡ true = sym c.is_ne.ensures ∙ c.if-is_ne.true in
    let whole = fronts_then_rests c.args.self.now c.args.other.now c.front.ensures.plain.allowed c.front-2.ensures.plain.allowed in
    fronts ∙ (sym (then_ne _ _ (ap is_ne (sym fronts) ∙ differ)) ∙ sym whole)

pub returns : goal.returns
returns c =
    let fronts = c.compare_blocks-fronts.ensures ∙ (λ i. slice_cmp nat_cmp (c.front.ensures.bytes i) (c.front-2.ensures.bytes i)) in
    let same : is_ne c.compare_blocks-fronts.result ≡ false = sym c.is_ne.ensures ∙ c.if-is_ne.false in
    let whole = fronts_then_rests c.args.self.now c.args.other.now c.front.ensures.plain.allowed c.front-2.ensures.plain.allowed in
    let rests : slice_cmp nat_cmp (drop 30 c.args.self.now) (drop 30 c.args.other.now) ≡ c.compare_rests.result = sym c.compare_rests.ensures in
    sym (whole ∙ (ap (λ o. ordering_then o (slice_cmp nat_cmp (drop 30 c.args.self.now) (drop 30 c.args.other.now))) (sym fronts ∙ not_ne _ same) ∙ rests))
