use Rattle.std.proofs.Common.{◌≡◌, ◌+◌, ℕ, List, [], ◌∷◌, ◌++◌, map, length, ap, ◌∙◌}
use Rattle.std.specs.Borrow.{Bor}
use Rattle.std.proofs.lemmas.List.{length-append, length-map, map-append}
use Rattle.site_core.proofs.Quarantining.{place_of}
use Rattle.site_rows.proofs.AddressesInTurn.{one_more_told, texts_end, texts_full}
use Rattle.site_rows.proofs.reading_addressed.texts_of.Goals as goal

pub loop-place-preserved : goal.loop-place-preserved
loop-place-preserved c =
    let text = λ (t : Bor (List ℕ)). t.now in
    let before = c.loop-place.texts.items in
    let after = c.push.new.self.items in
    let pushed = c.in_ok-push-in-Some-as_str.ensures.items in
    let counted = c.loop-place.invariant.counted in
    let row = c.in-Some.row.now in
    let more : map text after ≡ map text before ++ row.text ∷ [] =
    ap (map text) pushed ∙ map-append text before (c.in-Some-as_str.text ∷ []) ∙ ap (λ t. map text before ++ t ∷ []) c.in-Some-as_str.ensures.0 in
    record {
      counted = ap length pushed ∙ length-append before (c.in-Some-as_str.text ∷ []) ∙ ap (λ n. n + 1) counted;
      told = one_more_told c.args.rows.now c.args.number c.loop-place.place (map text before) (map text after) row (length-map before text ∙ counted) more c.in-Some.ensures c.loop-place.invariant.told;
    }

pub returns-in-None : goal.returns-in-None
returns-in-None c =
    let text = λ (t : Bor (List ℕ)). t.now in
    let texts = c.loop-place.texts.items in
    texts_end c.requires.table.0 c.args.rows.now c.requires.table.1 c.args.number c.loop-place.place (map text texts) (length-map texts text ∙ c.loop-place.invariant.counted) c.loop-place.invariant.told c.in-None.ensures

pub returns : goal.returns
returns c =
    let text = λ (t : Bor (List ℕ)). t.now in
    let texts = c.loop-place.texts.items in
    texts_full c.requires.table.0 c.args.rows.now c.requires.table.1 c.args.number c.loop-place.place (map text texts) (length-map texts text ∙ c.loop-place.invariant.counted) c.loop-place-test.false c.loop-place.invariant.told

-- the text of a good row is UTF-8
pub unreachable-requires : goal.unreachable-requires
unreachable-requires c =
    let k = place_of c.args.rows.now c.in-Some.row.now c.in-Some.ensures.among in
    c.in-None-as_str.ensures (c.requires.table.1 k.0 c.in-Some.row.now k.1).plain.1
