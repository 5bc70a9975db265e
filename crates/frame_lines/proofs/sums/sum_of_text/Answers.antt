use Rattle.std.proofs.Common.{◌≡◌, ◌∙◌, ◌∷◌, [], ◌++◌, ℕ, List, take, ap}
use Rattle.std.proofs.lemmas.Result.{IfOk-weaker}
use Rattle.hex.specs.Hex.{encode_lower}
use Rattle.sha2.specs.Sha256.{sha256}
use Rattle.frame_lines.specs.Sums.{digested, sites_text, sum_of_text}
use Rattle.frame_lines.proofs.SumLemmas.{all_joined}
use Rattle.frame_lines.proofs.sums.sum_of_text.Goals as goal

pub returns : goal.returns
unfolding sum_of_text
returns c =
    let sites = c.args.sites.now in
    let text = c.args.text.now in
    let all = c.update.ensures _ (c.add_line-2.ensures _ (c.add_sites.ensures _ (c.add_line.ensures [] c.new-hasher.ensures))) in
    let digest = c.finalize-digest.ensures _ all in
    let whole : (((c.as_str.result.now ++ 10 ∷ []) ++ sites_text sites) ++ 10 ∷ []) ++ text ≡ digested sites c.args.chain.now text =
    all_joined c.as_str.result.now (sites_text sites) text ∙ ap (λ (t : List ℕ). digested sites t text) c.as_str.ensures.text in
    IfOk-weaker c.encode.result _ _ (λ s is. is ∙ ap (λ (d : List ℕ). encode_lower (take 8 d)) (digest ∙ ap sha256 whole)) c.encode.ensures
