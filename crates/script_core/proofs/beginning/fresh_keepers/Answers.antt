use Rattle.std.proofs.Common.{◌≡◌, ◌+◌, ◌++◌, List, [], ◌∷◌, map, ap, sym, ◌∙◌, arith}
use Rattle.std.specs.List.{range_with_len}
use Rattle.std.proofs.lemmas.List.FromFn.{map-range_with_len_more}
use Rattle.keeper_core.specs.Memory.{InMemory}
use Rattle.script_core.specs.Beginning.{fresh_keeper}
use Rattle.script_core.proofs.beginning.fresh_keepers.Goals as goal

pub loop-number-preserved : goal.loop-number-preserved
loop-number-preserved c =
    let sites = c.args.sites.now in
    let n = c.loop-number.number in
    let none : 0 + n ≡ n = omega arith in
    c.in_ok-push.ensures.items ∙ ap (λ (xs : List InMemory). xs ++ c.in_ok-fresh_keeper.field-0 ∷ []) c.loop-number.invariant
    ∙ ap (λ (k : InMemory). map (fresh_keeper sites) (range_with_len 0 n) ++ k ∷ []) (c.in_ok-fresh_keeper.ensures ∙ ap (fresh_keeper sites) c.site_at.ensures)
    ∙ sym (map-range_with_len_more (fresh_keeper sites) 0 n n none)
