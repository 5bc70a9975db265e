use Rattle.std.proofs.Common.{◌≡◌, [], ◌∷◌, ◌∙◌, rules}
use Rattle.site_tables.specs.Tables.{equals}
use Rattle.site_tables.proofs.Terms.{whole_two, one_term, no_term}
use Rattle.site_tables.proofs.known_checks.checks_one.Goals as goal

pub returns-then-nodes-ge2 : goal.returns-then-nodes-ge2
returns-then-nodes-ge2 c =
    let root = c.in-Some.root in
    let one : c.checks.inside.roots ≡ root ∷ [] = search rules in
    one_term c.checks.inside.nodes c.checks.inside.roots root (equals c.args.place 1) _ _ c.checks.view_is one (whole_two c.as_slice-nodes.result.now c.checks.inside.nodes root _ _ c.as_slice-nodes.ensures c.if-nodes-ge2.true c.is_equality.ensures)

pub returns-in-None : goal.returns-in-None
returns-in-None c =
    (λ h. absurd cc, λ e. absurd (no_term c.checks.inside.nodes c.checks.inside.roots (equals c.args.place 1) (λ root one. c.in-None.ensures root (c.as_slice.ensures ∙ one)) (c.checks.view_is ∙ e)))
