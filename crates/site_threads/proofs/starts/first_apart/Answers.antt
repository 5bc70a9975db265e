use Rattle.std.proofs.Common.{◌+◌, ◌∙◌, ap}
use Rattle.site_threads.proofs.Starting.{first_and_others}
use Rattle.site_threads.proofs.starts.first_apart.Goals as goal

pub returns-in-Some-clause-parts : goal.returns-in-Some-clause-parts
returns-in-Some-clause-parts c r rs at few =
    let p = first_and_others c.args.me c.in-Some.next c.args.seat.logs r rs (c.in-Some.ensures.value ∙ ap (λ k. k + 1) c.number.ensures.value) at in
    (c.split.ensures.parts.0 ∙ p.0, c.split.ensures.parts.1 ∙ p.1)
