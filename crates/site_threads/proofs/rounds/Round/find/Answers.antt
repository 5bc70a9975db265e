use Rattle.std.proofs.Common.{◌∙◌, sym, ap, max, min}
use Rattle.std.specs.Prelude.{unwrap_or}
use Rattle.site_threads.proofs.Placing.{found_least, found_next, searched, searched_least}
use Rattle.site_threads.proofs.rounds.Round.find.Goals as goal

pub returns-then-is_some-clause-found : goal.returns-then-is_some-clause-found
returns-then-is_some-clause-found c = found_next _ _ c.args.self.now c.requires.round c.first_from-found.result c.first_from-found.ensures (sym c.is_some.ensures ∙ c.if-is_some.true)

pub returns-then-is_some-clause-round : goal.returns-then-is_some-clause-round
returns-then-is_some-clause-round c =
    let found = c.first_from-found.result in
    searched _ _ c.args.self.now c.requires.round found c.first_from-found.ensures c.ahead-self.result (c.ahead-self.ensures ∙ ap (λ n. max c.args.self.now.next (min (unwrap_or found n) n)) c.next_message.ensures.next)

pub returns-clause-found : goal.returns-clause-found
returns-clause-found c = found_least _ _ c.args.self.now c.requires.round c.first_from-found.result c.first_from-found-2.result c.first_from-found.ensures (sym c.is_some.ensures ∙ c.if-is_some.false) c.first_from-found-2.ensures

pub returns-clause-round : goal.returns-clause-round
returns-clause-round c =
    let found = c.first_from-found.result in
    let least = c.first_from-found-2.result in
    let first = searched _ _ c.args.self.now c.requires.round found c.first_from-found.ensures c.ahead-self.result (c.ahead-self.ensures ∙ ap (λ n. max c.args.self.now.next (min (unwrap_or found n) n)) c.next_message.ensures.next) in
    searched_least _ _ _ first least c.first_from-found-2.ensures c.ahead-self-2.result (c.ahead-self-2.ensures ∙ ap (λ n. max c.args.self.now.least (min (unwrap_or least n) n)) c.next_message-2.ensures.next)
