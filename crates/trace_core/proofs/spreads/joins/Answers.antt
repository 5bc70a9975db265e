use Rattle.std.proofs.Common.{ℕ, Option, List, option_map, ◌&&◌, ap, sym, ◌∙◌}
use Rattle.std.specs.List.{list_any}
use Rattle.trace_core.specs.PairTests.{takes_in, same_id}
use Rattle.trace_core.specs.Pairs.{make_id}
use Rattle.trace_core.proofs.PartMembers.{none_joined}
use Rattle.trace_core.proofs.spreads.joins.Goals as goal

pub returns-in-Some : goal.returns-in-Some
returns-in-Some c = c.is_input_of_part.ensures
    ∙ ap (λ o. list_any (λ e. takes_in c.args.item.now e.body && same_id (make_id e.body) (option_map (λ t. t.now) o)) c.args.book.now) (sym c.in-Some.is)
    ∙ ap (λ (o : Option (List ℕ)). list_any (λ e. takes_in c.args.item.now e.body && same_id (make_id e.body) o) c.args.book.now) c.make_id.ensures

pub returns-in-None : goal.returns-in-None
returns-in-None c = none_joined c.args.book.now c.args.item.now (make_id c.args.body.now) (sym c.make_id.ensures ∙ ap (λ o. option_map (λ t. t.now) o) c.in-None.is)
