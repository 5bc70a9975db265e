use Rattle.std.proofs.Common.{◌≡◌, ◌<◌, ◌↔◌, ℕ, Some, sym, subst, ap, ◌∙◌}
use Rattle.std.specs.List.{AllPairs, Contains}
use Rattle.std.proofs.lemmas.Result.{IfOk-weaker}
use Rattle.trace_core.specs.PairTests.{same_id}
use Rattle.trace_core.specs.Pairs.{make_id}
use Rattle.trace_core.specs.Places.{places_where, IsPartAt}
use Rattle.trace_core.specs.Sites.{SiteEvents}
use Rattle.trace_core.proofs.PlaceLists.{places_ascend}
use Rattle.trace_core.proofs.RelatedPlaces.{parts_exact}
use Rattle.trace_core.proofs.captured.Captured.parts_of.Goals as goal

pub returns-clause-ascending : goal.returns-clause-ascending
returns-clause-ascending c = IfOk-weaker c.copy_places.result
    (λ places. places.items ≡ c.parts_of.result.now)
    (λ places. AllPairs (λ j k. j < k) places.items)
    (λ places are. subst (AllPairs (λ j k. j < k)) (sym (are ∙ c.parts_of.ensures)) (places_ascend (λ e. same_id (make_id e.body) (Some c.args.id.now)) c.self.inside.book))
    c.copy_places.ensures

pub returns-clause-exact : goal.returns-clause-exact
returns-clause-exact c = IfOk-weaker c.copy_places.result
    (λ places. places.items ≡ c.parts_of.result.now)
    (λ places. (k : ℕ) → Contains places.items k ↔ IsPartAt c.args.self.now.events c.args.id.now k)
    (λ places are. parts_exact c.args.self.now.events c.args.id.now places.items
    (are ∙ c.parts_of.ensures ∙ ap (λ (s : SiteEvents). places_where (λ e. same_id (make_id e.body) (Some c.args.id.now)) s.events) c.self.view_is))
    c.copy_places.ensures
