use Rattle.std.proofs.Common.{◌↔◌, ℕ, List, subst, sym}
use Rattle.std.specs.List.{Contains}
use Rattle.std.proofs.lemmas.Result.{IfOk-weaker}
use Rattle.trace_core.specs.declared.pairs.Pair.{Pair}
use Rattle.trace_core.specs.Chains.{sites_at}
use Rattle.gap_core.specs.Adding.{ByOne}
use Rattle.gap_core.specs.LineEvents.{Holds, IsIndexed, IsPairOf, SomeDoes, pair_of}
use Rattle.gap_core.specs.declared.lines.GapLine.{GapLine}
use Rattle.gap_core.proofs.LineEventSteps.{line_indexed}
use Rattle.gap_core.proofs.line_events.index_of.Goals as goal

pub returns : goal.returns
returns c = IfOk-weaker c.places_of.result
    (λ index. (m : Pair × ℕ) → Holds c.args.kind index m ↔ SomeDoes c.args.kind (sites_at c.args.sites.now) c.as_slice.result.now m)
    (λ index. (line : GapLine) → Contains c.args.lines.now line → IsIndexed c.args.kind (sites_at c.args.sites.now) index (pair_of c.args.kind line))
    (λ index holds. line_indexed c.args.kind (sites_at c.args.sites.now) c.args.lines.now c.as_slice.result.now index
    (subst (λ (xs : List Pair). (p : Pair) → Contains xs p ↔ ByOne c.args.lines.now (IsPairOf c.args.kind) p) (sym c.as_slice.ensures.value) c.in_ok-pairs.ensures) holds)
    c.places_of.ensures
