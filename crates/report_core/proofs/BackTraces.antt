-- What a trace back says beside a trace, that there is one, and that traces back go on.
use Rattle.std.proofs.Common.{◌≡◌, ◌&&◌, ◌==◌, inl, inr, Bool, List, [], ◌∷◌, Some, refl, sym, ◌∙◌, subst, ⊎_elim}
use mathlib.Core.Bool.{false≢true}
use Rattle.std.specs.Bool.{Decides}
use Rattle.std.specs.List.{AllZip, Any, Contains, list_any}
use Rattle.std.proofs.lemmas.Bool.{cases_Bool}
use Rattle.std.proofs.lemmas.Bool.Decides.{Decides-and, Decides-eqb}
use Rattle.trace_core.specs.Chains.{Related}
use Rattle.trace_core.specs.PairTests.{is_related}
use Rattle.trace_core.specs.Pairs.{pair_cmp}
use Rattle.trace_core.specs.Sites.{SiteEvents}
use Rattle.trace_core.specs.Trails.{TellsTrail}
use Rattle.trace_core.specs.declared.pairs.Pair.{Pair}
use Rattle.trace_core.proofs.Carrying.{reaches_then}
use Rattle.trace_core.proofs.PairOrder.{pairs_exact, pairs_total}
use Rattle.trace_core.proofs.PairTestsDecide.{any_decides, related_decides}
use Rattle.site_core.proofs.Ascending.{same_ascending}
use Rattle.site_recovery.specs.Laws.{captured_of}
use Rattle.report_core.specs.Laws.{BackTracesGoOn, BackTracesHaveRoots, OneBackTrace, PairsHaveSources, TracesAreConverse, TrailsAreConverse}
use Rattle.report_core.specs.Traces.{HasNoSource, LeadsTo}
use Rattle.report_core.proofs.TrailLengths.{equal_lengths, one_length}
use Rattle.report_core.proofs.Zips.{zip_at}

pub traces_are_converse : TracesAreConverse
traces_are_converse records site site' item item' t b is is' = (
  λ h. (is'.exact t.root).1 ((is.exact b.root).0 h),
  λ h. (is.exact b.root).1 ((is'.exact t.root).0 h),
)

pub trails_are_converse : TrailsAreConverse
trails_are_converse records site site' item item' t b is is' j k u v at to at' to' =
    let sites = captured_of records in
    let told = zip_at (λ p trail. TellsTrail sites t.root p (Some trail)) t.pairs t.trails is.trails j b.root u at to in
    let told' = zip_at (λ p trail. TellsTrail sites p b.root (Some trail)) b.pairs b.trails is'.trails k t.root v at' to' in
    (one_length sites t.root b.root u v told told', told'.0)

pub back_traces_have_roots : BackTracesHaveRoots
back_traces_have_roots records site item b is = (is.exact b.root).1 ([], tt, refl)

-- whether one of the sites relates the pair to the other one
abbrev relates : List SiteEvents → Pair → Pair → Bool
relates sites q p = list_any (λ (s : SiteEvents). s.me == q.site && is_related s q.item p) sites

relates_decides : (sites : List SiteEvents) (q p : Pair) → Decides (relates sites q p) (Related sites q p)
relates_decides sites q p = any_decides _ _ (λ (s : SiteEvents). Decides-and _ _ (Decides-eqb s.me q.site) (related_decides s q.item p)) sites

pub pairs_have_sources : PairsHaveSources
pairs_have_sources records site item b p is there =
    let sites = captured_of records in
    let test = list_any (λ q. relates sites q p) b.pairs in
    let decides : Decides test (Any (λ q. Related sites q p) b.pairs) = any_decides _ _ (λ q. relates_decides sites q p) b.pairs in
    let among : (q : Pair) → Related sites q p → Contains b.pairs q = λ q related.
    let (rest, chain, ends) = (is.exact p).0 there in
    (is.exact q).1 (p ∷ rest, (related, chain), ends) in (
      ⊎_elim
          (λ found. let (k, q, below, at, related) = decides.0 found in inr (q, (k, below, at), related))
          (λ missing. inl ((is.origins p).1 (
            there,
            λ q related.
                let (k, below, at) = among q related in
                false≢true (sym missing ∙ decides.1 (k, q, below, at, related)),
          )))
          (cases_Bool test),
      λ first. ((is.origins p).0 first).1,
    )

pub one_back_trace : OneBackTrace
one_back_trace records site item t u is is' =
    let same : t.root ≡ u.root = is.root ∙ sym is'.root in
    let pairs : t.pairs ≡ u.pairs = same_ascending pair_cmp pairs_total pairs_exact t.pairs u.pairs is.ascending is'.ascending
    (λ p. (
      λ at. (is'.exact p).1 (subst (λ z. LeadsTo records z p) same ((is.exact p).0 at)),
      λ at. (is.exact p).1 (subst (λ z. LeadsTo records z p) (sym same) ((is'.exact p).0 at)),
    )) in
    let sites = captured_of records in
    let told : AllZip (λ p trail. TellsTrail sites p u.root (Some trail)) u.pairs t.trails = subst (λ z. AllZip (λ p trail. TellsTrail sites p z (Some trail)) u.pairs t.trails) same
    (subst (λ ps. AllZip (λ p trail. TellsTrail sites p t.root (Some trail)) ps t.trails) pairs is.trails) in (
      same,
      pairs,
      equal_lengths (λ p trail. TellsTrail sites p u.root (Some trail)) (λ p. one_length sites p u.root) u.pairs t.trails u.trails told is'.trails,
      same_ascending pair_cmp pairs_total pairs_exact t.origins u.origins is.first_ones is'.first_ones
          (λ p. (
            λ at. (is'.origins p).1 (subst (λ ps. Contains ps p × HasNoSource records p) pairs ((is.origins p).0 at)),
            λ at. (is.origins p).1 (subst (λ ps. Contains ps p × HasNoSource records p) (sym pairs) ((is'.origins p).0 at)),
          )),
    )

pub back_traces_go_on : BackTracesGoOn
back_traces_go_on records site item p b u is at is' =
    let further : (q : Pair) → Contains u.pairs q → Contains b.pairs q = λ q there.
    (is.exact q).1 (reaches_then (Related (captured_of records)) q p b.root (subst (λ z. LeadsTo records z q) is'.root ((is'.exact q).0 there)) ((is.exact p).0 at)) in (
      further,
      λ q first. let (there, none) = (is'.origins q).0 first in (is.origins q).1 (further q there, none),
    )
