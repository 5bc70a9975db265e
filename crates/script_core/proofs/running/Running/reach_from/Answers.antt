use Rattle.std.proofs.Common.{◌≡◌, ap, ◌∙◌, sym, subst, ◌↔◌, Contains, None, refl}
use Rattle.std.proofs.lemmas.Result.{IfOk-weaker}
use Rattle.site_recovery.specs.Laws.{captured_of}
use Rattle.trace_core.specs.Chains.{Related, sites_at}
use Rattle.trace_core.specs.Relations.{Reaches}
use Rattle.trace_core.specs.declared.pairs.Pair.{Pair}
use Rattle.world_core.specs.Worlds.{records}
use Rattle.recall_text.specs.Answer.{answer_of, done}
use Rattle.recall_text.specs.Words.{pairs_text}
use Rattle.script_core.specs.Tasks.{IsReachText, WhereAllUp, first_down}
use Rattle.script_core.proofs.running.Running.reach_from.Goals as goal

pub returns : goal.returns
returns c =
    let w = c.args.self.now in
    let pairs = c.in_ok-pairs.pairs.items in
    let none : first_down w ≡ None = sym c.first_down.ensures ∙ c.in_default.is in
    IfOk-weaker c.pairs.result _ _
    (λ a e. subst (λ o. WhereAllUp w o (IsReachText w.sites (captured_of (records w.world)) c.args.root (answer_of a) × (w ≡ w)) (answer_of a) w) (sym none) (
      record {
        pairs = pairs;
        ascending = c.in_ok-pairs.ensures.ascending;
        reached = subst (λ captured. (p : Pair) → Contains pairs p ↔ Reaches (Related captured) c.args.root p) (ap sites_at c.as_slice.ensures.value ∙ c.in_ok-captured.ensures none) c.in_ok-pairs.ensures.reached;
        text = e ∙ ap (λ ps. done (pairs_text c.names-2.result.now ps)) c.as_slice-2.ensures.value ∙ ap (λ sites. done (pairs_text sites pairs)) c.names-2.ensures;
      },
      refl,
    ))
    c.pairs.ensures
