use Rattle.std.proofs.Common.{◌≡◌, ◌++◌, List, [], ◌∷◌, map, Some, None, ap, sym, ◌∙◌, arith}
use Rattle.std.proofs.lemmas.List.{map_push, take_all}
use Rattle.site_recovery.specs.Laws.{captured_of}
use Rattle.trace_core.specs.Sites.{SiteEvents}
use Rattle.world_core.specs.Worlds.{record_of}
use Rattle.script_core.specs.State.{up_at, up_in}
use Rattle.script_core.proofs.UpLemmas.{captured_by, captured_more, each_up}
use Rattle.script_core.proofs.running.Running.captured.Goals.{in-Some+in_ok-push, in_default}
use Rattle.script_core.proofs.running.Running.captured.Goals as goal

pub returns : goal.returns
returns c =
    λ none.
    let sites = c.args.self.now.world.sites in
    c.loop-number.invariant none ∙ ap (λ xs. captured_of (map record_of xs)) (take_all c.loop-number.number sites (omega arith))

pub loop-number-preserved : goal.loop-number-preserved
loop-number-preserved c =
    λ none.
    let w = c.args.self.now in
    let sites = w.world.sites in
    let n = c.loop-number.number in
    elim c.match-state.branch [
      | in-Some+in_ok-push w2 ↦
          let r = w2.in-Some.state.now in
          let up : up_in sites n ≡ Some r = ap (up_in sites) (sym c.site_at.ensures) ∙ sym w2.in-Some.ensures in
          rw w2.captured-is
          (ap (map (λ e. e.now)) w2.in_ok-push.ensures.items ∙ map_push (λ e. e.now) c.loop-number.captured.items w2.captured.result
          ∙ ap (λ (xs : List SiteEvents). xs ++ w2.captured.result.now ∷ []) (c.loop-number.invariant none)
          ∙ ap (λ (x : SiteEvents). captured_by sites n ++ x ∷ []) w2.captured.ensures ∙ sym (captured_more sites n r up))
      | in_default w2 ↦
          let gone : up_at w c.site_at.result ≡ None = sym w2.in_default.ensures in
          absurd (each_up sites n none (omega arith) (ap (up_in sites) (sym c.site_at.ensures) ∙ gone))
    ]
