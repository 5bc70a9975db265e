use Rattle.std.proofs.Common.{◌∷◌, ◌++◌, [], map, refl, sym, ap, ◌∙◌, subst, append-nil}
use Rattle.std.proofs.lemmas.List.{map_push, nil_from_length}
use Rattle.std.specs.Vec.Iter.{into_iter_items}
use Rattle.folder_commands.specs.Batches.{Takes}
use Rattle.folder_commands.specs.Inputs.{input_of}
use Rattle.folder_commands.proofs.BatchLemmas.{breaks_behind, each_from, takes_both}
use Rattle.folder_commands.proofs.StepLemmas.{match_err}
use Rattle.folder_commands.proofs.WordLemmas.{left_more, parts_of}
use Rattle.folder_commands.proofs.batches.take_each.Goals as goal

pub loop-input-init : goal.loop-input-init
loop-input-init g c = (sym c.into_iter-input-iterator.ensures.into_iter_gives.0, (λ kept. kept), λ start at. (start, at, refl))

pub returns-in_err-take : goal.returns-in_err-take
returns-in_err-take g c =
    let (left, lasts, so_far) = c.loop-input.invariant in
    let takes = (g.S.InputSink.takes c.args.sink.now) in
    let shown = g.K.SiteKeeper.shown in
    let may = g.K.SiteKeeper.may in
    let sites = c.args.run.now.sites in
    record {
      lasts = λ kept. c.take.ensures.lasts (lasts kept);
      came = λ start at.
          let (mid, there, taken) = so_far start at in
          let parts = parts_of input_of c.args.inputs.items c.loop-input.yielded (into_iter_items c.loop-input.input-iterator) _ c.in-Some.input left c.in-Some.ensures.steps.0 in
          match_err c.from_residual.result _ _ _ c.from_residual.ensures.1
          (breaks_behind takes sites shown may start mid _ (map input_of c.loop-input.yielded) (input_of c.in-Some.input ∷ []) _ _ _ _ parts taken
          (each_from shown may g.K.SiteKeeper.stored takes sites _ _ _ _ _ _ mid there c.in_err-take.ensures));
    }

pub loop-input-preserved : goal.loop-input-preserved
loop-input-preserved g c =
    let (left, lasts, so_far) = c.loop-input.invariant in
    let takes = (g.S.InputSink.takes c.args.sink.now) in
    let sites = c.args.run.now.sites in
    let yielded = c.loop-input.yielded in
    let input = c.in-Some.input in (
      left_more input_of c.args.inputs.items yielded (into_iter_items c.loop-input.input-iterator) _ input left c.in-Some.ensures.steps.0,
      (λ kept. c.take.ensures.lasts (lasts kept)),
      λ start at.
          let (mid, there, taken) = so_far start at in
          let (end, stands, more) = each_from g.K.SiteKeeper.shown g.K.SiteKeeper.may g.K.SiteKeeper.stored takes sites _ _ _ _ _ _ mid there c.in_ok-take.ensures in (
            end,
            stands,
            subst (λ ins. Takes takes sites start ins end) (sym (map_push input_of yielded input)) (takes_both takes sites start mid end (map input_of yielded) (input_of input ∷ []) taken more),
          ),
    )

pub returns : goal.returns
returns g c =
    let (left, lasts, so_far) = c.loop-input.invariant in
    let rest = c.loop-input.input-iterator.rest in
    let none = nil_from_length rest.items (sym rest.ok.0 ∙ c.in-None.ensures.steps.0) in
    let all = left ∙ ap (λ ds. c.loop-input.yielded ++ ds) none ∙ append-nil c.loop-input.yielded in
    record {
      lasts = lasts;
      came = λ start at.
          let (mid, there, taken) = so_far start at in
          (mid, there, subst (λ ds. Takes (g.S.InputSink.takes c.args.sink.now) c.args.run.now.sites start (map input_of ds) mid) (sym all) taken);
    }
