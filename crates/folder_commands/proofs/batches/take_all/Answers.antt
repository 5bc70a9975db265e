use Rattle.std.proofs.Common.{◌++◌, ℕ, List, [], Bor, map, take, drop, refl, sym, ap, ◌∙◌}
use Rattle.std.proofs.lemmas.List.{drop_more, map-append, map_more, take-append-drop, take_all}
use Rattle.folder_commands.proofs.BatchLemmas.{read_from, words_broke, words_more}
use Rattle.folder_commands.proofs.StepLemmas.{match_err}
use Rattle.folder_commands.proofs.batches.take_all.Goals as goal

pub loop-word-init : goal.loop-word-init
loop-word-init g c = ((λ kept. kept), λ start at. (start, at, record { calls = []; are = record { inputs = []; read = (refl, refl); taken = refl }; led = refl }))

pub returns-in_err-take_word : goal.returns-in_err-take_word
returns-in_err-take_word g c =
    let (lasts, so_far) = c.loop-word.invariant in
    let takes = (g.S.InputSink.takes c.args.sink.now) in
    let shown = g.K.SiteKeeper.shown in
    let may = g.K.SiteKeeper.may in
    let sites = c.args.run.now.sites in
    let words = c.args.batch.now.words.now in
    let i = c.loop-word.word-index in
    let none : Bor (List ℕ) = record { ref_ptr = (0, 0); now = [] } in
    let parts = ap (map (λ p. p.now)) (sym (take-append-drop i words)) ∙ map-append (λ p. p.now) (take i words) (drop i words) ∙ ap (λ (ws : List (List ℕ)). map (λ p. p.now) (take i words) ++ ws) (ap (map (λ p. p.now)) (drop_more words i none c.loop-word-test.true)) in
    record {
      lasts = λ kept. c.take_word.ensures.lasts (lasts kept);
      came = λ start at.
          let (mid, there, some) = so_far start at in
          match_err c.from_residual.result _ _ _ c.from_residual.ensures.1
          (words_broke takes sites shown may g.F.Files.does c.args.batch.now.kind _ (map (λ p. p.now) (take i words)) _ _ start mid _ _ _ _ _ _ parts some
          (read_from shown may g.K.SiteKeeper.stored takes sites g.F.Files.does _ _ _ _ _ _ _ _ _ mid there c.in_err-take_word.ensures));
    }

pub loop-word-preserved : goal.loop-word-preserved
loop-word-preserved g c =
    let (lasts, so_far) = c.loop-word.invariant in
    let takes = (g.S.InputSink.takes c.args.sink.now) in
    let sites = c.args.run.now.sites in
    let none : Bor (List ℕ) = record { ref_ptr = (0, 0); now = [] } in (
      (λ kept. c.take_word.ensures.lasts (lasts kept)),
      λ start at.
          let (mid, there, some) = so_far start at in
          let (end, stands, more) = read_from g.K.SiteKeeper.shown g.K.SiteKeeper.may g.K.SiteKeeper.stored takes sites g.F.Files.does _ _ _ _ _ _ _ _ _ mid there c.in_ok-take_word.ensures in (
            end,
            stands,
            rw (map_more (λ p. p.now) c.args.batch.now.words.now c.loop-word.word-index none c.loop-word-test.true)
                (words_more takes sites g.F.Files.does c.args.batch.now.kind _ _ _ (map (λ p. p.now) (take c.loop-word.word-index c.args.batch.now.words.now)) _ start mid end some more),
          ),
    )

pub returns : goal.returns
returns g c =
    let (lasts, so_far) = c.loop-word.invariant in
    record {
      lasts = lasts;
      came = λ start at.
          let (mid, there, some) = so_far start at in
          (mid, there, rw (take_all c.loop-word.word-index c.args.batch.now.words.now c.loop-word-test.false) at some);
    }
