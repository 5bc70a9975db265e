use Rattle.std.proofs.Common.{[], inl, inr, refl}
use Rattle.folder_commands.specs.declared.words.WordKind.TheVariants as kinds
use Rattle.folder_commands.proofs.BatchLemmas.{word_taken, word_unread}
use Rattle.folder_commands.proofs.StepLemmas.{match_err}
use Rattle.folder_commands.proofs.batches.take_word.Goals as goal

pub returns-in_err-inputs-in-Document : goal.returns-in_err-inputs-in-Document
returns-in_err-inputs-in-Document g c =
    rw c.in-Document.is
    (record {
      lasts = λ kept. kept;
      came = λ start at.
          match_err c.from_residual.result _ _ _ c.from_residual.ensures.1
          (word_unread (g.S.InputSink.takes c.args.sink.now) c.args.run.now.sites g.K.SiteKeeper.shown g.K.SiteKeeper.may g.F.Files.does kinds.Document c.args.word.now start _ _ _ _ _ (λ calls none. inr (refl, none)) at.shows at.hears c.in_err-inputs-in-Document.ensures.failed);
    })

pub returns-in_ok-inputs-in-Document : goal.returns-in_ok-inputs-in-Document
returns-in_ok-inputs-in-Document g c =
    rw c.in-Document.is
    (word_taken g.K.SiteKeeper.shown g.K.SiteKeeper.may g.K.SiteKeeper.stored (g.S.InputSink.takes c.args.sink.now) g.F.Files.does kinds.Document c.args.word.now _ _ _ _ _ _ _ _ (λ calls is. inl is) c.in_ok-inputs-in-Document.ensures.read c.take_each.ensures)

pub returns-in-DocumentLines : goal.returns-in-DocumentLines
returns-in-DocumentLines g c = rw c.in-DocumentLines.is c.take_lines.ensures

pub returns-in_err-inputs-in-DocumentEvents : goal.returns-in_err-inputs-in-DocumentEvents
returns-in_err-inputs-in-DocumentEvents g c =
    rw c.in-DocumentEvents.is
    (record {
      lasts = λ kept. kept;
      came = λ start at.
          match_err c.from_residual-in_err-inputs-in-DocumentEvents.result _ _ _ c.from_residual-in_err-inputs-in-DocumentEvents.ensures.1
          (word_unread (g.S.InputSink.takes c.args.sink.now) c.args.run.now.sites g.K.SiteKeeper.shown g.K.SiteKeeper.may g.F.Files.does kinds.DocumentEvents c.args.word.now start _ _ _ _ _ (λ calls none. inr (refl, none)) at.shows at.hears c.in_err-inputs-in-DocumentEvents.ensures.failed);
    })

pub returns-in_ok-inputs-in-DocumentEvents : goal.returns-in_ok-inputs-in-DocumentEvents
returns-in_ok-inputs-in-DocumentEvents g c =
    rw c.in-DocumentEvents.is
    (word_taken g.K.SiteKeeper.shown g.K.SiteKeeper.may g.K.SiteKeeper.stored (g.S.InputSink.takes c.args.sink.now) g.F.Files.does kinds.DocumentEvents c.args.word.now _ _ _ _ _ _ _ _ (λ calls is. inl is) c.in_ok-inputs-in-DocumentEvents.ensures.read c.take_each-in-DocumentEvents.ensures)

pub returns-in_err-inputs-in-Epc : goal.returns-in_err-inputs-in-Epc
returns-in_err-inputs-in-Epc g c =
    rw c.in-Epc.is
    (record {
      lasts = λ kept. kept;
      came = λ start at.
          match_err c.from_residual-in_err-inputs-in-Epc.result _ _ _ c.from_residual-in_err-inputs-in-Epc.ensures.1
          (word_unread (g.S.InputSink.takes c.args.sink.now) c.args.run.now.sites g.K.SiteKeeper.shown g.K.SiteKeeper.may g.F.Files.does (kinds.Epc c.in-Epc.spelling) c.args.word.now start _ _ _ _ _ (λ calls none. inr (refl, none)) at.shows at.hears
          (record { calls = []; are = inr (refl, inl refl); led = refl }));
    })

pub returns-in_ok-inputs-in-Epc : goal.returns-in_ok-inputs-in-Epc
returns-in_ok-inputs-in-Epc g c =
    rw c.in-Epc.is
    (word_taken g.K.SiteKeeper.shown g.K.SiteKeeper.may g.K.SiteKeeper.stored (g.S.InputSink.takes c.args.sink.now) g.F.Files.does (kinds.Epc c.in-Epc.spelling) c.args.word.now _ _ _ _ _ _ _ _ (λ calls is. inl is)
    (record { calls = []; are = (c.in_ok-inputs-in-Epc.ensures, refl); led = refl }) c.take_each-in-Epc.ensures)

pub returns-in-EpcLines : goal.returns-in-EpcLines
returns-in-EpcLines g c = rw c.in-EpcLines.is c.take_lines-in-EpcLines.ensures
