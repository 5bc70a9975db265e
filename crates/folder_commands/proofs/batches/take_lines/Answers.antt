use Rattle.std.proofs.Common.{◌≡◌, ◌+◌, ℕ, [], ◌∷◌, ◌++◌, Some, None, length, inl, inr, refl, sym, ap, ◌∙◌, subst, arith, append-nil, length-append}
use Rattle.std.proofs.lemmas.List.{map_push}
use Rattle.std.proofs.lemmas.List.Elements.{Contains-append_right}
use Rattle.site_folders.specs.FileCalls.{Calls, Failed, ReadLine}
use Rattle.site_folders.proofs.CallsInTurn.{call_more, calls_then}
use Rattle.site_folders.proofs.VainLemmas.{is_first}
use Rattle.folder_commands.specs.Batches.{Takes}
use Rattle.folder_commands.specs.Words.{BeginsLines, of_lines, reads_lines}
use Rattle.folder_commands.proofs.BatchLemmas.{each_from, off_behind, off_of_each, takes_both}
use Rattle.folder_commands.proofs.StepLemmas.{match_err}
use Rattle.folder_commands.proofs.WordLemmas.{lines_more}
use Rattle.folder_commands.proofs.batches.take_lines.Goals as goal

pub loop-number-init : goal.loop-number-init
loop-number-init g c = ([], refl, refl, (λ kept. kept), λ start at. (start, at, refl))

pub returns-in_err-line : goal.returns-in_err-line
returns-in_err-line g c =
    let (texts, count, read, lasts, so_far) = c.loop-number.invariant in
    let takes = (g.S.InputSink.takes c.args.sink.now) in
    let sites = c.args.run.now.sites in
    let path = c.args.path.now in
    let last = Failed path _ ∷ [] in
    let inputs = of_lines c.args.doing path 1 texts in
    record {
      lasts = lasts;
      came = λ start at.
          let (mid, there, taken) = so_far start at in
          match_err c.from_residual.result _ _ _ c.from_residual.ensures.1
          (record {
            calls = reads_lines path texts ++ last;
            are =
                off_behind takes sites g.K.SiteKeeper.shown g.K.SiteKeeper.may (BeginsLines c.args.doing path) start mid inputs [] _ _ _ _ (texts, last, append-nil inputs, inr (_, refl), refl) taken there.shows there.hears
                (inl (path, Contains-append_right (reads_lines path texts) last (Failed path _) (is_first (Failed path _) [])));
            led = calls_then g.F.Files.does _ _ _ (reads_lines path texts) last read (c.read_line.new.self, c.in_err-line.ensures.failed, refl);
          });
    }

pub returns-in_default : goal.returns-in_default
returns-in_default g c =
    let (texts, count, read, lasts, so_far) = c.loop-number.invariant in
    let path = c.args.path.now in
    record {
      lasts = lasts;
      came = λ start at.
          let (mid, there, taken) = so_far start at in (
            mid,
            there,
            record {
              calls = reads_lines path texts ++ ReadLine path None ∷ [];
              are = record { inputs = of_lines c.args.doing path 1 texts; read = (texts, refl, refl); taken = taken };
              led = call_more g.F.Files.does _ _ _ (reads_lines path texts) (ReadLine path None) read (rw c.in_default.is at c.in_ok-line.ensures.read);
            },
          );
    }

pub returns-in_err-inputs : goal.returns-in_err-inputs
returns-in_err-inputs g c =
    let (texts, count, read, lasts, so_far) = c.loop-number.invariant in
    let takes = (g.S.InputSink.takes c.args.sink.now) in
    let sites = c.args.run.now.sites in
    let path = c.args.path.now in
    let line = c.in-Some.line.items in
    let inputs = of_lines c.args.doing path 1 texts in
    let all = texts ++ line ∷ [] in
    let calls : Calls g.F.Files.does c.args.files.now (reads_lines path all) c.read_line.new.self =
    subst (λ cs. Calls g.F.Files.does c.args.files.now cs c.read_line.new.self) (sym (map_push (λ text. ReadLine path (Some text)) texts line))
    (call_more g.F.Files.does _ _ _ (reads_lines path texts) (ReadLine path (Some line)) read (rw c.in-Some.is at c.in_ok-line.ensures.read)) in
    record {
      lasts = lasts;
      came = λ start at.
          let (mid, there, taken) = so_far start at in
          match_err c.from_residual-in_err-inputs.result _ _ _ c.from_residual-in_err-inputs.ensures.1
          (record {
            calls = reads_lines path all;
            are =
                off_behind takes sites g.K.SiteKeeper.shown g.K.SiteKeeper.may (BeginsLines c.args.doing path) start mid inputs (of_lines c.args.doing path (1 + length texts) (line ∷ [])) _ _ _ _
                (all, [], sym (lines_more c.args.doing path 1 texts line), inl refl, sym (append-nil (reads_lines path all))) taken there.shows there.hears (inr refl);
            led = calls;
          });
    }

pub returns-in_err-take_each : goal.returns-in_err-take_each
returns-in_err-take_each g c =
    let (texts, count, read, lasts, so_far) = c.loop-number.invariant in
    let takes = (g.S.InputSink.takes c.args.sink.now) in
    let shown = g.K.SiteKeeper.shown in
    let may = g.K.SiteKeeper.may in
    let sites = c.args.run.now.sites in
    let path = c.args.path.now in
    let line = c.in-Some.line.items in
    let inputs = of_lines c.args.doing path 1 texts in
    let all = texts ++ line ∷ [] in
    let calls : Calls g.F.Files.does c.args.files.now (reads_lines path all) c.read_line.new.self =
    subst (λ cs. Calls g.F.Files.does c.args.files.now cs c.read_line.new.self) (sym (map_push (λ text. ReadLine path (Some text)) texts line))
    (call_more g.F.Files.does _ _ _ (reads_lines path texts) (ReadLine path (Some line)) read (rw c.in-Some.is at c.in_ok-line.ensures.read)) in
    let given = c.in_ok-inputs.ensures ∙ ap (λ (n : ℕ). of_lines c.args.doing path n (line ∷ [])) count in
    let parts = lines_more c.args.doing path 1 texts line ∙ ap (λ ins. inputs ++ ins) (sym given) in
    record {
      lasts = λ kept. c.take_each.ensures.lasts (lasts kept);
      came = λ start at.
          let (mid, there, taken) = so_far start at in
          match_err c.from_residual-in_err-take_each.result _ _ _ c.from_residual-in_err-take_each.ensures.1
          (record {
            calls = reads_lines path all;
            are =
                off_of_each takes sites shown may (BeginsLines c.args.doing path) start mid inputs _ _ _ _ _ (all, [], sym parts, inl refl, sym (append-nil (reads_lines path all))) taken
                (each_from shown may g.K.SiteKeeper.stored takes sites _ _ _ _ _ _ mid there c.in_err-take_each.ensures);
            led = calls;
          });
    }

pub loop-number-preserved : goal.loop-number-preserved
loop-number-preserved g c =
    let (texts, count, read, lasts, so_far) = c.loop-number.invariant in
    let takes = (g.S.InputSink.takes c.args.sink.now) in
    let sites = c.args.run.now.sites in
    let path = c.args.path.now in
    let line = c.in-Some.line.items in
    let inputs = of_lines c.args.doing path 1 texts in
    let given = c.in_ok-inputs.ensures ∙ ap (λ (n : ℕ). of_lines c.args.doing path n (line ∷ [])) count in
    let parts = lines_more c.args.doing path 1 texts line ∙ ap (λ ins. inputs ++ ins) (sym given) in (
      texts ++ line ∷ [],
      subst (λ (n : ℕ). n + 1 ≡ 1 + length (texts ++ line ∷ [])) (sym count) (omega (arith, length-append texts (line ∷ []))),
      subst (λ cs. Calls g.F.Files.does c.args.files.now cs c.read_line.new.self) (sym (map_push (λ text. ReadLine path (Some text)) texts line))
          (call_more g.F.Files.does _ _ _ (reads_lines path texts) (ReadLine path (Some line)) read (rw c.in-Some.is at c.in_ok-line.ensures.read)),
      (λ kept. c.take_each.ensures.lasts (lasts kept)),
      λ start at.
          let (mid, there, taken) = so_far start at in
          let (end, stands, more) = each_from g.K.SiteKeeper.shown g.K.SiteKeeper.may g.K.SiteKeeper.stored takes sites _ _ _ _ _ _ mid there c.in_ok-take_each.ensures in
          (end, stands, subst (λ ins. Takes takes sites start ins end) (sym parts) (takes_both takes sites start mid end inputs _ taken more)),
    )

pub returns : goal.returns
returns g c =
    let (texts, count, read, lasts, so_far) = c.loop-number.invariant in
    let path = c.args.path.now in
    let inputs = of_lines c.args.doing path 1 texts in
    record {
      lasts = lasts;
      came = λ start at.
          let (mid, there, taken) = so_far start at in
          record {
            calls = reads_lines path texts;
            are =
                off_behind (g.S.InputSink.takes c.args.sink.now) c.args.run.now.sites g.K.SiteKeeper.shown g.K.SiteKeeper.may (BeginsLines c.args.doing path) start mid inputs [] _ _ _ _
                (texts, [], append-nil inputs, inl refl, sym (append-nil (reads_lines path texts))) taken there.shows there.hears (inr refl);
            led = read;
          };
    }
