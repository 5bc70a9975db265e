use Rattle.std.proofs.Common.{◌<◌, ◌≡◌, [], ◌∷◌, length, map, eqb-true, false-eqb, arith, refl, sym, subst, ◌∙◌, inr}
use Rattle.std.proofs.lemmas.List.{nil_from_length}
use Rattle.recall_text.specs.SiteLists.{IsSiteList}
use Rattle.site_folders.specs.Faults.{OnlyAsks}
use Rattle.site_folders.specs.FileCalls.{ReadFile}
use Rattle.site_folders.proofs.CallsInTurn.{handed_on}
use Rattle.site_folders.proofs.VainLemmas.{asks_first, none_asks}
use Rattle.folder_commands.specs.Lints.{LintsWhere}
use Rattle.folder_commands.specs.declared.lints.LintCame.TheVariants as lints
use Rattle.folder_commands.proofs.LintLemmas.{lint_behind, lint_broke, lint_unread, lints_listed, lints_refused}
use Rattle.folder_commands.proofs.lints.lint_documents.Goals as goal

pub returns-in_err-text-clause-failed : goal.returns-in_err-text-clause-failed
returns-in_err-text-clause-failed g c = handed_on c.from_residual.result _ _ c.from_residual.ensures.1 (lint_unread g.F.Files.does _ c.args.list.now _ _ c.in_err-text.ensures.failed)

pub returns-in_err-list-clause-failed : goal.returns-in_err-list-clause-failed
returns-in_err-list-clause-failed g c =
    handed_on c.from_residual-in_err-list.result _ _ c.from_residual-in_err-list.ensures.1 (lint_broke g.F.Files.does _ c.args.list.now _ _ _ c.in_ok-text.ensures.read (inr refl))

pub returns-in_err-refusals-clause-failed : goal.returns-in_err-refusals-clause-failed
returns-in_err-refusals-clause-failed g c =
    handed_on c.from_residual-in_err-refusals.result _ _ c.from_residual-in_err-refusals.ensures.1 (lint_broke g.F.Files.does _ c.args.list.now _ _ _ c.in_ok-text.ensures.read (inr refl))

pub returns-in_err-totals-clause-failed : goal.returns-in_err-totals-clause-failed
returns-in_err-totals-clause-failed g c =
    let read = ReadFile c.args.list.now c.in_ok-text.text.items in
    handed_on c.from_residual-in_err-totals.result _ _ c.from_residual-in_err-totals.ensures.1
    (lint_behind g.F.Files.does _ {Are = λ calls. calls ≡ read ∷ []} _ _ _ (λ calls is. subst OnlyAsks (sym is) (asks_first read [] tt none_asks)) (record { calls = read ∷ []; are = refl; led = (c.read.new.self, c.in_ok-text.ensures.read, refl) })
    c.in_err-totals.ensures.failed)

pub returns-then-is_empty-clause-all : goal.returns-then-is_empty-clause-all
returns-then-is_empty-clause-all g c =
    let whys = c.in_ok-refusals.refusals.items in
    let zero = eqb-true _ 0 (sym c.is_empty.ensures ∙ c.if-is_empty.true) in
    let none : length whys ≡ 0 = omega (arith, zero) in
    let list = c.in_ok-list.list in
    let text = c.in_ok-text.text.items in
    let each = c.in_ok-totals.ensures.all in
    record {
      calls = ReadFile c.args.list.now text ∷ each.calls;
      are = record {
        text = text;
        listed = list;
        is_list = subst (λ t. IsSiteList t list) c.as_slice.ensures.value c.in_ok-list.ensures;
        same = refl;
        whys = whys;
        reasons = c.in_ok-refusals.ensures;
        rest = each.calls;
        done =
            subst (λ h. LintsWhere (g.S.LintSink.takes c.args.sink.now) list h whys (map (λ p. p.now) c.args.paths.now) c.args.output.now c.lint_files.new.output (lints.Looked c.in_ok-totals.totals) each.calls) c.here_of-here.ensures
            (lints_listed (g.S.LintSink.takes c.args.sink.now) _ list c.here_of-here.result c.args.output.now c.lint_files.new.output (lints.Looked c.in_ok-totals.totals) each.calls whys (nil_from_length whys none) (record { last = _; each = each.are; told = refl; came_is = refl }));
        calls_are = refl;
      };
      led = (c.read.new.self, c.in_ok-text.ensures.read, each.led);
    }

pub returns-clause-all : goal.returns-clause-all
returns-clause-all g c =
    let whys = c.in_ok-refusals.refusals.items in
    let isnt = false-eqb _ 0 (sym c.if-is_empty.false ∙ c.is_empty.ensures) in
    let some : 0 < length whys = omega (arith, isnt) in
    let list = c.in_ok-list.list in
    let text = c.in_ok-text.text.items in
    record {
      calls = ReadFile c.args.list.now text ∷ [];
      are = record {
        text = text;
        listed = list;
        is_list = subst (λ t. IsSiteList t list) c.as_slice.ensures.value c.in_ok-list.ensures;
        same = refl;
        whys = whys;
        reasons = c.in_ok-refusals.ensures;
        rest = [];
        done = lints_refused (g.S.LintSink.takes c.args.sink.now) _ list _ _ _ _ [] whys some refl refl refl;
        calls_are = refl;
      };
      led = (c.read.new.self, c.in_ok-text.ensures.read, refl);
    }
