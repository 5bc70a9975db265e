use Rattle.std.proofs.Common.{◌<◌, ◌≡◌, ◌++◌, [], ◌∷◌, length, eqb-true, false-eqb, arith, refl, sym, subst, ◌∙◌}
use Rattle.std.proofs.lemmas.List.{nil_from_length}
use Rattle.recall_text.specs.SiteLists.{IsSiteList}
use Rattle.site_folders.specs.FileCalls.{ReadFile}
use Rattle.site_folders.proofs.CallsInTurn.{handed_on}
use Rattle.folder_commands.specs.Making.{refused_lines, too_few}
use Rattle.folder_commands.proofs.ListedLemmas.{comes_listed, comes_refused, list_ran_out, list_unread}
use Rattle.folder_commands.proofs.listed.listed_sites.Goals as goal

pub returns-in_err-text-clause-failed : goal.returns-in_err-text-clause-failed
returns-in_err-text-clause-failed g c = handed_on c.from_residual.result _ _ c.from_residual.ensures.1 (list_unread g.F.Files.does _ c.args.list.now _ _ c.in_err-text.ensures.failed)

pub returns-in_err-list-clause-failed : goal.returns-in_err-list-clause-failed
returns-in_err-list-clause-failed g c =
    handed_on c.from_residual-in_err-list.result _ _ c.from_residual-in_err-list.ensures.1 (list_ran_out g.F.Files.does _ c.args.list.now _ _ _ c.in_ok-text.ensures.read refl)

pub returns-in_err-refusals-clause-failed : goal.returns-in_err-refusals-clause-failed
returns-in_err-refusals-clause-failed g c =
    handed_on c.from_residual-in_err-refusals.result _ _ c.from_residual-in_err-refusals.ensures.1 (list_ran_out g.F.Files.does _ c.args.list.now _ _ _ c.in_ok-text.ensures.read refl)

pub returns-then-is_empty-clause-all : goal.returns-then-is_empty-clause-all
returns-then-is_empty-clause-all g c =
    let list = c.in_ok-list.list in
    let text = c.in_ok-text.text.items in
    let whys = refused_lines list ++ too_few list.sites in
    let zero = eqb-true _ 0 (sym c.is_empty.ensures ∙ c.if-is_empty.true) in
    let none : c.in_ok-refusals.refusals.items ≡ [] = nil_from_length c.in_ok-refusals.refusals.items (omega (arith, zero)) in
    record {
      calls = ReadFile c.args.list.now text ∷ [];
      are = record {
        text = text;
        listed = list;
        is_list = subst (λ t. IsSiteList t list) c.as_slice.ensures.value c.in_ok-list.ensures;
        comes = comes_listed list whys (sym c.in_ok-refusals.ensures ∙ none);
        calls_are = refl;
      };
      led = (c.read.new.self, c.in_ok-text.ensures.read, refl);
    }

pub returns-clause-all : goal.returns-clause-all
returns-clause-all g c =
    let list = c.in_ok-list.list in
    let text = c.in_ok-text.text.items in
    let whys = refused_lines list ++ too_few list.sites in
    let isnt = false-eqb _ 0 (sym c.if-is_empty.false ∙ c.is_empty.ensures) in
    let some : 0 < length c.in_ok-refusals.refusals.items = omega (arith, isnt) in
    record {
      calls = ReadFile c.args.list.now text ∷ [];
      are = record {
        text = text;
        listed = list;
        is_list = subst (λ t. IsSiteList t list) c.as_slice.ensures.value c.in_ok-list.ensures;
        comes = comes_refused list whys _ (subst (λ ws. 0 < length ws) c.in_ok-refusals.ensures some) c.in_ok-refusals.ensures refl refl;
        calls_are = refl;
      };
      led = (c.read.new.self, c.in_ok-text.ensures.read, refl);
    }
