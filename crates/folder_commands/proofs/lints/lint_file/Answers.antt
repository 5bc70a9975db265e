use Rattle.std.proofs.Common.{[], ◌∷◌, inr, refl, subst}
use Rattle.document_lint.specs.Findings.{IsLint}
use Rattle.site_folders.specs.FileCalls.{ReadFile}
use Rattle.site_folders.proofs.CallsInTurn.{handed_on}
use Rattle.folder_commands.proofs.LintLemmas.{lint_broke, lint_unread}
use Rattle.folder_commands.proofs.lints.lint_file.Goals as goal

pub returns-in_err-bytes-clause-failed : goal.returns-in_err-bytes-clause-failed
returns-in_err-bytes-clause-failed g c = handed_on c.from_residual.result _ _ c.from_residual.ensures.1 (lint_unread g.F.Files.does _ c.args.path.now _ _ c.in_err-bytes.ensures.failed)

pub returns-in_err-found-clause-failed : goal.returns-in_err-found-clause-failed
returns-in_err-found-clause-failed g c =
    handed_on c.from_residual-in_err-found.result _ _ c.from_residual-in_err-found.ensures.1 (lint_broke g.F.Files.does _ c.args.path.now _ _ _ c.in_ok-bytes.ensures.read (inr refl))

pub returns-in_err-take-clause-failed : goal.returns-in_err-take-clause-failed
returns-in_err-take-clause-failed g c =
    handed_on c.from_residual-in_err-take.result _ _ c.from_residual-in_err-take.ensures.1 (lint_broke g.F.Files.does _ c.args.path.now _ _ _ c.in_ok-bytes.ensures.read c.in_err-take.ensures.failed)

pub returns-clause-all : goal.returns-clause-all
returns-clause-all g c =
    let bytes = c.in_ok-bytes.bytes.items in
    let found = c.in_ok-found.found in
    record {
      calls = ReadFile c.args.path.now bytes ∷ [];
      are = record {
        bytes = bytes;
        lint = found;
        found = subst (λ b. IsLint c.args.listing.now.sites.now c.args.listing.now.here b found) c.as_slice.ensures.value c.in_ok-found.ensures;
        told = c.in_ok-take.ensures.taken;
        counted = c.with.ensures;
        calls_are = refl;
      };
      led = (c.read.new.self, c.in_ok-bytes.ensures.read, refl);
    }
