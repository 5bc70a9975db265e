use Rattle.std.proofs.Common.{◌≡◌, [], ◌∷◌, ◌∙◌, inl, inr, map, refl, ap, subst}
use Rattle.document_lint.specs.Splitting.{AreEventsOf, IsSplit, IsUnlisted}
use Rattle.site_folders.specs.FileCalls.{ReadFile}
use Rattle.site_folders.proofs.CallsInTurn.{handed_on}
use Rattle.folder_commands.specs.Words.{of_file}
use Rattle.folder_commands.proofs.WordLemmas.{read_in_vain, unread_file}
use Rattle.folder_commands.proofs.words.read_events.Goals as goal

pub returns-in_err-bytes-clause-failed : goal.returns-in_err-bytes-clause-failed
returns-in_err-bytes-clause-failed g c =
    handed_on c.from_residual.result _ _ c.from_residual.ensures.1 (unread_file g.F.Files.does c.args.path.now _ _ _ c.in_err-bytes.ensures.failed)

pub returns-in_err-split-clause-failed : goal.returns-in_err-split-clause-failed
returns-in_err-split-clause-failed g c =
    handed_on c.from_residual-in_err-split.result _ _ c.from_residual-in_err-split.ensures.1 (read_in_vain g.F.Files.does c.args.path.now _ _ c.in_ok-bytes.bytes.items c.in_ok-bytes.ensures.read)

pub returns-in_err-event_inputs-in-Events-clause-failed : goal.returns-in_err-event_inputs-in-Events-clause-failed
returns-in_err-event_inputs-in-Events-clause-failed g c =
    handed_on c.from_residual-in_err-event_inputs-in-Events.result _ _ c.from_residual-in_err-event_inputs-in-Events.ensures.1 (read_in_vain g.F.Files.does c.args.path.now _ _ c.in_ok-bytes.bytes.items c.in_ok-bytes.ensures.read)

pub returns-in_err-one_input-in-Unlisted-clause-failed : goal.returns-in_err-one_input-in-Unlisted-clause-failed
returns-in_err-one_input-in-Unlisted-clause-failed g c =
    handed_on c.from_residual-in_err-one_input-in-Unlisted.result _ _ c.from_residual-in_err-one_input-in-Unlisted.ensures.1 (read_in_vain g.F.Files.does c.args.path.now _ _ c.in_ok-bytes.bytes.items c.in_ok-bytes.ensures.read)

pub returns-in_ok-event_inputs-in-Events-clause-read : goal.returns-in_ok-event_inputs-in-Events-clause-read
returns-in_ok-event_inputs-in-Events-clause-read g c =
    let bytes = c.in_ok-bytes.bytes.items in
    let documents = map (λ d. d.items) c.in-Events.documents.items in
    let split : AreEventsOf bytes documents = subst (IsSplit bytes) c.in-Events.is c.in_ok-split.ensures in
    record {
      calls = ReadFile c.args.path.now bytes ∷ [];
      are = (bytes, inl (documents, split, c.in_ok-event_inputs-in-Events.ensures), refl);
      led = (c.read.new.self, c.in_ok-bytes.ensures.read, refl);
    }

pub returns-in_ok-one_input-in-Unlisted-clause-read : goal.returns-in_ok-one_input-in-Unlisted-clause-read
returns-in_ok-one_input-in-Unlisted-clause-read g c =
    let bytes = c.in_ok-bytes.bytes.items in
    let split : IsUnlisted bytes × (c.in-Unlisted.bytes.items ≡ bytes) = subst (IsSplit bytes) c.in-Unlisted.is c.in_ok-split.ensures in
    record {
      calls = ReadFile c.args.path.now bytes ∷ [];
      are = (bytes, inr (split.0, c.in_ok-one_input-in-Unlisted.ensures ∙ ap (λ bs. of_file c.args.path.now bs ∷ []) split.1), refl);
      led = (c.read.new.self, c.in_ok-bytes.ensures.read, refl);
    }
