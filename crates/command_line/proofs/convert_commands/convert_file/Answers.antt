use Rattle.std.proofs.Common.{[], ◌∷◌, refl, ap, ◌∙◌, subst}
use Rattle.std.specs.Prelude.{◌||◌, string_bytes}
use Rattle.std.specs.Io.KnownBytes.{Appends}
use Rattle.document_convert.specs.Converted.{AreConverted}
use Rattle.document_convert.specs.Texts.{pieces_of}
use Rattle.site_folders.specs.FileCalls.{ReadFile}
use Rattle.site_folders.proofs.CallsInTurn.{handed_on}
use Rattle.command_line.specs.Converting.{is_told}
use Rattle.command_line.proofs.ConvertLemmas.{convert_ran_out, convert_unread, convert_unwritten}
use Rattle.command_line.proofs.convert_commands.convert_file.Goals as goal

pub returns-in_err-bytes-clause-failed : goal.returns-in_err-bytes-clause-failed
returns-in_err-bytes-clause-failed g c =
    handed_on c.from_residual.result _ _ c.from_residual.ensures.1 (convert_unread g.F.Files.does g.W.Write.contents c.args.path.now _ _ _ _ c.in_err-bytes.ensures.failed)

pub returns-in_err-converted-clause-failed : goal.returns-in_err-converted-clause-failed
returns-in_err-converted-clause-failed g c =
    handed_on c.from_residual-in_err-converted.result _ _ c.from_residual-in_err-converted.ensures.1
    (convert_ran_out g.F.Files.does g.W.Write.contents c.args.path.now _ _ _ _ _ c.in_ok-bytes.ensures.read refl)

pub returns-in_err-tell_refused-clause-failed : goal.returns-in_err-tell_refused-clause-failed
returns-in_err-tell_refused-clause-failed g c =
    handed_on c.from_residual-in_err-tell_refused.result _ _ c.from_residual-in_err-tell_refused.ensures.1
    (convert_ran_out g.F.Files.does g.W.Write.contents c.args.path.now _ _ _ _ _ c.in_ok-bytes.ensures.read refl)

pub returns-in_err-print-clause-failed : goal.returns-in_err-print-clause-failed
returns-in_err-print-clause-failed g c =
    handed_on c.from_residual-in_err-print.result _ _ c.from_residual-in_err-print.ensures.1
    (convert_unwritten g.F.Files.does g.W.Write.contents c.args.path.now _ _ _ _ _ _ c.in_ok-bytes.ensures.read c.in_err-print.ensures.failed)

pub returns-clause-all : goal.returns-clause-all
returns-clause-all g c =
    let text = c.in_ok-bytes.bytes.items in
    let converted = c.in_ok-converted.converted in
    let are = subst (λ t. AreConverted c.args.asked.now.ways c.args.sites.now (pieces_of t) converted) c.as_slice.ensures.value c.in_ok-converted.ensures in
    record {
      calls = ReadFile c.args.path.now text ∷ [];
      are = record {
        text = text;
        read = refl;
        lines = string_bytes converted.lines;
        are = are.written;
        written =
            subst (λ t. Appends (g.W.Write.contents c.args.output.now) (g.W.Write.contents c.print.new.output) t) c.as_str.ensures.value
            c.in_ok-print.ensures.written;
        refused_is = c.with.ensures ∙ ap (λ told. c.args.total.refused || is_told told) are.told;
      };
      led = (c.read.new.self, c.in_ok-bytes.ensures.read, refl);
    }
