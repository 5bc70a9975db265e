use Rattle.std.proofs.Common.{◌++◌, ◌∙◌, [], ◌∷◌, refl, sym, ap, arith}
use Rattle.std.proofs.KnownBytes.{Appends-nil, Appends-trans}
use Rattle.std.proofs.lemmas.Option.{slice_get_past}
use Rattle.report_forms.specs.Accounts.{part_of}
use Rattle.serde_json.specs.Written.{comma_if, compact_text}
use Rattle.outcome_forms.specs.Json.{part_json}
use Rattle.outcome_forms.proofs.Lines.{later_is, rest_ends, rest_goes, text_of_beginning, texts_after, two_written}
use Rattle.outcome_forms.proofs.json_lines.write_parts.Goals as goal

pub loop-place-init : goal.loop-place-init
loop-place-init g c = ([], Appends-nil _, refl)

pub loop-place-preserved : goal.loop-place-preserved
loop-place-preserved g c =
    let of = part_json c.args.sites.now c.args.ways in
    let (done, told, is) = c.loop-place.invariant in
    let part = part_of c.in-Some.part in
    let piece = c.as_str.ensures.value ∙ c.in_ok-text.ensures ∙ ap (λ b. comma_if b ++ compact_text (of part)) (later_is c.loop-place.place) in
    (done ++ c.as_str.result.now, Appends-trans _ _ _ _ _ told c.in_ok-print.ensures.ok, rest_goes of c.args.account.now.parts c.loop-place.place part done c.as_str.result.now _ (sym c.in-Some.ensures) piece is)

pub returns-in_err-text-clause-text : goal.returns-in_err-text-clause-text
returns-in_err-text-clause-text g c = (c.loop-place.invariant.0, c.loop-place.invariant.1)

pub returns-in_err-print-clause-text : goal.returns-in_err-print-clause-text
returns-in_err-print-clause-text g c = texts_after _ _ _ (c.loop-place.invariant.0, c.loop-place.invariant.1) (text_of_beginning _ _ _ c.in_err-print.ensures.err)

pub returns-in_err-print-2-clause-text : goal.returns-in_err-print-2-clause-text
returns-in_err-print-2-clause-text g c = texts_after _ _ _ (c.loop-place.invariant.0, c.loop-place.invariant.1) (text_of_beginning _ _ _ c.in_err-print-2.ensures.err)

pub returns-clause-text : goal.returns-clause-text
returns-clause-text g c = texts_after _ _ _ (c.loop-place.invariant.0, c.loop-place.invariant.1) (_, c.in_ok-print-2.ensures.ok)

pub returns-clause-ok : goal.returns-clause-ok
returns-clause-ok g c =
    let parts = c.args.account.now.parts in
    let (done, told, is) = c.loop-place.invariant in
    let none = slice_get_past parts c.loop-place.place (omega (arith, c.loop-place-test.false, c.len-place-end.ensures)) in
    let contents = g.W.Write.contents in
    two_written (contents c.args.output.now) (contents c.loop-place.output) (contents c.print-2.new.output) done (93 ∷ []) _
    (rest_ends (part_json c.args.sites.now c.args.ways) parts c.loop-place.place done _ none is) told c.in_ok-print-2.ensures.ok
