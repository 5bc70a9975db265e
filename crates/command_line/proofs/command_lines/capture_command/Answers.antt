use Rattle.std.proofs.Common.{◌≡◌, Some, codes, length, refl, sym, ap, ◌∙◌, map}
use Rattle.std.proofs.lemmas.List.{length-map}
use Rattle.clap.specs.Words.{found_of, rows_of}
use Rattle.clap.proofs.WalkLemmas.{raw_values-rows}
use Rattle.command_line.proofs.Words.{are_several, gives_documents, ok_there, one_text_alone, several_of, whole_files}
use Rattle.command_line.proofs.command_lines.capture_command.Goals as goal

pub returns-then-is_one_input : goal.returns-then-is_one_input
returns-then-is_one_input c =
    let paths = sym (c.in_ok-paths.ensures ∙ raw_values-rows (found_of c.args.given.now) (codes "file")) in
    let one = c.is_one_input.ensures.0 c.if-is_one_input.true in (
      (
        refl,
        c.in_ok-folder.ensures,
        c.in_ok-site.ensures,
        (paths ∙ ap Some (one_text_alone c.in_ok-paths.paths.now _ one.1), whole_files (rows_of (found_of c.args.given.now)) c.in-Some.kind (sym c.has_many.ensures ∙ one.0) c.in-Some.ensures.one),
      ),
      c.requires,
    )

pub returns : goal.returns
returns c =
    let paths = sym (c.in_ok-paths.ensures ∙ raw_values-rows (found_of c.args.given.now) (codes "file")) in
    let copy = ok_there (λ v. v.items ≡ c.in_ok-paths.paths.now) c.copied.result c.in_ok-words.words c.in_ok-words.ensures.value c.copied.ensures in
    let texts = ap (λ xs. map (λ p. p.now) xs) (sym copy) in
    let same = sym (length-map c.in_ok-paths.paths.now (λ p. p.now)) ∙ ap length texts in
    record {
      several =
          several_of c.in-Some.kind c.has_many.result _ _ (sym c.has_many.ensures) same
          (are_several c.is_one_input.result c.has_many.result (length c.in_ok-paths.paths.now) c.is_one_input.ensures c.if-is_one_input.false);
      folder = c.in_ok-folder.ensures;
      site = c.in_ok-site.ensures;
      words = gives_documents (rows_of (found_of c.args.given.now)) _ c.in-Some.kind (paths ∙ ap Some texts, c.in-Some.ensures.one);
      terms = c.requires;
    }
