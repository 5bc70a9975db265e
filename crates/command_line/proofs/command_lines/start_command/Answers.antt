use Rattle.std.proofs.Common.{◌≡◌, ◌≢◌, ℕ, true, Some, codes, length, refl, sym, ap, ◌∙◌, map, subst, inl}
use mathlib.Core.Bool.{false≢true}
use mathlib.Core.Logic.{◌⊎◌}
use Rattle.std.proofs.lemmas.List.{length-map}
use Rattle.clap.specs.Words.{found_of, rows_of}
use Rattle.clap.proofs.WalkLemmas.{raw_values-rows}
use Rattle.folder_commands.specs.declared.words.WordKind.{WordKind}
use Rattle.command_line.specs.CommandLines.{GivesWords, has_many}
use Rattle.command_line.proofs.Words.{are_several, epcs_have_lines, gives_epcs, mistake_there, not_set, ok_there, one_text_alone, plain_start, several_of}
use Rattle.command_line.proofs.command_lines.start_command.Goals as goal

pub returns-then-is_one_input : goal.returns-then-is_one_input
returns-then-is_one_input c =
    let epcs = sym (c.in_ok-epcs.ensures ∙ raw_values-rows (found_of c.args.given.now) (codes "epc")) in
    let one = c.is_one_input.ensures.0 c.if-is_one_input.true in (
      (
        refl,
        c.in_ok-folder.ensures,
        c.in_ok-site.ensures,
        (epcs ∙ ap Some (one_text_alone c.in_ok-epcs.epcs.now _ one.1), not_set c.is_set-by_lines.result one.0 c.is_set-by_lines.ensures),
        c.in_ok-spelling.ensures.one,
        c.is_set-dry.ensures,
        plain_start c.asks_plan.result (rows_of (found_of c.args.given.now)) c.asks_plan.ensures c.if-asks_plan.false,
      ),
      c.requires,
    )

pub returns-then-dry : goal.returns-then-dry
returns-then-dry c =
    let epcs = sym (c.in_ok-epcs.ensures ∙ raw_values-rows (found_of c.args.given.now) (codes "epc")) in
    let same = length-map c.in_ok-epcs.epcs.now (λ p. p.now) in
    let several = are_several c.is_one_input.result c.is_set-by_lines.result (length c.in_ok-epcs.epcs.now) c.is_one_input.ensures c.if-is_one_input.false in
    mistake_there _ c.mistake.result c.ok.result c.ok.ensures.value c.mistake.ensures
    (inl (record {
      epcs = map (λ p. p.now) c.in_ok-epcs.epcs.now;
      by_lines = c.is_set-by_lines.result;
      given = (epcs, c.is_set-by_lines.ensures);
      several = subst (λ (n : ℕ). (c.is_set-by_lines.result ≡ true) ⊎ (n ≢ 1)) (sym same) several;
      dry = c.is_set-dry.ensures.0 c.if-dry.true;
      plain = plain_start c.asks_plan.result (rows_of (found_of c.args.given.now)) c.asks_plan.ensures c.if-asks_plan.false;
    }))

pub returns : goal.returns
returns c =
    let epcs = sym (c.in_ok-epcs.ensures ∙ raw_values-rows (found_of c.args.given.now) (codes "epc")) in
    let copy = ok_there (λ v. v.items ≡ c.in_ok-epcs.epcs.now) c.copied.result c.in_ok-words.words c.in_ok-words.ensures.value c.copied.ensures in
    let texts = ap (λ xs. map (λ p. p.now) xs) (sym copy) in
    let same = sym (length-map c.in_ok-epcs.epcs.now (λ p. p.now)) ∙ ap length texts in
    let kind = c.epcs_kind-kind.ensures in
    record {
      several =
          several_of c.epcs_kind-kind.result c.is_set-by_lines.result _ _ (ap has_many kind ∙ epcs_have_lines c.is_set-by_lines.result c.in_ok-spelling.spelling) same
          (are_several c.is_one_input.result c.is_set-by_lines.result (length c.in_ok-epcs.epcs.now) c.is_one_input.ensures c.if-is_one_input.false);
      folder = c.in_ok-folder.ensures;
      site = c.in_ok-site.ensures;
      words =
          subst (λ (k : WordKind). GivesWords (codes "start") (rows_of (found_of c.args.given.now)) k (map (λ p. p.now) c.in_ok-words.words.items)) (sym kind)
          (gives_epcs (rows_of (found_of c.args.given.now)) _ c.is_set-by_lines.result c.in_ok-spelling.spelling (epcs ∙ ap Some texts, c.is_set-by_lines.ensures)
          (λ set. false≢true (sym c.if-dry.false ∙ c.is_set-dry.ensures.1 set)) c.in_ok-spelling.ensures.one (plain_start c.asks_plan.result (rows_of (found_of c.args.given.now)) c.asks_plan.ensures c.if-asks_plan.false));
      terms = c.requires;
    }
