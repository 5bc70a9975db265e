use Rattle.std.proofs.Common.{rules, ◌≡◌, ◌++◌, List, ℕ, Some, string_bytes, sym, ap, ◌∙◌, append_assoc}
use Rattle.std.proofs.lemmas.Result.{on_ok_weaker}
use Rattle.std.proofs.lemmas.Str.Pattern.{split_parts}
use Rattle.report_forms.specs.Dot.{replaced}
use Rattle.report_forms.proofs.Replacing.{appended, replaced_first, replaced_none, without_some}
use Rattle.report_forms.proofs.replaced.push_replaced.Goals as goal

pub loop-before-preserved : goal.loop-before-preserved
loop-before-preserved c =
    let byte = c.args.byte in
    let with = c.args.with.now in
    let before = c.in-Some.before.now in
    let behind = c.in-Some.behind.now in
    let cut = split_parts byte c.loop-before.rest.now (Some (c.in-Some.before, c.in-Some.behind)) c.in-Some.ensures.cases c.requires in
    let rest : replaced byte with c.loop-before.rest.now ≡ before ++ (with ++ replaced byte with behind) =
    ap (replaced byte with) cut.0 ∙ replaced_first byte with before behind cut.1 in
    let text = string_bytes c.loop-before.text in
    let written : string_bytes c.push_str-in-Some.new.self ≡ (text ++ before) ++ with =
    c.in_ok-push_str-2.ensures.bytes ∙ ap (λ (t : List ℕ). t ++ with) c.in_ok-push_str.ensures.bytes in
    record {
      same = ap (λ (t : List ℕ). t ++ replaced byte with behind) written ∙ append_assoc (text ++ before) with (replaced byte with behind)
          ∙ append_assoc text before (with ++ replaced byte with behind) ∙ ap (λ (t : List ℕ). text ++ t) (sym rest) ∙ c.loop-before.invariant.same;
      text = search rules;
    }

pub returns : goal.returns
returns c =
    let byte = c.args.byte in
    let with = c.args.with.now in
    let rest = c.loop-before.rest.now in
    let lacks = without_some _ c.split_once.result (split_parts byte rest c.split_once.result c.split_once.ensures.cases c.requires) c.in_default.not-Some in
    let text = string_bytes c.loop-before.text in
    on_ok_weaker c.push_str-2.result (λ (written : string_bytes c.push_str-2.new.self ≡ text ++ rest). written ∙ ap (λ (t : List ℕ). text ++ t) (sym (replaced_none byte with rest lacks)) ∙ c.loop-before.invariant.same)
    (appended c.push_str-2.result (string_bytes c.push_str-2.new.self) text rest c.push_str-2.ensures.bytes)
