use Rattle.std.proofs.Common.{◌∙◌, ℕ, ◌<◌, length, sym, ap, subst}
use Rattle.std.specs.Option.{option_map}
use Rattle.trace_core.specs.declared.pairs.Pair.{Pair}
use Rattle.site_recovery.specs.Checking.{records_at}
use Rattle.report_core.specs.Differences.{difference}
use Rattle.report_core.specs.Verdicts.{IsVerdict}
use Rattle.report_core.specs.declared.audits.Verdict.TheVariants.{Differs}
use Rattle.report_core.proofs.Comparing.{parted_verdict, equal_verdict}
use Rattle.report_core.proofs.audits.audit.Goals as goal

pub returns-in-Some-first_difference-clause-ok : goal.returns-in-Some-first_difference-clause-ok
returns-in-Some-first_difference-clause-ok c =
    let records = records_at c.args.sites.now in
    let places = λ (s : ℕ) (below : s < length records). (c.requires.all s below).place in
    let whole = ap (λ l. difference l c.as_slice-2.result.now) c.as_slice.ensures.value ∙ ap (difference c.in_ok-held.held.items) c.as_slice-2.ensures.value in
    let verdict = parted_verdict records c.args.recall c.in_ok-held.held.items c.in_ok-reached.reached.items (c.in_ok-held.ensures.ascending places) c.in_ok-reached.ensures.ascending (c.in_ok-held.ensures.held places) c.in_ok-reached.ensures.reached
    c.in-Some-first_difference.pair.now c.in-Some-first_difference.missing (c.in-Some-first_difference.ensures ∙ whole) in
    subst (λ (p : Pair). IsVerdict records c.args.recall (Differs p c.in-Some-first_difference.missing)) (sym c.in_ok-copy-in-Some-first_difference.ensures) verdict

pub returns-clause-ok : goal.returns-clause-ok
returns-clause-ok c =
    let records = records_at c.args.sites.now in
    let places = λ (s : ℕ) (below : s < length records). (c.requires.all s below).place in
    let whole = ap (λ l. difference l c.as_slice-2.result.now) c.as_slice.ensures.value ∙ ap (difference c.in_ok-held.held.items) c.as_slice-2.ensures.value in
    let none = sym (ap (option_map (λ d. (d.0.now, d.1))) c.in-None.is) ∙ c.first_difference.ensures ∙ whole in (
      equal_verdict records c.args.recall c.in_ok-held.held.items c.in_ok-reached.reached.items (c.in_ok-held.ensures.ascending places) c.in_ok-reached.ensures.ascending (c.in_ok-held.ensures.held places) c.in_ok-reached.ensures.reached none,
      c.len.ensures ∙ sym c.as_slice.ensures.len ∙ ap length c.as_slice.ensures.value ∙ ap length c.in_ok-held.ensures.list,
    )
