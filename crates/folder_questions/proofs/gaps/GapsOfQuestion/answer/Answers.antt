use Rattle.std.proofs.Common.{◌↔◌, ◌∙◌, ℕ, List, refl, ap, subst, option_map}
use Rattle.std.specs.List.{AllZip, Contains}
use Rattle.gap_core.specs.Lines.{AreGapLines, AreUsedLines}
use Rattle.gap_core.specs.Unlinked.{AreUnlinkedLines}
use Rattle.gap_core.specs.Unseen.{IsUnseen}
use Rattle.gap_core.specs.declared.lines.GapLine.{GapLine}
use Rattle.gap_core.specs.declared.unseen.UnseenItem.{UnseenItem}
use Rattle.site_recovery.specs.Laws.{captured_of}
use Rattle.site_recovery.specs.Checking.{records_at}
use Rattle.trace_core.specs.Chains.{sites_at}
use Rattle.trace_core.specs.Sites.{SiteEvents}
use Rattle.folder_questions.specs.Gaps.{IsTimed, Lists, NotesUnlinked}
use Rattle.folder_questions.proofs.GapLemmas.{listed_all, listed_none}
use Rattle.folder_questions.proofs.gaps.GapsOfQuestion.answer.Goals as goal
use Rattle.folder_questions.proofs.gaps.GapsOfQuestion.answer.Goals.{then-self, else-self}

pub returns : goal.returns
returns c =
    let all = captured_of (records_at c.args.records.now) in
    let here = ap sites_at c.as_slice-sites.ensures.value ∙ c.in_ok-captured.ensures in
    let lines = c.in_ok-unlinked.unlinked.items in
    let count = c.len-count.ensures ∙ c.in_ok-unlinked.unlinked.ok.0 in
    let shown : Lists c.args.self.now.all lines (option_map (λ v. v.items) c.if-self.gaps) = elim c.if-self.branch [
      | then-self w ↦ listed_all c.args.self.now.all c.in_ok-unlinked.unlinked c.if-self.gaps w.if-self.true w.gaps-is
      | else-self w ↦ listed_none c.args.self.now.all lines c.if-self.gaps w.if-self.false w.gaps-is
    ] in
    record {
      answered = (
        refl,
        record {
          lines = c.in_ok-packed.packed.lines;
          packed = subst (λ ss. AreGapLines ss c.in_ok-packed.packed.lines) here c.in_ok-packed.ensures.lines;
          timed = subst (λ (ss : List SiteEvents). AllZip (IsTimed ss) c.in_ok-packed.packed.lines c.in_ok-timed.field-0.items) here
              (subst (λ (ls : List GapLine). AllZip (IsTimed (sites_at c.as_slice-sites.result.now)) ls c.in_ok-timed.field-0.items) c.as_slice.ensures c.in_ok-timed.ensures);
          items = c.in_ok-packed.ensures.items;
          used = subst (λ ss. AreUsedLines ss c.in_ok-used_gaps.field-0.items) here c.in_ok-used_gaps.ensures;
          ascending = c.in_ok-unseen_items.ensures.ascending;
          unseen = subst (λ (ss : List SiteEvents). (u : UnseenItem) → Contains c.in_ok-unseen_items.field-0.items u ↔ IsUnseen ss u) here c.in_ok-unseen_items.ensures.exact;
          lots_ascending = c.in_ok-lot_gaps.ensures.ascending;
          lots = c.in_ok-lot_gaps.ensures.exact;
        },
        lines,
        subst (λ ss. AreUnlinkedLines ss lines) here c.in_ok-unlinked.ensures,
        shown,
        subst (λ (n : ℕ). NotesUnlinked c.args.self.now.all n c.unlinked_notes.result) count c.unlinked_notes.ensures,
      );
    }
