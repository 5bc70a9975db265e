use Rattle.std.proofs.Common.{true≢false, refl, sym, ◌∙◌}
use Rattle.site_threads.proofs.OneLog.{unmarked, unmarked_marks, may_mark, marked, marked_marks}
use Rattle.site_threads.proofs.following.follow.Goals as goal

pub mark-requires-clause-may : goal.mark-requires-clause-may
mark-requires-clause-may c = may_mark _ _ _ _ c.requires.may (λ e. true≢false (sym (c.are_same.ensures.1 (c.stamp_of-now.ensures ∙ e)) ∙ c.if-not-are_same.true))

pub returns-then-not-are_same-clause-follows : goal.returns-then-not-are_same-clause-follows
returns-then-not-are_same-clause-follows c = marked _ _ _ _ c.requires.may c.mark.new.seat.logs c.mark.ensures.marked

pub returns-else-not-are_same-clause-follows : goal.returns-else-not-are_same-clause-follows
returns-else-not-are_same-clause-follows c = unmarked _ _ _ _ c.requires.may (sym c.stamp_of-now.ensures ∙ c.are_same.ensures.0 c.if-not-are_same.false)

pub returns-then-not-are_same-clause-marks : goal.returns-then-not-are_same-clause-marks
returns-then-not-are_same-clause-marks c = marked_marks _ _ _ _ c.requires.may (λ e. true≢false (sym (c.are_same.ensures.1 (c.stamp_of-now.ensures ∙ e)) ∙ c.if-not-are_same.true)) c.mark.new.seat.logs c.mark.ensures.marked

pub returns-else-not-are_same-clause-marks : goal.returns-else-not-are_same-clause-marks
returns-else-not-are_same-clause-marks c = unmarked_marks _ _ _ _ c.requires.may (sym c.stamp_of-now.ensures ∙ c.are_same.ensures.0 c.if-not-are_same.false) _ refl
