-- What a change returns is fixed by the change.
use Rattle.std.proofs.Common.{◌≡◌, inl, inr, Some, None, refl, sym, ap, ◌∙◌, arith}
use Rattle.frame_core.specs.Numbers.{Recall, Message}
use Rattle.frame_core.specs.Laws.{IsRowOf, HasNoRows}
use Rattle.scholten_core.specs.declared.own_recalls.Own.{Own}
use Rattle.scholten_core.specs.declared.outcomes.Began.{Began}
use Rattle.scholten_core.specs.declared.outcomes.Received.{Received}
use Rattle.scholten_core.specs.declared.outcomes.Received.TheVariants.{Repeat, Owe, SignalNow}
use Rattle.scholten_core.specs.declared.outcomes.Signalled.{Signalled}
use Rattle.scholten_core.specs.declared.outcomes.Signalled.TheVariants.{Stale, Cleared, ParentDue, Ended}
use Rattle.scholten_core.specs.Engagement.{Engagement}
use Rattle.scholten_core.specs.Replies.{TellsBegun, TellsTaken, TellsCleared}

pub begun_answer_is_fixed : (old new : Engagement) (a b : Began) → TellsBegun old new a → TellsBegun old new b → a ≡ b
begun_answer_is_fixed old new a b one two =
    let recall = one.recall ∙ sym two.recall in
    let numbered : a.numbered ≡ b.numbered = omega (arith, one.numbered, two.numbered) in
    let own : one.ended.0 ≡ two.ended.0 = let h : Some one.ended.0 ≡ Some two.ended.0 = sym one.ended.1 ∙ two.ended.1 in cc in
    let ended = one.ended.2 ∙ ap (λ (o : Own). o.ended) own ∙ sym two.ended.2 in
    λ i. record { recall = recall i; numbered = numbered i; ended = ended i }

pub taken_answer_is_fixed : (old new : Engagement) (m : Message) (r : Recall) (a b : Received) → TellsTaken old new m r a → TellsTaken old new m r b → a ≡ b
taken_answer_is_fixed old new m r Repeat b one two = absurd one
taken_answer_is_fixed old new m r (Owe n) Repeat one two = absurd two
taken_answer_is_fixed old new m r (Owe n) (Owe k) one two = ap Owe (omega (arith, one.1, two.1))
taken_answer_is_fixed old new m r (Owe n) (SignalNow k) one two = absurd (two.0 one.0)
taken_answer_is_fixed old new m r (SignalNow n) Repeat one two = absurd two
taken_answer_is_fixed old new m r (SignalNow n) (Owe k) one two = absurd (one.0 two.0)
taken_answer_is_fixed old new m r (SignalNow n) (SignalNow k) one two = ap SignalNow (omega (arith, one.1, two.1))

module _ (old new : Engagement) (r : Recall) where
  -- rows that are left
  some_left : IsRowOf new.outbox r → HasNoRows new.outbox r → ⊥
  some_left row none = none row.number row.row row.stands row.of_recall

  pub cleared_answer_is_fixed : (a b : Signalled) → TellsCleared old new r a → TellsCleared old new r b → a ≡ b
  cleared_answer_is_fixed Stale b one two = absurd one
  cleared_answer_is_fixed a Stale one two = absurd two
  cleared_answer_is_fixed Cleared Cleared one two = refl
  cleared_answer_is_fixed Cleared (ParentDue p) (inl row) two = absurd (some_left row two.1)
  cleared_answer_is_fixed Cleared (ParentDue p) (inr neither) two = let twice : None ≡ Some p = sym neither.0 ∙ two.0 in cc
  cleared_answer_is_fixed Cleared (Ended q) (inl row) two = absurd (some_left row two.3)
  cleared_answer_is_fixed Cleared (Ended q) (inr neither) two = absurd (neither.1 two.2)
  cleared_answer_is_fixed (ParentDue p) Cleared one (inl row) = absurd (some_left row one.1)
  cleared_answer_is_fixed (ParentDue p) Cleared one (inr neither) = let twice : None ≡ Some p = sym neither.0 ∙ one.0 in cc
  cleared_answer_is_fixed (ParentDue p) (ParentDue q) one two = let same : Some p ≡ Some q = sym one.0 ∙ two.0 in cc
  cleared_answer_is_fixed (ParentDue p) (Ended q) one two = let twice : None ≡ Some p = sym two.1 ∙ one.0 in cc
  cleared_answer_is_fixed (Ended q) Cleared one (inl row) = absurd (some_left row one.3)
  cleared_answer_is_fixed (Ended q) Cleared one (inr neither) = absurd (neither.1 one.2)
  cleared_answer_is_fixed (Ended q) (ParentDue p) one two = let twice : None ≡ Some p = sym one.1 ∙ two.0 in cc
  cleared_answer_is_fixed (Ended q) (Ended p) one two = ap Ended (one.0 ∙ sym two.0)
