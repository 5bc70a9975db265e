-- A row stands for one entry.
use Rattle.std.proofs.Common.{◌≡◌, ℕ, List, sym, ap, ◌∙◌}
use Rattle.frame_core.specs.Numbers.{Recall}
use Rattle.site_rows.specs.BadRows.{StandForOne, IsOutboxEntry, IsSeenEntry, IsParentEntry, IsOwnEntry, IsHeldEntry}
use Rattle.site_rows.specs.declared.rows.QuarantineRow.{QuarantineRow}
use Rattle.site_rows.proofs.SameRecalls.{outbox_row_same, seen_row_same, parent_row_same, recall_row_same, same_recall_of}
use Rattle.site_rows.specs.RecordRows.{quarantine_row}

pub one_outbox_entry : (sites : ℕ) → StandForOne (IsOutboxEntry sites)
one_outbox_entry sites row k l v w a b = outbox_row_same (k, v) (l, w) (sym a.same ∙ b.same)

pub one_seen_entry : (sites : ℕ) → StandForOne (IsSeenEntry sites)
one_seen_entry sites row k l v w a b = seen_row_same (k, v) (l, w) (sym a.same ∙ b.same)

pub one_parent_entry : (sites : ℕ) → StandForOne (IsParentEntry sites)
one_parent_entry sites row k l v w a b = parent_row_same (k, v) (l, w) (sym a.same ∙ b.same)

pub one_own_entry : StandForOne IsOwnEntry
one_own_entry row k l v w a b = recall_row_same (k, v) (l, w) (sym a.same ∙ b.same)

quarantine_row_same : (r s : Recall) (i j : List ℕ) → quarantine_row r i ≡ quarantine_row s j → ◌≡◌ {A = Recall × List ℕ} (r, i) (s, j)
quarantine_row_same r s i j is =
    let recall = same_recall_of r s (ap (λ (x : QuarantineRow). x.recall_site) is) (ap (λ (x : QuarantineRow). x.recall_no) is) in
    let item = ap (λ (x : QuarantineRow). x.item) is in
    λ k. (recall k, item k)

pub one_held_entry : (sites : ℕ) → StandForOne (IsHeldEntry sites)
one_held_entry sites row k l v w a b = let same = quarantine_row_same k.0 l.0 k.1 l.1 (sym a.same ∙ b.same) in λ i. (same i, tt)
