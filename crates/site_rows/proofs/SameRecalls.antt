-- The rows of messages, parents and own recalls determine the maps that they stand for.
use Rattle.std.proofs.Common.{◌≡◌, ℕ, pos, arith, Bool, true, false, cond, map, refl, sym, ap}
use Rattle.std.specs.FinMap.{FinMap, entries, same_entries_map}
use Rattle.std.specs.declared.cmp.Ordering.{Ordering}
use Rattle.frame_core.specs.Numbers.{Recall, Message}
use Rattle.frame_core.specs.declared.rows.Row.{Row}
use Rattle.scholten_core.specs.declared.own_recalls.Own.{Own}
use Rattle.site_rows.specs.declared.rows.OutboxRow.{OutboxRow}
use Rattle.site_rows.specs.declared.rows.SeenRow.{SeenRow}
use Rattle.site_rows.specs.declared.rows.ParentRow.{ParentRow}
use Rattle.site_rows.specs.declared.rows.RecallRow.{RecallRow}
use Rattle.site_rows.specs.RecordRows.{outbox_row, seen_row, parent_row, recall_row}
use Rattle.site_rows.proofs.SameLists.{same_mapped}

pub same_map_rows : {K X R : Type 0} {cmp : K → K → Ordering} (f : K × X → R) (same : (e d : K × X) → f e ≡ f d → e ≡ d) (m n : FinMap cmp X)
    → map f (entries m) ≡ map f (entries n) → m ≡ n
same_map_rows f same m n e = same_entries_map m n (same_mapped f same (entries m) (entries n) e)

pub same_number : (a b : ℕ) → pos a ≡ pos b → a ≡ b
same_number a b e = cc

pub same_recall_of : (a b : Recall) → pos a.site ≡ pos b.site → pos a.number ≡ pos b.number → a ≡ b
same_recall_of a b s n =
    let site = same_number a.site b.site s in
    let number = same_number a.number b.number n in
    λ i. record { site = site i; number = number i }

same_message_of : (a b : Message) → pos a.site ≡ pos b.site → pos a.number ≡ pos b.number → a ≡ b
same_message_of a b s n =
    let site = same_number a.site b.site s in
    let number = same_number a.number b.number n in
    λ i. record { site = site i; number = number i }

pub outbox_row_same : (e d : ℕ × Row) → outbox_row e ≡ outbox_row d → e ≡ d
outbox_row_same e d is =
    let number = same_number e.0 d.0 (ap (λ (r : OutboxRow). r.number) is) in
    let dest = same_number e.1.dest d.1.dest (ap (λ (r : OutboxRow). r.dest) is) in
    let recall = same_recall_of e.1.recall d.1.recall (ap (λ (r : OutboxRow). r.recall_site) is) (ap (λ (r : OutboxRow). r.recall_no) is) in
    let item = ap (λ (r : OutboxRow). r.item) is in
    λ i. (number i, record { dest = dest i; recall = recall i; item = item i })

pub seen_row_same : (e d : Message × Recall) → seen_row e ≡ seen_row d → e ≡ d
seen_row_same e d is =
    let message = same_message_of e.0 d.0 (ap (λ (r : SeenRow). r.sender) is) (ap (λ (r : SeenRow). r.number) is) in
    let recall = same_recall_of e.1 d.1 (ap (λ (r : SeenRow). r.recall_site) is) (ap (λ (r : SeenRow). r.recall_no) is) in
    λ i. (message i, recall i)

pub parent_row_same : (e d : Recall × Message) → parent_row e ≡ parent_row d → e ≡ d
parent_row_same e d is =
    let recall = same_recall_of e.0 d.0 (ap (λ (r : ParentRow). r.recall_site) is) (ap (λ (r : ParentRow). r.recall_no) is) in
    let message = same_message_of e.1 d.1 (ap (λ (r : ParentRow). r.sender) is) (ap (λ (r : ParentRow). r.number) is) in
    λ i. (recall i, message i)

one_not_none : ◌≡◌ {A = ℕ} 1 0 → ⊥
one_not_none e = omega (arith, e)

same_flag : (a b : Bool) → pos (cond a 1 0) ≡ pos (cond b 1 0) → a ≡ b
same_flag true true e = refl
same_flag true false e = absurd (one_not_none (same_number 1 0 e))
same_flag false true e = absurd (one_not_none (sym (same_number 0 1 e)))
same_flag false false e = refl

pub recall_row_same : (e d : ℕ × Own) → recall_row e ≡ recall_row d → e ≡ d
recall_row_same e d is =
    let number = same_number e.0 d.0 (ap (λ (r : RecallRow). r.number) is) in
    let root = ap (λ (r : RecallRow). r.root) is in
    let ended = same_flag e.1.ended d.1.ended (ap (λ (r : RecallRow). r.ended) is) in
    λ i. (number i, record { root = root i; ended = ended i })
