-- The rows of an outbox once messages were numbered, or one was taken out, and those of parents and own recalls.
use Rattle.std.proofs.Common.{◌≡◌, ℕ, pos, suc, ◌+◌, ◌<◌, ◌≤◌, not, List, [], ◌∷◌, ◌++◌, Some, None, length, drop, map, fold, sym, ap, ◌∙◌, arith, IsPermutation}
use Rattle.std.specs.Prelude.{◌&&◌}
use Rattle.std.specs.Cmp.{nat_cmp_total}
use Rattle.std.specs.FinMap.{FinMap, nat_cmp-IsAntisymmetric, get, entries, insert, remove}
use Rattle.std.specs.List.{enumerate_from}
use Rattle.std.specs.Ordering.{int_eq, nat_cmp}
use Rattle.std.proofs.Math.ListN.{drop_of_length-le}
use Rattle.std.proofs.lemmas.List.Sorted.{IsPermutation-trans, IsPermutation-append_left, IsPermutation-refl}
use Rattle.frame_core.specs.Identifiers.{recall_cmp}
use Rattle.frame_core.specs.Numbers.{Recall, Message}
use Rattle.frame_core.specs.Orders.{recall_total, recall_exact}
use Rattle.frame_core.specs.Outboxes.{numbered, row_for}
use Rattle.frame_core.specs.declared.rows.Row.{Row}
use Rattle.frame_core.proofs.Numbering.{numbered_told}
use Rattle.scholten_core.specs.declared.own_recalls.Own.{Own}
use Rattle.site_core.proofs.Places.{some_stands}
use Rattle.site_rows.specs.declared.changes.RecallKey.{RecallKey}
use Rattle.site_rows.specs.declared.rows.OutboxRow.{OutboxRow}
use Rattle.site_rows.specs.declared.rows.ParentRow.{ParentRow}
use Rattle.site_rows.specs.declared.rows.RecallRow.{RecallRow}
use Rattle.site_rows.specs.RecordRows.{outbox_row, parent_row, recall_row}
use Rattle.site_rows.specs.StepRows.{without_message, put_message, without_parent, put_recall}
use Rattle.site_rows.proofs.ChangedEntries.{dropped_row, put_row}
use Rattle.site_rows.proofs.InTurn.{rest_there, one_more, at_end}
use Rattle.site_rows.proofs.KeyTests.{number_test, recall_test}
use Rattle.site_rows.proofs.Permuted.{filter_permuted, same_permuted}

abbrev messages : FinMap nat_cmp Row → List OutboxRow
messages rows = map outbox_row (entries rows)

one_message : (rows : FinMap nat_cmp Row) (n : ℕ) (x : Row) (held : List OutboxRow) → IsPermutation held (messages rows)
    → IsPermutation (put_message held (outbox_row (n, x))) (messages (insert rows n x))
one_message rows n x held same =
    IsPermutation-trans _ _ _
    (IsPermutation-append_left (outbox_row (n, x) ∷ []) _ _ (filter_permuted (λ (row : OutboxRow). not (int_eq row.number (pos n))) held (messages rows) same))
    (put_row nat_cmp_total nat_cmp-IsAntisymmetric outbox_row n (λ (row : OutboxRow). not (int_eq row.number (pos n))) (λ e. number_test n e.0) rows x)

several_messages : (rows : FinMap nat_cmp Row) (n : ℕ) (r : Recall) (out : List (ℕ × List ℕ)) (held : List OutboxRow) → IsPermutation held (messages rows)
    → IsPermutation (fold put_message held (map outbox_row (enumerate_from n (map (row_for r) out)))) (messages (numbered rows n r out))
several_messages rows n r [] held same = same
several_messages rows n r (pair ∷ out) held same =
    several_messages (insert rows n (row_for r pair)) (n + 1) r out (put_message held (outbox_row (n, row_for r pair))) (one_message rows n (row_for r pair) held same)

-- messages that got numbers
pub numbered_messages : (rows : FinMap nat_cmp Row) (n : ℕ) (r : Recall) (out : List (ℕ × List ℕ))
    → IsPermutation (fold put_message (messages rows) (map outbox_row (enumerate_from n (map (row_for r) out)))) (messages (numbered rows n r out))
numbered_messages rows n r out = several_messages rows n r out (messages rows) (IsPermutation-refl (messages rows))

-- a message that is signalled
pub signalled_message : (rows : FinMap nat_cmp Row) (n : ℕ) → IsPermutation (without_message (messages rows) (pos n)) (messages (remove rows n))
signalled_message rows n =
    same_permuted _ _ (dropped_row nat_cmp_total nat_cmp-IsAntisymmetric outbox_row n (λ (row : OutboxRow). not (int_eq row.number (pos n))) (λ e. number_test n e.0) rows)

abbrev pub key_of : Recall → RecallKey
key_of r = record { site = pos r.site; number = pos r.number }

-- a parent that goes
pub left_parent : (parents : FinMap recall_cmp Message) (r : Recall) → IsPermutation (without_parent (map parent_row (entries parents)) (key_of r)) (map parent_row (entries (remove parents r)))
left_parent parents r =
    same_permuted _ _ (dropped_row recall_total recall_exact parent_row r (λ (row : ParentRow). not (int_eq row.recall_site (pos r.site) && int_eq row.recall_no (pos r.number))) (λ e. recall_test r e.0) parents)

-- an own recall that begins or ends
pub put_own : (own : FinMap nat_cmp Own) (n : ℕ) (x : Own) → IsPermutation (put_recall (map recall_row (entries own)) (recall_row (n, x))) (map recall_row (entries (insert own n x)))
put_own own n x = put_row nat_cmp_total nat_cmp-IsAntisymmetric recall_row n (λ (row : RecallRow). not (int_eq row.number (pos n))) (λ e. number_test n e.0) own x

-- Rows that are found in turn, from the number n on: those so far with those of the messages left are all of them.

abbrev messages_from : ℕ → Recall → List (ℕ × List ℕ) → List (ℕ × Row)
messages_from number r out = enumerate_from number (map (row_for r) out)

pub row_found : (before : FinMap nat_cmp Row) (n : ℕ) (r : Recall) (out : List (ℕ × List ℕ)) (k number : ℕ) (x : Row) (rows total : List OutboxRow)
    → number ≡ n + k → k < length out → get (numbered before n r out) number ≡ Some x
    → rows ++ map outbox_row (messages_from number r (drop k out)) ≡ total
    → (rows ++ outbox_row (number, x) ∷ []) ++ map outbox_row (messages_from (number + 1) r (drop (k + 1) out)) ≡ total
row_found before n r out k number x rows total at low is so_far =
    let (pair, there) = some_stands out k low in
    let told : Some (row_for r pair) ≡ Some x = sym (numbered_told before n r out k number pair there at) ∙ is in
    let one : row_for r pair ≡ x = cc in
    let next : suc k ≡ k + 1 = omega arith in
    let split : messages_from number r (drop k out) ≡ (number, x) ∷ messages_from (number + 1) r (drop (k + 1) out) =
    ap (messages_from number r) (rest_there out k pair there)
    ∙ (λ i. (number, one i) ∷ messages_from (number + 1) r (drop (next i) out)) in
    one_more outbox_row (messages_from number r (drop k out)) (messages_from (number + 1) r (drop (k + 1) out)) (number, x) rows total split so_far

pub no_row_missing : (before : FinMap nat_cmp Row) (n : ℕ) (r : Recall) (out : List (ℕ × List ℕ)) (k number : ℕ) → number ≡ n + k → k < length out → get (numbered before n r out) number ≡ None → ⊥
no_row_missing before n r out k number at low none =
    let (pair, there) = some_stands out k low in
    let both : None ≡ Some (row_for r pair) = sym none ∙ numbered_told before n r out k number pair there at in
    cc

pub all_found : (r : Recall) (out : List (ℕ × List ℕ)) (k number : ℕ) (rows total : List OutboxRow) → length out ≤ k
    → rows ++ map outbox_row (messages_from number r (drop k out)) ≡ total → rows ≡ total
all_found r out k number rows total past so_far = at_end outbox_row (messages_from number r (drop k out)) rows total (ap (messages_from number r) (drop_of_length-le out past)) so_far
