-- What the changes of a step make of the rows that the tables hold.
use Rattle.std.proofs.Common.{◌≡◌, ℤ, List, [], ◌∷◌, ◌++◌, Bool, true, false, not, ◌&&◌, map, filter, Option, None, Some, refl, sym, ap, subst, ◌∙◌}
use Rattle.std.specs.Prelude.{fold}
use Rattle.std.specs.List.Sorted.{IsPermutation}
use Rattle.std.specs.Ordering.{is_eq, int_cmp, int_eq}
use Rattle.std.specs.declared.cmp.Ordering.{Ordering}
use Rattle.std.specs.declared.cmp.Ordering.TheVariants.{Less, Equal, Greater}
use Rattle.std.proofs.lemmas.List.{map-append}
use Rattle.std.proofs.lemmas.List.Sorted.{IsPermutation-map, IsPermutation-trans}
use Rattle.sqlite.specs.declared.types.Value.TheVariants.{Int}
use Rattle.sqlite.specs.Collation.TheVariants.{Binary}
use Rattle.sqlite.specs.Order.{Row}
use Rattle.sqlite.specs.Table.{Table}
use Rattle.sqlite.specs.Tree.{Trees}
use Rattle.sqlite_value.proofs.OrderLemmas.{value_cmp-Int}
use Rattle.sqlite_sql.specs.Ops.{binary, is_true, from_truth}
use Rattle.sqlite_schema.specs.Rules.{equal}
use Rattle.sqlite_trees.proofs.ListLemmas.{filter-map, filter_same}
use Rattle.sqlite_rules.proofs.ListLemmas.{all_from}
use Rattle.site_rows.specs.declared.rows.OutboxRow.{OutboxRow}
use Rattle.site_rows.specs.declared.rows.ParentRow.{ParentRow}
use Rattle.site_rows.specs.declared.rows.RecallRow.{RecallRow}
use Rattle.site_rows.specs.declared.rows.Rows.{Rows}
use Rattle.site_rows.specs.declared.rows.StoreRow.{StoreRow}
use Rattle.site_rows.specs.declared.changes.Numbers.{Numbers}
use Rattle.site_rows.specs.declared.changes.RecallKey.{RecallKey}
use Rattle.site_rows.specs.declared.changes.RowChanges.{RowChanges}
use Rattle.site_rows.specs.declared.tables.Table.{«Table» as SiteTable}
use Rattle.site_rows.specs.declared.tables.Table.TheVariants.{Store, Site, Address, Event, Part, Pack, Packed, Quarantine, Outbox, Seen, Parent, Recall}
use Rattle.site_rows.specs.StepRows as step
use Rattle.site_tables.specs.Changed.{changed, drops_outbox, drops_parent, renumbers}
use Rattle.sqlite.specs.State.{State}
use Rattle.site_tables.specs.Stored.{Holds, IsStored, after, contents_of}
use Rattle.site_tables.specs.Tables.{declared, outbox, parent, recall}
use Rattle.site_tables.specs.TableRows.{HasRows, has_key, without_key, puts, changes_each}
use Rattle.site_tables.specs.Values.{store_values, event_values, part_values, pack_values, packed_values, quarantine_values, outbox_values, seen_values, parent_values, recall_values, recall_key}
use Rattle.site_tables.proofs.StoreTable.{numbers_set}

truth_is : (o : Ordering) → is_true (from_truth (Some (is_eq o))) ≡ is_eq o
truth_is Less = refl
truth_is Equal = refl
truth_is Greater = refl

-- SQL's = of two numbers
equal_numbers : (a b : ℤ) → equal Binary (Int a) (Int b) ≡ int_eq a b
unfolding binary
equal_numbers a b = ap (λ o. is_true (from_truth (Some (is_eq o)))) (value_cmp-Int a b) ∙ truth_is (int_cmp a b)

last_true : (b : Bool) → (b && true) ≡ b
last_true true = refl
last_true false = refl

-- ---- rows of the database, as rows of the code

without_is : {X : Type 0} (table : Table) (given : Row) (values : X → Row) (same : X → Bool) → ((x : X) → has_key table given (values x) ≡ same x) → (xs : List X)
    → without_key table given (map values xs) ≡ map values (filter (λ x. not (same x)) xs)
without_is table given values same is xs =
    filter-map (λ row. not (has_key table given row)) values xs
    ∙ ap (map values) (filter_same (λ x. not (has_key table given (values x))) (λ x. not (same x)) xs (all_from (λ x. not (has_key table given (values x)) ≡ not (same x)) xs (λ x _. ap not (is x))))

each_is : {X Y : Type 0} (values : X → Row) (change : Y → List Row → List Row) (of : List X → Y → List X) → ((y : Y) (xs : List X) → change y (map values xs) ≡ map values (of xs y)) → (ys : List Y) (xs : List X)
    → changes_each change ys (map values xs) ≡ map values (fold of xs ys)
each_is values change of is [] xs = refl
each_is values change of is (y ∷ ys) xs = ap (changes_each change ys) (is y xs) ∙ each_is values change of is ys (of xs y)

message_without : (number : ℤ) (rows : List OutboxRow) → without_key outbox (Int number ∷ []) (map outbox_values rows) ≡ map outbox_values (step.without_message rows number)
message_without number rows =
    without_is outbox (Int number ∷ []) outbox_values (λ (row : OutboxRow). int_eq row.number number) (λ row. last_true _ ∙ equal_numbers row.number number) rows

message_put : (row : OutboxRow) (rows : List OutboxRow) → puts outbox (outbox_values row) (map outbox_values rows) ≡ map outbox_values (step.put_message rows row)
message_put row rows = ap (λ left. left ++ outbox_values row ∷ []) (message_without row.number rows) ∙ sym (map-append outbox_values (step.without_message rows row.number) (row ∷ []))

parent_without : (key : RecallKey) (rows : List ParentRow) → without_key parent (recall_key key) (map parent_values rows) ≡ map parent_values (step.without_parent rows key)
parent_without key rows =
    without_is parent (recall_key key) parent_values (λ (row : ParentRow). int_eq row.recall_site key.site && int_eq row.recall_no key.number)
    (λ row. rw (equal_numbers row.recall_site key.site, equal_numbers row.recall_no key.number) (ap (λ b. int_eq row.recall_site key.site && b) (last_true _))) rows

recall_put : (row : RecallRow) (rows : List RecallRow) → puts recall (recall_values row) (map recall_values rows) ≡ map recall_values (step.put_recall rows row)
recall_put row rows =
    let left = filter (λ (other : RecallRow). not (int_eq other.number row.number)) rows in
    ap (λ rest. rest ++ recall_values row ∷ []) (without_is recall (Int row.number ∷ []) recall_values (λ (other : RecallRow). int_eq other.number row.number) (λ other. last_true _ ∙ equal_numbers other.number row.number) rows)
    ∙ sym (map-append recall_values left (row ∷ []))

-- ---- the tables

-- a table holds rows in any order
has_other_order : (table : Table) {X : Type 0} (values : X → Row) (held : List Row) (xs ys : List X) (tree : List Row) → held ≡ map values xs → IsPermutation xs ys → HasRows table held tree → HasRows table (map values ys) tree
has_other_order table values held xs ys tree is same has = record {
  keyed = has.keyed;
  rising = has.rising;
  same = IsPermutation-trans _ held (map values ys) has.same (subst (λ rows. IsPermutation rows (map values ys)) (sym is) (IsPermutation-map values xs ys same));
}

has_same : (table : Table) (held rows tree : List Row) → held ≡ rows → HasRows table held tree → HasRows table rows tree
has_same table held rows tree is has = subst (λ rows. HasRows table rows tree) is has

renumbered_is : (numbers : Option Numbers) (rows : List StoreRow) → renumbers numbers (map store_values rows) ≡ map store_values (step.renumbered numbers rows)
renumbered_is None rows = refl
renumbered_is (Some n) rows = numbers_set n rows

-- where the changes lead from some rows to others, tables that hold the former hold the latter once they are made
module _ (changes : RowChanges) (before next : Rows) (trees : Trees) (leads : step.LeadsTo changes before next) where
  has_after : (t : SiteTable) → HasRows (declared t) (changed changes t (contents_of before t)) (trees (declared t).tree) → HasRows (declared t) (contents_of next t) (trees (declared t).tree)
  has_after Store h = has_same _ _ _ _ (renumbered_is changes.numbers before.store ∙ ap (map store_values) (sym leads.store)) h
  has_after Site h = has_same _ _ _ _ (ap (map _) (sym leads.site)) h
  has_after Address h = has_same _ _ _ _ (ap (map _) (sym leads.address)) h
  has_after Event h = has_same _ _ _ _ (sym (map-append event_values before.event changes.event) ∙ ap (map event_values) (sym leads.event)) h
  has_after Part h = has_same _ _ _ _ (sym (map-append part_values before.part changes.part) ∙ ap (map part_values) (sym leads.part)) h
  has_after Pack h = has_same _ _ _ _ (sym (map-append pack_values before.pack changes.pack) ∙ ap (map pack_values) (sym leads.pack)) h
  has_after Packed h = has_same _ _ _ _ (sym (map-append packed_values before.packed changes.packed) ∙ ap (map packed_values) (sym leads.packed)) h
  has_after Quarantine h = has_other_order _ quarantine_values _ _ next.quarantine _ (sym (map-append quarantine_values before.quarantine changes.quarantine)) leads.quarantine h
  has_after Outbox h = has_other_order _ outbox_values _ _ next.outbox _
      (ap (drops_outbox changes.signalled) (each_is outbox_values (λ row. puts outbox (outbox_values row)) step.put_message message_put changes.outbox before.outbox)
      ∙ each_is outbox_values (λ number. without_key outbox (Int number ∷ [])) step.without_message message_without changes.signalled (fold step.put_message before.outbox changes.outbox)) leads.outbox h
  has_after Seen h = has_other_order _ seen_values _ _ next.seen _ (sym (map-append seen_values before.seen changes.seen)) leads.seen h
  has_after Parent h = has_other_order _ parent_values _ _ next.parent _
      (ap (drops_parent changes.left) (sym (map-append parent_values before.parent changes.parent))
      ∙ each_is parent_values (λ key. without_key parent (recall_key key)) step.without_parent parent_without changes.left (before.parent ++ changes.parent)) leads.parent h
  has_after Recall h = has_other_order _ recall_values _ _ next.recall _ (each_is recall_values (λ row. puts recall (recall_values row)) step.put_recall recall_put changes.recall before.recall) leads.recall h

  pub holds_after : Holds (after (changed changes) (contents_of before)) trees → Holds (contents_of next) trees
  holds_after h = record { lists = h.lists; has = λ t there. has_after t (h.has t there); rest = λ t lacks. absurd (lacks tt) }

pub stored_after : (changes : RowChanges) (before next : Rows) (s : State) → step.LeadsTo changes before next → IsStored (after (changed changes) (contents_of before)) s → IsStored (contents_of next) s
stored_after changes before next s leads it = record {
  is_open = it.is_open;
  autocommit = it.autocommit;
  settled = it.settled;
  schema = it.schema;
  holds = holds_after changes before next s.committed.trees leads it.holds;
  crash = λ db may. holds_after changes before next db leads (it.crash db may);
}
