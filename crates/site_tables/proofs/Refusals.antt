-- A command that writes is refused by the errors that are refusals, and by no other.
use Rattle.std.proofs.Common.{◌≡◌, ◌⊎◌, inl, inr, ℕ, ℤ, Bool, true, false, List, [], ◌∷◌, Option, Some, None, Result, Ok, Err, refl, sym, ap, subst, ◌∙◌}
use Rattle.std.specs.Prelude.{MatchBool, option_map, is_some}
use Rattle.sqlite_trees.specs.Tree.{Trees}
use Rattle.sqlite_schema.specs.declared.command.Conflict.{Conflict}
use Rattle.sqlite_schema.specs.declared.command.Conflict.TheVariants.{Abort, Ignore, Replace}
use Rattle.sqlite_schema.specs.declared.command.Returning.{Returning}
use Rattle.sqlite_schema.specs.declared.command.Source.{Source}
use Rattle.sqlite_schema.specs.declared.command.Source.TheVariants as source
use Rattle.sqlite_schema.specs.declared.command.Upsert.{Upsert}
use Rattle.sqlite_schema.specs.declared.command.Command.TheVariants.{Insert, InsertOr, Update, Delete, CreateTable}
use Rattle.sqlite_schema.specs.declared.program.Program.{Program}
use Rattle.sqlite_schema.specs.declared.schema.Table.{Table}
use Rattle.sqlite_rules.specs.declared.error.Refusal.{Refusal}
use Rattle.sqlite_rules.specs.declared.error.Refusal.TheVariants.{Violates, Mismatch, NoRowid, BadReference, TooDeep}
use Rattle.sqlite_rules.specs.Cast.{cast_row}
use Rattle.sqlite_rules.specs.Edit.{with_rowid}
use Rattle.sqlite_catalog.specs.declared.error.Refusal as alter
use Rattle.sqlite_catalog.specs.declared.error.Refusal.TheVariants as why
use Rattle.sqlite.specs.declared.error.Error.{Error}
use Rattle.sqlite.specs.declared.error.Error.TheVariants.{InvalidQuery}
use Rattle.sqlite.specs.declared.run.Mode.{Mode}
use Rattle.sqlite.specs.Command.{Command}
use Rattle.sqlite.specs.Does.{Does, Tally, AtPlace, sequence_text, OnRows, Concludes, Returns, Shows, WritesRows, Redefines, MakesTable, MakesSequence}
use Rattle.sqlite.specs.Effect.{Database, RefusesQuery, RefusesSource, RefusesToAlter, IsNoText, edit_error, alter_error}
use Rattle.sqlite.specs.Order.{Row}
use Rattle.sqlite.specs.Rows.{Gives, Refuses, Queried, Sourced, Written, Task, sequence, Counter, CounterIn, Counts, CountsIn, Updates, Deletes, Inserts, InsertsOr, Puts, Clears, Resolves, Upserts, Judged, Tries, TriesEach, rowids_for, mended, count_of, nothing}
use Rattle.site_tables.specs.Causes.{is_of_refusal, is_write, IsRefusal}

-- the error of a statement is that of the part that stopped it
is_stop : {B : Type 0} (e : Error) (stop : Option Error) → ◌≡◌ {A = Result B (Option Error)} (Err (Some e)) (Err stop) → stop ≡ Some e
is_stop e stop is = cc

is_error : {B : Type 0} (e f : Error) → ◌≡◌ {A = Result B (Option Error)} (Err (Some e)) (Err (Some f)) → e ≡ f
is_error e f is = cc

some_error : (e f : Error) → ◌≡◌ {A = Option Error} (Some e) (Some f) → e ≡ f
some_error e f is = cc

-- what is done stops nothing
done : {B : Type 0} (e : Error) (b : B) → ◌≡◌ {A = Result B (Option Error)} (Err (Some e)) (Ok b) → is_of_refusal e ≡ true
done e b is = absurd (let f : Err (Some e) ≡ Ok b = is in cc)

refused : {B : Type 0} (e f : Error) → is_of_refusal f ≡ true → ◌≡◌ {A = Result B (Option Error)} (Err (Some e)) (Err (Some f)) → is_of_refusal e ≡ true
refused e f named is = ap is_of_refusal (is_error e f is) ∙ named

-- ---- the parts

edit_named : (why : Refusal) → is_of_refusal (edit_error why) ≡ true
edit_named (Violates rule) = refl
edit_named Mismatch = refl
edit_named BadReference = refl
edit_named NoRowid = refl
edit_named TooDeep = refl

alter_named : (reason : alter.Refusal) → is_of_refusal (alter_error reason) ≡ true
alter_named (why.Invalid e) = refl
alter_named why.NameTaken = refl
alter_named why.BadName = refl
alter_named why.BadKey = refl
alter_named why.BadText = refl
alter_named why.TooBig = refl
alter_named (why.Violates rule) = refl

query_named : (limit : Option ℕ) (db : Database) (p : Program) (params : Row) (e : Error) → RefusesQuery limit db p params e → is_of_refusal e ≡ true
query_named limit db p params e (inl (is, not)) = ap is_of_refusal is
query_named limit db p params e (inr (inl (is, over))) = ap is_of_refusal is
query_named limit db p params e (inr (inr (is, some))) = ap is_of_refusal is

queried : {B : Type 0} (limit : Option ℕ) (db : Database) (q : Program) (params : Row) (e : Error) (stop : Option Error) → Queried limit db q params (Err stop) → ◌≡◌ {A = Result B (Option Error)} (Err (Some e)) (Err stop)
    → is_of_refusal e ≡ true
queried limit db q params e None h same = absurd h
queried limit db q params e (Some f) h same = ap is_of_refusal (is_error e f same) ∙ query_named limit db q params f h

sourced_named : (limit : Option ℕ) (db : Database) (params : Row) (from : Source) (e : Error) → RefusesSource limit db params from e → is_of_refusal e ≡ true
sourced_named limit db params (source.Values terms width) e (inl (is, not)) = ap is_of_refusal is
sourced_named limit db params (source.Values terms width) e (inr (is, some)) = ap is_of_refusal is
sourced_named limit db params (source.Query q) e h = query_named limit db q params e h

sourced : {B : Type 0} (limit : Option ℕ) (db : Database) (params : Row) (from : Source) (e : Error) (stop : Option Error) → Sourced limit db params from (Err stop) → ◌≡◌ {A = Result B (Option Error)} (Err (Some e)) (Err stop)
    → is_of_refusal e ≡ true
sourced limit db params from e None h same = absurd h
sourced limit db params from e (Some f) h same = ap is_of_refusal (is_error e f same) ∙ sourced_named limit db params from f h

edited : {B : Type 0} (e : Error) (stop : Option Error) (why : Option Refusal) → stop ≡ option_map edit_error why → ◌≡◌ {A = Result B (Option Error)} (Err (Some e)) (Err stop) → is_of_refusal e ≡ true
edited e stop None is same = absurd (let f : Some e ≡ None = sym (is_stop e stop same) ∙ is in cc)
edited e stop (Some why) is same = ap is_of_refusal (some_error e (edit_error why) (sym (is_stop e stop same) ∙ is)) ∙ edit_named why

stopped_by : {B : Type 0} (e f : Error) (stop : Option Error) → is_of_refusal f ≡ true → stop ≡ Some f → ◌≡◌ {A = Result B (Option Error)} (Err (Some e)) (Err stop) → is_of_refusal e ≡ true
stopped_by e f stop named is same = ap is_of_refusal (some_error e f (sym (is_stop e stop same) ∙ is)) ∙ named

-- ---- rows that are written

module _ (task : Task) where
  counter_in : (db : Trees) (counters : Option Table) (f : Error) → CounterIn task db counters (Err (Some f)) → is_of_refusal f ≡ true
  counter_in db None f h = refused f _ refl h
  counter_in db (Some counters) f h = done f _ h

  counter_at : (b : Bool) (db : Trees) (f : Error) → MatchBool b (CounterIn task db (sequence task.schema) (Err (Some f))) (Gives {A = Option Row} None (Err (Some f))) → is_of_refusal f ≡ true
  counter_at true db f h = counter_in db (sequence task.schema) f h
  counter_at false db f h = done f _ h

  counter : (db : Trees) (f : Error) → Counter task db (Err (Some f)) → is_of_refusal f ≡ true
  counter db f h = counter_at task.table.is_counted db f h

  counts_in : (db : Trees) (row : Option Row) (top : ℤ) (counters : Option Table) (f : Error) → CountsIn task db row top counters (Err (Some f)) → is_of_refusal f ≡ true
  counts_in db row top None f h = refused f _ refl h
  counts_in db row top (Some counters) f (why, writes, is) = edited {B = Trees} f (Some f) why is refl

  counts_at : (b : Bool) (db : Trees) (row : Option Row) (top : ℤ) (f : Error) → MatchBool b (CountsIn task db row top (sequence task.schema) (Err (Some f))) (Gives {A = Trees} db (Err (Some f))) → is_of_refusal f ≡ true
  counts_at true db row top f h = counts_in db row top (sequence task.schema) f h
  counts_at false db row top f h = done f _ h

  counts : (db : Trees) (row : Option Row) (top : ℤ) (f : Error) → Counts task db row top (Err (Some f)) → is_of_refusal f ≡ true
  counts db row top f h = counts_at _ db row top f h

  updates : (q : Program) (given : Row) (db : Trees) (f : Error) → Updates task q given db (Err (Some f)) → is_of_refusal f ≡ true
  updates q given db f (inl (stop, bad, same)) = queried task.limit (record { schema = task.schema; trees = db }) q given f stop bad same
  updates q given db f (inr (rows, ok, inl (stop, (why, writes, is), same))) = edited f stop why is same
  updates q given db f (inr (rows, ok, inr (next, all, out))) = done f _ out

  deletes : (q : Program) (db : Trees) (f : Error) → Deletes task q db (Err (Some f)) → is_of_refusal f ≡ true
  deletes q db f (inl (stop, bad, same)) = queried task.limit (record { schema = task.schema; trees = db }) q task.params f stop bad same
  deletes q db f (inr (rows, ok, inl (stop, (why, writes, is), same))) = edited f stop why is same
  deletes q db f (inr (rows, ok, inr (next, all, out))) = done f _ out

  -- the row of the counter isn't found, for the error of a statement
  counter_stop : {B : Type 0} (db : Trees) (e : Error) (stop : Option Error) → Counter task db (Err stop) → ◌≡◌ {A = Result B (Option Error)} (Err (Some e)) (Err stop) → is_of_refusal e ≡ true
  counter_stop db e stop h same = counter db e (subst (λ s. Counter task db (Err s)) (is_stop e stop same) h)

  counts_stop : {B : Type 0} (db : Trees) (row : Option Row) (top : ℤ) (e : Error) (stop : Option Error) → Counts task db row top (Err stop) → ◌≡◌ {A = Result B (Option Error)} (Err (Some e)) (Err stop) → is_of_refusal e ≡ true
  counts_stop db row top e stop h same = counts db row top e (subst (λ s. Counts task db row top (Err s)) (is_stop e stop same) h)

  inserts : (from : Source) (db : Trees) (f : Error) → Inserts task from db (Err (Some f)) → is_of_refusal f ≡ true
  inserts from db f (inl (stop, bad, same)) = sourced task.limit (record { schema = task.schema; trees = db }) _ from f stop bad same
  inserts from db f (inr (rows, ok, inl (stop, bad, same))) = counter_stop db f stop bad same
  inserts from db f (inr (rows, ok, inr (count, found, inl (stop, (why, writes, is), same)))) = edited f stop why is same
  inserts from db f (inr (rows, ok, inr (count, found, inr (mid, all, inl (stop, bad, same))))) = counts_stop mid count _ f stop bad same
  inserts from db f (inr (rows, ok, inr (count, found, inr (mid, all, inr (next, noted, out))))) = done f _ out

  puts : (new : Row) (db : Trees) (f : Error) → Puts task new db (Err (Some f)) → is_of_refusal f ≡ true
  puts new db f (inl (stop, (why, writes, is), same)) = edited f stop why is same
  puts new db f (inr (next, all, out)) = done f _ out

  clears : (way : Conflict) (new : Row) (db : Trees) (found : List Row) (f : Error) → Clears task way new db found (Err (Some f)) → is_of_refusal f ≡ true
  clears way new db [] f h = puts new db f h
  clears Abort new db (x ∷ more) f h = puts new db f h
  clears Ignore new db (x ∷ more) f h = done f _ h
  clears Replace new db (x ∷ more) f (inl (stop, (why, writes, is), same)) = edited f stop why is same
  clears Replace new db (x ∷ more) f (inr (next, all, h)) = puts new next f h

  resolves : (new : Row) (db : Trees) (there : Row) (update : Option Program) (f : Error) → Resolves task new db there update (Err (Some f)) → is_of_refusal f ≡ true
  resolves new db there None f h = done f _ h
  resolves new db there (Some q) f h = updates q _ db f h

  upserts : (way : Conflict) (new : Row) (db : Trees) (clauses : List Upsert) (f : Error) → Upserts task way new db clauses (Err (Some f)) → is_of_refusal f ≡ true
  upserts way new db [] f (found, are, h) = clears way new db found f h
  upserts way new db (clause ∷ more) f ([], are, h) = upserts way new db more f h
  upserts way new db (clause ∷ more) f (there ∷ others, are, h) = resolves new db there clause.update f h

  judged_at : (b : Bool) (why : Refusal) (db : Trees) (f : Error) (w : Written) → MatchBool b (Gives w (Err (Some f))) (Refuses {A = Written} (edit_error why) (Err (Some f))) → is_of_refusal f ≡ true
  judged_at true why db f w h = done f _ h
  judged_at false why db f w h = refused f (edit_error why) (edit_named why) h

  judged : (way : Conflict) (clauses : List Upsert) (new : Row) (db : Trees) (verdict : Option Refusal) (f : Error) → Judged task way clauses new db verdict (Err (Some f)) → is_of_refusal f ≡ true
  judged way clauses new db None f h = upserts way new db clauses f h
  judged way clauses new db (Some why) f h = judged_at _ why db f _ h

  tries : (way : Conflict) (clauses : List Upsert) (new : Row) (db : Trees) (f : Error) → Tries task way clauses new db (Err (Some f)) → is_of_refusal f ≡ true
  tries way clauses new db f (inl (fits, out)) = refused f _ refl out
  tries way clauses new db f (inr (verdict, is, h)) = judged way clauses new db verdict f h

  tries_each : (way : Conflict) (clauses : List Upsert) (rows : List Row) (top : ℤ) (w : Written) (f : Error) → TriesEach task way clauses rows top w (Err (Some f)) → is_of_refusal f ≡ true
  tries_each way clauses [] top w f h = done f _ h
  tries_each way clauses (row ∷ more) top w f (inl (stop, bad, same)) =
      let new = with_rowid (rowids_for task.table top) (w.trees task.table.tree) (cast_row task.table (mended way task.table row)) in
      tries way clauses new w.trees f (subst (λ s. Tries task way clauses new w.trees (Err s)) (is_stop f stop same) bad)
  tries_each way clauses (row ∷ more) top w f (inr (one, ok, h)) = tries_each way clauses more _ _ f h

  inserts_or : (way : Conflict) (clauses : List Upsert) (from : Source) (db : Trees) (f : Error) → InsertsOr task way clauses from db (Err (Some f)) → is_of_refusal f ≡ true
  inserts_or way clauses from db f (inl (stop, bad, same)) = sourced task.limit (record { schema = task.schema; trees = db }) _ from f stop bad same
  inserts_or way clauses from db f (inr (rows, ok, inl (stop, bad, same))) = counter_stop db f stop bad same
  inserts_or way clauses from db f (inr (rows, ok, inr (count, found, inl (stop, bad, same)))) =
      let top = count_of count in
      tries_each way clauses rows top (nothing db) f (subst (λ s. TriesEach task way clauses rows top (nothing db) (Err s)) (is_stop f stop same) bad)
  inserts_or way clauses from db f (inr (rows, ok, inr (count, found, inr (all, tried, inl (stop, bad, same))))) = counts_stop all.0.trees count all.1 f stop bad same
  inserts_or way clauses from db f (inr (rows, ok, inr (count, found, inr (all, tried, inr (next, noted, out))))) = done f _ out

  shows : (what : Returning) (now : Trees) (rows : List Row) (f : Error) → Shows task what now rows (Err (Some f)) → is_of_refusal f ≡ true
  shows what now [] f h = done f _ h
  shows what now (row ∷ more) f (inl (stop, bad, same)) = sourced task.limit (record { schema = task.schema; trees = now }) _ what.row f stop bad same
  shows what now (row ∷ more) f (inr (first, ok, inl (stop, bad, same))) = shows what now more f (subst (λ s. Shows task what now more (Err s)) (is_stop f stop same) bad)
  shows what now (row ∷ more) f (inr (first, ok, inr (others, all, out))) = done f _ out

  returns : (w : Written) (returning : Option Returning) (f : Error) → Returns task w returning (Err (Some f)) → is_of_refusal f ≡ true
  returns w None f h = done f _ h
  returns w (Some what) f (inl (stop, bad, same)) = shows what w.trees w.rows f (subst (λ s. Shows task what w.trees w.rows (Err s)) (is_stop f stop same) bad)
  returns w (Some what) f (inr (rows, ok, inl (stop, bad, same))) = stopped_by f _ stop refl bad.1 same
  returns w (Some what) f (inr (rows, ok, inr (one, all, out))) = done f _ out

  concludes : (mode : Mode) (returning : Option Returning) (w : Written) (f : Error) → Concludes task mode returning w (Err (Some f)) → is_of_refusal f ≡ true
  concludes mode returning w f (inl (stop, bad, same)) = stopped_by f _ stop refl bad.1 same
  concludes mode returning w f (inr (in_doubt, ok, inl (stop, bad, same))) = returns w returning f (subst (λ s. Returns task w returning (Err s)) (is_stop f stop same) bad)
  concludes mode returning w f (inr (in_doubt, ok, inr (rows, all, out))) = done f _ out

  writes_rows : (db : Trees) (command : Command) (f : Error) → WritesRows task db command (Err (Some f)) → is_of_refusal f ≡ true
  writes_rows db (Insert at from) f h = inserts from db f h
  writes_rows db (InsertOr at way from clauses) f h = inserts_or way clauses from db f h
  writes_rows db (Update at q) f h = updates q task.params db f h
  writes_rows db (Delete at q) f h = deletes q db f h
  writes_rows db _ f h = refused f _ refl h

  pub rows_named : (mode : Mode) (returning : Option Returning) (command : Command) (db : Trees) (f : Error) → OnRows task mode returning command db (Err (Some f)) → is_of_refusal f ≡ true
  rows_named mode returning command db f (inl (stop, bad, same)) = writes_rows db command f (subst (λ s. WritesRows task db command (Err s)) (is_stop f stop same) bad)
  rows_named mode returning command db f (inr (w, ok, h)) = concludes mode returning w f h

-- ---- what tables there are

no_text : (text : List ℕ) (e : Error) → IsNoText text e → is_of_refusal e ≡ true
no_text text e h = ap is_of_refusal h.1

altered : (Why : alter.Refusal → Type 0) (e : Error) → RefusesToAlter Why e → is_of_refusal e ≡ true
altered Why e h = ap is_of_refusal h.2 ∙ alter_named h.0

text_or : (Why : alter.Refusal → Type 0) (text : List ℕ) (e : Error) → IsNoText text e ⊎ RefusesToAlter Why e → is_of_refusal e ≡ true
text_or Why text e (inl h) = no_text text e h
text_or Why text e (inr h) = altered Why e h

makes_table : (text : List ℕ) (db : Database) (e : Error) → MakesTable text db (Err (Some e)) → is_of_refusal e ≡ true
makes_table text db e h = text_or _ text e h

sequence_at : (b : Bool) (db : Database) (e : Error) → MatchBool b (MakesTable sequence_text db (Err (Some e))) (Gives {A = Database} db (Err (Some e))) → is_of_refusal e ≡ true
sequence_at true db e h = makes_table sequence_text db e h
sequence_at false db e h = done e _ h

makes_sequence : (db : Database) (e : Error) → MakesSequence db (Err (Some e)) → is_of_refusal e ≡ true
makes_sequence db e h = sequence_at _ db e h

-- ---- the commands that write

module _ (limit : Option ℕ) (mode : Mode) (params : Row) (db : Database) where
  abbrev task_of : Table → Task
  task_of table = record { limit = limit; keys = mode.keys; schema = db.schema; table = table; params = params }

  on_table : (returning : Option Returning) (command : Command) (table : Option Table) (e : Error)
      → AtPlace (λ t. OnRows (task_of t) mode returning command db.trees) table (Err (Some e)) → is_of_refusal e ≡ true
  on_table returning command None e h = refused e _ refl h
  on_table returning command (Some table) e h = rows_named (task_of table) mode returning command db.trees e h

  creates : (text : List ℕ) (e : Error) → Redefines limit mode params db text CreateTable (Err (Some e)) → is_of_refusal e ≡ true
  creates text e (inl (stop, inl (other, bad, is), same)) =
      makes_table text db e (subst (λ s. MakesTable text db (Err s)) (is_stop e other (subst (λ s. ◌≡◌ {A = Result Database (Option Error)} (Err s) (Err other)) (is_stop e stop same) is)) bad)
  creates text e (inl (stop, inr (after, ok, bad), same)) = makes_sequence after e (subst (λ s. MakesSequence after (Err s)) (is_stop e stop same) bad)
  creates text e (inr (after, ok, out)) = done e _ out

  creates_at : (b : Bool) (text : List ℕ) (e : Error) → MatchBool b (Refuses {A = Tally × Database} InvalidQuery (Err (Some e))) (Redefines limit mode params db text CreateTable (Err (Some e))) → is_of_refusal e ≡ true
  creates_at true text e h = refused e _ refl h
  creates_at false text e h = creates text e h

  pub refused_as : (text : List ℕ) (returning : Option Returning) (command : Command) (e : Error) → is_write command ≡ true → Does limit mode params db text returning command (Err (Some e)) → is_of_refusal e ≡ true
  refused_as text returning (Insert at from) e w h = on_table returning (Insert at from) _ e h
  refused_as text returning (InsertOr at way from clauses) e w h = on_table returning (InsertOr at way from clauses) _ e h
  refused_as text returning (Update at q) e w h = on_table returning (Update at q) _ e h
  refused_as text returning (Delete at q) e w h = on_table returning (Delete at q) _ e h
  refused_as text returning CreateTable e w h = creates_at (is_some returning) text e h
  refused_as text returning _ e w h = absurd (let f : false ≡ true = w in cc)

pub refusals_are_named : (e : Error) → IsRefusal e → is_of_refusal e ≡ true
refusals_are_named e h = refused_as h.limit h.mode h.params h.db h.text h.returning h.command e h.writes h.refused
