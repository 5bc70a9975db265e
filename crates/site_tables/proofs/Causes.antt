-- Why a text that writes fails inside a transaction.
use Rattle.std.proofs.Common.{◌≡◌, inl, inr, ℕ, ◌≤◌, List, length, true, false, ◌||◌, ◌&&◌, Ok, Err, Result, IfErr, IsTrue, refl, sym, ap, subst, ◌∙◌, arith, rules, tests, nat_le}
use Rattle.std.specs.Prelude.{⊤}
use Rattle.sqlite_trees.specs.declared.error.StoreError.{StoreError}
use Rattle.sqlite_trees.specs.declared.error.StoreError.TheVariants.{OutOfMemory, Io, Corrupt, Full, Broken, Unstorable}
use Rattle.sqlite_schema.specs.declared.schema.Schema.{Schema}
use Rattle.sqlite_resolve.specs.declared.compiled.Compiled.{Compiled}
use Rattle.sqlite.specs.declared.error.Error.{Error}
use Rattle.sqlite.specs.Clock.{timed}
use Rattle.sqlite.specs.Command.{Command}
use Rattle.sqlite.specs.Command.TheVariants.{Insert, InsertOr, Update, Delete, CreateTable}
use Rattle.sqlite.specs.Effect.{is_query}
use Rattle.sqlite.specs.Listing.{understood}
use Rattle.sqlite.specs.Order.{Row}
use Rattle.sqlite.specs.State.{State, mode_of, text_of, HasCause, IsMisplaced, Escapes, EndsScope, IsNoStatement, IsNotRun, RunsCommand, ExecutesIn, ExecutesInside, is_pragma, shows_rows}
use Rattle.sqlite.proofs.Callers.{IsPlain, command_of}
use Rattle.site_tables.specs.Causes.{HasReason, IsAlone, is_write}

at_most : (a b : ℕ) → IsTrue (nat_le a b) → a ≤ b
at_most a b h = search (rules, tests)

same_ok : {A B : Type 0} (a b : A) → ◌≡◌ {A = Result A B} (Ok a) (Ok b) → a ≡ b
same_ok a b e = cc

-- a command that writes shows no rows
quiet_write : (command : Command) → is_write command ≡ true → (is_query command || (true && (is_pragma command || false))) ≡ false
quiet_write (Insert at from) w = refl
quiet_write (InsertOr at way from clauses) w = refl
quiet_write (Update at q) w = refl
quiet_write (Delete at q) w = refl
quiet_write CreateTable w = refl
quiet_write _ w = absurd (let e : false ≡ true = w in cc)

no_write : (a b : Command) → is_write a ≡ true → a ≡ b → is_write b ≡ false → ⊥
no_write a b w same not = let e : true ≡ false = sym w ∙ ap is_write same ∙ not in cc

well_placed : (s : State) (command : Command) (e : Error) → is_write command ≡ true → IsMisplaced s command e → ⊥
well_placed s command e w (inl (is, inl begin)) = no_write command _ w begin.0 refl
well_placed s command e w (inl (is, inr (inl commit, out))) = no_write command _ w commit refl
well_placed s command e w (inl (is, inr (inr rollback, out))) = no_write command _ w rollback refl
well_placed s command e w (inr (is, name, inl release, none)) = no_write command _ w release refl
well_placed s command e w (inr (is, name, inr back, none)) = no_write command _ w back refl

stays : (held : ℕ) (s : State) (command : Command) → is_write command ≡ true → Escapes held s command → ⊥
stays held s command w (inl (inl commit)) = no_write command _ w commit refl
stays held s command w (inl (inr rollback)) = no_write command _ w rollback refl
stays held s command w (inr (name, inl release, is)) = no_write command _ w release refl
stays held s command w (inr (name, inr back, is)) = no_write command _ w back refl

pub any_size : (old new : State) (P : Type 0) (cause : StoreError) → HasCause old new P cause → HasCause old new ⊤ cause
any_size old new P OutOfMemory h = tt
any_size old new P Io h = h
any_size old new P Corrupt h = h
any_size old new P Full h = h
any_size old new P Broken h = h
any_size old new P Unstorable h = tt

-- ---- a longer time

later : (a b c d : State) (cause : StoreError) → b.is_open ≡ a.is_open → a.faults ≤ b.faults → c.faults ≤ d.faults → HasCause b c ⊤ cause → HasCause a d ⊤ cause
later a b c d OutOfMemory same before after h = tt
later a b c d Io same before after h = omega arith
later a b c d Corrupt same before after h = omega arith
later a b c d Full same before after h = omega arith
later a b c d Broken same before after h = sym same ∙ h
later a b c d Unstorable same before after h = tt

pub reason_within : (a b c d : State) (e : Error) → b.is_open ≡ a.is_open → a.faults ≤ b.faults → c.faults ≤ d.faults → HasReason b c e → HasReason a d e
reason_within a b c d e same before after (inl fails) = inl (fails.0, fails.1, later a b c d fails.0 same before after fails.2)
reason_within a b c d e same before after (inr refused) = inr refused

pub if_err : {X : Type 0} {P Q : Error → Type 0} (r : Result X Error) → ((e : Error) → P e → Q e) → IfErr r P → IfErr r Q
if_err (Ok x) f h = tt {0}
if_err (Err e) f h = f e h

-- ---- one text

-- the text is one statement, with so many parameters, and means this command, which writes
pub record Says (schema : Schema) (sql : List ℕ) (meant : Command) (count : ℕ) : Type 0 where
  pub command : command_of (understood schema sql) ≡ meant
  pub plain : IsPlain (understood schema sql)
  pub alone : IsAlone schema sql count
  pub writes : is_write meant ≡ true

module _ (schema : Schema) (sql : List ℕ) (params : Row) (command : Command) (is : command_of (understood schema sql) ≡ command) (plain : IsPlain (understood schema sql)) (alone : IsAlone schema sql (length params)) (writes : is_write command ≡ true)
    (old new : State) (has : old.now.schema ≡ schema) where
  compiled : (c : Compiled) → understood old.now.schema sql ≡ Ok c → understood schema sql ≡ Ok c
  compiled c known = sym (ap (λ s. understood s sql) has) ∙ known

  writes_it : (c : Compiled) → understood old.now.schema sql ≡ Ok c → is_write c.command ≡ true
  writes_it c known = ap is_write (sym (ap command_of (compiled c known)) ∙ is) ∙ writes

  one_statement : (e : Error) → IsNoStatement old sql params e → ⊥
  one_statement e (inl (fault, known, told)) = subst IsPlain (sym (ap (λ s. understood s sql) has) ∙ known) plain
  one_statement e (inr (c, known, why)) =
      let bare : IsPlain (Ok c) = subst IsPlain (compiled c known) plain in
      let same : alone.0 ≡ c = same_ok _ c (sym alone.1 ∙ compiled c known) in
      let whole = rw same at alone.2 in
      let given = rw same at alone.3 in
      elim why [
        | inl more ↦ more.0 (at_most (length sql) c.tail whole)
        | inr (inl other) ↦ other.0 (sym given)
        | inr (inr timed) ↦ timed.0 bare.1
      ]

  refused : (c : Compiled) (given : Row) (e : Error) → understood old.now.schema sql ≡ Ok c → RunsCommand old new sql c given (Err e) → HasReason old new e
  refused c given e known (inl (inl misplaced, same)) = absurd (well_placed old c.command e (writes_it c known) misplaced)
  refused c given e known (inl (inr does, same)) = inr (record {
    limit = old.step_limit;
    mode = mode_of old;
    params = given;
    db = old.now;
    text = text_of sql c;
    returning = c.returning;
    command = c.command;
    writes = writes_it c known;
    refused = does.1;
  })
  refused c given e known (inr fails) = inl (fails.0, fails.1, any_size old new _ fails.0 fails.2)

  runs_quietly : (c : Compiled) → understood old.now.schema sql ≡ Ok c → shows_rows false c ≡ false
  runs_quietly c known =
      let bare : IsPlain (Ok c) = subst IsPlain (compiled c known) plain in
      rw bare.0 (quiet_write c.command (writes_it c known))

  pub fails_for : (r : Result ℕ Error) → ExecutesInside 0 sql params old new r → IfErr r (HasReason old new)
  unfolding ExecutesIn IsNotRun EndsScope
  fails_for (Ok n) h = tt {0}
  fails_for (Err e) (inl (inl (inl unread), kept)) = absurd (one_statement e unread.0)
  fails_for (Err e) (inl (inl (inr fails), kept)) = inl (fails.0, fails.1, any_size old new _ fails.0 fails.2)
  fails_for (Err e) (inl (inr ran, kept)) = refused ran.0 _ e ran.1.is (rw (runs_quietly ran.0 ran.1.is) at ran.2)
  fails_for (Err e) (inr (ends, is, same)) = absurd (stays 0 old ends.0.command (writes_it ends.0 ends.1.is) ends.2)

pub says_why : (schema : Schema) (sql : List ℕ) (params : Row) (command : Command) → Says schema sql command (length params) → (old new : State) → old.now.schema ≡ schema → (r : Result ℕ Error) → ExecutesInside 0 sql params old new r
    → IfErr r (HasReason old new)
says_why schema sql params command is old new has r h = fails_for schema sql params command is.command is.plain is.alone is.writes old new has r h
