-- Tables that are made one after another.
use Rattle.std.proofs.Common.{◌≡◌, ◌⊎◌, inl, inr, List, [], ◌∷◌, ◌++◌, Ok, Err, Result, refl, sym, ◌∙◌, arith, subst}
use Rattle.std.proofs.lemmas.List.Sorted.{IsPermutation-refl}
use Rattle.sqlite.specs.Table.{Table}
use Rattle.sqlite.specs.Tree.{Trees}
use Rattle.sqlite.specs.Schema.{Schema}
use Rattle.sqlite.specs.State.{State, HasCleanDisk}
use Rattle.sqlite.specs.declared.error.Error.{Error}
use Rattle.sqlite.proofs.StateLemmas.{survives_then}
use Rattle.sqlite_catalog.specs.Change.{created, next_tree, KeepsRows}
use Rattle.sqlite.specs.Order.{Row}
use Rattle.site_rows.specs.declared.tables.Table.{«Table» as SiteTable}
use Rattle.site_rows.specs.declared.tables.Table.TheVariants.{Store}
use Rattle.sqlite_rules.specs.Lists.{Has as InList}
use Rattle.site_rows.specs.declared.tables.Version.TheVariants.{Second}
use Rattle.site_tables.specs.Made.{DoesMake, MakesTables}
use Rattle.site_tables.specs.Stored.{Change, DoesAll, Holds, after, no_rows}
use Rattle.site_tables.specs.TableRows.{HasRows, Creates}
use Rattle.site_tables.specs.Tables.{declared, earlier, made, no_schema, schema_of, site_schema}
use Rattle.site_tables.proofs.InSchemas.{in_schema}
use Rattle.site_tables.proofs.Steps.{goes_then, keeps_then, reason_then, on_ok, on_err}

-- a table of a list, or the last one behind it
front_or_last : (tables : List Table) (last t : Table) → InList (tables ++ last ∷ []) t → InList tables t ⊎ (t ≡ last)
front_or_last [] last t (inl is) = inr is
front_or_last [] last t (inr none) = absurd none
front_or_last (one ∷ tables) last t (inl is) = inl (inl is)
front_or_last (one ∷ tables) last t (inr there) = elim (front_or_last tables last t there) [
  | inl front ↦ inl (inr front)
  | inr is ↦ inr is
]

still_there : (tables : List Table) (last t : Table) → InList tables t → InList (tables ++ last ∷ []) t
still_there [] last t there = absurd there
still_there (one ∷ tables) last t (inl is) = inl is
still_there (one ∷ tables) last t (inr there) = inr (still_there tables last t there)

kept_of : (tables : List Table) (old new : Trees) → KeepsRows tables old new → (t : Table) → InList tables t → new t.tree ≡ old t.tree
kept_of [] old new keeps t there = absurd there
kept_of (one ∷ tables) old new keeps t (inl is) = subst (λ (t : Table). new t.tree ≡ old t.tree) (sym is) keeps.0
kept_of (one ∷ tables) old new keeps t (inr there) = kept_of tables old new keeps.1 t there

-- a table that is made is a schema that becomes the next
pub made_one : {X : Type 0} {table : Table} {from to : Schema} {old new : State} {r : Result X Error} → created from table ≡ to → Creates table from old new r → MakesTables from to old new r
made_one {table = table} {from = from} {to = to} {old = old} {new = new} {r = r} is it = subst (λ s. MakesTables from s old new r) is (record {
  done = λ clean. on_ok r (λ made. record {
    goes_on = made.goes_on;
    schema = made.schema_is;
    lists = made.lists;
    kept = λ has t there. (still_there from.tables (record table { tree = next_tree from }) t there, kept_of from.tables old.now.trees new.now.trees (made.others has) t there);
    empty = λ has t there. elim (front_or_last from.tables (record table { tree = next_tree from }) t there) [
      | inl front ↦ inl front
      | inr is ↦ inr (subst (λ (t : Table). new.now.trees t.tree ≡ []) (sym is) (made.empty has))
    ];
  }) (it.done clean);
  undone = it.undone;
  cause = it.cause;
  crash = it.crash;
})

-- the table that is made next, behind those that are made earlier
pub made_next : (t : SiteTable) → created (schema_of (earlier t made)) (record (declared t) { tree = 0 }) ≡ schema_of (earlier t made ++ t ∷ [])
made_next Store = refl
made_next other = refl

-- what is made after tables that were made
pub made_then : {X Y : Type 0} {from mid to : Schema} {a b c : State} {first : Result X Error} {x : X} {second : Result Y Error} → first ≡ Ok x → MakesTables from mid a b first → MakesTables mid to b c second → MakesTables from to a c second
made_then {first = Err e} ok p q = absurd cc
made_then {a = a} {b = b} {c = c} {first = Ok y} {second = second} ok p q =
    let early = λ (clean : HasCleanDisk c). p.done (omega (arith, q.crash.clean)) in
    record {
      done = λ clean. on_ok second (λ d. record {
        goes_on = goes_then a b c (early clean).goes_on d.goes_on;
        schema = λ has. d.schema ((early clean).schema has);
        lists = λ has. d.lists ((early clean).schema has);
        kept = λ has t there. let first = (early clean).kept has t there in let then = d.kept ((early clean).schema has) t first.0 in (then.0, then.1 ∙ first.1);
        empty = λ has t there. elim (d.empty ((early clean).schema has) t there) [
          | inl mid_there ↦ elim ((early clean).empty has t mid_there) [
            | inl was ↦ inl was
            | inr none ↦ inr ((d.kept ((early clean).schema has) t mid_there).1 ∙ none)
          ]
          | inr none ↦ inr none
        ];
      }) (q.done clean);
      undone = λ clean. on_err second (λ kept. keeps_then a b c (early clean).goes_on kept) (q.undone clean);
      cause = λ clean inside has. let one = early clean in reason_then a b c second one.goes_on p.crash.counts (q.cause clean (rw one.goes_on.mode inside) (one.schema has));
      crash = survives_then a b c _ _ (λ _. ⊥) (λ _ db none. none) (λ _ db none. none) p.crash q.crash;
    }

-- a table without rows
pub no_rows_in : (table : Table) (tree : List Row) → tree ≡ [] → HasRows table [] tree
no_rows_in table tree none = rw none (record { keyed = refl; rising = tt; same = IsPermutation-refl [] })

-- tables that were made, and then filled, hold the rows
pub filled_hold : (fills : Change) (begun mid end : State) → DoesMake no_schema site_schema begun mid → DoesAll fills mid end → begun.now.schema ≡ no_schema → (end.now.schema ≡ site_schema) × Holds (after fills no_rows) end.now.trees
filled_hold fills begun mid end one two none = (two.schema (one.schema none), two.holds (one.schema none) no_rows none_held)
  where
    none_held : Holds no_rows mid.now.trees
    none_held = record {
      lists = one.lists none;
      has = λ t there. no_rows_in (declared t) (mid.now.trees (declared t).tree) (elim (one.empty none (declared t) (in_schema Second t there)) [ inl was ↦ absurd was | inr is ↦ is ]);
      rest = λ t lacks. absurd (lacks tt);
    }
