-- What the writes of one table are for all tables.
use Rattle.std.proofs.Common.{◌≡◌, ◌==◌, Bool, true, false, not, ◌&&◌, ◌||◌, if◌then◌else◌, List, [], ◌∷◌, ◌++◌, Some, Ok, Err, Result, inl, inr, refl, sym, ap, ◌∙◌, arith, subst}
use Rattle.std.specs.List.{AllByRecursion, find, list_all}
use Rattle.std.proofs.lemmas.Bool.{cases_Bool, eqb-true}
use Rattle.sqlite.specs.Order.{Row}
use Rattle.sqlite.specs.declared.error.Error.{Error}
use Rattle.sqlite.specs.State.{State, HasCleanDisk}
use Rattle.sqlite.specs.Tree.{Trees}
use Rattle.sqlite.proofs.StateLemmas.{survives_then}
use Rattle.sqlite_catalog.specs.Listing.{Lists}
use Rattle.sqlite_trees.specs.Objects.{catalog_tree}
use Rattle.site_rows.specs.declared.tables.Table.{«Table» as SiteTable}
use Rattle.site_rows.specs.declared.tables.Table.TheVariants.{Store, Site, Address, Event, Part, Pack, Packed, Quarantine, Outbox, Seen, Parent, Recall}
use Rattle.site_tables.specs.Stored.{Change, Contents, Holds, WritesAll, after, among, only}
use Rattle.site_tables.specs.Tables.{declared, made, site_schema}
use Rattle.site_tables.specs.TableRows.{HasRows, Keeps, Writes, is_index}
use Rattle.site_tables.proofs.Steps.{goes_then, keeps_then, reason_then, on_ok, on_err}

-- ---- every table is made

-- what holds of each table that is made holds of every table
pub of_each : (P : SiteTable → Type 0) → AllByRecursion P made → (t : SiteTable) → P t
of_each P h Store = h.0
of_each P h Site = h.1.0
of_each P h Address = h.1.1.0
of_each P h Event = h.1.1.1.0
of_each P h Part = h.1.1.1.1.0
of_each P h Quarantine = h.1.1.1.1.1.0
of_each P h Outbox = h.1.1.1.1.1.1.0
of_each P h Seen = h.1.1.1.1.1.1.1.0
of_each P h Parent = h.1.1.1.1.1.1.1.1.0
of_each P h Recall = h.1.1.1.1.1.1.1.1.1.0
of_each P h Pack = h.1.1.1.1.1.1.1.1.1.1.0
of_each P h Packed = h.1.1.1.1.1.1.1.1.1.1.1.0

both_true : (a b : Bool) → (a && b) ≡ true → (a ≡ true) × (b ≡ true)
both_true true b h = (refl, h)
both_true false b h = absurd cc

all_true : (q : SiteTable → Bool) (tables : List SiteTable) → list_all q tables ≡ true → AllByRecursion (λ t. q t ≡ true) tables
all_true q [] h = tt
all_true q (t ∷ tables) h = let it = both_true (q t) (list_all q tables) h in (it.0, all_true q tables it.1)

-- a test that each table passes
pub every : (q : SiteTable → Bool) → list_all q made ≡ true → (t : SiteTable) → q t ≡ true
every q h = of_each (λ t. q t ≡ true) (all_true q made h)

is_not : (b : Bool) → not b ≡ true → b ≡ false
is_not true h = absurd cc
is_not false h = refl

-- a table is known by its tree
known : (t : SiteTable) → find (λ one. (declared one).tree == (declared t).tree) made ≡ Some t
known Store = refl
known other = refl

same_table : (t u : SiteTable) → ((declared t).tree == (declared u).tree) ≡ true → t ≡ u
same_table t u h =
    let tree : (declared t).tree ≡ (declared u).tree = eqb-true _ _ h in
    let both : Some t ≡ Some u = sym (known t) ∙ ap (λ n. find (λ one. (declared one).tree == n) made) tree ∙ known u in
    cc

-- ---- a change of one table is one of all tables

is_plain : (t : SiteTable) → is_index site_schema (declared t).tree ≡ false
is_plain t = is_not _ (every (λ one. not (is_index site_schema (declared one).tree)) refl t)

is_none : (t : SiteTable) → (catalog_tree == (declared t).tree) ≡ false
is_none t = is_not _ (every (λ one. not (catalog_tree == (declared one).tree)) refl t)

last_false : (b : Bool) → (b || false) ≡ b
last_false true = refl
last_false false = refl

-- the rows of one table are changed so, and those of the others stay
one_changed : (t : SiteTable) (change : Change) (old new : Trees) (rows : Contents) → ((one : List Row) → HasRows (declared t) one (old (declared t).tree) → HasRows (declared t) (change t one) (new (declared t).tree))
    → Keeps site_schema (declared t).tree old new → Holds rows old → Holds (after (only (t ∷ []) change) rows) new
unfolding only
one_changed t change old new rows put same h = record {
  lists = subst (λ tree. Lists tree site_schema) (sym (same catalog_tree (is_none t) refl)) h.lists;
  has = λ u there. elim (cases_Bool ((declared t).tree == (declared u).tree)) [
    | inl is ↦ subst (λ u. HasRows (declared u) (only (t ∷ []) change u (rows u)) (new (declared u).tree)) (same_table t u is) (rw (refl_tree t) (put (rows t) (h.has t tt)))
    | inr other ↦ rw other (subst (λ tree. HasRows (declared u) (rows u) tree) (sym (same (declared u).tree (turned t u other) (is_plain u))) (h.has u tt))
  ];
  rest = λ u lacks. absurd (lacks tt);
}
  where
    refl_tree : (t : SiteTable) → ((declared t).tree == (declared t).tree) ≡ true
    refl_tree = every (λ t. (declared t).tree == (declared t).tree) refl

    turned : (t u : SiteTable) → ((declared t).tree == (declared u).tree) ≡ false → ((declared u).tree == (declared t).tree) ≡ false
    turned t u h = elim (cases_Bool ((declared u).tree == (declared t).tree)) [
      | inl is ↦ absurd (let same = same_table u t is in let one = refl_tree t in let two : ((declared t).tree == (declared t).tree) ≡ false = subst (λ u. ((declared t).tree == (declared u).tree) ≡ false) same h in cc)
      | inr is ↦ is
    ]

pub in_all : {X : Type 0} (t : SiteTable) (change : Change) {a b : State} {r : Result X Error} → Writes (declared t) (change t) a b r → WritesAll (only (t ∷ []) change) a b r
in_all t change {a} {b} {r} p = record {
  done = λ clean. on_ok r (λ d. record {
    goes_on = d.goes_on;
    schema = λ has. (d.changes has).schema ∙ has;
    holds = λ has rows h. let it = d.changes has in one_changed t change a.now.trees b.now.trees rows it.rows (λ t other plain. it.others t other (rw has plain)) h;
  }) (p.done clean);
  undone = p.undone;
  cause = p.cause;
  crash = p.crash;
}

-- ---- one change after another

-- changes that make the same of all rows
pub all_same : {X : Type 0} {f h : Change} {a b : State} {r : Result X Error} → ((t : SiteTable) (rows : List Row) → f t rows ≡ h t rows) → WritesAll f a b r → WritesAll h a b r
all_same {f = f} {h = h} {a = a} {b = b} {r = r} same p = record {
  done = λ clean. on_ok r (λ d. record {
    goes_on = d.goes_on;
    schema = d.schema;
    holds = λ has rows held. let it = d.holds has rows held in record { lists = it.lists; has = λ t there. subst (λ now. HasRows (declared t) now (b.now.trees (declared t).tree)) (same t (rows t)) (it.has t there); rest = λ t lacks. absurd (lacks tt) };
  }) (p.done clean);
  undone = p.undone;
  cause = p.cause;
  crash = p.crash;
}

-- what follows a write that was done
pub all_then : {X Y : Type 0} {f h : Change} {a b c : State} {first : Result X Error} {x : X} {second : Result Y Error} → first ≡ Ok x → WritesAll f a b first → WritesAll h b c second → WritesAll (λ t rows. h t (f t rows)) a c second
all_then {first = Err e} ok p q = absurd cc
all_then {f = f} {a = a} {b = b} {c = c} {first = Ok y} {second = second} ok p q =
    let early = λ (clean : HasCleanDisk c). p.done (omega (arith, q.crash.clean)) in
    record {
      done = λ clean. on_ok second (λ d. record {
        goes_on = goes_then a b c (early clean).goes_on d.goes_on;
        schema = λ has. d.schema ((early clean).schema has);
        holds = λ has rows held. d.holds ((early clean).schema has) (after f rows) ((early clean).holds has rows held);
      }) (q.done clean);
      undone = λ clean. on_err second (λ kept. keeps_then a b c (early clean).goes_on kept) (q.undone clean);
      cause = λ clean inside has. let one = early clean in reason_then a b c second one.goes_on p.crash.counts (q.cause clean (rw one.goes_on.mode inside) (one.schema has));
      crash = survives_then a b c _ _ (λ _. ⊥) (λ _ db none. none) (λ _ db none. none) p.crash q.crash;
    }

-- so do changes of some tables, and then of others
among_both : (t : SiteTable) (some more : List SiteTable) → among t (some ++ more) ≡ (among t some || among t more)
among_both t [] more = refl
among_both t (one ∷ some) more = ap (λ b. ((declared one).tree == (declared t).tree) || b) (among_both t some more) ∙ or_assoc ((declared one).tree == (declared t).tree) (among t some) (among t more)
  where
    or_assoc : (a b c : Bool) → (a || (b || c)) ≡ ((a || b) || c)
    or_assoc true b c = refl
    or_assoc false b c = refl

abbrev pub are_apart : List SiteTable → List SiteTable → SiteTable → Bool
are_apart some more t = not (among t some && among t more)

only_both : (change : Change) (some more : List SiteTable) → list_all (are_apart some more) made ≡ true → (t : SiteTable) (rows : List Row) → only more change t (only some change t rows) ≡ only (some ++ more) change t rows
unfolding only
only_both change some more apart t rows = rw (among_both t some more) (cases (among t some) (among t more) (every (are_apart some more) apart t))
  where
    cases : (a b : Bool) → not (a && b) ≡ true → (if b then change t (if a then change t rows else rows) else (if a then change t rows else rows)) ≡ (if (a || b) then change t rows else rows)
    cases true true h = absurd cc
    cases true false h = refl
    cases false true h = refl
    cases false false h = refl

pub both_then : {X Y : Type 0} (change : Change) (some more : List SiteTable) {a b c : State} {first : Result X Error} {x : X} {second : Result Y Error} → list_all (are_apart some more) made ≡ true
    → first ≡ Ok x → WritesAll (only some change) a b first → WritesAll (only more change) b c second → WritesAll (only (some ++ more) change) a c second
both_then change some more apart ok p q = all_same (only_both change some more apart) (all_then ok p q)

-- changes of all tables
of_all : (change : Change) (t : SiteTable) (rows : List Row) → only made change t rows ≡ change t rows
unfolding only
of_all change t rows = rw (every (λ t. among t made) refl t) refl

pub whole : {X : Type 0} {change : Change} {a b : State} {r : Result X Error} → WritesAll (only made change) a b r → WritesAll change a b r
whole {change = change} p = all_same (of_all change) p

-- a write that failed, whatever it would have changed, alone and after one that was done
all_fail : {X Y : Type 0} {f h : Change} {a b : State} {e : Error} (first : Result X Error) (out : Result Y Error) → first ≡ Err e → out ≡ Err e → WritesAll f a b first → WritesAll h a b out
all_fail (Ok x) out bad end p = absurd cc
all_fail (Err d) (Ok y) bad end p = absurd cc
all_fail (Err d) (Err c) bad end p = let same : d ≡ c = cc in record { done = λ _. tt {0}; undone = p.undone; cause = λ clean inside has. rw same at (p.cause clean inside has); crash = p.crash }

pub then_fails : {X Y Z : Type 0} {f h other : Change} {a b c : State} {first : Result X Error} {x : X} {second : Result Y Error} {e : Error} {out : Result Z Error} → first ≡ Ok x → second ≡ Err e → out ≡ Err e → WritesAll f a b first → WritesAll h b c second
    → WritesAll other a c out
then_fails {second = second} {out = out} went bad end p q = all_fail second out bad end (all_then went p q)

-- a write that was done, whatever it answered
pub all_succeed : {X Y : Type 0} {f : Change} {a b : State} {x : X} {y : Y} (first : Result X Error) → first ≡ Ok x → WritesAll f a b first → WritesAll f a b (Ok y)
all_succeed (Ok z) ok p = record { done = p.done; undone = λ _. tt {0}; cause = λ _ _ _. tt {0}; crash = p.crash }
all_succeed (Err e) ok p = absurd cc
