-- Passing one check after another, as a loop does.
use Rattle.std.proofs.Common.{◌≡◌, ℕ, suc, ◌+◌, ◌≤◌, ◌<◌, List, [], ◌∷◌, Some, None, Result, Ok, Err, length, drop, get_or, refl, sym, ap, ◌∙◌, arith}
use Rattle.std.proofs.lemmas.List.{drop_more, drop_all}
use Rattle.serde_json.specs.Data.{Data, Items, no_items, item}
use Rattle.serde_json.specs.View.{view, items_view}
use Rattle.serde_json.specs.Read.{read}
use Rattle.serde_json.proofs.OnLiterals.{serde_json_on_literals}
use Rattle.serde_json.specs.declared.value.Value.{Value}
use Rattle.event_json.specs.Faults.{◌>>=◌}
use Rattle.event_json.specs.Documents.{numbered_event, doc_of, events_of}
use Rattle.event_json.specs.Sites.{Site}
use Rattle.event_json.specs.Members.{each, count_of}

-- what the rest finds decides what the whole finds
abbrev pub Carries : {A B E : Type 0} → Result A E → Result B E → Type 0
Carries {A} {B} {E} rest total = ((x : A) → rest ≡ Ok x → (y : B) × (total ≡ Ok y)) × ((e : E) → rest ≡ Err e → total ≡ Err e)

-- one more passes
pub carry_more : {A B E : Type 0} (f : ℕ → Data → Result A E) (n : ℕ) (vs : List Value) (i : ℕ) (v : Value) (x : A) (total : Result B E)
    → i < length vs → f n (view (get_or vs i v)) ≡ Ok x → Carries (each f n (items_view (drop i vs))) total
    → Carries (each f (n + 1) (items_view (drop (i + 1) vs))) total
carry_more f n vs i v x total lt found carries = (
  λ xs h. carries.0 (x ∷ xs) (rw (drop_more vs i v lt, found, h) refl),
  λ e h. carries.1 e (rw (drop_more vs i v lt, found, h) refl),
)

-- the next doesn't
pub carry_fails : {A B E : Type 0} (f : ℕ → Data → Result A E) (n : ℕ) (vs : List Value) (i : ℕ) (v : Value) (e : E) (total : Result B E)
    → i < length vs → f n (view (get_or vs i v)) ≡ Err e → Carries (each f n (items_view (drop i vs))) total → total ≡ Err e
carry_fails f n vs i v e total lt found carries = carries.1 e (rw (drop_more vs i v lt, found) refl)

-- none is left
pub carry_done : {A B E : Type 0} (f : ℕ → Data → Result A E) (n : ℕ) (vs : List Value) (i : ℕ) (total : Result B E)
    → length vs ≤ i → Carries (each f n (items_view (drop i vs))) total → (y : B) × (total ≡ Ok y)
carry_done f n vs i total le carries = carries.0 [] (rw (drop_all i vs le) refl)

same_ok : {A E : Type 0} (x y : A) → ◌≡◌ {A = Result A E} (Ok x) (Ok y) → x ≡ y
same_ok x y e = cc

-- as many are found as there are
pub each_count : {A E : Type 0} (f : ℕ → Data → Result A E) (n : ℕ) (items : Items) (xs : List A) → each f n items ≡ Ok xs → length xs ≡ count_of items
each_count f n no_items [] h = refl
each_count f n no_items (x ∷ xs) h = absurd (let no : ⊥ = cc in no)
each_count {A} {E} f n (item d ds) xs h =
    by (f n d) (each f (n + 1) ds) (each_count f (n + 1) ds) h
  where
    by : (first : Result A E) (rest : Result (List A) E) → ((ys : List A) → rest ≡ Ok ys → length ys ≡ count_of ds)
        → (first >>= λ y. rest >>= λ ys. Ok (y ∷ ys)) ≡ Ok xs → length xs ≡ suc (count_of ds)
    by (Ok y) (Ok ys) more e = sym (ap length (same_ok _ _ e)) ∙ ap suc (more ys refl)
    by (Ok y) (Err fault) more e = absurd (let no : ⊥ = cc in no)
    by (Err fault) rest more e = absurd (let no : ⊥ = cc in no)

-- what is found of each event decides what is found of all
pub carry_events : (sites : List Site) (items : Items) → Carries (each (numbered_event sites) 1 items) (events_of sites items)
unfolding events_of
carry_events sites items = (λ xs h. (doc_of xs, rw h refl), λ e h. rw h refl)

-- no value is read of no bytes
pub some_bytes : (bytes : List ℕ) (d : Data) → read bytes ≡ Some d → 0 < length bytes
unfolding serde_json_on_literals
some_bytes [] d h = absurd (let none : read [] ≡ None = refl in let no : ⊥ = cc in no)
some_bytes (b ∷ bs) d h = omega arith
