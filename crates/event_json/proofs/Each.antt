-- Finding one thing after another, as a loop does.
use Rattle.std.proofs.Common.{◌≡◌, ℕ, ◌+◌, ◌≤◌, ◌<◌, List, [], ◌∷◌, ◌++◌, Result, Ok, Err, length, take, drop, get_or, map, refl, sym, ap, ◌∙◌, append_assoc}
use Rattle.std.proofs.lemmas.List.{append-nil, drop_more, drop_all, take_all, map_more}
use Rattle.serde_json.specs.Data.{Data}
use Rattle.serde_json.specs.View.{view, items_view}
use Rattle.serde_json.specs.declared.value.Value.{Value}
use Rattle.event_json.specs.Faults.{◌>>=◌}
use Rattle.event_json.specs.Members.{each}

-- what was found before, and what is still found
abbrev pub after : {A E : Type 0} → List A → Result (List A) E → Result (List A) E
after front found = found >>= λ rest. Ok (front ++ rest)

regroup : {A E : Type 0} (front : List A) (x : A) (found : Result (List A) E) → after front (found >>= λ rest. Ok (x ∷ rest)) ≡ after (front ++ x ∷ []) found
regroup front x (Ok rest) = ap Ok (simp append_assoc)
regroup front x (Err e) = refl

-- one more is found
pub each_more : {A E : Type 0} (f : ℕ → Data → Result A E) (n : ℕ) (front : List A) (vs : List Value) (i : ℕ) (v : Value) (x : A) (total : Result (List A) E)
    → i < length vs → f n (view (get_or vs i v)) ≡ Ok x → after front (each f n (items_view (drop i vs))) ≡ total
    → after (front ++ x ∷ []) (each f (n + 1) (items_view (drop (i + 1) vs))) ≡ total
each_more f n front vs i v x total lt found so_far =
    let one : after front (each f n (items_view (drop i vs))) ≡ after (front ++ x ∷ []) (each f (n + 1) (items_view (drop (i + 1) vs))) =
    rw (drop_more vs i v lt, found) (regroup front x (each f (n + 1) (items_view (drop (i + 1) vs)))) in
    sym one ∙ so_far

-- the next isn't found
pub each_fails : {A E : Type 0} (f : ℕ → Data → Result A E) (n : ℕ) (front : List A) (vs : List Value) (i : ℕ) (v : Value) (e : E) (total : Result (List A) E)
    → i < length vs → f n (view (get_or vs i v)) ≡ Err e → after front (each f n (items_view (drop i vs))) ≡ total → total ≡ Err e
each_fails f n front vs i v e total lt found so_far =
    let one : after front (each f n (items_view (drop i vs))) ≡ Err e = rw (drop_more vs i v lt, found) refl in
    sym so_far ∙ one

-- none is left
pub each_done : {A E : Type 0} (f : ℕ → Data → Result A E) (n : ℕ) (front : List A) (vs : List Value) (i : ℕ) (total : Result (List A) E)
    → length vs ≤ i → after front (each f n (items_view (drop i vs))) ≡ total → total ≡ Ok front
each_done f n front vs i total le so_far =
    let one : after front (each f n (items_view (drop i vs))) ≡ Ok front = rw (drop_all i vs le) (ap Ok (append-nil front)) in
    sym so_far ∙ one

-- one more passes, where what is found of each is what it lends
pub lent_more : {A E : Type 0} (f : ℕ → Data → Result A E) (lent : Value → A)
    (n : ℕ) (vs : List Value) (i : ℕ) (v : Value) (total : Result (List A) E)
    → i < length vs → f n (view (get_or vs i v)) ≡ Ok (lent (get_or vs i v))
    → after (map lent (take i vs)) (each f n (items_view (drop i vs))) ≡ total
    → after (map lent (take (i + 1) vs)) (each f (n + 1) (items_view (drop (i + 1) vs))) ≡ total
lent_more f lent n vs i v total lt found so_far =
    rw (map_more lent vs i v lt) (each_more f n (map lent (take i vs)) vs i v (lent (get_or vs i v)) total lt found so_far)

-- none is left
pub lent_done : {A E : Type 0} (f : ℕ → Data → Result A E) (lent : Value → A)
    (n : ℕ) (vs : List Value) (i : ℕ) (total : Result (List A) E)
    → length vs ≤ i → after (map lent (take i vs)) (each f n (items_view (drop i vs))) ≡ total → total ≡ Ok (map lent vs)
lent_done f lent n vs i total le so_far =
    each_done f n (map lent (take i vs)) vs i total le so_far ∙ ap (λ l. Ok (map lent l)) (take_all i vs le)
