-- Gathering the events of a document, as a loop does.
use Rattle.std.proofs.Common.{◌≡◌, ℕ, suc, ◌+◌, ◌≤◌, ◌<◌, List, [], ◌∷◌, ◌++◌, Option, Some, None, Result, Ok, Err, length, drop, get_or, refl, sym, ap, ◌∙◌, append_assoc, add-zero, zero-add, arith}
use Rattle.std.specs.Prelude.{filter, filter_map, is_none}
use Rattle.std.proofs.lemmas.List.{append-nil, drop_more, drop_all}
use Rattle.serde_json.specs.Data.{Data}
use Rattle.serde_json.specs.View.{view, items_view}
use Rattle.serde_json.specs.declared.value.Value.{Value}
use Rattle.event_json.specs.declared.doc_faults.DocFault.{DocFault}
use Rattle.event_json.specs.declared.doc_faults.ReadFault.{ReadFault}
use Rattle.event_json.specs.declared.doc_faults.ReadFault.TheVariants as reads
use Rattle.event_json.specs.declared.documents.Doc.{Doc}
use Rattle.event_json.specs.Events.{Content}
use Rattle.event_json.specs.Faults.{◌>>=◌, Refuses}
use Rattle.event_json.specs.Members.{each}
use Rattle.event_json.specs.Documents.{doc_of}

-- the document of what was found before and what is still found
abbrev pub with_rest : List Content → ℕ → List (Option Content) → Doc
with_rest events skipped rest = record { events = events ++ filter_map (λ e. e) rest; skipped = skipped + length (filter is_none rest) }

abbrev pub gather : List Content → ℕ → Result (List (Option Content)) DocFault → Result Doc DocFault
gather events skipped found = found >>= λ rest. Ok (with_rest events skipped rest)

abbrev doc : List Content → ℕ → Doc
doc events skipped = record { events = events; skipped = skipped }

regroup_kept : (events : List Content) (skipped : ℕ) (e : Content) (found : Result (List (Option Content)) DocFault)
    → gather events skipped (found >>= λ rest. Ok (Some e ∷ rest)) ≡ gather (events ++ e ∷ []) skipped found
regroup_kept events skipped e (Ok rest) =
    ap (λ (es : List Content). Ok (doc es (skipped + length (filter is_none rest)))) (sym (append_assoc events (e ∷ []) (filter_map (λ o. o) rest)))
regroup_kept events skipped e (Err fault) = refl

one_on : (a b : ℕ) → a + suc b ≡ a + 1 + b
one_on a b = omega arith

regroup_skipped : (events : List Content) (skipped : ℕ) (found : Result (List (Option Content)) DocFault)
    → gather events skipped (found >>= λ rest. Ok (None ∷ rest)) ≡ gather events (skipped + 1) found
regroup_skipped events skipped (Ok rest) =
    ap (λ (n : ℕ). Ok (doc (events ++ filter_map (λ o. o) rest) n)) (one_on skipped (length (filter is_none rest)))
regroup_skipped events skipped (Err fault) = refl

-- nothing was found before
pub gather_none : (found : Result (List (Option Content)) DocFault) → gather [] 0 found ≡ (found >>= λ rest. Ok (doc_of rest))
gather_none (Ok rest) = ap (λ (n : ℕ). Ok (doc (filter_map (λ o. o) rest) n)) (zero-add (length (filter is_none rest)))
gather_none (Err fault) = refl

-- one more event is kept
pub kept_more : (f : ℕ → Data → Result (Option Content) DocFault) (n : ℕ) (events : List Content) (skipped : ℕ) (vs : List Value) (i : ℕ) (v : Value) (e : Content) (total : Result Doc DocFault)
    → i < length vs → f n (view (get_or vs i v)) ≡ Ok (Some e) → gather events skipped (each f n (items_view (drop i vs))) ≡ total
    → gather (events ++ e ∷ []) skipped (each f (n + 1) (items_view (drop (i + 1) vs))) ≡ total
kept_more f n events skipped vs i v e total lt found so_far =
    let one : gather events skipped (each f n (items_view (drop i vs))) ≡ gather (events ++ e ∷ []) skipped (each f (n + 1) (items_view (drop (i + 1) vs))) =
    rw (drop_more vs i v lt, found) (regroup_kept events skipped e (each f (n + 1) (items_view (drop (i + 1) vs)))) in
    sym one ∙ so_far

-- one more event is skipped
pub skipped_more : (f : ℕ → Data → Result (Option Content) DocFault) (n : ℕ) (events : List Content) (skipped : ℕ) (vs : List Value) (i : ℕ) (v : Value) (total : Result Doc DocFault)
    → i < length vs → f n (view (get_or vs i v)) ≡ Ok None → gather events skipped (each f n (items_view (drop i vs))) ≡ total
    → gather events (skipped + 1) (each f (n + 1) (items_view (drop (i + 1) vs))) ≡ total
skipped_more f n events skipped vs i v total lt found so_far =
    let one : gather events skipped (each f n (items_view (drop i vs))) ≡ gather events (skipped + 1) (each f (n + 1) (items_view (drop (i + 1) vs))) =
    rw (drop_more vs i v lt, found) (regroup_skipped events skipped (each f (n + 1) (items_view (drop (i + 1) vs)))) in
    sym one ∙ so_far

-- the next event is refused
pub event_fails : (c : ReadFault) (f : ℕ → Data → Result (Option Content) DocFault) (n : ℕ) (events : List Content) (skipped : ℕ) (vs : List Value) (i : ℕ) (v : Value) (total : Result Doc DocFault)
    → i < length vs → Refuses c (f n (view (get_or vs i v))) → gather events skipped (each f n (items_view (drop i vs))) ≡ total → Refuses c total
event_fails reads.NoMemory f n events skipped vs i v total lt found so_far = tt
event_fails (reads.Doc fault) f n events skipped vs i v total lt found so_far =
    let one : gather events skipped (each f n (items_view (drop i vs))) ≡ Err fault = rw (drop_more vs i v lt, found) refl in
    sym so_far ∙ one

-- none is left
pub events_done : (f : ℕ → Data → Result (Option Content) DocFault) (n : ℕ) (events : List Content) (skipped : ℕ) (vs : List Value) (i : ℕ) (total : Result Doc DocFault)
    → length vs ≤ i → gather events skipped (each f n (items_view (drop i vs))) ≡ total → total ≡ Ok (record { events = events; skipped = skipped })
events_done f n events skipped vs i total le so_far =
    let one : gather events skipped (each f n (items_view (drop i vs))) ≡ Ok (record { events = events; skipped = skipped }) =
    rw (drop_all i vs le) (ap (λ (es : List Content). Ok (doc es (skipped + 0))) (append-nil events) ∙ ap (λ (k : ℕ). Ok (doc events k)) (add-zero skipped)) in
    sym so_far ∙ one
