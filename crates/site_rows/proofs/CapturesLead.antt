-- The rows of a record once events were captured.
use Rattle.std.proofs.Common.{◌≡◌, ℕ, ◌+◌, suc, List, [], ◌∷◌, ◌++◌, length, map, filter, flat_map, drop, refl, sym, ap, subst, ◌∙◌, arith, IsPermutation}
use Rattle.std.specs.List.{enumerate_from}
use Rattle.std.proofs.Math.Seq.{drop-append_seam}
use Rattle.std.proofs.lemmas.Grind.{flat_map-append}
use Rattle.std.proofs.lemmas.List.{append-nil, map-append, length-map}
use Rattle.std.proofs.lemmas.List.FromFn.{length-enumerate_from}
use Rattle.std.proofs.lemmas.List.Sums.{length-filter}
use Rattle.std.proofs.lemmas.List.Sorted.{IsPermutation-refl}
use Rattle.event_json.specs.Events.{Content}
use Rattle.trace_core.specs.Adding.{Addition, is_fresh, judged}
use Rattle.trace_core.specs.declared.adding.Standing.{Standing}
use Rattle.site_core.specs.declared.outcomes.Effects.TheVariants as effects
use Rattle.site_core.specs.Records.{Record}
use Rattle.site_core.specs.Steps.{Captures}
use Rattle.site_rows.specs.declared.changes.RowChanges.{RowChanges}
use Rattle.site_rows.specs.RecordRows.{children_of, event_row, packs_of, parts_of, rows_of}
use Rattle.site_rows.specs.StepRows.{LeadsTo, AreChangesOf, Counts, no_changes, no_rows, counts_of}
use Rattle.site_rows.proofs.Permuted.{same_permuted}

pub nothing_more : {X : Type 0} (xs : List X) → IsPermutation (xs ++ []) xs
nothing_more xs = same_permuted _ _ (append-nil xs)

-- the events of a list with more behind it, each with its number
numbered_apart : {X : Type 0} (n : ℕ) (xs ys : List X) → enumerate_from n (xs ++ ys) ≡ enumerate_from n xs ++ enumerate_from (length xs + n) ys
numbered_apart n [] ys = let at : n ≡ 0 + n = omega arith in ap (λ k. enumerate_from k ys) at
numbered_apart n (x ∷ xs) ys =
    let at : length xs + (n + 1) ≡ suc (length xs) + n = omega arith in
    ap (λ es. (n, x) ∷ es) (numbered_apart (n + 1) xs ys ∙ ap (λ k. enumerate_from (n + 1) xs ++ enumerate_from k ys) at)

abbrev with_events : Record → List Content → Record
with_events s events = record s { captured = record s.captured { events = events } }

abbrev pub event_changes : Record → List Content → RowChanges
event_changes s new = record no_changes {
  event = map event_row (enumerate_from (length s.captured.events + 1) new);
  part = flat_map (parts_of s.sites) (enumerate_from (length s.captured.events + 1) new);
  pack = flat_map packs_of (enumerate_from (length s.captured.events + 1) new);
  packed = flat_map children_of (enumerate_from (length s.captured.events + 1) new);
}

events_lead : (s : Record) (new : List Content) → LeadsTo (event_changes s new) (rows_of s) (rows_of (with_events s (s.captured.events ++ new)))
events_lead s new =
    let old = s.captured.events in
    record {
      version = refl;
      store = refl;
      site = refl;
      address = refl;
      event = ap (map event_row) (numbered_apart 1 old new) ∙ map-append event_row (enumerate_from 1 old) (enumerate_from (length old + 1) new);
      part = ap (flat_map (parts_of s.sites)) (numbered_apart 1 old new) ∙ flat_map-append (parts_of s.sites) (enumerate_from 1 old) (enumerate_from (length old + 1) new);
      pack = ap (flat_map packs_of) (numbered_apart 1 old new) ∙ flat_map-append packs_of (enumerate_from 1 old) (enumerate_from (length old + 1) new);
      packed = ap (flat_map children_of) (numbered_apart 1 old new) ∙ flat_map-append children_of (enumerate_from 1 old) (enumerate_from (length old + 1) new);
      quarantine = nothing_more _;
      outbox = IsPermutation-refl _;
      seen = nothing_more _;
      parent = nothing_more _;
      recall = IsPermutation-refl _;
    }

pub captures_lead : (s t : Record) (bytes : List ℕ) (fresh known skipped : ℕ) → Captures s bytes fresh known skipped t
    → (changes : RowChanges) → changes ≡ event_changes s (drop (length s.captured.events) t.captured.events) → AreChangesOf changes (effects.Captured fresh known skipped) s t
captures_lead s t bytes fresh known skipped c changes is =
    let old = s.captured.events in
    let judgements = judged old c.doc.events in
    let new = map (λ (g : Content × Standing). g.0) (filter is_fresh judgements) in
    let events : t.captured.events ≡ old ++ new = ap (λ (a : Addition). a.events) c.captured.kept in
    let rest : drop (length old) t.captured.events ≡ new = ap (drop (length old)) events ∙ drop-append_seam old new in
    let as_new : changes ≡ event_changes s new = is ∙ ap (event_changes s) rest in
    let after : with_events s (old ++ new) ≡ t = sym (c.rest ∙ ap (with_events s) events) in
    let count : length new ≡ fresh = length-map (filter is_fresh judgements) (λ (g : Content × Standing). g.0) ∙ length-filter is_fresh judgements ∙ sym (ap (λ (a : Addition). a.fresh) c.captured.kept) in
    let rows : length (event_changes s new).event ≡ fresh = length-map (enumerate_from (length old + 1) new) event_row ∙ length-enumerate_from (length old + 1) new ∙ count in
    let leads = subst (λ (u : Record). LeadsTo (event_changes s new) (rows_of s) (rows_of u)) after (events_lead s new) in (
      subst (λ (ch : RowChanges). LeadsTo ch (rows_of s) (rows_of t)) (sym as_new) leads,
      ap counts_of as_new ∙ ap (λ (n : ℕ). let told : Counts = record no_rows { event = n } in told) rows,
    )
