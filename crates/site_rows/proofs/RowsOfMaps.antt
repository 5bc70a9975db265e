-- Rows that match the entries of a map, read in turn.
use Rattle.std.proofs.Common.{◌≡◌, ℕ, ◌+◌, ◌<◌, Bool, true, false, List, [], ◌∷◌, ◌++◌, length, take, Some, refl, sym, ap, subst, append_assoc, arith, inl, inr, map, Result, Ok, Err, IfOk, ◌∙◌}
use Rattle.std.specs.Prelude.{T}
use Rattle.std.specs.BTreeMap.{BTreeMap}
use Rattle.std.specs.Cmp.{IsTotalOrder}
use Rattle.std.specs.declared.cmp.Ordering.{Ordering}
use Rattle.std.specs.FinMap.{IsAntisymmetric, entries, entries_sorted, from_sorted, entries-from_sorted, get, is_sorted}
use Rattle.std.specs.List.{Contains, slice_get}
use Rattle.std.proofs.lemmas.List.{append-nil}
use Rattle.frame_core.specs.Tables.{as_map}
use Rattle.trace_core.proofs.Members.{contains_cases, contains_none}
use Rattle.site_core.proofs.Entries.{entry_there}
use Rattle.site_core.proofs.Places.{taken_more}
use Rattle.site_rows.specs.Appending.{IsAppended, IsAdded}
use Rattle.site_rows.specs.BadRows.{Begins, IsFirstBad, Match, AreOfMap, StandForOne}
use Rattle.site_rows.proofs.AtTheEnd.{first_ascend}

module _ {R K V : Type 0} (Is : R → K → V → Type 0) where
  pub one_match_more : (rs : List R) (es : List (K × V)) (r : R) (k : K) (v : V) → Match Is rs es → Is r k v → Match Is (rs ++ r ∷ []) (es ++ (k, v) ∷ [])
  one_match_more [] [] r k v m is = (is, tt)
  one_match_more [] (e ∷ es) r k v m is = absurd m
  one_match_more (q ∷ rs) [] r k v m is = absurd m
  one_match_more (q ∷ rs) (e ∷ es) r k v m is = (m.0, one_match_more rs es r k v m.1 is)

  -- the entries of rows with one more: those of the rows, that one's, and the others
  record Parted (rs : List R) (r : R) (fs : List (K × V)) : Type 0 where
    front : List (K × V)
    key : K
    value : V
    back : List (K × V)
    parts : fs ≡ front ++ (key, value) ∷ back
    before : Match Is rs front
    there : Is r key value

  parted : (rs : List R) (r : R) (more : List R) (fs : List (K × V)) → Match Is (rs ++ r ∷ more) fs → Parted rs r fs
  parted [] r more [] m = absurd m
  parted [] r more (f ∷ fs) m = record { front = []; key = f.0; value = f.1; back = fs; parts = refl; before = tt; there = m.0 }
  parted (q ∷ rs) r more [] m = absurd m
  parted (q ∷ rs) r more (f ∷ fs) m =
      let rest = parted rs r more fs m.1 in
      record { front = f ∷ rest.front; key = rest.key; value = rest.value; back = rest.back; parts = ap (λ es. f ∷ es) rest.parts; before = (m.0, rest.before); there = rest.there }

  module _ (one : StandForOne Is) where
    same_entries : (rs : List R) (es fs : List (K × V)) → Match Is rs es → Match Is rs fs → es ≡ fs
    same_entries [] [] [] m n = refl
    same_entries [] [] (f ∷ fs) m n = absurd n
    same_entries [] (e ∷ es) fs m n = absurd m
    same_entries (r ∷ rs) [] fs m n = absurd m
    same_entries (r ∷ rs) (e ∷ es) [] m n = absurd n
    same_entries (r ∷ rs) (e ∷ es) (f ∷ fs) m n =
        let head : e ≡ f = one r e.0 f.0 e.1 f.1 m.0 n.0 in
        let tail = same_entries rs es fs m.1 n.1 in
        λ i. head i ∷ tail i

    module _ (cmp : K → K → Ordering) where
      -- rows that match ascending entries are those of a map
      pub of_map : (rs : List R) (es : List (K × V)) → Match Is rs es → T (is_sorted cmp es) → AreOfMap cmp Is rs
      of_map rs es m up = record { kept = from_sorted es; match = subst (Match Is rs) (sym (entries-from_sorted cmp es up)) m }

      begins : (rs : List R) → AreOfMap cmp Is rs → Begins (AreOfMap cmp Is) rs
      begins rs are = record { more = []; stand = subst (AreOfMap cmp Is) (sym (append-nil rs)) are }

      no_further : (rs : List R) (es : List (K × V)) (r : R) → Match Is rs es → ((k : K) (v : V) → Is r k v → T (is_sorted cmp (es ++ (k, v) ∷ [])) → ⊥) → Begins (AreOfMap cmp Is) (rs ++ r ∷ []) → ⊥
      no_further rs es r m none b =
          let stand : Match Is ((rs ++ r ∷ []) ++ b.more) (entries b.stand.kept) = b.stand.match in
          let p = parted rs r b.more (entries b.stand.kept) (subst (λ xs. Match Is xs (entries b.stand.kept)) (append_assoc rs (r ∷ []) b.more) stand) in
          let same = same_entries rs es p.front m p.before in
          let up : T (is_sorted cmp (p.front ++ (p.key, p.value) ∷ p.back)) = subst (λ xs. T (is_sorted cmp xs)) p.parts (entries_sorted b.stand.kept) in
          let up2 : T (is_sorted cmp ((p.front ++ (p.key, p.value) ∷ []) ++ p.back)) = subst (λ xs. T (is_sorted cmp xs)) (sym (append_assoc p.front ((p.key, p.value) ∷ []) p.back)) up in
          let short = first_ascend cmp (p.front ++ (p.key, p.value) ∷ []) p.back up2 in
          none p.key p.value p.there (subst (λ xs. T (is_sorted cmp (xs ++ (p.key, p.value) ∷ []))) (sym same) short)

      -- the first row that doesn't come next is the first bad one
      pub first_bad : (rows : List R) (n : ℕ) (r : R) (es : List (K × V)) → slice_get rows n ≡ Some r → n < length rows → Match Is (take n rows) es → T (is_sorted cmp es)
          → ((k : K) (v : V) → Is r k v → T (is_sorted cmp (es ++ (k, v) ∷ [])) → ⊥) → IsFirstBad (AreOfMap cmp Is) rows (n + 1)
      first_bad rows n r es at low m up none = record {
        before = n;
        next = refl;
        good = λ _. begins (take n rows) (of_map (take n rows) es m up);
        bad = λ _ b. no_further (take n rows) es r m none (subst (Begins (AreOfMap cmp Is)) (taken_more rows n r at) b);
        wanting = λ past. absurd (omega (arith, past, low));
      }

-- the entry of a row was added, or can't be
pub is_added : {K V : Type 0} (cmp : K → K → Ordering) (Is : K → V → Type 0) → ((k l : K) (v w : V) → Is k v → Is l w → ◌≡◌ {A = K × V} (k, v) (l, w))
    → (before after : List (K × V)) (k : K) (v : V) → Is k v → (b : Bool) → IsAppended cmp before (k, v) after b → IsAdded cmp Is before after b
is_added cmp Is one before after k v is true h = record { key = k; value = v; is = is; last = h.0; ascending = h.1 }
is_added cmp Is one before after k v is false h = λ l w other up. h (subst (λ e. T (is_sorted cmp (before ++ e ∷ []))) (one l k w v other is) up)

-- ---- what a table's map says
module _ {R K V : Type 0} (Is : R → K → V → Type 0) where
  pub rows_matched : (row : K × V → R) → ((r : R) (k : K) (v : V) → Is r k v → r ≡ row (k, v)) → (rs : List R) (es : List (K × V)) → Match Is rs es → rs ≡ map row es
  rows_matched row same [] [] m = refl
  rows_matched row same [] (e ∷ es) m = absurd m
  rows_matched row same (r ∷ rs) [] m = absurd m
  rows_matched row same (r ∷ rs) (e ∷ es) m =
      let head : r ≡ row e = same r e.0 e.1 m.0 in
      let tail = rows_matched row same rs es m.1 in
      λ i. head i ∷ tail i

  pub matched_each : (P : K → V → Type 0) → ((r : R) (k : K) (v : V) → Is r k v → P k v) → (rs : List R) (es : List (K × V)) → Match Is rs es → (e : K × V) → Contains es e → P e.0 e.1
  matched_each P sound [] [] m e there = absurd (contains_none e there)
  matched_each P sound [] (d ∷ es) m e there = absurd m
  matched_each P sound (r ∷ rs) [] m e there = absurd m
  matched_each P sound (r ∷ rs) (d ∷ es) m e there = elim (contains_cases d e es there) [
    | inl same ↦ subst (λ (z : K × V). P z.0 z.1) same (sound r d.0 d.1 m.0)
    | inr later ↦ matched_each P sound rs es m.1 e later
  ]

  module _ {E : Type 0} (cmp : K → K → Ordering) (rs : List R) where
    -- the rows are those of its entries
    pub rows_told : (row : K × V → R) → ((r : R) (k : K) (v : V) → Is r k v → r ≡ row (k, v)) → (result : Result (BTreeMap K V) E)
        → IfOk result (λ m. Match Is rs m.entries) → IfOk result (λ m. T (is_sorted cmp m.entries)) → IfOk result (λ m. rs ≡ map row (entries (as_map cmp m)))
    rows_told row same (Ok m) match up = rows_matched row same rs m.entries match ∙ ap (map row) (sym (entries-from_sorted cmp m.entries up))
    rows_told row same (Err e) match up = tt

    -- and each entry is as its row says
    pub each_told : IsTotalOrder cmp → IsAntisymmetric cmp → (P : K → V → Type 0) → ((r : R) (k : K) (v : V) → Is r k v → P k v) → (result : Result (BTreeMap K V) E)
        → IfOk result (λ m. Match Is rs m.entries) → IfOk result (λ m. T (is_sorted cmp m.entries)) → IfOk result (λ m. (k : K) (v : V) → get (as_map cmp m) k ≡ Some v → P k v)
    each_told o exact P sound (Ok m) match up = λ k v is.
        matched_each P sound rs m.entries match (k, v) (subst (λ es. Contains es (k, v)) (entries-from_sorted cmp m.entries up) (entry_there o exact (as_map cmp m) k v is))
    each_told o exact P sound (Err e) match up = tt
