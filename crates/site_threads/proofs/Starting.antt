-- Sites at the start of a run: each is split off in its turn.
use Rattle.std.proofs.Common.{◌≡◌, ℕ, suc, ◌+◌, ◌<◌, ◌≤◌, true, false, cond, not, nat_lt, List, [], ◌∷◌, ◌++◌, All, Option, Some, IsSome, take, drop, take_all, length, get_or, refl, sym, ap, ◌∙◌, subst, arith, lt-ltb, le-ltb}
use Rattle.std.proofs.lemmas.List.Elements.{All-nil, All-cons}
use Rattle.std.proofs.lemmas.List.{drop_all, append-nil, nil_from_length}
use Rattle.std.proofs.lemmas.Option.{slice_get-get_or, get_or_from_slice_get}
use Rattle.std.specs.List.{AllZip}
use Rattle.site_core.specs.Records.{Record, fresh}
use Rattle.site_recovery.specs.Laws.{AreInPlace}
use Rattle.wire_core.specs.Changes.{below, from}
use Rattle.wire_core.specs.Rule.{opening_log, logs_from}

none_below : (i at : ℕ) (rs : List Record) → at ≤ i → (below at (logs_from i rs) ≡ []) × (from at (logs_from i rs) ≡ logs_from i rs)
none_below i at [] h = (refl, refl)
none_below i at (r ∷ rs) h =
    let high : nat_lt i at ≡ false = le-ltb i at h in
    let more = none_below (i + 1) at rs (omega arith) in (
      ap (λ t. cond t (opening_log i r ∷ below at (logs_from (i + 1) rs)) (below at (logs_from (i + 1) rs))) high ∙ more.0,
      ap (λ t. cond (not t) (opening_log i r ∷ from at (logs_from (i + 1) rs)) (from at (logs_from (i + 1) rs))) high ∙ ap (λ l. opening_log i r ∷ l) more.1,
    )

one_apart : (i : ℕ) (r : Record) (rs : List Record) → (below (i + 1) (logs_from i (r ∷ rs)) ≡ opening_log i r ∷ []) × (from (i + 1) (logs_from i (r ∷ rs)) ≡ logs_from (i + 1) rs)
one_apart i r rs =
    let low : nat_lt i (i + 1) ≡ true = lt-ltb i (i + 1) (omega arith) in
    let more = none_below (i + 1) (i + 1) rs (omega arith) in (
      ap (λ t. cond t (opening_log i r ∷ below (i + 1) (logs_from (i + 1) rs)) (below (i + 1) (logs_from (i + 1) rs))) low ∙ ap (λ l. opening_log i r ∷ l) more.0,
      ap (λ t. cond (not t) (opening_log i r ∷ from (i + 1) (logs_from (i + 1) rs)) (from (i + 1) (logs_from (i + 1) rs))) low ∙ more.1,
    )

-- nothing stands below the first one
pub none_apart : (rs : List Record) (at : ℕ) → at ≡ 0 → (below at (logs_from 0 rs) ≡ []) × (from at (logs_from 0 rs) ≡ logs_from 0 rs)
none_apart rs at is = none_below 0 at rs (omega arith)

-- the first site is split off at the next one, and the last one at itself
pub first_and_others : (me next : ℕ) (logs : List _) (r : Record) (rs : List Record) → next ≡ me + 1 → logs ≡ logs_from me (r ∷ rs) → (below next logs ≡ opening_log me r ∷ []) × (from next logs ≡ logs_from (me + 1) rs)
first_and_others me next logs r rs is at = ((λ i. below (is i) (at i)) ∙ (one_apart me r rs).0, (λ i. from (is i) (at i)) ∙ (one_apart me r rs).1)

pub last_alone : (me : ℕ) (logs : List _) (r : Record) (rs : List Record) → length rs ≡ 0 → logs ≡ logs_from me (r ∷ rs) → (from me logs ≡ opening_log me r ∷ []) × (below me logs ≡ logs_from (me + 1) rs)
last_alone me logs r rs none at =
    let no : rs ≡ [] = nil_from_length rs none in
    let whole = none_below me me (r ∷ rs) (omega arith) in
    (ap (from me) at ∙ whole.1 ∙ ap (λ l. opening_log me r ∷ logs_from (me + 1) l) no, ap (below me) at ∙ whole.0 ∙ sym (ap (logs_from (me + 1)) no))

-- the records name their sites, from this one on
pub NumberedFrom : ℕ → List Record → Type 0
NumberedFrom me [] = Unit {0}
NumberedFrom me (r ∷ rs) = (r.engagement.me ≡ me) × NumberedFrom (me + 1) rs

numbered_from : (me : ℕ) (rs : List Record) → ((s : ℕ) (d : Record) → s < length rs → (get_or rs s d).engagement.me ≡ me + s) → NumberedFrom me rs
unfolding NumberedFrom
numbered_from me [] f = tt
numbered_from me (r ∷ rs) f = (f 0 r (omega arith) ∙ (let z : me + 0 ≡ me = omega arith in z), numbered_from (me + 1) rs (λ s d h. f (suc s) d (omega arith) ∙ (let z : me + suc s ≡ me + 1 + s = omega arith in z)))

pub placed : (rs : List Record) → AreInPlace rs → NumberedFrom 0 rs
placed rs places = numbered_from 0 rs (λ s d h. ap (λ (x : Record). x.engagement.me) (get_or_from_slice_get rs s (get_or rs s (fresh [] s)) d (slice_get-get_or rs s (fresh [] s) h)) ∙ (places s h).engagement ∙ (let z : s ≡ 0 + s = omega arith in z))

-- the next site, and those after it
pub next_site : {K : Type 0} (shown : K → Option Record) (items after : List K) (k : K) (me : ℕ) (rs : List Record) → AllZip (λ x r. shown x ≡ Some r) items rs → NumberedFrom me rs → items ≡ k ∷ after
    → (r : Record) × (later : List Record) × (rs ≡ r ∷ later) × (shown k ≡ Some r) × AllZip (λ x q. shown x ≡ Some q) after later × (r.engagement.me ≡ me) × NumberedFrom (me + 1) later
unfolding NumberedFrom
next_site {K = K} shown items after k me rs z n is = by_rest rs (subst (λ l. AllZip (λ x r. shown x ≡ Some r) l rs) is z) n
  where
    by_rest : (qs : List Record) → AllZip (λ (x : K) r. shown x ≡ Some r) (k ∷ after) qs → NumberedFrom me qs
        → (r : Record) × (later : List Record) × (qs ≡ r ∷ later) × (shown k ≡ Some r) × AllZip (λ (x : K) q. shown x ≡ Some q) after later × (r.engagement.me ≡ me) × NumberedFrom (me + 1) later
    by_rest [] y m = absurd y
    by_rest (q ∷ qs) y m = (q, qs, refl, y.0, y.1, m.0, m.1)

-- what was written back is the whole list
pub written : {A : Type 0} (new old : List A) (len : ℕ) → length new ≡ length old → len ≡ length old → take len (new ++ drop (length new) old) ≡ new
written new old len n m = ap (λ l. take len (new ++ l)) (drop_all (length new) old (omega arith)) ∙ ap (take len) (append-nil new) ∙ take_all len new (omega arith)

-- keepers that show records are open
pub all_open : {K : Type 0} (shown : K → Option Record) (ks : List K) (rs : List Record) → AllZip (λ k r. shown k ≡ Some r) ks rs → All (λ k. IsSome (shown k)) ks
all_open {K = K} shown [] [] z = All-nil (λ (k : K). IsSome (shown k))
all_open shown [] (r ∷ rs) z = absurd z
all_open shown (k ∷ ks) [] z = absurd z
all_open {K = K} shown (k ∷ ks) (r ∷ rs) z = All-cons (λ (k : K). IsSome (shown k)) k ks (subst (λ o. IsSome o) (sym z.0) refl) (all_open shown ks rs z.1)
