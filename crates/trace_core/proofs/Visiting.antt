-- A pair is visited: what it is related to is gathered and noted, each transformation once.
use Rattle.std.proofs.Common.{◌≡◌, ℕ, ◌<◌, ◌≤◌, ◌+◌, true, List, [], Option, Some, None, length, get_or, slice_get, sym, ap, subst, ◌∙◌, inl, inr, ⊎_elim, arith}
use mathlib.Core.Bool.{false≢true}
use mathlib.Core.Logic.{◌⊎◌}
use Rattle.std.specs.BTreeMap.{is_at}
use Rattle.std.specs.BTreeSet.{BTreeSet}
use Rattle.std.specs.List.{list_any}
use Rattle.std.proofs.lemmas.Bool.{cases_eq, cases_lt}
use Rattle.std.proofs.lemmas.Option.{slice_get-get_or, slice_get_cases, get_or_from_slice_get}
use Rattle.trace_core.specs.declared.groups.Group.{Group}
use Rattle.trace_core.specs.declared.pairs.Pair.{Pair}
use Rattle.std.specs.Borrow.{Bor}
use Rattle.std.proofs.lemmas.List.{length-map, get_or-map}
use Rattle.trace_core.specs.Chains.{Related, RelatesFrom, sites_at}
use Rattle.trace_core.specs.Groups.{group_cmp, Gives, IsGiven, IsGivenBy, AddsUnseen, SeesOnly}
use Rattle.trace_core.specs.Searches.{IsFound}
use Rattle.trace_core.specs.Sites.{SiteEvents}
use Rattle.trace_core.proofs.GroupSteps.{adds_both, adds_same}

-- no transformation gives anything
pub none_given : (s : SiteEvents) (site : ℕ) (none : BTreeSet Group) → none.keys ≡ [] → (q : Pair) → IsGiven s site none q → ⊥
none_given s site none empty q (first, there, gives) = false≢true (subst (λ ks. list_any (is_at (group_cmp (record { site = site; first = first }))) ks ≡ true) empty there)

pub none_given_by : (sites : List SiteEvents) (none : BTreeSet Group) → none.keys ≡ [] → (q : Pair) → IsGivenBy sites none q → ⊥
none_given_by sites none empty q (k, s, at, given) = none_given s k none empty q given

absent : (o : Option SiteEvents) (t : SiteEvents) → o ≡ None → o ≡ Some t → ⊥
absent o t none some = cc

there_at : (xs : List SiteEvents) (i : ℕ) (t : SiteEvents) → slice_get xs i ≡ Some t → (i < length xs) × (get_or xs i t ≡ t)
there_at xs i t h = ⊎_elim
    (λ (y, below, is, at). (below, get_or_from_slice_get xs i t t h))
    (λ (past, none). absurd (absent (slice_get xs i) t none h))
    (slice_get_cases xs i).1

only_one : (t u : SiteEvents) → Some t ≡ Some u → t ≡ u
only_one t u h = cc

module _ (sites : List SiteEvents) (node : Pair) where
  -- what the first so many sites relate the pair to
  abbrev pub BySites : ℕ → Pair → Type 0
  BySites n q = (k : ℕ) × (s : SiteEvents) × (k < n) × (slice_get sites k ≡ Some s) × RelatesFrom s node q

  -- what one site adds, among all
  lifted : (n : ℕ) (s : SiteEvents) (a b : BTreeSet Group) (x y : Pair → Type 0) → slice_get sites n ≡ Some s → AddsUnseen (IsGiven s n) (RelatesFrom s node) a b x y → SeesOnly n a b → AddsUnseen (IsGivenBy sites) (RelatesFrom s node) a b x y
  lifted n s a b x y at added only = record {
    stay = added.stay;
    sound = added.sound;
    complete = λ q h. ⊎_elim (λ there. inl there) (λ before. inr (n, s, at, before)) (added.complete q h);
    given = λ q (k, t, at', (first, there, gives)). ⊎_elim
        (λ before. inl (k, t, at', (first, before, gives)))
        (λ same.
        let one : t ≡ s = only_one t s (sym at' ∙ ap (slice_get sites) same ∙ at) in
        ⊎_elim
        (λ before. inl (n, s, at, before))
        (λ there. inr there)
        (added.given q (first, subst (λ m. IsFound group_cmp b (record { site = m; first = first })) same there, subst (λ (u : SiteEvents). Gives u first q) one gives)))
        (only (record { site = k; first = first }) there);
  }

  -- one site more
  pub one_site : (n : ℕ) (s : SiteEvents) (a b c : BTreeSet Group) (x y z : Pair → Type 0) → slice_get sites n ≡ Some s → AddsUnseen (IsGivenBy sites) (BySites n) a b x y
      → AddsUnseen (IsGiven s n) (RelatesFrom s node) b c y z → SeesOnly n b c → AddsUnseen (IsGivenBy sites) (BySites (n + 1)) a c x z
  one_site n s a b c x y z at so_far added only = adds_same (IsGivenBy sites) (λ q. BySites n q ⊎ RelatesFrom s node q) (BySites (n + 1)) a c x z
      (λ q. (
        λ h. ⊎_elim
            (λ (k, t, below, at', related). (k, t, omega (arith, below), at', related))
            (λ related. (n, s, omega arith, at, related))
            h,
        λ (k, t, below, at', related). ⊎_elim
            (λ same. inr (subst (λ (u : SiteEvents). RelatesFrom u node q) (only_one t s (sym at' ∙ ap (slice_get sites) same ∙ at)) related))
            (λ other. inl (k, t, earlier k below other, at', related))
            (cases_eq k n),
      ))
      (adds_both (IsGivenBy sites) (BySites n) (RelatesFrom s node) a b c x y z so_far (lifted n s b c y z at added only))
    where
      earlier : (k : ℕ) → k < n + 1 → (k ≡ n → ⊥) → k < n
      earlier k below other = ⊎_elim (λ lt. lt) (λ past. absurd (other (omega (arith, below, past)))) (cases_lt k n)

  -- all sites
  pub all_sites_added : (n : ℕ) (a b : BTreeSet Group) (x y : Pair → Type 0) → length sites ≤ n → AddsUnseen (IsGivenBy sites) (BySites n) a b x y → AddsUnseen (IsGivenBy sites) (Related sites node) a b x y
  all_sites_added n a b x y past = adds_same (IsGivenBy sites) (BySites n) (Related sites node) a b x y
      (λ q. (
        λ (k, s, below, at, related). let (lt, is) = there_at sites k s at in (k, s, lt, is, related),
        λ (k, s, lt, at, related). (k, s, omega (arith, lt, past), slice_get-get_or sites k s lt ∙ ap Some at, related),
      ))

-- a site of those that references point to
pub site_stands : (refs : List (Bor SiteEvents)) (n : ℕ) (r : Bor SiteEvents) → n < length refs → slice_get (sites_at refs) n ≡ Some (get_or refs n r).now
site_stands refs n r below =
    slice_get-get_or (sites_at refs) n r.now (omega (arith, below, length-map refs (λ (x : Bor SiteEvents). x.now)))
    ∙ ap Some (get_or-map (λ (x : Bor SiteEvents). x.now) refs n r r.now below)

pub as_many_sites : (refs : List (Bor SiteEvents)) (n : ℕ) → length refs ≤ n → length (sites_at refs) ≤ n
as_many_sites refs n past = omega (arith, past, length-map refs (λ (x : Bor SiteEvents). x.now))

pub as_few_sites : (refs : List (Bor SiteEvents)) (n : ℕ) → n < length refs → n < length (sites_at refs)
as_few_sites refs n below = omega (arith, below, length-map refs (λ (x : Bor SiteEvents). x.now))
