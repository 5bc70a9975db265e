-- Plans, one input after another, and site by site.
use Rattle.std.proofs.Common.{◌≡◌, ◌≢◌, ◌<◌, ◌≤◌, ◌+◌, ◌∙◌, ℕ, zero, suc, Bor, List, [], ◌∷◌, ◌++◌, Some, length, take, get_or, slice_get, refl, sym, ap, subst, append-nil, ⊎_elim, arith}
use Rattle.std.specs.List.{AllByRecursion, Contains, flat_map}
use Rattle.std.specs.List.Sorted.{IsStrictlySortedBy}
use Rattle.std.specs.Ordering.{nat_cmp}
use Rattle.std.specs.declared.cmp.Ordering.TheVariants.{Less}
use Rattle.std.proofs.lemmas.Grind.{flat_map-append}
use Rattle.std.proofs.lemmas.List.{take_more}
use Rattle.std.proofs.lemmas.Option.{get_or_from_slice_get, slice_get-get_or, slice_get_within}
use Rattle.query_core.specs.Lists.{AreAllBy}
use Rattle.recall_outcomes.specs.declared.batches.Task.{Task}
use Rattle.site_core.specs.Records.{Record, fresh}
use Rattle.site_recovery.specs.Checking.{records_at}
use Rattle.site_recovery.specs.FittingAt.{AreAllSites}
use Rattle.site_recovery.specs.Looks.{world_of}
use Rattle.trace_core.proofs.Members.{contains-flat_map, contains_cases, contains_here, contains_none, contains_there}
use Rattle.trace_core.proofs.SetMembers.{contains-from_flat_map}
use Rattle.folder_questions.specs.Plans.{Outline, outline_cmp, outlined}

-- what the elements of a list give, up to one more
pub flat_more : {A B : Type 0} (f : A → List B) (xs : List A) (i : ℕ) (x : A) → i < length xs → x ≡ get_or xs i x → (old new : List B) → old ≡ flat_map f (take i xs) → new ≡ old ++ f x → new ≡ flat_map f (take (i + 1) xs)
flat_more f xs i x below at old new so_far more =
    more ∙ ap (λ t. t ++ f x) so_far
    ∙ sym (ap (flat_map f) (take_more xs i x below ∙ ap (λ y. take i xs ++ y ∷ []) (sym at)) ∙ flat_map-append f (take i xs) (x ∷ []) ∙ ap (λ t. flat_map f (take i xs) ++ t) (append-nil (f x)))

-- of the records that references point to
pub flat_records : {B : Type 0} (f : Record → List B) (refs : List (Bor Record)) → flat_map (λ (r : Bor Record). f r.now) refs ≡ flat_map f (records_at refs)
flat_records f [] = refl
flat_records f (r ∷ rs) = ap (λ t. f r.now ++ t) (flat_records f rs)

-- ---- the records of all sites

record_here : (records : List Record) (k : ℕ) (r : Record) → k < length records → get_or records k r ≡ r → world_of records k ≡ r
record_here records k r below is = get_or_from_slice_get records k r (fresh [] k) (slice_get-get_or records k r below ∙ ap Some is)

-- one of them stands at its number
pub record_placed : (records : List Record) → AreAllSites records → (r : Record) → Contains records r → (world_of records r.engagement.me ≡ r) × (r.captured.me ≡ r.engagement.me)
record_placed records all r (k, below, is) =
    let here = record_here records k r below is in
    let number : r.engagement.me ≡ k = ap (λ (z : Record). z.engagement.me) (sym here) ∙ (all k below).place.engagement in
    (subst (λ n. world_of records n ≡ r) (sym number) here, ap (λ (z : Record). z.captured.me) (sym here) ∙ (all k below).place.captured ∙ sym number)

-- what stands at a number is one of them
pub record_listed : (records : List Record) → AreAllSites records → (s : ℕ) → s < length records → Contains records (world_of records s) × ((world_of records s).engagement.me ≡ s)
record_listed records all s below =
    ((s, below, get_or_from_slice_get records s (world_of records s) (world_of records s) (slice_get-get_or records s (fresh [] s) below)), (all s below).place.engagement)

-- ---- what one site does

outlined_is : (site : ℕ) (task : Task) (texts : List (List ℕ)) (o : Outline) → Contains (outlined site task texts) o → ((site, task, texts) ≡ o) × (texts ≢ [])
outlined_is site task [] o at = absurd (contains_none o at)
outlined_is site task (t ∷ ts) o at = ⊎_elim (λ same. (same, λ none. cc)) (λ no. absurd (contains_none o no)) (contains_cases (site, task, t ∷ ts) o [] at)

outlined_there : (site : ℕ) (task : Task) (texts : List (List ℕ)) → texts ≢ [] → Contains (outlined site task texts) (site, task, texts)
outlined_there site task [] some = absurd (some refl)
outlined_there site task (t ∷ ts) some = contains_here (site, task, t ∷ ts) []

all_members : {X : Type 0} (P : X → Type 0) (xs : List X) → ((x : X) → Contains xs x → P x) → AllByRecursion P xs
all_members P [] h = tt
all_members P (x ∷ xs) h = (h x (contains_here x xs), all_members P xs (λ y at. h y (contains_there x y xs at)))

-- before what comes at later sites
before : (site : ℕ) (task : Task) (texts : List (List ℕ)) (later : List Outline) → IsStrictlySortedBy outline_cmp later → ((o : Outline) → Contains later o → site < o.0)
    → IsStrictlySortedBy outline_cmp (outlined site task texts ++ later)
unfolding IsStrictlySortedBy
before site task [] later up above = up
before site task (t ∷ ts) later up above = (all_members (λ o. outline_cmp (site, task, t ∷ ts) o ≡ Less) later (λ o at. nat_less site o.0 (above o at)), up)
  where
    nat_less : (a b : ℕ) → a < b → nat_cmp a b ≡ Less
    nat_less a b below = grind (below, arith)

-- ---- what each site does

module _ (task : Task) (texts : Record → List (List ℕ)) where
  abbrev does : Record → List Outline
  does r = outlined r.engagement.me task (texts r)

  -- the numbers of the sites count on
  abbrev Follow : ℕ → List Record → Type 0
  Follow n rs = (j : ℕ) (r : Record) → slice_get rs j ≡ Some r → r.engagement.me ≡ n + j

  above : (n : ℕ) (rs : List Record) → Follow n rs → (o : Outline) → Contains (flat_map does rs) o → n ≤ o.0
  above n rs follow o among =
      let (r, (k, below, is), at) = contains-from_flat_map does rs o among in
      let me = follow k r (slice_get-get_or rs k r below ∙ ap Some is) in
      let here : r.engagement.me ≡ o.0 = ap (λ (x : Outline). x.0) (outlined_is r.engagement.me task (texts r) o at).0 in
      omega (arith, me, here)

  in_turn : (n : ℕ) (rs : List Record) → Follow n rs → IsStrictlySortedBy outline_cmp (flat_map does rs)
  unfolding IsStrictlySortedBy
  in_turn n [] follow = tt
  in_turn n (r ∷ rs) follow =
      let rest : Follow (suc n) rs = λ j x is. let me = follow (suc j) x is in omega (arith, me) in
      let here = follow zero r refl in
      before r.engagement.me task (texts r) (flat_map does rs) (in_turn (suc n) rs rest) (λ o at. let low = above (suc n) rs rest o at in omega (arith, here, low))

  -- just those that some site does, in the order of the sites' numbers
  pub by_site : (records : List Record) → AreAllSites records → (Is : Outline → Type 0)
      → ((r : Record) → Contains records r → texts r ≢ [] → Is (r.engagement.me, task, texts r))
      → ((o : Outline) → Is o → (r : Record) × Contains records r × (texts r ≢ []) × ((r.engagement.me, task, texts r) ≡ o)) → AreAllBy outline_cmp Is (flat_map does records)
  by_site records all Is each some = record {
    ascending = in_turn zero records (λ j r is.
        let me : r.engagement.me ≡ j = ap (λ (z : Record). z.engagement.me) (sym (get_or_from_slice_get records j r (fresh [] j) is)) ∙ (all j (slice_get_within records j r is)).place.engagement in
        omega (arith, me));
    exact = λ o. (
      λ among.
          let (r, there, at) = contains-from_flat_map does records o among in
          let (same, full) = outlined_is r.engagement.me task (texts r) o at in
          subst Is same (each r there full),
      λ is.
          let (r, there, full, same) = some o is in
          subst (Contains (flat_map does records)) same (contains-flat_map does records r (r.engagement.me, task, texts r) there (outlined_there r.engagement.me task (texts r) full)),
    );
  }
