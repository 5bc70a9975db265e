-- The search for known packings, turn by turn.
use Rattle.std.proofs.Common.{◌≡◌, ◌↔◌, inl, inr, ℕ, ◌+◌, ◌<◌, ◌≤◌, ◌∙◌, List, [], ◌∷◌, ◌++◌, Some, length, drop, get_or, slice_get, refl, sym, ap, subst, ⊎_elim, arith, length-append}
use mathlib.Core.Logic.{◌⊎◌}
use Rattle.std.specs.List.{Contains}
use Rattle.std.proofs.lemmas.Bool.{cases_eq, cases_lt}
use Rattle.std.proofs.lemmas.List.{drop-append-le, drop_more, length-drop}
use Rattle.std.proofs.lemmas.List.Elements.{Contains-append_cases, Contains-append_left, Contains-push}
use Rattle.std.proofs.lemmas.Option.{slice_get_within}
use Rattle.trace_core.specs.Gaps.{SendsOn}
use Rattle.trace_core.specs.Sites.{SiteEvents}
use Rattle.trace_core.proofs.ChainLaws.{reach_widens, reaches_itself}
use Rattle.trace_core.proofs.Members.{contains_cases, contains_none}
use Rattle.trace_core.proofs.SetMembers.{contains_pushed}
use Rattle.gap_core.specs.Adding.{AddsTo}
use Rattle.gap_core.specs.Searches.{IsPassedAt, IsSameAt, LetsWait, TellsAll, TellsOne, TellsSome}
use Rattle.gap_core.specs.Sources.{AreKnown, AreOwn, CameFrom, Index, IsOwn, IsTold, IsToldTo, Keeps, LiesIn}
use Rattle.gap_core.specs.declared.sources.Source.{Source}
use Rattle.gap_core.proofs.Additions.{Before, adds_alike, more_before}
use Rattle.gap_core.proofs.KnownSteps.{HasOwn, IsAllTold, IsSound, all_known, told_came}
use Rattle.gap_core.proofs.Notings.{placed, stands_in}

-- ---- waiting

lets_same : (place turn : ℕ) (xs : List ℕ) → LetsWait place turn xs xs
lets_same place turn xs = record { kept = λ k h. h; only = λ k h. inl h; longer = omega arith }

pub waits_already : (place turn : ℕ) (xs : List ℕ) → LetsWait place turn xs xs
waits_already = lets_same

pub waits_now : (place turn : ℕ) (xs ys : List ℕ) → turn ≤ length xs → ys ≡ xs ++ place ∷ [] → LetsWait place turn xs ys
waits_now place turn xs ys within is =
    let front : drop turn ys ≡ drop turn xs ++ place ∷ [] = ap (drop turn) is ∙ drop-append-le turn xs (place ∷ []) within in
    record {
      kept = λ k h. subst (λ zs. Contains zs k) (sym front) (Contains-append_left (drop turn xs) (place ∷ []) k h);
      only = λ k h. ⊎_elim (λ was. inl was) (λ last. inr (only k last)) (Contains-append_cases xs (place ∷ []) k (subst (λ zs. Contains zs k) is h));
      longer = omega (arith, ap length is, length-append xs (place ∷ []));
    }
  where
    only : (k : ℕ) → Contains (place ∷ []) k → place ≡ k
    only k h = ⊎_elim (λ same. same) (λ none. absurd (contains_none k none)) (contains_cases place k [] h)

pub pushed_waits : (place turn : ℕ) (xs ys : List ℕ) → turn ≤ length xs → ys ≡ xs ++ place ∷ [] → Contains (drop turn ys) place
pushed_waits place turn xs ys within is =
    subst (λ zs. Contains zs place) (sym (ap (drop turn) is ∙ drop-append-le turn xs (place ∷ []) within)) (Contains-push (drop turn xs) place)

-- ---- the items of a list, one after another

module _ (sent : List (List ℕ)) (start : Index) (at to : ℕ) (other : at ≡ to → ⊥) where
  -- what is passed on later is what would have been passed on first
  pub passed_later : (n : ℕ) (now new : Index) → AddsTo (Keeps start) (Keeps now) (Before n (IsPassedAt sent start at to))
      → AddsTo (Keeps now) (Keeps new) (IsPassedAt sent now at to n)
      → AddsTo (Keeps start) (Keeps new) (Before (n + 1) (IsPassedAt sent start at to))
  passed_later n now new before adds =
      more_before (IsPassedAt sent start at to) n (Keeps start) (Keeps now) (Keeps new) before
      (adds_alike (Keeps now) (Keeps new) (IsPassedAt sent now at to n) (IsPassedAt sent start at to n)
      (λ m. (
        λ (i, so, (same, here, keeps)). (i, so, (same, here, first i m.1.from keeps)),
        λ (i, so, (same, here, keeps)). (i, so, (same, here, (before (i, record { at = at; from = m.1.from })).1 (inl keeps))),
      )) adds)
    where
      first : (i : List ℕ) (from : ℕ) → Keeps now (i, record { at = at; from = from }) → Keeps start (i, record { at = at; from = from })
      first i from keeps = ⊎_elim
          (λ was. was)
          (λ (k, below, (j, so, (same, here, there))). absurd (other (sym here)))
          ((before (i, record { at = at; from = from })).0 keeps)

-- each item that was sent stands in the list
pub all_passed : (sites : List SiteEvents) (start new : Index) (at to : ℕ) (sent : List (List ℕ))
    → ((i : List ℕ) → Contains sent i ↔ IsToldTo sites start at to i)
    → AddsTo (Keeps start) (Keeps new) (Before (length sent) (IsPassedAt sent start at to)) → AddsTo (Keeps start) (Keeps new) (IsTold sites start at to)
all_passed sites start new at to sent are = adds_alike (Keeps start) (Keeps new) (Before (length sent) (IsPassedAt sent start at to)) (IsTold sites start at to)
    (λ m. (
      λ (k, below, (i, so, (same, here, keeps))).
          (here, subst (IsToldTo sites start at to) same ((are i).0 (stands_in sent k i so)), subst (λ j. Keeps start (j, record { at = at; from = m.1.from })) same keeps),
      λ (here, told, keeps).
          let (k, so) = placed sent m.0 ((are m.0).1 told) in
          (k, slice_get_within sent k m.0 so, (m.0, so, (refl, here, keeps))),
    ))

-- what is told of the own place is known there
pub told_itself : (sites : List SiteEvents) (index : Index) (at to : ℕ) → to ≡ at → AddsTo (Keeps index) (Keeps index) (IsTold sites index at to)
told_itself sites index at to same m = (
  λ h. inl h,
  λ h. ⊎_elim (λ was. was) (λ (here, told, keeps). subst (λ x. Keeps index (m.0, x)) (itself m.1 (sym same ∙ here)) keeps) h,
)
  where
    itself : (x : Source) → at ≡ x.at → record { at = at; from = x.from } ≡ x
    itself x is = λ k. record { at = is k; from = x.from }

-- ---- one place after another

module _ (sites : List SiteEvents) (at turn : ℕ) (start : Index) (waiting : List ℕ) where
  pub none_told : TellsSome sites at turn start start waiting waiting 0
  none_told = record {
    more = λ m h. h;
    only = λ m h. inl h;
    told = λ to below m h. absurd (none to below);
    same = λ p from h. h;
    waits = λ k. inl (λ p from h. h);
    kept = λ k h. h;
    within = λ k h. inl h;
    longer = omega arith;
  }
    where
      none : (to : ℕ) → to < 0 → ⊥
      none to below = omega (arith, below)

  -- what lies in what at the place stays the same
  same_told : (now : Index) → ((m : List ℕ × Source) → Keeps start m → Keeps now m) → IsSameAt start now at → (to : ℕ) (m : List ℕ × Source)
      → IsTold sites now at to m → IsTold sites start at to m
  same_told now more same to m (here, (s, t, so, also, carrier, ships, chain), keeps) = (
    here,
    (s, t, so, also, carrier, ships, reach_widens (LiesIn sites now at) (LiesIn sites start at) (λ x y (from, kept, packed). (from, same x from kept, packed)) carrier m.0 chain),
    same m.0 m.1.from keeps,
  )

  later_told : (now : Index) → ((m : List ℕ × Source) → Keeps start m → Keeps now m) → (to : ℕ) (m : List ℕ × Source)
      → IsTold sites start at to m → IsTold sites now at to m
  later_told now more to m (here, (s, t, so, also, carrier, ships, chain), keeps) = (
    here,
    (s, t, so, also, carrier, ships, reach_widens (LiesIn sites start at) (LiesIn sites now at) (λ x y (from, kept, packed). (from, more (x, record { at = at; from = from }) kept, packed)) carrier m.0 chain),
    more (m.0, record { at = at; from = m.1.from }) keeps,
  )

  pub one_more_told : (now new : Index) (waiting' waiting'' : List ℕ) (to : ℕ) → to < length sites → TellsSome sites at turn start now waiting waiting' to
      → TellsOne sites at to turn now new waiting' waiting'' → TellsSome sites at turn start new waiting waiting'' (to + 1)
  one_more_told now new waiting' waiting'' to below before one = record {
    more = λ m h. grown m (before.more m h);
    only = λ m h. ⊎_elim
        (λ was. before.only m was)
        (λ told. inr (to, same_told now before.more before.same to m told))
        ((one.told m).0 h);
    told = λ t lt m told. ⊎_elim
        (λ sooner. grown m (before.told t sooner m told))
        (λ past. (one.told m).1 (inr (later_told now before.more to m (subst (λ k. IsTold sites start at k m) (last t lt past) told))))
        (cases_lt t to);
    same = λ p from h. before.same p from (stays p from h);
    waits = λ k. ⊎_elim
        (λ same. ⊎_elim
        (λ nothing. inl (λ p from h. same p from (nothing (p, record { at = k; from = from }) h)))
        (λ waits. ⊎_elim
        (λ here. inr (subst (Contains (drop turn waiting'')) here waits))
        (λ elsewhere. inl (λ p from h. same p from (other k elsewhere p from h)))
        (cases_eq to k))
        one.waits)
        (λ waits. inr (one.lets.kept k waits))
        (before.waits k);
    kept = λ k h. one.lets.kept k (before.kept k h);
    within = λ k h. ⊎_elim
        (λ was. before.within k was)
        (λ here. inr (subst (λ j. j < length sites) here below))
        (one.lets.only k h);
    longer = omega (arith, before.longer, one.lets.longer);
  }
    where
      grown : (m : List ℕ × Source) → Keeps now m → Keeps new m
      grown m h = (one.told m).1 (inl h)

      last : (t : ℕ) → t < to + 1 → to ≤ t → t ≡ to
      last t lt past = omega (arith, lt, past)

      -- nothing is told of a place but this
      other : (k : ℕ) → (to ≡ k → ⊥) → (p : List ℕ) (from : ℕ) → Keeps new (p, record { at = k; from = from }) → Keeps now (p, record { at = k; from = from })
      other k elsewhere p from h = ⊎_elim (λ was. was) (λ (here, told, keeps). absurd (elsewhere here)) ((one.told (p, record { at = k; from = from })).0 h)

      -- nor is anything new at the place that tells
      stays : (p : List ℕ) (from : ℕ) → Keeps new (p, record { at = at; from = from }) → Keeps now (p, record { at = at; from = from })
      stays p from h = ⊎_elim (λ was. was) (λ (here, told, keeps). keeps) ((one.told (p, record { at = at; from = from })).0 h)

-- ---- the turns

-- what a search has that has come to a turn
pub record Searching (sites : List SiteEvents) (index : Index) (waiting : List ℕ) (turn : ℕ) : Type 0 where
  pub sound : IsSound sites index
  pub own : HasOwn sites index
  pub told : (at : ℕ) → at < length sites → Contains (drop turn waiting) at ⊎ IsAllTold sites index at
  pub within : (k : ℕ) → Contains waiting k → k < length sites
  pub before : turn ≤ length waiting

module _ (sites : List SiteEvents) where
  -- what a site packed itself came from it
  own_came : (m : List ℕ × Source) → IsOwn sites m → CameFrom sites m.0 m.1
  own_came m (at, (s, so, k, (e, stands, (fills, here)))) =
      (s, s, subst (λ (x : Source). slice_get sites x.from ≡ Some s) here so, subst (λ (x : Source). slice_get sites x.at ≡ Some s) here so, reaches_itself (SendsOn sites m.0) s)

  pub tells_all : (at turn : ℕ) (start now : Index) (waiting waiting' : List ℕ) (n : ℕ) → length sites ≤ n
      → TellsSome sites at turn start now waiting waiting' n → TellsAll sites at turn start now waiting waiting'
  tells_all at turn start now waiting waiting' n past some = record {
    more = some.more;
    only = some.only;
    told = λ to below m told. some.told to (omega (arith, below, past)) m told;
    same = some.same;
    waits = some.waits;
    kept = some.kept;
    within = some.within;
    longer = some.longer;
  }

  pub search_begins : (index : Index) (waiting : List ℕ) → AreOwn sites index → ((k : ℕ) → Contains waiting k ↔ (k < length sites)) → Searching sites index waiting 0
  search_begins index waiting own all = record {
    sound = λ m h. own_came m ((own m).0 h);
    own = λ m h. (own m).1 h;
    told = λ at below. inl ((all at).1 below);
    within = λ k h. (all k).0 h;
    before = omega arith;
  }

  pub search_goes_on : (index new : Index) (waiting waiting' : List ℕ) (turn at : ℕ) → turn < length waiting → at ≡ get_or waiting turn at
      → Searching sites index waiting turn → TellsAll sites at (turn + 1) index new waiting waiting' → Searching sites new waiting' (turn + 1)
  search_goes_on index new waiting waiting' turn at below is so_far tells = record {
    sound = λ m h. ⊎_elim (λ was. so_far.sound m was) (λ (to, told). told_came sites index so_far.sound at to m told) (tells.only m h);
    own = λ m h. tells.more m (so_far.own m h);
    told = λ k lt. ⊎_elim
        (λ waits. ⊎_elim
        (λ here. inr (subst (IsAllTold sites new) here mine))
        (λ later. inl (tells.kept k later))
        (next k waits))
        (λ all. ⊎_elim
        (λ same. inr (λ to lt' m told. tells.more m (all to lt' m (same_as k same to m told))))
        (λ waits. inl waits)
        (tells.waits k))
        (so_far.told k lt);
    within = λ k h. ⊎_elim (λ was. so_far.within k was) (λ lt. lt) (tells.within k h);
    before = omega (arith, below, tells.longer);
  }
    where
      same_as : (k : ℕ) → IsSameAt index new k → (to : ℕ) (m : List ℕ × Source) → IsTold sites new k to m → IsTold sites index k to m
      same_as k same to m told = same_told sites k turn index waiting new tells.more same to m told

      mine : IsAllTold sites new at
      mine to lt m told = tells.told to lt m (same_as at tells.same to m told)

      next : (k : ℕ) → Contains (drop turn waiting) k → (at ≡ k) ⊎ Contains (drop (turn + 1) waiting) k
      next k h = contains_cases at k (drop (turn + 1) waiting) (subst (λ xs. Contains xs k) (drop_more waiting turn at below ∙ ap (λ z. z ∷ drop (turn + 1) waiting) (sym is)) h)

  pub search_ends : (index : Index) (waiting : List ℕ) (turn : ℕ) → length waiting ≤ turn → Searching sites index waiting turn → AreKnown sites index
  search_ends index waiting turn past so_far =
      all_known sites index so_far.own (λ at lt. ⊎_elim (λ waits. absurd (none at waits)) (λ all. all) (so_far.told at lt)) so_far.sound
    where
      none : (k : ℕ) → Contains (drop turn waiting) k → ⊥
      none k (j, below, at) = omega (arith, below, past, length-drop turn waiting)

-- so many places, one more
pub counted_more : (xs ys : List ℕ) (n : ℕ) → ((k : ℕ) → Contains xs k ↔ (k < n)) → ys ≡ xs ++ n ∷ [] → (k : ℕ) → Contains ys k ↔ (k < n + 1)
counted_more xs ys n are is k =
    let pushed = contains_pushed xs n k in (
      λ h. ⊎_elim (λ was. let below = (are k).0 was in omega (arith, below)) (λ last. omega (arith, last)) (pushed.0 (subst (λ zs. Contains zs k) is h)),
      λ below. subst (λ zs. Contains zs k) (sym is) (pushed.1 (⊎_elim (λ sooner. inl ((are k).1 sooner)) (λ past. inr (same below past)) (cases_lt k n))),
    )
  where
    same : k < n + 1 → n ≤ k → n ≡ k
    same below past = omega (arith, below, past)
