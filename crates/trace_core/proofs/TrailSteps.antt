-- The steps of a search, and the trails that they leave.
use Rattle.std.proofs.Common.{◌≡◌, ◌≢◌, ◌<◌, ◌≤◌, ◌+◌, ◌-◌, ℕ, zero, suc, true, List, [], ◌∷◌, ◌++◌, Option, None, Some, map, length, get_or, All, refl, sym, ap, ◌∙◌, subst, inl, inr, ⊎_elim, append_assoc, length-append, arith}
use mathlib.Core.Bool.{false≢true}
use mathlib.Core.Logic.{◌⊎◌}
use Rattle.std.specs.BTreeMap.{BTreeMap, get, is_at, Updates}
use Rattle.std.specs.BTreeSet.{BTreeSet}
use Rattle.std.specs.Cmp.{eq_by_cmp_equiv}
use Rattle.std.specs.List.{Contains}
use Rattle.std.specs.Map.{lookup}
use Rattle.std.specs.Option.{IsSome}
use Rattle.std.specs.Ordering.{eq_by_cmp}
use Rattle.std.proofs.lemmas.Bool.{cases_Bool, cases_lt, cases_eq, cond-true, cond-false}
use Rattle.std.proofs.lemmas.List.{get_or_default, get_or_append_left, get_or-append_right, get_or-map, map-append, length-map}
use Rattle.std.proofs.lemmas.List.Elements.{All-nil, All-append, All-weaker, All-cons, All-get_or, Contains-append_left, Contains-append_right, Contains-append_cases, Contains-push}
use Rattle.std.proofs.lemmas.List.Kept.{AllPairs-cons}
use Rattle.std.proofs.lemmas.List.Quantifiers.{all_pairs_push}
use Rattle.std.proofs.lemmas.Map.Views.{tells_apart}
use Rattle.trace_core.specs.declared.groups.Group.{Group}
use Rattle.trace_core.specs.declared.pairs.Pair.{Pair}
use Rattle.trace_core.specs.declared.steps.Step.{Step}
use Rattle.trace_core.specs.Pairs.{pair_cmp}
use Rattle.trace_core.specs.Relations.{IsChain, last_of, Reaches, Chain}
use Rattle.trace_core.specs.Searches.{AreUnseen}
use Rattle.trace_core.specs.Trails.{HaveNoRepeats, IsAt, pairs_of, IsPlaceOf, ArePlaces, NotesSteps, AreSteps, TellsTrailBy}
use Rattle.trace_core.proofs.ChainLaws.{reaches_itself, reaches_step, reached_holds}
use Rattle.trace_core.proofs.Members.{contains_none, contains_cases, contains_here, contains-map}
use Rattle.trace_core.proofs.PairOrder.{pairs_total, pairs_exact}
use Rattle.trace_core.proofs.SetMembers.{contains-from_map, contains_pushed}

append-nil : {X : Type 0} (xs : List X) → xs ++ [] ≡ xs
append-nil [] = refl
append-nil (x ∷ xs) = ap (λ ys. x ∷ ys) (append-nil xs)

-- nothing is noted
pub no_steps : (steps : List Step) (from : ℕ) → NotesSteps steps steps from []
no_steps steps from = record {
  added = [];
  appended = sym (append-nil steps);
  from_place = All-nil (λ (s : Step). (s.from ≡ from) × Contains [] s.pair);
  noted = λ q h. absurd (contains_none q h);
  apart = λ apart. apart;
}

single : (x y : Pair) → Contains (x ∷ []) y → x ≡ y
single x y h = ⊎_elim (λ e. e) (λ none. absurd (contains_none y none)) (contains_cases x y [] h)

-- the target has a step
pub known_step : (steps old : List Step) (from : ℕ) (target : Pair) → steps ≡ old → Contains (pairs_of steps) target → NotesSteps old steps from (target ∷ [])
known_step steps old from target same there = record {
  added = [];
  appended = same ∙ sym (append-nil old);
  from_place = All-nil (λ (s : Step). (s.from ≡ from) × Contains (target ∷ []) s.pair);
  noted = λ q h. subst (Contains (pairs_of steps)) (single target q h) there;
  apart = λ apart. subst (λ (xs : List Step). HaveNoRepeats (pairs_of xs)) (sym same) apart;
}

-- the target is new
pub new_step : (old new : List Step) (from : ℕ) (copy target : Pair) → new ≡ old ++ (record { pair = copy; from = from }) ∷ [] → copy ≡ target → (Contains (pairs_of old) target → ⊥) → NotesSteps old new from (target ∷ [])
new_step old new from copy target pushed same missing =
    let step : Step = record { pair = copy; from = from } in
    let pairs : pairs_of new ≡ pairs_of old ++ copy ∷ [] = ap pairs_of pushed ∙ map-append (λ (s : Step). s.pair) old (step ∷ []) in
    record {
      added = step ∷ [];
      appended = pushed;
      from_place = All-cons (λ (s : Step). (s.from ≡ from) × Contains (target ∷ []) s.pair) step [] (refl, subst (Contains (target ∷ [])) (sym same) (contains_here target [])) (All-nil (λ (s : Step). (s.from ≡ from) × Contains (target ∷ []) s.pair));
      noted = λ q h. subst (λ ps. Contains ps q) (sym pairs) (subst (Contains (pairs_of old ++ copy ∷ [])) (same ∙ single target q h) (Contains-push (pairs_of old) copy));
      apart = λ apart. subst HaveNoRepeats (sym pairs) (all_pairs_push (λ (p q : Pair). p ≢ q) (pairs_of old) copy apart
          (λ k d below is. missing (k, below, get_or_default (pairs_of old) k target d below ∙ is ∙ same)));
    }

pub steps_then : (a b c : List Step) (from : ℕ) (xs ys : List Pair) → NotesSteps a b from xs → NotesSteps b c from ys → NotesSteps a c from (xs ++ ys)
steps_then a b c from xs ys first second = record {
  added = first.added ++ second.added;
  appended = second.appended ∙ ap (λ (zs : List Step). zs ++ second.added) first.appended ∙ append_assoc a first.added second.added;
  from_place = All-append (λ (s : Step). (s.from ≡ from) × Contains (xs ++ ys) s.pair) first.added second.added
      (All-weaker (λ (s : Step). (s.from ≡ from) × Contains xs s.pair) (λ (s : Step). (s.from ≡ from) × Contains (xs ++ ys) s.pair) (λ s h. (h.0, Contains-append_left xs ys s.pair h.1)) first.added first.from_place)
      (All-weaker (λ (s : Step). (s.from ≡ from) × Contains ys s.pair) (λ (s : Step). (s.from ≡ from) × Contains (xs ++ ys) s.pair) (λ s h. (h.0, Contains-append_right xs ys s.pair h.1)) second.added second.from_place);
  noted = λ q h. ⊎_elim (λ in_xs. still b c second q (first.noted q in_xs)) (λ in_ys. second.noted q in_ys) (Contains-append_cases xs ys q h);
  apart = λ apart. second.apart (first.apart apart);
}
  where
    still : (b c : List Step) → NotesSteps b c from ys → (q : Pair) → Contains (pairs_of b) q → Contains (pairs_of c) q
    still b c noted q h = subst (λ (zs : List Step). Contains (pairs_of zs) q) (sym noted.appended) (subst (λ ps. Contains ps q) (sym (map-append (λ (s : Step). s.pair) b noted.added)) (Contains-append_left (pairs_of b) (pairs_of noted.added) q h))

-- the map's places, as they stand before and after a step is pushed
pub same_places : (places places' : BTreeMap Pair ℕ) (steps steps' : List Step) → ArePlaces places steps → places'.entries ≡ places.entries → steps' ≡ steps → ArePlaces places' steps'
same_places places places' steps steps' are entries same q =
    subst (λ (xs : List Step). IsPlaceOf xs q (get pair_cmp places' q)) (sym same)
    (subst (IsPlaceOf steps q) (sym (ap (λ (es : List (Pair × ℕ)). lookup (is_at (pair_cmp q)) es) entries)) (are q))

pub place_pushed : (places places' : BTreeMap Pair ℕ) (steps steps' : List Step) (from n : ℕ) (copy target : Pair) → ArePlaces places steps → Updates pair_cmp places places' target (Some n) → n ≡ length steps
    → steps' ≡ steps ++ (record { pair = copy; from = from }) ∷ [] → copy ≡ target → ArePlaces places' steps'
place_pushed places places' steps steps' from n copy target are upd last pushed same q =
    let step : Step = record { pair = copy; from = from } in
    let len : length steps' ≡ length steps + 1 = ap length pushed ∙ length-append steps (step ∷ []) in
    ⊎_elim
    (λ at.
    let is : target ≡ q = tells_apart pairs_exact target q at in
    let here : IsAt steps' n step = (omega (arith, last, len), ap (λ (xs : List Step). get_or xs n step) pushed ∙ get_or-append_right steps (step ∷ []) (length steps) n step refl (omega (arith, last)) ∙ at_start (n - length steps) step (omega (arith, last))) in
    subst (IsPlaceOf steps' q) (sym (upd.0 q ∙ cond-true _ (Some n) (get pair_cmp places q) at)) (step, here, same ∙ is))
    (λ other. subst (IsPlaceOf steps' q) (sym (upd.0 q ∙ cond-false _ (Some n) (get pair_cmp places q) other)) (kept step (get pair_cmp places q) (λ is. false≢true (sym other ∙ subst (λ x. eq_by_cmp pair_cmp target x ≡ true) is ((eq_by_cmp_equiv pairs_total).refl target))) (are q)))
    (cases_Bool (eq_by_cmp pair_cmp target q))
  where
    at_start : (k : ℕ) (s : Step) → k ≡ 0 → get_or (s ∷ []) k s ≡ s
    at_start k s first = ap (λ m. get_or (s ∷ []) m s) first

    kept : (step : Step) (o : Option ℕ) → (target ≡ q → ⊥) → IsPlaceOf steps q o → IsPlaceOf steps' q o
    kept step None other missing = λ h. ⊎_elim missing (λ is. other (sym same ∙ is))
        ((contains_pushed (pairs_of steps) copy q).0 (subst (λ ps. Contains ps q) (ap pairs_of pushed ∙ map-append (λ (s : Step). s.pair) steps ((record { pair = copy; from = from }) ∷ [])) h))
    kept step (Some k) other (s, (lt, at), is) = (s, (omega (arith, lt, ap length pushed, length-append steps ((record { pair = copy; from = from }) ∷ [])), ap (λ (xs : List Step). get_or xs k s) pushed ∙ get_or_append_left steps ((record { pair = copy; from = from }) ∷ []) s k lt ∙ at), is)

-- what the map's look-up says
pub has_place : (steps : List Step) (q : Pair) (o : Option ℕ) → IsPlaceOf steps q o → IsSome o → Contains (pairs_of steps) q
has_place steps q None place some = absurd (false≢true some)
has_place steps q (Some k) (s, (lt, at), is) some = subst (Contains (pairs_of steps)) is (contains-map (λ (s : Step). s.pair) steps s (k, lt, at))

pub lacks_place : (steps : List Step) (q : Pair) (o : Option ℕ) → IsPlaceOf steps q o → (IsSome o → ⊥) → Contains (pairs_of steps) q → ⊥
lacks_place steps q None place none = place
lacks_place steps q (Some k) place none = absurd (none refl)

-- ---- the path to a step

-- each step at its place, from one to the next, up to the last
abbrev pub IsPath : List Step → List (ℕ × Step) → ℕ → Type 0
IsPath steps [] last = ⊥
IsPath steps (a ∷ []) last = IsAt steps a.0 a.1 × (a.0 ≡ last)
IsPath steps (a ∷ b ∷ rest) last = IsAt steps a.0 a.1 × (b.1.from ≡ a.0) × (a.0 < b.0) × IsPath steps (b ∷ rest) last

-- the pairs of the steps from a place to the last
abbrev pub IsTraced : List Step → ℕ → ℕ → List Pair → Type 0
IsTraced steps place last pairs =
    (step : Step) × (rest : List (ℕ × Step)) × IsPath steps ((place, step) ∷ rest) last × (pairs ≡ map (λ a. a.1.pair) ((place, step) ∷ rest))

pub one_at : (steps : List Step) (k : ℕ) (s t : Step) → IsAt steps k s → IsAt steps k t → s ≡ t
one_at steps k s t (lt, at) (lt', at') = sym at ∙ get_or_default steps k s t lt ∙ at'

pub element : {X : Type 0} (xs : List X) (i : ℕ) → i < length xs → (x : X) × (i < length xs) × (get_or xs i x ≡ x)
element [] i lt = absurd (omega (arith, lt))
element (x ∷ xs) zero lt = (x, lt, refl)
element (x ∷ xs) (suc i) lt = let (y, lt', at) = element xs i (omega (arith, lt)) in (y, lt, at)

pub path_head : (steps : List Step) (a : ℕ × Step) (rest : List (ℕ × Step)) (last : ℕ) → IsPath steps (a ∷ rest) last → IsAt steps a.0 a.1
path_head steps a [] last path = path.0
path_head steps a (b ∷ rest) last path = path.0

apart_at : (steps : List Step) → HaveNoRepeats (pairs_of steps) → (i j : ℕ) (s t : Step) → IsAt steps i s → IsAt steps j t → i < j → s.pair ≡ t.pair → ⊥
apart_at steps apart i j s t (lt, at) (lt', at') below same = apart i j s.pair below (omega (arith, lt', length-map steps (λ (s : Step). s.pair)))
    (get_or-map (λ (x : Step). x.pair) steps i s s.pair lt ∙ ap (λ (x : Step). x.pair) at ∙ same ∙ sym (get_or-map (λ (x : Step). x.pair) steps j t s.pair lt' ∙ ap (λ (x : Step). x.pair) at'))

-- so many steps lead to the place
abbrev pub IsDepth : List Step → ℕ → ℕ → Type 0
IsDepth steps k zero = k ≡ 0
IsDepth steps k (suc d) = (s : Step) × IsAt steps k s × (k ≢ 0) × IsDepth steps s.from d

module _ (R : Pair → Pair → Type 0) (root : Pair) where
  -- the root is the first step
  pub steps_begin : (none steps : List Step) (pair : Pair) → none ≡ [] → NotesSteps none steps 0 (pair ∷ []) → pair ≡ root → AreSteps R root 0 steps
  steps_begin none steps pair nothing noted same =
      let are : steps ≡ noted.added = noted.appended ∙ ap (λ (xs : List Step). xs ++ noted.added) nothing in
      let apart : HaveNoRepeats (pairs_of steps) = noted.apart (subst (λ (xs : List Step). HaveNoRepeats (pairs_of xs)) (sym nothing) (λ i j d below lt. absurd (omega (arith, below, lt)))) in
      let from_root : (k : ℕ) (s : Step) → IsAt steps k s → (s.from ≡ 0) × (s.pair ≡ root) = λ k s (lt, at).
      let there = All-get_or (λ (s : Step). (s.from ≡ 0) × Contains (pair ∷ []) s.pair) noted.added k s (omega (arith, lt, ap length are)) noted.from_place in
      let this = subst (λ (s : Step). (s.from ≡ 0) × Contains (pair ∷ []) s.pair) (ap (λ (xs : List Step). get_or xs k s) (sym are) ∙ at) there in
      (this.0, sym (single pair s.pair this.1) ∙ same) in
      let some : 0 < length steps = let (k, lt, at) = noted.noted pair (contains_here pair []) in omega (arith, lt, length-map steps (λ (s : Step). s.pair)) in
      let first : (k : ℕ) (s : Step) → IsAt steps k s → k ≡ 0 = λ k s here. ⊎_elim
      (λ zero. zero)
      (λ later. let (t, lt, at) = element steps 0 some in absurd (apart_at steps apart 0 k t s (lt, at) here (omega (arith, later)) ((from_root 0 t (lt, at)).1 ∙ sym (from_root k s here).1)))
      (cases_eq k 0) in
      record {
        begun = λ s at. (from_root 0 s at).1;
        some = some;
        back = λ k s at later. absurd (later (first k s at));
        linked = λ k s t at later from. absurd (later (first k t at));
        apart = apart;
        within = omega arith;
        mono = λ j k s t at at' le. omega (arith, (from_root j s at).0, (from_root k t at').0);
        behind = λ k s at. omega (arith, (from_root k s at).0);
        near = λ k s at below. absurd (omega (arith, below));
      }

  module _ (steps added : List Step) (place : ℕ) (targets : List Pair) (from : All (λ s. (s.from ≡ place) × Contains targets s.pair) added) where
    old_at : (k : ℕ) (t : Step) → IsAt steps k t → IsAt (steps ++ added) k t
    old_at k t (lt, at) = (omega (arith, lt, length-append steps added), get_or_append_left steps added t k lt ∙ at)

    new_at : (k : ℕ) (t : Step) → IsAt (steps ++ added) k t → IsAt steps k t ⊎ ((length steps ≤ k) × (t.from ≡ place) × Contains targets t.pair)
    new_at k t (lt, at) = ⊎_elim
        (λ below. inl (below, sym (get_or_append_left steps added t k below) ∙ at))
        (λ past.
        let is : get_or added (k - length steps) t ≡ t = sym (get_or-append_right steps added (length steps) k t refl past) ∙ at in
        let there = All-get_or (λ (s : Step). (s.from ≡ place) × Contains targets s.pair) added (k - length steps) t (omega (arith, lt, past, length-append steps added)) from in
        let this = subst (λ (s : Step). (s.from ≡ place) × Contains targets s.pair) is there in
        inr (past, this.0, this.1))
        (cases_lt k (length steps))

    longer : (s : Step) → AreSteps R root place steps → IsAt steps place s → ((q : Pair) → Contains targets q → R s.pair q) → ((q : Pair) → R s.pair q → Contains (pairs_of (steps ++ added)) q)
        → HaveNoRepeats (pairs_of (steps ++ added)) → AreSteps R root (place + 1) (steps ++ added)
    longer s so_far here sound found_here apart =
        let len = length-append steps added in
        let old_place : (k : ℕ) (t : Step) → IsAt (steps ++ added) k t → k < length steps → IsAt steps k t =
        λ k t at below. ⊎_elim (λ old. old) (λ new. absurd (omega (arith, below, new.0))) (new_at k t at) in
        record {
          begun = λ t at. so_far.begun t (old_place 0 t at so_far.some);
          some = omega (arith, so_far.some, len);
          back = λ k t at later. ⊎_elim (λ old. so_far.back k t old later) (λ (past, is, there). omega (arith, past, is, here.0)) (new_at k t at);
          linked = λ k x t at later from. ⊎_elim
              (λ old. so_far.linked k x t old later (old_place t.from x from (omega (arith, so_far.back k t old later, old.0))))
              (λ (past, is, there). subst (λ (y : Step). R y.pair t.pair) (one_at steps place s x here (subst (λ n. IsAt steps n x) is (old_place t.from x from (omega (arith, is, here.0))))) (sound t.pair there))
              (new_at k t at);
          apart = apart;
          within = omega (arith, here.0, len);
          mono = λ j k x y at at' le. ⊎_elim
              (λ old. ⊎_elim
              (λ old'. so_far.mono j k x y old old' le)
              (λ (past, is, there). omega (arith, so_far.behind j x old, is))
              (new_at k y at'))
              (λ (past, is, there). ⊎_elim
              (λ old'. absurd (omega (arith, past, le, old'.0)))
              (λ (past', is', there'). omega (arith, is, is'))
              (new_at k y at'))
              (new_at j x at);
          behind = λ k x at. let le = behind_here k x at in omega (arith, le);
          near = λ k t at below q related. ⊎_elim
              (λ same.
              let listed = found_here q (subst (λ (x : Step). R x.pair q) (one_at steps place t s (subst (λ n. IsAt steps n t) same (old_place k t at (omega (arith, same, here.0)))) here) related) in
              let (x, (j, lt, is), pair) = contains-from_map (λ (x : Step). x.pair) (steps ++ added) q listed in
              let le = behind_here j x (lt, is) in
              (j, x, (lt, is), pair, omega (arith, le, same)))
              (λ other.
              let (j, x, there, pair, le) = so_far.near k t (old_place k t at (omega (arith, below, here.0))) (earlier k below other) q related in
              (j, x, old_at j x there, pair, le))
              (cases_eq k place);
        }
      where
        behind_here : (k : ℕ) (x : Step) → IsAt (steps ++ added) k x → x.from ≤ place
        behind_here k x at = ⊎_elim (λ old. so_far.behind k x old) (λ (past, is, there). omega (arith, is)) (new_at k x at)

        earlier : (k : ℕ) → k < place + 1 → (k ≡ place → ⊥) → k < place
        earlier k below other = ⊎_elim (λ lt. lt) (λ past. absurd (other (omega (arith, below, past)))) (cases_lt k place)

  -- what holds of a search that comes to each transformation once
  pub record FollowsGroups (G : BTreeSet Group → Pair → Type 0) (groups : BTreeSet Group) (place : ℕ) (steps : List Step) : Type 0 where
    pub follows : AreSteps R root place steps
    pub given : (q : Pair) → G groups q → Contains (pairs_of steps) q

  -- the targets of the step at the place are noted
  pub unseen_noted : (G : BTreeSet Group → Pair → Type 0) (groups groups' : BTreeSet Group) (steps steps' : List Step) (place : ℕ) (s : Step) (targets : List Pair) → FollowsGroups G groups place steps
      → IsAt steps place s → AreUnseen (R s.pair) G groups groups' targets → NotesSteps steps steps' place targets → FollowsGroups G groups' (place + 1) steps'
  unseen_noted G groups groups' steps steps' place s targets so_far here unseen noted =
      let stays : (q : Pair) → Contains (pairs_of steps) q → Contains (pairs_of (steps ++ noted.added)) q =
      λ q h. subst (λ ps. Contains ps q) (sym (map-append (λ (s : Step). s.pair) steps noted.added)) (Contains-append_left (pairs_of steps) (pairs_of noted.added) q h) in
      let there : (q : Pair) → Contains targets q → Contains (pairs_of (steps ++ noted.added)) q = λ q h. subst (λ (xs : List Step). Contains (pairs_of xs) q) noted.appended (noted.noted q h) in
      let apart : HaveNoRepeats (pairs_of (steps ++ noted.added)) = subst (λ (xs : List Step). HaveNoRepeats (pairs_of xs)) noted.appended (noted.apart so_far.follows.apart) in
      subst (λ (xs : List Step). FollowsGroups G groups' (place + 1) xs) (sym noted.appended) (record {
        follows = longer steps noted.added place targets noted.from_place s so_far.follows here unseen.sound
            (λ q related. ⊎_elim (λ h. there q h) (λ before. stays q (so_far.given q before)) (unseen.complete q related)) apart;
        given = λ q h. ⊎_elim (λ before. stays q (so_far.given q before)) (λ h. there q h) (unseen.given q h);
      })

  -- all steps are followed
  pub all_followed : (steps : List Step) (place : ℕ) → length steps ≤ place → AreSteps R root place steps → AreSteps R root (length steps) steps
  all_followed steps place past so_far = let same : place ≡ length steps = omega (arith, past, so_far.within) in subst (λ n. AreSteps R root n steps) same so_far

  module _ (steps : List Step) (done : AreSteps R root (length steps) steps) where
    root_listed : Contains (pairs_of steps) root
    root_listed = let (s, lt, at) = element steps 0 done.some in
        subst (Contains (pairs_of steps)) (done.begun s (lt, at)) (contains-map (λ (s : Step). s.pair) steps s (0, lt, at))

    -- what is reached has a step
    pub reached_listed : (q : Pair) → Reaches R root q → Contains (pairs_of steps) q
    reached_listed q reaches = reached_holds R (Contains (pairs_of steps)) closed root q reaches root_listed
      where
        closed : (y z : Pair) → Contains (pairs_of steps) y → R y z → Contains (pairs_of steps) z
        closed y z h related =
            let (s, (k, lt, at), is) = contains-from_map (λ (s : Step). s.pair) steps y h in
            let (j, t, (lt', at'), pair, le) = done.near k s (lt, at) lt z (subst (λ (x : Pair). R x z) (sym is) related) in
            subst (Contains (pairs_of steps)) pair (contains-map (λ (s : Step). s.pair) steps t (j, lt', at'))

    -- each step's pair is reached
    step_reached : (n k : ℕ) (s : Step) → k ≤ n → IsAt steps k s → Reaches R root s.pair
    step_reached zero k s le at = subst (Reaches R root) (sym (done.begun s (first_at k le at))) (reaches_itself R root)
      where
        first_at : (k : ℕ) → k ≤ 0 → IsAt steps k s → IsAt steps 0 s
        first_at k le at = let zero_at : k ≡ 0 = omega (arith, le) in subst (λ n. IsAt steps n s) zero_at at
    step_reached (suc n) k s le at = ⊎_elim
        (λ first. subst (Reaches R root) (sym (done.begun s (subst (λ n. IsAt steps n s) first at))) (reaches_itself R root))
        (λ later.
        let below = done.back k s at later in
        let (t, lt, at') = element steps s.from (omega (arith, below, at.0)) in
        reaches_step R root t.pair s.pair (step_reached n s.from t (omega (arith, below, le)) (lt, at')) (done.linked k t s at later (lt, at')))
        (cases_eq k 0)

    path_chain : (a : ℕ × Step) (rest : List (ℕ × Step)) (last : ℕ) (z : Step) → IsPath steps (a ∷ rest) last → IsAt steps last z
        → IsChain R (a.1.pair ∷ map (λ b. b.1.pair) rest) × (last_of a.1.pair (map (λ b. b.1.pair) rest) ≡ z.pair)
    path_chain a [] last z (at, is) end = (tt, ap (λ (x : Step). x.pair) (one_at steps last a.1 z (subst (λ n. IsAt steps n a.1) is at) end))
    path_chain a (b ∷ rest) last z (at, from, below, more) end =
        let (chain, ends) = path_chain b rest last z more end in
        ((done.linked b.0 a.1 b.1 (path_head steps b rest last more) (λ zero. omega (arith, zero, below)) (subst (λ n. IsAt steps n a.1) (sym from) at), chain), ends)

    -- a step before another one is no deeper
    no_deeper : (e j k d : ℕ) → j ≤ k → IsDepth steps j d → IsDepth steps k e → d ≤ e
    no_deeper e j k zero le deep deep' = omega arith
    no_deeper zero j k (suc d) le (s, at, later, deep) deep' = absurd (later (omega (arith, le, deep')))
    no_deeper (suc e) j k (suc d) le (s, at, later, deep) (t, at', later', deep') =
        let below = no_deeper e s.from t.from d (done.mono j k s t at at' le) deep deep' in omega (arith, below)

    -- a path is as long as its last step is deep
    path_depth : (a : ℕ × Step) (rest : List (ℕ × Step)) (last d : ℕ) → IsPath steps (a ∷ rest) last → IsDepth steps a.0 d → IsDepth steps last (d + length rest)
    path_depth a [] last d (at, is) deep = let same : d + 0 ≡ d = omega arith in subst (λ n. IsDepth steps last n) (sym same) (subst (λ n. IsDepth steps n d) is deep)
    path_depth a (b ∷ rest) last d (at, from, below, more) deep =
        let next : suc d + length rest ≡ d + length (b ∷ rest) = omega arith in
        subst (λ n. IsDepth steps last n) next (path_depth b rest last (suc d) more (b.1, path_head steps b rest last more, λ zero. omega (arith, zero, below), subst (λ n. IsDepth steps n d) (sym from) deep))

    -- each place has a depth, no deeper than a later one's
    has_depth : (n k : ℕ) → k ≤ n → k < length steps → (d : ℕ) × IsDepth steps k d
    has_depth zero k le lt = (0, omega (arith, le))
    has_depth (suc n) k le lt = ⊎_elim
        (λ first. (0, first))
        (λ later.
        let (s, lt', at) = element steps k lt in
        let below = done.back k s (lt', at) later in
        let (d, deep) = has_depth n s.from (omega (arith, below, le)) (omega (arith, below, lt)) in
        (suc d, (s, (lt', at), later, deep)))
        (cases_eq k 0)

    -- what a chain of so many steps reaches is found as near
    near_found : (m : ℕ) (q : Pair) → Chain R root m q → (k : ℕ) × (s : Step) × (d : ℕ) × IsAt steps k s × (s.pair ≡ q) × IsDepth steps k d × (d ≤ m)
    near_found zero q same = let (s, lt, at) = element steps 0 done.some in (0, s, 0, (lt, at), done.begun s (lt, at) ∙ same, refl, omega arith)
    near_found (suc m) q (z, chain, related) =
        let (k, s, d, at, is, deep', le) = near_found m z chain in
        let (j, t, there, pair, from) = done.near k s at at.0 q (subst (λ (x : Pair). R x q) (sym is) related) in
        let (f, found) = has_depth t.from t.from (omega arith) (omega (arith, from, at.0)) in
        let small = no_deeper d t.from k f from found deep' in
        ⊎_elim
        (λ first. (j, t, 0, there, pair, first, omega arith))
        (λ later. (j, t, suc f, there, pair, (t, there, later, found), omega (arith, small, le)))
        (cases_eq j 0)

    -- the trail has no more pairs than any chain
    pub traced_shortest : (last : ℕ) (s : Step) (target : Pair) (pairs : List Pair) → IsAt steps last s → s.pair ≡ target → IsTraced steps 0 last pairs → (n : ℕ) → Chain R root n target → length pairs ≤ suc n
    traced_shortest last s target pairs here found (a, rest, path, are) n chain =
        let deep : IsDepth steps last (0 + length rest) = path_depth (0, a) rest last 0 path refl in
        let long : length pairs ≡ suc (length rest) = ap length are ∙ length-map ((0, a) ∷ rest) (λ b. b.1.pair) in
        let (k, t, d, at, is, deep', le) = near_found n target chain in
        ⊎_elim
        (λ below. absurd (apart_at steps done.apart k last t s at here below (is ∙ sym found)))
        (λ past. let deeper = no_deeper d last k (0 + length rest) past deep deep' in omega (arith, long, deeper, le))
        (cases_lt k last)

    -- the trail of a step
    pub traced_chain : (last : ℕ) (s : Step) (target : Pair) (pairs : List Pair) → IsAt steps last s → s.pair ≡ target → IsTraced steps 0 last pairs
        → (rest : List Pair) × (pairs ≡ root ∷ rest) × IsChain R (root ∷ rest) × (last_of root rest ≡ target)
    traced_chain last s target pairs here found (a, rest, path, are) =
        let (chain, ends) = path_chain (0, a) rest last s path here in
        let begins : a.pair ≡ root = done.begun a (path_head steps (0, a) rest last path) in
        let tail = map (λ b. b.1.pair) rest in
        (tail, are ∙ ap (λ p. p ∷ tail) begins, subst (λ p. IsChain R (p ∷ tail)) begins chain, ap (λ p. last_of p tail) (sym begins) ∙ ends ∙ found)

    later : (a : ℕ × Step) (rest : List (ℕ × Step)) (last : ℕ) → IsPath steps (a ∷ rest) last → (q : Pair) → Contains (map (λ b. b.1.pair) rest) q → (j : ℕ) × (t : Step) × IsAt steps j t × (t.pair ≡ q) × (a.0 < j)
    later a [] last path q h = absurd (contains_none q h)
    later a (b ∷ rest) last (at, from, below, more) q h = ⊎_elim
        (λ is. (b.0, b.1, path_head steps b rest last more, is, below))
        (λ there. let (j, t, at', is, past) = later b rest last more q there in (j, t, at', is, omega (arith, below, past)))
        (contains_cases b.1.pair q (map (λ b. b.1.pair) rest) h)

    path_apart : (a : ℕ × Step) (rest : List (ℕ × Step)) (last : ℕ) → IsPath steps (a ∷ rest) last → HaveNoRepeats (map (λ b. b.1.pair) (a ∷ rest))
    path_apart a [] last path = λ i j d below lt. absurd (omega (arith, below, lt))
    path_apart a (b ∷ rest) last path = AllPairs-cons (λ (p q : Pair). p ≢ q) a.1.pair (map (λ b. b.1.pair) (b ∷ rest))
        (λ k d lt same. let q = get_or (map (λ b. b.1.pair) (b ∷ rest)) k d in
        let (j, t, at, is, below) = later a (b ∷ rest) last path q (k, lt, get_or_default (map (λ b. b.1.pair) (b ∷ rest)) k q d lt) in
        apart_at steps done.apart a.0 j a.1 t (path_head steps a (b ∷ rest) last path) at below (same ∙ sym is))
        (path_apart b rest last path.3)

    pub traced_apart : (last : ℕ) (pairs : List Pair) → IsTraced steps 0 last pairs → HaveNoRepeats pairs
    traced_apart last pairs (a, rest, path, are) = subst HaveNoRepeats (sym are) (path_apart (0, a) rest last path)

-- the trail of a step leads to its pair, and where there is no step, nothing leads there
module _ (R : Pair → Pair → Type 0) (root : Pair) (steps : List Step) (done : AreSteps R root (length steps) steps) (target : Pair) where
  pub trail_told : (last : ℕ) (s : Step) (pairs : List Pair) → IsAt steps last s → s.pair ≡ target → IsTraced steps 0 last pairs → TellsTrailBy R root target (Some pairs)
  trail_told last s pairs here found traced = (
    traced_chain R root steps done last s target pairs here found traced,
    traced_apart R root steps done last pairs traced,
    traced_shortest R root steps done last s target pairs here found traced,
  )

  -- just what has a step is reached
  pub listed_reached : Contains (pairs_of steps) target → Reaches R root target
  listed_reached listed =
      let (s, (k, lt, at), found) = contains-from_map (λ (s : Step). s.pair) steps target listed in
      subst (Reaches R root) found (step_reached R root steps done k k s (omega arith) (lt, at))
