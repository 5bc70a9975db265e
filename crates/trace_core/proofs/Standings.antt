-- Events judged by place, and one after another by those that were kept.
use Rattle.std.proofs.Common.{◌≡◌, ℕ, zero, suc, ◌+◌, ◌<◌, ◌≤◌, Bool, true, false, not, cond, ltb, if◌then◌else◌, List, [], ◌∷◌, ◌++◌, map, filter, count_by, take, length, ◌↔◌, Option, Some, None, Result, Ok, Err, option_map, refl, sym, ap, ◌∙◌, subst, ⊎_elim, append_assoc, length-append, arith}
use Rattle.std.specs.List.{Any, Contains, list_any, enumerate_from, position, position_or_len}
use Rattle.std.proofs.lemmas.Bool.{true≢false, lt-ltb, le-ltb, cases_lt}
use Rattle.std.proofs.lemmas.Bool.Decides.{same_from_decides}
use Rattle.std.proofs.lemmas.List.Elements.{Contains-append_left, Contains-append_right, Contains-append_cases}
use Rattle.std.proofs.lemmas.List.Sums.{sum_by-cons}
use Rattle.event_json.specs.Events.{Content}
use Rattle.event_json.specs.Contents.{same_content}
use Rattle.event_json.proofs.ContentLaws.{content_decides}
use Rattle.trace_core.specs.declared.adding.Standing.{Standing}
use Rattle.trace_core.specs.declared.adding.Standing.TheVariants.{Fresh, Known, Taken}
use Rattle.trace_core.specs.Adding.{standing_among, is_fresh, is_known, is_taken, judged, Addition, kept_with, outcome_at, outcome_of, adding}
use Rattle.trace_core.specs.Laws.{StandingSays}
use Rattle.trace_core.specs.PairTests.{same_id}
use Rattle.trace_core.specs.Pairs.{HaveOneId}
use Rattle.trace_core.proofs.PairTestsDecide.{same_id_decides}
use Rattle.trace_core.proofs.AddingSteps.{after_fresh, after_known, then_with, stepwise, stepwise-fresh, stepwise-known, stepwise-taken}
use Rattle.trace_core.proofs.Members.{list_any_witness, list_any_member}

-- both lists have the same members
abbrev pub HaveSameMembers : {X : Type 0} → List X → List X → Type 0
HaveSameMembers {X} xs ys = (x : X) → Contains xs x ↔ Contains ys x

same_any : {X : Type 0} (p : X → Bool) (xs ys : List X) → HaveSameMembers xs ys → list_any p xs ≡ list_any p ys
same_any p xs ys same = same_from_decides {P = list_any p ys ≡ true} _ _ (
  λ h. let w = list_any_witness p xs h in list_any_member p ys w.0 ((same w.0).0 w.1) w.2,
  λ h. let w = list_any_witness p ys h in list_any_member p xs w.0 ((same w.0).1 w.1) w.2,
)
    (λ h. h, λ h. h)

-- an event stands alike among events that have the same members
pub standing-same_members : (xs ys : List Content) (e : Content) → HaveSameMembers xs ys → standing_among xs e ≡ standing_among ys e
unfolding standing_among
standing-same_members xs ys e same = rw (same_any (λ f. same_id f.id e.id) xs ys same, same_any (λ f. same_content f e) xs ys same) refl

known_tests : (a b : Bool) → (if not a then Fresh else if b then Known else Taken) ≡ Known → (a ≡ true) × (b ≡ true)
known_tests true true h = (refl, refl)
known_tests true false h = cc
known_tests false b h = cc

-- a known event is one of them
pub known_is_there : (xs : List Content) (e : Content) → standing_among xs e ≡ Known → Contains xs e
unfolding standing_among
known_is_there xs e h =
    let w = list_any_witness (λ f. same_content f e) xs (known_tests _ _ h).1 in
    subst (Contains xs) ((content_decides w.0 e).0 w.2) w.1

pub same_pushed : (xs ys : List Content) (e : Content) → HaveSameMembers xs ys → HaveSameMembers (xs ++ e ∷ []) (ys ++ e ∷ [])
same_pushed xs ys e same x = (
  λ h. ⊎_elim (λ before. Contains-append_left ys (e ∷ []) x ((same x).0 before)) (λ last. Contains-append_right ys (e ∷ []) x last) (Contains-append_cases xs (e ∷ []) x h),
  λ h. ⊎_elim (λ before. Contains-append_left xs (e ∷ []) x ((same x).1 before)) (λ last. Contains-append_right xs (e ∷ []) x last) (Contains-append_cases ys (e ∷ []) x h),
)

one_member : (e x : Content) → Contains (e ∷ []) x → e ≡ x
one_member e x (zero, lt, at) = at
one_member e x (suc k, lt, at) = absurd (omega (arith, lt))

pub same_with_known : (xs ys : List Content) (e : Content) → HaveSameMembers xs ys → Contains xs e → HaveSameMembers xs (ys ++ e ∷ [])
same_with_known xs ys e same there x = (
  λ h. Contains-append_left ys (e ∷ []) x ((same x).0 h),
  λ h. ⊎_elim (λ before. (same x).1 before) (λ last. subst (Contains xs) (one_member e x last) there) (Contains-append_cases ys (e ∷ []) x h),
)

-- each event, judged by those before it
abbrev pub judged_from : List Content → List Content → List (Content × Standing)
judged_from seen [] = []
judged_from seen (e ∷ es) = (e, standing_among seen e) ∷ judged_from (seen ++ e ∷ []) es

take_front : {X : Type 0} (xs ys : List X) → take (length xs) (xs ++ ys) ≡ xs
take_front [] ys = refl
take_front (x ∷ xs) ys = ap (λ zs. x ∷ zs) (take_front xs ys)

abbrev judge : List Content → List Content → ℕ × Content → Content × Standing
judge before given p = (p.1, standing_among (before ++ take p.0 given) p.1)

judged_by_place : (before front es : List Content) → map (judge before (front ++ es)) (enumerate_from (length front) es) ≡ judged_from (before ++ front) es
judged_by_place before front [] = refl
judged_by_place before front (e ∷ es) =
    let whole : (front ++ e ∷ []) ++ es ≡ front ++ e ∷ es = append_assoc front (e ∷ []) es in
    let longer : length (front ++ e ∷ []) ≡ length front + 1 = length-append front (e ∷ []) in
    let rest : map (judge before (front ++ e ∷ es)) (enumerate_from (length front + 1) es) ≡ judged_from ((before ++ front) ++ e ∷ []) es =
    ap (λ n. map (judge before (front ++ e ∷ es)) (enumerate_from n es)) (sym longer)
    ∙ ap (λ g. map (judge before g) (enumerate_from (length (front ++ e ∷ [])) es)) (sym whole)
    ∙ judged_by_place before (front ++ e ∷ []) es
    ∙ ap (λ s. judged_from s es) (sym (append_assoc before front (e ∷ []))) in
    ap (λ f. (e, standing_among (before ++ f) e) ∷ map (judge before (front ++ e ∷ es)) (enumerate_from (length front + 1) es)) (take_front front (e ∷ es))
    ∙ ap (λ js. (e, standing_among (before ++ front) e) ∷ js) rest

append-nil : {X : Type 0} (xs : List X) → xs ++ [] ≡ xs
append-nil [] = refl
append-nil (x ∷ xs) = ap (λ ys. x ∷ ys) (append-nil xs)

pub judged-from : (before given : List Content) → judged before given ≡ judged_from before given
judged-from before given = judged_by_place before [] given ∙ ap (λ s. judged_from s given) (append-nil before)

found_at : (n m : ℕ) → n < m → cond (ltb n m) (Some n) None ≡ Some n
found_at n m below = rw (lt-ltb n m below) refl

not_found : (n m : ℕ) → m ≤ n → cond (ltb n m) (Some n) None ≡ None
not_found n m past = rw (le-ltb n m past) refl

one_later : (n m : ℕ) → cond (ltb (1 + n) (suc m)) (Some (1 + n)) None ≡ option_map suc (cond (ltb n m) (Some n) None)
one_later n m = let next : 1 + n ≡ suc n = omega arith in
    ⊎_elim
    (λ below. found_at (1 + n) (suc m) (omega (arith, below)) ∙ ap Some next ∙ ap (option_map suc) (sym (found_at n m below)))
    (λ past. not_found (1 + n) (suc m) (omega (arith, past)) ∙ ap (option_map suc) (sym (not_found n m past)))
    (cases_lt n m)

-- the first place that passes, where the first one doesn't, and where it does
position-later : {X : Type 0} (p : X → Bool) (x : X) (xs : List X) → p x ≡ false → position p (x ∷ xs) ≡ option_map suc (position p xs)
position-later p x xs fails =
    let at : position_or_len p (x ∷ xs) ≡ 1 + position_or_len p xs = rw fails refl in
    ap (λ n. cond (ltb n (suc (length xs))) (Some n) None) at ∙ one_later (position_or_len p xs) (length xs)

position-first : {X : Type 0} (p : X → Bool) (x : X) (xs : List X) → p x ≡ true → position p (x ∷ xs) ≡ Some 0
position-first p x xs passes =
    let at : position_or_len p (x ∷ xs) ≡ 0 = rw passes refl in
    ap (λ n. cond (ltb n (suc (length xs))) (Some n) None) at ∙ found_at 0 (suc (length xs)) (omega arith)

then_fresh : (kept : List Content) (e : Content) (js : List (Content × Standing)) (o : Option ℕ) → outcome_at kept ((e, Fresh) ∷ js) (option_map suc o) ≡ then_with after_fresh (outcome_at (kept ++ e ∷ []) js o)
then_fresh kept e js None =
    let one : count_by is_fresh ((e, Fresh) ∷ js) ≡ suc (count_by is_fresh js) = omega (arith, sum_by-cons (λ j. cond (is_fresh j) 1 0) (e, Fresh) js) in
    ap (λ n. Ok (record { events = kept ++ e ∷ map (λ j. j.0) (filter is_fresh js); fresh = n; known = count_by is_known js })) one
    ∙ ap (λ es. Ok (record { events = es; fresh = suc (count_by is_fresh js); known = count_by is_known js })) (sym (append_assoc kept (e ∷ []) (map (λ j. j.0) (filter is_fresh js))))
then_fresh kept e js (Some place) = refl

then_known : (kept : List Content) (e : Content) (js : List (Content × Standing)) (o : Option ℕ) → outcome_at kept ((e, Known) ∷ js) (option_map suc o) ≡ then_with after_known (outcome_at kept js o)
then_known kept e js None =
    let one : count_by is_known ((e, Known) ∷ js) ≡ suc (count_by is_known js) = omega (arith, sum_by-cons (λ j. cond (is_known j) 1 0) (e, Known) js) in
    ap (λ n. Ok (record { events = kept ++ map (λ j. j.0) (filter is_fresh js); fresh = count_by is_fresh js; known = n })) one
then_known kept e js (Some place) = refl

module _ (kept seen : List Content) (e : Content) (es : List Content) (same : HaveSameMembers kept seen)
    (rest : (kept seen : List Content) → HaveSameMembers kept seen → outcome_of kept (judged_from seen es) ≡ stepwise kept es) where
  by_standing : (st : Standing) → standing_among kept e ≡ st → outcome_of kept ((e, st) ∷ judged_from (seen ++ e ∷ []) es) ≡ stepwise kept (e ∷ es)
  by_standing Fresh h =
      ap (outcome_at kept ((e, Fresh) ∷ judged_from (seen ++ e ∷ []) es)) (position-later is_taken (e, Fresh) (judged_from (seen ++ e ∷ []) es) refl)
      ∙ then_fresh kept e (judged_from (seen ++ e ∷ []) es) (position is_taken (judged_from (seen ++ e ∷ []) es))
      ∙ ap (then_with after_fresh) (rest (kept ++ e ∷ []) (seen ++ e ∷ []) (same_pushed kept seen e same))
      ∙ sym (stepwise-fresh kept e es h)
  by_standing Known h =
      ap (outcome_at kept ((e, Known) ∷ judged_from (seen ++ e ∷ []) es)) (position-later is_taken (e, Known) (judged_from (seen ++ e ∷ []) es) refl)
      ∙ then_known kept e (judged_from (seen ++ e ∷ []) es) (position is_taken (judged_from (seen ++ e ∷ []) es))
      ∙ ap (then_with after_known) (rest kept (seen ++ e ∷ []) (same_with_known kept seen e same (known_is_there kept e h)))
      ∙ sym (stepwise-known kept e es h)
  by_standing Taken h =
      ap (outcome_at kept ((e, Taken) ∷ judged_from (seen ++ e ∷ []) es)) (position-first is_taken (e, Taken) (judged_from (seen ++ e ∷ []) es) refl)
      ∙ sym (stepwise-taken kept e es h)

pub outcome-stepwise : (es kept seen : List Content) → HaveSameMembers kept seen → outcome_of kept (judged_from seen es) ≡ stepwise kept es
unfolding stepwise
outcome-stepwise [] kept seen same = ap (λ es. Ok (record { events = es; fresh = 0; known = 0 })) (append-nil kept)
outcome-stepwise (e ∷ es) kept seen same =
    ap (λ st. outcome_of kept ((e, st) ∷ judged_from (seen ++ e ∷ []) es)) (sym (standing-same_members kept seen e same))
    ∙ by_standing kept seen e es same (λ k s m. outcome-stepwise es k s m) (standing_among kept e) refl

-- what the events make by place is what they make one after another
pub adding-stepwise : (before given : List Content) → adding before given ≡ stepwise before given
unfolding adding
adding-stepwise before given = ap (outcome_of before) (judged-from before given) ∙ outcome-stepwise given before before (λ x. (λ h. h, λ h. h))

same_events : (a b : Addition) (r : Result Addition ℕ) → r ≡ Ok a → r ≡ Ok b → a.events ≡ b.events
same_events a b r h k = let same : a ≡ b = cc in ap (λ (x : Addition). x.events) same

refused : (n : ℕ) (a : Addition) (r : Result Addition ℕ) → r ≡ Err n → r ≡ Ok a → ⊥
refused n a r h k = cc

-- what is added comes after the events before
pub adding_appends_some : (before given : List Content) (a : Addition) → adding before given ≡ Ok a → (more : List Content) × (a.events ≡ before ++ more)
unfolding adding
adding_appends_some before given a h = appended (position is_taken (judged before given)) h
  where
    appended : (o : Option ℕ) → outcome_at before (judged before given) o ≡ Ok a → (more : List Content) × (a.events ≡ before ++ more)
    appended None e = (map (λ j. j.0) (filter is_fresh (judged before given)), sym (same_events (kept_with before (judged before given)) a (Ok (kept_with before (judged before given))) refl e))
    appended (Some place) e = absurd (refused (suc place) a (Err (suc place)) refl e)

no_events_more : (kept : List Content) (a : Addition) → stepwise kept [] ≡ Ok a → a.events ≡ kept
unfolding stepwise
no_events_more kept a h = sym (same_events (record { events = kept; fresh = 0; known = 0 }) a (stepwise kept []) refl h)

-- what follows leaves the events as they are
kept_events : (f : Addition → Addition) → ((a : Addition) → (f a).events ≡ a.events) → (r : Result Addition ℕ) (a : Addition) → then_with f r ≡ Ok a → (b : Addition) × (r ≡ Ok b) × (b.events ≡ a.events)
kept_events f keeps (Ok b) a h = (b, refl, sym (keeps b) ∙ same_events (f b) a (Ok (f b)) refl h)
kept_events f keeps (Err n) a h = absurd (refused (suc n) a (Err (suc n)) refl h)

-- what is kept has the members that stood before, and those that were given
pub kept_members : (es kept seen : List Content) → HaveSameMembers kept seen → (a : Addition) → stepwise kept es ≡ Ok a → HaveSameMembers a.events (seen ++ es)
kept_members [] kept seen same a h =
    subst (λ xs. HaveSameMembers xs (seen ++ [])) (sym (no_events_more kept a h)) (subst (λ xs. HaveSameMembers kept xs) (sym (append-nil seen)) same)
kept_members (e ∷ es) kept seen same a h =
    let whole : (seen ++ e ∷ []) ++ es ≡ seen ++ e ∷ es = append_assoc seen (e ∷ []) es in
    subst (λ xs. HaveSameMembers a.events xs) whole (by_standing (standing_among kept e) refl (λ k m b r. kept_members es k (seen ++ e ∷ []) m b r))
  where
    by_standing : (st : Standing) → standing_among kept e ≡ st → ((k : List Content) → HaveSameMembers k (seen ++ e ∷ []) → (b : Addition) → stepwise k es ≡ Ok b → HaveSameMembers b.events ((seen ++ e ∷ []) ++ es))
        → HaveSameMembers a.events ((seen ++ e ∷ []) ++ es)
    by_standing Fresh stands rest =
        let (b, is, events) = kept_events after_fresh (λ b. refl) (stepwise (kept ++ e ∷ []) es) a (sym (stepwise-fresh kept e es stands) ∙ h) in
        subst (λ xs. HaveSameMembers xs ((seen ++ e ∷ []) ++ es)) events (rest (kept ++ e ∷ []) (same_pushed kept seen e same) b is)
    by_standing Known stands rest =
        let (b, is, events) = kept_events after_known (λ b. refl) (stepwise kept es) a (sym (stepwise-known kept e es stands) ∙ h) in
        subst (λ xs. HaveSameMembers xs ((seen ++ e ∷ []) ++ es)) events (rest kept (same_with_known kept seen e same (known_is_there kept e stands)) b is)
    by_standing Taken stands rest = absurd (refused 1 a (stepwise kept (e ∷ es)) (stepwise-taken kept e es stands) h)

pub adding_members : (before given : List Content) (a : Addition) → adding before given ≡ Ok a → HaveSameMembers a.events (before ++ given)
adding_members before given a h = kept_members given before before (λ x. (λ h. h, λ h. h)) a (sym (adding-stepwise before given) ∙ h)

taken_tests : (a b : Bool) → (if not a then Fresh else if b then Known else Taken) ≡ Taken → (a ≡ true) × (b ≡ false)
taken_tests true true h = cc
taken_tests true false h = (refl, refl)
taken_tests false b h = cc

fresh_tests : (a b : Bool) → (if not a then Fresh else if b then Known else Taken) ≡ Fresh → a ≡ false
fresh_tests true true h = cc
fresh_tests true false h = cc
fresh_tests false b h = refl

id_used : (events : List Content) (e : Content) → list_any (λ f. same_id f.id e.id) events ≡ true → Any (λ f. HaveOneId f.id e.id) events
id_used events e h = let w = list_any_witness (λ f. same_id f.id e.id) events h in
    (w.1.0, w.0, w.1.1, w.1.2, (same_id_decides w.0.id e.id).0 w.2)

-- how an event stands, in words
pub standing_says : (events : List Content) (e : Content) (standing : Standing) → standing_among events e ≡ standing → StandingSays events e standing
unfolding standing_among
standing_says events e Fresh h = λ (k, f, lt, at, one). true≢false
    (sym (list_any_member (λ f. same_id f.id e.id) events f (k, lt, at) ((same_id_decides f.id e.id).1 one)) ∙ fresh_tests _ _ h)
standing_says events e Known h = (id_used events e (known_tests _ _ h).0, known_is_there events e h)
standing_says events e Taken h = (
  id_used events e (taken_tests _ _ h).0,
  λ there. true≢false (sym (list_any_member (λ f. same_content f e) events e there ((content_decides e e).1 refl)) ∙ (taken_tests _ _ h).1),
)
