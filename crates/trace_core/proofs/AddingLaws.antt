-- Which documents are refused, at which event, and what is kept of the others.
use Rattle.std.proofs.Common.{◌≡◌, ℕ, zero, suc, ◌+◌, ◌<◌, List, [], ◌∷◌, ◌++◌, length, Result, Ok, Err, refl, sym, ap, ◌∙◌, subst, inl, inr, ⊎_elim, append_assoc, append-nil, arith}
use Rattle.std.specs.List.{Any, Contains}
use Rattle.std.proofs.lemmas.Bool.{cases_order}
use Rattle.event_json.specs.Events.{Content}
use Rattle.trace_core.specs.declared.adding.Standing.{Standing}
use Rattle.trace_core.specs.declared.adding.Standing.TheVariants.{Fresh, Known, Taken}
use Rattle.trace_core.specs.Adding.{standing_among, Addition, adding}
use Rattle.trace_core.specs.Laws.{StandingSays, IsTakenAt, IsFirstTaken, Keeps, FirstTakenIsTold, AddingKeepsFresh}
use Rattle.trace_core.specs.Pairs.{HaveOneId}
use Rattle.trace_core.proofs.AddingSteps.{after_fresh, after_known, then_with, stepwise, stepwise-fresh, stepwise-known, stepwise-taken}
use Rattle.trace_core.proofs.Standings.{HaveSameMembers, standing-same_members, standing_says, known_is_there, same_pushed, same_with_known, adding-stepwise}

-- ---- a place of a document and of what is behind its first event

module _ (seen : List Content) (e : Content) (es : List Content) where
  now_taken : Any (λ f. HaveOneId f.id e.id) seen → (Contains seen e → ⊥) → IsTakenAt seen (e ∷ es) 0
  now_taken used other = record {
    front = [];
    event = e;
    behind = es;
    split = refl;
    counted = refl;
    used = subst (Any (λ f. HaveOneId f.id e.id)) (sym (append-nil seen)) used;
    other = λ h. other (subst (λ xs. Contains xs e) (append-nil seen) h);
  }

  later_taken : (k : ℕ) → IsTakenAt (seen ++ e ∷ []) es k → IsTakenAt seen (e ∷ es) (suc k)
  later_taken k t = record {
    front = e ∷ t.front;
    event = t.event;
    behind = t.behind;
    split = ap (λ xs. e ∷ xs) t.split;
    counted = ap suc t.counted;
    used = subst (Any (λ f. HaveOneId f.id t.event.id)) (append_assoc seen (e ∷ []) t.front) t.used;
    other = λ h. t.other (subst (λ xs. Contains xs t.event) (sym (append_assoc seen (e ∷ []) t.front)) h);
  }

  taken_now : IsTakenAt seen (e ∷ es) 0 → Any (λ f. HaveOneId f.id e.id) seen × (Contains seen e → ⊥)
  taken_now t = by t.front t.event t.behind t.split t.counted t.used t.other
    where
      by : (front : List Content) (event : Content) (behind : List Content) → e ∷ es ≡ front ++ event ∷ behind → length front ≡ 0
          → Any (λ f. HaveOneId f.id event.id) (seen ++ front) → (Contains (seen ++ front) event → ⊥) → Any (λ f. HaveOneId f.id e.id) seen × (Contains seen e → ⊥)
      by [] event behind split counted used other =
          let same : event ≡ e = cc in (
            subst (Any (λ f. HaveOneId f.id e.id)) (append-nil seen) (subst (λ (x : Content). Any (λ f. HaveOneId f.id x.id) (seen ++ [])) same used),
            λ h. other (subst (Contains (seen ++ [])) (sym same) (subst (λ xs. Contains xs e) (sym (append-nil seen)) h)),
          )
      by (x ∷ front) event behind split counted used other = absurd (let no : ⊥ = cc in no)

  taken_later : (k : ℕ) → IsTakenAt seen (e ∷ es) (suc k) → IsTakenAt (seen ++ e ∷ []) es k
  taken_later k t = by t.front t.split t.counted t.used t.other
    where
      by : (front : List Content) → e ∷ es ≡ front ++ t.event ∷ t.behind → length front ≡ suc k
          → Any (λ f. HaveOneId f.id t.event.id) (seen ++ front) → (Contains (seen ++ front) t.event → ⊥) → IsTakenAt (seen ++ e ∷ []) es k
      by [] split counted used other = absurd (let no : ⊥ = cc in no)
      by (x ∷ front) split counted used other =
          let same : x ≡ e = cc in
          let rest : es ≡ front ++ t.event ∷ t.behind = cc in
          let whole : seen ++ x ∷ front ≡ (seen ++ e ∷ []) ++ front = ap (λ y. seen ++ y ∷ front) same ∙ sym (append_assoc seen (e ∷ []) front) in
          record {
            front = front;
            event = t.event;
            behind = t.behind;
            split = rest;
            counted = omega (arith, counted);
            used = subst (Any (λ f. HaveOneId f.id t.event.id)) whole used;
            other = λ h. other (subst (λ xs. Contains xs t.event) (sym whole) h);
          }

nothing_taken : (seen : List Content) (k : ℕ) → IsTakenAt seen [] k → ⊥
nothing_taken seen k t = by t.front t.split
  where
    by : (front : List Content) → [] ≡ front ++ t.event ∷ t.behind → ⊥
    by [] split = cc
    by (x ∷ front) split = cc

-- ---- a document that is kept

kept_not_taken : (es seen more : List Content) → Keeps seen es more → (k : ℕ) → IsTakenAt seen es k → ⊥
kept_not_taken [] seen more keeps k t = nothing_taken seen k t
kept_not_taken (e ∷ es) seen more keeps zero t = let (used, other) = taken_now seen e es t in
    ⊎_elim (λ (rest, fresh, is, keeps). fresh used) (λ (there, is, keeps). other there) keeps
kept_not_taken (e ∷ es) seen more keeps (suc k) t = let later = taken_later seen e es k t in
    ⊎_elim
    (λ (rest, fresh, is, keeps). kept_not_taken es (seen ++ e ∷ []) rest keeps k later)
    (λ (there, is, keeps). kept_not_taken es (seen ++ e ∷ []) more keeps k later)
    keeps

then_ok : (f : Addition → Addition) (r : Result Addition ℕ) (a : Addition) → then_with f r ≡ Ok a → (b : Addition) × (r ≡ Ok b) × (f b ≡ a)
then_ok f (Ok b) a h = let same : f b ≡ a = cc in (b, refl, same)
then_ok f (Err n) a h = absurd (let no : ⊥ = cc in no)

then_err : (f : Addition → Addition) (r : Result Addition ℕ) (n : ℕ) → then_with f r ≡ Err n → (m : ℕ) × (r ≡ Err m) × (n ≡ suc m)
then_err f (Ok b) n h = absurd (let no : ⊥ = cc in no)
then_err f (Err m) n h = let same : n ≡ suc m = cc in (m, refl, same)

ok_not_err : (r : Result Addition ℕ) (a : Addition) (n : ℕ) → r ≡ Ok a → r ≡ Err n → ⊥
ok_not_err r a n h k = cc

-- what the events of a document, after those that were kept of the events seen before it, make of them
record Grows (kept seen es : List Content) (a : Addition) : Type 0 where
  more : List Content
  events : a.events ≡ kept ++ more
  keeps : Keeps seen es more
  fresh : a.fresh ≡ length more
  all : a.fresh + a.known ≡ length es

module _ (kept seen : List Content) (e : Content) (es : List Content) where
  fresh_grows : (b : Addition) → (Any (λ f. HaveOneId f.id e.id) seen → ⊥) → Grows (kept ++ e ∷ []) (seen ++ e ∷ []) es b → Grows kept seen (e ∷ es) (after_fresh b)
  fresh_grows b new g = record {
    more = e ∷ g.more;
    events = g.events ∙ append_assoc kept (e ∷ []) g.more;
    keeps = inl (g.more, new, refl, g.keeps);
    fresh = ap suc g.fresh;
    all = omega (arith, g.all);
  }

  known_grows : (b : Addition) → Contains seen e → Any (λ f. HaveOneId f.id e.id) seen → Grows kept (seen ++ e ∷ []) es b → Grows kept seen (e ∷ es) (after_known b)
  known_grows b there used g = record {
    more = g.more;
    events = g.events;
    keeps = inr (there, used, g.keeps);
    fresh = g.fresh;
    all = omega (arith, g.all);
  }

grows : (es kept seen : List Content) → HaveSameMembers kept seen → (a : Addition) → stepwise kept es ≡ Ok a → Grows kept seen es a
unfolding stepwise
grows [] kept seen same a h =
    let is : record { events = kept; fresh = 0; known = 0 } ≡ a = cc in
    subst (Grows kept seen []) is (record { more = []; events = sym (append-nil kept); keeps = refl; fresh = refl; all = refl })
grows (e ∷ es) kept seen same a h = by (standing_among kept e) refl (λ k m. grows es k (seen ++ e ∷ []) m)
  where
    among : (st : Standing) → standing_among kept e ≡ st → StandingSays seen e st
    among st is = standing_says seen e st (sym (standing-same_members kept seen e same) ∙ is)

    by : (st : Standing) → standing_among kept e ≡ st
        → ((k : List Content) → HaveSameMembers k (seen ++ e ∷ []) → (b : Addition) → stepwise k es ≡ Ok b → Grows k (seen ++ e ∷ []) es b) → Grows kept seen (e ∷ es) a
    by Fresh stands rest =
        let (b, is, after) = then_ok after_fresh (stepwise (kept ++ e ∷ []) es) a (sym (stepwise-fresh kept e es stands) ∙ h) in
        subst (Grows kept seen (e ∷ es)) after (fresh_grows kept seen e es b (among Fresh stands) (rest (kept ++ e ∷ []) (same_pushed kept seen e same) b is))
    by Known stands rest =
        let (b, is, after) = then_ok after_known (stepwise kept es) a (sym (stepwise-known kept e es stands) ∙ h) in
        let (used, there) = among Known stands in
        subst (Grows kept seen (e ∷ es)) after (known_grows kept seen e es b there used (rest kept (same_with_known kept seen e same (known_is_there kept e stands)) b is))
    by Taken stands rest = absurd (ok_not_err (stepwise kept (e ∷ es)) a 1 h (stepwise-taken kept e es stands))

pub adding_keeps_fresh : AddingKeepsFresh
adding_keeps_fresh before given a h =
    let g = grows given before before (λ x. (λ h. h, λ h. h)) a (sym (adding-stepwise before given) ∙ h) in
    (g.more, g.events, g.keeps, g.fresh, g.all)

-- ---- a document that is refused

first_later : (seen : List Content) (e : Content) (es : List Content) (m : ℕ) → (IsTakenAt seen (e ∷ es) 0 → ⊥) → IsFirstTaken (seen ++ e ∷ []) es m → IsFirstTaken seen (e ∷ es) (suc m)
first_later seen e es m passes (place, told, taken, first) = (suc place, omega (arith, told), later_taken seen e es place taken, before)
  where
    before : (earlier : ℕ) → earlier < suc place → IsTakenAt seen (e ∷ es) earlier → ⊥
    before zero lt t = passes t
    before (suc k) lt t = first k (omega (arith, lt)) (taken_later seen e es k t)

refused_first : (es kept seen : List Content) → HaveSameMembers kept seen → (n : ℕ) → stepwise kept es ≡ Err n → IsFirstTaken seen es n
unfolding stepwise
refused_first [] kept seen same n h = absurd (let no : ⊥ = cc in no)
refused_first (e ∷ es) kept seen same n h = by (standing_among kept e) refl (λ k m. refused_first es k (seen ++ e ∷ []) m)
  where
    among : (st : Standing) → standing_among kept e ≡ st → StandingSays seen e st
    among st is = standing_says seen e st (sym (standing-same_members kept seen e same) ∙ is)

    by : (st : Standing) → standing_among kept e ≡ st
        → ((k : List Content) → HaveSameMembers k (seen ++ e ∷ []) → (m : ℕ) → stepwise k es ≡ Err m → IsFirstTaken (seen ++ e ∷ []) es m) → IsFirstTaken seen (e ∷ es) n
    by Fresh stands rest =
        let (m, is, next) = then_err after_fresh (stepwise (kept ++ e ∷ []) es) n (sym (stepwise-fresh kept e es stands) ∙ h) in
        subst (IsFirstTaken seen (e ∷ es)) (sym next)
        (first_later seen e es m (λ t. among Fresh stands (taken_now seen e es t).0) (rest (kept ++ e ∷ []) (same_pushed kept seen e same) m is))
    by Known stands rest =
        let (m, is, next) = then_err after_known (stepwise kept es) n (sym (stepwise-known kept e es stands) ∙ h) in
        subst (IsFirstTaken seen (e ∷ es)) (sym next)
        (first_later seen e es m (λ t. (taken_now seen e es t).1 (among Known stands).1) (rest kept (same_with_known kept seen e same (known_is_there kept e stands)) m is))
    by Taken stands rest =
        let (used, other) = among Taken stands in
        let told : n ≡ 1 = same_err n 1 (stepwise kept (e ∷ es)) h (stepwise-taken kept e es stands) in
        (0, told, now_taken seen e es used other, λ earlier lt t. let no : ⊥ = omega (arith, lt) in no)
      where
        same_err : (n m : ℕ) (r : Result Addition ℕ) → r ≡ Err n → r ≡ Err m → n ≡ m
        same_err n m r h k = cc

-- there is one first place
one_first : (seen es : List Content) (n m : ℕ) → IsFirstTaken seen es n → IsFirstTaken seen es m → n ≡ m
one_first seen es n m (k, told, taken, first) (l, told', taken', first') = ⊎_elim
    (λ same. omega (arith, same, told, told'))
    (λ apart. ⊎_elim (λ before. absurd (first' k before taken)) (λ after. absurd (first l after taken')) apart)
    (cases_order k l)

refused_from : (before given : List Content) (n : ℕ) → adding before given ≡ Err n → IsFirstTaken before given n
refused_from before given n h = refused_first given before before (λ x. (λ h. h, λ h. h)) n (sym (adding-stepwise before given) ∙ h)

refused_to : (before given : List Content) (n : ℕ) → IsFirstTaken before given n → adding before given ≡ Err n
refused_to before given n first = by (adding before given) refl
  where
    by : (r : Result Addition ℕ) → adding before given ≡ r → adding before given ≡ Err n
    by (Ok a) is = let kept = adding_keeps_fresh before given a is in absurd (kept_not_taken given before kept.0 kept.2 first.0 first.2)
    by (Err m) is = is ∙ ap Err (one_first before given m n (refused_from before given m is) first)

pub first_taken_is_told : FirstTakenIsTold
first_taken_is_told before given n = (refused_from before given n, refused_to before given n)
