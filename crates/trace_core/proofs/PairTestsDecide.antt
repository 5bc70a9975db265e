-- The tests of pairs decide the relation.
use Rattle.std.proofs.Common.{◌≡◌, ◌==◌, ◌&&◌, ◌≤◌, ◌+◌, ◌↔◌, ℕ, zero, suc, Bool, true, false, List, [], ◌∷◌, ◌++◌, length, Option, Some, None, refl, sym, ap, ◌∙◌, subst, inl, inr, ⊎_elim, arith}
use mathlib.Core.Logic.{◌⊎◌}
use mathlib.Core.Bool.{false≢true}
use Rattle.std.specs.Bool.{Decides}
use Rattle.std.specs.List.{Any, Contains, list_any, flat_map, slice_index_or}
use Rattle.std.proofs.lemmas.Bool.{cases_Bool, cases_lt, cond-true, cond-false}
use Rattle.std.proofs.lemmas.Bool.Decides.{Decides-like, Decides-not, Decides-and, Decides-or, Decides-eqb}
use Rattle.std.proofs.lemmas.List.Elements.{Contains-append_left, Contains-append_right, Contains-append_cases}
use Rattle.std.proofs.lemmas.List.Folds.{Any-from_list_any, list_any_at}
use Rattle.std.proofs.lemmas.Slice.Eq.{bytes_eq-Decides}
use Rattle.event_json.specs.Events.{Content}
use Rattle.event_json.specs.declared.bodies.Action.TheVariants.{Add, Observe, Delete}
use Rattle.event_json.specs.declared.bodies.Body.{Body}
use Rattle.event_json.specs.declared.bodies.Body.TheVariants.{Note, Ship, Make, Pack}
use Rattle.trace_core.specs.declared.pairs.Pair.{Pair}
use Rattle.trace_core.specs.Pairs.{Ships, Packs, TakesIn, GivesOut, make_id, HaveOneId, Carries, IsSentTo, IsMadeOf, IsMade, IsRelated}
use Rattle.trace_core.specs.PairTests.{same_item, lists, shipped_at, put_in, put_into, carried_in, takes_in, gives_out, same_id, is_sent, ships_at, inside_at, is_related}
use Rattle.trace_core.specs.Relations.{ReachedFrom}
use Rattle.trace_core.specs.Sites.{SiteEvents}
use Rattle.trace_core.proofs.Carrying.{reaches_front, same_parent, no_parent, observes, deletes}
use Rattle.trace_core.proofs.ChainLaws.{reached_holds, reached_start}
use Rattle.trace_core.proofs.Members.{contains_none, contains_cases, contains-flat_map}
use Rattle.trace_core.proofs.SetMembers.{contains-from_flat_map}

never : {P : Type 0} → (P → ⊥) → {b : Bool} → (b ≡ true → ⊥) → Decides b P
never refuted fails = (λ h. absurd (fails h), λ p. absurd (refuted p))

pub any_decides : {X : Type 0} (p : X → Bool) (P : X → Type 0) → ((x : X) → Decides (p x) (P x)) → (xs : List X) → Decides (list_any p xs) (Any P xs)
any_decides p P each xs = (
  λ h. let w = Any-from_list_any p xs h in (w.0, w.1, w.2, w.3, (each w.1).0 w.4),
  λ (k, x, lt, at, h). list_any_at p xs k x lt (subst (λ z. p z ≡ true) (sym at) ((each x).1 h)),
)

pub lists_decides : (items : List (List ℕ)) (item : List ℕ) → Decides (lists items item) (Contains items item)
lists_decides items item = Decides-like _
    (λ (k, x, lt, at, same). (k, lt, subst (λ z. slice_index_or items k z ≡ z) same at))
    (λ (k, lt, at). (k, item, lt, at, refl))
    (any_decides (λ i. same_item i item) (λ i. i ≡ item) (λ i. bytes_eq-Decides i item) items)

pub site_decides : (sites : List ℕ) (site : ℕ) → Decides (list_any (λ s. s == site) sites) (Contains sites site)
site_decides sites site = Decides-like _
    (λ (k, x, lt, at, same). (k, lt, subst (λ z. slice_index_or sites k z ≡ z) same at))
    (λ (k, lt, at). (k, site, lt, at, refl))
    (any_decides (λ s. s == site) (λ s. s ≡ site) (λ s. Decides-eqb s site) sites)

pub takes_decides : (item : List ℕ) (b : Body) → Decides (takes_in item b) (TakesIn item b)
takes_decides item (Note items) = never (λ h. h) false≢true
takes_decides item (Ship items sites outside) = never (λ h. h) false≢true
takes_decides item (Make id ins outs) = lists_decides ins item
takes_decides item (Pack action parent children) = never (λ h. h) false≢true

pub gives_decides : (item : List ℕ) (b : Body) → Decides (gives_out item b) (GivesOut item b)
gives_decides item (Note items) = never (λ h. h) false≢true
gives_decides item (Ship items sites outside) = never (λ h. h) false≢true
gives_decides item (Make id ins outs) = lists_decides outs item
gives_decides item (Pack action parent children) = never (λ h. h) false≢true

some_is : (a b : List ℕ) → Some a ≡ Some b → a ≡ b
some_is a b h = cc

pub same_id_decides : (a b : Option (List ℕ)) → Decides (same_id a b) (HaveOneId a b)
same_id_decides (Some a) (Some b) = Decides-like _
    (λ same. (a, refl, ap Some (sym same)))
    (λ (id, is_a, is_b). some_is a id is_a ∙ sym (some_is b id is_b))
    (bytes_eq-Decides a b)
same_id_decides (Some a) None = never (λ (id, is_a, is_b). cc) false≢true
same_id_decides None b = never (λ (id, is_a, is_b). cc) false≢true

-- one event, or two of one id
made_of_one_or_two : (events : List Content) (i j : List ℕ)
    → (Any (λ e. TakesIn i e.body × GivesOut j e.body) events ⊎ Any (λ e. TakesIn i e.body × Any (λ f. HaveOneId (make_id e.body) (make_id f.body) × GivesOut j f.body) events) events)
    → IsMadeOf events i j
made_of_one_or_two events i j either = ⊎_elim
    (λ (k, e, lt, at, (takes, gives)). (k, e, lt, at, (takes, (k, e, lt, at, (inl refl, gives)))))
    (λ (k, e, lt, at, (takes, (l, f, lt', at', (one, gives)))). (k, e, lt, at, (takes, (l, f, lt', at', (inr one, gives)))))
    either

one_or_two_made : (events : List Content) (i j : List ℕ) → IsMadeOf events i j
    → Any (λ e. TakesIn i e.body × GivesOut j e.body) events ⊎ Any (λ e. TakesIn i e.body × Any (λ f. HaveOneId (make_id e.body) (make_id f.body) × GivesOut j f.body) events) events
one_or_two_made events i j (k, e, lt, at, (takes, (l, f, lt', at', (one, gives)))) = ⊎_elim
    (λ same. inl (k, e, lt, at, (takes, subst (λ (x : Content). GivesOut j x.body) (sym same) gives)))
    (λ id. inr (k, e, lt, at, (takes, (l, f, lt', at', (id, gives)))))
    one

pub inside_decides : (events : List Content) (i j : List ℕ) → Decides (inside_at events i j) (IsMadeOf events i j)
unfolding inside_at
inside_decides events i j = Decides-like _ (made_of_one_or_two events i j) (one_or_two_made events i j)
    (Decides-or _ _
    (any_decides _ _ (λ e. Decides-and _ _ (takes_decides i e.body) (gives_decides j e.body)) events)
    (any_decides _ _ (λ e. Decides-and _ _ (takes_decides i e.body)
    (any_decides _ _ (λ f. Decides-and _ _ (same_id_decides (make_id e.body) (make_id f.body)) (gives_decides j f.body)) events)) events))

-- ---- what lies in items, so many times

-- what an event puts into some of the items
pub put_is : (items : List (List ℕ)) (b : Body) (c : List ℕ) → Contains (put_into items b) c ↔ ((p : List ℕ) × Contains items p × Packs p c b)
put_is items (Note noted) c = (λ h. absurd (contains_none c h), λ (p, in', none). absurd none)
put_is items (Ship shipped sites outside) c = (λ h. absurd (contains_none c h), λ (p, in', none). absurd none)
put_is items (Make id ins outs) c = (λ h. absurd (contains_none c h), λ (p, in', none). absurd none)
put_is items (Pack Add None children) c = (λ h. absurd (contains_none c h), λ (p, in', packs). absurd (no_parent p packs.1))
put_is items (Pack Observe parent children) c = (λ h. absurd (contains_none c h), λ (p, in', packs). absurd (observes packs.0))
put_is items (Pack Delete parent children) c = (λ h. absurd (contains_none c h), λ (p, in', packs). absurd (deletes packs.0))
put_is items (Pack Add (Some parent) children) c = (
  λ h. ⊎_elim
      (λ there. (parent, (lists_decides items parent).0 there, (refl, refl, subst (λ xs. Contains xs c) (cond-true _ children [] there) h)))
      (λ missing. absurd (contains_none c (subst (λ xs. Contains xs c) (cond-false _ children [] missing) h)))
      (cases_Bool (lists items parent)),
  λ (p, in', (add, is, put)).
      let there : lists items parent ≡ true = (lists_decides items parent).1 (subst (Contains items) (sym (same_parent parent p is)) in') in
      subst (λ xs. Contains xs c) (sym (cond-true _ children [] there)) put,
)

-- it is one of those that it puts into others
put_there : (p c : List ℕ) (b : Body) → Packs p c b → Contains (put_in b) c
put_there p c (Note items) h = absurd h
put_there p c (Ship items sites outside) h = absurd h
put_there p c (Make id ins outs) h = absurd h
put_there p c (Pack Add None children) h = absurd (no_parent p h.1)
put_there p c (Pack Add (Some parent) children) (add, is, put) = put
put_there p c (Pack Observe parent children) h = absurd (observes h.0)
put_there p c (Pack Delete parent children) h = absurd (deletes h.0)

shipped_is : (site : ℕ) (b : Body) (i : List ℕ) → Contains (shipped_at site b) i ↔ Ships i site b
shipped_is site (Note items) i = (λ h. absurd (contains_none i h), λ none. absurd none)
shipped_is site (Make id ins outs) i = (λ h. absurd (contains_none i h), λ none. absurd none)
shipped_is site (Pack action parent children) i = (λ h. absurd (contains_none i h), λ none. absurd none)
shipped_is site (Ship items sites outside) i = (
  λ h. ⊎_elim
      (λ goes. (subst (λ xs. Contains xs i) (cond-true _ items [] goes) h, (site_decides sites site).0 goes))
      (λ missing. absurd (contains_none i (subst (λ xs. Contains xs i) (cond-false _ items [] missing) h)))
      (cases_Bool (list_any (λ s. s == site) sites)),
  λ (listed, goes). subst (λ xs. Contains xs i) (sym (cond-true _ items [] ((site_decides sites site).1 goes))) listed,
)

-- one for each that isn't there
abbrev gap : Bool → ℕ
gap true = 0
gap false = 1

gap_falls : (a b : Bool) → (a ≡ true → b ≡ true) → gap b ≤ gap a
gap_falls true b more = omega (arith, ap gap (more refl))
gap_falls false true more = omega arith
gap_falls false false more = omega arith

gap_stays : (a b : Bool) → gap a ≤ gap b → b ≡ true → a ≡ true
gap_stays true b few there = refl
gap_stays false b few there = absurd (omega (arith, few, ap gap there))

gap_most : (a : Bool) → gap a ≤ 1
gap_most true = omega arith
gap_most false = omega arith

no_gap : (a : Bool) → gap a ≡ 0 → a ≡ true
no_gap true none = refl
no_gap false none = absurd (omega (arith, none))

-- how many members of a list the items lack
abbrev lacks : List (List ℕ) → List (List ℕ) → ℕ
lacks items [] = 0
lacks items (c ∷ cs) = gap (lists items c) + lacks items cs

lacks_most : (items cs : List (List ℕ)) → lacks items cs ≤ length cs
lacks_most items [] = omega arith
lacks_most items (c ∷ cs) = omega (arith, gap_most (lists items c), lacks_most items cs)

lacks_none : (items cs : List (List ℕ)) → lacks items cs ≡ 0 → (c : List ℕ) → Contains cs c → Contains items c
lacks_none items [] none c h = absurd (contains_none c h)
lacks_none items (x ∷ xs) none c h = ⊎_elim
    (λ same. subst (Contains items) same ((lists_decides items x).0 (no_gap (lists items x) (omega (arith, none)))))
    (λ later. lacks_none items xs (omega (arith, none)) c later)
    (contains_cases x c xs h)

module _ (items more : List (List ℕ)) (wider : (c : List ℕ) → Contains items c → Contains more c) where
  lists_wider : (c : List ℕ) → lists items c ≡ true → lists more c ≡ true
  lists_wider c h = (lists_decides more c).1 (wider c ((lists_decides items c).0 h))

  lacks_falls : (cs : List (List ℕ)) → lacks more cs ≤ lacks items cs
  lacks_falls [] = omega arith
  lacks_falls (c ∷ cs) = omega (arith, gap_falls (lists items c) (lists more c) (lists_wider c), lacks_falls cs)

  -- where it lacks as many, what is new is none of the list
  lacks_as_many : (cs : List (List ℕ)) → lacks items cs ≤ lacks more cs → (c : List ℕ) → Contains cs c → Contains more c → Contains items c
  lacks_as_many [] few c h there = absurd (contains_none c h)
  lacks_as_many (x ∷ xs) few c h there = ⊎_elim
      (λ same. (lists_decides items c).0 (gap_stays (lists items c) (lists more c)
      (subst (λ y. gap (lists items y) ≤ gap (lists more y)) same (omega (arith, few, lacks_falls xs)))
      ((lists_decides more c).1 there)))
      (λ later. lacks_as_many xs (omega (arith, few, gap_falls (lists items x) (lists more x) (lists_wider x))) c later there)
      (contains_cases x c xs h)

module _ (events : List Content) where
  -- all that is put into anything
  abbrev put : List (List ℕ)
  put = flat_map (λ e. put_in e.body) events

  abbrev laid : List (List ℕ) → List (List ℕ)
  laid items = flat_map (λ e. put_into items e.body) events

  abbrev IsClosed : List (List ℕ) → Type 0
  IsClosed items = (p c : List ℕ) → Contains items p → Carries events p c → Contains items c

  is_put : (p c : List ℕ) → Carries events p c → Contains put c
  is_put p c (k, e, lt, at, packs) = contains-flat_map (λ e. put_in e.body) events e c (k, lt, at) (put_there p c e.body packs)

  laid_in : (items : List (List ℕ)) (p c : List ℕ) → Contains items p → Carries events p c → Contains (items ++ laid items) c
  laid_in items p c in' (k, e, lt, at, packs) =
      Contains-append_right items (laid items) c
      (contains-flat_map (λ e. put_into items e.body) events e c (k, lt, at) ((put_is items e.body c).1 (p, in', packs)))

  laid_from : (items : List (List ℕ)) (c : List ℕ) → Contains (items ++ laid items) c → Contains items c ⊎ ((p : List ℕ) × Contains items p × Carries events p c)
  laid_from items c h = ⊎_elim
      (λ before. inl before)
      (λ new.
      let (e, (k, lt, at), in') = contains-from_flat_map (λ e. put_into items e.body) events c new in
      let (p, there, packs) = (put_is items e.body c).0 in' in
      inr (p, there, (k, e, lt, at, packs)))
      (Contains-append_cases items (laid items) c h)

  laid_closed : (items : List (List ℕ)) → IsClosed items → IsClosed (items ++ laid items)
  laid_closed items closed p c in' carries =
      let old : Contains items p = ⊎_elim (λ before. before) (λ (q, there, carried). closed q p there carried) (laid_from items p in') in
      Contains-append_left items (laid items) c (closed p c old carries)

  stays_closed : (n : ℕ) (items : List (List ℕ)) → IsClosed items → IsClosed (carried_in events n items)
  stays_closed zero items closed = closed
  stays_closed (suc n) items closed = stays_closed n (items ++ laid items) (laid_closed items closed)

  -- after as many times as it lacks members that are put into others, it is closed
  closed_after : (n : ℕ) (items : List (List ℕ)) → lacks items put ≤ n → IsClosed (carried_in events n items)
  closed_after zero items few = λ p c in' carries. lacks_none items put (omega (arith, few)) c (is_put p c carries)
  closed_after (suc n) items few =
      let wider : (c : List ℕ) → Contains items c → Contains (items ++ laid items) c = Contains-append_left items (laid items) in
      ⊎_elim
      (λ fewer. closed_after n (items ++ laid items) (omega (arith, fewer, few)))
      (λ as_many. stays_closed n (items ++ laid items) (laid_closed items
      (λ p c in' carries. lacks_as_many items (items ++ laid items) wider put as_many c (is_put p c carries) (laid_in items p c in' carries))))
      (cases_lt (lacks (items ++ laid items) put) (lacks items put))

  stays_carried : (n : ℕ) (items : List (List ℕ)) (c : List ℕ) → Contains items c → Contains (carried_in events n items) c
  stays_carried zero items c there = there
  stays_carried (suc n) items c there = stays_carried n (items ++ laid items) c (Contains-append_left items (laid items) c there)

  carried_from : (n : ℕ) (items : List (List ℕ)) (c : List ℕ) → Contains (carried_in events n items) c → ReachedFrom (Carries events) items c
  carried_from zero items c there = reached_start (Carries events) items c there
  carried_from (suc n) items c there =
      let (x, at, chain) = carried_from n (items ++ laid items) c there in
      ⊎_elim
      (λ before. (x, before, chain))
      (λ (p, in', carries). (p, in', reaches_front (Carries events) p x c carries chain))
      (laid_from items x at)

  -- as many times as there are members that are put into others is enough
  pub carried_decides : (items : List (List ℕ)) (c : List ℕ) → Decides (lists (carried_in events (length put) items) c) (ReachedFrom (Carries events) items c)
  carried_decides items c = Decides-like _
      (λ there. carried_from (length put) items c there)
      (λ (x, at, chain). reached_holds (Carries events) (Contains (carried_in events (length put) items))
      (closed_after (length put) items (lacks_most items put)) x c chain (stays_carried (length put) items x at))
      (lists_decides (carried_in events (length put) items) c)

pub sent_is_decided : (events : List Content) (i : List ℕ) (site : ℕ) → Decides (is_sent events i site) (IsSentTo events i site)
unfolding is_sent
sent_is_decided events i site = Decides-like _
    (λ (carrier, there, carried).
    let (e, (k, lt, at), shipped) = contains-from_flat_map (λ e. shipped_at site e.body) events carrier there in
    (carrier, (k, e, lt, at, (shipped_is site e.body carrier).0 shipped), carried))
    (λ (carrier, (k, e, lt, at, ships), carried).
    (carrier, contains-flat_map (λ e. shipped_at site e.body) events e carrier (k, lt, at) ((shipped_is site e.body carrier).1 ships), carried))
    (carried_decides events (flat_map (λ e. shipped_at site e.body) events) i)

pub ships_at_decides : (me : ℕ) (events : List Content) (i : List ℕ) (site : ℕ) → Decides (ships_at me events i site) ((site ≡ me → ⊥) × IsSentTo events i site)
unfolding ships_at
ships_at_decides me events i site = Decides-and _ _ (Decides-not _ (Decides-eqb site me)) (sent_is_decided events i site)

pub made_decides : (s : SiteEvents) (i : List ℕ) (q : Pair) → Decides (q.site == s.me && inside_at s.events i q.item) (IsMade s i q)
made_decides s i q = Decides-and _ _ (Decides-eqb q.site s.me) (inside_decides s.events i q.item)

pub related_decides : (s : SiteEvents) (i : List ℕ) (q : Pair) → Decides (is_related s i q) (IsRelated s i q)
unfolding is_related
related_decides s i q = Decides-or _ _
    (Decides-like _ (λ ((other, any), same). (other, sym same, any)) (λ (other, same, any). ((other, any), sym same))
    (Decides-and _ _ (ships_at_decides s.me s.events i q.site) (bytes_eq-Decides i q.item)))
    (made_decides s i q)
