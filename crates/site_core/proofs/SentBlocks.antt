-- By what an event is blocked that sends items to other sites: what it newly sends, and the least of that which is
-- quarantined.
use Rattle.std.proofs.Common.{◌≡◌, ◌≢◌, ◌⊎◌, ◌↔◌, ◌∙◌, ◌+◌, ◌<◌, ◌≤◌, inl, inr, ℕ, List, [], ◌∷◌, ◌++◌, Option, Some, None, true, get_or, slice_get, take, length, refl, sym, ap, subst}
use Rattle.std.specs.Prelude.{IsTrue}
use Rattle.std.specs.List.{Contains}
use Rattle.std.specs.List.Sorted.{IsStrictlySortedBy}
use Rattle.std.specs.declared.cmp.Ordering.TheVariants.{Greater}
use Rattle.std.proofs.lemmas.List.{take_all}
use Rattle.event_json.specs.Events.{Content}
use Rattle.event_json.specs.declared.bodies.Body.{Body}
use Rattle.event_json.specs.declared.bodies.Body.TheVariants.{Note, Ship, Make, Pack}
use Rattle.frame_core.specs.Identifiers.{recall_cmp}
use Rattle.frame_core.specs.Numbers.{Recall}
use Rattle.frame_core.specs.Orders.{recall_total}
use Rattle.trace_core.specs.Adding.{standing_among, with_fresh}
use Rattle.trace_core.specs.Numbers.{numbered}
use Rattle.trace_core.specs.PairTests.{lists}
use Rattle.trace_core.specs.Pairs.{IsSentTo}
use Rattle.trace_core.specs.Places.{names_item}
use Rattle.trace_core.specs.Sendings.{AreNewlySent, IsNewlySent}
use Rattle.trace_core.specs.Sites.{SiteEvents}
use Rattle.trace_core.specs.Spreads.{IsNewTarget, IsNewlyMade, items_of}
use Rattle.trace_core.specs.declared.adding.Standing.{Standing}
use Rattle.trace_core.specs.declared.adding.Standing.TheVariants.{Fresh}
use Rattle.trace_core.specs.declared.pairs.Pair.{Pair}
use Rattle.trace_core.specs.declared.sendings.Sending.{Sending}
use Rattle.trace_core.proofs.Carrying.{sent_named}
use Rattle.trace_core.proofs.Members.{contains_here, contains_none, list_any_member}
use Rattle.trace_core.proofs.NewTargets.{IsNoMake, made_targets, sent_targets}
use Rattle.trace_core.proofs.NumberLists.{listed_number, number_stands, numbered_named}
use Rattle.trace_core.proofs.PairTestsDecide.{lists_decides}
use Rattle.trace_core.proofs.SetMembers.{contains_more}
use Rattle.site_core.specs.Blocks.{IsMaking, IsFirstBlockOf, Passes}
use Rattle.site_core.specs.Capturing.{IsBlockedBy, IsFree}
use Rattle.site_core.specs.Quarantines.{Quarantine, held, item_cmp}
use Rattle.site_core.specs.SentBlocks.{IsAway, IsHeldAway, IsLeastHolder, IsLeastSent, IsLesser, IsSentAway}
use Rattle.site_core.proofs.Ascending.{head_least}
use Rattle.site_core.proofs.ItemOrder.{item_total, item_exact}
use Rattle.site_core.proofs.Questions.{not_above_itself, not_above, up_to}

-- a transformation, by its parts
as_make : (b : Body) → IsMaking b → (id : Option (List ℕ)) × (ins : List (List ℕ)) × (outs : List (List ℕ)) × (b ≡ Make id ins outs)
as_make (Note items) making = absurd making
as_make (Ship items sites outside) making = absurd making
as_make (Make id ins outs) making = (id, ins, outs, refl)
as_make (Pack action parent children) making = absurd making

no_make : (b : Body) → (IsMaking b → ⊥) → IsNoMake b
no_make b others id ins outs is = others (subst IsMaking (sym is) tt)

module _ (s : SiteEvents) (e : Content) where
  -- the new pairs of a transformation are those that it makes
  pub made_listed : (i : List ℕ) (pairs : List Pair) → IsMaking e.body → ((p : Pair) → Contains pairs p ↔ IsNewlyMade s e i p) → (p : Pair) → Contains pairs p ↔ IsNewTarget s e i p
  made_listed i pairs making exact p =
      let (id, ins, outs, is) = as_make e.body making in
      let new = made_targets s e i p id ins outs is in
      (λ there. new.1 ((exact p).0 there), λ target. (exact p).1 (new.0 target))

  -- those of another event are what it newly sends
  module _ (q : Quarantine) (others : IsMaking e.body → ⊥) where
    blocked_away : (i : List ℕ) (r : Recall) → IsBlockedBy s q e i r → IsSentAway s q e i
    blocked_away i r b = let (other, same, newly) = (sent_targets s e i b.target (no_make e.body others)).0 b.new in ((r, b.source), b.target.site, other, newly)

    away_blocked : (i : List ℕ) (r : Recall) → IsTrue (held q r i) → IsSentAway s q e i → IsBlockedBy s q e i r
    away_blocked i r source (holds, t, other, newly) = record {
      source = source;
      target = record { site = t; item = i };
      new = (sent_targets s e i (record { site = t; item = i }) (no_make e.body others)).1 (other, refl, newly);
      leaves = λ here. other here.0;
    }

    pub nothing_away : IsLeastSent s q e None → IsFree s q e
    nothing_away none i r b = none i (blocked_away i r b)

    pub first_away : (i : List ℕ) (block : Option (Recall × List ℕ)) → IsLeastSent s q e (Some i) → IsLeastHolder q i block → IsFirstBlockOf s q e block
    first_away i None (away, least) none = absurd (none away.0)
    first_away i (Some (r, j)) (away, least) (same, holds, first) = subst (λ k. IsFirstBlockOf s q e (Some (r, k))) (sym same) (record {
      blocked = away_blocked i r holds away;
      least_item = λ k other b. least k (blocked_away k other b);
      least_recall = λ other b. first other b.source;
    })

-- the least of the items of such sendings, or none
abbrev pub IsLeastAway : SiteEvents → Quarantine → List Sending → Option (List ℕ) → Type 0
IsLeastAway s q sendings None = (x : Sending) (i : List ℕ) → Contains sendings x → IsAway s q x i → ⊥
IsLeastAway s q sendings (Some i) =
    ((x : Sending) × Contains sendings x × IsAway s q x i)
    × ((x : Sending) (j : List ℕ) → Contains sendings x → IsAway s q x j → item_cmp i j ≢ Greater)

module _ (s : SiteEvents) (q : Quarantine) where
  pub none_yet : IsLeastAway s q [] None
  none_yet x i there away = contains_none x there

  -- one name for a number
  one_name : (x : Sending) (i j : List ℕ) → IsAway s q x i → IsAway s q x j → i ≡ j
  one_name x i j one two = let same : Some i ≡ Some j = sym one.named ∙ two.named in cc

  no_less : (i j k : List ℕ) → item_cmp i j ≢ Greater → item_cmp j k ≢ Greater → item_cmp i k ≢ Greater
  no_less i j k = up_to item_cmp item_total item_exact i j k

  module _ (sendings : List Sending) (n : ℕ) (x : Sending) (below : n < length sendings) (is : x ≡ get_or sendings n x) where
    either : (y : Sending) → Contains (take (n + 1) sendings) y → Contains (take n sendings) y ⊎ (x ≡ y)
    either y = (contains_more sendings n x below is y).0

    later : (y : Sending) → Contains (take n sendings) y → Contains (take (n + 1) sendings) y
    later y there = (contains_more sendings n x below is y).1 (inl there)

    here : Contains (take (n + 1) sendings) x
    here = (contains_more sendings n x below is x).1 (inr refl)

    pub passed_over : (o : Option (List ℕ)) → IsHeldAway s q x None → IsLeastAway s q (take n sendings) o → IsLeastAway s q (take (n + 1) sendings) o
    passed_over None none so_far = λ y i there away. elim (either y there) as (λ _. ⊥) [
      | inl before ↦ so_far y i before away
      | inr same ↦ none i (subst (λ z. IsAway s q z i) (sym same) away)
    ]
    passed_over (Some i) none ((y, there, away), least) = (
      (y, later y there, away),
      λ z j among away. elim (either z among) as (λ _. item_cmp i j ≢ Greater) [
        | inl before ↦ least z j before away
        | inr same ↦ absurd (none j (subst (λ w. IsAway s q w j) (sym same) away))
      ],
    )

    pub one_more_away : (o : Option (List ℕ)) (item lesser : List ℕ) → IsHeldAway s q x (Some item) → IsLesser o item lesser → IsLeastAway s q (take n sendings) o → IsLeastAway s q (take (n + 1) sendings) (Some lesser)
    one_more_away None item lesser away is-item so_far = subst (λ i. IsLeastAway s q (take (n + 1) sendings) (Some i)) (sym is-item) (
      (x, here, away),
      λ z j among other. elim (either z among) as (λ _. item_cmp item j ≢ Greater) [
        | inl before ↦ absurd (so_far z j before other)
        | inr same ↦ subst (λ k. item_cmp item k ≢ Greater) (one_name x item j away (subst (λ w. IsAway s q w j) (sym same) other)) (not_above_itself item_cmp item_total item_exact item item refl)
      ],
    )
    one_more_away (Some i) item lesser away (one, under, below-item) ((y, there, was), least) = (
      elim one as (λ _. (z : Sending) × Contains (take (n + 1) sendings) z × IsAway s q z lesser) [
        | inl other ↦ (y, later y there, subst (IsAway s q y) (sym other) was)
        | inr same ↦ (x, here, subst (IsAway s q x) (sym same) away)
      ],
      λ z j among other. elim (either z among) as (λ _. item_cmp lesser j ≢ Greater) [
        | inl before ↦ no_less lesser i j under (least z j before other)
        | inr same ↦ subst (λ k. item_cmp lesser k ≢ Greater) (one_name x item j away (subst (λ w. IsAway s q w j) (sym same) other)) below-item
      ],
    )

  pub all_of_them : (sendings : List Sending) (n : ℕ) (o : Option (List ℕ)) → length sendings ≤ n → IsLeastAway s q (take n sendings) o → IsLeastAway s q sendings o
  all_of_them sendings n o past = subst (λ xs. IsLeastAway s q xs o) (take_all n sendings past)

-- the sendings are those that the last event newly made
module _ (s : SiteEvents) (q : Quarantine) (before : List Content) (e : Content) (are : s.events ≡ before ++ e ∷ []) (sendings : List Sending) (exact : AreNewlySent (numbered s.events) before e sendings) where
  abbrev was : SiteEvents
  was = record s { events = before }

  -- the item of such a sending is sent away
  sent_away : (x : Sending) (i : List ℕ) → Contains sendings x → IsAway s q x i → IsSentAway was q e i
  sent_away x i there away =
      let (j, named, newly) = (exact x.item x.site).0 there in
      let same : Some j ≡ Some i = sym named ∙ away.named in
      let is : j ≡ i = cc in
      (away.holds, x.site, away.elsewhere, subst (λ (k : List ℕ). IsNewlySent before e k x.site) is newly)

  away_sent : (i : List ℕ) → IsSentAway was q e i → (x : Sending) × Contains sendings x × IsAway s q x i
  away_sent i (holds, t, other, newly) =
      let (k, f, lt, at, named) = sent_named s.events i t (subst (λ es. IsSentTo es i t) (sym are) newly.0) in
      let listed : lists (numbered s.events) i ≡ true = numbered_named s.events i ∙ list_any_member (names_item i) s.events f (k, lt, at) ((lists_decides (items_of f.body) i).1 named) in
      let (n, number) = listed_number (numbered s.events) i listed in
      let stands = number_stands (numbered s.events) i n number in
      (record { item = n; site = t }, (exact n t).1 (i, stands, newly), record { named = stands; elsewhere = other; holds = holds })

  pub least_away : (o : Option (List ℕ)) → IsLeastAway s q sendings o → IsLeastSent was q e o
  least_away None none = λ i away. let (x, there, is) = away_sent i away in none x i there is
  least_away (Some i) ((x, there, is), least) = (sent_away x i there is, λ j away. let (y, among, other) = away_sent j away in least y j among other)

-- the lesser of two
pub other_lesser : (other item lesser : List ℕ) → lesser ≡ other → item_cmp other item ≢ Greater → IsLesser (Some other) item lesser
other_lesser other item lesser is below = subst (IsLesser (Some other) item) (sym is) (inl refl, not_above_itself item_cmp item_total item_exact other other refl, below)

pub item_lesser : (other item lesser : List ℕ) → lesser ≡ item → item_cmp other item ≡ Greater → IsLesser (Some other) item lesser
item_lesser other item lesser is above = subst (IsLesser (Some other) item) (sym is) (inr refl, not_above item_cmp item_total item_exact item other above, not_above_itself item_cmp item_total item_exact item item refl)

-- the least recall that holds an item is the first of those that do, in order
pub first_holder : (q : Quarantine) (i copy : List ℕ) (r : Recall) (recalls : List Recall) → IsStrictlySortedBy recall_cmp recalls → ((x : Recall) → Contains recalls x ↔ IsTrue (held q x i)) → slice_get recalls 0 ≡ Some r → copy ≡ i
    → IsLeastHolder q i (Some (r, copy))
first_holder q i copy r [] up exact at same = let clash : None ≡ Some r = at in cc
first_holder q i copy r (x ∷ rest) up exact at same =
    let is : x ≡ r = cc in (
      same,
      (exact r).0 (subst (Contains (x ∷ rest)) is (contains_here x rest)),
      λ other holds. subst (λ z. recall_cmp z other ≢ Greater) is (head_least recall_cmp recall_total x rest up other ((exact other).1 holds)),
    )

-- an event was added, which nothing blocked where the least of what it newly sends is none
module _ (s new : SiteEvents) (q : Quarantine) (e : Content) (standing : Standing) (fresh : standing_among s.events e ≡ Fresh) (told : standing ≡ standing_among s.events e)
    (added : new ≡ record s { events = with_fresh s.events e standing }) (others : IsMaking e.body → ⊥) where
  is_last : new.events ≡ s.events ++ e ∷ []
  is_last = ap (λ z. z.events) added ∙ ap (with_fresh s.events e) (told ∙ fresh)

  pub blocked_before : (block : Option (Recall × List ℕ))
      → ((before : List Content) (f : Content) → new.events ≡ before ++ f ∷ [] → (IsMaking f.body → ⊥) → IsFirstBlockOf (record new { events = before }) q f block)
      → IsFirstBlockOf s q e block
  blocked_before block first = subst (λ (z : SiteEvents). IsFirstBlockOf z q e block) (λ i. record { me = ap (λ z. z.me) added i; events = s.events }) (first s.events e is_last others)

  pub passed_free : (block : Option (Recall × List ℕ)) → block ≡ None
      → ((before : List Content) (f : Content) → new.events ≡ before ++ f ∷ [] → (IsMaking f.body → ⊥) → IsFirstBlockOf (record new { events = before }) q f block)
      → Passes s q e standing
  passed_free block none first = subst (Passes s q e) (sym (told ∙ fresh)) (fresh, subst (IsFirstBlockOf s q e) none (blocked_before block first))
