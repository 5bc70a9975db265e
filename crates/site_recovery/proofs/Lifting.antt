-- The ways in which one record changes, as changes of the records of all sites.
use Rattle.std.proofs.Common.{◌≡◌, ◌⊎◌, inl, inr, ℕ, ◌<◌, ◌≤◌, List, [], ◌∷◌, Some, refl, sym, ap, ◌∙◌, subst, arith}
use Rattle.std.specs.Prelude.{IsTrue, slice_get}
use Rattle.std.specs.FinMap.{get}
use Rattle.frame_core.specs.Numbers.{Recall, Message}
use Rattle.frame_core.specs.declared.rows.Row.{Row}
use Rattle.scholten_core.specs.declared.own_recalls.Own.{Own}
use Rattle.scholten_core.specs.Changes.{next_own}
use Rattle.scholten_core.specs.Effects as effects
use Rattle.trace_core.specs.Pairs.{IsRelated}
use Rattle.trace_core.specs.Spreads.{Inside}
use Rattle.site_core.specs.Ways as ways
use Rattle.site_recovery.specs.Fit.{IsLive, IsEngaged, NoRows}
use Rattle.site_recovery.specs.Looks.{World, Makes, Ships, Held, row, parent, own, next_recall}
use Rattle.site_recovery.proofs.Changes.{Grows, IsNewRow, Spreads, Takes, Clears, IsOver, Opens}
use Rattle.site_recovery.proofs.OneSite.{SameElsewhere, one_place, kept, kept_or, origin, same, related}

-- facts side by side
beside : {A B C D : Type 0} → A ⊎ (B × (C × D)) → A ⊎ (B × C × D)
beside h = elim h [ inl a ↦ inl a | inr b ↦ inr (b.0, b.1.0, b.1.1) ]

-- an empty list has nothing at any place
none_there : {X : Type 0} (xs : List X) (place : ℕ) (x : X) → xs ≡ [] → slice_get xs place ≡ Some x → ⊥
none_there [] place x empty at = cc
none_there (y ∷ ys) place x empty at = cc

module _ (V W : World) (s : ℕ) (elsewhere : SameElsewhere V W s) where
  -- a capture
  makes_still : ways.Grows (V s) (W s) → (i j : List ℕ) → Makes V s i j → Makes W s i j
  makes_still g i j made = subst (λ z. IsRelated (W s).captured i (record { site = z; item = j })) (sym g.me) (g.related_kept i (record { site = (V s).captured.me; item = j }) made)

  ships_still : ways.Grows (V s) (W s) → (i : List ℕ) (u : ℕ) → Ships V s i u → Ships W s i u
  ships_still g i u ships = elim (g.related_kept i (record { site = u; item = i }) (inl ships)) as (λ _. Ships W s i u) [
    | inl shipped ↦ shipped
    | inr made ↦ absurd (ships.0 (made.0 ∙ g.me))
  ]

  ships_at : ways.Grows (V s) (W s) → (i : List ℕ) (u : ℕ) → Ships W s i u → Ships V s i u ⊎ ((r : Recall) → Held V s r i → ⊥)
  ships_at g i u ships = elim (g.related_origin i (record { site = u; item = i }) (inl ships)) as (λ _. Ships V s i u ⊎ ((r : Recall) → Held V s r i → ⊥)) [
    | inl old ↦ elim old as (λ _. Ships V s i u ⊎ ((r : Recall) → Held V s r i → ⊥)) [
      | inl shipped ↦ inl shipped
      | inr made ↦ absurd (ships.0 (made.0 ∙ sym g.me))
    ]
    | inr new ↦ inr (λ r h. ships.0 ((new r h).0 ∙ sym g.me))
  ]

  makes_at : ways.Grows (V s) (W s) → (i j : List ℕ) → Makes W s i j → Makes V s i j ⊎ ((r : Recall) → Held V s r i → Held V s r j)
  makes_at g i j made =
      elim (g.related_origin i (record { site = (V s).captured.me; item = j }) (subst (λ z. IsRelated (W s).captured i (record { site = z; item = j })) g.me made)) as (λ _. Makes V s i j ⊎ ((r : Recall) → Held V s r i → Held V s r j)) [
        | inl old ↦ inl old
        | inr new ↦ inr (λ r h. (new r h).1)
      ]

  pub grows_everywhere : ways.Grows (V s) (W s) → Grows V W s
  grows_everywhere g = record {
    sites = same V W s elsewhere (λ x. x.sites) g.sites;
    quarantine = same V W s elsewhere (λ x. x.quarantine) g.quarantine;
    engagement = same V W s elsewhere (λ x. x.engagement) g.engagement;
    makes_kept = λ t i j. kept V W s elsewhere (λ x. Inside x.captured i j) (makes_still g i j) t;
    ships_kept = λ t i u. kept V W s elsewhere (λ x. ways.ShipsTo x i u) (ships_still g i u) t;
    makes_origin = λ t i j. origin V W s elsewhere (λ x. Inside x.captured i j) ((r : Recall) → Held V s r i → Held V s r j) (makes_at g i j) t;
    ships_origin = λ t i u. origin V W s elsewhere (λ x. ways.ShipsTo x i u) ((r : Recall) → Held V s r i → ⊥) (ships_at g i u) t;
  }

  -- what a start and a message that is taken share
  new_row : (r : Recall) (n : ℕ) (x : Row) → ways.IsNewMessage (V s) (W s) r n x → (W s).captured ≡ (V s).captured → IsNewRow V W s r n x
  new_row r n x new here = record {
    above = new.low;
    below = new.high;
    recall = new.recall;
    held = new.holds;
    shipped = subst (λ c. ways.ShipsTo (record (V s) { captured = c }) x.item x.dest) (sym here) new.shipped;
  }

  pub spreads_everywhere : (r : Recall) (item : List ℕ) → ways.Quarantines (V s) (W s) r item → Spreads V W s r item
  spreads_everywhere r item q = record {
    captured = same V W s elsewhere (λ x. x.captured) q.captured;
    held_kept = λ t p i. kept V W s elsewhere (λ x. ways.Holds x p i) (q.held_kept p i) t;
    held_origin = λ t p i h. beside (origin V W s elsewhere (λ x. ways.Holds x p i) ((p ≡ r) × ways.Spreads (V s) item i) (q.held_origin p i) t h);
    held_spread = q.held_spread;
    row_kept = λ t n x. related V W s elsewhere
        (λ a b. n < a.engagement.next_message → get a.engagement.outbox n ≡ Some x → get b.engagement.outbox n ≡ Some x) (λ a low h. h) (q.row_kept n x) t;
    row_origin = λ t n x. origin V W s elsewhere (λ a. get a.engagement.outbox n ≡ Some x) (IsNewRow V W s r n x)
        (λ h. elim (q.row_origin n x h) as (λ _. (row V s n ≡ Some x) ⊎ IsNewRow V W s r n x) [ inl old ↦ inl old | inr new ↦ inr (new_row r n x new q.captured) ]) t;
    row_told = q.row_told;
    next_up = related V W s elsewhere (λ a b. a.engagement.next_message ≤ b.engagement.next_message) (λ a. omega arith) q.next_message;
  }

  module _ (me : (V s).engagement.me ≡ s) where
    -- the site's live recalls, by its own record and by a look
    live_here : (r : Recall) → effects.IsLive (V s).engagement r → (s ≡ r.site) × IsLive V r
    live_here r live = let here : s ≡ r.site = sym me ∙ live.mine in (here, (live.own, subst (λ z. own V z r.number ≡ Some live.own) here live.known, live.unended))

    live_there : (r : Recall) → s ≡ r.site → IsLive V r → effects.IsLive (V s).engagement r
    live_there r here live = record { mine = me ∙ here; own = live.0; known = subst (λ z. own V z r.number ≡ Some live.0) (sym here) live.1; unended = live.2 }

    -- a message that is taken
    taken_engages : (m : Message) (r : Recall) (item : List ℕ) → ways.TakesMessage (V s) (W s) m r item → (n : ℕ) (x : Row) → row W s n ≡ Some x → x.recall ≡ r → IsEngaged W s r ⊎ ((s ≡ r.site) × IsLive V r)
    taken_engages m r item w n x stands of = elim (w.takes.engages (record { number = n; row = x; stands = stands; of_recall = of })) as (λ _. IsEngaged W s r ⊎ ((s ≡ r.site) × IsLive V r)) [
      | inl up ↦ inl up
      | inr live ↦ inr (live_here r live)
    ]

    taken_parent : (m : Message) (r : Recall) (item : List ℕ) → ways.TakesMessage (V s) (W s) m r item → (q : Recall) (p : Message) → parent W s q ≡ Some p
        → (parent V s q ≡ Some p) ⊎ ((q ≡ r) × (p ≡ m) × ((s ≡ r.site) → IsLive V r → ⊥))
    taken_parent m r item w q p e = elim (w.takes.parent_origin q p e) as (λ _. (parent V s q ≡ Some p) ⊎ ((q ≡ r) × (p ≡ m) × ((s ≡ r.site) → IsLive V r → ⊥))) [
      | inl old ↦ inl old
      | inr new ↦ inr (new.0, new.1, λ here live. new.2 (live_there r here live))
    ]

    takes_at : (m : Message) (r : Recall) (item : List ℕ) → ways.TakesMessage (V s) (W s) m r item → (t : ℕ) (q : Recall) (p : Message) → parent W t q ≡ Some p
        → (parent V t q ≡ Some p) ⊎ ((t ≡ s) × (q ≡ r) × (p ≡ m) × ((s ≡ r.site) → IsLive V r → ⊥))
    takes_at m r item w t q p e = elim (origin V W s elsewhere (λ a. get a.engagement.parents q ≡ Some p) ((q ≡ r) × (p ≡ m) × ((s ≡ r.site) → IsLive V r → ⊥)) (taken_parent m r item w q p) t e)
        as (λ _. (parent V t q ≡ Some p) ⊎ ((t ≡ s) × (q ≡ r) × (p ≡ m) × ((s ≡ r.site) → IsLive V r → ⊥))) [
          | inl old ↦ inl old
          | inr new ↦ inr (new.0, new.1.0, new.1.1, new.1.2)
        ]

    pub takes_everywhere : (m : Message) (r : Recall) (item : List ℕ) → ways.TakesMessage (V s) (W s) m r item → Takes V W s m r item
    takes_everywhere m r item w =
        let e = w.takes in
        record {
          spreads = spreads_everywhere r item w.quarantines;
          unseen = e.unseen;
          seen_kept = λ t p q. kept V W s elsewhere (λ a. get a.engagement.seen p ≡ Some q) (e.seen_kept p q) t;
          seen_origin = λ t p q h. beside (origin V W s elsewhere (λ a. get a.engagement.seen p ≡ Some q) ((p ≡ m) × (q ≡ r)) (e.seen_origin p q) t h);
          seen_new = e.seen_new;
          parent_kept = λ t q p. kept V W s elsewhere (λ a. get a.engagement.parents q ≡ Some p) (e.parent_kept q p) t;
          parent_origin = takes_at m r item w;
          engages = taken_engages m r item w;
          own = λ t k. same V W s elsewhere (λ a. get a.engagement.own k) (e.own k) t;
          next_recall = same V W s elsewhere (λ a. a.engagement.next_recall) e.next_recall;
        }

    -- a signal
    over_here : (n : ℕ) (x : Row) (k : ℕ) → effects.IsOver (V s).engagement (W s).engagement x.recall k → IsOver W s x s k
    over_here n x k over = (refl, over.recall ∙ ap (λ z. record { site = z; number = k }) me, over.none_left)

    cleared_kept : (n : ℕ) (x : Row) → ways.ClearsRow (V s) (W s) n x → (t k : ℕ) (o : Own) → own V t k ≡ Some o
        → (p : Own) × (own W t k ≡ Some p) × (p.root ≡ o.root) × ((p.ended ≡ o.ended) ⊎ (IsTrue p.ended × IsOver W s x t k))
    cleared_kept n x w t k o e = elim (one_place t s) as (λ _. (p : Own) × (own W t k ≡ Some p) × (p.root ≡ o.root) × ((p.ended ≡ o.ended) ⊎ (IsTrue p.ended × IsOver W s x t k))) [
      | inl here ↦
          let p = w.clears.own_kept k o (subst (λ z. own V z k ≡ Some o) here e) in (
            p.0,
            subst (λ z. own W z k ≡ Some p.0) (sym here) p.1,
            p.2,
            elim p.3 as (λ _. (p.0.ended ≡ o.ended) ⊎ (IsTrue p.0.ended × IsOver W s x t k)) [
              | inl as_was ↦ inl as_was
              | inr over ↦ inr (over.0, subst (λ z. IsOver W s x z k) (sym here) (over_here n x k over.1))
            ],
          )
      | inr away ↦ (o, ap (λ a. get a.engagement.own k) (elsewhere t away) ∙ e, refl, inl refl)
    ]

    cleared_origin : (n : ℕ) (x : Row) → ways.ClearsRow (V s) (W s) n x → (t k : ℕ) (p : Own) → own W t k ≡ Some p
        → (o : Own) × (own V t k ≡ Some o) × (p.root ≡ o.root) × ((p.ended ≡ o.ended) ⊎ (IsTrue p.ended × IsOver W s x t k))
    cleared_origin n x w t k p e = elim (one_place t s) as (λ _. (o : Own) × (own V t k ≡ Some o) × (p.root ≡ o.root) × ((p.ended ≡ o.ended) ⊎ (IsTrue p.ended × IsOver W s x t k))) [
      | inl here ↦
          let o = w.clears.own_origin k p (subst (λ z. own W z k ≡ Some p) here e) in (
            o.0,
            subst (λ z. own V z k ≡ Some o.0) (sym here) o.1,
            o.2,
            elim o.3 as (λ _. (p.ended ≡ o.0.ended) ⊎ (IsTrue p.ended × IsOver W s x t k)) [
              | inl as_was ↦ inl as_was
              | inr over ↦ inr (over.0, subst (λ z. IsOver W s x z k) (sym here) (over_here n x k over.1))
            ],
          )
      | inr away ↦ (p, sym (ap (λ a. get a.engagement.own k) (elsewhere t away)) ∙ e, refl, inl refl)
    ]

    still_stands : (n : ℕ) (x : Row) → ways.ClearsRow (V s) (W s) n x → (k : ℕ) (y : Row) → row V s k ≡ Some y → (row W s k ≡ Some y) ⊎ (k ≡ n)
    still_stands n x w k y e = elim (one_place k n) as (λ _. (row W s k ≡ Some y) ⊎ (k ≡ n)) [
      | inl gone ↦ inr gone
      | inr other ↦ inl (w.clears.row_kept k y other e)
    ]

    pub clears_everywhere : (n : ℕ) (x : Row) → ways.ClearsRow (V s) (W s) n x → Clears V W s n x
    clears_everywhere n x w =
        let e = w.clears in
        record {
          was = e.was;
          captured = same V W s elsewhere (λ a. a.captured) w.captured;
          quarantine = same V W s elsewhere (λ a. a.quarantine) w.quarantine;
          seen = λ t p. same V W s elsewhere (λ a. get a.engagement.seen p) (e.seen p) t;
          next_message = same V W s elsewhere (λ a. a.engagement.next_message) e.next_message;
          next_recall = same V W s elsewhere (λ a. a.engagement.next_recall) e.next_recall;
          row_kept = λ t k y. kept_or V W s elsewhere (λ a. get a.engagement.outbox k ≡ Some y) (k ≡ n) (still_stands n x w k y) t;
          row_origin = λ t k y. related V W s elsewhere (λ a b. get b.engagement.outbox k ≡ Some y → get a.engagement.outbox k ≡ Some y) (λ a h. h) (e.row_origin k y) t;
          parent_kept = λ t q p h. beside (kept_or V W s elsewhere (λ a. get a.engagement.parents q ≡ Some p) ((q ≡ x.recall) × NoRows W s x.recall) (e.parent_kept q p) t h);
          parent_origin = λ t q p. related V W s elsewhere (λ a b. get b.engagement.parents q ≡ Some p → get a.engagement.parents q ≡ Some p) (λ a h. h) (e.parent_origin q p) t;
          own_kept = cleared_kept n x w;
          own_origin = cleared_origin n x w;
        }

    -- a start
    abbrev opened : Recall
    opened = record { site = s; number = next_recall V s }

    opened_is : next_own (V s).engagement ≡ opened
    opened_is = ap (λ z. record { site = z; number = next_recall V s }) me

    begun_now : (item : List ℕ) (w : ways.Opens (V s) (W s) item) → (k : ℕ) (p : Own) → own W s k ≡ Some p → (own V s k ≡ Some p) ⊎ ((k ≡ next_recall V s) × (p ≡ w.begins.own_new.0))
    begun_now item w k p e = elim (w.begins.own_origin k p e) as (λ _. (own V s k ≡ Some p) ⊎ ((k ≡ next_recall V s) × (p ≡ w.begins.own_new.0))) [
      | inl old ↦ inl old
      | inr new ↦ inr (new.0, (let h : Some p ≡ Some w.begins.own_new.0 = sym e ∙ ap (λ z. own W s z) new.0 ∙ w.begins.own_new.1 in cc))
    ]

    -- where it ended at once it has sent nothing
    nothing_sent : (item : List ℕ) (w : ways.Opens (V s) (W s) item) → IsTrue w.begins.own_new.0.ended → NoRows V s opened → NoRows W s opened
    nothing_sent item w ended none n x stands of = elim (w.begins.rows.row_origin n x stands) as (λ _. ⊥) [
      | inl old ↦ none n x old of
      | inr new ↦ none_there w.out new.place (x.dest, x.item) (w.begins.own_new.2.ends_at_once.0 ended) new.message
    ]

    other_own_stays : (item : List ℕ) → ways.Opens (V s) (W s) item → (k : ℕ) (p : Own) → k < next_recall V s → own V s k ≡ Some p → own W s k ≡ Some p
    other_own_stays item w k p low = w.begins.own_kept k p (λ same. omega (arith, same, low))

    pub opens_everywhere : (item : List ℕ) (w : ways.Opens (V s) (W s) item) → Opens V W s item w.begins.own_new.0
    opens_everywhere item w =
        let e = w.begins in
        record {
          spreads = spreads_everywhere opened item (subst (λ z. ways.Quarantines (V s) (W s) z item) opened_is w.quarantines);
          root = e.own_new.2.begun_with;
          seen = λ t p. same V W s elsewhere (λ a. get a.engagement.seen p) (e.seen p) t;
          parent = λ t q. same V W s elsewhere (λ a. get a.engagement.parents q) (e.parent q) t;
          own_kept = λ t k p. related V W s elsewhere (λ a b. k < a.engagement.next_recall → get a.engagement.own k ≡ Some p → get b.engagement.own k ≡ Some p) (λ a low h. h) (other_own_stays item w k p) t;
          own_origin = λ t k p h. beside (origin V W s elsewhere (λ a. get a.engagement.own k ≡ Some p) ((k ≡ next_recall V s) × (p ≡ e.own_new.0)) (begun_now item w k p) t h);
          own_new = e.own_new.1;
          at_once = nothing_sent item w;
          next_up = related V W s elsewhere (λ a b. a.engagement.next_recall ≤ b.engagement.next_recall) (λ a. omega arith) (omega (arith, e.next_recall));
          next_recall = omega (arith, e.next_recall);
        }
