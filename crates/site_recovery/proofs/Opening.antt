-- A recall that begins keeps the records consistent.
use Rattle.std.proofs.Common.{◌≡◌, inl, inr, ℕ, ◌<◌, ◌≤◌, true, false, List, Some, refl, sym, ◌∙◌, subst, arith, lt_of_lt_of_le, lt_irrefl}
use Rattle.frame_core.specs.Numbers.{Recall, Message}
use Rattle.frame_core.specs.declared.frames.Frame.{Frame}
use Rattle.frame_core.specs.declared.frames.Frame.TheVariants as frames
use Rattle.scholten_core.specs.declared.own_recalls.Own.{Own}
use Rattle.site_recovery.specs.Fit.{Fit, FrameFits, IsInReach, IsAnswered, MayWait, NoRows, Reached, WaitsRightlyAt, ParentsLeadHomeFrom}
use Rattle.site_recovery.specs.Looks.{World, Held, row, next_message, next_recall}
use Rattle.site_recovery.proofs.Chains.{makes_now, ships_now, reached_more, reaches_root, reached_spread, spreads_itself}
use Rattle.site_recovery.proofs.Changes.{Opens}
use Rattle.site_recovery.proofs.Parents.{climbs_more, quiet_ends_follow}
use Rattle.site_recovery.proofs.Spreading.{spreads_closed, spreads_told, spreads_rows, spreads_rows_below}

module _ (V W : World) (s : ℕ) (item : List ℕ) (new_own : Own) (f : Fit V) (c : Opens V W s item new_own) where
  -- the recall that begins
  abbrev r : Recall
  r = record { site = s; number = next_recall V s }

  -- nothing stood under it before
  none_before : NoRows V s r
  none_before n x e same =
      let low : x.recall.number < next_recall V x.recall.site = (f.numbers_are_below x.recall.site).held s x.recall x.item ((f.justified s).rows n x e).0 refl in
      lt_irrefl (next_recall V s) (subst (λ (z : Recall). z.number < next_recall V z.site) same low)

  answered_opens : (t : ℕ) (id : Message) → IsAnswered V t id → IsAnswered W t id
  answered_opens t id a = ((a.0.0, c.seen t id ∙ a.0.1), λ q e. a.1 q (sym (c.parent t q) ∙ e))

  pub frame_opens : (x : Frame) → FrameFits V x → FrameFits W x
  frame_opens (frames.Recall id dest q i) h = elim h as (λ _. FrameFits W (frames.Recall id dest q i)) [
    | inl stands ↦ inl (c.spreads.row_kept id.site id.number _ ((f.numbers_are_below id.site).rows id.number _ stands) stands)
    | inr a ↦ inr (answered_opens dest id a)
  ]
  frame_opens (frames.Signal id by) a = answered_opens by id a

  more : (a : ℕ) (root : List ℕ) (u : ℕ) (j : List ℕ) → Reached V a root u j → Reached W a root u j
  more = reached_more V W (makes_now V W c.spreads.captured) (ships_now V W c.spreads.captured)

  opens_reached : (t : ℕ) (q : Recall) (i : List ℕ) → Held W t q i → IsInReach W q t i
  opens_reached t q i h = elim (c.spreads.held_origin t q i h) as (λ _. IsInReach W q t i) [
    | inl old ↦ let k = (f.justified t).reached q i old in (k.0, c.own_kept q.site q.number k.0 ((f.numbers_are_below q.site).own q.number k.0 k.1) k.1, more q.site k.0.root t i k.2)
    | inr new ↦ subst (λ z. IsInReach W q z i) (sym new.0) (subst (λ z. IsInReach W z s i) (sym new.1) (
      new_own,
      c.own_new,
      subst (λ z. Reached W s z s i) (sym c.root) (more s item s i (reached_spread V s item s item i (reaches_root V s item) new.2)),
    ))
  ]

  opens_waiting : (t : ℕ) → WaitsRightlyAt W t
  opens_waiting t n x e = elim (c.spreads.row_origin t n x e) as (λ _. MayWait W t x.recall) [
    | inl old ↦ elim (f.waiting t n x old) as (λ _. MayWait W t x.recall) [
      | inl p ↦ inl (p.0, c.parent t x.recall ∙ p.1)
      | inr l ↦ inr (l.0, (l.1.0, c.own_kept x.recall.site x.recall.number l.1.0 ((f.numbers_are_below x.recall.site).own x.recall.number l.1.0 l.1.1) l.1.1, l.1.2))
    ]
    | inr new ↦ rw (new.0, new.1.recall) (inr (
      refl,
      (
        new_own,
        c.own_new,
        elim (new_own.ended) as (λ b. new_own.ended ≡ b → b ≡ false) [
          | true ↦ λ b. absurd (c.at_once b none_before n x (subst (λ z. row W z n ≡ Some x) new.0 e) new.1.recall)
          | false ↦ λ b. refl
        ] refl,
      ),
    ))
  ]

  opens_home : (t : ℕ) → ParentsLeadHomeFrom W t
  opens_home t q p e = let way = f.parents_lead_home t q p (sym (c.parent t q) ∙ e) in (way.0, (way.1.0, climbs_more V W q (λ a b h. c.parent a q ∙ h) way.1.0 t way.1.1))

  pub fit_opens : Fit W
  fit_opens =
      let d = c.spreads in
      record {
        closed = spreads_closed V W s r item f d;
        told = λ u. record {
          told = spreads_told V W s r item f d u;
          taken = λ t n x e q at a. elim (d.row_origin t n x e) as (λ _. Held W u x.recall x.item) [
            | inl old ↦ d.held_kept u x.recall x.item ((f.told u).taken t n x old q at (sym (c.seen u _) ∙ a))
            | inr new ↦
                let low : n < next_message V t = (f.numbers_are_below t).seen u (record { site = t; number = n }) q (sym (c.seen u _) ∙ a) refl in
                let high : next_message V t ≤ n = subst (λ z. next_message V z ≤ n) (sym new.0) new.1.above in
                absurd (omega (arith, low, high))
          ];
        };
        justified = λ t. record {
          reached = opens_reached t;
          rooted = λ k o e. elim (c.own_origin t k o e) as (λ _. Held W t (record { site = t; number = k }) o.root) [
            | inl old ↦ d.held_kept t _ o.root ((f.justified t).rooted k o old)
            | inr new ↦ rw (new.0, new.1, new.2) (subst (λ z. Held W s r z) (sym c.root) (d.held_spread item (spreads_itself V s item)))
          ];
          rows = spreads_rows V W s r item f d t;
        };
        waiting = opens_waiting;
        parents_stand = λ t q p e.
            let (saw, x) = f.parents_stand t q p (sym (c.parent t q) ∙ e) in
            (c.seen t p ∙ saw, (x.0, d.row_kept p.site p.number x.0 ((f.numbers_are_below p.site).rows p.number x.0 x.1) x.1, x.2, x.3));
        parents_lead_home = opens_home;
        ends_are_quiet = λ t. quiet_ends_follow W t (opens_waiting t) (opens_home t);
        numbers_are_below = λ t. let was = f.numbers_are_below t in record {
          rows = spreads_rows_below V W s r item f d t;
          seen = λ u p q e at. lt_of_lt_of_le (was.seen u p q (sym (c.seen u p) ∙ e) at) (d.next_up t);
          own = λ k o e. elim (c.own_origin t k o e) as (λ _. k < next_recall W t) [
            | inl old ↦ lt_of_lt_of_le (was.own k o old) (c.next_up t)
            | inr new ↦ rw (new.0, new.1) c.next_recall
          ];
          held = λ u q i h at. elim (d.held_origin u q i h) as (λ _. q.number < next_recall W t) [
            | inl old ↦ lt_of_lt_of_le (was.held u q i old at) (c.next_up t)
            | inr new ↦ subst (λ z. q.number < next_recall W z) at (rw new.1 c.next_recall)
          ];
        };
      }
