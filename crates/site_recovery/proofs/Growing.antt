-- A capture keeps the records consistent.
use Rattle.std.proofs.Common.{◌≡◌, inl, inr, ℕ, sym, subst}
use Rattle.frame_core.specs.declared.frames.Frame.{Frame}
use Rattle.site_recovery.specs.Fit.{Fit, IsPassedOn, FrameFits}
use Rattle.site_recovery.specs.Looks.{World, Held}
use Rattle.site_recovery.proofs.Chains.{reached_more}
use Rattle.site_recovery.proofs.Changes.{Grows}
use Rattle.site_recovery.proofs.Parents.{climbs_more}

module _ (V W : World) (s : ℕ) (f : Fit V) (c : Grows V W s) where
  -- the records before, with the events after
  abbrev middle : World
  middle t = record (V t) { captured = (W t).captured }

  is_middle : W ≡ middle
  is_middle = λ i t. record { sites = c.sites t i; captured = (W t).captured; quarantine = c.quarantine t i; engagement = c.engagement t i }

  fit_middle : Fit middle
  fit_middle = record {
    closed = λ t r i j h made. elim (c.makes_origin t i j made) as (λ _. Held V t r j) [
      | inl old ↦ f.closed t r i j h old
      | inr new ↦ subst (λ z. Held V z r j) (sym new.0) (new.1 r (subst (λ z. Held V z r i) new.0 h))
    ];
    told = λ u. record {
      told = λ t r i h ships. elim (c.ships_origin t i u ships) as (λ _. IsPassedOn V t u r i) [
        | inl old ↦ (f.told u).told t r i h old
        | inr new ↦ absurd (new.1 r (subst (λ z. Held V z r i) new.0 h))
      ];
      taken = (f.told u).taken;
    };
    justified = λ t. let was = f.justified t in record {
      reached = λ r i h. let k = was.reached r i h in (k.0, k.1, reached_more V middle c.makes_kept c.ships_kept r.site k.0.root t i k.2);
      rooted = was.rooted;
      rows = λ n x e. let just = was.rows n x e in (just.0, c.ships_kept t x.item x.dest just.1);
    };
    waiting = f.waiting;
    parents_stand = f.parents_stand;
    parents_lead_home = λ t r m e. let way = f.parents_lead_home t r m e in (way.0, (way.1.0, climbs_more V middle r (λ _ _ h. h) way.1.0 t way.1.1));
    ends_are_quiet = f.ends_are_quiet;
    numbers_are_below = λ t. let was = f.numbers_are_below t in record { rows = was.rows; seen = was.seen; own = was.own; held = was.held };
  }

  pub fit_grows : Fit W
  fit_grows = subst Fit (sym is_middle) fit_middle

  pub frame_grows : (x : Frame) → FrameFits V x → FrameFits W x
  frame_grows x h = subst (λ w. FrameFits w x) (sym is_middle) h
