-- The records are consistent exactly where each condition holds at each of the sites.
use Rattle.std.proofs.Common.{◌≡◌, ◌↔◌, inl, inr, ℕ, ◌<◌, ◌≤◌, List, [], length, Some, None, is_some, ap, ◌∙◌, subst, arith}
use Rattle.std.proofs.lemmas.List.{get_or_past}
use Rattle.std.proofs.lemmas.List.Elements.{All-contains}
use mathlib.Core.Bool.{false≢true}
use Rattle.event_json.specs.Events.{Content}
use Rattle.event_json.specs.Sites.{ShipsAmong}
use Rattle.frame_core.specs.Numbers.{Recall, Message}
use Rattle.frame_core.specs.declared.rows.Row.{Row}
use Rattle.scholten_core.specs.declared.own_recalls.Own.{Own}
use Rattle.site_core.specs.Records.{Record, fresh}
use Rattle.site_core.proofs.ShipsAmong.{shipped_within}
use Rattle.site_recovery.specs.Fit.{Fit, IsPassedOn}
use Rattle.site_recovery.specs.FittingAt.{Condition, Closed, Told, Justified, Waiting, ParentsStand, ParentsLeadHome, EndsAreQuiet, NumbersAreBelow, FitAt, AreAllSites}
use Rattle.site_recovery.specs.Looks.{World, world_of, Ships, Held, row, seen, parent, own}
use Rattle.site_recovery.proofs.Absent as absent
use Rattle.site_recovery.proofs.Exact.{within_or_past}
use Rattle.site_recovery.proofs.QuarantinedItems.{kept_set}

-- each condition at each site, of any number
pub fit_from_conditions : (W : World) → ((c : Condition) (s : ℕ) → FitAt W c s) → Fit W
fit_from_conditions W h = record {
  closed = h Closed;
  told = h Told;
  justified = h Justified;
  waiting = h Waiting;
  parents_stand = h ParentsStand;
  parents_lead_home = h ParentsLeadHome;
  ends_are_quiet = h EndsAreQuiet;
  numbers_are_below = h NumbersAreBelow;
}

pub conditions_from_fit : (W : World) → Fit W → (c : Condition) (s : ℕ) → FitAt W c s
conditions_from_fit W f Closed = f.closed
conditions_from_fit W f Told = f.told
conditions_from_fit W f Justified = f.justified
conditions_from_fit W f Waiting = f.waiting
conditions_from_fit W f ParentsStand = f.parents_stand
conditions_from_fit W f ParentsLeadHome = f.parents_lead_home
conditions_from_fit W f EndsAreQuiet = f.ends_are_quiet
conditions_from_fit W f NumbersAreBelow = f.numbers_are_below

-- nothing is attributed to a site past the end
module _ (records : List Record) (all : AreAllSites records) where
  abbrev W : World
  W = world_of records

  past_is_fresh : (s : ℕ) → length records ≤ s → W s ≡ fresh [] s
  past_is_fresh s past = get_or_past records s (fresh [] s) past

  no_item : (s : ℕ) → length records ≤ s → (r : Recall) (i : List ℕ) → Held W s r i → ⊥
  no_item s past r i h = false≢true (absent.no_item W s (past_is_fresh s past) r i ∙ h)

  no_row : (s : ℕ) → length records ≤ s → (n : ℕ) (x : Row) → row W s n ≡ Some x → ⊥
  no_row s past n x e = let none : None ≡ Some x = absent.no_row W s (past_is_fresh s past) n ∙ e in cc

  none_seen : (s : ℕ) → length records ≤ s → (m : Message) (r : Recall) → seen W s m ≡ Some r → ⊥
  none_seen s past m r e = let none : None ≡ Some r = absent.none_seen W s (past_is_fresh s past) m ∙ e in cc

  no_parent : (s : ℕ) → length records ≤ s → (r : Recall) (m : Message) → parent W s r ≡ Some m → ⊥
  no_parent s past r m e = let none : None ≡ Some m = absent.no_parent W s (past_is_fresh s past) r ∙ e in cc

  none_begun : (s : ℕ) → length records ≤ s → (k : ℕ) (o : Own) → own W s k ≡ Some o → ⊥
  none_begun s past k o e = let none : None ≡ Some o = absent.none_begun W s (past_is_fresh s past) k ∙ e in cc

  -- a site that a record names is one of them
  within : (s : ℕ) → s < length records → length records ≤ s → ⊥
  within s below past = omega (arith, below, past)

  held_of_one : (s : ℕ) (r : Recall) (i : List ℕ) → Held W s r i → r.site < length records
  held_of_one s r i h = elim (within_or_past s (length records)) as (λ _. r.site < length records) [
    | inl below ↦ subst (λ n. r.site < n) (all s below).all ((all s below).sound.quarantine r (let kept = kept_set (W s).quarantine r i h in ap is_some kept.1)).site
    | inr past ↦ absurd (no_item s past r i h)
  ]

  seen_of_one : (s : ℕ) (m : Message) (r : Recall) → seen W s m ≡ Some r → m.site < length records
  seen_of_one s m r e = elim (within_or_past s (length records)) as (λ _. m.site < length records) [
    | inl below ↦ subst (λ n. m.site < n) (all s below).all (((all s below).sound.seen m r e).0).site
    | inr past ↦ absurd (none_seen s past m r e)
  ]

  row_to_one : (s n : ℕ) (x : Row) → row W s n ≡ Some x → x.dest < length records
  row_to_one s n x e = elim (within_or_past s (length records)) as (λ _. x.dest < length records) [
    | inl below ↦ subst (λ k. x.dest < k) (all s below).all ((all s below).sound.rows n x e).dest
    | inr past ↦ absurd (no_row s past n x e)
  ]

  ships_to_one : (s : ℕ) (i : List ℕ) (t : ℕ) → s < length records → Ships W s i t → t < length records
  ships_to_one s i t below ships =
      let (carrier, (k, e, lt, at, is), carried) = ships.2 in
      let among : ShipsAmong (length (W s).sites) e.body = All-contains (λ (g : Content). ShipsAmong (length (W s).sites) g.body) (W s).captured.events e (all s below).sound.events (k, lt, at) in
      subst (λ n. t < n) (all s below).all (shipped_within (length (W s).sites) carrier t e.body among is)

  past_fits : (c : Condition) (s : ℕ) → length records ≤ s → FitAt W c s
  past_fits Closed s past = λ r i j h _. absurd (no_item s past r i h)
  past_fits Told t past = record {
    told = λ s r i h ships. elim (within_or_past s (length records)) as (λ _. IsPassedOn W s t r i) [
      | inl below ↦ absurd (within t (ships_to_one s i t below ships) past)
      | inr far ↦ absurd (no_item s far r i h)
    ];
    taken = λ s n x e q at is. absurd (within t (subst (λ z. z < length records) at (row_to_one s n x e)) past);
  }
  past_fits Justified s past = record { reached = λ r i h. absurd (no_item s past r i h); rooted = λ k o e. absurd (none_begun s past k o e); rows = λ n x e. absurd (no_row s past n x e) }
  past_fits Waiting s past = λ n x e. absurd (no_row s past n x e)
  past_fits ParentsStand s past = λ r m e. absurd (no_parent s past r m e)
  past_fits ParentsLeadHome s past = λ r m e. absurd (no_parent s past r m e)
  past_fits EndsAreQuiet s past = λ r at is n x e same. no_row s past n x e
  past_fits NumbersAreBelow q past = record {
    rows = λ n x e. absurd (no_row q past n x e);
    seen = λ s m r e at. absurd (within q (subst (λ z. z < length records) at (seen_of_one s m r e)) past);
    own = λ k o e. absurd (none_begun q past k o e);
    held = λ s r i e at. absurd (within q (subst (λ z. z < length records) at (held_of_one s r i e)) past);
  }

  pub fit_by_conditions : Fit W ↔ ((c : Condition) (s : ℕ) → s < length records → FitAt W c s)
  fit_by_conditions = (
    λ f c s _. conditions_from_fit W f c s,
    λ each. fit_from_conditions W (λ c s. elim (within_or_past s (length records)) as (λ _. FitAt W c s) [ inl below ↦ each c s below | inr past ↦ past_fits c s past ]),
  )
