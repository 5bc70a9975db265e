-- Sites that keep nothing yet are consistent.
use Rattle.std.proofs.Common.{◌≡◌, inl, inr, ℕ, ◌<◌, List, [], length, Some, None, sym, ap, ◌∙◌}
use Rattle.std.specs.Ordering.{nat_cmp}
use Rattle.std.specs.FinMap.{get-empty}
use Rattle.std.specs.FinMap as map
use Rattle.std.proofs.lemmas.List.{get_or_past}
use mathlib.Core.Bool.{false≢true}
use Rattle.event_json.specs.Sites.{Site}
use Rattle.frame_core.specs.Identifiers.{recall_cmp, message_cmp}
use Rattle.frame_core.specs.Numbers.{Recall, Message}
use Rattle.frame_core.specs.declared.rows.Row.{Row}
use Rattle.scholten_core.specs.declared.own_recalls.Own.{Own}
use Rattle.site_core.specs.Quarantines.{held}
use Rattle.site_core.specs.Records.{Record, fresh}
use Rattle.site_core.proofs.Held.{none_held}
use Rattle.trace_core.proofs.Members.{contains_none}
use Rattle.site_recovery.specs.Fit.{Fit, Fits}
use Rattle.site_recovery.specs.Looks.{World, world_of, Held, row, seen, parent, own}
use Rattle.site_recovery.proofs.Exact.{within_or_past}

module _ (W : World) (empty : (s : ℕ) → (sites : List Site) × (W s ≡ fresh sites s)) where
  pub no_item : (s : ℕ) (r : Recall) (i : List ℕ) → Held W s r i → ⊥
  no_item s r i h = false≢true (sym (ap (λ z. held z.quarantine r i) (empty s).1 ∙ none_held map.empty r i (get-empty recall_cmp r)) ∙ h)

  pub no_row : (s n : ℕ) (x : Row) → row W s n ≡ Some x → ⊥
  no_row s n x e = let none : None ≡ Some x = sym (ap (λ z. map.get z.engagement.outbox n) (empty s).1 ∙ get-empty nat_cmp n) ∙ e in cc

  pub none_seen : (s : ℕ) (m : Message) (r : Recall) → seen W s m ≡ Some r → ⊥
  none_seen s m r e = let none : None ≡ Some r = sym (ap (λ z. map.get z.engagement.seen m) (empty s).1 ∙ get-empty message_cmp m) ∙ e in cc

  no_parent : (s : ℕ) (r : Recall) (m : Message) → parent W s r ≡ Some m → ⊥
  no_parent s r m e = let none : None ≡ Some m = sym (ap (λ z. map.get z.engagement.parents r) (empty s).1 ∙ get-empty recall_cmp r) ∙ e in cc

  none_begun : (s k : ℕ) (o : Own) → own W s k ≡ Some o → ⊥
  none_begun s k o e = let none : None ≡ Some o = sym (ap (λ z. map.get z.engagement.own k) (empty s).1 ∙ get-empty nat_cmp k) ∙ e in cc

  empty_fit : Fit W
  empty_fit = record {
    closed = λ s r i j h _. absurd (no_item s r i h);
    told = λ t. record { told = λ s r i h _. absurd (no_item s r i h); taken = λ s n x e _ _ _. absurd (no_row s n x e) };
    justified = λ s. record { reached = λ r i h. absurd (no_item s r i h); rooted = λ k o e. absurd (none_begun s k o e); rows = λ n x e. absurd (no_row s n x e) };
    waiting = λ s n x e. absurd (no_row s n x e);
    parents_stand = λ s r m e. absurd (no_parent s r m e);
    parents_lead_home = λ s r m e. absurd (no_parent s r m e);
    ends_are_quiet = λ s r at is n x e _. no_row s n x e;
    numbers_are_below = λ q. record {
      rows = λ n x e. absurd (no_row q n x e);
      seen = λ s m r e _. absurd (none_seen s m r e);
      own = λ k o e. absurd (none_begun q k o e);
      held = λ s r i h _. absurd (no_item s r i h);
    };
  }

pub each_is_empty : (sites : List Site) (records : List Record) → ((s : ℕ) → s < length records → world_of records s ≡ fresh sites s) → (s : ℕ) → (all : List Site) × (world_of records s ≡ fresh all s)
each_is_empty sites records empty s = elim (within_or_past s (length records)) as (λ _. (all : List Site) × (world_of records s ≡ fresh all s)) [
  | inl below ↦ (sites, empty s below)
  | inr past ↦ ([], get_or_past records s (fresh [] s) past)
]

pub empty_sites_fit : (sites : List Site) (records : List Record) → ((s : ℕ) → s < length records → world_of records s ≡ fresh sites s) → Fits (world_of records) []
empty_sites_fit sites records empty = record { records_fit = empty_fit (world_of records) (each_is_empty sites records empty); frames_fit = λ f at. absurd (contains_none f at) }
