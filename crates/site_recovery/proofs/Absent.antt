-- A site that keeps nothing.
use Rattle.std.proofs.Common.{◌≡◌, ℕ, false, List, [], None, sym, ap, ◌∙◌}
use Rattle.std.specs.Ordering.{nat_cmp}
use Rattle.std.specs.FinMap.{get-empty}
use Rattle.std.specs.FinMap as map
use Rattle.frame_core.specs.Identifiers.{recall_cmp, message_cmp}
use Rattle.frame_core.specs.Numbers.{Recall, Message}
use Rattle.site_core.specs.Quarantines.{held}
use Rattle.site_core.specs.Records.{fresh}
use Rattle.site_core.proofs.Held.{none_held}
use Rattle.site_recovery.specs.Looks.{World, row, seen, parent, own}

module _ (W : World) (s : ℕ) (nothing : W s ≡ fresh [] s) where
  pub no_row : (n : ℕ) → None ≡ row W s n
  no_row n = sym (ap (λ z. map.get z.engagement.outbox n) nothing ∙ get-empty nat_cmp n)

  pub none_seen : (m : Message) → None ≡ seen W s m
  none_seen m = sym (ap (λ z. map.get z.engagement.seen m) nothing ∙ get-empty message_cmp m)

  pub no_parent : (r : Recall) → None ≡ parent W s r
  no_parent r = sym (ap (λ z. map.get z.engagement.parents r) nothing ∙ get-empty recall_cmp r)

  pub none_begun : (k : ℕ) → None ≡ own W s k
  none_begun k = sym (ap (λ z. map.get z.engagement.own k) nothing ∙ get-empty nat_cmp k)

  pub no_item : (r : Recall) (i : List ℕ) → false ≡ held (W s).quarantine r i
  no_item r i = sym (ap (λ z. held z.quarantine r i) nothing ∙ none_held map.empty r i (get-empty recall_cmp r))
