-- What each entry of a site's map passes, all that is found at the site passes.
use Rattle.std.proofs.Common.{◌≡◌, ◌↔◌, ℕ, Bool, List, Some, ap, ◌∙◌}
use Rattle.std.specs.Prelude.{IsTrue}
use Rattle.std.specs.Cmp.{nat_cmp_total}
use Rattle.std.specs.FinMap.{entries, get, nat_cmp-IsAntisymmetric}
use Rattle.std.specs.List.{Contains}
use Rattle.frame_core.specs.Numbers.{Recall, Message}
use Rattle.frame_core.specs.Orders.{recall_total, recall_exact, message_total, message_exact}
use Rattle.frame_core.specs.declared.rows.Row.{Row}
use Rattle.scholten_core.specs.declared.own_recalls.Own.{Own}
use Rattle.site_core.specs.ItemSets.{Items}
use Rattle.site_core.specs.Records.{Record}
use Rattle.site_recovery.specs.Looks.{World, row, seen, parent, own}
use Rattle.site_core.proofs.Entries.{each_found}

-- of entries, each passes
abbrev pub Each : {K X : Type 0} → List (K × X) → (K → X → Type 0) → Type 0
Each {K} {X} es P = (k : K) (v : X) → Contains es (k, v) → P k v

module _ (W : World) (s : ℕ) (state : Record) (here : state ≡ W s) (b : Bool) where
  pub each_row : (es : List (ℕ × Row)) → es ≡ entries state.engagement.outbox → (P : ℕ → Row → Type 0) → (IsTrue b ↔ Each es P) → IsTrue b ↔ ((n : ℕ) (x : Row) → row W s n ≡ Some x → P n x)
  each_row es same P decides = each_found nat_cmp_total nat_cmp-IsAntisymmetric (W s).engagement.outbox es (same ∙ ap (λ z. entries z.engagement.outbox) here) P b decides

  pub each_seen : (es : List (Message × Recall)) → es ≡ entries state.engagement.seen → (P : Message → Recall → Type 0) → (IsTrue b ↔ Each es P) → IsTrue b ↔ ((m : Message) (r : Recall) → seen W s m ≡ Some r → P m r)
  each_seen es same P decides = each_found message_total message_exact (W s).engagement.seen es (same ∙ ap (λ z. entries z.engagement.seen) here) P b decides

  pub each_parent : (es : List (Recall × Message)) → es ≡ entries state.engagement.parents → (P : Recall → Message → Type 0) → (IsTrue b ↔ Each es P) → IsTrue b ↔ ((r : Recall) (m : Message) → parent W s r ≡ Some m → P r m)
  each_parent es same P decides = each_found recall_total recall_exact (W s).engagement.parents es (same ∙ ap (λ z. entries z.engagement.parents) here) P b decides

  pub each_own : (es : List (ℕ × Own)) → es ≡ entries state.engagement.own → (P : ℕ → Own → Type 0) → (IsTrue b ↔ Each es P) → IsTrue b ↔ ((k : ℕ) (o : Own) → own W s k ≡ Some o → P k o)
  each_own es same P decides = each_found nat_cmp_total nat_cmp-IsAntisymmetric (W s).engagement.own es (same ∙ ap (λ z. entries z.engagement.own) here) P b decides

  pub each_kept : (es : List (Recall × Items)) → es ≡ entries state.quarantine → (P : Recall → Items → Type 0) → (IsTrue b ↔ Each es P) → IsTrue b ↔ ((r : Recall) (items : Items) → get (W s).quarantine r ≡ Some items → P r items)
  each_kept es same P decides = each_found recall_total recall_exact (W s).quarantine es (same ∙ ap (λ z. entries z.quarantine) here) P b decides
