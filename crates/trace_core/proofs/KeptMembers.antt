-- The numbers that are kept of the outputs of events.
use Rattle.std.proofs.Common.{◌≡◌, ℕ, List, [], Some, None, slice_get, sym, ap, ◌∙◌, ⊎_elim, arith}
use Rattle.std.proofs.lemmas.Option.{slice_get_cases, slice_get_past, slice_get_within}
use Rattle.event_json.specs.Events.{Content}
use Rattle.trace_core.specs.declared.event_items.Members.{Members}
use Rattle.trace_core.specs.Numbers.{outs_at, HasMembers}
use Rattle.trace_core.proofs.NumberLists.{none_is}

module _ (events : List Content) (members : List Members) (has : HasMembers events members) (k : ℕ) where
  event_of : (m : Members) → slice_get members k ≡ Some m → (e : Content) × (slice_get events k ≡ Some e)
  event_of m at = ⊎_elim
      (λ (e, below, stands, there). (e, stands))
      (λ (past, none). absurd (omega (arith, past, has.count, slice_get_within members k m at)))
      (slice_get_cases events k).1

  no_event : slice_get members k ≡ None → slice_get events k ≡ None
  no_event none = ⊎_elim
      (λ (m, below, at, there). none_is m (sym none ∙ at))
      (λ (past, past_all). slice_get_past events k (omega (arith, past, has.count)))
      (slice_get_cases members k).1

  -- the numbers of the outputs
  pub outs_kept : (m : Members) → slice_get members k ≡ Some m → m.outs ≡ outs_at events (slice_get events k)
  outs_kept m at =
      let (e, stands) = event_of m at in
      (has.each k e m stands at).outs ∙ sym (ap (outs_at events) stands)

  pub no_outs_kept : slice_get members k ≡ None → [] ≡ outs_at events (slice_get events k)
  no_outs_kept none = sym (ap (outs_at events) (no_event none))
