-- A frame that a site may send fits.
use Rattle.std.proofs.Common.{◌≡◌, ◌≢◌, inl, inr, ℕ, true, not, Some, filter, refl, sym, ap, ◌∙◌, subst, true≢false}
use Rattle.std.specs.Cmp.{nat_cmp_total}
use Rattle.std.specs.List.{Contains}
use Rattle.std.specs.FinMap.{get, entries}
use Rattle.std.proofs.lemmas.List.Elements.{Contains-append_cases}
use Rattle.frame_core.specs.Identifiers.{same_message}
use Rattle.frame_core.specs.Orders.{recall_total, recall_exact, message_total}
use Rattle.frame_core.specs.Numbers.{Recall, Message}
use Rattle.frame_core.specs.declared.frames.Frame.{Frame}
use Rattle.frame_core.specs.declared.frames.Frame.TheVariants as frames
use Rattle.frame_core.proofs.Found.{found_in}
use Rattle.frame_core.proofs.Sameness.{equal_messages}
use Rattle.frame_core.proofs.Sums.{list_any-map}
use Rattle.trace_core.proofs.SetMembers.{contains-from_map}
use Rattle.site_core.specs.Emitting.{emittable, message_frame, message_frames, signal_frame, signal_frames, is_parent}
use Rattle.site_recovery.specs.Fit.{FrameFits}
use Rattle.site_recovery.specs.Looks.{World, parent}
use Rattle.site_core.proofs.Entries.{entry_found}
use Rattle.site_core.proofs.NamedFrames.{passing}

module _ (W : World) (s : ℕ) (me : (W s).engagement.me ≡ s) where
  -- a message whose row stands
  message_fits : (f : Frame) → Contains (message_frames (W s).engagement) f → FrameFits W f
  message_fits f at =
      let (e, among, is) = contains-from_map (message_frame (W s).engagement.me) (entries (W s).engagement.outbox) f at in
      let stands : get (W s).engagement.outbox e.0 ≡ Some e.1 = entry_found nat_cmp_total (W s).engagement.outbox e.0 e.1 among in
      subst (FrameFits W) is (inl (ap (λ z. get (W z).engagement.outbox e.0) me ∙ stands))

  -- a message that is no parent of any recall
  no_parent : (m : Message) → not (is_parent (W s).engagement m) ≡ true → (q : Recall) → parent W s q ≢ Some m
  no_parent m free q is =
      let there : is_parent (W s).engagement m ≡ true =
      list_any-map (λ e. e.1) (λ p. same_message p m) (entries (W s).engagement.parents)
      ∙ found_in recall_total (λ e. same_message e.1 m) recall_exact (W s).engagement.parents (record { key = q; value = m; found = is; passes = equal_messages m m refl }) in
      true≢false (sym free ∙ ap not there)

  -- a signal of a message that was seen and is no parent
  signal_fits : (f : Frame) → Contains (signal_frames (W s).engagement) f → FrameFits W f
  signal_fits f at =
      let (e, among, is) = contains-from_map (λ x. signal_frame (W s).engagement.me x.0) (filter (λ x. not (is_parent (W s).engagement x.0)) (entries (W s).engagement.seen)) f at in
      let (stands, free) = passing (λ x. not (is_parent (W s).engagement x.0)) (entries (W s).engagement.seen) e among in
      subst (FrameFits W) is (subst (λ z. FrameFits W (frames.Signal e.0 z)) (sym me) ((e.1, entry_found message_total (W s).engagement.seen e.0 e.1 stands), no_parent e.0 free))

  -- whatever a site may send fits
  pub frame_emitted : (f : Frame) → Contains (emittable (W s).engagement) f → FrameFits W f
  frame_emitted f at = elim (Contains-append_cases (message_frames (W s).engagement) (signal_frames (W s).engagement) f at) as (λ _. FrameFits W f) [
    | inl told ↦ message_fits f told
    | inr signalled ↦ signal_fits f signalled
  ]
