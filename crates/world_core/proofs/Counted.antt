-- Over every run from sites at which nothing happened yet a log has all that was ever announced; so messages are counted.
use Rattle.std.proofs.Common.{◌≡◌, ◌⊎◌, inl, inr, ℕ, zero, suc, ◌<◌, List, length, Some, None, refl, sym, ap, ◌∙◌, subst, Contains, arith}
use Rattle.std.specs.FinMap.{get}
use Rattle.std.specs.Prelude.{set}
use Rattle.frame_core.specs.Numbers.{Recall, Message}
use Rattle.frame_core.specs.declared.frames.Frame.{Frame}
use Rattle.frame_core.specs.declared.frames.Frame.TheVariants as frames
use Rattle.frame_core.specs.declared.rows.Row.{Row}
use Rattle.scholten_core.specs.Effects.{AddsRows}
use Rattle.scholten_core.specs.declared.outcomes.Signalled.{Signalled}
use Rattle.scholten_core.specs.declared.outcomes.Signalled.TheVariants as signals
use Rattle.site_core.specs.Quarantines.{held}
use Rattle.site_core.specs.Records.{Record, fresh}
use Rattle.site_core.specs.StepLaws.{ClearsFor}
use Rattle.site_core.specs.Steps.{Does, IsForSite}
use Rattle.site_core.specs.Ways as ways
use Rattle.site_core.specs.declared.inputs.SiteInput.{SiteInput}
use Rattle.site_core.specs.declared.inputs.SiteInput.TheVariants.{Capture, Start, Deliver}
use Rattle.site_core.specs.declared.outcomes.Effects.{Effects}
use Rattle.site_core.specs.declared.outcomes.Effects.TheVariants as effects
use Rattle.site_core.proofs.Clearings.{signals_clear}
use Rattle.site_core.proofs.Growths.{captures_grow}
use Rattle.site_core.proofs.Openings.{starts_open}
use Rattle.site_core.proofs.Takings.{messages_are_taken}
use Rattle.site_recovery.specs.Fit.{Fit, Fits, IsAnswered}
use Rattle.site_recovery.specs.Laws.{WasSent}
use Rattle.site_recovery.specs.Looks.{World, world_of, Held, row, seen, next_recall}
use Rattle.site_recovery.proofs.Changes.{Clears, Grows}
use Rattle.site_recovery.proofs.Lifting.{clears_everywhere, grows_everywhere, opens_everywhere, takes_everywhere}
use Rattle.site_recovery.proofs.OneSite.{SameElsewhere, set_elsewhere, set_here}
use Rattle.site_recovery.proofs.OneStep.{one_world, put, put_elsewhere, put_here}
use Rattle.world_core.proofs.Telling.{IsLog, log_adds}

-- there is a log of all that was announced
abbrev pub HasLog : World → Type 0
HasLog W = (log : List (Message × Row)) × IsLog W log

-- Each way keeps it.

log_grows : (V W : World) (s : ℕ) → Grows V W s → (log : List (Message × Row)) → IsLog V log → IsLog W log
log_grows V W s c log g = record {
  of_row = λ t n x e. g.of_row t n x (sym (ap (λ z. get z.outbox n) (c.engagement t)) ∙ e);
  of_seen = λ t m q e. g.of_seen t m q (sym (ap (λ z. get z.seen m) (c.engagement t)) ∙ e);
  waits_or_seen = λ m x h. elim (g.waits_or_seen m x h) as (λ _. (row W m.site m.number ≡ Some x) ⊎ (seen W x.dest m ≡ Some x.recall)) [
    | inl stands ↦ inl (ap (λ z. get z.outbox m.number) (c.engagement m.site) ∙ stands)
    | inr saw ↦ inr (ap (λ z. get z.seen m) (c.engagement x.dest) ∙ saw)
  ];
  reason = λ m x h. let why = g.reason m x h in (ap (λ q. held q x.recall x.item) (c.quarantine m.site) ∙ why.0, c.ships_kept m.site x.item x.dest why.1);
  told = λ t r i u h ships.
      let was : Held V t r i = sym (ap (λ q. held q r i) (c.quarantine t)) ∙ h in
      elim (c.ships_origin t i u ships) as (λ _. (n : ℕ) × Contains log (record { site = t; number = n }, record { dest = u; recall = r; item = i })) [
        | inl old ↦ g.told t r i u was old
        | inr new ↦ absurd (new.1 r (subst (λ z. Held V z r i) new.0 was))
      ];
  one_row = g.one_row;
  one_message = g.one_message;
}

log_clears : (V W : World) (s n : ℕ) (x : Row) → Clears V W s n x → IsAnswered V x.dest (record { site = s; number = n }) → (log : List (Message × Row)) → IsLog V log → IsLog W log
log_clears V W s n x c done log g = record {
  of_row = λ t k y e. g.of_row t k y (c.row_origin t k y e);
  of_seen = λ t m q e. g.of_seen t m q (sym (c.seen t m) ∙ e);
  waits_or_seen = λ m y h. elim (g.waits_or_seen m y h) as (λ _. (row W m.site m.number ≡ Some y) ⊎ (seen W y.dest m ≡ Some y.recall)) [
    | inl stands ↦ elim (c.row_kept m.site m.number y stands) as (λ _. (row W m.site m.number ≡ Some y) ⊎ (seen W y.dest m ≡ Some y.recall)) [
      | inl still ↦ inl still
      | inr gone ↦
          let it : record { site = s; number = n } ≡ m = (λ i. record { site = sym gone.0 i; number = sym gone.1 i }) in
          let cleared : x ≡ y = g.one_row m x y (subst (λ z. Contains log (z, x)) it (g.of_row s n x c.was)) h in
          let saw = g.of_seen x.dest (record { site = s; number = n }) done.0.0 done.0.1 in
          let under : saw.0 ≡ y = g.one_row m saw.0 y (subst (λ z. Contains log (z, saw.0)) it saw.1) h in
          let was : seen V x.dest (record { site = s; number = n }) ≡ Some y.recall = done.0.1 ∙ ap Some (sym saw.2 ∙ ap (λ z. z.recall) under) in
          inr (c.seen y.dest m ∙ subst (λ z. seen V z m ≡ Some y.recall) (ap (λ z. z.dest) cleared) (subst (λ z. seen V x.dest z ≡ Some y.recall) it was))
    ]
    | inr saw ↦ inr (c.seen y.dest m ∙ saw)
  ];
  reason = λ m y h. let why = g.reason m y h in (
    ap (λ q. held q y.recall y.item) (c.quarantine m.site) ∙ why.0,
    subst (λ z. ways.ShipsTo (record (V m.site) { captured = z }) y.item y.dest) (sym (c.captured m.site)) why.1,
  );
  told = λ t r i u h ships. g.told t r i u (sym (ap (λ q. held q r i) (c.quarantine t)) ∙ h) (subst (λ z. ways.ShipsTo (record (V t) { captured = z }) i u) (c.captured t) ships);
  one_row = g.one_row;
  one_message = g.one_message;
}

module _ (V W : World) (s : ℕ) (elsewhere : SameElsewhere V W s) (me : (V s).engagement.me ≡ s) (f : Fit V) where
  log_takes : (m : Message) (r : Recall) (item : List ℕ) → ways.TakesMessage (V s) (W s) m r item → row V m.site m.number ≡ Some (record { dest = s; recall = r; item = item }) → HasLog V → HasLog W
  log_takes m r item w stands (log, g) =
      let c = takes_everywhere V W s elsewhere me m r item w in
      log_adds V W s elsewhere f r item w.out
      (record {
        spreads = c.spreads;
        rows = w.takes.rows;
        once = w.once;
        exact = w.exact;
        seen_kept = c.seen_kept;
        seen_origin = λ t p q e. elim (c.seen_origin t p q e) as (λ _. (seen V t p ≡ Some q) ⊎ ((x : Row) × (row V p.site p.number ≡ Some x) × (x.recall ≡ q))) [
          | inl old ↦ inl old
          | inr new ↦ inr (record { dest = s; recall = r; item = item }, subst (λ (z : Message). row V z.site z.number ≡ Some (record { dest = s; recall = r; item = item })) (sym new.1) stands, sym new.2)
        ];
      })
      log g

  log_opens : (root : List ℕ) → ways.Opens (V s) (W s) root → HasLog V → HasLog W
  log_opens root w (log, g) =
      let c = opens_everywhere V W s elsewhere me root w in
      let r : Recall = record { site = s; number = next_recall V s } in
      let name : record { site = (V s).engagement.me; number = next_recall V s } ≡ r = ap (λ z. record { site = z; number = next_recall V s }) me in
      let never : (i : List ℕ) → Held V s r i → ⊥ = λ i h. omega (arith, (f.numbers_are_below s).held s r i h refl) in
      log_adds V W s elsewhere f r root w.out
      (record {
        spreads = c.spreads;
        rows = subst (λ z. AddsRows (V s).engagement (W s).engagement z w.out) name w.begins.rows;
        once = w.once;
        exact = λ u i. (
          λ at. let why = (w.exact u i).0 at in (c.spreads.held_spread i why.0, never i, why.1),
          λ h. elim (c.spreads.held_origin s r i h.0) as (λ _. Contains w.out (u, i)) [
            | inl was ↦ absurd (h.1 was)
            | inr new ↦ (w.exact u i).1 (new.2, h.2)
          ],
        );
        seen_kept = λ t m q e. c.seen t m ∙ e;
        seen_origin = λ t m q e. inl (sym (c.seen t m) ∙ e);
      })
      log g

log_grows_by : (V : World) (s k : ℕ) (W : World) → SameElsewhere V W s → ways.GrowsBy (V s) k (W s) → HasLog V → HasLog W
log_grows_by V s zero W elsewhere same h = subst HasLog (sym (one_world V W s (sym same) elsewhere)) h
log_grows_by V s (suc k) W elsewhere (u, first, last) h =
    let middle = put V s u in
    let before = log_grows_by V s k middle (put_elsewhere V s u) (subst (ways.GrowsBy (V s) k) (sym (put_here V s u)) first) h in
    let apart : SameElsewhere middle W s = λ t away. elsewhere t away ∙ sym (put_elsewhere V s u t away) in
    (before.0, log_grows middle W s (grows_everywhere middle W s apart (subst (λ z. ways.Grows z (W s)) (sym (put_here V s u)) last)) before.0 before.1)

-- So does each step.

module _ (V W : World) (s : ℕ) (sent : List Frame) (f : Fits V sent) (elsewhere : SameElsewhere V W s) (me : (V s).engagement.me ≡ s) (h : HasLog V) where
  log_taken : (m : Message) (dest : ℕ) (r : Recall) (i : List ℕ) → IsForSite (V s) m dest r → ways.TakesMessage (V s) (W s) m r i → Contains sent (frames.Recall m dest r i) → HasLog W
  log_taken m dest r i mine w at =
      let here : dest ≡ s = mine.here ∙ me in
      let Stands : Type 0 = row V m.site m.number ≡ Some (record { dest = s; recall = r; item = i }) in
      let stands : Stands = elim (f.frames_fit (frames.Recall m s r i) (subst (λ z. Contains sent (frames.Recall m z r i)) here at)) as (λ _. Stands) [
        | inl waits ↦ waits
        | inr answered ↦ let twice : None ≡ Some answered.0.0 = sym w.takes.unseen ∙ answered.0.1 in cc
      ] in
      log_takes V W s elsewhere me f.records_fit m r i w stands h

  log_cleared : (m : Message) (by : ℕ) (answer : Signalled) → ClearsFor (V s) (W s) m by answer → Contains sent (frames.Signal m by) → HasLog W
  log_cleared m by answer c at =
      let here : m.site ≡ s = c.own.site ∙ me in
      let name : m ≡ record { site = s; number = m.number } = (λ i. record { site = here i; number = m.number }) in
      let among = subst (λ z. Contains sent (frames.Signal z c.row.dest)) name (subst (λ z. Contains sent (frames.Signal m z)) (sym c.signer) at) in
      (h.0, log_clears V W s m.number c.row (clears_everywhere V W s elsewhere me m.number c.row c.clears) (f.frames_fit (frames.Signal (record { site = s; number = m.number }) c.row.dest) among) h.0 h.1)

  log_same : W s ≡ V s → HasLog W
  log_same same = subst HasLog (sym (one_world V W s same elsewhere)) h

  log_steps : (input : SiteInput) (e : Effects) → WasSent sent input → Does (V s) input e (W s) → HasLog W
  log_steps (Capture bytes) (effects.Captured fresh known skipped) at does = log_grows_by V s fresh W elsewhere (captures_grow (V s) (W s) bytes fresh known skipped does) h
  log_steps (Start root) (effects.Started recall quarantined numbered ended) at does =
      log_opens V W s elsewhere me f.records_fit root (starts_open (V s) (W s) root recall quarantined numbered ended does).0 h
  log_steps (Deliver (frames.Recall m dest r i)) (effects.Received quarantined numbered owed) at does =
      let w = messages_are_taken (V s) (W s) m dest r i quarantined numbered owed does in
      log_taken m dest r i w.0 w.1 (at (frames.Recall m dest r i) refl)
  log_steps (Deliver (frames.Recall m dest r i)) effects.Repeat at does = log_same does.1
  log_steps (Deliver (frames.Signal m by)) effects.Stale at does = log_same does.1
  log_steps (Deliver (frames.Signal m by)) effects.Cleared at does = log_cleared m by signals.Cleared ((signals_clear (V s) (W s) m by).0 does) (at (frames.Signal m by) refl)
  log_steps (Deliver (frames.Signal m by)) (effects.ParentDue parent) at does = log_cleared m by (signals.ParentDue parent) ((signals_clear (V s) (W s) m by).1 parent does) (at (frames.Signal m by) refl)
  log_steps (Deliver (frames.Signal m by)) (effects.Ended recall) at does = log_cleared m by (signals.Ended recall) ((signals_clear (V s) (W s) m by).2 recall does) (at (frames.Signal m by) refl)
  log_steps input other at does = absurd does

pub step_keeps_a_log : (records : List Record) (sent : List Frame) (s : ℕ) (input : SiteInput) (e : Effects) (next : Record)
    → Fits (world_of records) sent → s < length records → (world_of records s).engagement.me ≡ s → WasSent sent input → Does (world_of records s) input e next
    → HasLog (world_of records) → HasLog (world_of (set records s next))
step_keeps_a_log records sent s input e next fits below me was_sent does h =
    log_steps (world_of records) (world_of (set records s next)) s sent fits (set_elsewhere records s next) me h input e was_sent
    (subst (λ z. Does (world_of records s) input e z) (sym (set_here records s next below)) does)
