-- What a signal leaves of a record that a site may keep.
use Rattle.std.proofs.Common.{◌≡◌, ℕ, All, List, Some, length, sym, subst}
use Rattle.std.specs.FinMap.{get}
use Rattle.site_rows.specs.Texts.{IsItemText}
use Rattle.event_json.specs.Sites.{AreSites, Site}
use Rattle.frame_core.specs.declared.frames.Frame.TheVariants as frames
use Rattle.frame_core.specs.declared.rows.Row.{Row}
use Rattle.frame_core.specs.Numbers.{Message}
use Rattle.scholten_core.specs.Effects.{Clears}
use Rattle.scholten_core.specs.Engagement.{Engagement}
use Rattle.scholten_core.specs.declared.own_recalls.Own.{Own}
use Rattle.trace_core.specs.Sites.{SiteEvents}
use Rattle.site_core.specs.Laws.{StepsStaySound}
use Rattle.site_core.specs.Quarantines.{Quarantine}
use Rattle.site_core.specs.Records.{Record}
use Rattle.site_core.specs.StepLaws.{SignalsClear}
use Rattle.site_core.specs.Steps.{Does}
use Rattle.site_core.specs.Ways.{ClearsRow}
use Rattle.site_core.specs.declared.inputs.SiteInput.TheVariants.{Deliver}
use Rattle.site_core.specs.declared.outcomes.Effects.{Effects}
use Rattle.site_core.specs.declared.outcomes.Effects.TheVariants as effects
use Rattle.site_rows.specs.Laws.{HasTexts, HoldsItems, HoldsKeys, IsEventAmong, SignalsKeepItems}

-- what is asked of the engagement: the text of each message and of each own recall's root
record IsOfTexts (P : List ℕ → Type 0) (d : Engagement) : Type 0 where
  pub outbox : (number : ℕ) (row : Row) → get d.outbox number ≡ Some row → P row.item
  pub own : (number : ℕ) (own : Own) → get d.own number ≡ Some own → P own.root

-- messages go, and the roots of own recalls stay
texts_stay : (P : List ℕ → Type 0) (old new : Engagement) (n : ℕ) (row : Row) → Clears old new n row → IsOfTexts P old → IsOfTexts P new
texts_stay P old new n row c it = record {
  outbox = λ number x there. it.outbox number x (c.row_origin number x there);
  own = λ number o there.
      let was = c.own_origin number o there in
      subst P (sym was.2) (it.own number was.0 was.1);
}

-- what is said of the sites, of the events and of what is quarantined stays, since these do
same_parts : (P : List Site → Type 0) (Q : List Site → SiteEvents → Type 0) (R : Quarantine → Type 0) (s t : Record) (n : ℕ) (row : Row) → ClearsRow s t n row
    → P s.sites × Q s.sites s.captured × R s.quarantine → P t.sites × Q t.sites t.captured × R t.quarantine
same_parts P Q R s t n row c it = (
  subst P (sym c.sites) it.0,
  subst (λ (x : SiteEvents). Q t.sites x) (sym c.captured) (subst (λ (x : List Site). Q x s.captured) (sym c.sites) it.1),
  subst R (sym c.quarantine) it.2,
)

items_stay : (s t : Record) (n : ℕ) (row : Row) → ClearsRow s t n row → HoldsItems s → HoldsItems t
items_stay s t n row c it =
    let parts = same_parts (All HasTexts) (λ sites captured. All (IsEventAmong (length sites)) captured.events) HoldsKeys s t n row c (it.sites, it.events, it.quarantine) in
    let texts = texts_stay IsItemText s.engagement t.engagement n row c.clears (record { outbox = it.engagement.outbox; own = it.engagement.own }) in
    record { sites = parts.0; events = parts.1; quarantine = parts.2; engagement = record { outbox = texts.outbox; own = texts.own } }

abbrev Stay : Record → Record → Type 0
Stay s t = (AreSites s.sites → AreSites t.sites) × (HoldsItems s → HoldsItems t)

cleared : (s t : Record) (n : ℕ) (row : Row) → ClearsRow s t n row → Stay s t
cleared s t n row c = (λ it. subst AreSites (sym c.sites) it, items_stay s t n row c)

stay : SignalsClear → (s t : Record) (m : Message) (by : ℕ) (told : Effects) → Does s (Deliver (frames.Signal m by)) told t → Stay s t
stay clears s t m by effects.Cleared does = let c = (clears s t m by).0 does in cleared s t m.number c.row c.clears
stay clears s t m by (effects.ParentDue parent) does = let c = (clears s t m by).1 parent does in cleared s t m.number c.row c.clears
stay clears s t m by (effects.Ended recall) does = let c = (clears s t m by).2 recall does in cleared s t m.number c.row c.clears
stay clears s t m by effects.Stale does = (λ it. subst (λ (x : Record). AreSites x.sites) (sym does.1) it, λ it. subst HoldsItems (sym does.1) it)
stay clears s t m by effects.Repeat does = absurd does
stay clears s t m by (effects.Captured fresh known skipped) does = absurd does
stay clears s t m by (effects.Started recall quarantined numbered ended) does = absurd does
stay clears s t m by (effects.Received quarantined numbered owed) does = absurd does

pub signals_keep : SignalsClear → StepsStaySound → SignalsKeepItems
signals_keep clears sound s t m by told does kept items =
    let it = stay clears s t m by told does in
    (record { sites = it.0 kept.sites; sound = sound s (Deliver (frames.Signal m by)) told t kept.sound does }, it.1 items)
