-- A message that was taken, and a signal.
use Rattle.std.proofs.Common.{◌≡◌, ℕ, Bool, List, length, None, refl, sym, ap, ◌∙◌}
use Rattle.std.specs.FinMap.{get}
use Rattle.frame_core.specs.declared.rows.Row.{Row}
use Rattle.frame_core.specs.Numbers.{Recall, Message}
use Rattle.scholten_core.specs.declared.outcomes.Signalled.{Signalled}
use Rattle.scholten_core.specs.Changes.{received, signalled}
use Rattle.scholten_core.specs.Engagement.{Engagement}
use Rattle.site_core.specs.Quarantines.{Quarantine, with_items}
use Rattle.site_core.specs.Records.{Record}
use Rattle.site_core.specs.Shipments.{AreShipments}
use Rattle.site_core.specs.Spreading.{AreNewlyHeld}
use Rattle.site_core.specs.Steps.{HaveNumbers, IsForSite, Takes, reply, HasRow, Clears}

-- both parts of what a call gives
parts : {A B : Type 0} (p : A × B) (a : A) (b : B) → a ≡ p.0 → b ≡ p.1 → p ≡ (a, b)
parts p a b one two = sym (ap (λ x. (x, b)) one ∙ ap (λ y. (p.0, y)) two)

pub taken : (s : Record) (m : Message) (dest : ℕ) (r : Recall) (i : List ℕ) (new : List (List ℕ)) (out : List (ℕ × List ℕ)) (q : Quarantine) (e : Engagement) (quarantined numbered : ℕ) (owed : Bool)
    → IsForSite s m dest r × (get s.engagement.seen m ≡ None) → AreNewlyHeld s.captured s.quarantine r i new → AreShipments s.captured new out
    → q ≡ with_items s.quarantine r new → received s.engagement m r out ≡ (e, reply (length out) owed)
    → HaveNumbers s.engagement out → quarantined ≡ length new → numbered ≡ length out
    → Takes s m dest r i quarantined numbered owed (record s { quarantine = q; engagement = e })
taken s m dest r i new out q e quarantined numbered owed may newly shipped held engaged enough count told = record {
  new = new;
  out = out;
  may = record { mine = may.0; unseen = may.1; newly = newly; shipped = shipped };
  enough = enough;
  held = count;
  engaged = engaged ∙ ap (λ n. (e, reply n owed)) (sym told);
  after = ap (λ q. record s { quarantine = q; engagement = e }) held;
}

pub cleared : (s : Record) (m : Message) (by : ℕ) (e : Engagement) (answer : Signalled)
    → (row : Row) × HasRow s m row × (row.dest ≡ by) → e ≡ (signalled s.engagement m.number).0 → answer ≡ (signalled s.engagement m.number).1
    → Clears s m by answer (record s { engagement = e })
cleared s m by e answer stands engaged told = record {
  row = stands.0;
  has = stands.1;
  signer = stands.2;
  engaged = parts (signalled s.engagement m.number) e answer engaged told;
  after = refl;
}
