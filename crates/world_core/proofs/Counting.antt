-- After every run from sites at which nothing happened yet messages are as many as the shipments that they announce.
use Rattle.std.proofs.Common.{◌≡◌, inl, inr, ℕ, ◌<◌, true, false, Some, List, [], ◌∷◌, length, refl, sym, ap, ◌∙◌, subst, Contains, slice_set, cond}
use Rattle.std.proofs.lemmas.List.{set-get_or}
use Rattle.trace_core.proofs.Members.{contains_cases, contains_here, contains_none, contains_there}
use Rattle.frame_core.specs.Identifiers.{same_recall}
use Rattle.frame_core.specs.Numbers.{Recall, Message}
use Rattle.frame_core.specs.declared.frames.Frame.{Frame}
use Rattle.frame_core.specs.declared.rows.Row.{Row}
use Rattle.frame_core.proofs.Sameness.{equal_recalls, one_recall}
use Rattle.site_core.specs.Records.{Record, fresh}
use Rattle.site_recovery.specs.Fit.{Fits}
use Rattle.site_recovery.specs.Laws.{AreInPlace}
use Rattle.site_recovery.specs.Looks.{World, world_of}
use Rattle.site_recovery.proofs.EmptySites.{each_is_empty, no_item, no_row, none_seen}
use Rattle.world_core.specs.declared.events.Answer.{Answer}
use Rattle.world_core.specs.declared.events.WorldEvent.{WorldEvent}
use Rattle.world_core.specs.Counting.{AreAsMany, IsMessageOf, LeavesQuarantine, MessagesAreCounted, Shipment}
use Rattle.world_core.specs.Faults.{AreFresh, AreOneWorld}
use Rattle.world_core.specs.Turns.{Runs}
use Rattle.world_core.specs.Worlds.{WorldFits, WorldState, records}
use Rattle.world_core.proofs.Counted.{HasLog, step_keeps_a_log}
use Rattle.world_core.proofs.EachRun.{run_keeps_it}
use Rattle.world_core.proofs.Fitting.{Way, goes_on, stays, tells}
use Rattle.world_core.proofs.FreshSites.{fresh_at, fresh_sites_fit}
use Rattle.world_core.proofs.Telling.{IsLog}

-- A log is kept by each turn.

same_log : (rs : List Record) (site : ℕ) (new : Record) → new ≡ world_of rs site → HasLog (world_of rs) → HasLog (world_of (slice_set rs site new))
same_log rs site new same h = subst (λ r. HasLog (world_of (slice_set rs site r))) (sym same) (subst (λ l. HasLog (world_of l)) (sym (set-get_or rs site (fresh [] site))) h)

way_keeps_a_log : (rs : List Record) (sent : List Frame) (site : ℕ) (new : Record) (now : List Frame) → AreInPlace rs → Fits (world_of rs) sent → site < length rs → Way (world_of rs site) sent new now
    → HasLog (world_of rs) → HasLog (world_of (slice_set rs site new))
way_keeps_a_log rs sent site new now places fits below (stays same same_sent) h = same_log rs site new same h
way_keeps_a_log rs sent site new now places fits below (goes_on input was after same_sent) h = step_keeps_a_log rs sent site input after.0 new fits below (places site below).engagement was after.1 h
way_keeps_a_log rs sent site new now places fits below (tells frame among same more) h = same_log rs site new same h

run_keeps_a_log : (old new : WorldState) (events : List WorldEvent) (answers : List Answer) → WorldFits old → Runs old events answers new → HasLog (world_of (records old)) → HasLog (world_of (records new))
run_keeps_a_log = run_keeps_it (λ rs sent. HasLog (world_of rs)) way_keeps_a_log

nothing_told : (rs : List Record) → AreOneWorld rs → AreFresh rs → HasLog (world_of rs)
nothing_told rs one new =
    let W = world_of rs in
    let empty = each_is_empty one.0.sites rs (fresh_at rs one new) in (
      [],
      record {
        of_row = λ s n x e. absurd (no_row W empty s n x e);
        of_seen = λ t m q e. absurd (none_seen W empty t m q e);
        waits_or_seen = λ m x h. absurd (contains_none (m, x) h);
        reason = λ m x h. absurd (contains_none (m, x) h);
        told = λ s r i t h _. absurd (no_item W empty s r i h);
        one_row = λ m x y h _. absurd (contains_none (m, x) h);
        one_message = λ m p x h _ _. absurd (contains_none (m, x) h);
      },
    )

-- What a log says of one recall: each message with its shipment.

abbrev shipment_of : Message → Row → Shipment
shipment_of m x = record { from = m.site; item = x.item; to = x.dest }

abbrev told_of : Recall → List (Message × Row) → List (Message × Shipment)
told_of r [] = []
told_of r ((m, x) ∷ log) = cond (same_recall x.recall r) ((m, shipment_of m x) ∷ told_of r log) (told_of r log)

told_among : (r : Recall) (log : List (Message × Row)) (m : Message) (x : Row) → Contains log (m, x) → x.recall ≡ r → Contains (told_of r log) (m, shipment_of m x)
told_among r [] m x h is = absurd (contains_none (m, x) h)
told_among r ((p, y) ∷ log) m x h is =
    let here : List (Message × Shipment) = (p, shipment_of p y) ∷ told_of r log in
    elim (contains_cases (p, y) (m, x) log h) as (λ _. Contains (told_of r ((p, y) ∷ log)) (m, shipment_of m x)) [
      | inl e ↦
          let mine : same_recall y.recall r ≡ true = equal_recalls y.recall r (ap (λ z. z.1.recall) e ∙ is) in
          subst (λ b. Contains (cond b here (told_of r log)) (m, shipment_of m x)) (sym mine)
          (subst (λ z. Contains here (z.0, shipment_of z.0 z.1)) e (contains_here (p, shipment_of p y) (told_of r log)))
      | inr later ↦
          let rest = told_among r log m x later is in
          elim (same_recall y.recall r) as (λ b. Contains (cond b here (told_of r log)) (m, shipment_of m x)) [
            | true ↦ contains_there (p, shipment_of p y) (m, shipment_of m x) (told_of r log) rest
            | false ↦ rest
          ]
    ]

-- a pair comes from a message of the log
record ComesFromLog (r : Recall) (log : List (Message × Row)) (m : Message) (h : Shipment) : Type 0 where
  row : Row
  there : Contains log (m, row)
  recall : row.recall ≡ r
  shipment : shipment_of m row ≡ h

told_from : (r : Recall) (log : List (Message × Row)) (m : Message) (h : Shipment) → Contains (told_of r log) (m, h) → ComesFromLog r log m h
told_from r [] m h at = absurd (contains_none (m, h) at)
told_from r ((p, y) ∷ log) m h at =
    let there : Contains (told_of r log) (m, h) → ComesFromLog r ((p, y) ∷ log) m h =
    λ among. let rest = told_from r log m h among in record { row = rest.row; there = contains_there (p, y) (m, rest.row) log rest.there; recall = rest.recall; shipment = rest.shipment } in
    elim (same_recall y.recall r) as (λ b. same_recall y.recall r ≡ b → Contains (cond b ((p, shipment_of p y) ∷ told_of r log) (told_of r log)) (m, h) → ComesFromLog r ((p, y) ∷ log) m h) [
      | true ↦ λ mine among. elim (contains_cases (p, shipment_of p y) (m, h) (told_of r log) among) as (λ _. ComesFromLog r ((p, y) ∷ log) m h) [
        | inl e ↦
            let sender : p ≡ m = ap (λ z. z.0) e in
            record {
              row = y;
              there = subst (λ z. Contains ((p, y) ∷ log) (z, y)) sender (contains_here (p, y) log);
              recall = one_recall y.recall r mine;
              shipment = ap (λ z. shipment_of z y) (sym sender) ∙ ap (λ z. z.1) e;
            }
        | inr later ↦ there later
      ]
      | false ↦ λ _ among. there among
    ] refl at

same_row : (r : Recall) (x y : Row) → x.recall ≡ r → y.recall ≡ r → x.item ≡ y.item → x.dest ≡ y.dest → x ≡ y
same_row r x y p q item dest = λ i. record { dest = dest i; recall = (p ∙ sym q) i; item = item i }

counted : (W : World) (r : Recall) (log : List (Message × Row)) → IsLog W log → AreAsMany (IsMessageOf W r) (LeavesQuarantine W r)
counted W r log g = record {
  pairs = told_of r log;
  of_both = λ m h at.
      let from = told_from r log m h at in
      let why = g.reason m from.row from.there in (
        elim (g.waits_or_seen m from.row from.there) as (λ _. IsMessageOf W r m) [
          | inl stands ↦ inl (from.row, stands, from.recall)
          | inr saw ↦ inr (from.row.dest, saw ∙ ap Some from.recall)
        ],
        subst (LeavesQuarantine W r) from.shipment (subst (λ q. LeavesQuarantine W q (shipment_of m from.row)) from.recall why),
      );
  each_of_these = λ m h. elim h as (λ _. (b : Shipment) × Contains (told_of r log) (m, b)) [
    | inl waits ↦ (shipment_of m waits.0, told_among r log m waits.0 (g.of_row m.site m.number waits.0 waits.1) waits.2)
    | inr saw ↦ let at = g.of_seen saw.0 m r saw.1 in (shipment_of m at.0, told_among r log m at.0 at.1 at.2)
  ];
  each_of_those = λ h leaves.
      let at = g.told h.from r h.item h.to leaves.0 leaves.1 in
      (record { site = h.from; number = at.0 }, told_among r log (record { site = h.from; number = at.0 }) (record { dest = h.to; recall = r; item = h.item }) at.1 refl);
  one_of_those = λ m h k a b.
      let x = told_from r log m h a in
      let y = told_from r log m k b in
      sym x.shipment ∙ ap (shipment_of m) (g.one_row m x.row y.row x.there y.there) ∙ y.shipment;
  one_of_these = λ m p h a b.
      let x = told_from r log m h a in
      let y = told_from r log p h b in
      let same = x.shipment ∙ sym y.shipment in
      let row = same_row r x.row y.row x.recall y.recall (ap (λ z. z.item) same) (ap (λ z. z.to) same) in
      g.one_message m p y.row (subst (λ z. Contains log (m, z)) row x.there) y.there (ap (λ z. z.from) same);
}

pub messages_are_counted : MessagesAreCounted
messages_are_counted old new events answers one fresh none run recall =
    let h = run_keeps_a_log old new events answers (fresh_sites_fit old one fresh none) run (nothing_told (records old) one fresh) in
    counted (world_of (records new)) recall h.0 h.1
