-- What the rule comes to.
use Rattle.std.proofs.Common.{◌≡◌, ◌≢◌, ◌↔◌, ℕ, ◌+◌, ◌<◌, List, [], ◌∷◌, ◌++◌, length, Contains, Some, Option as Maybe, sym, refl, ap, ◌∙◌, subst, arith}
use Rattle.std.proofs.lemmas.List.{length_push}
use mathlib.Core.Option.{Option, some, some-injective}
use lib.ListN.{get_elem?}
use Rattle.frame_core.specs.declared.frames.Frame.{Frame}
use Rattle.site_core.specs.Records.{Record}
use Rattle.world_core.specs.Turns.{addressee}
use Rattle.wire_core.specs.declared.views.Log.{Log}
use Rattle.wire_core.specs.Between.{IsKnown, StandsInOneSeat, ShowsTheWay, WasSentBy, HoldsBetween}
use Rattle.wire_core.specs.Laws.{RuleHoldsBetween}
use Rattle.wire_core.specs.Mailboxes.{Phase, empty, writing, full, reading, number, home, Between}
use Rattle.wire_core.specs.Rule.{Ruled, last_records, frames}
use Rattle.wire_core.proofs.Boxes.{Table}
use Rattle.wire_core.proofs.Closing.{numbered}
use Rattle.wire_core.proofs.Lists.{there, within, one_there, at_Contains, from_flat}
use Rattle.wire_core.proofs.Running.{run_fits, run_stands, up_fits}

-- what a word and a slot say of the frames that went through the mailbox
abbrev Says : Option ℕ → Option (Option (Maybe Frame)) → List Frame → List Frame → Type 0
Says word slot sent noted =
    ((word ≡ some 2) ↔ (length sent ≡ length noted + 1)) × (word ≢ some 2 → sent ≡ noted) × (word ≡ some 2 → (f : Frame) × (slot ≡ some (some (Some f))) × (sent ≡ noted ++ f ∷ []))

-- where all was noted, and the word isn't FULL
level_says : (n : ℕ) (word : Option ℕ) (slot : Option (Option (Maybe Frame))) (sent noted : List Frame) → n ≢ 2 → word ≡ some n → sent ≡ noted → Says word slot sent noted
level_says n word slot sent noted other w same = (
  ((λ e. absurd (other (some-injective n 2 (sym w ∙ e)))), (λ more. let l = ap length same in absurd (omega arith))),
  (λ _. same),
  (λ e. absurd (other (some-injective n 2 (sym w ∙ e)))),
)

by_phase : (p : Phase) (word : Option ℕ) (slot : Option (Option (Maybe Frame))) (sent noted : List Frame) → word ≡ some (number p) → slot ≡ some (home p) → Between p sent noted → Says word slot sent noted
by_phase empty word slot sent noted w h b = level_says 0 word slot sent noted (λ e. omega arith) w b
by_phase writing word slot sent noted w h b = level_says 1 word slot sent noted (λ e. omega arith) w b
by_phase (full f) word slot sent noted w h b = (((λ _. ap length b ∙ length_push noted f), (λ _. w)), (λ n. absurd (n w)), (λ _. (f, h, b)))
by_phase reading word slot sent noted w h b = level_says 3 word slot sent noted (λ e. omega arith) w b.0

module _ (rs : List Record) (s : Table) (h : Ruled rs s) where
  place : (e : Log) → IsKnown s.views e → get_elem? h.0 e.site ≡ some e
  place e k = ((h.4.known k.0 k.1 k.2 e).0 k.3).1

  pub known : (i : ℕ) (e : Log) → get_elem? h.0 i ≡ some e → IsKnown s.views e
  known i e at =
      let own = h.4.own i e at in
      let here : get_elem? h.0 e.site ≡ some e = ap (get_elem? h.0) own ∙ at in
      let v = there s.views (h.1 e.site) (h.4.seated e.site (within h.0 e.site e here)) in
      (h.1 e.site, v.0, v.1, (h.4.known (h.1 e.site) v.0 v.1 e).1 refl here)

  seats : (i : ℕ) → i < length rs → StandsInOneSeat s.views i
  unfolding known
  seats i small =
      let e = there h.0 i (subst (λ k. i < k) (sym h.2) small) in
      let k = known i e.0 e.1 in
      let own = h.4.own i e.0 e.1 in record {
        id = k.0;
        view = k.1;
        log = e.0;
        there = k.2;
        held = k.3;
        own = own;
        only = λ j v x at c same.
            let o = (h.4.known j v at x).0 c in
            (sym o.0 ∙ ap h.1 (same ∙ sym own), one_there h.0 i x e.0 (ap (get_elem? h.0) (sym same) ∙ o.1) e.1);
      }

  mailboxes : (a b : Log) → IsKnown s.views a → IsKnown s.views b → a.site ≢ b.site → ShowsTheWay s.words s.homes a b
  mailboxes a b ka kb apart =
      let box = h.5.mailbox a.site b.site a b (place a ka) (place b kb) apart in
      let said = by_phase box.phase _ _ _ _ box.word_is box.slot_is box.frames in record { full = said.0; level = said.1; frame = said.2 }

  noted : (e : Log) (f : Frame) → IsKnown s.views e → Contains e.noted f → (addressee f ≡ e.site) × WasSentBy s.views f
  noted e f k c =
      let o = h.5.noted e.site e f (place e k) c in
      let p = from_flat (λ (x : Log). x.sent) h.0 f o.1 in
      (o.0, (p.1, known p.0 p.1 p.2, p.3))

  holds : HoldsBetween rs s
  holds = record {
    seats = seats;
    progress = λ e k. h.5.progress e.site e (place e k);
    stands = λ e k. run_stands rs h.0 h.5.run e.site e (place e k);
    mailboxes = mailboxes;
    noted = noted;
    world = (
      h.0,
      numbered 0 (length rs) h.0 h.2 (λ k e at. h.4.own k e at ∙ (let z : k ≡ 0 + k = omega arith in z)),
      (λ e c. let p = at_Contains h.0 e c in known p.0 e p.1),
      h.5.run,
      up_fits (last_records h.0) (frames h.0) (run_fits rs h.0 h.5.run),
    );
  }

pub rule_holds_between : RuleHoldsBetween
rule_holds_between start s h = holds start s h
